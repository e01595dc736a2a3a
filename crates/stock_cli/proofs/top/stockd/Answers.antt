-- Each command does what the words ask for, which is nothing else, and no end has the status of other words.
use Rattle.std.proofs.Common.{ℕ, List, map, inl, inr, refl, subst, sym, ◌∙◌, string_bytes, arith}
use Rattle.stock_io.specs.Listeners.{IsFresh}
use Rattle.stock_keeper.specs.Keeping.{AsksAt, AsksAtMost}
use Rattle.repost_worker.specs.Paces.{first_pace}
use Rattle.stock_io.specs.Heard.{heard}
use Rattle.desk_service.specs.Service.{AreServedBy}
use Rattle.stock_words.specs.ServeWords.{Service}
use Rattle.stock_words.specs.Words.{Spells, IsFaultOf}
use Rattle.stock_words.proofs.ServeWords.{one_service}
use Rattle.stock_words.proofs.Forms.{batch_begins, over_begins, import_begins, audit_begins, load_begins, serve_begins, load_once, one_path, one_import_path, one_audit_path}
use Rattle.stock_ends.specs.Statuses.{TellsEnd}
use Rattle.stock_ends.specs.declared.end.End.{End}
use Rattle.stock_ends.specs.declared.end.End.TheVariants.{NoMemory}
use Rattle.stock_ends.proofs.Told.{status_not_2}
use Rattle.stock_batch.proofs.Ends.{Ran-no_memory}
use Rattle.stock_audit.proofs.AuditEnds.{audit-complete, audit-no_memory}
use Rattle.stock_import.proofs.ImportEnds.{IsFaultless, import-faultless, import-no_memory, told-faultless}
use Rattle.stock_load.specs.Loads.{IsLoaded}
use Rattle.stock_load.proofs.LoadEnds.{loaded-told, loaded-complete}
use Rattle.stock_serving.specs.Serving.{ServesOverShelf, ListensTo}
use Rattle.stock_cli.proofs.top.stockd.Goals as goal

-- the one word `batch`

pub returns-in-Ok-Batch-clause-words : goal.returns-in-Ok-Batch-clause-words
returns-in-Ok-Batch-clause-words g c =
    let words = map string_bytes c.args.words.now in
    let spells = subst (Spells words) c.in-Ok-Batch.field-0-is c.in-Ok-Batch.ensures.asked in
    let told = c.tell-status.ensures.told in (
      (λ two. absurd (status_not_2 told.told (sym told.status_is ∙ two))),
      (λ none. absurd (none.0 spells)),
    )

pub returns-in-Ok-Batch-clause-load : goal.returns-in-Ok-Batch-clause-load
returns-in-Ok-Batch-clause-load g c n load =
    let words = map string_bytes c.args.words.now in
    let spells = subst (Spells words) c.in-Ok-Batch.field-0-is c.in-Ok-Batch.ensures.asked in
    absurd (omega (arith, load_begins words n load, batch_begins words spells))

pub returns-in-Ok-Batch-clause-load_takes_nothing : goal.returns-in-Ok-Batch-clause-load_takes_nothing
returns-in-Ok-Batch-clause-load_takes_nothing g c n load =
    let words = map string_bytes c.args.words.now in
    let spells = subst (Spells words) c.in-Ok-Batch.field-0-is c.in-Ok-Batch.ensures.asked in
    absurd (omega (arith, load_begins words n load, batch_begins words spells))

pub returns-in-Ok-Batch-clause-load_opens_nothing : goal.returns-in-Ok-Batch-clause-load_opens_nothing
returns-in-Ok-Batch-clause-load_opens_nothing g c n load =
    let words = map string_bytes c.args.words.now in
    let spells = subst (Spells words) c.in-Ok-Batch.field-0-is c.in-Ok-Batch.ensures.asked in
    absurd (omega (arith, load_begins words n load, batch_begins words spells))

pub returns-in-Ok-Batch-clause-complete_load : goal.returns-in-Ok-Batch-clause-complete_load
returns-in-Ok-Batch-clause-complete_load g c n load none =
    let words = map string_bytes c.args.words.now in
    let spells = subst (Spells words) c.in-Ok-Batch.field-0-is c.in-Ok-Batch.ensures.asked in
    absurd (omega (arith, load_begins words n load, batch_begins words spells))

pub returns-in-Ok-Batch-clause-serve : goal.returns-in-Ok-Batch-clause-serve
returns-in-Ok-Batch-clause-serve g c service serve =
    let words = map string_bytes c.args.words.now in
    let spells = subst (Spells words) c.in-Ok-Batch.field-0-is c.in-Ok-Batch.ensures.asked in
    absurd (omega (arith, serve_begins words service serve, batch_begins words spells))

pub returns-in-Ok-Batch-clause-serve_takes_nothing : goal.returns-in-Ok-Batch-clause-serve_takes_nothing
returns-in-Ok-Batch-clause-serve_takes_nothing g c service serve =
    let words = map string_bytes c.args.words.now in
    let spells = subst (Spells words) c.in-Ok-Batch.field-0-is c.in-Ok-Batch.ensures.asked in
    absurd (omega (arith, serve_begins words service serve, batch_begins words spells))

pub returns-in-Ok-Batch-clause-complete_serve : goal.returns-in-Ok-Batch-clause-complete_serve
returns-in-Ok-Batch-clause-complete_serve g c service serve shelf kept listener output =
    let words = map string_bytes c.args.words.now in
    let spells = subst (Spells words) c.in-Ok-Batch.field-0-is c.in-Ok-Batch.ensures.asked in
    absurd (omega (arith, serve_begins words service serve, batch_begins words spells))

pub returns-in-Ok-Batch-clause-run : goal.returns-in-Ok-Batch-clause-run
returns-in-Ok-Batch-clause-run g c batch = (c.run-end.result, c.tell-status.ensures.told, c.run-end.ensures.0, c.run-end.ensures.1)

-- `batch` over a file

pub returns-in-Ok-BatchOver-clause-words : goal.returns-in-Ok-BatchOver-clause-words
returns-in-Ok-BatchOver-clause-words g c =
    let words = map string_bytes c.args.words.now in
    let spells = subst (Spells words) c.in-Ok-BatchOver.field-0-is c.in-Ok-BatchOver.ensures.asked in
    let told = c.tell-status-in-Ok-BatchOver.ensures.told in (
      (λ two. absurd (status_not_2 told.told (sym told.status_is ∙ two))),
      (λ none. absurd (none.1 _ spells)),
    )

pub returns-in-Ok-BatchOver-clause-load : goal.returns-in-Ok-BatchOver-clause-load
returns-in-Ok-BatchOver-clause-load g c n load =
    let words = map string_bytes c.args.words.now in
    let spells = subst (Spells words) c.in-Ok-BatchOver.field-0-is c.in-Ok-BatchOver.ensures.asked in
    absurd (omega (arith, load_begins words n load, over_begins words _ spells))

pub returns-in-Ok-BatchOver-clause-load_takes_nothing : goal.returns-in-Ok-BatchOver-clause-load_takes_nothing
returns-in-Ok-BatchOver-clause-load_takes_nothing g c n load =
    let words = map string_bytes c.args.words.now in
    let spells = subst (Spells words) c.in-Ok-BatchOver.field-0-is c.in-Ok-BatchOver.ensures.asked in
    absurd (omega (arith, load_begins words n load, over_begins words _ spells))

pub returns-in-Ok-BatchOver-clause-load_opens_nothing : goal.returns-in-Ok-BatchOver-clause-load_opens_nothing
returns-in-Ok-BatchOver-clause-load_opens_nothing g c n load =
    let words = map string_bytes c.args.words.now in
    let spells = subst (Spells words) c.in-Ok-BatchOver.field-0-is c.in-Ok-BatchOver.ensures.asked in
    absurd (omega (arith, load_begins words n load, over_begins words _ spells))

pub returns-in-Ok-BatchOver-clause-complete_load : goal.returns-in-Ok-BatchOver-clause-complete_load
returns-in-Ok-BatchOver-clause-complete_load g c n load none =
    let words = map string_bytes c.args.words.now in
    let spells = subst (Spells words) c.in-Ok-BatchOver.field-0-is c.in-Ok-BatchOver.ensures.asked in
    absurd (omega (arith, load_begins words n load, over_begins words _ spells))

pub returns-in-Ok-BatchOver-clause-serve : goal.returns-in-Ok-BatchOver-clause-serve
returns-in-Ok-BatchOver-clause-serve g c service serve =
    let words = map string_bytes c.args.words.now in
    let spells = subst (Spells words) c.in-Ok-BatchOver.field-0-is c.in-Ok-BatchOver.ensures.asked in
    absurd (omega (arith, serve_begins words service serve, over_begins words _ spells))

pub returns-in-Ok-BatchOver-clause-serve_takes_nothing : goal.returns-in-Ok-BatchOver-clause-serve_takes_nothing
returns-in-Ok-BatchOver-clause-serve_takes_nothing g c service serve =
    let words = map string_bytes c.args.words.now in
    let spells = subst (Spells words) c.in-Ok-BatchOver.field-0-is c.in-Ok-BatchOver.ensures.asked in
    absurd (omega (arith, serve_begins words service serve, over_begins words _ spells))

pub returns-in-Ok-BatchOver-clause-complete_serve : goal.returns-in-Ok-BatchOver-clause-complete_serve
returns-in-Ok-BatchOver-clause-complete_serve g c service serve shelf kept listener output =
    let words = map string_bytes c.args.words.now in
    let spells = subst (Spells words) c.in-Ok-BatchOver.field-0-is c.in-Ok-BatchOver.ensures.asked in
    absurd (omega (arith, serve_begins words service serve, over_begins words _ spells))

-- `load`

pub returns-in-Ok-Load-clause-words : goal.returns-in-Ok-Load-clause-words
returns-in-Ok-Load-clause-words g c =
    let words = map string_bytes c.args.words.now in
    let spells = subst (Spells words) c.in-Ok-Load.field-0-is c.in-Ok-Load.ensures.asked in
    let told = c.tell-status-in-Ok-Load.ensures.told in (
      (λ two. absurd (status_not_2 told.told (sym told.status_is ∙ two))),
      (λ none. absurd (none.4 _ spells)),
    )

pub returns-in-Ok-Load-clause-nothing_taken : goal.returns-in-Ok-Load-clause-nothing_taken
returns-in-Ok-Load-clause-nothing_taken g c two =
    refl

pub returns-in-Ok-Load-clause-nothing_written : goal.returns-in-Ok-Load-clause-nothing_written
returns-in-Ok-Load-clause-nothing_written g c two =
    let told = c.tell-status-in-Ok-Load.ensures.told in
    absurd (status_not_2 told.told (sym told.status_is ∙ two))

pub returns-in-Ok-Load-clause-nothing_opened : goal.returns-in-Ok-Load-clause-nothing_opened
returns-in-Ok-Load-clause-nothing_opened g c neither =
    refl

pub returns-in-Ok-Load-clause-usage : goal.returns-in-Ok-Load-clause-usage
returns-in-Ok-Load-clause-usage g c two =
    let told = c.tell-status-in-Ok-Load.ensures.told in
    absurd (status_not_2 told.told (sym told.status_is ∙ two))

pub returns-in-Ok-Load-clause-run : goal.returns-in-Ok-Load-clause-run
returns-in-Ok-Load-clause-run g c batch =
    let words = map string_bytes c.args.words.now in
    let spells = subst (Spells words) c.in-Ok-Load.field-0-is c.in-Ok-Load.ensures.asked in
    absurd (omega (arith, batch_begins words batch, load_begins words _ spells))

pub returns-in-Ok-Load-clause-over : goal.returns-in-Ok-Load-clause-over
returns-in-Ok-Load-clause-over g c path over =
    let words = map string_bytes c.args.words.now in
    let spells = subst (Spells words) c.in-Ok-Load.field-0-is c.in-Ok-Load.ensures.asked in
    absurd (omega (arith, over_begins words path over, load_begins words _ spells))

pub returns-in-Ok-Load-clause-load : goal.returns-in-Ok-Load-clause-load
returns-in-Ok-Load-clause-load g c n load =
    let words = map string_bytes c.args.words.now in
    let spells = subst (Spells words) c.in-Ok-Load.field-0-is c.in-Ok-Load.ensures.asked in (
      c.load-end.result,
      c.tell-status-in-Ok-Load.ensures.told,
      subst (λ (m : ℕ). IsLoaded g.O.Sink.written g.O.Sink.faults c.args.output.now c.load-end.new.output m c.load-end.result)
          (load_once words _ n spells load) c.load-end.ensures.loaded,
    )

pub returns-in-Ok-Load-clause-load_takes_nothing : goal.returns-in-Ok-Load-clause-load_takes_nothing
returns-in-Ok-Load-clause-load_takes_nothing g c n load =
    refl

pub returns-in-Ok-Load-clause-load_opens_nothing : goal.returns-in-Ok-Load-clause-load_opens_nothing
returns-in-Ok-Load-clause-load_opens_nothing g c n load =
    refl

pub returns-in-Ok-Load-clause-serve : goal.returns-in-Ok-Load-clause-serve
returns-in-Ok-Load-clause-serve g c service serve =
    let words = map string_bytes c.args.words.now in
    let spells = subst (Spells words) c.in-Ok-Load.field-0-is c.in-Ok-Load.ensures.asked in
    absurd (omega (arith, serve_begins words service serve, load_begins words _ spells))

pub returns-in-Ok-Load-clause-serve_takes_nothing : goal.returns-in-Ok-Load-clause-serve_takes_nothing
returns-in-Ok-Load-clause-serve_takes_nothing g c service serve =
    let words = map string_bytes c.args.words.now in
    let spells = subst (Spells words) c.in-Ok-Load.field-0-is c.in-Ok-Load.ensures.asked in
    absurd (omega (arith, serve_begins words service serve, load_begins words _ spells))

pub returns-in-Ok-Load-clause-complete_serve : goal.returns-in-Ok-Load-clause-complete_serve
returns-in-Ok-Load-clause-complete_serve g c service serve shelf kept listener output =
    let words = map string_bytes c.args.words.now in
    let spells = subst (Spells words) c.in-Ok-Load.field-0-is c.in-Ok-Load.ensures.asked in
    absurd (omega (arith, serve_begins words service serve, load_begins words _ spells))

pub returns-in-Ok-Load-clause-complete : goal.returns-in-Ok-Load-clause-complete
returns-in-Ok-Load-clause-complete g c batch source output few =
    let words = map string_bytes c.args.words.now in
    let spells = subst (Spells words) c.in-Ok-Load.field-0-is c.in-Ok-Load.ensures.asked in
    absurd (omega (arith, batch_begins words batch, load_begins words _ spells))

pub returns-in-Ok-Load-clause-complete_over : goal.returns-in-Ok-Load-clause-complete_over
returns-in-Ok-Load-clause-complete_over g c path over source output shelf kept few =
    let words = map string_bytes c.args.words.now in
    let spells = subst (Spells words) c.in-Ok-Load.field-0-is c.in-Ok-Load.ensures.asked in
    absurd (omega (arith, over_begins words path over, load_begins words _ spells))

pub returns-in-Ok-Load-clause-complete_load : goal.returns-in-Ok-Load-clause-complete_load
returns-in-Ok-Load-clause-complete_load g c n load none =
    let told = c.tell-status-in-Ok-Load.ensures.told in
    let loaded = loaded-told g.O.Sink.written g.O.Sink.faults c.args.output.now c.load-end.new.output _ c.load-end.result told.told told.told_as
    c.load-end.ensures.loaded in
    elim (loaded-complete g.O.Sink.written g.O.Sink.faults c.args.output.now c.load-end.new.output _ told.told loaded none) [
      | inl done ↦ inl (told.status_is ∙ done)
      | inr memory ↦ inr (told.status_is ∙ memory)
    ]

pub returns-in-Ok-Load-clause-noted : goal.returns-in-Ok-Load-clause-noted
returns-in-Ok-Load-clause-noted g c known =
    let told = c.tell-status-in-Ok-Load.ensures.told in
    (told.told, told.status_is, told.noted)

pub returns-in-Ok-Load-clause-silent : goal.returns-in-Ok-Load-clause-silent
returns-in-Ok-Load-clause-silent g c =
    c.tell-status-in-Ok-Load.ensures.silent

pub returns-in-Ok-Load-clause-notes_never_fall : goal.returns-in-Ok-Load-clause-notes_never_fall
returns-in-Ok-Load-clause-notes_never_fall g c =
    c.tell-status-in-Ok-Load.ensures.never_falls

-- `serve`

pub returns-in-Ok-Serve-clause-words : goal.returns-in-Ok-Serve-clause-words
returns-in-Ok-Serve-clause-words g c =
    let words = map string_bytes c.args.words.now in
    let spells = subst (Spells words) c.in-Ok-Serve.field-0-is c.in-Ok-Serve.ensures.asked in
    ((λ two. absurd (c.serve_asked.ensures.served two)), (λ none. absurd (none.5 _ spells)))

pub returns-in-Ok-Serve-clause-nothing_written : goal.returns-in-Ok-Serve-clause-nothing_written
returns-in-Ok-Serve-clause-nothing_written g c two =
    absurd (c.serve_asked.ensures.served two)

pub returns-in-Ok-Serve-clause-nothing_opened : goal.returns-in-Ok-Serve-clause-nothing_opened
returns-in-Ok-Serve-clause-nothing_opened g c (inl two) = absurd (c.serve_asked.ensures.served two)
returns-in-Ok-Serve-clause-nothing_opened g c (inr batch) =
    let words = map string_bytes c.args.words.now in
    let spells = subst (Spells words) c.in-Ok-Serve.field-0-is c.in-Ok-Serve.ensures.asked in
    absurd (omega (arith, batch_begins words batch, serve_begins words _ spells))

pub returns-in-Ok-Serve-clause-usage : goal.returns-in-Ok-Serve-clause-usage
returns-in-Ok-Serve-clause-usage g c two =
    absurd (c.serve_asked.ensures.served two)

pub returns-in-Ok-Serve-clause-run : goal.returns-in-Ok-Serve-clause-run
returns-in-Ok-Serve-clause-run g c batch =
    let words = map string_bytes c.args.words.now in
    let spells = subst (Spells words) c.in-Ok-Serve.field-0-is c.in-Ok-Serve.ensures.asked in
    absurd (omega (arith, batch_begins words batch, serve_begins words _ spells))

pub returns-in-Ok-Serve-clause-over : goal.returns-in-Ok-Serve-clause-over
returns-in-Ok-Serve-clause-over g c path over =
    let words = map string_bytes c.args.words.now in
    let spells = subst (Spells words) c.in-Ok-Serve.field-0-is c.in-Ok-Serve.ensures.asked in
    absurd (omega (arith, over_begins words path over, serve_begins words _ spells))

pub returns-in-Ok-Serve-clause-load : goal.returns-in-Ok-Serve-clause-load
returns-in-Ok-Serve-clause-load g c n load =
    let words = map string_bytes c.args.words.now in
    let spells = subst (Spells words) c.in-Ok-Serve.field-0-is c.in-Ok-Serve.ensures.asked in
    absurd (omega (arith, load_begins words n load, serve_begins words _ spells))

pub returns-in-Ok-Serve-clause-load_opens_nothing : goal.returns-in-Ok-Serve-clause-load_opens_nothing
returns-in-Ok-Serve-clause-load_opens_nothing g c n load =
    let words = map string_bytes c.args.words.now in
    let spells = subst (Spells words) c.in-Ok-Serve.field-0-is c.in-Ok-Serve.ensures.asked in
    absurd (omega (arith, load_begins words n load, serve_begins words _ spells))

pub returns-in-Ok-Serve-clause-complete_load : goal.returns-in-Ok-Serve-clause-complete_load
returns-in-Ok-Serve-clause-complete_load g c n load none =
    let words = map string_bytes c.args.words.now in
    let spells = subst (Spells words) c.in-Ok-Serve.field-0-is c.in-Ok-Serve.ensures.asked in
    absurd (omega (arith, load_begins words n load, serve_begins words _ spells))

pub returns-in-Ok-Serve-clause-serve : goal.returns-in-Ok-Serve-clause-serve
returns-in-Ok-Serve-clause-serve g c service serve =
    let words = map string_bytes c.args.words.now in
    let spells = subst (Spells words) c.in-Ok-Serve.field-0-is c.in-Ok-Serve.ensures.asked in
    let same = one_service words _ service spells serve in
    subst (λ (of : Service). (end : End)
    × TellsEnd g.N.Sink.written g.N.Sink.faults c.args.notes.now c.serve_asked.new.notes c.serve_asked.result.status end
    × ServesOverShelf g.H.Kept.Keeper.tells g.H.Shelf.tells g.H.Shelf.plan g.H.Shelf.faults g.H.Shelf.kept_faults
    (heard g.L.Listener.waiting g.L.Listener.hung_up g.L.Listener.accepts g.L.Listener.hang_ups g.L.Listener.faults)
    g.O.Sink.written g.O.Sink.faults
    (AreServedBy g.P.Source.left g.P.Source.taken g.P.Sink.written g.P.Source.faults g.P.Link.ended)
    (IsFresh g.P.Source.taken g.P.Sink.written g.P.Source.faults g.P.Link.ended) of.desks of.connections
    c.args.shelf.now c.serve_asked.new.shelf c.args.listener c.serve_asked.result.listener c.args.output.now c.serve_asked.new.output end) same
    c.serve_asked.ensures.serves

pub returns-in-Ok-Serve-clause-nothing_heard : goal.returns-in-Ok-Serve-clause-nothing_heard
returns-in-Ok-Serve-clause-nothing_heard g c none =
    let words = map string_bytes c.args.words.now in
    let spells = subst (Spells words) c.in-Ok-Serve.field-0-is c.in-Ok-Serve.ensures.asked in
    absurd (none _ spells)

pub returns-in-Ok-Serve-clause-complete : goal.returns-in-Ok-Serve-clause-complete
returns-in-Ok-Serve-clause-complete g c batch source output few =
    let words = map string_bytes c.args.words.now in
    let spells = subst (Spells words) c.in-Ok-Serve.field-0-is c.in-Ok-Serve.ensures.asked in
    absurd (omega (arith, batch_begins words batch, serve_begins words _ spells))

pub returns-in-Ok-Serve-clause-complete_over : goal.returns-in-Ok-Serve-clause-complete_over
returns-in-Ok-Serve-clause-complete_over g c path over source output shelf kept few =
    let words = map string_bytes c.args.words.now in
    let spells = subst (Spells words) c.in-Ok-Serve.field-0-is c.in-Ok-Serve.ensures.asked in
    absurd (omega (arith, over_begins words path over, serve_begins words _ spells))

pub returns-in-Ok-Serve-clause-complete_serve : goal.returns-in-Ok-Serve-clause-complete_serve
returns-in-Ok-Serve-clause-complete_serve g c service serve shelf kept listener output =
    c.serve_asked.ensures.complete shelf kept listener output

pub returns-in-Ok-Serve-clause-noted : goal.returns-in-Ok-Serve-clause-noted
returns-in-Ok-Serve-clause-noted g c some =
    let tells = c.serve_asked.ensures.serves.1 in
    (tells.told, tells.status_is, tells.noted)

-- other words

pub returns-in-Err-Unknown-clause-words : goal.returns-in-Err-Unknown-clause-words
returns-in-Err-Unknown-clause-words g c =
    let words = map string_bytes c.args.words.now in
    let nothing = subst (IsFaultOf words) c.in-Err-Unknown.field-0-is c.in-Err-Unknown.ensures.fault in
    ((λ two. (nothing.0, nothing.1, nothing.2, nothing.3, nothing.4, nothing.5)), (λ none. c.other_words-status.ensures.status))

pub returns-in-Err-Unknown-clause-usage : goal.returns-in-Err-Unknown-clause-usage
returns-in-Err-Unknown-clause-usage g c two =
    c.other_words-status.ensures.noted

pub returns-in-Err-Unknown-clause-run : goal.returns-in-Err-Unknown-clause-run
returns-in-Err-Unknown-clause-run g c batch =
    let words = map string_bytes c.args.words.now in
    let nothing = subst (IsFaultOf words) c.in-Err-Unknown.field-0-is c.in-Err-Unknown.ensures.fault in
    absurd (nothing.0 batch)

pub returns-in-Err-Unknown-clause-over : goal.returns-in-Err-Unknown-clause-over
returns-in-Err-Unknown-clause-over g c path over =
    let words = map string_bytes c.args.words.now in
    let nothing = subst (IsFaultOf words) c.in-Err-Unknown.field-0-is c.in-Err-Unknown.ensures.fault in
    absurd (nothing.1 path over)

pub returns-in-Err-Unknown-clause-complete_over : goal.returns-in-Err-Unknown-clause-complete_over
returns-in-Err-Unknown-clause-complete_over g c path over source output shelf kept few =
    let words = map string_bytes c.args.words.now in
    let nothing = subst (IsFaultOf words) c.in-Err-Unknown.field-0-is c.in-Err-Unknown.ensures.fault in
    absurd (nothing.1 path over)

pub returns-in-Err-Unknown-clause-load : goal.returns-in-Err-Unknown-clause-load
returns-in-Err-Unknown-clause-load g c n load =
    let words = map string_bytes c.args.words.now in
    let nothing = subst (IsFaultOf words) c.in-Err-Unknown.field-0-is c.in-Err-Unknown.ensures.fault in
    absurd (nothing.4 n load)

pub returns-in-Err-Unknown-clause-complete_load : goal.returns-in-Err-Unknown-clause-complete_load
returns-in-Err-Unknown-clause-complete_load g c n load none =
    let words = map string_bytes c.args.words.now in
    let nothing = subst (IsFaultOf words) c.in-Err-Unknown.field-0-is c.in-Err-Unknown.ensures.fault in
    absurd (nothing.4 n load)

pub returns-in-Err-Unknown-clause-serve : goal.returns-in-Err-Unknown-clause-serve
returns-in-Err-Unknown-clause-serve g c service serve =
    let words = map string_bytes c.args.words.now in
    let nothing = subst (IsFaultOf words) c.in-Err-Unknown.field-0-is c.in-Err-Unknown.ensures.fault in
    absurd (nothing.5 service serve)

pub returns-in-Err-Unknown-clause-complete_serve : goal.returns-in-Err-Unknown-clause-complete_serve
returns-in-Err-Unknown-clause-complete_serve g c service serve shelf kept listener output =
    let words = map string_bytes c.args.words.now in
    let nothing = subst (IsFaultOf words) c.in-Err-Unknown.field-0-is c.in-Err-Unknown.ensures.fault in
    absurd (nothing.5 service serve)

pub returns-in-Err-Unknown-clause-load_takes_nothing : goal.returns-in-Err-Unknown-clause-load_takes_nothing
returns-in-Err-Unknown-clause-load_takes_nothing g c n load =
    refl

pub returns-in-Err-Unknown-clause-load_opens_nothing : goal.returns-in-Err-Unknown-clause-load_opens_nothing
returns-in-Err-Unknown-clause-load_opens_nothing g c n load =
    refl

pub returns-in-Err-Unknown-clause-serve_takes_nothing : goal.returns-in-Err-Unknown-clause-serve_takes_nothing
returns-in-Err-Unknown-clause-serve_takes_nothing g c service serve =
    refl

-- memory was wanting while the words were read

pub returns-in-Err-NoMemory-clause-words : goal.returns-in-Err-NoMemory-clause-words
returns-in-Err-NoMemory-clause-words g c =
    let words = map string_bytes c.args.words.now in
    let some = subst (IsFaultOf words) c.in-Err-NoMemory.field-0-is c.in-Err-NoMemory.ensures.fault in (
      (λ two. absurd (status_not_2 NoMemory (sym c.without_memory-status.ensures.status ∙ two))),
      (λ none. elim some [
        | inl batch ↦ absurd (none.0 batch)
        | inr (inl over) ↦ absurd (none.1 over.0 over.1)
        | inr (inr (inl import)) ↦ absurd (none.2 import.0 import.1)
        | inr (inr (inr (inl audit))) ↦ absurd (none.3 audit.0 audit.1)
        | inr (inr (inr (inr load))) ↦ absurd (none.4 load.0 load.1)
      ]),
    )

pub returns-in-Err-NoMemory-clause-run : goal.returns-in-Err-NoMemory-clause-run
returns-in-Err-NoMemory-clause-run g c batch = (
  NoMemory,
  record {
    told = NoMemory;
    told_as = refl;
    status_is = c.without_memory-status.ensures.status;
    noted = c.without_memory-status.ensures.noted;
  },
  first_pace,
  Ran-no_memory g.S.Source.left g.S.Source.taken g.S.Source.faults g.O.Sink.written g.O.Sink.faults c.args.input.now
      c.args.output.now first_pace tt,
)

pub returns-in-Err-NoMemory-clause-over : goal.returns-in-Err-NoMemory-clause-over
returns-in-Err-NoMemory-clause-over g c path over = (
  NoMemory,
  record {
    told = NoMemory;
    told_as = refl;
    status_is = c.without_memory-status.ensures.status;
    noted = c.without_memory-status.ensures.noted;
  },
  inl (record { nothing_taken = refl; nothing_written = refl; tables_stay = inl (λ t told. told); cause = tt }),
)

pub returns-in-Err-NoMemory-clause-serve : goal.returns-in-Err-NoMemory-clause-serve
returns-in-Err-NoMemory-clause-serve g c service serve = (
  NoMemory,
  record {
    told = NoMemory;
    told_as = refl;
    status_is = c.without_memory-status.ensures.status;
    noted = c.without_memory-status.ensures.noted;
  },
  inl (record { nothing_taken = refl; nothing_written = refl; tables_stay = inl (λ t told. told); cause = tt }),
)

pub returns-in-Err-NoMemory-clause-load : goal.returns-in-Err-NoMemory-clause-load
returns-in-Err-NoMemory-clause-load g c n load = (
  NoMemory,
  record {
    told = NoMemory;
    told_as = refl;
    status_is = c.without_memory-status.ensures.status;
    noted = c.without_memory-status.ensures.noted;
  },
  refl,
)

pub returns-in-Err-NoMemory-clause-load_takes_nothing : goal.returns-in-Err-NoMemory-clause-load_takes_nothing
returns-in-Err-NoMemory-clause-load_takes_nothing g c n load =
    refl

pub returns-in-Err-NoMemory-clause-load_opens_nothing : goal.returns-in-Err-NoMemory-clause-load_opens_nothing
returns-in-Err-NoMemory-clause-load_opens_nothing g c n load =
    refl

pub returns-in-Err-NoMemory-clause-serve_takes_nothing : goal.returns-in-Err-NoMemory-clause-serve_takes_nothing
returns-in-Err-NoMemory-clause-serve_takes_nothing g c service serve =
    refl

pub returns-in-Err-NoMemory-clause-complete_load : goal.returns-in-Err-NoMemory-clause-complete_load
returns-in-Err-NoMemory-clause-complete_load g c n load none =
    inr c.without_memory-status.ensures.status

pub returns-in-Err-NoMemory-clause-complete_serve : goal.returns-in-Err-NoMemory-clause-complete_serve
returns-in-Err-NoMemory-clause-complete_serve g c service serve shelf kept listener output =
    inr (inl c.without_memory-status.ensures.status)

-- which file is opened, and which port is listened to

pub returns-in-Ok-Batch-clause-over_opens : goal.returns-in-Ok-Batch-clause-over_opens
returns-in-Ok-Batch-clause-over_opens g c path over =
    inr refl

pub returns-in-Ok-Load-clause-over_opens : goal.returns-in-Ok-Load-clause-over_opens
returns-in-Ok-Load-clause-over_opens g c path over =
    let words = map string_bytes c.args.words.now in
    let spells = subst (Spells words) c.in-Ok-Load.field-0-is c.in-Ok-Load.ensures.asked in
    absurd (omega (arith, over_begins words path over, load_begins words _ spells))

pub returns-in-Ok-Serve-clause-over_opens : goal.returns-in-Ok-Serve-clause-over_opens
returns-in-Ok-Serve-clause-over_opens g c path over =
    let words = map string_bytes c.args.words.now in
    let spells = subst (Spells words) c.in-Ok-Serve.field-0-is c.in-Ok-Serve.ensures.asked in
    absurd (omega (arith, over_begins words path over, serve_begins words _ spells))

pub returns-in-Ok-Batch-clause-serve_opens : goal.returns-in-Ok-Batch-clause-serve_opens
returns-in-Ok-Batch-clause-serve_opens g c service serve =
    let words = map string_bytes c.args.words.now in
    let spells = subst (Spells words) c.in-Ok-Batch.field-0-is c.in-Ok-Batch.ensures.asked in
    absurd (omega (arith, serve_begins words service serve, batch_begins words spells))

pub returns-in-Ok-Batch-clause-serve_listens : goal.returns-in-Ok-Batch-clause-serve_listens
returns-in-Ok-Batch-clause-serve_listens g c service serve =
    let words = map string_bytes c.args.words.now in
    let spells = subst (Spells words) c.in-Ok-Batch.field-0-is c.in-Ok-Batch.ensures.asked in
    absurd (omega (arith, serve_begins words service serve, batch_begins words spells))

pub returns-in-Ok-BatchOver-clause-serve_opens : goal.returns-in-Ok-BatchOver-clause-serve_opens
returns-in-Ok-BatchOver-clause-serve_opens g c service serve =
    let words = map string_bytes c.args.words.now in
    let spells = subst (Spells words) c.in-Ok-BatchOver.field-0-is c.in-Ok-BatchOver.ensures.asked in
    absurd (omega (arith, serve_begins words service serve, over_begins words _ spells))

pub returns-in-Ok-BatchOver-clause-serve_listens : goal.returns-in-Ok-BatchOver-clause-serve_listens
returns-in-Ok-BatchOver-clause-serve_listens g c service serve =
    let words = map string_bytes c.args.words.now in
    let spells = subst (Spells words) c.in-Ok-BatchOver.field-0-is c.in-Ok-BatchOver.ensures.asked in
    absurd (omega (arith, serve_begins words service serve, over_begins words _ spells))

pub returns-in-Ok-Load-clause-serve_opens : goal.returns-in-Ok-Load-clause-serve_opens
returns-in-Ok-Load-clause-serve_opens g c service serve =
    let words = map string_bytes c.args.words.now in
    let spells = subst (Spells words) c.in-Ok-Load.field-0-is c.in-Ok-Load.ensures.asked in
    absurd (omega (arith, serve_begins words service serve, load_begins words _ spells))

pub returns-in-Ok-Load-clause-serve_listens : goal.returns-in-Ok-Load-clause-serve_listens
returns-in-Ok-Load-clause-serve_listens g c service serve =
    let words = map string_bytes c.args.words.now in
    let spells = subst (Spells words) c.in-Ok-Load.field-0-is c.in-Ok-Load.ensures.asked in
    absurd (omega (arith, serve_begins words service serve, load_begins words _ spells))

pub returns-in-Ok-BatchOver-clause-over_opens : goal.returns-in-Ok-BatchOver-clause-over_opens
returns-in-Ok-BatchOver-clause-over_opens g c path over =
    let words = map string_bytes c.args.words.now in
    let spells = subst (Spells words) c.in-Ok-BatchOver.field-0-is c.in-Ok-BatchOver.ensures.asked in
    subst (λ (p : List ℕ). AsksAtMost g.H.Shelf.opened g.H.Shelf.openings p c.args.shelf.now c.run_over-end.new.shelf)
    (one_path words _ path spells over) c.run_over-end.ensures.opens

pub returns-in-Ok-Serve-clause-serve_opens : goal.returns-in-Ok-Serve-clause-serve_opens
returns-in-Ok-Serve-clause-serve_opens g c service serve =
    let words = map string_bytes c.args.words.now in
    let spells = subst (Spells words) c.in-Ok-Serve.field-0-is c.in-Ok-Serve.ensures.asked in
    inl (subst (λ (of : Service). AsksAt g.H.Shelf.opened g.H.Shelf.openings of.path c.args.shelf.now c.serve_asked.new.shelf)
    (one_service words _ service spells serve) c.serve_asked.ensures.opens)

pub returns-in-Ok-Serve-clause-serve_listens : goal.returns-in-Ok-Serve-clause-serve_listens
returns-in-Ok-Serve-clause-serve_listens g c service serve =
    let words = map string_bytes c.args.words.now in
    let spells = subst (Spells words) c.in-Ok-Serve.field-0-is c.in-Ok-Serve.ensures.asked in
    subst (λ (of : Service). ListensTo g.L.Listener.listens_to g.L.Listener.accepts of.port of.idle c.args.listener c.serve_asked.result.listener)
    (one_service words _ service spells serve) c.serve_asked.ensures.listens

pub returns-in-Err-Unknown-clause-over_opens : goal.returns-in-Err-Unknown-clause-over_opens
returns-in-Err-Unknown-clause-over_opens g c path over =
    let words = map string_bytes c.args.words.now in
    let nothing = subst (IsFaultOf words) c.in-Err-Unknown.field-0-is c.in-Err-Unknown.ensures.fault in
    absurd (nothing.1 path over)

pub returns-in-Err-Unknown-clause-serve_opens : goal.returns-in-Err-Unknown-clause-serve_opens
returns-in-Err-Unknown-clause-serve_opens g c service serve =
    let words = map string_bytes c.args.words.now in
    let nothing = subst (IsFaultOf words) c.in-Err-Unknown.field-0-is c.in-Err-Unknown.ensures.fault in
    absurd (nothing.5 service serve)

pub returns-in-Err-Unknown-clause-serve_listens : goal.returns-in-Err-Unknown-clause-serve_listens
returns-in-Err-Unknown-clause-serve_listens g c service serve =
    let words = map string_bytes c.args.words.now in
    let nothing = subst (IsFaultOf words) c.in-Err-Unknown.field-0-is c.in-Err-Unknown.ensures.fault in
    absurd (nothing.5 service serve)

pub returns-in-Err-NoMemory-clause-over_opens : goal.returns-in-Err-NoMemory-clause-over_opens
returns-in-Err-NoMemory-clause-over_opens g c path over = inr refl

pub returns-in-Err-NoMemory-clause-serve_opens : goal.returns-in-Err-NoMemory-clause-serve_opens
returns-in-Err-NoMemory-clause-serve_opens g c service serve = inr refl

pub returns-in-Err-NoMemory-clause-serve_listens : goal.returns-in-Err-NoMemory-clause-serve_listens
returns-in-Err-NoMemory-clause-serve_listens g c service serve = inr (refl, refl)

-- `import`

pub returns-in-Ok-ImportInto-clause-words : goal.returns-in-Ok-ImportInto-clause-words
returns-in-Ok-ImportInto-clause-words g c =
    let words = map string_bytes c.args.words.now in
    let spells = subst (Spells words) c.in-Ok-ImportInto.field-0-is c.in-Ok-ImportInto.ensures.asked in
    let told = c.tell-status-in-Ok-ImportInto.ensures.told in (
      (λ two. absurd (status_not_2 told.told (sym told.status_is ∙ two))),
      (λ none. absurd (none.2 _ spells)),
    )

pub returns-in-Ok-ImportInto-clause-nothing_taken : goal.returns-in-Ok-ImportInto-clause-nothing_taken
returns-in-Ok-ImportInto-clause-nothing_taken g c two =
    let told = c.tell-status-in-Ok-ImportInto.ensures.told in
    absurd (status_not_2 told.told (sym told.status_is ∙ two))

pub returns-in-Ok-ImportInto-clause-nothing_written : goal.returns-in-Ok-ImportInto-clause-nothing_written
returns-in-Ok-ImportInto-clause-nothing_written g c two =
    let told = c.tell-status-in-Ok-ImportInto.ensures.told in
    absurd (status_not_2 told.told (sym told.status_is ∙ two))

pub returns-in-Ok-ImportInto-clause-usage : goal.returns-in-Ok-ImportInto-clause-usage
returns-in-Ok-ImportInto-clause-usage g c two =
    let told = c.tell-status-in-Ok-ImportInto.ensures.told in
    absurd (status_not_2 told.told (sym told.status_is ∙ two))

pub returns-in-Ok-ImportInto-clause-nothing_opened : goal.returns-in-Ok-ImportInto-clause-nothing_opened
returns-in-Ok-ImportInto-clause-nothing_opened g c (inl two) =
    let told = c.tell-status-in-Ok-ImportInto.ensures.told in
    absurd (status_not_2 told.told (sym told.status_is ∙ two))
returns-in-Ok-ImportInto-clause-nothing_opened g c (inr batch) =
    let words = map string_bytes c.args.words.now in
    let spells = subst (Spells words) c.in-Ok-ImportInto.field-0-is c.in-Ok-ImportInto.ensures.asked in
    absurd (omega (arith, batch_begins words batch, import_begins words _ spells))

pub returns-in-Ok-ImportInto-clause-run : goal.returns-in-Ok-ImportInto-clause-run
returns-in-Ok-ImportInto-clause-run g c batch =
    let words = map string_bytes c.args.words.now in
    let spells = subst (Spells words) c.in-Ok-ImportInto.field-0-is c.in-Ok-ImportInto.ensures.asked in
    absurd (omega (arith, batch_begins words batch, import_begins words _ spells))

pub returns-in-Ok-ImportInto-clause-over : goal.returns-in-Ok-ImportInto-clause-over
returns-in-Ok-ImportInto-clause-over g c path over =
    let words = map string_bytes c.args.words.now in
    let spells = subst (Spells words) c.in-Ok-ImportInto.field-0-is c.in-Ok-ImportInto.ensures.asked in
    absurd (omega (arith, over_begins words path over, import_begins words _ spells))

pub returns-in-Ok-ImportInto-clause-load : goal.returns-in-Ok-ImportInto-clause-load
returns-in-Ok-ImportInto-clause-load g c n load =
    let words = map string_bytes c.args.words.now in
    let spells = subst (Spells words) c.in-Ok-ImportInto.field-0-is c.in-Ok-ImportInto.ensures.asked in
    absurd (omega (arith, load_begins words n load, import_begins words _ spells))

pub returns-in-Ok-ImportInto-clause-load_takes_nothing : goal.returns-in-Ok-ImportInto-clause-load_takes_nothing
returns-in-Ok-ImportInto-clause-load_takes_nothing g c n load =
    let words = map string_bytes c.args.words.now in
    let spells = subst (Spells words) c.in-Ok-ImportInto.field-0-is c.in-Ok-ImportInto.ensures.asked in
    absurd (omega (arith, load_begins words n load, import_begins words _ spells))

pub returns-in-Ok-ImportInto-clause-load_opens_nothing : goal.returns-in-Ok-ImportInto-clause-load_opens_nothing
returns-in-Ok-ImportInto-clause-load_opens_nothing g c n load =
    let words = map string_bytes c.args.words.now in
    let spells = subst (Spells words) c.in-Ok-ImportInto.field-0-is c.in-Ok-ImportInto.ensures.asked in
    absurd (omega (arith, load_begins words n load, import_begins words _ spells))

pub returns-in-Ok-ImportInto-clause-serve : goal.returns-in-Ok-ImportInto-clause-serve
returns-in-Ok-ImportInto-clause-serve g c service serve =
    let words = map string_bytes c.args.words.now in
    let spells = subst (Spells words) c.in-Ok-ImportInto.field-0-is c.in-Ok-ImportInto.ensures.asked in
    absurd (omega (arith, serve_begins words service serve, import_begins words _ spells))

pub returns-in-Ok-ImportInto-clause-serve_takes_nothing : goal.returns-in-Ok-ImportInto-clause-serve_takes_nothing
returns-in-Ok-ImportInto-clause-serve_takes_nothing g c service serve =
    let words = map string_bytes c.args.words.now in
    let spells = subst (Spells words) c.in-Ok-ImportInto.field-0-is c.in-Ok-ImportInto.ensures.asked in
    absurd (omega (arith, serve_begins words service serve, import_begins words _ spells))

pub returns-in-Ok-ImportInto-clause-over_opens : goal.returns-in-Ok-ImportInto-clause-over_opens
returns-in-Ok-ImportInto-clause-over_opens g c path over =
    let words = map string_bytes c.args.words.now in
    let spells = subst (Spells words) c.in-Ok-ImportInto.field-0-is c.in-Ok-ImportInto.ensures.asked in
    absurd (omega (arith, over_begins words path over, import_begins words _ spells))

pub returns-in-Ok-ImportInto-clause-serve_opens : goal.returns-in-Ok-ImportInto-clause-serve_opens
returns-in-Ok-ImportInto-clause-serve_opens g c service serve =
    let words = map string_bytes c.args.words.now in
    let spells = subst (Spells words) c.in-Ok-ImportInto.field-0-is c.in-Ok-ImportInto.ensures.asked in
    absurd (omega (arith, serve_begins words service serve, import_begins words _ spells))

pub returns-in-Ok-ImportInto-clause-serve_listens : goal.returns-in-Ok-ImportInto-clause-serve_listens
returns-in-Ok-ImportInto-clause-serve_listens g c service serve =
    let words = map string_bytes c.args.words.now in
    let spells = subst (Spells words) c.in-Ok-ImportInto.field-0-is c.in-Ok-ImportInto.ensures.asked in
    absurd (omega (arith, serve_begins words service serve, import_begins words _ spells))

pub returns-in-Ok-ImportInto-clause-complete : goal.returns-in-Ok-ImportInto-clause-complete
returns-in-Ok-ImportInto-clause-complete g c batch source output few =
    let words = map string_bytes c.args.words.now in
    let spells = subst (Spells words) c.in-Ok-ImportInto.field-0-is c.in-Ok-ImportInto.ensures.asked in
    absurd (omega (arith, batch_begins words batch, import_begins words _ spells))

pub returns-in-Ok-ImportInto-clause-complete_over : goal.returns-in-Ok-ImportInto-clause-complete_over
returns-in-Ok-ImportInto-clause-complete_over g c path over source output shelf kept few =
    let words = map string_bytes c.args.words.now in
    let spells = subst (Spells words) c.in-Ok-ImportInto.field-0-is c.in-Ok-ImportInto.ensures.asked in
    absurd (omega (arith, over_begins words path over, import_begins words _ spells))

pub returns-in-Ok-ImportInto-clause-complete_load : goal.returns-in-Ok-ImportInto-clause-complete_load
returns-in-Ok-ImportInto-clause-complete_load g c n load none =
    let words = map string_bytes c.args.words.now in
    let spells = subst (Spells words) c.in-Ok-ImportInto.field-0-is c.in-Ok-ImportInto.ensures.asked in
    absurd (omega (arith, load_begins words n load, import_begins words _ spells))

pub returns-in-Ok-ImportInto-clause-complete_serve : goal.returns-in-Ok-ImportInto-clause-complete_serve
returns-in-Ok-ImportInto-clause-complete_serve g c service serve shelf kept listener output =
    let words = map string_bytes c.args.words.now in
    let spells = subst (Spells words) c.in-Ok-ImportInto.field-0-is c.in-Ok-ImportInto.ensures.asked in
    absurd (omega (arith, serve_begins words service serve, import_begins words _ spells))

pub returns-in-Ok-ImportInto-clause-import : goal.returns-in-Ok-ImportInto-clause-import
returns-in-Ok-ImportInto-clause-import g c path import =
    (c.import_over-end.result, c.tell-status-in-Ok-ImportInto.ensures.told, c.import_over-end.ensures.imports)

pub returns-in-Ok-ImportInto-clause-import_opens : goal.returns-in-Ok-ImportInto-clause-import_opens
returns-in-Ok-ImportInto-clause-import_opens g c path import =
    let words = map string_bytes c.args.words.now in
    let spells = subst (Spells words) c.in-Ok-ImportInto.field-0-is c.in-Ok-ImportInto.ensures.asked in
    subst (λ (p : List ℕ). AsksAtMost g.H.Shelf.opened g.H.Shelf.openings p c.args.shelf.now c.import_over-end.new.shelf)
    (one_import_path words _ path spells import) c.import_over-end.ensures.opens

pub returns-in-Ok-ImportInto-clause-complete_import : goal.returns-in-Ok-ImportInto-clause-complete_import
returns-in-Ok-ImportInto-clause-complete_import g c path import source output shelf kept few =
    let told = c.tell-status-in-Ok-ImportInto.ensures.told in
    let faultless =
    import-faultless g.H.Kept.Keeper.tells g.H.Shelf.tells g.H.Shelf.plan g.H.Shelf.faults g.H.Shelf.kept_faults g.S.Source.left
    g.S.Source.taken g.S.Source.faults g.O.Sink.written g.O.Sink.faults c.args.shelf.now c.import_over-end.new.shelf c.args.input.now
    c.import_over-end.new.input c.args.output.now c.import_over-end.new.output c.import_over-end.result c.import_over-end.ensures.imports
    source output shelf kept few in
    subst IsFaultless (sym told.status_is) (told-faultless c.import_over-end.result told.told told.told_as faultless)

pub returns-in-Ok-ImportInto-clause-noted : goal.returns-in-Ok-ImportInto-clause-noted
returns-in-Ok-ImportInto-clause-noted g c known =
    let told = c.tell-status-in-Ok-ImportInto.ensures.told in
    (told.told, told.status_is, told.noted)

pub returns-in-Ok-ImportInto-clause-silent : goal.returns-in-Ok-ImportInto-clause-silent
returns-in-Ok-ImportInto-clause-silent g c =
    c.tell-status-in-Ok-ImportInto.ensures.silent

pub returns-in-Ok-ImportInto-clause-notes_never_fall : goal.returns-in-Ok-ImportInto-clause-notes_never_fall
returns-in-Ok-ImportInto-clause-notes_never_fall g c =
    c.tell-status-in-Ok-ImportInto.ensures.never_falls

-- no other command imports

pub returns-in-Ok-Batch-clause-import : goal.returns-in-Ok-Batch-clause-import
returns-in-Ok-Batch-clause-import g c path import =
    let words = map string_bytes c.args.words.now in
    let spells = subst (Spells words) c.in-Ok-Batch.field-0-is c.in-Ok-Batch.ensures.asked in
    absurd (omega (arith, import_begins words path import, batch_begins words spells))

pub returns-in-Ok-Batch-clause-import_opens : goal.returns-in-Ok-Batch-clause-import_opens
returns-in-Ok-Batch-clause-import_opens g c path import =
    let words = map string_bytes c.args.words.now in
    let spells = subst (Spells words) c.in-Ok-Batch.field-0-is c.in-Ok-Batch.ensures.asked in
    absurd (omega (arith, import_begins words path import, batch_begins words spells))

pub returns-in-Ok-Batch-clause-complete_import : goal.returns-in-Ok-Batch-clause-complete_import
returns-in-Ok-Batch-clause-complete_import g c path import source output shelf kept few =
    let words = map string_bytes c.args.words.now in
    let spells = subst (Spells words) c.in-Ok-Batch.field-0-is c.in-Ok-Batch.ensures.asked in
    absurd (omega (arith, import_begins words path import, batch_begins words spells))

pub returns-in-Ok-BatchOver-clause-import : goal.returns-in-Ok-BatchOver-clause-import
returns-in-Ok-BatchOver-clause-import g c path import =
    let words = map string_bytes c.args.words.now in
    let spells = subst (Spells words) c.in-Ok-BatchOver.field-0-is c.in-Ok-BatchOver.ensures.asked in
    absurd (omega (arith, import_begins words path import, over_begins words _ spells))

pub returns-in-Ok-BatchOver-clause-import_opens : goal.returns-in-Ok-BatchOver-clause-import_opens
returns-in-Ok-BatchOver-clause-import_opens g c path import =
    let words = map string_bytes c.args.words.now in
    let spells = subst (Spells words) c.in-Ok-BatchOver.field-0-is c.in-Ok-BatchOver.ensures.asked in
    absurd (omega (arith, import_begins words path import, over_begins words _ spells))

pub returns-in-Ok-BatchOver-clause-complete_import : goal.returns-in-Ok-BatchOver-clause-complete_import
returns-in-Ok-BatchOver-clause-complete_import g c path import source output shelf kept few =
    let words = map string_bytes c.args.words.now in
    let spells = subst (Spells words) c.in-Ok-BatchOver.field-0-is c.in-Ok-BatchOver.ensures.asked in
    absurd (omega (arith, import_begins words path import, over_begins words _ spells))

pub returns-in-Ok-Load-clause-import : goal.returns-in-Ok-Load-clause-import
returns-in-Ok-Load-clause-import g c path import =
    let words = map string_bytes c.args.words.now in
    let spells = subst (Spells words) c.in-Ok-Load.field-0-is c.in-Ok-Load.ensures.asked in
    absurd (omega (arith, import_begins words path import, load_begins words _ spells))

pub returns-in-Ok-Load-clause-import_opens : goal.returns-in-Ok-Load-clause-import_opens
returns-in-Ok-Load-clause-import_opens g c path import =
    let words = map string_bytes c.args.words.now in
    let spells = subst (Spells words) c.in-Ok-Load.field-0-is c.in-Ok-Load.ensures.asked in
    absurd (omega (arith, import_begins words path import, load_begins words _ spells))

pub returns-in-Ok-Load-clause-complete_import : goal.returns-in-Ok-Load-clause-complete_import
returns-in-Ok-Load-clause-complete_import g c path import source output shelf kept few =
    let words = map string_bytes c.args.words.now in
    let spells = subst (Spells words) c.in-Ok-Load.field-0-is c.in-Ok-Load.ensures.asked in
    absurd (omega (arith, import_begins words path import, load_begins words _ spells))

pub returns-in-Ok-Serve-clause-import : goal.returns-in-Ok-Serve-clause-import
returns-in-Ok-Serve-clause-import g c path import =
    let words = map string_bytes c.args.words.now in
    let spells = subst (Spells words) c.in-Ok-Serve.field-0-is c.in-Ok-Serve.ensures.asked in
    absurd (omega (arith, import_begins words path import, serve_begins words _ spells))

pub returns-in-Ok-Serve-clause-import_opens : goal.returns-in-Ok-Serve-clause-import_opens
returns-in-Ok-Serve-clause-import_opens g c path import =
    let words = map string_bytes c.args.words.now in
    let spells = subst (Spells words) c.in-Ok-Serve.field-0-is c.in-Ok-Serve.ensures.asked in
    absurd (omega (arith, import_begins words path import, serve_begins words _ spells))

pub returns-in-Ok-Serve-clause-complete_import : goal.returns-in-Ok-Serve-clause-complete_import
returns-in-Ok-Serve-clause-complete_import g c path import source output shelf kept few =
    let words = map string_bytes c.args.words.now in
    let spells = subst (Spells words) c.in-Ok-Serve.field-0-is c.in-Ok-Serve.ensures.asked in
    absurd (omega (arith, import_begins words path import, serve_begins words _ spells))

pub returns-in-Err-Unknown-clause-import : goal.returns-in-Err-Unknown-clause-import
returns-in-Err-Unknown-clause-import g c path import =
    let words = map string_bytes c.args.words.now in
    let nothing = subst (IsFaultOf words) c.in-Err-Unknown.field-0-is c.in-Err-Unknown.ensures.fault in
    absurd (nothing.2 path import)

pub returns-in-Err-Unknown-clause-import_opens : goal.returns-in-Err-Unknown-clause-import_opens
returns-in-Err-Unknown-clause-import_opens g c path import =
    let words = map string_bytes c.args.words.now in
    let nothing = subst (IsFaultOf words) c.in-Err-Unknown.field-0-is c.in-Err-Unknown.ensures.fault in
    absurd (nothing.2 path import)

pub returns-in-Err-Unknown-clause-complete_import : goal.returns-in-Err-Unknown-clause-complete_import
returns-in-Err-Unknown-clause-complete_import g c path import source output shelf kept few =
    let words = map string_bytes c.args.words.now in
    let nothing = subst (IsFaultOf words) c.in-Err-Unknown.field-0-is c.in-Err-Unknown.ensures.fault in
    absurd (nothing.2 path import)

pub returns-in-Err-NoMemory-clause-import : goal.returns-in-Err-NoMemory-clause-import
returns-in-Err-NoMemory-clause-import g c path import = (
  NoMemory,
  record {
    told = NoMemory;
    told_as = refl;
    status_is = c.without_memory-status.ensures.status;
    noted = c.without_memory-status.ensures.noted;
  },
  import-no_memory g.H.Kept.Keeper.tells g.H.Shelf.tells g.H.Shelf.plan g.H.Shelf.faults g.H.Shelf.kept_faults g.S.Source.left
      g.S.Source.taken g.S.Source.faults g.O.Sink.written g.O.Sink.faults c.args.shelf.now c.args.input.now c.args.output.now,
)

pub returns-in-Err-NoMemory-clause-import_opens : goal.returns-in-Err-NoMemory-clause-import_opens
returns-in-Err-NoMemory-clause-import_opens g c path import =
    inr refl

pub returns-in-Err-NoMemory-clause-complete_import : goal.returns-in-Err-NoMemory-clause-complete_import
returns-in-Err-NoMemory-clause-complete_import g c path import source output shelf kept few =
    inr (inl c.without_memory-status.ensures.status)

-- `audit`

pub returns-in-Ok-AuditOf-clause-words : goal.returns-in-Ok-AuditOf-clause-words
returns-in-Ok-AuditOf-clause-words g c =
    let words = map string_bytes c.args.words.now in
    let spells = subst (Spells words) c.in-Ok-AuditOf.field-0-is c.in-Ok-AuditOf.ensures.asked in
    let told = c.tell-status-in-Ok-AuditOf.ensures.told in (
      (λ two. absurd (status_not_2 told.told (sym told.status_is ∙ two))),
      (λ none. absurd (none.3 _ spells)),
    )

pub returns-in-Ok-AuditOf-clause-nothing_taken : goal.returns-in-Ok-AuditOf-clause-nothing_taken
returns-in-Ok-AuditOf-clause-nothing_taken g c two =
    let told = c.tell-status-in-Ok-AuditOf.ensures.told in
    absurd (status_not_2 told.told (sym told.status_is ∙ two))

pub returns-in-Ok-AuditOf-clause-nothing_written : goal.returns-in-Ok-AuditOf-clause-nothing_written
returns-in-Ok-AuditOf-clause-nothing_written g c two =
    let told = c.tell-status-in-Ok-AuditOf.ensures.told in
    absurd (status_not_2 told.told (sym told.status_is ∙ two))

pub returns-in-Ok-AuditOf-clause-usage : goal.returns-in-Ok-AuditOf-clause-usage
returns-in-Ok-AuditOf-clause-usage g c two =
    let told = c.tell-status-in-Ok-AuditOf.ensures.told in
    absurd (status_not_2 told.told (sym told.status_is ∙ two))

pub returns-in-Ok-AuditOf-clause-nothing_opened : goal.returns-in-Ok-AuditOf-clause-nothing_opened
returns-in-Ok-AuditOf-clause-nothing_opened g c (inl two) =
    let told = c.tell-status-in-Ok-AuditOf.ensures.told in
    absurd (status_not_2 told.told (sym told.status_is ∙ two))
returns-in-Ok-AuditOf-clause-nothing_opened g c (inr batch) =
    let words = map string_bytes c.args.words.now in
    let spells = subst (Spells words) c.in-Ok-AuditOf.field-0-is c.in-Ok-AuditOf.ensures.asked in
    absurd (omega (arith, batch_begins words batch, audit_begins words _ spells))

pub returns-in-Ok-AuditOf-clause-run : goal.returns-in-Ok-AuditOf-clause-run
returns-in-Ok-AuditOf-clause-run g c batch =
    let words = map string_bytes c.args.words.now in
    let spells = subst (Spells words) c.in-Ok-AuditOf.field-0-is c.in-Ok-AuditOf.ensures.asked in
    absurd (omega (arith, batch_begins words batch, audit_begins words _ spells))

pub returns-in-Ok-AuditOf-clause-over : goal.returns-in-Ok-AuditOf-clause-over
returns-in-Ok-AuditOf-clause-over g c path over =
    let words = map string_bytes c.args.words.now in
    let spells = subst (Spells words) c.in-Ok-AuditOf.field-0-is c.in-Ok-AuditOf.ensures.asked in
    absurd (omega (arith, over_begins words path over, audit_begins words _ spells))

pub returns-in-Ok-AuditOf-clause-load : goal.returns-in-Ok-AuditOf-clause-load
returns-in-Ok-AuditOf-clause-load g c n load =
    let words = map string_bytes c.args.words.now in
    let spells = subst (Spells words) c.in-Ok-AuditOf.field-0-is c.in-Ok-AuditOf.ensures.asked in
    absurd (omega (arith, load_begins words n load, audit_begins words _ spells))

pub returns-in-Ok-AuditOf-clause-load_takes_nothing : goal.returns-in-Ok-AuditOf-clause-load_takes_nothing
returns-in-Ok-AuditOf-clause-load_takes_nothing g c n load =
    let words = map string_bytes c.args.words.now in
    let spells = subst (Spells words) c.in-Ok-AuditOf.field-0-is c.in-Ok-AuditOf.ensures.asked in
    absurd (omega (arith, load_begins words n load, audit_begins words _ spells))

pub returns-in-Ok-AuditOf-clause-load_opens_nothing : goal.returns-in-Ok-AuditOf-clause-load_opens_nothing
returns-in-Ok-AuditOf-clause-load_opens_nothing g c n load =
    let words = map string_bytes c.args.words.now in
    let spells = subst (Spells words) c.in-Ok-AuditOf.field-0-is c.in-Ok-AuditOf.ensures.asked in
    absurd (omega (arith, load_begins words n load, audit_begins words _ spells))

pub returns-in-Ok-AuditOf-clause-serve : goal.returns-in-Ok-AuditOf-clause-serve
returns-in-Ok-AuditOf-clause-serve g c service serve =
    let words = map string_bytes c.args.words.now in
    let spells = subst (Spells words) c.in-Ok-AuditOf.field-0-is c.in-Ok-AuditOf.ensures.asked in
    absurd (omega (arith, serve_begins words service serve, audit_begins words _ spells))

pub returns-in-Ok-AuditOf-clause-serve_takes_nothing : goal.returns-in-Ok-AuditOf-clause-serve_takes_nothing
returns-in-Ok-AuditOf-clause-serve_takes_nothing g c service serve =
    let words = map string_bytes c.args.words.now in
    let spells = subst (Spells words) c.in-Ok-AuditOf.field-0-is c.in-Ok-AuditOf.ensures.asked in
    absurd (omega (arith, serve_begins words service serve, audit_begins words _ spells))

pub returns-in-Ok-AuditOf-clause-over_opens : goal.returns-in-Ok-AuditOf-clause-over_opens
returns-in-Ok-AuditOf-clause-over_opens g c path over =
    let words = map string_bytes c.args.words.now in
    let spells = subst (Spells words) c.in-Ok-AuditOf.field-0-is c.in-Ok-AuditOf.ensures.asked in
    absurd (omega (arith, over_begins words path over, audit_begins words _ spells))

pub returns-in-Ok-AuditOf-clause-serve_opens : goal.returns-in-Ok-AuditOf-clause-serve_opens
returns-in-Ok-AuditOf-clause-serve_opens g c service serve =
    let words = map string_bytes c.args.words.now in
    let spells = subst (Spells words) c.in-Ok-AuditOf.field-0-is c.in-Ok-AuditOf.ensures.asked in
    absurd (omega (arith, serve_begins words service serve, audit_begins words _ spells))

pub returns-in-Ok-AuditOf-clause-serve_listens : goal.returns-in-Ok-AuditOf-clause-serve_listens
returns-in-Ok-AuditOf-clause-serve_listens g c service serve =
    let words = map string_bytes c.args.words.now in
    let spells = subst (Spells words) c.in-Ok-AuditOf.field-0-is c.in-Ok-AuditOf.ensures.asked in
    absurd (omega (arith, serve_begins words service serve, audit_begins words _ spells))

pub returns-in-Ok-AuditOf-clause-complete : goal.returns-in-Ok-AuditOf-clause-complete
returns-in-Ok-AuditOf-clause-complete g c batch source output few =
    let words = map string_bytes c.args.words.now in
    let spells = subst (Spells words) c.in-Ok-AuditOf.field-0-is c.in-Ok-AuditOf.ensures.asked in
    absurd (omega (arith, batch_begins words batch, audit_begins words _ spells))

pub returns-in-Ok-AuditOf-clause-complete_over : goal.returns-in-Ok-AuditOf-clause-complete_over
returns-in-Ok-AuditOf-clause-complete_over g c path over source output shelf kept few =
    let words = map string_bytes c.args.words.now in
    let spells = subst (Spells words) c.in-Ok-AuditOf.field-0-is c.in-Ok-AuditOf.ensures.asked in
    absurd (omega (arith, over_begins words path over, audit_begins words _ spells))

pub returns-in-Ok-AuditOf-clause-complete_load : goal.returns-in-Ok-AuditOf-clause-complete_load
returns-in-Ok-AuditOf-clause-complete_load g c n load none =
    let words = map string_bytes c.args.words.now in
    let spells = subst (Spells words) c.in-Ok-AuditOf.field-0-is c.in-Ok-AuditOf.ensures.asked in
    absurd (omega (arith, load_begins words n load, audit_begins words _ spells))

pub returns-in-Ok-AuditOf-clause-complete_serve : goal.returns-in-Ok-AuditOf-clause-complete_serve
returns-in-Ok-AuditOf-clause-complete_serve g c service serve shelf kept listener output =
    let words = map string_bytes c.args.words.now in
    let spells = subst (Spells words) c.in-Ok-AuditOf.field-0-is c.in-Ok-AuditOf.ensures.asked in
    absurd (omega (arith, serve_begins words service serve, audit_begins words _ spells))

pub returns-in-Ok-AuditOf-clause-audit : goal.returns-in-Ok-AuditOf-clause-audit
returns-in-Ok-AuditOf-clause-audit g c path audit =
    (c.audit_over-end.result, c.tell-status-in-Ok-AuditOf.ensures.told, c.audit_over-end.ensures.audits)

pub returns-in-Ok-AuditOf-clause-audit_opens : goal.returns-in-Ok-AuditOf-clause-audit_opens
returns-in-Ok-AuditOf-clause-audit_opens g c path audit =
    let words = map string_bytes c.args.words.now in
    let spells = subst (Spells words) c.in-Ok-AuditOf.field-0-is c.in-Ok-AuditOf.ensures.asked in
    subst (λ (p : List ℕ). AsksAtMost g.H.Shelf.opened g.H.Shelf.openings p c.args.shelf.now c.audit_over-end.new.shelf)
    (one_audit_path words _ path spells audit) c.audit_over-end.ensures.opens

pub returns-in-Ok-AuditOf-clause-complete_audit : goal.returns-in-Ok-AuditOf-clause-complete_audit
returns-in-Ok-AuditOf-clause-complete_audit g c path audit output shelf kept =
    let told = c.tell-status-in-Ok-AuditOf.ensures.told in
    audit-complete g.H.Kept.Keeper.tells g.H.Shelf.tells g.H.Shelf.plan g.H.Shelf.faults g.H.Shelf.kept_faults g.O.Sink.written g.O.Sink.faults
    c.args.shelf.now c.audit_over-end.new.shelf c.args.output.now c.audit_over-end.new.output c.audit_over-end.result told.told
    c.tell-status-in-Ok-AuditOf.result c.audit_over-end.ensures.audits output shelf kept told.told_as told.status_is

pub returns-in-Ok-AuditOf-clause-import : goal.returns-in-Ok-AuditOf-clause-import
returns-in-Ok-AuditOf-clause-import g c path import =
    let words = map string_bytes c.args.words.now in
    let spells = subst (Spells words) c.in-Ok-AuditOf.field-0-is c.in-Ok-AuditOf.ensures.asked in
    absurd (omega (arith, import_begins words path import, audit_begins words _ spells))

pub returns-in-Ok-AuditOf-clause-import_opens : goal.returns-in-Ok-AuditOf-clause-import_opens
returns-in-Ok-AuditOf-clause-import_opens g c path import =
    let words = map string_bytes c.args.words.now in
    let spells = subst (Spells words) c.in-Ok-AuditOf.field-0-is c.in-Ok-AuditOf.ensures.asked in
    absurd (omega (arith, import_begins words path import, audit_begins words _ spells))

pub returns-in-Ok-AuditOf-clause-complete_import : goal.returns-in-Ok-AuditOf-clause-complete_import
returns-in-Ok-AuditOf-clause-complete_import g c path import source output shelf kept few =
    let words = map string_bytes c.args.words.now in
    let spells = subst (Spells words) c.in-Ok-AuditOf.field-0-is c.in-Ok-AuditOf.ensures.asked in
    absurd (omega (arith, import_begins words path import, audit_begins words _ spells))

pub returns-in-Ok-AuditOf-clause-noted : goal.returns-in-Ok-AuditOf-clause-noted
returns-in-Ok-AuditOf-clause-noted g c known =
    let told = c.tell-status-in-Ok-AuditOf.ensures.told in
    (told.told, told.status_is, told.noted)

pub returns-in-Ok-AuditOf-clause-silent : goal.returns-in-Ok-AuditOf-clause-silent
returns-in-Ok-AuditOf-clause-silent g c =
    c.tell-status-in-Ok-AuditOf.ensures.silent

pub returns-in-Ok-AuditOf-clause-notes_never_fall : goal.returns-in-Ok-AuditOf-clause-notes_never_fall
returns-in-Ok-AuditOf-clause-notes_never_fall g c =
    c.tell-status-in-Ok-AuditOf.ensures.never_falls

-- no other command audits

pub returns-in-Ok-Batch-clause-audit : goal.returns-in-Ok-Batch-clause-audit
returns-in-Ok-Batch-clause-audit g c path audit =
    let words = map string_bytes c.args.words.now in
    let spells = subst (Spells words) c.in-Ok-Batch.field-0-is c.in-Ok-Batch.ensures.asked in
    absurd (omega (arith, audit_begins words path audit, batch_begins words spells))

pub returns-in-Ok-Batch-clause-audit_opens : goal.returns-in-Ok-Batch-clause-audit_opens
returns-in-Ok-Batch-clause-audit_opens g c path audit =
    let words = map string_bytes c.args.words.now in
    let spells = subst (Spells words) c.in-Ok-Batch.field-0-is c.in-Ok-Batch.ensures.asked in
    absurd (omega (arith, audit_begins words path audit, batch_begins words spells))

pub returns-in-Ok-Batch-clause-complete_audit : goal.returns-in-Ok-Batch-clause-complete_audit
returns-in-Ok-Batch-clause-complete_audit g c path audit output shelf kept =
    let words = map string_bytes c.args.words.now in
    let spells = subst (Spells words) c.in-Ok-Batch.field-0-is c.in-Ok-Batch.ensures.asked in
    absurd (omega (arith, audit_begins words path audit, batch_begins words spells))

pub returns-in-Ok-BatchOver-clause-audit : goal.returns-in-Ok-BatchOver-clause-audit
returns-in-Ok-BatchOver-clause-audit g c path audit =
    let words = map string_bytes c.args.words.now in
    let spells = subst (Spells words) c.in-Ok-BatchOver.field-0-is c.in-Ok-BatchOver.ensures.asked in
    absurd (omega (arith, audit_begins words path audit, over_begins words _ spells))

pub returns-in-Ok-BatchOver-clause-audit_opens : goal.returns-in-Ok-BatchOver-clause-audit_opens
returns-in-Ok-BatchOver-clause-audit_opens g c path audit =
    let words = map string_bytes c.args.words.now in
    let spells = subst (Spells words) c.in-Ok-BatchOver.field-0-is c.in-Ok-BatchOver.ensures.asked in
    absurd (omega (arith, audit_begins words path audit, over_begins words _ spells))

pub returns-in-Ok-BatchOver-clause-complete_audit : goal.returns-in-Ok-BatchOver-clause-complete_audit
returns-in-Ok-BatchOver-clause-complete_audit g c path audit output shelf kept =
    let words = map string_bytes c.args.words.now in
    let spells = subst (Spells words) c.in-Ok-BatchOver.field-0-is c.in-Ok-BatchOver.ensures.asked in
    absurd (omega (arith, audit_begins words path audit, over_begins words _ spells))

pub returns-in-Ok-Load-clause-audit : goal.returns-in-Ok-Load-clause-audit
returns-in-Ok-Load-clause-audit g c path audit =
    let words = map string_bytes c.args.words.now in
    let spells = subst (Spells words) c.in-Ok-Load.field-0-is c.in-Ok-Load.ensures.asked in
    absurd (omega (arith, audit_begins words path audit, load_begins words _ spells))

pub returns-in-Ok-Load-clause-audit_opens : goal.returns-in-Ok-Load-clause-audit_opens
returns-in-Ok-Load-clause-audit_opens g c path audit =
    let words = map string_bytes c.args.words.now in
    let spells = subst (Spells words) c.in-Ok-Load.field-0-is c.in-Ok-Load.ensures.asked in
    absurd (omega (arith, audit_begins words path audit, load_begins words _ spells))

pub returns-in-Ok-Load-clause-complete_audit : goal.returns-in-Ok-Load-clause-complete_audit
returns-in-Ok-Load-clause-complete_audit g c path audit output shelf kept =
    let words = map string_bytes c.args.words.now in
    let spells = subst (Spells words) c.in-Ok-Load.field-0-is c.in-Ok-Load.ensures.asked in
    absurd (omega (arith, audit_begins words path audit, load_begins words _ spells))

pub returns-in-Ok-Serve-clause-audit : goal.returns-in-Ok-Serve-clause-audit
returns-in-Ok-Serve-clause-audit g c path audit =
    let words = map string_bytes c.args.words.now in
    let spells = subst (Spells words) c.in-Ok-Serve.field-0-is c.in-Ok-Serve.ensures.asked in
    absurd (omega (arith, audit_begins words path audit, serve_begins words _ spells))

pub returns-in-Ok-Serve-clause-audit_opens : goal.returns-in-Ok-Serve-clause-audit_opens
returns-in-Ok-Serve-clause-audit_opens g c path audit =
    let words = map string_bytes c.args.words.now in
    let spells = subst (Spells words) c.in-Ok-Serve.field-0-is c.in-Ok-Serve.ensures.asked in
    absurd (omega (arith, audit_begins words path audit, serve_begins words _ spells))

pub returns-in-Ok-Serve-clause-complete_audit : goal.returns-in-Ok-Serve-clause-complete_audit
returns-in-Ok-Serve-clause-complete_audit g c path audit output shelf kept =
    let words = map string_bytes c.args.words.now in
    let spells = subst (Spells words) c.in-Ok-Serve.field-0-is c.in-Ok-Serve.ensures.asked in
    absurd (omega (arith, audit_begins words path audit, serve_begins words _ spells))

pub returns-in-Ok-ImportInto-clause-audit : goal.returns-in-Ok-ImportInto-clause-audit
returns-in-Ok-ImportInto-clause-audit g c path audit =
    let words = map string_bytes c.args.words.now in
    let spells = subst (Spells words) c.in-Ok-ImportInto.field-0-is c.in-Ok-ImportInto.ensures.asked in
    absurd (omega (arith, audit_begins words path audit, import_begins words _ spells))

pub returns-in-Ok-ImportInto-clause-audit_opens : goal.returns-in-Ok-ImportInto-clause-audit_opens
returns-in-Ok-ImportInto-clause-audit_opens g c path audit =
    let words = map string_bytes c.args.words.now in
    let spells = subst (Spells words) c.in-Ok-ImportInto.field-0-is c.in-Ok-ImportInto.ensures.asked in
    absurd (omega (arith, audit_begins words path audit, import_begins words _ spells))

pub returns-in-Ok-ImportInto-clause-complete_audit : goal.returns-in-Ok-ImportInto-clause-complete_audit
returns-in-Ok-ImportInto-clause-complete_audit g c path audit output shelf kept =
    let words = map string_bytes c.args.words.now in
    let spells = subst (Spells words) c.in-Ok-ImportInto.field-0-is c.in-Ok-ImportInto.ensures.asked in
    absurd (omega (arith, audit_begins words path audit, import_begins words _ spells))

pub returns-in-Ok-ImportInto-clause-audit_takes_nothing : goal.returns-in-Ok-ImportInto-clause-audit_takes_nothing
returns-in-Ok-ImportInto-clause-audit_takes_nothing g c path audit =
    let words = map string_bytes c.args.words.now in
    let spells = subst (Spells words) c.in-Ok-ImportInto.field-0-is c.in-Ok-ImportInto.ensures.asked in
    absurd (omega (arith, audit_begins words path audit, import_begins words _ spells))

pub returns-in-Ok-Batch-clause-audit_takes_nothing : goal.returns-in-Ok-Batch-clause-audit_takes_nothing
returns-in-Ok-Batch-clause-audit_takes_nothing g c path audit =
    let words = map string_bytes c.args.words.now in
    let spells = subst (Spells words) c.in-Ok-Batch.field-0-is c.in-Ok-Batch.ensures.asked in
    absurd (omega (arith, audit_begins words path audit, batch_begins words spells))

pub returns-in-Ok-BatchOver-clause-audit_takes_nothing : goal.returns-in-Ok-BatchOver-clause-audit_takes_nothing
returns-in-Ok-BatchOver-clause-audit_takes_nothing g c path audit =
    let words = map string_bytes c.args.words.now in
    let spells = subst (Spells words) c.in-Ok-BatchOver.field-0-is c.in-Ok-BatchOver.ensures.asked in
    absurd (omega (arith, audit_begins words path audit, over_begins words _ spells))

pub returns-in-Err-Unknown-clause-audit : goal.returns-in-Err-Unknown-clause-audit
returns-in-Err-Unknown-clause-audit g c path audit =
    let words = map string_bytes c.args.words.now in
    let nothing = subst (IsFaultOf words) c.in-Err-Unknown.field-0-is c.in-Err-Unknown.ensures.fault in
    absurd (nothing.3 path audit)

pub returns-in-Err-Unknown-clause-audit_opens : goal.returns-in-Err-Unknown-clause-audit_opens
returns-in-Err-Unknown-clause-audit_opens g c path audit =
    let words = map string_bytes c.args.words.now in
    let nothing = subst (IsFaultOf words) c.in-Err-Unknown.field-0-is c.in-Err-Unknown.ensures.fault in
    absurd (nothing.3 path audit)

pub returns-in-Err-Unknown-clause-complete_audit : goal.returns-in-Err-Unknown-clause-complete_audit
returns-in-Err-Unknown-clause-complete_audit g c path audit output shelf kept =
    let words = map string_bytes c.args.words.now in
    let nothing = subst (IsFaultOf words) c.in-Err-Unknown.field-0-is c.in-Err-Unknown.ensures.fault in
    absurd (nothing.3 path audit)

pub returns-in-Err-NoMemory-clause-audit : goal.returns-in-Err-NoMemory-clause-audit
returns-in-Err-NoMemory-clause-audit g c path audit = (
  NoMemory,
  record {
    told = NoMemory;
    told_as = refl;
    status_is = c.without_memory-status.ensures.status;
    noted = c.without_memory-status.ensures.noted;
  },
  audit-no_memory g.H.Kept.Keeper.tells g.H.Shelf.tells g.H.Shelf.plan g.H.Shelf.faults g.H.Shelf.kept_faults g.O.Sink.written g.O.Sink.faults
      c.args.shelf.now c.args.output.now,
)

pub returns-in-Err-NoMemory-clause-audit_opens : goal.returns-in-Err-NoMemory-clause-audit_opens
returns-in-Err-NoMemory-clause-audit_opens g c path audit =
    inr refl

pub returns-in-Err-NoMemory-clause-complete_audit : goal.returns-in-Err-NoMemory-clause-complete_audit
returns-in-Err-NoMemory-clause-complete_audit g c path audit output shelf kept =
    inr (inl c.without_memory-status.ensures.status)
