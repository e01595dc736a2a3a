-- The rows that were made beforehand become the generation, and the keeper has what changed last.
use Rattle.std.proofs.Common.{◌≡◌, take, length, List, [], ◌∷◌, ◌++◌, length-append, length-take, ap, ◌∙◌, sym, subst, refl, arith}
use Rattle.stock_nums.specs.declared.entry.Row.{Row}
use Rattle.stock_model.specs.declared.records.Record.{Record}
use Rattle.stock_io.specs.Counts.{raised}
use Rattle.stock_keeper.specs.Changed.{CoversRecords}
use Rattle.stock_keeper.specs.declared.tables.Tables.{Tables}
use Rattle.stock_model.specs.History as history
use Rattle.stock_model.specs.Bounds.{AreBounded}
use Rattle.stock_model.specs.Masters.{heads}
use Rattle.stock_model.specs.Replay.{replay}
use Rattle.stock_model.specs.declared.deeds.Deed.{Deed}
use Rattle.stock_model.specs.declared.deeds.Deed.TheVariants as deed
use Rattle.kept_tables.specs.Kept.{IsKept}
use Rattle.kept_tables.proofs.KeptRecords.{CoversRecords-accepted}
use Rattle.generation_book.specs.State.{BookState}
use Rattle.generation_book.specs.Book.{deeds}
use Rattle.generation_book.specs.declared.events.Event.{Event}
use Rattle.generation_book.specs.declared.events.Event.TheVariants.{Published}
use Rattle.generation_book.proofs.Books.{history-records, history-accepted, history-covered, IsBook-published, AreBounded-first, deeds-published, legal-published}
use Rattle.generation_book.proofs.KeptBooks.{kept-published, kept-unpublished}
use Rattle.generation_book.proofs.OwnFaults.{tried-more, asked-more}
use Rattle.generation_book.proofs.book.Book.publish.Goals as goal

pub publish-requires-clause-within : goal.publish-requires-clause-within
publish-requires-clause-within g c t tells =
    let told : deeds c.self.inside.events.items c.self.inside.journal ≡ c.args.self.now.history = ap (λ (b : BookState). b.history) c.self.view_is in
    let kept = subst (λ (h : List Deed). IsKept (g.K.Keeper.tells c.self.inside.keeper) (g.K.Keeper.may_leave c.self.inside.keeper) h c.self.inside.tried.events) told c.self.invariant.1 in
    subst (λ (ts : Tables). CoversRecords ts c.args.n) (sym (kept.told t tells)) (CoversRecords-accepted c.args.self.now.history c.args.n c.requires.within)

pub slice_bounds-records-end : goal.slice_bounds-records-end
slice_bounds-records-end g c =
    let told : deeds c.self.inside.events.items c.self.inside.journal ≡ c.args.self.now.history = ap (λ (b : BookState). b.history) c.self.view_is in
    let all = history-accepted _ _ _ _ _ c.args.self.now.history c.self.invariant.0 told in
    omega (arith, length-take c.args.n.0 c.records.result.now, ap length c.records.ensures.records, all, c.requires.within)

pub invariant_of-self-in-Err : goal.invariant_of-self-in-Err
invariant_of-self-in-Err g c =
    let told : deeds c.self.inside.events.items c.self.inside.journal ≡ c.args.self.now.history = ap (λ (b : BookState). b.history) c.self.view_is in
    let kept = subst (λ (h : List Deed). IsKept (g.K.Keeper.tells c.self.inside.keeper) (g.K.Keeper.may_leave c.self.inside.keeper) h c.self.inside.tried.events) told c.self.invariant.1 in
    let legal = subst history.IsLegal told c.self.invariant.0.legal in
    let more = legal-published c.args.self.now.history c.args.n legal c.requires.later c.requires.within in
    let now = kept-unpublished c.args.self.now.history c.self.inside.tried.events (g.K.Keeper.tells c.self.inside.keeper) (g.K.Keeper.may_leave c.self.inside.keeper)
    (g.K.Keeper.tells c.publish.new.self) (g.K.Keeper.may_leave c.publish.new.self) kept c.args.n c.args.changed.now c.args.gone.now
    c.in_ok-changes.changes c.requires.later c.requires.changed c.in_ok-changes.ensures more c.in-Err.ensures.tables_kept
    c.in-Err.ensures.crash in
    rw (c.reserve.ensures.items, c.with_published-self-inside.ensures) (
      c.self.invariant.0,
      subst (λ (h : List Deed). IsKept (g.K.Keeper.tells c.publish.new.self) (g.K.Keeper.may_leave c.publish.new.self) h
          (c.self.inside.tried.events ++ deed.Published c.args.n ∷ [])) (sym told) now,
      c.self.invariant.2,
      c.self.invariant.3,
    )

pub returns-in-Err-clause-tried : goal.returns-in-Err-clause-tried
returns-in-Err-clause-tried g c =
    let before : c.self.inside.tried.events ≡ c.args.self.now.tried = ap (λ (b : BookState). b.tried) c.self.view_is in
    tried-more c.in-Err.fault (deed.Published c.args.n) c.args.self.now.tried c.with_published-self-inside.result.events
    (c.with_published-self-inside.ensures ∙ ap (λ (ds : List Deed). ds ++ deed.Published c.args.n ∷ []) before)

pub returns-in-Err-clause-asked : goal.returns-in-Err-clause-asked
returns-in-Err-clause-asked g c =
    let before : c.self.inside.calls ≡ c.args.self.now.calls = ap (λ (b : BookState). b.calls) c.self.view_is in
    asked-more c.in-Err.fault c.args.self.now.calls c.one_more-self-inside.result (c.one_more-self-inside.ensures ∙ ap raised before)

pub invariant_of-self-2 : goal.invariant_of-self-2
invariant_of-self-2 g c =
    let told : deeds c.self.inside.events.items c.self.inside.journal ≡ c.args.self.now.history = ap (λ (b : BookState). b.history) c.self.view_is in
    let held = history-records _ _ _ _ _ c.args.self.now.history c.self.invariant.0 told in
    let all = history-accepted _ _ _ _ _ c.args.self.now.history c.self.invariant.0 told in
    let covers = history-covered _ _ _ _ _ c.args.self.now.history c.self.invariant.0 told in
    let kept = subst (λ (h : List Deed). IsKept (g.K.Keeper.tells c.self.inside.keeper) (g.K.Keeper.may_leave c.self.inside.keeper) h c.self.inside.tried.events) told c.self.invariant.1 in
    let events = c.push_reserved.ensures.items ∙ ap (λ (es : List Event). es ++ Published c.args.n ∷ []) c.reserve.ensures.items in
    let rows : c.in_ok-generation.generation ≡ replay (take c.args.n.0 c.self.inside.journal) =
    c.in_ok-generation.ensures ∙ c.requires.rows
    ∙ ap (λ (rs : List Record). replay (take c.args.n.0 rs)) held in
    let records = ap (take c.args.n.0) c.records.ensures.records in
    let now = kept-published c.args.self.now.history c.self.inside.tried.events (g.K.Keeper.tells c.self.inside.keeper) (g.K.Keeper.may_leave c.self.inside.keeper)
    (g.K.Keeper.tells c.publish.new.self) (g.K.Keeper.may_leave c.publish.new.self) kept c.args.n c.args.changed.now c.args.gone.now
    c.in_ok-changes.changes c.requires.later c.requires.changed c.in_ok-changes.ensures c.in_default.ensures.made
    c.in_default.ensures.durable in
    let longer = ap (λ (h : List Deed). h ++ deed.Published c.args.n ∷ []) told in
    rw (events, c.new-self-inside.ensures) (
      IsBook-published c.self.inside.events.items c.self.inside.journal c.self.inside.movements.entries c.self.inside.covered.0 c.self.inside.rows c.args.n c.in_ok-generation.generation c.self.invariant.0
          (omega (arith, all, c.requires.within)) (omega (arith, covers, c.requires.later)) rows
          (subst AreBounded (sym rows) (AreBounded-first _ _ _ _ _ c.args.n.0 c.self.invariant.0)),
      subst (λ (h : List Deed). IsKept (g.K.Keeper.tells c.publish.new.self) (g.K.Keeper.may_leave c.publish.new.self) h [])
          (sym (deeds-published c.self.inside.events.items c.self.inside.journal c.args.n c.self.invariant.0.counted ∙ longer)) now,
      omega (arith, c.self.invariant.2, length-append c.self.inside.events.items (Published c.args.n ∷ [])),
      c.in_ok-heads.ensures ∙ ap heads records,
    )

pub returns-clause-before : goal.returns-clause-before
returns-clause-before g c =
    let told : deeds c.self.inside.events.items c.self.inside.journal ≡ c.args.self.now.history = ap (λ (b : BookState). b.history) c.self.view_is in
    let held = history-records _ _ _ _ _ c.args.self.now.history c.self.invariant.0 told in
    let covers = history-covered _ _ _ _ _ c.args.self.now.history c.self.invariant.0 told in
    rw (held, covers) (c.in_ok-before.ensures ∙ c.self.invariant.0.valued)

pub returns-clause-published : goal.returns-clause-published
returns-clause-published g c =
    let told : deeds c.self.inside.events.items c.self.inside.journal ≡ c.args.self.now.history = ap (λ (b : BookState). b.history) c.self.view_is in
    let events = c.push_reserved.ensures.items ∙ ap (λ (es : List Event). es ++ Published c.args.n ∷ []) c.reserve.ensures.items in
    rw (events, deeds-published c.self.inside.events.items c.self.inside.journal c.args.n c.self.invariant.0.counted, told) refl

pub returns-clause-legal : goal.returns-clause-legal
returns-clause-legal g c = (invariant_of-self-2 g c).0.legal
