-- The records of the history are those of the journal.
use Rattle.std.proofs.Common.{◌≡◌, List, sym, ap, ◌∙◌}
use Rattle.stock_model.specs.declared.records.Record.{Record}
use Rattle.stock_model.specs.Masters.{record_at}
use Rattle.generation_book.specs.State.{BookState}
use Rattle.generation_book.specs.Book.{deeds}
use Rattle.generation_book.proofs.Books.{history-records}
use Rattle.generation_book.proofs.book.Book.at.Goals as goal

pub returns : goal.returns
returns g c =
    let told : deeds c.self.inside.events.items c.self.inside.journal ≡ c.args.self.now.history = ap (λ (b : BookState). b.history) c.self.view_is in
    let held = history-records _ _ _ _ _ c.args.self.now.history c.self.invariant.0 told in
    c.at.ensures ∙ ap (λ (journal : List Record). record_at journal c.args.number.0) (sym held)
