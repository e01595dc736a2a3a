-- The records of the history are those of the journal.
use Rattle.std.proofs.Common.{◌≡◌, sym, ap}
use Rattle.generation_book.specs.State.{BookState}
use Rattle.generation_book.specs.Book.{deeds}
use Rattle.generation_book.proofs.Books.{history-records}
use Rattle.generation_book.proofs.book.Book.journal.Goals as goal

pub returns : goal.returns
returns g c =
    let told : deeds c.self.inside.events.items c.self.inside.journal ≡ c.args.self.now.history = ap (λ (b : BookState). b.history) c.self.view_is in
    sym (history-records _ _ _ _ _ c.args.self.now.history c.self.invariant.0 told)
