-- No more is covered than was accepted.
use Rattle.std.proofs.Common.{◌≡◌, ap}
use Rattle.generation_book.specs.State.{BookState}
use Rattle.generation_book.specs.Book.{deeds}
use Rattle.generation_book.proofs.Books.{history-accepted, history-covered}
use Rattle.generation_book.proofs.book.Book.covered.Goals as goal

pub returns-clause-within : goal.returns-clause-within
returns-clause-within g c =
    let told : deeds c.self.inside.events.items c.self.inside.journal ≡ c.args.self.now.history = ap (λ (b : BookState). b.history) c.self.view_is in
    rw (history-accepted _ _ _ _ _ c.args.self.now.history c.self.invariant.0 told, history-covered _ _ _ _ _ c.args.self.now.history c.self.invariant.0 told) c.self.invariant.0.within
