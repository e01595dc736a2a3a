-- The history has the records of the journal.
use Rattle.std.proofs.Common.{◌≡◌, sym, ap, ◌∙◌}
use Rattle.generation_book.specs.State.{BookState}
use Rattle.generation_book.specs.Book.{deeds}
use Rattle.generation_book.proofs.Books.{history-accepted}
use Rattle.generation_book.proofs.book.Book.accepted.Goals as goal

pub returns-clause-accepted : goal.returns-clause-accepted
returns-clause-accepted g c =
    let told : deeds c.self.inside.events.items c.self.inside.journal ≡ c.args.self.now.history = ap (λ (b : BookState). b.history) c.self.view_is in
    c.count.ensures.count ∙ sym (history-accepted _ _ _ _ _ c.args.self.now.history c.self.invariant.0 told)
