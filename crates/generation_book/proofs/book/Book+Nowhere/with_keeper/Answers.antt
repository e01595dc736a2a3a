-- The events tell the history, one each.
use Rattle.std.proofs.Common.{◌≡◌, ap, ◌∙◌, sym, length}
use Rattle.generation_book.specs.State.{BookState}
use Rattle.generation_book.specs.Book.{deeds}
use Rattle.generation_book.proofs.Books.{length-deeds}
use Rattle.generation_book.proofs.book.Book+Nowhere.with_keeper.Goals as goal

pub returns-clause-opened : goal.returns-clause-opened
returns-clause-opened g c =
    let told : deeds c.self.inside.events.items c.self.inside.journal ≡ c.args.self.history = ap (λ (b : BookState). b.history) c.self.view_is in
    ap length c.as_slice.ensures.value ∙ sym (length-deeds c.self.inside.events.items c.self.inside.journal c.self.invariant.0.counted) ∙ ap length told
