-- The generation is the replay of the covered records.
use Rattle.std.proofs.Common.{◌≡◌, ap}
use Rattle.generation_book.specs.State.{BookState}
use Rattle.generation_book.specs.Book.{deeds}
use Rattle.generation_book.proofs.Books.{history-records, history-covered}
use Rattle.generation_book.proofs.book.Book.rows.Goals as goal

pub returns : goal.returns
returns g c =
    let told : deeds c.self.inside.events.items c.self.inside.journal ≡ c.args.self.now.history = ap (λ (b : BookState). b.history) c.self.view_is in
    let held = history-records _ _ _ _ _ c.args.self.now.history c.self.invariant.0 told in
    let covers = history-covered _ _ _ _ _ c.args.self.now.history c.self.invariant.0 told in
    rw (held, covers) c.self.invariant.0.valued
