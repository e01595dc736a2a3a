-- The journal of the book is the records of its history.
use Rattle.std.proofs.Common.{◌≡◌, ap, arith}
use Rattle.generation_book.specs.State.{BookState}
use Rattle.generation_book.specs.Book.{deeds}
use Rattle.generation_book.proofs.Books.{history-records, history-accepted}
use Rattle.generation_book.proofs.book.Book.fetch.Goals as goal

pub fetch-requires : goal.fetch-requires
fetch-requires g c =
    let told : deeds c.self.inside.events.items c.self.inside.journal ≡ c.args.self.now.history = ap (λ (b : BookState). b.history) c.self.view_is in
    omega (arith, c.requires, history-accepted _ _ _ _ _ c.args.self.now.history c.self.invariant.0 told)

pub returns : goal.returns
returns g c =
    let told : deeds c.self.inside.events.items c.self.inside.journal ≡ c.args.self.now.history = ap (λ (b : BookState). b.history) c.self.view_is in
    rw (history-records _ _ _ _ _ c.args.self.now.history c.self.invariant.0 told) c.fetch.ensures
