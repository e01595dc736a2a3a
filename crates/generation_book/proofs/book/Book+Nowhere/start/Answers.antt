-- The empty book.
use Rattle.std.proofs.Common.{refl, arith}
use Rattle.generation_book.proofs.Books.{IsBook-start}
use Rattle.generation_book.proofs.book.Book+Nowhere.start.Goals as goal

pub invariant_of-result : goal.invariant_of-result
invariant_of-result c = (
  rw (c.new-4.ensures.items, c.new-3.ensures, c.new-5.ensures, c.new-6.ensures) IsBook-start,
  record { told = λ t told. absurd told; left = λ t may. absurd may },
  omega arith,
  rw c.new-7.ensures refl,
)
