-- What a post over a book is answered, and what it does to the book.
use Rattle.std.specs.Prelude.{ℕ, ◌≡◌, ◌+◌, ◌-◌, ◌^◌, ◌<◌, ◌≤◌, List, ◌++◌}
use Rattle.stock_io.specs.Counts.{NeverFalls}
use Rattle.stock_model.specs.declared.answers.Answer.{Answer}
use Rattle.stock_model.specs.declared.deeds.Deed.{Deed}
use Rattle.stock_model.specs.declared.vouchers.What.{What}
use Rattle.session_laws.specs.Answers.{IsPosted}
use Rattle.session_laws.specs.Exchanges.{store_failures}

-- this desk posted it at this point of the history: the answer there, and the history after it
pub record Posts (desk : ℕ) (old : List Deed) (what : What) (answer : Answer) (new : List Deed) : Type 0 where
  pub kept : List Deed
  pub posted : IsPosted desk old what answer kept
  pub grows : new ≡ old ++ kept

-- The count of faults did not fall, and where the answer tells that what keeps the records failed, it rose. A count of 64 bits
-- that has come to its end tells no more failures.
pub record CountsFailure (answer : Answer) (before now : ℕ) : Type 0 where
  pub never_falls : NeverFalls before now
  pub failed : now < 2 ^ 64 - 1 → store_failures answer + before ≤ now
