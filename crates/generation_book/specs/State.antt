-- A book as contracts see it.
use Rattle.std.specs.Prelude.{ℕ, List, []}
use Rattle.stock_model.specs.declared.deeds.Deed.{Deed}
use Rattle.stock_keeper.specs.Calls.{KeeperState, first_state}

-- all that happened to it, with how many events that began, what was tried and refused since the keeper last did what it was asked
-- for, how many calls were made of it, and what the keeper itself tells of them
pub record BookState : Type 0 where
  pub history : List Deed
  pub opened : ℕ
  pub tried : List Deed
  pub calls : ℕ
  pub keeper : KeeperState

-- the empty book, whose keeper never fails
abbrev pub first_book : BookState
first_book = record { history = []; opened = 0; tried = []; calls = 0; keeper = first_state }
