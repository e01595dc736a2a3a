-- What is noted of a book that a lock is made with, and what such a book may become.
use Rattle.std.specs.Prelude.{◌-◌, ◌≤◌, length}
use Rattle.turn_lock.specs.declared.view.Start.{Start}
use Rattle.stock_keeper.specs.Calls.{HasCalled}
use Rattle.generation_book.specs.State.{BookState}

-- which calls of its keeper fail, where that is told, how many there were, and how many events its history had
abbrev pub start_of : BookState → Start
start_of book = record { plan = book.keeper.plan; calls = book.keeper.calls; events = length book.history }

-- no event was lost, the plan stays, and where it is told, there was a call of the keeper at least for each event since
pub record Follows (start : Start) (book : BookState) : Type 0 where
  pub longer : start.events ≤ length book.history
  pub called : HasCalled (length book.history - start.events) start.plan start.calls book.keeper
