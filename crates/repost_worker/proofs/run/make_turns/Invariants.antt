-- The turns so far each did something, and fewer and fewer can come.
use Rattle.std.proofs.Common.{None}
use Rattle.repost_worker.specs.Published.{Publishes}
use Rattle.repost_worker.specs.Turns.{IsWorkOf}
use Rattle.repost_worker.proofs.Running.{AreMade}
use Rattle.repost_worker.proofs.TurnsAhead.{turns_ahead}
use Rattle.repost_worker.proofs.run.make_turns.Given as goal

abbrev pub invariant-loop-alloc : goal.invariant-loop-alloc
invariant-loop-alloc g l = record {
  work : IsWorkOf l.book.history l.build;
  made : AreMade l.fn.limit l.left l.fn.book.history l.fn.build l.fn.steps l.book.history l.build l.steps;
  publishes : Publishes None l.fn.book.history l.fn.book.keeper l.book.history l.book.keeper;
}

abbrev pub decreases-loop-alloc : goal.decreases-loop-alloc
decreases-loop-alloc g l = turns_ahead l.book.history l.build
