-- The rows so far are gone.
use Rattle.std.proofs.Common.{◌-◌, length}
use Rattle.generation_audit.specs.KeySums.{AreGone}
use Rattle.generation_audit.proofs.moved.gone_of.Given as goal

abbrev pub invariant-loop-gone : goal.invariant-loop-gone
invariant-loop-gone l = AreGone l.entered l.gone l.units l.out

abbrev pub decreases-loop-gone : goal.decreases-loop-gone
decreases-loop-gone l = length l.entered - l.gone
