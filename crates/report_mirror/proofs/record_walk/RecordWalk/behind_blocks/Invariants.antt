-- The records of the blocks so far, and those that are to come, are all that were to come.
use Rattle.std.proofs.Common.{◌≡◌, ◌++◌, take}
use Rattle.std.specs.List.{flat_map}
use Rattle.report_mirror.proofs.record_walk.RecordWalk.behind_blocks.Given as goal

abbrev pub invariant-loop-block : goal.invariant-loop-block
invariant-loop-block l = flat_map (λ block. block) (take l.block-index l.blocks) ++ l.walk ≡ l.initial.walk
