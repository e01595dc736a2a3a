-- The copies so far, and the records in the blocks that are left, are those in all blocks.
use Rattle.std.proofs.Common.{◌≡◌, ◌++◌, drop}
use Rattle.std.specs.List.{flat_map}
use Rattle.report_mirror.proofs.record_blocks.copies_of.Given as goal

abbrev pub invariant-loop-block : goal.invariant-loop-block
invariant-loop-block l = l.records ++ flat_map (λ block. block) (drop l.block-index l.blocks) ≡ flat_map (λ block. block) l.blocks
