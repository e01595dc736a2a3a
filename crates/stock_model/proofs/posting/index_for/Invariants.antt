use Rattle.std.proofs.Common.{◌≡◌, ◌++◌, take, drop}
use Rattle.stock_model.specs.PostingOrder.{put}
use Rattle.stock_model.proofs.posting.index_for.Given as goal

abbrev pub invariant-loop-index : goal.invariant-loop-index
invariant-loop-index l = put l.line l.entry ≡ take l.index l.line ++ put (drop l.index l.line) l.entry
