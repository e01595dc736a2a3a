use Rattle.std.proofs.Common.{◌≡◌, drop}
use Rattle.stock_model.specs.PostingOrder.{put_all}
use Rattle.stock_model.proofs.posting.put_all.Given as goal

abbrev pub invariant-loop-entry : goal.invariant-loop-entry
invariant-loop-entry l = put_all l.line (drop l.entry-index l.entries) ≡ put_all l.initial.line l.entries
