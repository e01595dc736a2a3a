use Rattle.std.proofs.Common.{◌≡◌, fold, take}
use Rattle.stock_keeper.specs.Worths.{AreInOrder, put}
use Rattle.stock_keeper.proofs.worths.put_all.Given as goal

abbrev pub invariant-loop-row : goal.invariant-loop-row
invariant-loop-row l = record {
  all : l.worths.items ≡ fold put l.initial.worths.items (take l.row-index l.rows);
  in_order : AreInOrder l.worths.items;
}
