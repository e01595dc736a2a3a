-- What it marks is what the parts mark, one after another.
use Rattle.std.proofs.Common.{◌≡◌, List, ◌⊎◌, subst}
use Rattle.stock_nums.specs.declared.entry.Entry.{Entry}
use Rattle.repost_laws.specs.Touched.{is_changed}
use Rattle.repost_spread.specs.Movements.{line_of}
use Rattle.repost_spread.specs.Marks.{AreMarked}
use Rattle.repost_spread.specs.Touches.{ComesNext, LeavesNext, ReturnsLater, has_record}
use Rattle.repost_spread.proofs.TouchingMarks.{marked-then}
use Rattle.repost_spread.proofs.movements.Movements.touch_after.Goals as goal

pub returns : goal.returns
returns c =
    let test = is_changed c.args.n.0 (has_record c.args.gone.now) in
    let e = c.args.entry.now in
    let old = c.args.self.now in
    let line = line_of old in
    let first = c.mark_started.new.self in
    let second = c.mark_left.new.self in
    let last = c.mark_returned.new.self in
    let was_first : line_of first ≡ line = c.mark_started.ensures.alike.entries in
    let left : AreMarked first second (LeavesNext test line e) =
    subst (λ (l : List Entry). AreMarked first second (LeavesNext test l e)) was_first c.mark_left.ensures in
    marked-then old first last (ComesNext line e) (λ f. LeavesNext test line e f ⊎ ReturnsLater e f) c.mark_started.ensures
    (marked-then first second last (LeavesNext test line e) (ReturnsLater e) left c.mark_returned.ensures)
