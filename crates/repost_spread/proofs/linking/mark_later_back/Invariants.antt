-- The rest marked gives what all give.
use Rattle.std.proofs.Common.{◌≡◌, drop}
use Rattle.repost_spread.specs.Spreads.{is_back_after}
use Rattle.repost_spread.specs.Touches.{passing_marked}
use Rattle.repost_spread.proofs.linking.mark_later_back.Given as goal

abbrev pub invariant-loop-other : goal.invariant-loop-other
invariant-loop-other l =
    passing_marked (is_back_after l.place) l.frontier.slots (drop l.other-index l.movements)
    ≡ passing_marked (is_back_after l.place) l.fn.frontier.slots l.movements
