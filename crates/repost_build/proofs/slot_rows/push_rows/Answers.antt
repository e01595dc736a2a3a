-- The next movement's row comes in.
use Rattle.std.proofs.Common.{◌≡◌, ◌++◌, List, [], ◌∷◌, map, take, ap, ◌∙◌, arith}
use Rattle.std.proofs.lemmas.List.{take_all}
use Rattle.stock_nums.specs.declared.entry.Row.{Row}
use Rattle.repost_frontier.specs.declared.slot.Slot.{Slot}
use Rattle.repost_build.specs.Rows.{slot_row}
use Rattle.repost_build.proofs.Rows.{rows-next}
use Rattle.repost_build.proofs.slot_rows.push_rows.Goals as goal

pub loop-slot-preserved : goal.loop-slot-preserved
loop-slot-preserved c =
    let s = c.slot-item.result in
    let now = c.in_ok-push.ensures.added ∙ ap (λ (r : Row). c.loop-slot.rows ++ r ∷ []) c.row_of.ensures in
    rows-next c.args.slots.now c.loop-slot.slot-index s c.loop-slot.rows c.args.rows.now c.push.new.self c.loop-slot-test.true c.slot-item.is
    c.loop-slot.invariant now

pub returns : goal.returns
returns c =
    let all : take c.loop-slot.slot-index c.args.slots.now ≡ c.args.slots.now =
    take_all c.loop-slot.slot-index c.args.slots.now (omega (arith, c.loop-slot-test.false)) in
    c.loop-slot.invariant ∙ ap (λ (slots : List Slot). c.args.rows.now ++ map slot_row slots) all
