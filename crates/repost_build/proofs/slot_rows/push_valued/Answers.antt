-- The next movement's row comes in where it was valued.
use Rattle.std.proofs.Common.{◌≡◌, ◌++◌, cond, Bool, List, [], ◌∷◌, take, sym, ap, ◌∙◌, arith}
use Rattle.std.proofs.lemmas.List.{take_all, append-nil}
use Rattle.stock_nums.specs.declared.entry.Row.{Row}
use Rattle.repost_frontier.specs.declared.slot.Slot.{Slot}
use Rattle.repost_build.specs.Rows.{slot_row, valued_rows}
use Rattle.repost_build.proofs.Rows.{valued-next}
use Rattle.repost_build.proofs.slot_rows.push_valued.Goals as goal
use Rattle.repost_build.proofs.slot_rows.push_valued.Goals.{then-slot+in_ok-push, else-slot}

pub loop-slot-preserved : goal.loop-slot-preserved
loop-slot-preserved c =
    let s = c.slot-item.result in
    let now : c.if-slot.rows ≡ c.loop-slot.rows ++ cond s.is_revalued (slot_row s ∷ []) [] = elim c.if-slot.branch [
      | then-slot+in_ok-push w ↦
          w.rows-is ∙ w.in_ok-push.ensures.added ∙ ap (λ (r : Row). c.loop-slot.rows ++ r ∷ []) w.row_of.ensures
          ∙ ap (λ (b : Bool). c.loop-slot.rows ++ cond b (slot_row s ∷ []) []) (sym w.if-slot.true)
      | else-slot w ↦
          w.rows-is ∙ sym (append-nil c.loop-slot.rows)
          ∙ ap (λ (b : Bool). c.loop-slot.rows ++ cond b (slot_row s ∷ []) []) (sym w.if-slot.false)
    ] in
    valued-next c.args.slots.now c.loop-slot.slot-index s c.loop-slot.rows c.args.rows.now c.if-slot.rows c.loop-slot-test.true c.slot-item.is
    c.loop-slot.invariant now

pub returns : goal.returns
returns c =
    let all : take c.loop-slot.slot-index c.args.slots.now ≡ c.args.slots.now =
    take_all c.loop-slot.slot-index c.args.slots.now (omega (arith, c.loop-slot-test.false)) in
    c.loop-slot.invariant ∙ ap (λ (slots : List Slot). c.args.rows.now ++ valued_rows slots) all
