-- A movement of the line is on one of the sides.
use Rattle.std.proofs.Common.{inl, inr, ◌⊎◌}
use Rattle.stock_nums.specs.declared.place.Side.TheVariants.{Leaves, Enters}
use Rattle.repost_spread.specs.Touches.{IsOfLine, IsOfSide}
use Rattle.repost_spread.proofs.TouchingLines.{of-line}
use Rattle.repost_spread.proofs.TouchingMarks.{marked-as, marked-then}
use Rattle.repost_spread.proofs.movements.Movements.mark_line.Goals as goal

pub returns : goal.returns
returns c =
    let own = c.args.own in
    let first = c.args.self.now in
    let then = c.mark_side.new.self in
    let last = c.mark_side-2.new.self in
    marked-as first last (λ f. IsOfSide own Leaves f ⊎ IsOfSide own Enters f) (IsOfLine own)
    (λ f held is. elim is [ inl one ↦ one.0 | inr other ↦ other.0 ]) (λ f held is. of-line own f is)
    (marked-then first then last (IsOfSide own Leaves) (IsOfSide own Enters) c.mark_side.ensures c.mark_side-2.ensures)
