-- What one more charges is marked, and then what all do.
use Rattle.std.proofs.Common.{arith}
use Rattle.std.proofs.lemmas.List.{get_or_default}
use Rattle.stock_nums.specs.declared.entry.Entry.{Entry}
use Rattle.cost_links.specs.declared.charges.Charge.{Charge}
use Rattle.repost_spread.specs.Touches.{IsOfLine}
use Rattle.repost_spread.proofs.TouchingAll.{none-marked, marked-more, all-marked}
use Rattle.repost_spread.proofs.movements.Movements.mark_lines.Goals as goal

abbrev marks : Charge → Entry → Type 0
marks charge f = IsOfLine charge.line f

pub mark_line-requires : goal.mark_line-requires
mark_line-requires c = record { kept = c.loop-charge.invariant.kept }

pub loop-charge-init : goal.loop-charge-init
loop-charge-init c = none-marked marks c.args.charges.now c.args.self.now c.requires.kept

pub loop-charge-preserved : goal.loop-charge-preserved
loop-charge-preserved c =
    marked-more marks c.args.charges.now c.loop-charge.charge-index _ c.args.self.now c.loop-charge.self c.mark_line.new.self
    c.loop-charge-test.true (get_or_default c.args.charges.now c.loop-charge.charge-index _ _ c.loop-charge-test.true)
    c.loop-charge.invariant c.mark_line.ensures

pub returns : goal.returns
returns c =
    all-marked marks c.args.charges.now c.loop-charge.charge-index c.args.self.now c.loop-charge.self
    (omega (arith, c.loop-charge-test.false)) c.loop-charge.invariant
