-- One more is marked, and then all are.
use Rattle.std.proofs.Common.{◌≡◌, arith}
use Rattle.stock_nums.specs.declared.entry.Entry.{Entry}
use Rattle.repost_spread.proofs.TouchingAll.{none-marked, marked-more, all-marked}
use Rattle.repost_spread.proofs.movements.Movements.mark_all.Goals as goal

abbrev marks : Entry → Entry → Type 0
marks g f = f.place ≡ g.place

pub mark-requires : goal.mark-requires
mark-requires c = c.loop-entry.invariant.kept

pub loop-entry-init : goal.loop-entry-init
loop-entry-init c = none-marked marks c.args.entries.now c.args.self.now c.requires

pub loop-entry-preserved : goal.loop-entry-preserved
loop-entry-preserved c =
    marked-more marks c.args.entries.now c.loop-entry.entry-index c.entry-item.result c.args.self.now c.loop-entry.self c.mark.new.self
    c.loop-entry-test.true c.entry-item.is c.loop-entry.invariant c.mark.ensures

pub returns : goal.returns
returns c =
    all-marked marks c.args.entries.now c.loop-entry.entry-index c.args.self.now c.loop-entry.self (omega (arith, c.loop-entry-test.false))
    c.loop-entry.invariant
