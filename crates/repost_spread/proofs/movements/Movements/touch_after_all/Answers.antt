-- What comes after one more is marked, and then what comes after all.
use Rattle.std.proofs.Common.{List, Contains, sym, subst, arith}
use Rattle.stock_nums.specs.declared.entry.Entry.{Entry}
use Rattle.repost_laws.specs.Touched.{is_changed}
use Rattle.repost_spread.specs.Marks.{AreMarked}
use Rattle.repost_spread.specs.Movements.{line_of}
use Rattle.repost_spread.specs.Touches.{ComesAfter, has_record}
use Rattle.repost_spread.proofs.TouchingAll.{none-marked, marked-more, all-marked}
use Rattle.repost_spread.proofs.movements.Movements.touch_after_all.Goals as goal

pub touch_after-requires-clause-held : goal.touch_after-requires-clause-held
touch_after-requires-clause-held c =
    subst (λ (line : List Entry). Contains line c.entry-item.result) (sym c.loop-entry.invariant.alike.entries)
    (c.requires.held c.entry-item.result (c.loop-entry.entry-index, c.loop-entry-test.true, sym c.entry-item.is))

pub touch_after-requires-clause-changed : goal.touch_after-requires-clause-changed
touch_after-requires-clause-changed c =
    c.requires.changed c.entry-item.result (c.loop-entry.entry-index, c.loop-entry-test.true, sym c.entry-item.is)

pub loop-entry-init : goal.loop-entry-init
loop-entry-init c =
    none-marked (ComesAfter (is_changed c.args.n.0 (has_record c.args.gone.now)) (line_of c.args.self.now)) c.args.entries.now
    c.args.self.now c.requires.kept

pub loop-entry-preserved : goal.loop-entry-preserved
loop-entry-preserved c =
    let test = is_changed c.args.n.0 (has_record c.args.gone.now) in
    let line = line_of c.args.self.now in
    let own : AreMarked c.loop-entry.self c.touch_after.new.self (ComesAfter test line c.entry-item.result) =
    subst (λ (l : List Entry). AreMarked c.loop-entry.self c.touch_after.new.self (ComesAfter test l c.entry-item.result))
    c.loop-entry.invariant.alike.entries c.touch_after.ensures in
    marked-more (ComesAfter test line) c.args.entries.now c.loop-entry.entry-index c.entry-item.result c.args.self.now c.loop-entry.self
    c.touch_after.new.self c.loop-entry-test.true c.entry-item.is c.loop-entry.invariant own

pub returns : goal.returns
returns c =
    all-marked (ComesAfter (is_changed c.args.n.0 (has_record c.args.gone.now)) (line_of c.args.self.now)) c.args.entries.now
    c.loop-entry.entry-index c.args.self.now c.loop-entry.self (omega (arith, c.loop-entry-test.false)) c.loop-entry.invariant
