-- The walk goes from movement to movement, over all units of each, and ends with the last unit or where no more units left.
use Rattle.std.proofs.Common.{List, Contains, refl, subst, arith}
use Rattle.stock_model.specs.InOrder.{IsInPostingOrder}
use Rattle.stock_nums.specs.declared.entry.Entry.{Entry}
use Rattle.repost_index.specs.Indexed.{AreIndexed}
use Rattle.repost_spread.specs.Spreads.{LeavesWithin}
use Rattle.repost_spread.specs.declared.movements.Movements.{Movements}
use Rattle.repost_spread.proofs.TouchingMarks.{unmarked, marked-as, marked-at}
use Rattle.repost_spread.proofs.SpreadingUnits.{IsReached, none-reached, all-reached, rest-reached, step-reached, layer-few_out, layer-begin_out}
use Rattle.repost_spread.proofs.movements.Movements.mark_leaving.Goals as goal

pub loop-unit-init : goal.loop-unit-init
loop-unit-init g c =
    let from = c.args.from.0 in
    record {
      begun = omega arith;
      marked = unmarked c.args.self.now (IsReached g.line c.args.key from c.args.until.0 from) c.requires.0
          (λ f held is. none-reached g.line c.args.key from c.args.until.0 f is);
    }

pub overflow_add-unit : goal.overflow_add-unit
overflow_add-unit g c =
    let indexed = subst (λ (es : List Entry). AreIndexed es c.args.self.now.index) c.requires.1 c.requires.0.indexed in
    omega (
      arith,
      layer-begin_out g.line c.args.key c.loop-unit.unit c.in-Some.layer indexed.few c.in-Some.ensures.layer,
      layer-few_out g.line c.args.key c.loop-unit.unit c.in-Some.layer c.in-Some.ensures.layer,
    )

pub loop-unit-preserved : goal.loop-unit-preserved
loop-unit-preserved g c =
    let line = g.line in
    let layer = c.in-Some.layer in
    let old = c.args.self.now in
    let mid = c.loop-unit.self in
    let new : Movements = record { frontier = c.mark.new.self; index = mid.index; links = mid.links } in
    let were = c.loop-unit.invariant.marked in
    let out = c.in-Some.ensures.layer in
    let in_order = subst IsInPostingOrder c.requires.1 c.requires.0.indexed.in_order in
    record {
      begun = omega (arith, c.loop-unit.invariant.begun, out.ends_later);
      marked = step-reached line c.args.key c.args.from.0 c.args.until.0 c.loop-unit.unit layer in_order out
          c.loop-unit.invariant.begun c.loop-unit-test.true old mid new c.requires.1 were
          (marked-at mid new layer.place were.kept c.mark.ensures.marked refl refl);
    }

pub loop-unit-smaller : goal.loop-unit-smaller
loop-unit-smaller g c = omega (arith, c.in-Some.ensures.layer.ends_later, c.loop-unit-test.true)

pub returns-in_default : goal.returns-in_default
returns-in_default g c =
    let line = g.line in
    let key = c.args.key in
    let from = c.args.from.0 in
    let until = c.args.until.0 in
    let unit = c.loop-unit.unit in
    let in_order = subst IsInPostingOrder c.requires.1 c.requires.0.indexed.in_order in
    marked-as c.args.self.now c.loop-unit.self (IsReached line key from until unit) (LeavesWithin line key from until)
    (λ f held is. is.within)
    (λ f held is. rest-reached line key from until unit f in_order (subst (λ (l : List Entry). Contains l f) c.requires.1 held)
    (c.in_default.ensures.none.0 refl) is)
    c.loop-unit.invariant.marked

pub returns : goal.returns
returns g c =
    let line = g.line in
    let key = c.args.key in
    let from = c.args.from.0 in
    let until = c.args.until.0 in
    let unit = c.loop-unit.unit in
    marked-as c.args.self.now c.loop-unit.self (IsReached line key from until unit) (LeavesWithin line key from until)
    (λ f held is. is.within) (λ f held is. all-reached line key from until unit f c.loop-unit-test.false is)
    c.loop-unit.invariant.marked
