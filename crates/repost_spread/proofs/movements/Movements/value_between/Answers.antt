-- The units of one layer are worth its part, and no more than all.
use Rattle.std.proofs.Common.{pos, List, w64, refl, ap, ◌∙◌, subst, arith}
use Rattle.std.proofs.lemmas.Int.{to_z_pos}
use Rattle.stock_nums.specs.declared.entry.Entry.{Entry}
use Rattle.stock_nums.specs.declared.numbers.Minor.{Minor}
use Rattle.repost_frontier.specs.Readings.{found_of}
use Rattle.repost_index.specs.Indexed.{AreIndexed}
use Rattle.repost_index.specs.Layers.{worth_between}
use Rattle.repost_index.proofs.LayerParts.{worth-none, worth-past}
use Rattle.repost_laws.specs.Valuations.{found_value}
use Rattle.repost_spread.specs.Movements.{slots_of}
use Rattle.repost_spread.proofs.TakingLayers.{worth-next, layer-few, layer-begin}
use Rattle.repost_spread.proofs.movements.Movements.value_between.Goals as goal

pub returns-in_default : goal.returns-in_default
returns-in_default g c =
    let none = worth-past g.line c.args.key (found_value (found_of (slots_of c.args.self.now))) c.loop-unit.unit c.args.until.0
    (c.in_default.ensures.none.0 refl) in
    to_z_pos w64 c.loop-unit.value (omega (arith, c.loop-unit.invariant, c.requires.1.1.1))
    ∙ ap pos (omega (arith, none, c.loop-unit.invariant))

pub overflow_add-layer : goal.overflow_add-layer
overflow_add-layer g c =
    let indexed = subst (λ (es : List Entry). AreIndexed es c.args.self.now.index) c.requires.1.0 c.requires.0.indexed in
    omega (
      arith,
      layer-begin g.line c.args.key c.loop-unit.unit c.in-Some.layer indexed.few c.in-Some.ensures.layer,
      layer-few g.line c.args.key c.loop-unit.unit c.in-Some.layer c.in-Some.ensures.layer,
    )

pub overflow_add-value : goal.overflow_add-value
overflow_add-value g c =
    let found = found_of (slots_of c.args.self.now) in
    let indexed = subst (λ (es : List Entry). AreIndexed es c.args.self.now.index) c.requires.1.0 c.requires.0.indexed in
    let all = worth_between g.line c.args.key (found_value found) c.args.from.0 c.args.until.0 in
    let next = worth-next g.line c.args.key found c.loop-unit.unit c.args.until.0 c.min-end.result c.loop-unit.value
    c.unsigned_abs-value.result all c.in-Some.layer c.value_at.result.0 c.part-worth.result.0 c.in-Some.ensures.layer
    indexed.in_order c.loop-unit-test.true c.min-end.ensures (ap (λ (m : Minor). m.0) c.value_at.ensures)
    c.part-worth.ensures.share c.unsigned_abs-value.ensures.value c.loop-unit.invariant c.requires.1.1.1 in
    omega (arith, next, c.requires.1.1.1)

pub loop-unit-preserved : goal.loop-unit-preserved
loop-unit-preserved g c =
    let found = found_of (slots_of c.args.self.now) in
    let indexed = subst (λ (es : List Entry). AreIndexed es c.args.self.now.index) c.requires.1.0 c.requires.0.indexed in
    let all = worth_between g.line c.args.key (found_value found) c.args.from.0 c.args.until.0 in
    let next = worth-next g.line c.args.key found c.loop-unit.unit c.args.until.0 c.min-end.result c.loop-unit.value
    c.unsigned_abs-value.result all c.in-Some.layer c.value_at.result.0 c.part-worth.result.0 c.in-Some.ensures.layer
    indexed.in_order c.loop-unit-test.true c.min-end.ensures (ap (λ (m : Minor). m.0) c.value_at.ensures)
    c.part-worth.ensures.share c.unsigned_abs-value.ensures.value c.loop-unit.invariant c.requires.1.1.1 in
    next

pub returns : goal.returns
returns g c =
    let none = worth-none g.line c.args.key (found_value (found_of (slots_of c.args.self.now))) c.loop-unit.unit c.args.until.0
    (omega (arith, c.loop-unit-test.false)) in
    to_z_pos w64 c.loop-unit.value (omega (arith, c.loop-unit.invariant, c.requires.1.1.1))
    ∙ ap pos (omega (arith, none, c.loop-unit.invariant))
