-- The units that left before and those that the movement takes are few, and what it takes over are those with its numbers.
use Rattle.std.proofs.Common.{◌≤◌, ℕ, pos, List, sym, ap, ◌∙◌, subst, arith}
use Rattle.stock_nums.specs.declared.entry.Entry.{Entry}
use Rattle.stock_nums.specs.declared.limits.TheConstants.{MAX_VALUE}
use Rattle.stock_model.specs.Enough.{entry_key, leaves_under}
use Rattle.cost_links.specs.Sources.{comes_before}
use Rattle.repost_frontier.specs.Readings.{found_of}
use Rattle.repost_index.specs.Indexed.{AreIndexed}
use Rattle.repost_spread.specs.Movements.{slots_of}
use Rattle.repost_spread.proofs.TakingUnits.{units-few}
use Rattle.repost_spread.proofs.TakingLayers.{worth-taken}
use Rattle.repost_spread.proofs.movements.Movements.units_value.Goals as goal

pub overflow_add-from : goal.overflow_add-from
overflow_add-from g c =
    let e = c.args.entry.now in
    let indexed = subst (λ (es : List Entry). AreIndexed es c.args.self.now.index) c.requires.1.0 c.requires.0.indexed in
    omega (
      arith,
      c.left_before-from.ensures,
      units-few (leaves_under (entry_key e)) (comes_before e.place) g.line indexed.few,
      e.quantity.1,
    )

pub value_between-requires : goal.value_between-requires
value_between-requires g c =
    let e = c.args.entry.now in
    let found = found_of (slots_of c.args.self.now) in
    let indexed = subst (λ (es : List Entry). AreIndexed es c.args.self.now.index) c.requires.1.0 c.requires.0.indexed in
    let taken = worth-taken g.line e found c.left_before-from.result.0 indexed.in_order
    c.requires.1.1.1.1.0 c.requires.1.1.0 c.requires.1.1.1.0 c.in-Fifo.is c.left_before-from.ensures in
    (c.requires.0, (c.requires.1.0, (c.requires.1.1.1.1.1.0, subst (λ (n : ℕ). n ≤ MAX_VALUE) taken c.requires.1.1.1.1.1.1)))

pub returns-in-Fifo : goal.returns-in-Fifo
returns-in-Fifo g c =
    let e = c.args.entry.now in
    let found = found_of (slots_of c.args.self.now) in
    let indexed = subst (λ (es : List Entry). AreIndexed es c.args.self.now.index) c.requires.1.0 c.requires.0.indexed in
    c.value_between.ensures
    ∙ ap pos (sym (worth-taken g.line e found c.left_before-from.result.0 indexed.in_order
    c.requires.1.1.1.1.0 c.requires.1.1.0 c.requires.1.1.1.0 c.in-Fifo.is c.left_before-from.ensures))
