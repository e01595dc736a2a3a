-- The units of the first lack's movement, by how many came before it.
use Rattle.std.proofs.Common.{ℕ, ◌+◌, ◌-◌, Some, Option, ap, sym, ◌∙◌, arith}
use Rattle.std.specs.Option.{option_map}
use Rattle.key_order.specs.declared.change.Lack.{Lack}
use Rattle.layer_ranges.specs.Layers.{units_before}
use Rattle.layer_ranges.specs.declared.layer.Layer.{Layer}
use Rattle.layer_ranges.proofs.Numbering.{layer_by}
use Rattle.layer_ranges.proofs.UnitsMoved.{layer_at-lack, first_lack-bound}
use Rattle.layer_ranges.proofs.ranges.layer_with.Goals as goal

pub overflow_add-result : goal.overflow_add-result
overflow_add-result c =
    let bound = first_lack-bound c.args.units.now.changes c.args.key c.args.unit.0 c.args.lack c.requires.leaving
    c.requires.found in
    omega (arith, bound.1)

pub overflow_sub-result : goal.overflow_sub-result
overflow_sub-result c =
    let bound = first_lack-bound c.args.units.now.changes c.args.key c.args.unit.0 c.args.lack c.requires.leaving
    c.requires.found in
    omega (arith, bound.0, c.count_before-begin.ensures)

pub returns : goal.returns
returns c =
    let cs = c.args.units.now.changes in
    let key = c.args.key in
    let unit = c.args.unit.0 in
    let lack = c.args.lack in
    let layer : ℕ → Layer = λ n.
    record { place = lack.place; begin = record { 0 = n }; qty = record { 0 = unit + lack.lacking.0 - n } } in
    ap (λ (n : ℕ). Some (layer n)) c.count_before-begin.ensures
    ∙ sym (layer_at-lack cs key unit c.requires.leaving
    ∙ ap (λ (o : Option Lack). option_map (layer_by (units_before cs key) unit) o) c.requires.found)
