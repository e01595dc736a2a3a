-- The movement of the first lack where so many units more are held as the number says, if units lack.
use Rattle.std.proofs.Common.{◌≡◌, ℕ, ◌<◌, ◌^◌, ℤ, pos, List, to_z, w64, None, Option, IfSome, is_some, refl, ap, sym, ◌∙◌, subst, arith}
use Rattle.std.specs.Option.{option_map}
use Rattle.std.proofs.lemmas.Bool.{false≢true}
use Rattle.std.proofs.lemmas.Int.{to_z_pos}
use Rattle.stock_nums.specs.declared.entry.Key.{Key}
use Rattle.key_order.specs.declared.change.Change.{Change}
use Rattle.key_order.specs.Changes.{first_lack}
use Rattle.key_order.specs.declared.change.Lack.{Lack}
use Rattle.layer_ranges.specs.Layers.{layer_at, units_before, HoldsUnit, AreLeaving}
use Rattle.layer_ranges.specs.declared.layer.Layer.{Layer}
use Rattle.layer_ranges.proofs.Numbering.{layer_by}
use Rattle.layer_ranges.proofs.UnitsMoved.{layer_at-lack, layer_at-none, layer_at-some, layer_at-holds, units_of_key-few}
use Rattle.layer_ranges.proofs.ranges.find_unit.Goals as goal

pub returns-then-unit-ge-MANY_UNITS-clause-layer : goal.returns-then-unit-ge-MANY_UNITS-clause-layer
returns-then-unit-ge-MANY_UNITS-clause-layer c =
    let few = units_of_key-few c.args.units.now.changes c.args.key c.requires in
    sym (layer_at-none c.args.units.now.changes c.args.key c.args.unit.0 (omega (arith, few, c.if-unit-ge-MANY_UNITS.true)))

pub returns-then-unit-ge-MANY_UNITS-clause-none : goal.returns-then-unit-ge-MANY_UNITS-clause-none
returns-then-unit-ge-MANY_UNITS-clause-none c =
    let few = units_of_key-few c.args.units.now.changes c.args.key c.requires in
    (λ none. omega (arith, few, c.if-unit-ge-MANY_UNITS.true), λ past. refl)

pub returns-in-Some-clause-holds : goal.returns-in-Some-clause-holds
returns-in-Some-clause-holds c =
    subst (λ (o : Option Layer). IfSome o (HoldsUnit c.args.unit.0)) (sym c.layer_with.ensures)
    (layer_at-holds c.args.units.now.changes c.args.key c.args.unit.0)

pub returns-in-Some-clause-none : goal.returns-in-Some-clause-none
returns-in-Some-clause-none c = (
  λ none. absurd (false≢true (sym none)),
  λ past. absurd
      (false≢true
      (sym (ap is_some (c.layer_with.ensures ∙ layer_at-none c.args.units.now.changes c.args.key c.args.unit.0 past)))),
)

-- a unit that is not past all is none exactly where nothing lacks
none-lacks : (cs : List Change) (key : Key) (unit : ℕ) → AreLeaving cs → unit < 2 ^ 52
    → first_lack cs key None None (to_z w64 unit) ≡ None → layer_at cs key unit ≡ None
none-lacks cs key unit leaving small none =
    let kept : to_z w64 unit ≡ pos unit = to_z_pos w64 unit (omega (arith, small)) in
    let none_lacks : first_lack cs key None None (pos unit) ≡ None = subst
    (λ (z : ℤ). first_lack cs key None None z ≡ None) kept none in
    layer_at-lack cs key unit leaving ∙ ap (λ (o : Option Lack). option_map (layer_by (units_before cs key) unit) o) none_lacks

pub returns-in-None-clause-layer : goal.returns-in-None-clause-layer
returns-in-None-clause-layer c =
    sym (none-lacks c.args.units.now.changes c.args.key c.args.unit.0 c.requires
    (omega (arith, c.if-unit-ge-MANY_UNITS.false)) (sym c.first_lack.ensures ∙ c.in-None.is))

pub returns-in-None-clause-none : goal.returns-in-None-clause-none
returns-in-None-clause-none c =
    let none = none-lacks c.args.units.now.changes c.args.key c.args.unit.0 c.requires
    (omega (arith, c.if-unit-ge-MANY_UNITS.false)) (sym c.first_lack.ensures ∙ c.in-None.is) in
    (λ is. layer_at-some c.args.units.now.changes c.args.key c.args.unit.0 none, λ past. refl)
