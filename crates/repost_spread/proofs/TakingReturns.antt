-- How many units were returned, by the movements that return units of a line in any order.
use Rattle.std.proofs.Common.{◌≡◌, ℕ, ◌<◌, ◌^◌, ◌≤◌, Bool, true, false, cond, List, [], ◌∷◌, length, filter, sum_by, refl, sym, ap, ◌∙◌, arith}
use Rattle.std.specs.List.Sorted.{IsPermutation}
use Rattle.std.proofs.lemmas.List.Sorted.{sum_by-IsPermutation}
use Rattle.std.proofs.lemmas.List.Sums.{sum_by-cons}
use Rattle.stock_nums.specs.declared.cause.Cause.{Cause}
use Rattle.stock_nums.specs.declared.cause.Cause.TheVariants.{Receipt, Issue, TransferLeaves, TransferEnters, CustomerReturn, SupplierReturn}
use Rattle.stock_nums.specs.declared.cause.Target.{Target}
use Rattle.stock_nums.specs.declared.entry.Entry.{Entry}
use Rattle.stock_nums.specs.declared.place.Place.{Place}
use Rattle.stock_model.specs.Enough.{entry_units}
use Rattle.stock_model.specs.Returns.{returns_of, returned}
use Rattle.cost_links.specs.Linked.{returns_to, back_by}
use Rattle.cost_links.specs.Sources.{comes_before, units_before}
use Rattle.cost_links.specs.Tables.{Held}
use Rattle.cost_links.specs.Taken.{Taken}
use Rattle.cost_links.specs.declared.links.Links.{Links}
use Rattle.repost_laws.specs.Valuations.{earlier, back_by as back_among}
use Rattle.repost_laws.proofs.Filtered.{filter-swap}
use Rattle.repost_spread.proofs.TakingUnits.{units-few}

-- the units of a movement that comes before the place
abbrev units_if : Place → Entry → ℕ
units_if place e = cond (comes_before place e) (entry_units e) 0

-- those that come before have the units that all have, where others count none
sum_by-if : (place : Place) (es : List Entry) → units_before place es ≡ sum_by (units_if place) es
sum_by-if place [] = refl
sum_by-if place (e ∷ es) = by_cases (comes_before place e) refl (sum_by-if place es)
  where
    by_cases : (b : Bool) → comes_before place e ≡ b → units_before place es ≡ sum_by (units_if place) es
        → sum_by entry_units (cond b (e ∷ filter (comes_before place) es) (filter (comes_before place) es))
        ≡ sum_by (units_if place) (e ∷ es)
    by_cases true is rest =
        let own : units_if place e ≡ entry_units e = ap (λ (b : Bool). cond b (entry_units e) 0) is in
        omega (arith, rest, own, sum_by-cons (units_if place) e es, sum_by-cons entry_units e (filter (comes_before place) es))
    by_cases false is rest =
        let own : units_if place e ≡ 0 = ap (λ (b : Bool). cond b (entry_units e) 0) is in
        omega (arith, rest, own, sum_by-cons (units_if place) e es)

-- in any order they have as many units
returned-found : (line : List Entry) (links : Links) (e : Entry) (target : Target)
    → IsPermutation (returns_to links target) (filter (returns_of target) line)
    → units_before e.place (returns_to links target) ≡ returned (earlier line e) target
returned-found line links e target found =
    sum_by-if e.place (returns_to links target)
    ∙ sym (sum_by-IsPermutation (units_if e.place) (returns_to links target) (filter (returns_of target) line) found)
    ∙ sym (sum_by-if e.place (filter (returns_of target) line))
    ∙ ap (sum_by entry_units) (filter-swap (comes_before e.place) (returns_of target) line)

-- so what was returned before a movement is what earlier movements return
pub back-found : (line : List Entry) (links : Links) (e : Entry) (cause : Cause)
    → ((target : Target) → IsPermutation (returns_to links target) (filter (returns_of target) line))
    → back_by links e.place cause ≡ back_among (earlier line e) cause
back-found line links e (Receipt amount) found = refl
back-found line links e (Issue sold) found = refl
back-found line links e TransferLeaves found = refl
back-found line links e TransferEnters found = refl
back-found line links e (CustomerReturn target issued) found = returned-found line links e target (found target)
back-found line links e (SupplierReturn target amount received) found = returned-found line links e target (found target)

-- and of a line of few movements that fits
back-few : (line : List Entry) (e : Entry) (cause : Cause) → length line ≤ 2 ^ 20
    → back_among (earlier line e) cause ≤ 1_048_576_000_000_000
back-few line e (Receipt amount) few = omega arith
back-few line e (Issue sold) few = omega arith
back-few line e TransferLeaves few = omega arith
back-few line e TransferEnters few = omega arith
back-few line e (CustomerReturn target issued) few = units-few (returns_of target) (comes_before e.place) line few
back-few line e (SupplierReturn target amount received) few = units-few (returns_of target) (comes_before e.place) line few

pub back-fits : (line : List Entry) (links : Links) (e : Entry) → length line ≤ 2 ^ 20
    → ((target : Target) → IsPermutation (returns_to links target) (filter (returns_of target) line))
    → back_by links e.place e.cause < 2 ^ 64
back-fits line links e few found = omega (arith, back-found line links e e.cause found, back-few line e e.cause few)

-- all that is taken over is the same where each part is
pub same-taken : (charged charged_too back back_too : ℕ) (held held_too : Held) (linked linked_too : ℕ) → charged ≡ charged_too
    → back ≡ back_too → held ≡ held_too → linked ≡ linked_too
    → ◌≡◌ {A = Taken} (record { charged = charged; back = back; held = held; linked = linked })
    (record { charged = charged_too; back = back_too; held = held_too; linked = linked_too })
same-taken charged charged_too back back_too held held_too linked linked_too a b c d = cc
