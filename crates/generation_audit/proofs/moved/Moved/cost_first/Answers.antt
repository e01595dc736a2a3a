-- The rows that are gone are within what the units cost with the next ones and without, and so the next ones cost the difference.
use Rattle.std.proofs.Common.{◌≡◌, ℕ, ◌+◌, ◌-◌, ◌≤◌, pos, true, drop, take, length, List, sym, ap, ◌∙◌, subst, arith}
use Rattle.std.specs.List.{list_all}
use Rattle.stock_nums.specs.FirstIn.{next_cost}
use Rattle.stock_nums.specs.declared.entry.Row.{Row}
use Rattle.stock_nums.specs.declared.limits.TheConstants.{MAX_VALUE}
use Rattle.stock_nums.proofs.FirstIn.{first_cost-mono}
use Rattle.stock_model.specs.Bounds.{has_value_in_range}
use Rattle.stock_model.specs.Sums.{units_of, value_of}
use Rattle.generation_audit.specs.KeySums.{Sums}
use Rattle.generation_audit.proofs.MovedRows.{next-behind, to_the_end, dropped-pass}
use Rattle.generation_audit.proofs.moved.Moved.cost_first.Goals as goal

-- what all rows pass, those that are not gone pass
passed : (all entered : List Row) (moved : Sums) (gone : ℕ) → all ≡ entered → entered ≡ moved.entered → list_all has_value_in_range moved.entered ≡ true
    → list_all has_value_in_range (take (length all - gone) (drop gone all)) ≡ true
passed all entered moved gone is shown in_range =
    subst (λ (rows : List Row). list_all has_value_in_range rows ≡ true) (sym (to_the_end all gone))
    (dropped-pass has_value_in_range all gone (subst (λ (rows : List Row). list_all has_value_in_range rows ≡ true) (sym (is ∙ shown)) in_range))

pub first_cost-with-requires-clause-small : goal.first_cost-with-requires-clause-small
first_cost-with-requires-clause-small c =
    passed c.as_slice-entered.result.now c.self.inside.entered c.args.self.now c.self.inside.gone c.as_slice-entered.ensures
    (ap (λ (s : Sums). s.entered) c.self.view_is) c.requires.in_range

pub first_cost-without-requires-clause-small : goal.first_cost-without-requires-clause-small
first_cost-without-requires-clause-small c =
    passed c.as_slice-entered.result.now c.self.inside.entered c.args.self.now c.self.inside.gone c.as_slice-entered.ensures
    (ap (λ (s : Sums). s.entered) c.self.view_is) c.requires.in_range

pub overflow_sub-with : goal.overflow_sub-with
overflow_sub-with c =
    let all = c.as_slice-entered.result.now in
    let gone = c.self.inside.gone in
    let taken = c.self.inside.units_out - c.self.inside.gone_units in
    omega (
      arith,
      first_cost-mono units_of value_of (take (length all - gone) (drop gone all)) taken (taken + c.from.result) (omega arith),
      c.first_cost-with.ensures,
      c.first_cost-without.ensures,
    )

pub minor-requires : goal.minor-requires
minor-requires c =
    let all = c.as_slice-entered.result.now in
    let inside = c.self.inside in
    let moved = c.args.self.now in
    let q = c.args.qty.0 in
    let taken = inside.units_out - inside.gone_units in
    let parts : c.first_cost-with.result - c.first_cost-without.result ≡ next_cost units_of value_of (take (length all - inside.gone) (drop inside.gone all)) taken c.from.result =
    omega (arith, c.first_cost-with.ensures, c.first_cost-without.ensures) in
    let told : c.first_cost-with.result - c.first_cost-without.result ≡ next_cost units_of value_of moved.entered moved.units_out q =
    parts
    ∙ ap (λ (rows : List Row). next_cost units_of value_of rows taken c.from.result) (to_the_end all inside.gone ∙ ap (drop inside.gone) c.as_slice-entered.ensures)
    ∙ ap (λ (n : ℕ). next_cost units_of value_of (drop inside.gone inside.entered) taken n) c.from.ensures
    ∙ sym (next-behind inside.entered inside.gone inside.gone_units inside.units_out q c.self.invariant)
    ∙ ap (λ (s : Sums). next_cost units_of value_of s.entered s.units_out q) c.self.view_is in
    subst (λ (n : ℕ). n ≤ MAX_VALUE) (sym told) c.requires.fits

pub returns : goal.returns
returns c =
    let all = c.as_slice-entered.result.now in
    let inside = c.self.inside in
    let moved = c.args.self.now in
    let q = c.args.qty.0 in
    let taken = inside.units_out - inside.gone_units in
    let parts : c.first_cost-with.result - c.first_cost-without.result ≡ next_cost units_of value_of (take (length all - inside.gone) (drop inside.gone all)) taken c.from.result =
    omega (arith, c.first_cost-with.ensures, c.first_cost-without.ensures) in
    let told : c.first_cost-with.result - c.first_cost-without.result ≡ next_cost units_of value_of moved.entered moved.units_out q =
    parts
    ∙ ap (λ (rows : List Row). next_cost units_of value_of rows taken c.from.result) (to_the_end all inside.gone ∙ ap (drop inside.gone) c.as_slice-entered.ensures)
    ∙ ap (λ (n : ℕ). next_cost units_of value_of (drop inside.gone inside.entered) taken n) c.from.ensures
    ∙ sym (next-behind inside.entered inside.gone inside.gone_units inside.units_out q c.self.invariant)
    ∙ ap (λ (s : Sums). next_cost units_of value_of s.entered s.units_out q) c.self.view_is in
    c.minor.ensures ∙ ap pos told
