-- Each movement adds what it changes.
use Rattle.std.proofs.Common.{◌≡◌, ◌+◌, ◌*◌, ◌≤◌, ℤ, ◌+ℤ◌, unsigned_abs, length, drop, sym, ap, ◌∙◌, subst, arith, to_z, of_z, to_z-of_z, w64}
use Rattle.key_order.specs.Changes.{changes_of, held_with}
use Rattle.quantity_check.proofs.HeldSums.{held_with-step, abs-step, fits-step}
use Rattle.quantity_check.proofs.changes.held_with.Goals as goal

pub loop-entry-preserved : goal.loop-entry-preserved
loop-entry-preserved c =
    let held = to_z w64 c.loop-entry.held-bits in
    let units = c.units_until-held.result in
    let i = c.loop-entry.entry-index in
    let within = c.loop-entry-test.true in
    let units_kept : to_z w64 (of_z w64 units) ≡ units = to_z-of_z {w = w64} {z = units} (record { sfits = omega (arith, c.units_until-held.ensures.bound) }) in
    let bound : unsigned_abs (held +ℤ units) ≤ (i + 1) * 1_000_000_000 = abs-step held units i c.loop-entry.invariant.bound c.units_until-held.ensures.bound in
    let sum_kept : to_z w64 (of_z w64 (held +ℤ units)) ≡ held +ℤ units = to_z-of_z {w = w64} {z = held +ℤ units} (fits-step (held +ℤ units) i (length c.args.entries.now) within c.requires bound) in
    let value = held_with-step c.args.entries.now i c.entry-item.result c.args.key.now c.args.place.now held (held_with (changes_of c.args.entries.now) c.args.key.now c.args.place.now) within c.entry-item.is c.loop-entry.invariant.value in
    let told : to_z w64 (of_z w64 (held +ℤ to_z w64 (of_z w64 units))) ≡ held +ℤ units = ap (λ (z : ℤ). to_z w64 (of_z w64 (held +ℤ z))) units_kept ∙ sum_kept in
    record {
      value = ap (λ (z : ℤ). z +ℤ held_with (changes_of (drop (i + 1) c.args.entries.now)) c.args.key.now c.args.place.now) (told ∙ ap (λ (z : ℤ). held +ℤ z) c.units_until-held.ensures.value) ∙ value;
      bound = subst (λ (z : ℤ). unsigned_abs z ≤ (i + 1) * 1_000_000_000) (sym told) bound;
    }
