-- The movements may be taken in the order of their records, and no number is too large.
use Rattle.std.proofs.Common.{◌≡◌, ℤ, pos, ◌-ℤ◌, List, sym, ap, ◌∙◌, to_z, of_z}
use Rattle.std.proofs.lemmas.Int.{to_z-of_z, fits_signed_from_abs}
use mir.Syntax.{w128}
use Rattle.stock_nums.specs.declared.entry.Entry.{Entry}
use Rattle.stock_count.specs.Sides.{held_among}
use Rattle.stock_count.proofs.HeldSums.{held-any_order, difference-small}
use Rattle.stock_count.proofs.holding.difference.Goals as goal

pub returns : goal.returns
returns c at until =
    let journal = c.args.journal.now in
    let line = c.args.line.now in
    let units = to_z w128 (of_z w128 c.held.result) in
    let counted : to_z w128 (of_z w128 c.from.result) ≡ pos line.qty.0 = to_z-of_z w128 c.from.result (record { sfits = c.from.type_inv }) ∙ c.from.ensures in
    let held : units ≡ c.held.result = to_z-of_z w128 c.held.result (record { sfits = c.held.type_inv }) in
    ap (λ (z : ℤ). to_z w128 (of_z w128 (z -ℤ units))) counted
    ∙ ap (λ (z : ℤ). to_z w128 (of_z w128 (pos line.qty.0 -ℤ z))) held
    ∙ to_z-of_z w128 (pos line.qty.0 -ℤ c.held.result) (fits_signed_from_abs w128 (pos line.qty.0 -ℤ c.held.result) (difference-small line.qty.0 c.held.result line.quantity c.held.ensures.small))
    ∙ ap (λ (z : ℤ). pos line.qty.0 -ℤ z)
    (c.held.ensures.held ∙ ap (λ (es : List Entry). held_among journal es line.item line.store) until ∙ sym (held-any_order journal line.item line.store at))
