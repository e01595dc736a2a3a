use Rattle.std.proofs.Common.{◌≤◌, length, arith}
use Rattle.std.proofs.lemmas.Bool.Decides.{nat_tests}
use Rattle.voucher_json.proofs.FieldForms.{list_within, list_over}
use Rattle.voucher_json.proofs.forms.elements_in.Goals as goal

pub returns-then-len-gt-MAX_LINES-clause-err : goal.returns-then-len-gt-MAX_LINES-clause-err
returns-then-len-gt-MAX_LINES-clause-err c =
    list_over _ _ _ c.in-Some.values.now.items (rw c.in-Some.is at c.as_array.ensures) (omega (arith, c.len.ensures))

pub returns-clause-ok : goal.returns-clause-ok
returns-clause-ok c =
    let least : 1 ≤ length c.in-Some.values.now.items = grind (arith, nat_tests) in
    rw c.as_slice.ensures.value
    (list_within _ _ _ c.in-Some.values.now.items (rw c.in-Some.is at c.as_array.ensures) least (omega (arith, c.len.ensures)))
