use Rattle.std.proofs.Common.{refl}
use Rattle.voucher_json.proofs.FieldForms.{other_said}
use Rattle.voucher_json.proofs.forms.no_other.Goals as goal

pub returns-then-has_other : goal.returns-then-has_other
returns-then-has_other c =
    other_said _ _ _ _ _ _ (rw c.in-Some.is at c.as_object.ensures) c.has_other.ensures (rw c.if-has_other.true refl)

pub returns : goal.returns
returns c =
    other_said _ _ _ _ _ _ (rw c.in-Some.is at c.as_object.ensures) c.has_other.ensures (rw c.if-has_other.false refl)
