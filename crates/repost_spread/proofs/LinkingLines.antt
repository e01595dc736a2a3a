-- What enters by a transfer, and what customers return of a line.
use Rattle.std.proofs.Common.{◌≡◌, Bool, true, ◌↔◌, refl, sym, ap, ◌∙◌, subst}
use Rattle.std.proofs.lemmas.Bool.{false≢true}
use Rattle.stock_nums.specs.Causes.{has_side, is_entering}
use Rattle.stock_nums.specs.Targets.{is_same_target}
use Rattle.stock_nums.specs.contracts.cause.CausePartialEq.TheImpl as cause_equality
use Rattle.stock_nums.specs.declared.cause.Cause.{Cause}
use Rattle.stock_nums.specs.declared.cause.Cause.TheVariants.{Receipt, Issue, TransferLeaves, TransferEnters, CustomerReturn, SupplierReturn}
use Rattle.stock_nums.specs.declared.cause.Target.{Target}
use Rattle.stock_nums.specs.declared.entry.Entry.{Entry}
use Rattle.stock_nums.specs.declared.numbers.Qty.{Qty}
use Rattle.stock_nums.specs.declared.place.Side.{Side}
use Rattle.stock_nums.specs.declared.place.Side.TheVariants.{Leaves, Enters}
use Rattle.stock_model.specs.Conservation.{is_customer_return}
use Rattle.stock_model.specs.Returns.{is_return_of}
use Rattle.stock_laws.proofs.Conserving.{side-is}
use Rattle.stock_laws.proofs.Linked.{is_same_target-true, is_same_target-refl}

-- how a comparison with the side of a transfer that enters ends
pub is-arriving : (c : Cause) (b : Bool) → b ≡ (cause_equality.ghosts).eq c TransferEnters → (b ≡ true) ↔ (c ≡ TransferEnters)
is-arriving (Receipt amount) b is = (λ h. absurd (false≢true (sym is ∙ h)), λ h. cc)
is-arriving (Issue sold) b is = (λ h. absurd (false≢true (sym is ∙ h)), λ h. cc)
is-arriving TransferLeaves b is = (λ h. absurd (false≢true (sym is ∙ h)), λ h. cc)
is-arriving TransferEnters b is = (λ _. refl, λ _. is)
is-arriving (CustomerReturn target issued) b is = (λ h. absurd (false≢true (sym is ∙ h)), λ h. cc)
is-arriving (SupplierReturn target amount received) b is = (λ h. absurd (false≢true (sym is ∙ h)), λ h. cc)

-- what enters by a transfer stands on the side that enters
pub arrives-entering : (f : Entry) → f.cause ≡ TransferEnters → f.place.side ≡ Enters
arrives-entering f is =
    by_side f.place.side (side-is true f.place.side (subst (λ (c : Cause). has_side c f.place.side ≡ true) is f.sides))
  where
    by_side : (s : Side) → is_entering s ≡ true → s ≡ Enters
    by_side Leaves h = absurd (false≢true h)
    by_side Enters h = refl

-- the cause is a customer's return of the line
abbrev pub IsBackOf : Target → Cause → Type 0
IsBackOf own cause = (target : Target) × (issued : Qty) × (cause ≡ CustomerReturn target issued) × (target ≡ own)

pub back-of : (own : Target) (cause : Cause) → is_customer_return cause ≡ true → is_return_of own cause ≡ true → IsBackOf own cause
back-of own (Receipt amount) back of = absurd (false≢true back)
back-of own (Issue sold) back of = absurd (false≢true back)
back-of own TransferLeaves back of = absurd (false≢true back)
back-of own TransferEnters back of = absurd (false≢true back)
back-of own (CustomerReturn target issued) back of = (target, issued, refl, is_same_target-true target own of)
back-of own (SupplierReturn target amount received) back of = absurd (false≢true back)

pub of-back : (own : Target) (cause : Cause) → IsBackOf own cause → is_return_of own cause ≡ true
of-back own cause is =
    ap (is_return_of own) is.2 ∙ ap (λ (t : Target). is_same_target t own) is.3 ∙ is_same_target-refl own
