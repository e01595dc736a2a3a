-- What a movement has to do with those before it: which of them a transfer's arrival and a return refer to.
use Rattle.std.proofs.Common.{◌≡◌, ℕ, ◌+◌, ◌≤◌, Bool, true, false, ◌&&◌, not, List, [], ◌∷◌, ◌++◌, refl, sym, ◌∙◌, subst, append_assoc, arith}
use Rattle.std.proofs.lemmas.Bool.Decides.{nat_tests}
use Rattle.std.proofs.lemmas.List.{append-nil}
use Rattle.stock_nums.specs.Causes.{is_entering}
use Rattle.stock_nums.specs.Targets.{is_same_target}
use Rattle.stock_nums.specs.declared.cause.Cause.{Cause}
use Rattle.stock_nums.specs.declared.cause.Cause.TheVariants.{Receipt, Issue, TransferLeaves, TransferEnters, CustomerReturn, SupplierReturn}
use Rattle.stock_nums.specs.declared.cause.Target.{Target}
use Rattle.stock_nums.specs.declared.entry.Entry.{Entry}
use Rattle.stock_model.specs.Conservation.{is_receipt, is_sale, is_sent, is_arrived, is_customer_return}
use Rattle.stock_model.specs.Returns.{returned}
use Rattle.stock_model.specs.Values.{own_line}
use Rattle.stock_model.proofs.Pairwise.{Each}

pub is_same_target-true : (a b : Target) → is_same_target a b ≡ true → a ≡ b
is_same_target-true a b h = grind (arith, nat_tests)

pub is_same_target-refl : (a : Target) → is_same_target a a ≡ true
is_same_target-refl a = grind (arith, nat_tests)

-- the line whose goods the movement moves: a return by a customer moves those of its target
abbrev pub line_by : Entry → Cause → Target
line_by e (CustomerReturn target issued) = target
line_by e _ = own_line e

-- the movement has a cause of this kind and moves goods of such a line
abbrev pub is_by : (Cause → Bool) → (Target → Bool) → Entry → Bool
is_by kind test e = kind e.cause && test (line_by e e.cause)

-- tests of lines: this one, and those that pass but for one
abbrev pub is_line : Target → Target → Bool
is_line line l = is_same_target l line

abbrev pub but_line : (Target → Bool) → Target → Target → Bool
but_line test line l = test l && not (is_same_target l line)

-- the movement is none of this kind of the line
abbrev pub IsNone : (Cause → Bool) → Target → Entry → Type 0
IsNone kind line e = is_by kind (is_line line) e ≡ false

-- if it is of the line and leaves, it is of this kind
abbrev pub LeavesBy : (Cause → Bool) → Target → Entry → Type 0
LeavesBy kind line e = is_same_target (own_line e) line ≡ true → is_entering e.place.side ≡ false → kind e.cause ≡ true

-- if it returns goods of the line, then a customer does, and so many had been issued
abbrev pub IsIssuedBy : Target → ℕ → Cause → Type 0
IsIssuedBy line n (CustomerReturn target issued) = is_same_target target line ≡ true → issued.0 ≡ n
IsIssuedBy line n (SupplierReturn target amount received) = is_same_target target line ≡ false
IsIssuedBy line n _ = Unit {0}

abbrev pub IsIssuedSo : Target → ℕ → Entry → Type 0
IsIssuedSo line n e = IsIssuedBy line n e.cause

-- a line is received once. Nothing of what leaves by a line came back before. A transfer's goods arrive once, after they
-- left. The goods of a sale come back after they left, no more than left by it, and those of a receipt go back, no more
-- than came
abbrev pub IsLinkedBy : List Entry → Entry → Cause → Type 0
IsLinkedBy past e (Receipt amount) = Each (IsNone is_receipt (own_line e)) past
IsLinkedBy past e (Issue sold) = Each (IsNone is_customer_return (own_line e)) past
IsLinkedBy past e TransferLeaves = Each (IsNone is_customer_return (own_line e)) past
IsLinkedBy past e TransferEnters = Each (IsNone is_arrived (own_line e)) past × Each (LeavesBy is_sent (own_line e)) past
IsLinkedBy past e (CustomerReturn target issued) =
    Each (IsIssuedSo target issued.0) past × Each (LeavesBy is_sale target) past × (returned past target + e.qty.0 ≤ issued.0)
IsLinkedBy past e (SupplierReturn target amount received) =
    Each (IsNone is_customer_return (own_line e)) past × (returned past target + e.qty.0 ≤ received.0)

-- the movement is none that leaves by the line
abbrev pub IsNoneLeaving : Target → Entry → Type 0
IsNoneLeaving line e = (is_same_target (own_line e) line && not (is_entering e.place.side)) ≡ false

-- goods leave by a line once
abbrev pub LeavesOnce : List Entry → Entry → Type 0
LeavesOnce past e = is_entering e.place.side ≡ false → Each (IsNoneLeaving (own_line e)) past

abbrev pub IsLinked : List Entry → Entry → Type 0
IsLinked past e = IsLinkedBy past e e.cause × LeavesOnce past e

-- each of the further movements is so linked to those before it
abbrev pub AreLinkedAfter : List Entry → List Entry → Type 0
AreLinkedAfter past [] = Unit {0}
AreLinkedAfter past (e ∷ es) = IsLinked past e × AreLinkedAfter (past ++ e ∷ []) es

-- each that stands between earlier and later ones is linked to the earlier ones
pub AreLinkedAfter-at : (done past : List Entry) (e : Entry) (rest : List Entry) → AreLinkedAfter done (past ++ e ∷ rest) → IsLinked (done ++ past) e
AreLinkedAfter-at done [] e rest linked = subst (λ (es : List Entry). IsLinked es e) (sym (append-nil done)) linked.0
AreLinkedAfter-at done (f ∷ past) e rest linked =
    subst (λ (es : List Entry). IsLinked es e) (append_assoc done (f ∷ []) past) (AreLinkedAfter-at (done ++ f ∷ []) past e rest linked.1)

-- where it is so at each place, it is so of all
pub AreLinkedAfter-from : (done es : List Entry) → ((past : List Entry) (e : Entry) (rest : List Entry) → past ++ e ∷ rest ≡ done ++ es → IsLinked past e) → AreLinkedAfter done es
AreLinkedAfter-from done [] at = tt
AreLinkedAfter-from done (e ∷ es) at = (
  at done e es refl,
  AreLinkedAfter-from (done ++ e ∷ []) es (λ past f rest parts. at past f rest (parts ∙ append_assoc done (e ∷ []) es)),
)
