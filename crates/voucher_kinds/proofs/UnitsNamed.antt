-- What the lines of a voucher return, line by line.
use Rattle.std.proofs.Common.{◌≡◌, ℕ, zero, suc, ◌+◌, ◌<◌, ◌≤◌, true, List, [], ◌∷◌, length, drop, refl, sym, subst, add-one, inl, inr, arith}
use Rattle.std.proofs.lemmas.Bool.{cases_lt}
use Rattle.stock_nums.specs.declared.cause.Target.{Target}
use Rattle.stock_nums.specs.declared.line_sums.LineSums.{LineSums}
use Rattle.stock_model.specs.Returns.{units_named}
use Rattle.stock_model.specs.VoucherLines.{Subject, Coded, OfTarget, VoucherLine}
use Rattle.stock_laws.proofs.ReturnedUnits.{units_named-cons}
use Rattle.voucher_kinds.specs.ReturnedUnits.{KeepsRoom, item_has_room, has_room_at, units_named_at}

-- of the rest from an index on: what the line there returns, and what those after it do
units_named-drop_suc : (lines : List VoucherLine) (i : ℕ) (target : Target) → i < length lines
    → units_named (drop i lines) target ≡ units_named_at lines i target + units_named (drop (suc i) lines) target
units_named-drop_suc [] i target within = absurd (omega (arith, within))
units_named-drop_suc (line ∷ lines) zero target within = units_named-cons line lines target
units_named-drop_suc (line ∷ lines) (suc i) target within = units_named-drop_suc lines i target (omega (arith, within))

pub units_named-drop : (lines : List VoucherLine) (i : ℕ) (target : Target) → i < length lines
    → units_named (drop i lines) target ≡ units_named_at lines i target + units_named (drop (i + 1) lines) target
units_named-drop lines i target within =
    subst (λ (k : ℕ). units_named (drop i lines) target ≡ units_named_at lines i target + units_named (drop k lines) target) (sym (add-one i))
    (units_named-drop_suc lines i target within)

-- after the last nothing is returned
pub units_named-end : (lines : List VoucherLine) (i : ℕ) (target : Target) → length lines ≤ i → units_named (drop i lines) target ≡ 0
units_named-end [] zero target after = refl
units_named-end [] (suc i) target after = refl
units_named-end (line ∷ lines) zero target after = absurd (omega (arith, after))
units_named-end (line ∷ lines) (suc i) target after = units_named-end lines i target (omega (arith, after))

-- where there is no line, none wants room
has_room-beyond : (sums : LineSums) (lines : List VoucherLine) (i : ℕ) → length lines ≤ i → has_room_at sums lines i ≡ true
has_room-beyond sums [] zero after = refl
has_room-beyond sums [] (suc i) after = refl
has_room-beyond sums (line ∷ lines) zero after = absurd (omega (arith, after))
has_room-beyond sums (line ∷ lines) (suc i) after = has_room-beyond sums lines i (omega (arith, after))

-- where each line has room there is room at each index
pub has_room-all : (sums : LineSums) (lines : List VoucherLine) → ((i : ℕ) → i < length lines → has_room_at sums lines i ≡ true) → (i : ℕ) → has_room_at sums lines i ≡ true
has_room-all sums lines each i =
    elim (cases_lt i (length lines)) [ inl within ↦ each i within | inr after ↦ has_room-beyond sums lines i after ]

-- where no line loses its room, the line at an index has it still
room_for-kept : (old new : LineSums) (subject : Subject) → KeepsRoom old new → item_has_room old subject ≡ true → item_has_room new subject ≡ true
room_for-kept old new (Coded code) keeps room = refl
room_for-kept old new (OfTarget named) keeps room = keeps named.target room

pub room_at-kept : (old new : LineSums) (lines : List VoucherLine) (i : ℕ) → KeepsRoom old new → has_room_at old lines i ≡ true → has_room_at new lines i ≡ true
room_at-kept old new [] zero keeps room = refl
room_at-kept old new [] (suc i) keeps room = refl
room_at-kept old new (line ∷ lines) zero keeps room = room_for-kept old new line.item keeps room
room_at-kept old new (line ∷ lines) (suc i) keeps room = room_at-kept old new lines i keeps room
