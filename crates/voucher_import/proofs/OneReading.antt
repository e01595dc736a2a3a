-- A sheet has one fault, or vouchers and no fault.
use Rattle.std.proofs.Common.{◌≡◌, ◌≢◌, ◌<◌, ◌++◌, ◌⊎◌, ℕ, List, [], ◌∷◌, Option, Some, None, Ok, Err, take, get_or, length, inl, inr, refl, sym, ap, ◌∙◌, arith}
use Rattle.std.specs.Prelude.{All, sum_by}
use Rattle.std.proofs.lemmas.List.Elements.{All-head, All-tail}
use Rattle.voucher_import.specs.Rows.{Row, head_row}
use Rattle.voucher_import.specs.RowFaults.{FirstWrong, IsWrong, RowFault, all_fields}
use Rattle.voucher_import.specs.Sheets.{AreRight, HasRows, IsBadAt, IsBadRow, IsSheet}
use Rattle.voucher_import.specs.declared.sheet.SheetField.{SheetField}
use Rattle.voucher_import.specs.declared.sheet.SheetFault.{SheetFault}
use Rattle.voucher_import.specs.declared.sheet.SheetFault.TheVariants.{BadHead, BadRow, NoMemory}
use Rattle.voucher_import.specs.declared.sheet.SheetVoucher.{SheetVoucher}

one_wrong : (wrong : SheetField → Type 0) (fields : List SheetField) (a b : Option SheetField) → FirstWrong wrong fields a → FirstWrong wrong fields b → a ≡ b
one_wrong wrong [] a b is other = is ∙ sym other
one_wrong wrong (field ∷ fields) a b (inl is) (inl other) = is.1 ∙ sym other.1
one_wrong wrong (field ∷ fields) a b (inl is) (inr other) = absurd (other.0 is.0)
one_wrong wrong (field ∷ fields) a b (inr is) (inl other) = absurd (is.0 other.0)
one_wrong wrong (field ∷ fields) a b (inr is) (inr other) = one_wrong wrong fields a b is.1 other.1

one_row_fault : (before : List Row) (row : Row) (a b : Option SheetField) → RowFault before row a → RowFault before row b → a ≡ b
one_row_fault before row a b is other = one_wrong (IsWrong before row) all_fields a b is other

-- a voucher with a wrong row is not right
not_right : (rows : List Row) (place : ℕ) (field : SheetField) → IsBadAt rows place field → ¬ AreRight rows
not_right rows place field bad right =
    absurd (cc (one_row_fault (take place rows) (get_or rows place []) (Some field) None bad.wrong (right place bad.within)))

order : (a b : ℕ) → (a < b) ⊎ ((a ≡ b) ⊎ (b < a))
order a b = grind arith

one_place : (rows : List Row) (a b : ℕ) (x y : SheetField) → IsBadAt rows a x → IsBadAt rows b y → a ≡ b
one_place rows a b x y is other = go (order a b)
  where
    go : (a < b) ⊎ ((a ≡ b) ⊎ (b < a)) → a ≡ b
    go (inl below) = absurd (cc (one_row_fault (take a rows) (get_or rows a []) (Some x) None is.wrong (other.right a below)))
    go (inr (inl same)) = same
    go (inr (inr below)) = absurd (cc (one_row_fault (take b rows) (get_or rows b []) (Some y) None other.wrong (is.right b below)))

one_field : (rows : List Row) (a b : ℕ) (x y : SheetField) → a ≡ b → IsBadAt rows a x → IsBadAt rows b y → x ≡ y
one_field rows a b x y same is other =
    let there : RowFault (take a rows) (get_or rows a []) (Some y) = rw same other.wrong in
    let both = one_row_fault (take a rows) (get_or rows a []) (Some x) (Some y) is.wrong there in
    cc (both)

-- the first voucher that is not right
record IsFirst (before other : List (List Row)) (voucher next : List Row) : Type 0 where
  before_it : before ≡ other
  itself : voucher ≡ next

one_first : (before other after rest : List (List Row)) (voucher next : List Row) → before ++ voucher ∷ after ≡ other ++ next ∷ rest → All AreRight before → All AreRight other
    → ¬ AreRight voucher → ¬ AreRight next → IsFirst before other voucher next
one_first [] [] after rest voucher next same right good bad wrong = record { before_it = refl; itself = cc (same) }
one_first [] (x ∷ other) after rest voucher next same right good bad wrong =
    let front : voucher ≡ x = cc (same) in
    absurd (bad (rw front (All-head AreRight x other good)))
one_first (x ∷ before) [] after rest voucher next same right good bad wrong =
    let front : x ≡ next = cc (same) in
    absurd (wrong (rw (← front) (All-head AreRight x before right)))
one_first (x ∷ before) (y ∷ other) after rest voucher next same right good bad wrong =
    let front : x ≡ y = cc (same) in
    let back : before ++ voucher ∷ after ≡ other ++ next ∷ rest = cc (same) in
    let more = one_first before other after rest voucher next back (All-tail AreRight x before right) (All-tail AreRight y other good) bad wrong in
    record { before_it = cc (front, more.before_it); itself = more.itself }

one_bad_row : (rows : List Row) (m n : ℕ) (x y : SheetField) → IsBadRow rows m x → IsBadRow rows n y → (m ≡ n) × (x ≡ y)
one_bad_row rows m n x y is other =
    let first = one_first is.before other.before is.after other.after is.voucher other.voucher (sym is.are ∙ other.are) is.right other.right
    (not_right is.voucher is.place x is.bad) (not_right other.voucher other.place y other.bad) in
    let there : IsBadAt is.voucher other.place y = rw first.itself other.bad in
    let place = one_place is.voucher is.place other.place x y is.bad there in
    let total : sum_by length is.before ≡ sum_by length other.before = ap (λ (runs : List (List Row)). sum_by length runs) first.before_it in
    let left = is.counted in
    let right = other.counted in
    (omega (arith, left, right, place, total), one_field is.voucher is.place other.place x y place is.bad there)

one_rows : (whole rows others : List Row) → HasRows whole rows → HasRows whole others → rows ≡ others
one_rows whole rows others has had = let same : head_row ∷ rows ≡ head_row ∷ others = sym has ∙ had in cc (same)

-- a sheet has one fault
pub one_fault : (whole : List Row) (a b : SheetFault) → IsSheet whole (Err a) → IsSheet whole (Err b) → a ≢ NoMemory → b ≢ NoMemory → a ≡ b
one_fault whole BadHead BadHead is other told known = refl
one_fault whole BadHead (BadRow n y) is other told known = absurd (is other.0 other.1)
one_fault whole BadHead NoMemory is other told known = absurd (known refl)
one_fault whole (BadRow m x) BadHead is other told known = absurd (other is.0 is.1)
one_fault whole (BadRow m x) (BadRow n y) is other told known =
    let rows = one_rows whole is.0 other.0 is.1 other.1 in
    let there : IsBadRow is.0 n y = rw rows other.2 in
    let both = one_bad_row is.0 m n x y is.2 there in
    cc (both.0, both.1)
one_fault whole (BadRow m x) NoMemory is other told known = absurd (known refl)
one_fault whole NoMemory b is other told known = absurd (told refl)

good_before : (before after : List (List Row)) (voucher : List Row) → All AreRight (before ++ voucher ∷ after) → AreRight voucher
good_before [] after voucher right = All-head AreRight voucher after right
good_before (x ∷ before) after voucher right = good_before before after voucher (All-tail AreRight x (before ++ voucher ∷ after) right)

-- a sheet that says vouchers has no fault
pub no_fault : (whole : List Row) (vouchers : List SheetVoucher) (fault : SheetFault) → IsSheet whole (Ok vouchers) → IsSheet whole (Err fault) → fault ≡ NoMemory
no_fault whole vouchers BadHead is fault = absurd (fault is.0 is.1)
no_fault whole vouchers (BadRow n y) is fault =
    let rows = one_rows whole is.0 fault.0 is.1 fault.1 in
    let bad : IsBadRow is.0 n y = rw rows fault.2 in
    let right : All AreRight (bad.before ++ bad.voucher ∷ bad.after) = rw bad.are at is.2.right in
    absurd (not_right bad.voucher bad.place y bad.bad (good_before bad.before bad.after bad.voucher right))
no_fault whole vouchers NoMemory is fault = refl
