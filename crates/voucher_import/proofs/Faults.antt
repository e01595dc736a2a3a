-- What is wrong first with a row, part by part of the fields in their order.
use Rattle.std.proofs.Common.{◌≡◌, ◌≢◌, ◌++◌, ℕ, Bool, true, false, List, [], ◌∷◌, get_or, length, Option, Some, None, inl, inr, refl, sym, ap, ◌∙◌}
use Rattle.std.specs.Prelude.{IsUtf8, bytes_eq, Err}
use Rattle.std.proofs.lemmas.Bool.{false≢true}
use Rattle.std.proofs.lemmas.Slice.Eq.{bytes_eq-Decides}
use Rattle.stock_nums.specs.MomentText.{SpellsMoment}
use Rattle.stock_nums.specs.declared.moment.Moment.{Moment}
use Rattle.voucher_import.specs.Kinds.{kind_of}
use Rattle.voucher_import.specs.Rows.{Row, do_of, at_of, item_of, store_of, to_of, qty_of, amount_of}
use Rattle.voucher_import.specs.RowFaults.{AreOfGroup, FirstWrong, IsPrice, IsWrong, OfKind, RowFault, all_fields, is_number, least_qty, line_fields, start_fields}
use Rattle.voucher_import.specs.declared.kinds.SheetKind.{SheetKind}
use Rattle.voucher_import.specs.declared.kinds.SheetKind.TheVariants as kind
use Rattle.voucher_import.specs.declared.sheet.SheetField.{SheetField}
use Rattle.voucher_import.specs.declared.sheet.SheetField.TheVariants.{Length, Group, Do, At, Item, Store, To, Qty, Amount, Repeat, Many}
use Rattle.voucher_import.specs.Reading.{Checks, Reads}
use Rattle.voucher_import.specs.declared.fields.RowFault.{RowFault as Fault}
use Rattle.voucher_import.specs.declared.fields.RowFault.TheVariants.{Wrong, NoMemory}
use Rattle.stock_nums.specs.declared.limits.TheConstants.{MAX_QUANTITY}
use Rattle.voucher_import.specs.Kinds.{is_count, is_transfer}

-- what is wrong among the first fields is wrong first of all
pub told_early : (wrong : SheetField → Type 0) (xs ys : List SheetField) (field : SheetField) → FirstWrong wrong xs (Some field) → FirstWrong wrong (xs ++ ys) (Some field)
told_early wrong [] ys field h = absurd (cc h)
told_early wrong (x ∷ xs) ys field (inl h) = inl h
told_early wrong (x ∷ xs) ys field (inr h) = inr (h.0, told_early wrong xs ys field h.1)

-- where none of the first fields is wrong, the others tell
pub told_late : (wrong : SheetField → Type 0) (xs ys : List SheetField) (found : Option SheetField) → FirstWrong wrong xs None → FirstWrong wrong ys found → FirstWrong wrong (xs ++ ys) found
told_late wrong [] ys found h late = late
told_late wrong (x ∷ xs) ys found (inl h) late = absurd (cc (h.1))
told_late wrong (x ∷ xs) ys found (inr h) late = inr (h.0, told_late wrong xs ys found h.1 late)

-- texts that are not apart are equal
pub not_apart : (xs ys : List ℕ) → ¬ (¬ (xs ≡ ys)) → xs ≡ ys
not_apart xs ys h = go (bytes_eq xs ys) refl
  where
    go : (b : Bool) → bytes_eq xs ys ≡ b → xs ≡ ys
    go true e = (bytes_eq-Decides xs ys).0 e
    go false e = absurd (h (λ same. false≢true (sym e ∙ (bytes_eq-Decides xs ys).1 same)))

-- a row of the voucher of the first row, which has a kind and a moment
pub starts_right : (before : List Row) (first row : Row) (of_kind : SheetKind) (moment : Moment) → get_or before 0 row ≡ first → length row ≡ 8
    → AreOfGroup first row → kind_of (do_of first) ≡ Some of_kind → SpellsMoment (at_of first) moment
    → FirstWrong (IsWrong before row) start_fields None
starts_right before first row of_kind moment head whole group word spelled =
    let same : AreOfGroup (get_or before 0 row) row = rw head group in
    let kind : kind_of (do_of row) ≡ Some of_kind = rw (group.same_do) word in
    let at : SpellsMoment (at_of row) moment = rw (group.same_at) spelled in
    inr (λ no_whole. no_whole whole, inr (λ no_group. no_group same, inr (λ no_kind. cc (kind, no_kind), inr (λ no_moment. no_moment moment at, refl))))

-- a row of another length
pub tells_length : (before : List Row) (row : Row) → length row ≢ 8 → RowFault before row (Some Length)
unfolding all_fields
tells_length before row other = inl (other, refl)

-- a row that differs from the first of its voucher
pub tells_group : (before : List Row) (first row : Row) → get_or before 0 row ≡ first → length row ≡ 8 → ¬ AreOfGroup first row → RowFault before row (Some Group)
unfolding all_fields
tells_group before first row head whole other =
    let apart : ¬ AreOfGroup (get_or before 0 row) row = rw head other in
    inr (λ no_whole. no_whole whole, inl (apart, refl))

-- the first row of a voucher that has no kind or no moment
pub tells_start : (before : List Row) (row : Row) (field : SheetField) → FirstWrong (IsWrong before row) start_fields (Some field) → RowFault before row (Some field)
unfolding all_fields
tells_start before row field wrong = told_early (IsWrong before row) start_fields (Item ∷ Store ∷ To ∷ Qty ∷ Amount ∷ Repeat ∷ Many ∷ []) field wrong

-- a row whose line is wrong by itself
pub tells_line : {A B : Type 0} (holds : A → Type 0) (is_line : B → Type 0) (before : List Row) (row : Row) (fault : Fault) → FirstWrong (IsWrong before row) start_fields None
    → Checks before row line_fields holds (Err fault) → Checks before row all_fields is_line (Err fault)
unfolding all_fields
tells_line holds is_line before row (Wrong field) start wrong =
    told_late (IsWrong before row) start_fields (Item ∷ Store ∷ To ∷ Qty ∷ Amount ∷ Repeat ∷ Many ∷ []) (Some field) start (told_early (IsWrong before row) line_fields (Repeat ∷ Many ∷ []) field wrong)
tells_line holds is_line before row NoMemory start wrong = tt

-- what may be wrong with a row beside the lines before it
pub tells_last : (before : List Row) (row : Row) (found : Option SheetField) → FirstWrong (IsWrong before row) start_fields None
    → FirstWrong (IsWrong before row) line_fields None → FirstWrong (IsWrong before row) (Repeat ∷ Many ∷ []) found → RowFault before row found
unfolding all_fields
tells_last before row found start line last =
    told_late (IsWrong before row) start_fields (Item ∷ Store ∷ To ∷ Qty ∷ Amount ∷ Repeat ∷ Many ∷ []) found start (told_late (IsWrong before row) line_fields (Repeat ∷ Many ∷ []) found line last)

-- a field that is not wrong, since none is
peel : (wrong : SheetField → Type 0) (x : SheetField) (xs : List SheetField) → FirstWrong wrong (x ∷ xs) None → (¬ wrong x) × FirstWrong wrong xs None
peel wrong x xs (inl h) = absurd (cc (h.1))
peel wrong x xs (inr h) = h

pub record IsNoneWrong (before : List Row) (row : Row) : Type 0 where
  pub group : ¬ IsWrong before row Group
  pub repeat : ¬ IsWrong before row Repeat
  pub many : ¬ IsWrong before row Many

pub none_wrong : (before : List Row) (row : Row) → RowFault before row None → IsNoneWrong before row
unfolding all_fields
none_wrong before row h =
    let wrong = IsWrong before row in
    let a = peel wrong Length (Group ∷ Do ∷ At ∷ Item ∷ Store ∷ To ∷ Qty ∷ Amount ∷ Repeat ∷ Many ∷ []) h in
    let b = peel wrong Group (Do ∷ At ∷ Item ∷ Store ∷ To ∷ Qty ∷ Amount ∷ Repeat ∷ Many ∷ []) a.1 in
    let d = peel wrong Do (At ∷ Item ∷ Store ∷ To ∷ Qty ∷ Amount ∷ Repeat ∷ Many ∷ []) b.1 in
    let e = peel wrong At (Item ∷ Store ∷ To ∷ Qty ∷ Amount ∷ Repeat ∷ Many ∷ []) d.1 in
    let f = peel wrong Item (Store ∷ To ∷ Qty ∷ Amount ∷ Repeat ∷ Many ∷ []) e.1 in
    let i = peel wrong Store (To ∷ Qty ∷ Amount ∷ Repeat ∷ Many ∷ []) f.1 in
    let j = peel wrong To (Qty ∷ Amount ∷ Repeat ∷ Many ∷ []) i.1 in
    let k = peel wrong Qty (Amount ∷ Repeat ∷ Many ∷ []) j.1 in
    let l = peel wrong Amount (Repeat ∷ Many ∷ []) k.1 in
    let m = peel wrong Repeat (Many ∷ []) l.1 in
    let n = peel wrong Many [] m.1 in
    record { group = b.0; repeat = m.0; many = n.0 }

-- only a count has the lines of a count
pub count_only : (of_kind : SheetKind) → is_count of_kind ≡ true → of_kind ≡ kind.Count
count_only kind.Receipt e = absurd (false≢true e)
count_only kind.Sold e = absurd (false≢true e)
count_only kind.Used e = absurd (false≢true e)
count_only kind.Transfer e = absurd (false≢true e)
count_only kind.Count e = refl

pub not_true : (b : Bool) → ¬ (b ≡ true) → b ≡ false
not_true true h = absurd (h refl)
not_true false h = refl

-- the second warehouse of a transfer is a code
pub to_right : (before : List Row) (row : Row) (of_kind : SheetKind) → is_transfer of_kind ≡ true → kind_of (do_of row) ≡ Some of_kind → IsUtf8 (to_of row) → ¬ IsWrong before row To
to_right before row kind.Receipt e word code = absurd (false≢true e)
to_right before row kind.Sold e word code = absurd (false≢true e)
to_right before row kind.Used e word code = absurd (false≢true e)
to_right before row kind.Transfer e word code = λ wrong. (rw word at wrong) code
to_right before row kind.Count e word code = absurd (false≢true e)

-- the quantity of a transfer
pub qty_right : (before : List Row) (row : Row) (of_kind : SheetKind) → is_transfer of_kind ≡ true → kind_of (do_of row) ≡ Some of_kind → is_number 1 MAX_QUANTITY (qty_of row) ≡ true
    → ¬ IsWrong before row Qty
qty_right before row kind.Receipt e word told = absurd (false≢true e)
qty_right before row kind.Sold e word told = absurd (false≢true e)
qty_right before row kind.Used e word told = absurd (false≢true e)
qty_right before row kind.Transfer e word told = λ wrong. false≢true (sym (rw word at wrong) ∙ told)
qty_right before row kind.Count e word told = absurd (false≢true e)

-- the price of a transfer
pub price_right : (before : List Row) (row : Row) (of_kind : SheetKind) → is_transfer of_kind ≡ true → kind_of (do_of row) ≡ Some of_kind → amount_of row ≡ []
    → ¬ IsWrong before row Amount
price_right before row kind.Receipt e word none = absurd (false≢true e)
price_right before row kind.Sold e word none = absurd (false≢true e)
price_right before row kind.Used e word none = absurd (false≢true e)
price_right before row kind.Transfer e word none = λ wrong. (rw word at wrong) none
price_right before row kind.Count e word none = absurd (false≢true e)

-- a transfer with a wrong quantity
pub qty_wrong : {A B : Type 0} (holds : A → Type 0) (is_line : B → Type 0) (before : List Row) (row : Row) (of_kind : SheetKind) (fault : Fault) (text : List ℕ)
    → is_transfer of_kind ≡ true → kind_of (do_of row) ≡ Some of_kind → IsUtf8 (item_of row) → IsUtf8 (store_of row) → IsUtf8 (to_of row)
    → text ≡ qty_of row → Reads Qty (is_number 1 MAX_QUANTITY text ≡ true) holds (Err fault) → Checks before row line_fields is_line (Err fault)
qty_wrong holds is_line before row of_kind NoMemory text e word item store to same wrong = tt
qty_wrong holds is_line before row kind.Receipt (Wrong field) text e word item store to same wrong = absurd (false≢true e)
qty_wrong holds is_line before row kind.Sold (Wrong field) text e word item store to same wrong = absurd (false≢true e)
qty_wrong holds is_line before row kind.Used (Wrong field) text e word item store to same wrong = absurd (false≢true e)
qty_wrong holds is_line before row kind.Count (Wrong field) text e word item store to same wrong = absurd (false≢true e)
qty_wrong holds is_line before row kind.Transfer (Wrong field) text e word item store to same wrong =
    let none : OfKind row (λ k. is_number (least_qty k) MAX_QUANTITY (qty_of row) ≡ false) = rw word (not_true _ (λ told. wrong.1 (rw same told))) in
    inr (λ n. n item, inr (λ n. n store, inr (to_right before row kind.Transfer e word to, inl (none, ap Some wrong.0))))

-- a transfer with a price
pub price_wrong : {A B : Type 0} (holds : A → Type 0) (is_line : B → Type 0) (before : List Row) (row : Row) (of_kind : SheetKind) (fault : Fault) (text : List ℕ)
    → is_transfer of_kind ≡ true → kind_of (do_of row) ≡ Some of_kind → IsUtf8 (item_of row) → IsUtf8 (store_of row) → IsUtf8 (to_of row) → is_number 1 MAX_QUANTITY (qty_of row) ≡ true
    → text ≡ amount_of row → Reads Amount (text ≡ []) holds (Err fault) → Checks before row line_fields is_line (Err fault)
price_wrong holds is_line before row of_kind NoMemory text e word item store to qty same wrong = tt
price_wrong holds is_line before row kind.Receipt (Wrong field) text e word item store to qty same wrong = absurd (false≢true e)
price_wrong holds is_line before row kind.Sold (Wrong field) text e word item store to qty same wrong = absurd (false≢true e)
price_wrong holds is_line before row kind.Used (Wrong field) text e word item store to qty same wrong = absurd (false≢true e)
price_wrong holds is_line before row kind.Count (Wrong field) text e word item store to qty same wrong = absurd (false≢true e)
price_wrong holds is_line before row kind.Transfer (Wrong field) text e word item store to qty same wrong =
    let one : OfKind row (λ k. ¬ IsPrice k (amount_of row)) = rw word (λ none. wrong.1 (same ∙ none)) in
    inr (λ n. n item, inr (λ n. n store, inr (to_right before row kind.Transfer e word to, inr (qty_right before row kind.Transfer e word qty, inl (one, ap Some wrong.0)))))
