-- The lines of a count are of different items or warehouses.
use Rattle.std.proofs.Common.{◌≡◌, ◌<◌, ◌&&◌, ◌++◌, Bool, true, false, List, [], ◌∷◌, get_or, length, Some, None, refl, sym, subst, ◌∙◌, append_assoc, arith}
use Rattle.std.specs.Prelude.{bytes_eq}
use Rattle.std.specs.Cmp.{IsEquivalence}
use Rattle.std.specs.List.{AllZip, IsDistinct, list_any}
use Rattle.std.proofs.lemmas.Bool.{false≢true}
use Rattle.std.proofs.lemmas.Cmp.{nat_list_eq_equiv}
use Rattle.std.proofs.lemmas.List.{append-nil}
use Rattle.std.proofs.lemmas.Map.Keys.{IsDistinct-push}
use Rattle.std.proofs.lemmas.Slice.Zip.{all_zipped_more}
use Rattle.std.proofs.Math.Seq.{get_or-append_seam, take-append_seam}
use Rattle.voucher_import.specs.CountKeys.{has_same_key}
use Rattle.voucher_import.specs.Kinds.{kind_of}
use Rattle.voucher_import.specs.Rows.{Row, do_of}
use Rattle.voucher_import.specs.RowFaults.{RowFault, has_same_place}
use Rattle.voucher_import.specs.SheetVouchers.{IsCountLine}
use Rattle.voucher_import.specs.Sheets.{AreRight}
use Rattle.voucher_import.specs.declared.kinds.SheetKind.TheVariants as kind
use Rattle.voucher_import.specs.declared.sheet.CountLine.{CountLine}
use Rattle.voucher_import.proofs.Faults.{none_wrong, not_apart, not_true}

-- a line is of the item and the warehouse of an earlier one where its row is
pub same_places : (row : Row) (line : CountLine) (rows : List Row) (lines : List CountLine) → IsCountLine row line → AllZip IsCountLine rows lines
    → list_any (has_same_key line) lines ≡ list_any (has_same_place row) rows
same_places row line [] [] one are = refl
same_places row line [] (x ∷ lines) one are = absurd are
same_places row line (r ∷ rows) [] one are = absurd are
same_places row line (r ∷ rows) (x ∷ lines) one are =
    rw (one.item, one.store, are.0.item, are.0.store, same_places row line rows lines one are.1) refl

both : (a b : Bool) → (a && b) ≡ true → (a ≡ true) × (b ≡ true)
both true true e = (refl, refl)
both true false e = absurd (false≢true e)
both false b e = absurd (false≢true e)

key_equivalence : IsEquivalence has_same_key
key_equivalence = record {
  refl = λ x. rw (nat_list_eq_equiv.refl x.item, nat_list_eq_equiv.refl x.store) refl;
  symm = λ x y. rw (nat_list_eq_equiv.symm x.item y.item, nat_list_eq_equiv.symm x.store y.store) refl;
  congr = λ x y z same.
      let parts = both (bytes_eq x.item y.item) (bytes_eq x.store y.store) same in
      rw (nat_list_eq_equiv.congr x.item y.item z.item parts.0, nat_list_eq_equiv.congr x.store y.store z.store parts.1) refl;
}

first_of : (done : List Row) (row : Row) (rest : List Row) → get_or (done ++ row ∷ rest) 0 [] ≡ get_or done 0 row
first_of [] row rest = refl
first_of (x ∷ done) row rest = refl

-- a right row of a count is of no item and warehouse of an earlier one
apart : (done : List Row) (row : Row) (rest : List Row) → AreRight (done ++ row ∷ rest) → kind_of (do_of (get_or (done ++ row ∷ rest) 0 [])) ≡ Some kind.Count
    → list_any (has_same_place row) done ≡ false
apart done row rest right word =
    let whole = done ++ row ∷ rest in
    let at = right (length done) (within done row rest) in
    let here : RowFault done row None = rw (take-append_seam done (row ∷ rest), get_or-append_seam done row rest []) at at in
    let none = none_wrong done row here in
    let same : do_of row ≡ do_of (get_or done 0 row) = not_apart _ _ (λ other. none.group (λ group. other group.same_do)) in
    let first : kind_of (do_of (get_or done 0 row)) ≡ Some kind.Count = rw (first_of done row rest) at word in
    not_true _ (λ again. none.repeat (rw same first, again))
  where
    within : (xs : List Row) (x : Row) (ys : List Row) → length xs < length (xs ++ x ∷ ys)
    within [] x ys = omega arith
    within (y ∷ xs) x ys = omega (arith, within xs x ys)

more_keys : (rows done : List Row) (done_lines : List CountLine) (rest : List Row) (rest_lines : List CountLine) → rows ≡ done ++ rest → AreRight rows
    → kind_of (do_of (get_or rows 0 [])) ≡ Some kind.Count → AllZip IsCountLine done done_lines → AllZip IsCountLine rest rest_lines → IsDistinct has_same_key done_lines
    → IsDistinct has_same_key (done_lines ++ rest_lines)
more_keys rows done done_lines [] [] are right word old new keys = rw (append-nil done_lines) keys
more_keys rows done done_lines [] (line ∷ lines) are right word old new keys = absurd new
more_keys rows done done_lines (row ∷ rest) [] are right word old new keys = absurd new
more_keys rows done done_lines (row ∷ rest) (line ∷ lines) are right word old new keys =
    let other : list_any (has_same_key line) done_lines ≡ false = same_places row line done done_lines new.0 old ∙ apart done row rest (rw are at right) (rw are at word) in
    let pushed = IsDistinct-push key_equivalence done_lines line keys other in
    let split : rows ≡ (done ++ row ∷ []) ++ rest = are ∙ sym (append_assoc done (row ∷ []) rest) in
    let P : List CountLine → Type 0 = λ ls. IsDistinct has_same_key ls in
    subst P (append_assoc done_lines (line ∷ []) lines)
    (more_keys rows (done ++ row ∷ []) (done_lines ++ line ∷ []) rest lines split right word (all_zipped_more IsCountLine done done_lines row line old new.0) new.1 pushed)

-- the lines of right rows of a count
pub keys_differ : (rows : List Row) (lines : List CountLine) → AreRight rows → kind_of (do_of (get_or rows 0 [])) ≡ Some kind.Count → AllZip IsCountLine rows lines → IsDistinct has_same_key lines
unfolding IsDistinct
keys_differ rows lines right word are = more_keys rows [] [] rows lines refl right word tt are tt
