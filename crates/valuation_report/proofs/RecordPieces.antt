-- The pieces of the lines that the movements of one record make, from one movement to the next.
use Rattle.std.proofs.Common.{◌≡◌, ℕ, ◌+◌, ◌<◌, ◌≤◌, Bool, true, false, cond, List, [], ◌∷◌, ◌++◌, length, take, get_or, filter, refl, sym, ap, ◌∙◌, append-nil, arith}
use Rattle.std.specs.List.{flat_map}
use Rattle.std.proofs.lemmas.Bool.Decides.{nat_tests}
use Rattle.std.proofs.lemmas.List.{take_more, take_all}
use Rattle.std.proofs.lemmas.List.Concat.{flat_map-append}
use Rattle.std.proofs.lemmas.List.Elements.{filter-append}
use Rattle.stock_nums.specs.declared.entry.Row.{Row}
use Rattle.stock_nums.specs.declared.head.Head.{Head}
use Rattle.stock_model.specs.declared.queries.Format.{Format}
use Rattle.stock_model.specs.LedgerSheets.{is_by_record, voucher_rows}
use Rattle.valuation_report.specs.AccountPieces.{voucher_piece, record_rows}
use Rattle.valuation_report.specs.Adding.{Adds}
use Rattle.valuation_report.proofs.Joined.{joined, renamed}

-- a movement of the record
by_record : (number : ℕ) (row : Row) → row.entry.place.voucher.0 ≡ number → is_by_record number row ≡ true
by_record number row is = grind (arith, nat_tests)

-- and one that is not
by_other : (number : ℕ) (row : Row) → (row.entry.place.voucher.0 ≡ number → ⊥) → is_by_record number row ≡ false
by_other number row is_not = grind (arith, nat_tests)

module _ (format : Format) (number : ℕ) (heads : List Head) where
  -- the pieces of a movement's lines
  abbrev pub movement_pieces : Row → List ℕ
  movement_pieces row = flat_map (voucher_piece format) (voucher_rows heads row)

  -- and those of the record's movements among these
  abbrev pub record_pieces : List Row → List ℕ
  record_pieces rows = flat_map (voucher_piece format) (record_rows number heads rows)

  -- one movement, where it is one of the record
  single : (test : Bool) (row : Row) → flat_map (voucher_piece format) (flat_map (voucher_rows heads) (cond test (row ∷ []) [])) ≡ cond test (movement_pieces row) []
  single true row = ap (flat_map (voucher_piece format)) (append-nil (voucher_rows heads row))
  single false row = refl

  -- the pieces with one more movement
  record_pieces-snoc : (rows : List Row) (row : Row) → record_pieces (rows ++ row ∷ []) ≡ record_pieces rows ++ cond (is_by_record number row) (movement_pieces row) []
  record_pieces-snoc rows row =
      let kept = filter (is_by_record number) rows in
      let last = filter (is_by_record number) (row ∷ []) in
      ap (λ (all : List Row). flat_map (voucher_piece format) (flat_map (voucher_rows heads) all)) (filter-append (is_by_record number) rows (row ∷ []))
      ∙ ap (flat_map (voucher_piece format)) (flat_map-append (voucher_rows heads) kept last)
      ∙ flat_map-append (voucher_piece format) (flat_map (voucher_rows heads) kept) (flat_map (voucher_rows heads) last)
      ∙ ap (λ (text : List ℕ). record_pieces rows ++ text) (single (is_by_record number row) row)

  module _ (rows : List Row) where
    -- the same of the next movement in a list
    record_pieces-more : (i : ℕ) (row : Row) → i < length rows → row ≡ get_or rows i row
        → record_pieces (take i rows) ++ cond (is_by_record number row) (movement_pieces row) [] ≡ record_pieces (take (i + 1) rows)
    record_pieces-more i row within is =
        sym
        (ap record_pieces (take_more rows i row within ∙ ap (λ (r : Row). take i rows ++ r ∷ []) (sym is))
        ∙ record_pieces-snoc (take i rows) row)

    -- one more movement of the record has its pieces
    pub of_record : {t u v : List ℕ} (i : ℕ) (row : Row) → i < length rows → row ≡ get_or rows i row → row.entry.place.voucher.0 ≡ number
        → Adds t u (record_pieces (take i rows)) → Adds u v (movement_pieces row) → Adds t v (record_pieces (take (i + 1) rows))
    of_record i row within is same before added =
        renamed (joined before added)
        (ap (λ (test : Bool). record_pieces (take i rows) ++ cond test (movement_pieces row) []) (sym (by_record number row same)) ∙ record_pieces-more i row within is)

    -- a movement of another record has none
    pub of_other : {t u : List ℕ} (i : ℕ) (row : Row) → i < length rows → row ≡ get_or rows i row → (row.entry.place.voucher.0 ≡ number → ⊥)
        → Adds t u (record_pieces (take i rows)) → Adds t u (record_pieces (take (i + 1) rows))
    of_other i row within is other before =
        renamed before
        (sym (append-nil (record_pieces (take i rows)))
        ∙ ap (λ (test : Bool). record_pieces (take i rows) ++ cond test (movement_pieces row) []) (sym (by_other number row other))
        ∙ record_pieces-more i row within is)

    -- all movements were seen
    pub of_all : {t u : List ℕ} (n : ℕ) → length rows ≤ n → Adds t u (record_pieces (take n rows)) → Adds t u (record_pieces rows)
    of_all n past added = renamed added (ap record_pieces (take_all n rows past))
