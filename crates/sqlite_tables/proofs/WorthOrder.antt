-- The worths as the query shows them: by record, line and side.
use Rattle.std.proofs.Common.{◌≡◌, ◌⊎◌, ℕ, ◌<◌, ℤ, pos, Bool, true, false, nat_lt, Ordering, Less, Equal, List, [], ◌∷◌, map, refl, sym, ap, ◌∙◌, subst, inl, inr, arith}
use Rattle.std.specs.List.{AllByRecursion, IsDistinct}
use Rattle.std.specs.List.Sorted.{IsPermutation, IsStrictlySortedBy}
use Rattle.std.proofs.lemmas.List.Sorted.{IsPermutation-sym}
use Rattle.std.specs.Cmp.{int_cmp_is}
use Rattle.std.specs.FinMap.{int_cmp-IsAntisymmetric}
use Rattle.std.specs.Ordering.{ordering_then}
use Rattle.std.proofs.lemmas.Bool.{false_from_ne_true}
use Rattle.std.proofs.lemmas.Bool.Decides.{nat_tests}
use Rattle.std.proofs.lemmas.Cmp.{int_cmp_total, tied_itself}
use Rattle.std.proofs.lemmas.Int.{ints}
use Rattle.sqlite_value.specs.declared.value.Value.TheVariants.{Int}
use Rattle.sqlite_value.specs.Order.{Row, column, value_cmp}
use Rattle.sqlite_value.proofs.KeyLemmas.{then_tied}
use Rattle.sqlite_value.proofs.OrderLemmas.{value_cmp-Int, value_cmp_total}
use Rattle.sqlite_trees.specs.Tree.{rowid, IsTable}
use Rattle.sqlite_sql.specs.Query.{Output, output, output_cmp}
use Rattle.sqlite_sql.proofs.QueryLemmas.{output_cmp_total}
use Rattle.sqlite_rules.specs.Lists.{Has}
use Rattle.sqlite.specs.Effect.{Database, Answers}
use Rattle.stock_nums.specs.Places.{first_by, side_rank}
use Rattle.stock_keeper.specs.Worths.{IsBefore, AreInOrder}
use Rattle.stock_keeper.specs.declared.changes.SpotWorth.{SpotWorth}
use Rattle.stock_keeper.specs.declared.tables.Tables.{Tables}
use Rattle.stock_keeper.proofs.Pairs.{Precedes, Pairwise, Pairwise-from_AllPairs}
use Rattle.sqlite_tables.specs.Rows.{spot_row, worth_row, spot_cells, worth_cells}
use Rattle.sqlite_tables.specs.Standing.{StandsFor, HoldsWorths}
use Rattle.sqlite_tables.proofs.LoadLaw.{filter_all}
use Rattle.sqlite_tables.proofs.Members.{has_map, has_mapped, has_permutation}
use Rattle.sqlite_tables.proofs.QueryLaw.{outputs, shows}
use Rattle.sqlite_tables.proofs.Sorting.{are_tied, same_members, sorted_rises}
use Rattle.sqlite_tables.proofs.Tests.{tied}
use Rattle.sqlite_tables.proofs.TextLaws.{alone, worths_query, worths_terms, worths_order}
use Rattle.sqlite_tables.proofs.WorthLaw.{spot_of_cells}

-- what the query makes of a row, and what it is of a worth
abbrev row_output : Row → Output
row_output r = (spot_cells r, worth_cells r)

abbrev pub worth_output : SpotWorth → Output
worth_output w = (spot_row w.spot, worth_row w)

out_rows : (rows : List Row) → map (output worths_query) (map (λ (r : Row). [] ∷ r ∷ []) rows) ≡ map row_output rows
out_rows [] = refl
out_rows (r ∷ rows) = ap (λ l. row_output r ∷ l) (out_rows rows)

pub out_worths : (ws : List SpotWorth) → map (λ (o : Output). o.1) (map worth_output ws) ≡ map worth_row ws
out_worths [] = refl
out_worths (w ∷ ws) = ap (λ l. worth_row w ∷ l) (out_worths ws)

-- ---- worths in order rise

-- the first number decides, or the rest where they tie
by_number : (m n : ℕ) (rest : Bool) (o : Ordering) → first_by m n rest ≡ true → (rest ≡ true → o ≡ Less) → ordering_then (value_cmp (Int (pos m)) (Int (pos n))) o ≡ Less
by_number m n rest o h next = elim (cases m n rest h) [
  | inl less ↦ rw (value_cmp-Int (pos m) (pos n), sym (int_cmp_is (pos m) (pos n) Less (omega (arith, ints, less)))) refl
  | inr tie ↦ rw (tie.0, value_cmp-Int (pos n) (pos n), tied_itself int_cmp_total (pos n)) (next tie.1)
]
  where
    cases : (m n : ℕ) (rest : Bool) → first_by m n rest ≡ true → (m < n) ⊎ ((m ≡ n) × (rest ≡ true))
    cases m n rest h = grind (arith, nat_tests)

last_number : (m n : ℕ) → nat_lt m n ≡ true → ordering_then (value_cmp (Int (pos m)) (Int (pos n))) Equal ≡ Less
last_number m n h = rw (value_cmp-Int (pos m) (pos n), sym (int_cmp_is (pos m) (pos n) Less (omega (arith, ints, less m n h)))) refl
  where
    less : (m n : ℕ) → nat_lt m n ≡ true → m < n
    less m n h = grind (arith, nat_tests)

spots_rise : (a b : SpotWorth) → IsBefore a b → output_cmp worths_query (worth_output a) (worth_output b) ≡ Less
spots_rise a b h =
    by_number a.spot.voucher.0 b.spot.voucher.0 _ _ h (λ more. by_number a.spot.line b.spot.line _ _ more (λ last. last_number (side_rank a.spot.side) (side_rank b.spot.side) last))

worths_rise : (ws : List SpotWorth) → Pairwise IsBefore ws → IsStrictlySortedBy (output_cmp worths_query) (map worth_output ws)
unfolding IsStrictlySortedBy
worths_rise [] order = tt
worths_rise (w ∷ ws) order = (each ws order.0, worths_rise ws order.1)
  where
    each : (vs : List SpotWorth) → Precedes IsBefore w vs → AllByRecursion (λ o. output_cmp worths_query (worth_output w) o ≡ Less) (map worth_output vs)
    each [] all = tt
    each (v ∷ vs) all = (spots_rise w v all.0, each vs all.1)

pub ordered_rise : (ws : List SpotWorth) → AreInOrder ws → IsStrictlySortedBy (output_cmp worths_query) (map worth_output ws)
ordered_rise ws order = worths_rise ws (Pairwise-from_AllPairs IsBefore ws order)

-- ---- rows of different spots do not tie

int_same : (m n : ℤ) → value_cmp (Int m) (Int n) ≡ Equal → m ≡ n
int_same m n h = int_cmp-IsAntisymmetric m n (sym (value_cmp-Int m n) ∙ h)

-- keys of integers that tie are the same
keys_same : (r s : Row) (a b c l m n : ℤ) → spot_cells r ≡ Int a ∷ Int b ∷ Int c ∷ [] → spot_cells s ≡ Int l ∷ Int m ∷ Int n ∷ []
    → output_cmp worths_query (row_output r) (row_output s) ≡ Equal → spot_cells r ≡ spot_cells s
keys_same r s a b c l m n one two h =
    let first : column r 1 ≡ Int a = cc in
    let second : column r 2 ≡ Int b = cc in
    let third : column r 3 ≡ Int c = cc in
    let fourth : column s 1 ≡ Int l = cc in
    let fifth : column s 2 ≡ Int m = cc in
    let sixth : column s 3 ≡ Int n = cc in
    let parts = then_tied (value_cmp (column r 1) (column s 1)) _ h in
    let more = then_tied (value_cmp (column r 2) (column s 2)) _ parts.1 in
    let last = then_tied (value_cmp (column r 3) (column s 3)) _ more.1 in
    let x = int_same a l (rw (first, fourth) at parts.0) in
    let y = int_same b m (rw (second, fifth) at more.0) in
    let z = int_same c n (rw (third, sixth) at last.0) in
    one ∙ rw (x, y, z) refl ∙ sym two

module _ (all : List Row) (ws : List SpotWorth) (holds : HoldsWorths all ws) where
  never_tied : (r s : Row) → Has all r → Has all s → value_cmp (rowid r) (rowid s) ≡ Less → are_tied (output_cmp_total worths_query) (row_output r) (row_output s) ≡ false
  never_tied r s h k less = false_from_ne_true _ (λ tie.
      let one = holds.rows_are r h in
      let two = holds.rows_are s k in
      let same = keys_same r s _ _ _ _ _ _ (spot_of_cells r one.0 one.3) (spot_of_cells s two.0 two.3) (tied _ tie) in
      let is = holds.apart r s h k same in
      let never = tied_itself value_cmp_total (rowid s) in
      absurd (let low = subst (λ (x : Row). value_cmp (rowid x) (rowid s) ≡ Less) is less in cc))

  rows_apart : (rows : List Row) → ((r : Row) → Has rows r → Has all r) → IsTable rows → IsDistinct (are_tied (output_cmp_total worths_query)) (map row_output rows)
  unfolding IsDistinct
  rows_apart [] among table = tt
  rows_apart (r ∷ rows) among table = (each rows (λ s h. among s (inr h)) table.0, rows_apart rows (λ s h. among s (inr h)) table.1)
    where
      each : (ss : List Row) → ((s : Row) → Has ss s → Has all s) → AllByRecursion (λ s. value_cmp (rowid r) (rowid s) ≡ Less) ss
          → AllByRecursion (λ o. are_tied (output_cmp_total worths_query) (row_output r) o ≡ false) (map row_output ss)
      each [] within low = tt
      each (s ∷ ss) within low = (never_tied r s (among r (inl refl)) (within s (inl refl)) low.0, each ss (λ q h. within q (inr h)) low.1)

  -- a row of a worth shows what the worth is
  output_of : (r : Row) (w : SpotWorth) → worth_cells r ≡ worth_row w → row_output r ≡ worth_output w
  output_of r w cells = λ i. (spot_of_cells r w cells i, cells i)

  rows_into : (v : Output) → Has (map row_output all) v → Has (map worth_output ws) v
  rows_into v h =
      let from = has_mapped row_output all v h in
      let it = holds.rows_are from.0 from.1 in
      subst (Has (map worth_output ws)) (sym (from.2 ∙ output_of from.0 it.0 it.3)) (has_map worth_output ws it.0 it.2)

  worths_into : (v : Output) → Has (map worth_output ws) v → Has (map row_output all) v
  worths_into v h =
      let from = has_mapped worth_output ws v h in
      let it = holds.worths_are from.0 from.1 in
      subst (Has (map row_output all)) (sym (from.2 ∙ sym (output_of it.0 from.0 it.2))) (has_map row_output all it.0 it.1)

pub worths_shown : (db : Database) (t : Tables) (rows : List Row) → StandsFor db t → Answers db (alone worths_query) [] rows → rows ≡ map worth_row t.worths
worths_shown db t rows stands answers =
    let total = output_cmp_total worths_query in
    let it = shows 1 [] worths_terms worths_order db.trees [] db.schema rows refl answers in
    let all = db.trees 1 in
    let outs = map row_output all in
    let wanted = map worth_output t.worths in
    let out : outputs 1 [] worths_terms worths_order db.trees [] ≡ outs = ap (λ l. map (output worths_query) (map (λ (r : Row). [] ∷ r ∷ []) l)) (filter_all all) ∙ out_rows all in
    let same = subst (λ l. IsPermutation l it.ordered) out it.same in
    let apart = rows_apart all t.worths stands.worths all (λ r h. h) stands.worths.rises in
    let ordered : it.ordered ≡ wanted = same_members total it.ordered wanted (sorted_rises total outs it.ordered apart same it.sorted)
    (ordered_rise t.worths stands.worths.in_order)
    (λ v h. rows_into all t.worths stands.worths v (has_permutation it.ordered outs v (IsPermutation-sym outs it.ordered same) h))
    (λ v h. has_permutation outs it.ordered v same (worths_into all t.worths stands.worths v h)) in
    it.shown ∙ ap (map (λ (o : Output). o.1)) ordered ∙ out_worths t.worths
