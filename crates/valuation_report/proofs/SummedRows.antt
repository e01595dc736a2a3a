-- What the entries of a map of what is held sum to, as the rows of the balance.
use Rattle.std.proofs.Common.{◌≡◌, ◌+◌, ◌-◌, ◌*◌, ◌≤◌, ◌<◌, ◌^◌, List, [], ◌∷◌, length, map, filter, refl, ap, ap₂, ◌∙◌, arith}
use Rattle.std.specs.Prelude.{sum_by}
use Rattle.std.proofs.lemmas.List.Sums.{sum_by-cons}
use Rattle.stock_model.specs.declared.queries.Query.{Query}
use Rattle.stock_model.specs.declared.queries.Selected.{Selected}
use Rattle.stock_model.specs.declared.sheet_rows.BalanceRow.{BalanceRow}
use Rattle.stock_model.specs.Masters.{code_of}
use Rattle.stock_model.specs.Sheets.{balance_row, balance, is_asked_key, keys_of}
use Rattle.stock_model.specs.Sums.{is_of}
use Rattle.stock_nums.specs.declared.entry.Key.{Key}
use Rattle.stock_nums.specs.declared.head.Head.{Head}
use Rattle.valuation_report.specs.declared.balance_sums.BalanceSums.{BalanceSums}
use Rattle.valuation_report.specs.declared.holdings.Holding.{Holding}
use Rattle.valuation_report.specs.BalanceSums.{quantity_shown, value_shown, sums_of, with_holding}
use Rattle.valuation_report.specs.GroupRows.{held_row}
use Rattle.valuation_report.specs.Holdings.{holding_of}
use Rattle.valuation_report.proofs.GroupLists.{holdings_of}
use Rattle.valuation_report.proofs.OwnRows.{held_row-is}

-- the row of an entry
abbrev pub entry_row : List Head → Key × Holding → BalanceRow
entry_row heads entry = held_row (code_of heads entry.0.item.0) (code_of heads entry.0.store.0) entry.1

-- so far these sums were made, of which the entries that are left make up all; and each entry adds less than 2^64
pub record AreSumsSoFar (heads : List Head) (all rest : List (Key × Holding)) (sums : BalanceSums) : Type 0 where
  pub stock : sums.stock + sum_by quantity_shown (map (entry_row heads) rest) ≡ sum_by quantity_shown (map (entry_row heads) all)
  pub worth : sums.worth + sum_by value_shown (map (entry_row heads) rest) ≡ sum_by value_shown (map (entry_row heads) all)
  pub small_stock : sums.stock + 2 ^ 64 * length rest ≤ 2 ^ 64 * length all
  pub small_worth : sums.worth + 2 ^ 64 * length rest ≤ 2 ^ 64 * length all
  pub few : length all < 2 ^ 63

module _ (heads : List Head) (all : List (Key × Holding)) where
  pub sums-start : length all < 2 ^ 63 → AreSumsSoFar heads all all (record { stock = 0; worth = 0 })
  sums-start few = record { stock = omega arith; worth = omega arith; small_stock = omega arith; small_worth = omega arith; few = few }

  -- one more entry
  pub sums-more : (key : Key) (holding : Holding) (before rest : List (Key × Holding)) (old new : BalanceSums)
      → before ≡ (key, holding) ∷ rest → new ≡ with_holding old holding → new.stock ≤ old.stock + 2 ^ 64 → new.worth ≤ old.worth + 2 ^ 64
      → AreSumsSoFar heads all before old → AreSumsSoFar heads all rest new
  sums-more key holding before rest old new is added stock worth so_far =
      let size : length before ≡ length rest + 1 = ap length is ∙ omega arith in
      let shown : sum_by quantity_shown (map (entry_row heads) before)
      ≡ (holding.entered - holding.left) + sum_by quantity_shown (map (entry_row heads) rest)
      = ap (λ (entries : List (Key × Holding)). sum_by quantity_shown (map (entry_row heads) entries)) is
      ∙ sum_by-cons quantity_shown (entry_row heads (key, holding)) (map (entry_row heads) rest) in
      let valued : sum_by value_shown (map (entry_row heads) before) ≡ holding.value + sum_by value_shown (map (entry_row heads) rest)
      = ap (λ (entries : List (Key × Holding)). sum_by value_shown (map (entry_row heads) entries)) is
      ∙ sum_by-cons value_shown (entry_row heads (key, holding)) (map (entry_row heads) rest) in
      let new_stock : new.stock ≡ old.stock + (holding.entered - holding.left) = ap (λ (sums : BalanceSums). sums.stock) added in
      let new_worth : new.worth ≡ old.worth + holding.value = ap (λ (sums : BalanceSums). sums.worth) added in
      record {
        stock = omega (arith, so_far.stock);
        worth = omega (arith, so_far.worth);
        small_stock = omega (arith, so_far.small_stock);
        small_worth = omega (arith, so_far.small_worth);
        few = so_far.few;
      }

  -- there is room for one more
  pub sums-room : (entry : Key × Holding) (before rest : List (Key × Holding)) (sums : BalanceSums) → before ≡ entry ∷ rest
      → AreSumsSoFar heads all before sums → (sums.stock + 2 ^ 64 ≤ 2 ^ 128) × (sums.worth + 2 ^ 64 ≤ 2 ^ 128)
  sums-room entry before rest sums is so_far =
      let size : length before ≡ length rest + 1 = ap length is ∙ omega arith in
      (omega (arith, so_far.small_stock, so_far.few), omega (arith, so_far.small_worth, so_far.few))

  -- all were taken
  pub sums-all : (sums : BalanceSums) → AreSumsSoFar heads all [] sums → sums ≡ sums_of (map (entry_row heads) all)
  sums-all sums so_far =
      let stock : sums.stock ≡ sum_by quantity_shown (map (entry_row heads) all) = omega (arith, so_far.stock) in
      let worth : sums.worth ≡ sum_by value_shown (map (entry_row heads) all) = omega (arith, so_far.worth) in
      λ i. record { stock = stock i; worth = worth i }

map-same : {X Y Z : Type 0} (f : Y → Z) (g : X → Y) (h : X → Z) → ((x : X) → f (g x) ≡ h x) → (xs : List X) → map f (map g xs) ≡ map h xs
map-same f g h same [] = refl
map-same f g h same (x ∷ xs) = ap₂ (λ z zs. z ∷ zs) (same x) (map-same f g h same xs)

-- the entries' rows are those of the balance
pub entry_rows-are : (query : Query) (chosen : Selected)
    → map (entry_row chosen.heads) (holdings_of query chosen.heads chosen.rows) ≡ balance query chosen
unfolding balance
entry_rows-are query chosen =
    map-same (entry_row chosen.heads) (λ key. (key, holding_of (filter (is_of key) chosen.rows))) (balance_row chosen.heads chosen.rows)
    (λ key. held_row-is key chosen.heads chosen.rows) (filter (is_asked_key query chosen.heads) (keys_of chosen.rows))
