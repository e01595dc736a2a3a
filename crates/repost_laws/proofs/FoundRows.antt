-- What a movement takes over from what was found is what rows with that worth say.
use Rattle.std.proofs.Common.{◌≡◌, ℕ, ℤ, pos, ◌+◌, ◌-◌, ◌<◌, ◌+ℤ◌, Bool, true, false, cond, List, [], ◌∷◌, map, filter, sum_by, unsigned_abs, nat_le, if◌then◌else◌, get_or, refl, sym, ap, ◌∙◌, subst}
use Rattle.std.proofs.lemmas.List.Sums.{sum_by-cons}
use Rattle.std.specs.List.{All}
use Rattle.stock_nums.specs.FirstIn.{first_cost, next_cost}
use Rattle.stock_nums.specs.HalfUp.{half_up}
use Rattle.stock_nums.specs.Part.{part}
use Rattle.stock_nums.specs.declared.cause.Cause.{Cause}
use Rattle.stock_nums.specs.declared.cause.Cause.TheVariants.{Receipt, Issue, TransferLeaves, TransferEnters, CustomerReturn, SupplierReturn}
use Rattle.stock_nums.specs.declared.cause.Method.{Method}
use Rattle.stock_nums.specs.declared.cause.Method.TheVariants.{Fifo, Average}
use Rattle.stock_nums.specs.declared.cause.Target.{Target}
use Rattle.stock_nums.specs.declared.entry.Entry.{Entry}
use Rattle.stock_nums.specs.declared.entry.Row.{Row}
use Rattle.stock_model.specs.declared.records.Record.{Record}
use Rattle.stock_model.specs.Enough.{entry_key, enters_under, departed, entry_units}
use Rattle.stock_model.specs.LandedCost.{added}
use Rattle.stock_model.specs.Replay.{valued}
use Rattle.stock_model.specs.Returns.{returned}
use Rattle.stock_model.specs.Sums.{row_entry, enters_at, leaves_at, units_of, value_of, quantity_out, stock_value}
use Rattle.stock_model.specs.Values.{own_line, leaves_by, line_cost, cost_by, value_by, share_by}
use Rattle.cost_links.specs.Stocks.{IsAverageOf}
use Rattle.cost_links.specs.Taken.{Taken, cost_taken, value_taken, share_taken, IsCostOf, IsLinkedBy, IsBackBy, IsTakenFrom}
use Rattle.repost_laws.specs.Pieces.{pieces, has_units, piece_value}
use Rattle.repost_laws.specs.Valuations.{Found, found_value, found_row, found_rows, last_of_key, held_then, held_before_by, pieces_taken_by, is_leaving_by, left_by, sources_by, taken_over, back_by, taken_from, valued_with}
use Rattle.repost_laws.proofs.PieceSums.{pieces-next_cost, sum_by-whole}

module _ {X Y : Type 0} (g : X → Y) where
  -- those made of elements that pass are those that pass of what is made
  pub filter-map : (p : Y → Bool) (xs : List X) → filter p (map g xs) ≡ map g (filter (λ x. p (g x)) xs)
  filter-map p [] = refl
  filter-map p (x ∷ xs) =
      elim (p (g x)) as (λ b. cond b (g x ∷ filter p (map g xs)) (filter p (map g xs))
      ≡ map g (cond b (x ∷ filter (λ y. p (g y)) xs) (filter (λ y. p (g y)) xs))) [
        | true ↦ ap (λ (ys : List Y). g x ∷ ys) (filter-map p xs)
        | false ↦ filter-map p xs
      ]

  pub sum_by-made : (f : Y → ℕ) (xs : List X) → sum_by f (map g xs) ≡ sum_by (λ x. f (g x)) xs
  sum_by-made f [] = refl
  sum_by-made f (x ∷ xs) = sum_by-cons f (g x) (map g xs) ∙ ap (λ (n : ℕ). f (g x) + n) (sum_by-made f xs)
      ∙ sym (sum_by-cons (λ y. f (g y)) x xs)

  pub sum_where-made : (f : Y → ℕ) (p : Y → Bool) (xs : List X) → sum_by f (filter p (map g xs))
      ≡ sum_by (λ x. f (g x)) (filter (λ x. p (g x)) xs)
  sum_where-made f p xs = ap (sum_by f) (filter-map p xs) ∙ sum_by-made f (filter (λ x. p (g x)) xs)

  pub first_cost-made : (units value : Y → ℕ) (xs : List X) (n : ℕ) → first_cost units value (map g xs) n
      ≡ first_cost (λ x. units (g x)) (λ x. value (g x)) xs n
  first_cost-made units value [] n = refl
  first_cost-made units value (x ∷ xs) n =
      ap (λ (rest : ℕ). if nat_le (units (g x)) n then value (g x) + rest else part (value (g x)) 0 n (units (g x)))
      (first_cost-made units value xs (n - units (g x)))

-- the rows have the movements
pub found_rows-entries : (found : Found) (past : List Entry) → map row_entry (found_rows found past) ≡ past
found_rows-entries found [] = refl
found_rows-entries found (e ∷ past) = ap (λ (es : List Entry). e ∷ es) (found_rows-entries found past)

-- what left by a line
left-is : (found : Found) (past : List Entry) (line : Target) → taken_over found (left_by past line)
    ≡ line_cost (found_rows found past) line
left-is found past line =
    sum_by-whole entry_units (found_value found) (λ e. e.quantity.0) (filter (is_leaving_by line) past)
    ∙ sym (sum_where-made (found_row found) value_of (leaves_by line) past)

entries-some : (es : List Entry) → All (λ e. 0 < entry_units e) es
entries-some es k d within = (get_or es k d).quantity.0

pub pieces-cost : (value : Entry → ℕ) (es : List Entry) (taken q : ℕ)
    → sum_by (piece_value entry_units value) (filter has_units (pieces entry_units es taken (taken + q)))
    ≡ next_cost entry_units value es taken q
pieces-cost value es taken q = pieces-next_cost entry_units value es taken q (entries-some es)

-- what units cost
cost-is : (method : Method) (found : Found) (past : List Entry) (e : Entry)
    → IsCostOf method (found_rows found past) e (taken_over found (pieces_taken_by method past e))
cost-is Average found past e = tt
cost-is Fifo found past e =
    let key = entry_key e in
    let rows = found_rows found past in
    let ins : List Entry = filter (enters_under key) past in
    let all_in : filter (enters_at key) rows ≡ found_rows found ins = filter-map (found_row found) (enters_at key) past in
    let out : quantity_out rows key ≡ departed past key = sum_where-made (found_row found) units_of (leaves_at key) past in
    let costs : (n : ℕ) → first_cost entry_units (found_value found) ins n
    ≡ first_cost units_of value_of (filter (enters_at key) rows) n =
    λ n. sym (ap (λ (es : List Row). first_cost units_of value_of es n) all_in
    ∙ first_cost-made (found_row found) units_of value_of ins n) in
    pieces-cost (found_value found) ins (departed past key) e.qty.0
    ∙ ap (λ (n : ℕ). first_cost entry_units (found_value found) ins n - first_cost entry_units (found_value found) ins
    (departed past key)) refl
    ∙ ap (λ (n : ℕ). n - first_cost entry_units (found_value found) ins (departed past key)) (costs (departed past key + e.qty.0))
    ∙ ap (λ (n : ℕ). first_cost units_of value_of (filter (enters_at key) rows) (departed past key + e.qty.0) - n)
    (costs (departed past key))
    ∙ ap (λ (n : ℕ). next_cost units_of value_of (filter (enters_at key) rows) n e.qty.0) (sym out)

-- what is taken over from the sources
linked-is : (found : Found) (past : List Entry) (e : Entry) (cause : Cause)
    → IsLinkedBy (found_rows found past) e (taken_over found (sources_by past e cause)) cause
linked-is found past e (Receipt amount) = tt
linked-is found past e (Issue sold) = cost-is e.method found past e
linked-is found past e TransferLeaves = cost-is e.method found past e
linked-is found past e TransferEnters = left-is found past (own_line e)
linked-is found past e (CustomerReturn target issued) = left-is found past target
linked-is found past e (SupplierReturn target amount received) = cost-is e.method found past e

-- and how many units were returned
back-is : (found : Found) (past : List Entry) (cause : Cause) → IsBackBy (found_rows found past) (back_by past cause) cause
back-is found past (Receipt amount) = tt
back-is found past (Issue sold) = tt
back-is found past TransferLeaves = tt
back-is found past TransferEnters = tt
back-is found past (CustomerReturn target issued) = ap (λ (es : List Entry). returned es target)
    (sym (found_rows-entries found past))
back-is found past (SupplierReturn target amount received) = ap (λ (es : List Entry). returned es target)
    (sym (found_rows-entries found past))

-- what is held before the movement
held-is : (method : Method) (rows : List Row) (found : Found) (past : List Entry) (e : Entry)
    → IsAverageOf rows (entry_key e) (held_then found (last_of_key past (entry_key e)))
    → method ≡ Average → IsAverageOf rows (entry_key e) (held_before_by method found past e)
held-is Fifo rows found past e held is = cc
held-is Average rows found past e held is = held

-- all that is taken over is what the rows and the journal say
pub IsTakenFrom-found : (journal : List Record) (rows : List Row) (found : Found) (past : List Entry) (e : Entry)
    → found_rows found past ≡ rows
    → (e.method ≡ Average → IsAverageOf rows (entry_key e) (held_then found (last_of_key past (entry_key e))))
    → IsTakenFrom journal rows e (taken_from (added journal) found past e)
IsTakenFrom-found journal rows found past e same held =
    record {
      charges = refl;
      returns = subst (λ (before : List Row). IsBackBy before (back_by past e.cause) e.cause) same (back-is found past e.cause);
      average = λ method. held-is e.method rows found past e (held method) method;
      source = subst (λ (before : List Row). IsLinkedBy before e (taken_over found (sources_by past e e.cause)) e.cause) same
          (linked-is found past e e.cause);
    }

-- what units cost by what is taken over
cost-taken : (method : Method) (before : List Row) (e : Entry) (t : Taken)
    → (method ≡ Average → IsAverageOf before (entry_key e) t.held) → IsCostOf method before e t.linked
    → cost_taken method t.held t.linked e.qty.0 ≡ cost_by method before e
cost-taken Fifo before e t average linked = linked
cost-taken Average before e t average linked =
    let stock = average refl in
    ap (λ (v : ℕ). half_up v e.qty.0 t.held.units) stock.worth
    ∙ ap (half_up (stock_value before (entry_key e)) e.qty.0) stock.quantity

value-is : (journal : List Record) (before : List Row) (e : Entry) (t : Taken) (cause : Cause) → IsTakenFrom journal before e t
    → IsBackBy before t.back cause → IsLinkedBy before e t.linked cause
    → value_taken t e cause ≡ value_by journal before e cause
value-is journal before e t (Receipt amount) from back linked = ap (λ (n : ℕ). amount.0 +ℤ pos n) from.charges
value-is journal before e t (Issue sold) from back linked = ap pos (cost-taken e.method before e t from.average linked)
value-is journal before e t TransferLeaves from back linked = ap pos (cost-taken e.method before e t from.average linked)
value-is journal before e t TransferEnters from back linked = ap pos linked
value-is journal before e t (CustomerReturn target issued) from back linked =
    ap (λ (n : ℕ). pos (part n t.back e.qty.0 issued.0)) linked
    ∙ ap (λ (n : ℕ). pos (part (line_cost before target) n e.qty.0 issued.0)) back
value-is journal before e t (SupplierReturn target amount received) from back linked = ap pos
    (cost-taken e.method before e t from.average linked)

share-is : (journal : List Record) (before : List Row) (e : Entry) (t : Taken) (cause : Cause) → IsTakenFrom journal before e t
    → IsBackBy before t.back cause
    → share_taken t e cause ≡ share_by journal before e cause
share-is journal before e t (Receipt amount) from back = ap pos from.charges
share-is journal before e t (Issue sold) from back = refl
share-is journal before e t TransferLeaves from back = refl
share-is journal before e t TransferEnters from back = refl
share-is journal before e t (CustomerReturn target issued) from back = refl
share-is journal before e t (SupplierReturn target amount received) from back = ap
    (λ (n : ℕ). pos (part (unsigned_abs amount.0) n e.qty.0 received.0)) back

-- so the movement is worth what the replay says
pub valued-is : (journal : List Record) (before : List Row) (e : Entry) (t : Taken) → IsTakenFrom journal before e t
    → record { entry = e; worth = (valued_with t e).worth } ≡ valued journal before e
valued-is journal before e t from =
    let of : ℤ → ℤ → Row = λ v s. record { entry = e; worth = record { value = record { 0 = v }; share = record { 0 = s } } } in
    ap (λ (v : ℤ). of v (share_taken t e e.cause)) (value-is journal before e t e.cause from from.returns from.source)
    ∙ ap (of (value_by journal before e e.cause)) (share-is journal before e t e.cause from from.returns)
