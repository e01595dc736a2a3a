-- The first shortage: there is none exactly where there is enough, and what it names.
use Rattle.std.proofs.Common.{◌≡◌, ℕ, zero, suc, ◌+◌, ◌<◌, ◌≤◌, Bool, true, false, cond, ◌&&◌, not, List, [], ◌∷◌, ◌++◌, length, take, filter, sum_by, Some, None, inl, inr, refl, sym, ap, ◌∙◌, subst, append_assoc, length-append, arith}
use Rattle.std.proofs.lemmas.Bool.{ltb-true, ltb-false, le-ltb, cases_lt}
use Rattle.std.proofs.lemmas.Bool.Decides.{nat_tests}
use Rattle.std.proofs.lemmas.List.{append-nil, take-append-le, take_all}
use Rattle.std.proofs.lemmas.List.Elements.{filter-append}
use Rattle.std.proofs.lemmas.List.Sums.{sum_by-append}
use Rattle.stock_nums.specs.declared.entry.Entry.{Entry}
use Rattle.stock_nums.specs.declared.entry.Key.{Key}
use Rattle.stock_model.specs.declared.shortages.Shortage.{Shortage}
use Rattle.stock_nums.specs.Causes.{is_entering}
use Rattle.stock_model.specs.Enough.{entry_key, is_same_key, enters_under, leaves_under, entry_units, entered, departed, IsEnough, is_short, shortage_at, shortage_from, shortage}

-- the units of a movement, where it passes the test
abbrev pub units_where : Bool → Entry → ℕ
units_where b e = cond b (entry_units e) 0

-- a sum over those that pass, with one more movement at the end
sum_filtered-snoc : (p : Entry → Bool) (es : List Entry) (e : Entry) → sum_by entry_units (filter p (es ++ e ∷ [])) ≡ sum_by entry_units (filter p es) + units_where (p e) e
sum_filtered-snoc p es e =
    let one : (b : Bool) → sum_by entry_units (cond b (e ∷ []) []) ≡ units_where b e = λ b. elim b as (λ v. sum_by entry_units (cond v (e ∷ []) []) ≡ units_where v e) [ true ↦ omega arith | false ↦ refl ] in
    let last : sum_by entry_units (filter p (e ∷ [])) ≡ units_where (p e) e = one (p e) in
    omega (arith, ap (sum_by entry_units) (filter-append p es (e ∷ [])), sum_by-append entry_units (filter p es) (filter p (e ∷ [])), last)

pub entered-snoc : (es : List Entry) (e : Entry) (key : Key) → entered (es ++ e ∷ []) key ≡ entered es key + units_where (enters_under key e) e
entered-snoc es e key = sum_filtered-snoc (enters_under key) es e

pub departed-snoc : (es : List Entry) (e : Entry) (key : Key) → departed (es ++ e ∷ []) key ≡ departed es key + units_where (leaves_under key e) e
departed-snoc es e key = sum_filtered-snoc (leaves_under key) es e

-- the test tells the same keys
pub is_same_key-true : (a b : Key) → is_same_key a b ≡ true → a ≡ b
is_same_key-true a b h = grind (arith, nat_tests)

pub is_same_key-refl : (a : Key) → is_same_key a a ≡ true
is_same_key-refl a = grind (arith, nat_tests)

-- of each item, no more left a warehouse than entered it
abbrev pub IsCovered : List Entry → Type 0
IsCovered es = (key : Key) → departed es key ≤ entered es key

-- where one more movement isn't short, it leaves all covered
pub IsCovered-snoc : (past : List Entry) (e : Entry) → IsCovered past → is_short past e ≡ false → IsCovered (past ++ e ∷ [])
IsCovered-snoc past e covered fine key =
    let step : (b : Bool) → is_same_key (entry_key e) key ≡ b → departed (past ++ e ∷ []) key ≤ entered (past ++ e ∷ []) key =
    λ b. elim b as (λ v. is_same_key (entry_key e) key ≡ v → departed (past ++ e ∷ []) key ≤ entered (past ++ e ∷ []) key) [
      | true ↦ λ is.
          subst (λ (k : Key). departed (past ++ e ∷ []) k ≤ entered (past ++ e ∷ []) k) (is_same_key-true (entry_key e) key is)
          (ltb-false (entered (past ++ e ∷ []) (entry_key e)) (departed (past ++ e ∷ []) (entry_key e)) fine)
      | false ↦ λ is.
          let no_more : units_where (leaves_under key e) e ≡ 0 = ap (λ (v : Bool). units_where (v && not (is_entering e.place.side)) e) is in
          omega (arith, entered-snoc past e key, departed-snoc past e key, no_more, covered key)
    ] in
    step (is_same_key (entry_key e) key) refl

-- movements after which all was covered at each prefix stay so with one more that isn't short
pub IsEnough-snoc : (past : List Entry) (e : Entry) → IsEnough past → IsCovered (past ++ e ∷ []) → IsEnough (past ++ e ∷ [])
IsEnough-snoc past e enough covered n key =
    elim (cases_lt (length past) n) [
      | inl more ↦
          subst (λ (es : List Entry). departed es key ≤ entered es key)
          (sym (take_all n (past ++ e ∷ []) (omega (arith, length-append past (e ∷ []))))) (covered key)
      | inr within ↦
          subst (λ (es : List Entry). departed es key ≤ entered es key) (sym (take-append-le n past (e ∷ []) within)) (enough n key)
    ]

-- where no shortage comes after the past ones, all is covered at each prefix
covered_from : (past es : List Entry) → IsCovered past → shortage_from past es ≡ None → (n : ℕ) → IsCovered (past ++ take n es)
covered_from past es covered none zero =
    subst IsCovered (sym (append-nil past)) covered
covered_from past [] covered none (suc n) =
    subst IsCovered (sym (append-nil past)) covered
covered_from past (e ∷ es) covered none (suc n) =
    let step : (b : Bool) → is_short past e ≡ b → cond b (Some (shortage_at past e)) (shortage_from (past ++ e ∷ []) es) ≡ None → IsCovered (past ++ e ∷ take n es) =
    λ b. elim b as (λ v. is_short past e ≡ v → cond v (Some (shortage_at past e)) (shortage_from (past ++ e ∷ []) es) ≡ None → IsCovered (past ++ e ∷ take n es)) [
      | true ↦ λ is h. cc
      | false ↦ λ is h.
          subst IsCovered (append_assoc past (e ∷ []) (take n es)) (covered_from (past ++ e ∷ []) es (IsCovered-snoc past e covered is) h n)
    ] in
    step (is_short past e) refl none

-- and back
none_from : (past es : List Entry) → ((n : ℕ) → IsCovered (past ++ take n es)) → shortage_from past es ≡ None
none_from past [] all = refl
none_from past (e ∷ es) all =
    let fine : is_short past e ≡ false = le-ltb (entered (past ++ e ∷ []) (entry_key e)) (departed (past ++ e ∷ []) (entry_key e)) (all 1 (entry_key e)) in
    let rest : shortage_from (past ++ e ∷ []) es ≡ None =
    none_from (past ++ e ∷ []) es (λ n. subst IsCovered (sym (append_assoc past (e ∷ []) (take n es))) (all (suc n))) in
    ap (λ (b : Bool). cond b (Some (shortage_at past e)) (shortage_from (past ++ e ∷ []) es)) fine ∙ rest

-- no shortage is named where there is always enough, and only there
pub IsEnough-from_none : (es : List Entry) → shortage es ≡ None → IsEnough es
unfolding shortage
IsEnough-from_none es none n key = covered_from [] es (λ k. omega arith) none n key

pub shortage-none : (es : List Entry) → IsEnough es → shortage es ≡ None
unfolding shortage
shortage-none es enough = none_from [] es enough

-- the movements part at one that is short, after those at which there was enough, and s says what lacks there
abbrev pub PartsAtShort : List Entry → Shortage → Type 0
PartsAtShort es s =
    (past : List Entry) × (e : Entry) × (rest : List Entry) × (es ≡ past ++ e ∷ rest) × IsEnough past
    × (entered (past ++ e ∷ []) (entry_key e) < departed (past ++ e ∷ []) (entry_key e)) × (s ≡ shortage_at past e)

some_from : (past es : List Entry) (s : Shortage) → IsEnough past → IsCovered past → shortage_from past es ≡ Some s → PartsAtShort (past ++ es) s
some_from past [] s enough covered some = cc
some_from past (e ∷ es) s enough covered some =
    let step : (b : Bool) → is_short past e ≡ b → cond b (Some (shortage_at past e)) (shortage_from (past ++ e ∷ []) es) ≡ Some s → PartsAtShort (past ++ e ∷ es) s =
    λ b. elim b as (λ v. is_short past e ≡ v → cond v (Some (shortage_at past e)) (shortage_from (past ++ e ∷ []) es) ≡ Some s → PartsAtShort (past ++ e ∷ es) s) [
      | true ↦ λ is h.
          let named : s ≡ shortage_at past e = cc in
          (past, e, es, refl, enough, ltb-true (entered (past ++ e ∷ []) (entry_key e)) (departed (past ++ e ∷ []) (entry_key e)) is, named)
      | false ↦ λ is h.
          let next = IsCovered-snoc past e covered is in
          subst (λ (all : List Entry). PartsAtShort all s) (append_assoc past (e ∷ []) es)
          (some_from (past ++ e ∷ []) es s (IsEnough-snoc past e enough next) next h)
    ] in
    step (is_short past e) refl some

-- nothing moved, and all is covered
pub IsEnough-nil : IsEnough []
IsEnough-nil zero key = omega arith
IsEnough-nil (suc n) key = omega arith

-- a named shortage is the first one
pub shortage-first : (es : List Entry) (s : Shortage) → shortage es ≡ Some s → PartsAtShort es s
unfolding shortage
shortage-first es s some = some_from [] es s IsEnough-nil (λ key. omega arith) some

-- what entered under the key of the last movement
pub entered-own : (past : List Entry) (e : Entry) → entered (past ++ e ∷ []) (entry_key e) ≡ entered past (entry_key e) + cond (is_entering e.place.side) e.qty.0 0
entered-own past e =
    entered-snoc past e (entry_key e)
    ∙ ap (λ (b : Bool). entered past (entry_key e) + units_where (b && is_entering e.place.side) e) (is_same_key-refl (entry_key e))

pub departed-own : (past : List Entry) (e : Entry) → departed (past ++ e ∷ []) (entry_key e) ≡ departed past (entry_key e) + cond (not (is_entering e.place.side)) e.qty.0 0
departed-own past e =
    departed-snoc past e (entry_key e)
    ∙ ap (λ (b : Bool). departed past (entry_key e) + units_where (b && not (is_entering e.place.side)) e) (is_same_key-refl (entry_key e))
