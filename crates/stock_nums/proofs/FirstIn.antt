-- First in, first out: what the units that left cost and what the layers left are worth make up what entered.
use Rattle.std.proofs.Common.{◌≡◌, ℕ, ◌+◌, ◌-◌, ◌*◌, ◌/◌, ◌<◌, ◌≤◌, Bool, if◌then◌else◌, nat_le, map, List, [], ◌∷◌, ◌++◌, sum_by, inl, inr, refl, sym, ap, ◌∙◌, arith}
use Rattle.std.specs.List.{All}
use Rattle.std.proofs.lemmas.Bool.{le-leb, lt-leb, cases_lt}
use Rattle.std.proofs.lemmas.List.Elements.{All-head, All-tail}
use Rattle.std.proofs.lemmas.List.Sums.{sum_by-cons}
use Rattle.stock_nums.specs.FirstIn.{first_cost, next_cost, Layer, layers_left, layer_units, layer_value}
use Rattle.stock_nums.specs.Part.{part}
use Rattle.stock_nums.proofs.PartLemmas.{share-mono, share-le, share-none, part-first, part-last}

-- the layers that are left
module _ {X : Type 0} (units : X → ℕ) where
  -- an element all of whose units were taken is gone
  pub layers_left-gone : (e : X) (es : List X) (taken : ℕ) → units e ≤ taken → layers_left units (e ∷ es) taken ≡ layers_left units es (taken - units e)
  layers_left-gone e es taken gone =
      ap (λ (b : Bool). if b then layers_left units es (taken - units e) else record { entered = e; taken = taken } ∷ layers_left units es 0) (le-leb (units e) taken gone)

  -- the element that was taken from last comes first
  pub layers_left-cut : (e : X) (es : List X) (taken : ℕ) → taken < units e → layers_left units (e ∷ es) taken ≡ record { entered = e; taken = taken } ∷ layers_left units es 0
  layers_left-cut e es taken cut =
      ap (λ (b : Bool). if b then layers_left units es (taken - units e) else record { entered = e; taken = taken } ∷ layers_left units es 0) (lt-leb (units e) taken cut)

  -- what enters later comes after the layers that are left
  pub layers_left-append : (es fs : List X) (taken : ℕ) → taken ≤ sum_by units es → layers_left units (es ++ fs) taken ≡ layers_left units es taken ++ layers_left units fs 0
  layers_left-append [] fs taken enough =
      let none : taken ≡ 0 = omega arith in
      ap (layers_left units fs) none
  layers_left-append (e ∷ es) fs taken enough =
      let all_units = sum_by-cons units e es in
      elim (cases_lt taken (units e)) [
        | inl cut ↦
            layers_left-cut e (es ++ fs) taken cut
            ∙ ap (λ (layers : List (Layer X)). record { entered = e; taken = taken } ∷ layers) (layers_left-append es fs 0 (omega arith))
            ∙ ap (λ (layers : List (Layer X)). layers ++ layers_left units fs 0) (sym (layers_left-cut e es taken cut))
        | inr gone ↦
            layers_left-gone e (es ++ fs) taken gone
            ∙ layers_left-append es fs (taken - units e) (omega arith)
            ∙ ap (λ (layers : List (Layer X)). layers ++ layers_left units fs 0) (sym (layers_left-gone e es taken gone))
      ]

  -- what enters alone and has units is a layer
  pub layers_left-one : (e : X) → 0 < units e → layers_left units (e ∷ []) 0 ≡ record { entered = e; taken = 0 } ∷ []
  layers_left-one e some = layers_left-cut e [] 0 some

  -- what enters last comes last
  pub layers_left-snoc : (es : List X) (e : X) (taken : ℕ) → taken ≤ sum_by units es → 0 < units e → layers_left units (es ++ e ∷ []) taken ≡ layers_left units es taken ++ record { entered = e; taken = 0 } ∷ []
  layers_left-snoc es e taken enough some =
      layers_left-append es (e ∷ []) taken enough ∙ ap (λ (layers : List (Layer X)). layers_left units es taken ++ layers) (layers_left-one e some)

  -- what was taken and what the layers left have make up all units
  pub layers_left-units : (es : List X) (taken : ℕ) → taken ≤ sum_by units es → taken + sum_by (layer_units units) (layers_left units es taken) ≡ sum_by units es
  layers_left-units [] taken enough = omega arith
  layers_left-units (e ∷ es) taken enough =
      let all_units = sum_by-cons units e es in
      elim (cases_lt taken (units e)) [
        | inl cut ↦
            let rest = layers_left-units es 0 (omega arith) in
            let left = ap (sum_by (layer_units units)) (layers_left-cut e es taken cut) ∙ sum_by-cons (layer_units units) (record { entered = e; taken = taken }) (layers_left units es 0) in
            omega arith
        | inr gone ↦
            let rest = layers_left-units es (taken - units e) (omega arith) in
            rw (layers_left-gone e es taken gone) (omega arith)
      ]

-- what the units that left cost
module _ {X : Type 0} (units value : X → ℕ) where
  -- an element all of whose units are among the first costs all that it's worth
  pub first_cost-whole : (e : X) (es : List X) (x : ℕ) → units e ≤ x → first_cost units value (e ∷ es) x ≡ value e + first_cost units value es (x - units e)
  first_cost-whole e es x whole =
      ap (λ (b : Bool). if b then value e + first_cost units value es (x - units e) else part (value e) 0 x (units e)) (le-leb (units e) x whole)

  -- of the first element alone, the first units cost their share
  pub first_cost-within : (e : X) (es : List X) (x : ℕ) → x < units e → first_cost units value (e ∷ es) x ≡ value e * x / units e
  first_cost-within e es x within =
      ap (λ (b : Bool). if b then value e + first_cost units value es (x - units e) else part (value e) 0 x (units e)) (lt-leb (units e) x within)
      ∙ part-first (value e) x (units e)

  -- no units cost nothing
  pub first_cost-none : (es : List X) → All (λ e. 0 < units e) es → first_cost units value es 0 ≡ 0
  first_cost-none [] some = refl
  first_cost-none (e ∷ es) some =
      first_cost-within e es 0 (All-head (λ e. 0 < units e) e es some) ∙ share-none (value e) (units e)

  -- all units cost all that entered
  pub first_cost-all : (es : List X) (x : ℕ) → sum_by units es ≤ x → first_cost units value es x ≡ sum_by value es
  first_cost-all [] x all = refl
  first_cost-all (e ∷ es) x all =
      let all_units = sum_by-cons units e es in
      let rest = first_cost-all es (x - units e) (omega arith) in
      let whole = first_cost-whole e es x (omega arith) in
      omega (arith, sum_by-cons value e es)

  -- no units cost more than all that entered
  pub first_cost-le : (es : List X) (x : ℕ) → first_cost units value es x ≤ sum_by value es
  first_cost-le [] x = omega arith
  first_cost-le (e ∷ es) x =
      let all_value = sum_by-cons value e es in
      elim (cases_lt x (units e)) [
        | inl within ↦
            let share : value e * x / units e ≤ value e = share-le (value e) x (units e) (omega arith) in
            omega (arith, first_cost-within e es x within)
        | inr whole ↦ omega (arith, first_cost-whole e es x whole, first_cost-le es (x - units e))
      ]

  -- more units cost no less
  pub first_cost-mono : (es : List X) (x y : ℕ) → x ≤ y → first_cost units value es x ≤ first_cost units value es y
  first_cost-mono [] x y more = omega arith
  first_cost-mono (e ∷ es) x y more =
      elim (cases_lt y (units e)) [
        | inl within ↦
            let shares : value e * x / units e ≤ value e * y / units e = share-mono (value e) x y (units e) (omega arith) more in
            omega (arith, first_cost-within e es x (omega arith), first_cost-within e es y within)
        | inr whole ↦ elim (cases_lt x (units e)) [
          | inl within ↦
              let share : value e * x / units e ≤ value e = share-le (value e) x (units e) (omega arith) in
              omega (arith, first_cost-within e es x within, first_cost-whole e es y whole)
          | inr both ↦
              omega (arith, first_cost-whole e es x both, first_cost-whole e es y whole, first_cost-mono es (x - units e) (y - units e) (omega arith))
        ]
      ]

  -- what enters later makes no difference to what the units before cost
  pub first_cost-append : (es fs : List X) (x : ℕ) → All (λ e. 0 < units e) fs → x ≤ sum_by units es → first_cost units value (es ++ fs) x ≡ first_cost units value es x
  first_cost-append [] fs x some enough =
      let none : x ≡ 0 = omega arith in
      ap (first_cost units value fs) none ∙ first_cost-none fs some
  first_cost-append (e ∷ es) fs x some enough =
      let all_units = sum_by-cons units e es in
      elim (cases_lt x (units e)) [
        | inl within ↦ first_cost-within e (es ++ fs) x within ∙ sym (first_cost-within e es x within)
        | inr whole ↦
            first_cost-whole e (es ++ fs) x whole
            ∙ ap (λ (c : ℕ). value e + c) (first_cost-append es fs (x - units e) some (omega arith))
            ∙ sym (first_cost-whole e es x whole)
      ]

  -- what the units taken cost and what the layers left are worth make up all that entered
  pub layers_left-value : (es : List X) (taken : ℕ) → All (λ e. 0 < units e) es → taken ≤ sum_by units es
      → first_cost units value es taken + sum_by (layer_value units value) (layers_left units es taken) ≡ sum_by value es
  layers_left-value [] taken some enough = refl
  layers_left-value (e ∷ es) taken some enough =
      let some_later = All-tail (λ e. 0 < units e) e es some in
      let all_units = sum_by-cons units e es in
      let all_value = sum_by-cons value e es in
      elim (cases_lt taken (units e)) [
        | inl cut ↦
            let rest = layers_left-value es 0 some_later (omega arith) in
            let none = first_cost-none es some_later in
            let all : value e * taken / units e + part (value e) taken (units e - taken) (units e) ≡ value e = part-last (value e) taken (units e - taken) (units e) (omega arith) (omega arith) in
            let left = ap (sum_by (layer_value units value)) (layers_left-cut units e es taken cut) ∙ sum_by-cons (layer_value units value) (record { entered = e; taken = taken }) (layers_left units es 0) in
            omega (arith, first_cost-within e es taken cut)
        | inr gone ↦
            let rest = layers_left-value es (taken - units e) some_later (omega arith) in
            rw (first_cost-whole e es taken gone, layers_left-gone units e es taken gone) (omega arith)
      ]

  -- what some units cost and what the next cost is what they cost together
  pub next_cost-split : (es : List X) (taken q r : ℕ) → next_cost units value es taken q + next_cost units value es (taken + q) r ≡ next_cost units value es taken (q + r)
  next_cost-split es taken q r =
      let first = first_cost-mono es taken (taken + q) (omega arith) in
      let second = first_cost-mono es (taken + q) (taken + q + r) (omega arith) in
      let together : taken + q + r ≡ taken + (q + r) = omega arith in
      chain _ _ _ first second ∙ ap (λ (x : ℕ). first_cost units value es x - first_cost units value es taken) together
    where
      chain : (x y z : ℕ) → x ≤ y → y ≤ z → (y - x) + (z - y) ≡ z - x
      chain x y z first second = omega arith

-- elements that stand for others: with the units and values of these, all is as it is with these
module _ {X Y : Type 0} (f : Y → X) (units value : X → ℕ) where
  -- what the first units cost
  pub first_cost-map : (es : List Y) (x : ℕ) → first_cost units value (map f es) x ≡ first_cost (λ e. units (f e)) (λ e. value (f e)) es x
  first_cost-map [] x = refl
  first_cost-map (e ∷ es) x =
      ap (λ (c : ℕ). if nat_le (units (f e)) x then value (f e) + c else part (value (f e)) 0 x (units (f e))) (first_cost-map es (x - units (f e)))

  -- what the next units cost
  pub next_cost-map : (es : List Y) (taken q : ℕ) → next_cost units value (map f es) taken q ≡ next_cost (λ e. units (f e)) (λ e. value (f e)) es taken q
  next_cost-map es taken q =
      let till_now = first_cost-map es (taken + q) in
      let till_before = first_cost-map es taken in
      omega arith

  -- the layers that are left
  pub layers_left-map : (es : List Y) (taken : ℕ) → layers_left units (map f es) taken ≡ map (λ (layer : Layer Y). record { entered = f layer.entered; taken = layer.taken }) (layers_left (λ e. units (f e)) es taken)
  layers_left-map [] taken = refl
  layers_left-map (e ∷ es) taken =
      let stands_for : Layer Y → Layer X = λ layer. record { entered = f layer.entered; taken = layer.taken } in
      elim (cases_lt taken (units (f e))) [
        | inl cut ↦
            layers_left-cut units (f e) (map f es) taken cut
            ∙ ap (λ (layers : List (Layer X)). record { entered = f e; taken = taken } ∷ layers) (layers_left-map es 0)
            ∙ ap (map stands_for) (sym (layers_left-cut (λ e. units (f e)) e es taken cut))
        | inr gone ↦
            layers_left-gone units (f e) (map f es) taken gone
            ∙ layers_left-map es (taken - units (f e))
            ∙ ap (map stands_for) (sym (layers_left-gone (λ e. units (f e)) e es taken gone))
      ]
