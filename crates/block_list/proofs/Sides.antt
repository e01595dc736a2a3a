-- Where a bound falls in blocks side by side.
use Rattle.std.proofs.Common.{◌≡◌, ℕ, suc, ◌+◌, ◌-◌, ◌<◌, Bool, true, false, get_or, slice_get, Some, List, [], ◌∷◌, ◌++◌, length, take, drop, refl, sym, ap, subst, ◌∙◌, arith, length-append, inl, inr}
use Rattle.std.specs.List.{All}
use Rattle.std.specs.List.Sorted.{IsPartitionedBy, IsPartitionPoint}
use Rattle.std.proofs.lemmas.Bool.{cases_lt}
use Rattle.std.proofs.lemmas.List.{get_or-append-add, get_or_append_left, get_or_default, take_all}
use Rattle.block_list.specs.Blocks.{joined, block_at, IsFilled, IsSpot}
use Rattle.block_list.specs.Bounds.{HasSides, first_passes}
use Rattle.block_list.proofs.Joined.{joined-around, joined_more, joined-read}

-- true is not false
differ : (b : Bool) → b ≡ true → b ≡ false → ⊥
differ true passes fails = grind arith
differ false passes fails = grind arith

not-true : (b : Bool) → (b ≡ true → ⊥) → b ≡ false
not-true true never = absurd (never refl)
not-true false never = refl

-- in a list of which those that pass come first
pub point-from_sides : {T : Type 0} (p : T → Bool) (xs : List T) (at : ℕ) → IsPartitionedBy p xs → HasSides p xs at
    → IsPartitionPoint (λ y. p y ≡ true) (λ y. p y ≡ false) xs at
point-from_sides p xs at parted sides = (
  λ k d first less. parted k (at - 1) d (omega (arith, less)) (omega (arith, less, sides.within)) (sides.before d (omega (arith, less))),
  λ k d more within.
      not-true (p (get_or xs k d)) (λ passes. differ (p (get_or xs at d)) (parted at k d more within passes) (sides.after d (omega (arith, more, within)))),
)

-- the first item is that at 0
first-is : {T : Type 0} (test : T → Bool) (b : List T) (d : T) → 0 < length b → first_passes test b ≡ test (get_or b 0 d)
first-is test [] d some = absurd (omega (arith, some))
first-is test (x ∷ b) d some = refl

-- an item of a block
inside : {T : Type 0} (bs : List (List T)) (i o : ℕ) (d : T) → i < length bs → o < length (block_at bs i)
    → get_or (joined bs) (length (joined (take i bs)) + o) d ≡ get_or (block_at bs i) o d
inside bs i o d within own =
    let front = joined (take i bs) in
    let b = block_at bs i in
    let rest = joined (drop (suc i) bs) in
    ap (λ xs. get_or xs (length front + o) d) (joined-around bs i within) ∙ get_or-append-add front (b ++ rest) o d ∙ get_or_append_left b rest d o own

-- a bound does not fall before an item that comes before it
first-fails : {T : Type 0} (test : T → Bool) (b : List T) → 0 < length b → first_passes test b ≡ true → HasSides test b 0 → ⊥
first-fails test [] any passes own = omega (arith, any)
first-fails test (x ∷ b) any passes own = differ (test x) passes (own.after x any)

none-first : {T : Type 0} (test : T → Bool) (bs : List (List T)) (d : T) → All IsFilled bs → HasSides (first_passes test) bs 0 → 0 < length (joined bs)
    → test (get_or (joined bs) 0 d) ≡ false
none-first test [] d filled sides some = absurd (omega (arith, some))
none-first test (b ∷ bs) d filled sides some =
    let own : 0 < length b = (filled 0 [] (omega arith)).some in
    ap test (get_or_append_left b (joined bs) d 0 own) ∙ sym (first-is test b d own) ∙ sides.after [] (omega arith)

-- no block begins before the bound
pub sides-none : {T : Type 0} (test : T → Bool) (bs : List (List T)) → All IsFilled bs → HasSides (first_passes test) bs 0 → HasSides test (joined bs) 0
sides-none test bs filled sides =
    record {
      within = omega arith;
      before = λ d some. absurd (omega (arith, some));
      after = λ d some. none-first test bs d filled sides some;
    }

-- after a whole block stands the first item of the next one
after-block : {T : Type 0} (test : T → Bool) (bs : List (List T)) (n : ℕ) (d : T) → All IsFilled bs → HasSides (first_passes test) bs n → 0 < n
    → (at : ℕ) → at ≡ length (joined (take (n - 1) bs)) + length (block_at bs (n - 1)) → at < length (joined bs) → test (get_or (joined bs) at d) ≡ false
after-block test bs n d filled blocks some at is less =
    let i = n - 1 in
    let one : i + 1 ≡ n = omega (arith, some) in
    let here : i < length bs = omega (arith, some, blocks.within) in
    let more = ap length (joined_more bs i here) ∙ length-append (joined (take i bs)) (block_at bs i) in
    let size : length (joined (take n bs)) ≡ at = ap (λ k. length (joined (take k bs))) (sym one) ∙ more ∙ sym is in
    elim (cases_lt n (length bs)) [
      | inl next ↦
          let any : 0 < length (block_at bs n) = (filled n [] next).some in
          let place : length (joined (take n bs)) + 0 ≡ at = omega (arith, size) in
          ap (λ k. test (get_or (joined bs) k d)) (sym place) ∙ ap test (inside bs n 0 d next any) ∙ sym (first-is test (block_at bs n) d any) ∙ blocks.after [] next
      | inr last ↦
          let all = ap (λ xs. length (joined xs)) (take_all n bs last) in
          absurd (omega (arith, size, all, less))
    ]

-- a bound does not fall before the first item of a block that begins before it
pub after-first : {T : Type 0} (test : T → Bool) (bs : List (List T)) (n : ℕ) → All IsFilled bs → HasSides (first_passes test) bs n → 0 < n
    → HasSides test (block_at bs (n - 1)) 0 → ⊥
after-first test bs n filled blocks some own =
    let b = block_at bs (n - 1) in
    let any : 0 < length b = (filled (n - 1) [] (omega (arith, some, blocks.within))).some in
    first-fails test b any (blocks.before [] some) own

-- the last block that begins before the bound, and where the bound falls there
pub sides-joined : {T : Type 0} (test : T → Bool) (bs : List (List T)) (n o : ℕ) → All IsFilled bs → HasSides (first_passes test) bs n → 0 < n
    → HasSides test (block_at bs (n - 1)) o → HasSides test (joined bs) (length (joined (take (n - 1) bs)) + o)
sides-joined {T = T} test bs n o filled blocks some own =
    let i = n - 1 in
    let b = block_at bs i in
    let front = joined (take i bs) in
    let rest = joined (drop (suc i) bs) in
    let at = length front + o in
    let here : i < length bs = omega (arith, some, blocks.within) in
    let any : 0 < length b = (filled i [] here).some in
    let lengths = ap length (joined-around bs i here) ∙ length-append front (b ++ rest) in
    let both = length-append b rest in
    record {
      within = omega (arith, lengths, both, own.within);
      before =
          λ d more.
          elim (cases_lt 0 o) [
            | inl later ↦
                let step : length front + (o - 1) ≡ at - 1 = omega (arith, later) in
                ap (λ k. test (get_or (joined bs) k d)) (sym step) ∙ ap test (inside bs i (o - 1) d here (omega (arith, later, own.within))) ∙ own.before d later
            | inr none ↦
                let zero_is : o ≡ 0 = omega (arith, none) in
                absurd (after-first test bs n filled blocks some (subst (HasSides test b) zero_is own))
          ];
      after =
          λ d less.
          elim (cases_lt o (length b)) [
            | inl within ↦ ap test (inside bs i o d here within) ∙ own.after d within
            | inr whole ↦ after-block test bs n d filled blocks some at (omega (arith, whole, own.within)) less
          ];
    }

-- the item that was read of a block, after a search found where it stands
pub sides-read : {T : Type 0} (test : T → Bool) (cs bs : List (List T)) (i o : ℕ) (b : List T) (x : T) → cs ≡ bs
    → (at : ℕ) × HasSides test (joined cs) at × IsSpot cs at i o → b ≡ get_or bs i b → x ≡ get_or b o x
    → (at : ℕ) × HasSides test (joined bs) at × IsSpot bs at i o × (slice_get (joined bs) at ≡ Some x)
sides-read test cs bs i o b x same (at, sides, place) block read =
    let spot = subst (λ ds. IsSpot ds at i o) same place in
    (at, subst (λ ds. HasSides test (joined ds) at) same sides, spot, joined-read bs at i o b x spot (block ∙ get_or_default bs i b [] spot.within) read)

-- in a list of which those that pass come first there is one index for it
not-less : {T : Type 0} (test : T → Bool) (xs : List T) (a b : ℕ) → IsPartitionedBy test xs → HasSides test xs a → HasSides test xs b → a < b → ⊥
not-less test [] a b parted first second less = omega (arith, less, second.within)
not-less test (x ∷ xs) a b parted first second less =
    let some : 0 < b = omega (arith, less) in
    let last : b - 1 < length (x ∷ xs) = omega (arith, second.within, some) in
    differ (test (get_or (x ∷ xs) a x)) (parted a (b - 1) x (omega (arith, less)) last (second.before x some)) (first.after x (omega (arith, less, second.within)))

pub sides-same : {T : Type 0} (test : T → Bool) (xs : List T) (a b : ℕ) → IsPartitionedBy test xs → HasSides test xs a → HasSides test xs b → a ≡ b
sides-same test xs a b parted first second =
    elim (cases_lt a b) [
      | inl less ↦ absurd (not-less test xs a b parted first second less)
      | inr other ↦ elim (cases_lt b a) [
        | inl more ↦ absurd (not-less test xs b a parted second first more)
        | inr same ↦ omega (arith, other, same)
      ]
    ]
