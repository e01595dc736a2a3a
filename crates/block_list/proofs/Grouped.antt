-- Groups of blocks: what is before a group, in it, and after it, and where one block changes.
use Rattle.std.proofs.Common.{◌≡◌, ℕ, ◌+◌, ◌-◌, ◌*◌, ◌<◌, ◌≤◌, ◌≢◌, ◌⊎◌, inl, inr, min, get_or, set, ℤ, pos, ◌≤ℤ◌, unsigned_abs, ◌^◌, List, [], ◌∷◌, ◌++◌, length, map, take, drop, refl, sym, ap, ◌∙◌, subst, arith, length-append, length-take, length-drop}
use Rattle.std.proofs.Math.Seq.{take-add, map-set_same}
use Rattle.std.proofs.lemmas.Bool.{cases_lt}
use Rattle.std.proofs.lemmas.List.{take-take, take_all, take-append-drop, take-set-le, drop-set-lt, drop-set-add, nil_from_length, get_or-take, get_or-drop, get_or_append_left, get_or-append-add, get_or-set_same, get_or-set_other, length-set, length-map, map-append, take-map, drop-map}
use Rattle.block_list.specs.Blocks.{joined, block_at, IsSpot}
use Rattle.block_list.specs.Heads.{group_at, IsHead, AreHeads}
use Rattle.block_list.specs.declared.sums.TheConstants.{GROUP}
use Rattle.block_list.specs.declared.heads.Head.{Head}
use Rattle.block_list.proofs.Joined.{joined-append}
use Rattle.block_list.proofs.Totals.{fronts-same, total-same}

-- of the first groups, with one more
pub joined-groups_more : {T : Type 0} (bs : List (List T)) (g : ℕ) → joined (take (GROUP * (g + 1)) bs) ≡ joined (take (GROUP * g) bs) ++ joined (group_at bs g)
joined-groups_more bs g =
    let next : GROUP * (g + 1) ≡ GROUP * g + GROUP = omega arith in
    ap (λ n. joined (take n bs)) next ∙ ap joined (take-add (GROUP * g) GROUP bs) ∙ joined-append (take (GROUP * g) bs) (group_at bs g)

-- around a group
pub joined-around_group : {T : Type 0} (bs : List (List T)) (g : ℕ)
    → joined bs ≡ joined (take (GROUP * g) bs) ++ (joined (group_at bs g) ++ joined (drop GROUP (drop (GROUP * g) bs)))
joined-around_group bs g =
    let rest = drop (GROUP * g) bs in
    ap joined (sym (take-append-drop (GROUP * g) bs)) ∙ joined-append (take (GROUP * g) bs) rest
    ∙ ap (λ xs. joined (take (GROUP * g) bs) ++ xs) (ap joined (sym (take-append-drop GROUP rest)) ∙ joined-append (take GROUP rest) (drop GROUP rest))

-- no more items are in a group, and before it, than in the list
pub group-fits : {T : Type 0} (bs : List (List T)) (g : ℕ) → length (joined (take (GROUP * g) bs)) + length (joined (group_at bs g)) ≤ length (joined bs)
group-fits bs g =
    let front = joined (take (GROUP * g) bs) in
    let own = joined (group_at bs g) in
    let rest = joined (drop GROUP (drop (GROUP * g) bs)) in
    omega (arith, ap length (joined-around_group bs g), length-append front (own ++ rest), length-append own rest)

-- what a slice of heads has past its end
abbrev pub no_items : Head
no_items = record { items = 0; sums = record { sum = pos 0; low = pos 0 } }

-- a group has as many blocks as there are from its first one on, up to so many
pub length-group_at : {T : Type 0} (bs : List (List T)) (g : ℕ) → length (group_at bs g) ≡ min GROUP (length bs - GROUP * g)
length-group_at bs g =
    let rest = length-drop (GROUP * g) bs in
    let all = length-take GROUP (drop (GROUP * g) bs) in
    omega (arith, rest, all)

-- the blocks of a group stand side by side
pub group_at-run : {T : Type 0} (bs : List (List T)) (g start n size : ℕ) → start ≡ min (GROUP * g) (length bs) → size ≡ min GROUP (length bs - start) → n ≡ size
    → take n (drop start bs) ≡ group_at bs g
group_at-run bs g start n size begins many is =
    let rest = drop start bs in
    let left = length-drop start bs in
    elim (cases_lt (GROUP * g) (length bs)) [
      | inl inside ↦
          let here : start ≡ GROUP * g = omega (arith, begins, inside) in
          elim (cases_lt n GROUP) [
            | inl last ↦
                let all : length rest ≤ n = omega (arith, left, last, many, is) in
                let whole : length rest ≤ GROUP = omega (arith, all, last) in
                take_all n rest all ∙ sym (take_all GROUP rest whole) ∙ ap (λ k. take GROUP (drop k bs)) here
            | inr full ↦
                let size_is : n ≡ GROUP = omega (arith, full, many, is) in
                ap (λ k. take k rest) size_is ∙ ap (λ k. take GROUP (drop k bs)) here
          ]
      | inr past ↦
          let none : length (take n rest) ≡ 0 = omega (arith, length-take n rest, left, begins, past) in
          let no_more : length (group_at bs g) ≡ 0 = omega (arith, length-group_at bs g, past) in
          nil_from_length (take n rest) none ∙ sym (nil_from_length (group_at bs g) no_more)
    ]

-- the item of a group is an item of the list
pub IsSpot-in_group : {T : Type 0} (bs : List (List T)) (g at i o index block : ℕ) → IsSpot (group_at bs g) at i o → index ≡ length (joined (take (GROUP * g) bs)) + at
    → GROUP * g + i ≡ block → IsSpot bs index block o
IsSpot-in_group bs g at i o index block spot is place =
    let rest = drop (GROUP * g) bs in
    let size = length-group_at bs g in
    let few : i < GROUP = omega (arith, size, spot.within) in
    let same : block_at (group_at bs g) i ≡ block_at bs (GROUP * g + i) = get_or-take GROUP rest i [] few ∙ get_or-drop (GROUP * g) bs i [] in
    let front : joined (take (GROUP * g + i) bs) ≡ joined (take (GROUP * g) bs) ++ joined (take i (group_at bs g)) =
    ap joined (take-add (GROUP * g) i bs) ∙ joined-append (take (GROUP * g) bs) (take i rest)
    ∙ ap (λ xs. joined (take (GROUP * g) bs) ++ joined xs) (sym (take-take i GROUP rest (omega (arith, few)))) in
    let lengths = ap length front ∙ length-append (joined (take (GROUP * g) bs)) (joined (take i (group_at bs g))) in
    subst (λ (k : ℕ). IsSpot bs index k o) place
    (record {
      within = omega (arith, size, spot.within);
      inside = omega (arith, ap length same, spot.inside);
      is = omega (arith, lengths, is, spot.is);
    })

-- where another block is changed, a group stays
group_at-set : {T : Type 0} (bs : List (List T)) (i : ℕ) (b : List T) (g : ℕ) → (i < GROUP * g) ⊎ (GROUP * g + GROUP ≤ i) → group_at (set bs i b) g ≡ group_at bs g
group_at-set bs i b g elsewhere =
    elim elsewhere [
      | inl before ↦ ap (take GROUP) (drop-set-lt (GROUP * g) bs i b before)
      | inr after ↦
          let k = i - GROUP * g in
          let at : i ≡ GROUP * g + k = omega (arith, after) in
          ap (λ n. take GROUP (drop (GROUP * g) (set bs n b))) at ∙ ap (take GROUP) (drop-set-add (GROUP * g) bs k b)
          ∙ take-set-le GROUP (drop (GROUP * g) bs) k b (omega (arith, after))
    ]

-- with the head of one group more
pub heads-more : {T : Type 0} (w : T → ℤ) (hs : List Head) (bs : List (List T)) (h : Head)
    → ((g : ℕ) (d : Head) → g < length hs → IsHead w (get_or hs g d) (joined (group_at bs g))) → IsHead w h (joined (group_at bs (length hs)))
    → (g : ℕ) (d : Head) → g < length (hs ++ h ∷ []) → IsHead w (get_or (hs ++ h ∷ []) g d) (joined (group_at bs g))
heads-more w hs bs h each own g d within =
    elim (cases_lt g (length hs)) [
      | inl earlier ↦ subst (λ (x : Head). IsHead w x (joined (group_at bs g))) (sym (get_or_append_left hs (h ∷ []) d g earlier)) (each g d earlier)
      | inr last ↦
          let at : length hs ≡ g = omega (arith, last, within, length-append hs (h ∷ [])) in
          let place : length hs + 0 ≡ g = omega (arith, at) in
          let read : h ≡ get_or (hs ++ h ∷ []) g d = sym (get_or-append-add hs (h ∷ []) 0 d) ∙ ap (λ n. get_or (hs ++ h ∷ []) n d) place in
          subst (λ (x : Head). IsHead w x (joined (group_at bs g))) read (subst (λ (n : ℕ). IsHead w h (joined (group_at bs n))) at own)
    ]

-- with another head for the group of a block that has changed
pub AreHeads-set : {T : Type 0} (w : T → ℤ) (hs : List Head) (was bs : List (List T)) (i : ℕ) (b : List T) (g : ℕ) (h : Head) → AreHeads w hs was → bs ≡ set was i b → i < length was
    → GROUP * g ≤ i → i < GROUP * g + GROUP → IsHead w h (joined (group_at bs g)) → AreHeads w (set hs g h) bs
AreHeads-set w hs was bs i b g h heads is within low high own =
    let sizes = ap length is ∙ length-set was i b in
    let count = length-set hs g h in
    record {
      all = omega (arith, heads.all, sizes, count);
      each =
          λ k d less.
          elim (cases_lt k g) [
            | inl earlier ↦
                let other : k ≢ g = omega (arith, earlier) in
                let same : group_at bs k ≡ group_at was k = ap (λ xs. group_at xs k) is ∙ group_at-set was i b k (inr (omega (arith, earlier, low))) in
                let kept = subst (λ xs. IsHead w (get_or hs k d) (joined xs)) (sym same) (heads.each k d (omega (arith, less, count))) in
                subst (λ (x : Head). IsHead w x (joined (group_at bs k))) (sym (get_or-set_other hs g k h d other)) kept
            | inr from_there ↦
                elim (cases_lt g k) [
                  | inl later ↦
                      let other : k ≢ g = omega (arith, later) in
                      let same : group_at bs k ≡ group_at was k = ap (λ xs. group_at xs k) is ∙ group_at-set was i b k (inl (omega (arith, later, high))) in
                      let kept = subst (λ xs. IsHead w (get_or hs k d) (joined xs)) (sym same) (heads.each k d (omega (arith, less, count))) in
                      subst (λ (x : Head). IsHead w x (joined (group_at bs k))) (sym (get_or-set_other hs g k h d other)) kept
                  | inr one ↦
                      let at : g ≡ k = omega (arith, from_there, one) in
                      let read : h ≡ get_or (set hs g h) k d = sym (get_or-set_same hs g h d (omega (arith, less, count, at))) ∙ ap (λ n. get_or (set hs g h) n d) at in
                      subst (λ (x : Head). IsHead w x (joined (group_at bs k))) read (subst (λ (n : ℕ). IsHead w h (joined (group_at bs n))) at own)
                ]
          ];
    }

-- what each item counts, of all blocks
map-joined : {T U : Type 0} (f : T → U) (bs : List (List T)) → map f (joined bs) ≡ joined (map (map f) bs)
map-joined f [] = refl
map-joined f (b ∷ bs) = map-append f b (joined bs) ∙ ap (λ ys. map f b ++ ys) (map-joined f bs)

-- and of those of a group
map-group : {T U : Type 0} (f : T → U) (bs : List (List T)) (g : ℕ) → map f (joined (group_at bs g)) ≡ joined (group_at (map (map f) bs) g)
map-group f bs g =
    map-joined f (group_at bs g)
    ∙ ap joined (sym (take-map (map f) GROUP (drop (GROUP * g) bs)) ∙ ap (take GROUP) (sym (drop-map (map f) (GROUP * g) bs)))

-- a head tells as well of other items that count the same
IsHead-same : {T : Type 0} (w : T → ℤ) (h : Head) (xs ys : List T) → map w xs ≡ map w ys → IsHead w h xs → IsHead w h ys
IsHead-same w h xs ys same head =
    let size : length xs ≡ length ys = sym (length-map xs w) ∙ ap length same ∙ length-map ys w in
    record {
      items = head.items ∙ size;
      sum = head.sum ∙ total-same w xs ys same;
      low = λ k. subst (λ (s : ℤ). h.sums.low ≤ℤ s) (fronts-same w xs ys same k) (head.low k);
      small_sum = subst (λ (n : ℕ). unsigned_abs h.sums.sum ≤ n * 2 ^ 40) size head.small_sum;
      small_low = subst (λ (n : ℕ). unsigned_abs h.sums.low ≤ n * 2 ^ 40) size head.small_low;
    }

-- so the heads stay where the items of a block come to be others that count the same
pub AreHeads-same : {T : Type 0} (w : T → ℤ) (hs : List Head) (bs : List (List T)) (i : ℕ) (b : List T) → map w b ≡ map w (block_at bs i)
    → AreHeads w hs bs → AreHeads w hs (set bs i b)
AreHeads-same w hs bs i b same heads =
    let counts : map (map w) bs ≡ map (map w) (set bs i b) = sym (map-set_same (map w) bs i b [] same) in
    record {
      all = omega (arith, heads.all, length-set bs i b);
      each =
          λ g d less.
          let own = map-group w bs g ∙ ap (λ ns. joined (group_at ns g)) counts ∙ sym (map-group w (set bs i b) g) in
          IsHead-same w (get_or hs g d) (joined (group_at bs g)) (joined (group_at (set bs i b) g)) own (heads.each g d less);
    }
