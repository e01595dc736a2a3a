-- Blocks side by side: what is before a block, in it, and after it.
use Rattle.std.proofs.Common.{◌≡◌, ℕ, suc, ◌+◌, ◌-◌, ◌<◌, ◌≤◌, get_or, set, slice_get, Some, zero, List, [], ◌∷◌, ◌++◌, length, take, drop, refl, sym, ap, ap₂, ◌∙◌, subst, arith, length-append, append_assoc}
use Rattle.std.specs.List.{insert, remove, All}
use Rattle.std.proofs.Math.Seq.{take-append-add, take-append_seam, drop-append-add, drop-append_seam}
use Rattle.std.proofs.lemmas.List.Elements.{All-set, All-append, All-take, All-cons, All-drop}
use Rattle.std.proofs.lemmas.Grind.{flat_map-append, take_at_read}
use Rattle.std.proofs.lemmas.List.{set-append_left, set-append_right, set_split, set-get_or, set-set, take-take, drop_more, length-take-le, append-nil, take-append-le, drop-append-le, take-append-drop, take-set, drop-set-lt, get_or-set_same, length-set, length-take, length-drop, get_or-append-add, get_or_append_left}
use Rattle.std.proofs.lemmas.Option.{slice_get-get_or, slice_get_read, get_or_from_slice_get}
use Rattle.block_list.specs.Blocks.{joined, block_at, IsFilled, IsSpot, IsGap}
use Rattle.block_list.specs.declared.sums.TheConstants.{MOST}

pub joined-append : {T : Type 0} (bs cs : List (List T)) → joined (bs ++ cs) ≡ joined bs ++ joined cs
joined-append bs cs = flat_map-append (λ b. b) bs cs

-- with another block in place of one
pub joined-set : {T : Type 0} (bs : List (List T)) (i : ℕ) (b : List T) → i < length bs → joined (set bs i b) ≡ joined (take i bs) ++ (b ++ joined (drop (suc i) bs))
joined-set bs i b within = ap joined (set_split bs i b within) ∙ joined-append (take i bs) (b ∷ drop (suc i) bs)

-- around a block
pub joined-around : {T : Type 0} (bs : List (List T)) (i : ℕ) → i < length bs → joined bs ≡ joined (take i bs) ++ (block_at bs i ++ joined (drop (suc i) bs))
joined-around bs i within = ap joined (sym (set-get_or bs i [])) ∙ joined-set bs i (block_at bs i) within

-- what is put into a block is put into the list
pub joined-put : {T : Type 0} (bs : List (List T)) (at i o : ℕ) (x : T) → IsGap bs at i o → joined (set bs i (insert (block_at bs i) o x)) ≡ insert (joined bs) at x
joined-put bs at i o x gap =
    let front = joined (take i bs) in
    let b = block_at bs i in
    let rest = joined (drop (suc i) bs) in
    let before : take at (joined bs) ≡ front ++ take o b =
    ap₂ take gap.is (joined-around bs i gap.within) ∙ take-append-add front (b ++ rest) o ∙ ap (λ xs. front ++ xs) (take-append-le o b rest gap.inside) in
    let after : drop at (joined bs) ≡ drop o b ++ rest =
    ap₂ drop gap.is (joined-around bs i gap.within) ∙ drop-append-add front (b ++ rest) o ∙ drop-append-le o b rest gap.inside in
    joined-set bs i (insert b o x) gap.within ∙ ap (λ xs. front ++ xs) (append_assoc (take o b) (x ∷ drop o b) rest)
    ∙ sym (append_assoc front (take o b) (x ∷ (drop o b ++ rest))) ∙ sym (ap₂ (λ xs ys. xs ++ x ∷ ys) before after)

-- a block that is parted stays the same in the list
pub joined-parted : {T : Type 0} (bs : List (List T)) (i cut : ℕ) → i < length bs
    → joined (insert (set bs i (take cut (block_at bs i))) (i + 1) (drop cut (block_at bs i))) ≡ joined bs
joined-parted bs i cut within =
    let b = block_at bs i in
    let lower = take cut b in
    let upper = drop cut b in
    let ys = set bs i lower in
    let before = joined (take i bs) in
    let rest = joined (drop (i + 1) bs) in
    let one : suc i ≡ i + 1 = omega arith in
    let around : joined bs ≡ before ++ (b ++ rest) = subst (λ (n : ℕ). joined bs ≡ before ++ (b ++ joined (drop n bs))) one (joined-around bs i within) in
    let front : take (i + 1) ys ≡ take i bs ++ lower ∷ [] =
    (take_at_read ys i [] (omega (arith, within, length-set bs i lower))).1 ∙ ap₂ (λ xs c. xs ++ c ∷ []) (take-set bs i lower) (get_or-set_same bs i lower [] within) in
    let back : drop (i + 1) ys ≡ drop (i + 1) bs = drop-set-lt (i + 1) bs i lower (omega arith) in
    joined-append (take (i + 1) ys) (upper ∷ drop (i + 1) ys)
    ∙ ap₂ (λ xs zs. joined xs ++ (upper ++ joined zs)) front back
    ∙ ap (λ xs. xs ++ (upper ++ rest)) (joined-append (take i bs) (lower ∷ []) ∙ ap (λ xs. before ++ xs) (append-nil lower))
    ∙ append_assoc before lower (upper ++ rest)
    ∙ ap (λ xs. before ++ xs) (sym (append_assoc lower upper rest) ∙ ap (λ xs. xs ++ rest) (take-append-drop cut b))
    ∙ sym around

-- and in the list are blocks of the same kind
pub All-parted : {X : Type 0} (P : X → Type 0) (xs : List X) (i : ℕ) (a b : X) → All P xs → P a → P b → All P (insert (set xs i a) (i + 1) b)
All-parted P xs i a b all first second =
    let ys = set xs i a in
    let kept = All-set P xs i a first all in
    All-append P (take (i + 1) ys) (b ∷ drop (i + 1) ys) (All-take P (i + 1) ys kept) (All-cons P b (drop (i + 1) ys) second (All-drop P (i + 1) ys kept))

-- both parts of a full block have an item, and room for one
pub filled-parted : {T : Type 0} (bs mids : List (List T)) (i cut : ℕ) (b : List T) → All IsFilled bs → mids ≡ set bs i b → length (block_at mids i) ≡ MOST → 0 < cut → cut < MOST
    → All IsFilled (insert (set mids i (take cut (block_at mids i))) (i + 1) (drop cut (block_at mids i)))
filled-parted bs mids i cut b filled is size some less =
    let lower = take cut (block_at mids i) in
    let upper = drop cut (block_at mids i) in
    let same : set mids i lower ≡ set bs i lower = ap (λ xs. set xs i lower) is ∙ set-set bs i b lower in
    let few : IsFilled lower = record { some = omega (arith, length-take cut (block_at mids i), size, some); room = omega (arith, length-take cut (block_at mids i), size, less) } in
    let more : IsFilled upper = record { some = omega (arith, length-drop cut (block_at mids i), size, less); room = omega (arith, length-drop cut (block_at mids i), size, some) } in
    subst (λ xs. All IsFilled (insert xs (i + 1) upper)) (sym same) (All-parted IsFilled bs i lower upper filled few more)

-- from an item on
pub joined-drop : {T : Type 0} (bs : List (List T)) (at i o : ℕ) → IsSpot bs at i o → drop at (joined bs) ≡ drop o (block_at bs i) ++ joined (drop (suc i) bs)
joined-drop bs at i o spot =
    let b = block_at bs i in
    let rest = joined (drop (suc i) bs) in
    ap₂ drop spot.is (joined-around bs i spot.within) ∙ drop-append-add (joined (take i bs)) (b ++ rest) o ∙ drop-append-le o b rest (omega (arith, spot.inside))

-- the items of the block from there on are the next ones
pub joined-run : {T : Type 0} (bs : List (List T)) (at i o : ℕ) → IsSpot bs at i o → drop o (block_at bs i) ≡ take (length (drop o (block_at bs i))) (drop at (joined bs))
joined-run bs at i o spot =
    let run = drop o (block_at bs i) in
    sym (ap (take (length run)) (joined-drop bs at i o spot) ∙ take-append_seam run (joined (drop (suc i) bs)))

-- an item within the length is there
found : {T : Type 0} (b : List T) (o : ℕ) → o < length b → (x : T) × (slice_get b o ≡ Some x)
found [] o within = absurd (omega (arith, within))
found (x ∷ b) zero within = (x, refl)
found (x ∷ b) (suc o) within = found b o (omega (arith, within))

-- the item itself
pub joined-get : {T : Type 0} (bs : List (List T)) (at i o : ℕ) → IsSpot bs at i o → slice_get (block_at bs i) o ≡ slice_get (joined bs) at
joined-get bs at i o spot =
    let front = joined (take i bs) in
    let b = block_at bs i in
    let rest = joined (drop (suc i) bs) in
    let there = found b o spot.inside in
    let x = there.0 in
    let around = joined-around bs i spot.within in
    let here : get_or (joined bs) at x ≡ x =
    ap₂ (λ n xs. get_or xs n x) spot.is around ∙ get_or-append-add front (b ++ rest) o x ∙ get_or_append_left b rest x o spot.inside ∙ get_or_from_slice_get b o x x there.1 in
    let within : at < length (joined bs) = omega (arith, spot.is, spot.inside, ap length around, length-append front (b ++ rest), length-append b rest) in
    there.1 ∙ sym (slice_get-get_or (joined bs) at x within ∙ ap Some here)

-- and as it was read there
pub joined-read : {T : Type 0} (bs : List (List T)) (at i o : ℕ) (b : List T) (x : T) → IsSpot bs at i o → b ≡ block_at bs i → x ≡ get_or b o x
    → slice_get (joined bs) at ≡ Some x
joined-read bs at i o b x spot block read =
    sym (joined-get bs at i o spot)
    ∙ slice_get_read (block_at bs i) (length (block_at bs i)) o x refl spot.inside (read ∙ ap (λ c. get_or c o x) block)

-- what is taken out of a block is taken out of the list
pub joined-take : {T : Type 0} (bs : List (List T)) (at i o : ℕ) → IsSpot bs at i o → joined (set bs i (remove (block_at bs i) o)) ≡ remove (joined bs) at
joined-take bs at i o spot =
    let front = joined (take i bs) in
    let b = block_at bs i in
    let rest = joined (drop (suc i) bs) in
    let around = joined-around bs i spot.within in
    let next : suc at ≡ length front + suc o = omega (arith, spot.is) in
    let before : take at (joined bs) ≡ front ++ take o b =
    ap₂ take spot.is around ∙ take-append-add front (b ++ rest) o ∙ ap (λ xs. front ++ xs) (take-append-le o b rest (omega (arith, spot.inside))) in
    let after : drop (suc at) (joined bs) ≡ drop (suc o) b ++ rest =
    ap₂ drop next around ∙ drop-append-add front (b ++ rest) (suc o) ∙ drop-append-le (suc o) b rest (omega (arith, spot.inside)) in
    joined-set bs i (remove b o) spot.within ∙ ap (λ xs. front ++ xs) (append_assoc (take o b) (drop (suc o) b) rest)
    ∙ sym (append_assoc front (take o b) (drop (suc o) b ++ rest)) ∙ sym (ap₂ (λ xs ys. xs ++ ys) before after)

nothing : {X : Type 0} (xs : List X) → length xs ≤ 0 → xs ≡ []
nothing [] none = refl
nothing (x ∷ xs) none = absurd (omega (arith, none))

-- a block without items can go
pub joined-without : {T : Type 0} (bs : List (List T)) (i : ℕ) → i < length bs → length (block_at bs i) ≤ 0 → joined (remove bs i) ≡ joined bs
joined-without bs i within none =
    let rest = joined (drop (suc i) bs) in
    joined-append (take i bs) (drop (suc i) bs) ∙ ap (λ b. joined (take i bs) ++ (b ++ rest)) (sym (nothing (block_at bs i) none)) ∙ sym (joined-around bs i within)

pub filled-without : {X : Type 0} (P : X → Type 0) (xs ys : List X) (i : ℕ) (y : X) → All P xs → ys ≡ set xs i y → All P (remove ys i)
filled-without P xs ys i y all is =
    let before : take i ys ≡ take i xs = ap (take i) is ∙ take-set xs i y in
    let after : drop (suc i) ys ≡ drop (suc i) xs = ap (drop (suc i)) is ∙ drop-set-lt (suc i) xs i y (omega arith) in
    subst (All P) (sym (ap₂ (λ front rest. front ++ rest) before after)) (All-append P (take i xs) (drop (suc i) xs) (All-take P i xs all) (All-drop P (suc i) xs all))

-- with the next block in one with it
pub joined-both : {T : Type 0} (bs : List (List T)) (i : ℕ) → i + 1 < length bs → joined (set (remove bs (i + 1)) i (block_at bs i ++ block_at bs (i + 1))) ≡ joined bs
joined-both bs i within =
    let b = block_at bs i in
    let n = block_at bs (i + 1) in
    let front = take (i + 1) bs in
    let back = drop (suc (i + 1)) bs in
    let rs = front ++ back in
    let size : length front ≡ i + 1 = length-take-le (i + 1) bs (omega (arith, within)) in
    let before : take i rs ≡ take i bs = take-append-le i front back (omega (arith, size)) ∙ take-take i (i + 1) bs (omega arith) in
    let after : drop (suc i) rs ≡ back = ap (λ k. drop k rs) (let one : suc i ≡ length front = omega (arith, size) in one) ∙ drop-append_seam front back in
    let one : suc i ≡ i + 1 = omega arith in
    let two : i + 1 + 1 ≡ suc (i + 1) = omega arith in
    let rest : joined (drop (suc i) bs) ≡ n ++ joined back = ap (λ k. joined (drop k bs)) one ∙ ap joined (drop_more bs (i + 1) [] within) ∙ ap (λ k. n ++ joined (drop k bs)) two in
    joined-set rs i (b ++ n) (omega (arith, size, length-append front back))
    ∙ ap₂ (λ xs ys. joined xs ++ ((b ++ n) ++ joined ys)) before after
    ∙ ap (λ xs. joined (take i bs) ++ xs) (append_assoc b n (joined back) ∙ ap (λ xs. b ++ xs) (sym rest))
    ∙ sym (joined-around bs i (omega (arith, within)))

pub filled-both : {T : Type 0} (bs : List (List T)) (i j : ℕ) (b : List T) → All IsFilled bs → IsFilled b → All IsFilled (set (remove bs j) i b)
filled-both bs i j b filled own =
    All-set IsFilled (remove bs j) i b own (All-append IsFilled (take j bs) (drop (suc j) bs) (All-take IsFilled j bs filled) (All-drop IsFilled (suc j) bs filled))

-- of the first blocks, with one more
pub joined_more : {T : Type 0} (bs : List (List T)) (i : ℕ) → i < length bs → joined (take (i + 1) bs) ≡ joined (take i bs) ++ block_at bs i
joined_more bs i within = ap joined (take_at_read bs i [] within).1 ∙ joined-append (take i bs) (block_at bs i ∷ []) ∙ ap (λ xs. joined (take i bs) ++ xs) (append-nil (block_at bs i))

-- up to an item
pub joined-front : {T : Type 0} (bs : List (List T)) (at i o : ℕ) → i < length bs → o ≤ length (block_at bs i) → at ≡ length (joined (take i bs)) + o
    → take at (joined bs) ≡ joined (take i bs) ++ take o (block_at bs i)
joined-front bs at i o within inside is =
    let front = joined (take i bs) in
    let b = block_at bs i in
    let rest = joined (drop (suc i) bs) in
    ap₂ take is (joined-around bs i within) ∙ take-append-add front (b ++ rest) o ∙ ap (λ xs. front ++ xs) (take-append-le o b rest inside)

-- another item in the place of one of a block is in its place in the list
pub joined-replaced : {T : Type 0} (bs : List (List T)) (at i o : ℕ) (x : T) → IsSpot bs at i o → joined (set bs i (set (block_at bs i) o x)) ≡ set (joined bs) at x
joined-replaced bs at i o x spot =
    let front = joined (take i bs) in
    let b = block_at bs i in
    let rest = joined (drop (suc i) bs) in
    let same : at - length front ≡ o = omega (arith, spot.is) in
    joined-set bs i (set b o x) spot.within
    ∙ sym (ap (λ xs. set xs at x) (joined-around bs i spot.within)
    ∙ set-append_right front (b ++ rest) (length front) at x refl (omega (arith, spot.is))
    ∙ ap (λ n. front ++ set (b ++ rest) n x) same
    ∙ ap (λ xs. front ++ xs) (set-append_left b rest o x spot.inside))

-- and the block has as many items as before
pub filled-replaced : {T : Type 0} (bs : List (List T)) (i o : ℕ) (x : T) → i < length bs → All IsFilled bs → All IsFilled (set bs i (set (block_at bs i) o x))
filled-replaced bs i o x within filled =
    let b = block_at bs i in
    let own : IsFilled b = filled i [] within in
    let same : length (set b o x) ≡ length b = length-set b o x in
    All-set IsFilled bs i (set b o x) (record { some = omega (arith, same, own.some); room = omega (arith, same, own.room) }) filled

-- There are no more blocks than items.
pub few_blocks : {T : Type 0} (bs : List (List T)) → All IsFilled bs → length bs ≤ length (joined bs)
few_blocks [] filled = omega arith
few_blocks (b ∷ bs) filled =
    let own = filled zero b (omega arith) in
    let later = few_blocks bs (λ i d within. filled (suc i) d (omega (arith, within))) in
    omega (arith, own.some, later, length-append b (joined bs))
