-- How far blocks are on the way to being parted.
use Rattle.std.proofs.Common.{◌≡◌, ℕ, zero, suc, ◌+◌, ◌*◌, ◌<◌, ◌≤◌, set, List, [], ◌∷◌, ◌++◌, length, arith, length-append}
use Rattle.std.specs.List.{insert, remove, All}
use Rattle.block_list.specs.Blocks.{block_at, pressed, pressure, IsFilled}
use Rattle.block_list.specs.declared.sums.TheConstants.{MOST, HALF}

-- with more or fewer items in a block, before those after it
pressed-first : {T : Type 0} (b b' : List T) (bs : List (List T)) (more fewer : ℕ) → length b' ≤ length b + more → length b ≤ length b' + fewer
    → (pressed b' bs ≤ pressed b bs + more) × (pressed b bs ≤ pressed b' bs + fewer)
pressed-first b b' [] more fewer few many = (few, many)
pressed-first b b' (c ∷ cs) more fewer few many = (omega (arith, few), omega (arith, many))

pressed-set : {T : Type 0} (a : List T) (bs : List (List T)) (i : ℕ) (b : List T) (more fewer : ℕ) → i < length bs
    → length b ≤ length (block_at bs i) + more → length (block_at bs i) ≤ length b + fewer
    → (pressed a (set bs i b) ≤ pressed a bs + more) × (pressed a bs ≤ pressed a (set bs i b) + fewer)
pressed-set a [] i b more fewer within few many = absurd (omega (arith, within))
pressed-set a (c ∷ cs) zero b more fewer within few many =
    let first = pressed-first c b cs more fewer few many in
    (omega (arith, first.0), omega (arith, first.1))
pressed-set a (c ∷ cs) (suc i) b more fewer within few many =
    let later = pressed-set c cs i b more fewer (omega (arith, within)) few many in
    (omega (arith, later.0), omega (arith, later.1))

-- Another block in the place of one brings no more than it has more items.
pub pressure-set : {T : Type 0} (bs : List (List T)) (i : ℕ) (b : List T) (more fewer : ℕ) → i < length bs
    → length b ≤ length (block_at bs i) + more → length (block_at bs i) ≤ length b + fewer
    → (pressure (set bs i b) ≤ pressure bs + more) × (pressure bs ≤ pressure (set bs i b) + fewer)
pressure-set [] i b more fewer within few many = absurd (omega (arith, within))
pressure-set (c ∷ cs) zero b more fewer within few many = pressed-first c b cs more fewer few many
pressure-set (c ∷ cs) (suc i) b more fewer within few many = pressed-set c cs i b more fewer (omega (arith, within)) few many

-- a block of these two parts, before those after it
parted-first : {T : Type 0} (b lower upper : List T) (bs : List (List T)) → length b ≡ MOST → length lower + length upper ≡ MOST
    → HALF ≤ length lower → (0 < length bs → length lower ≡ HALF) → pressed lower (upper ∷ bs) + HALF ≤ pressed b bs
parted-first b lower upper [] full both half middle = omega (arith, full, both, half)
parted-first b lower upper (c ∷ cs) full both half middle =
    let same : length lower ≡ HALF = middle (omega arith) in
    omega (arith, full, both, same)

parted-later : {T : Type 0} (a : List T) (bs : List (List T)) (i : ℕ) (lower upper : List T) → i < length bs → length (block_at bs i) ≡ MOST
    → length lower + length upper ≡ MOST → HALF ≤ length lower → (suc i < length bs → length lower ≡ HALF)
    → pressed a (insert (set bs i lower) (suc i) upper) + HALF ≤ pressed a bs
parted-later a [] i lower upper within full both half middle = absurd (omega (arith, within))
parted-later a (c ∷ cs) zero lower upper within full both half middle =
    let first = parted-first c lower upper cs full both half (λ some. middle (omega (arith, some))) in
    omega (arith, first)
parted-later a (c ∷ cs) (suc i) lower upper within full both half middle =
    let later = parted-later c cs i lower upper (omega (arith, within)) full both half (λ some. middle (omega (arith, some))) in
    omega (arith, later)

-- A full block that is parted in its middle, or the last one after its middle, takes half a block off.
pub pressure-parted : {T : Type 0} (bs : List (List T)) (i : ℕ) (lower upper : List T) → i < length bs → length (block_at bs i) ≡ MOST
    → length lower + length upper ≡ MOST → HALF ≤ length lower → (suc i < length bs → length lower ≡ HALF)
    → pressure (insert (set bs i lower) (suc i) upper) + HALF ≤ pressure bs
pressure-parted [] i lower upper within full both half middle = absurd (omega (arith, within))
pressure-parted (c ∷ cs) zero lower upper within full both half middle =
    parted-first c lower upper cs full both half (λ some. middle (omega (arith, some)))
pressure-parted (c ∷ cs) (suc i) lower upper within full both half middle =
    parted-later c cs i lower upper (omega (arith, within)) full both half (λ some. middle (omega (arith, some)))

removed-later : {T : Type 0} (a : List T) (bs : List (List T)) (i : ℕ) → i < length bs → pressed a (remove bs i) ≤ pressed a bs + HALF
removed-later a [] i within = absurd (omega (arith, within))
removed-later a (c ∷ []) zero within = omega arith
removed-later a (c ∷ d ∷ ds) zero within = omega arith
removed-later a (c ∷ cs) (suc i) within = let later = removed-later c cs i (omega (arith, within)) in omega (arith, later)

-- A block that goes brings half a block at most.
pub pressure-removed : {T : Type 0} (bs : List (List T)) (i : ℕ) → i < length bs → pressure (remove bs i) ≤ pressure bs + HALF
pressure-removed [] i within = absurd (omega (arith, within))
pressure-removed (c ∷ []) zero within = omega arith
pressure-removed (c ∷ d ∷ ds) zero within = omega arith
pressure-removed (c ∷ cs) (suc i) within = removed-later c cs i (omega (arith, within))

both-first : {T : Type 0} (b c : List T) (bs : List (List T)) → length b + length c ≤ HALF → pressed (b ++ c) bs ≤ pressed b (c ∷ bs) + HALF
both-first b c [] few = let all = length-append b c in omega (arith, all, few)
both-first b c (d ∷ ds) few = let all = length-append b c in omega (arith, all, few)

both-later : {T : Type 0} (a : List T) (bs : List (List T)) (i : ℕ) → suc i < length bs → length (block_at bs i) + length (block_at bs (suc i)) ≤ HALF
    → pressed a (set (remove bs (suc i)) i (block_at bs i ++ block_at bs (suc i))) ≤ pressed a bs + HALF
both-later a [] i within few = absurd (omega (arith, within))
both-later a (c ∷ []) i within few = absurd (omega (arith, within))
both-later a (c ∷ d ∷ ds) zero within few = let first = both-first c d ds few in omega (arith, first)
both-later a (c ∷ d ∷ ds) (suc i) within few = let later = both-later c (d ∷ ds) i (omega (arith, within)) few in omega (arith, later)

-- Two that are in one bring half a block at most.
pub pressure-both : {T : Type 0} (bs : List (List T)) (i : ℕ) → suc i < length bs → length (block_at bs i) + length (block_at bs (suc i)) ≤ HALF
    → pressure (set (remove bs (suc i)) i (block_at bs i ++ block_at bs (suc i))) ≤ pressure bs + HALF
pressure-both [] i within few = absurd (omega (arith, within))
pressure-both (c ∷ []) i within few = absurd (omega (arith, within))
pressure-both (c ∷ d ∷ ds) zero within few = both-first c d ds few
pressure-both (c ∷ d ∷ ds) (suc i) within few = both-later c (d ∷ ds) i (omega (arith, within)) few

pressed-most : {T : Type 0} (b : List T) (bs : List (List T)) → IsFilled b → All IsFilled bs → pressed b bs ≤ HALF * (length bs + 2)
pressed-most b [] own filled = omega (arith, own.room)
pressed-most b (c ∷ cs) own filled =
    let later = pressed-most c cs (filled zero c (omega arith)) (λ i d within. filled (suc i) d (omega (arith, within))) in
    omega (arith, own.room, later)

-- Each block is pressed by half a block at most, and the last one by a whole one.
pub pressure-most : {T : Type 0} (bs : List (List T)) → All IsFilled bs → pressure bs ≤ HALF * (length bs + 1)
pressure-most [] filled = omega arith
pressure-most (b ∷ bs) filled =
    let most = pressed-most b bs (filled zero b (omega arith)) (λ i d within. filled (suc i) d (omega (arith, within))) in
    omega (arith, most)
