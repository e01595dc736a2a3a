-- Two blocks side by side are in the list what both are in one.
use Rattle.std.proofs.Common.{◌≡◌, ℕ, suc, ◌+◌, ◌<◌, ◌≤◌, ◌++◌, List, [], length, set, slice_index_or, ap, ap₂, sym, ◌∙◌, subst, arith, length-append}
use Rattle.std.specs.List.{remove, All}
use Rattle.std.proofs.lemmas.List.{get_or_default}
use Rattle.std.proofs.lemmas.List.Edits.{get_or-remove_below}
use Rattle.block_list.specs.Blocks.{joined, block_at, pressure, IsFilled}
use Rattle.block_list.specs.declared.sums.TheConstants.{HALF}
use Rattle.block_list.proofs.Joined.{joined-both, filled-both}
use Rattle.block_list.proofs.Pressure.{pressure-both}
use Rattle.block_list.proofs.blocks.join_at.Goals as goal

-- the blocks with both in one in the place of the first
are_joined : {T : Type 0} (bs mids : List (List T)) (i : ℕ) (first next both : List T) → i + 1 < length bs → mids ≡ remove bs (i + 1) → first ≡ slice_index_or mids i first
    → next ≡ slice_index_or bs (i + 1) next → both ≡ first ++ next → set mids i both ≡ set (remove bs (i + 1)) i (block_at bs i ++ block_at bs (i + 1))
are_joined bs mids i first next both within rest first_is next_is is =
    let first_at : first ≡ block_at bs i =
    first_is ∙ ap (λ xs. slice_index_or xs i first) rest ∙ get_or-remove_below bs (i + 1) first i (omega arith) within ∙ get_or_default bs i first [] (omega (arith, within)) in
    let next_at : next ≡ block_at bs (i + 1) = next_is ∙ get_or_default bs (i + 1) next [] within in
    ap₂ (λ xs b. set xs i b) rest (is ∙ ap₂ (λ xs ys. xs ++ ys) first_at next_at)

-- both are thin
are_thin : {T : Type 0} (bs : List (List T)) (i : ℕ) (first next : List T) → i + 1 < length bs → first ≡ slice_index_or bs i first → next ≡ slice_index_or bs (i + 1) next
    → length first + length next ≤ HALF → length (block_at bs i) + length (block_at bs (i + 1)) ≤ HALF
are_thin bs i first next within first_is next_is few =
    let first_at : first ≡ block_at bs i = first_is ∙ get_or_default bs i first [] (omega (arith, within)) in
    let next_at : next ≡ block_at bs (i + 1) = next_is ∙ get_or_default bs (i + 1) next [] within in
    omega (arith, few, ap length first_at, ap length next_at)

-- the block of both has an item, and room for one
both-filled : {T : Type 0} (bs : List (List T)) (i : ℕ) → i + 1 < length bs → All IsFilled bs → length (block_at bs i) + length (block_at bs (i + 1)) ≤ HALF
    → IsFilled (block_at bs i ++ block_at bs (i + 1))
both-filled bs i within filled few =
    let size = length-append (block_at bs i) (block_at bs (i + 1)) in
    record { some = omega (arith, size, (filled i [] (omega (arith, within))).some); room = omega (arith, size, few) }

-- which brings half a block at most
both-pressure : {T : Type 0} (bs : List (List T)) (i : ℕ) → i + 1 < length bs → length (block_at bs i) + length (block_at bs (i + 1)) ≤ HALF
    → pressure (set (remove bs (i + 1)) i (block_at bs i ++ block_at bs (i + 1))) ≤ pressure bs + HALF
both-pressure bs i =
    let one : suc i ≡ i + 1 = omega arith in
    subst (λ (k : ℕ). k < length bs → length (block_at bs i) + length (block_at bs k) ≤ HALF → pressure (set (remove bs k) i (block_at bs i ++ block_at bs k)) ≤ pressure bs + HALF)
    one (λ within few. pressure-both bs i within few)

pub returns-clause-items : goal.returns-clause-items
returns-clause-items g c =
    let bs = c.args.blocks.now.items in
    let i = c.args.block in
    let within : i + 1 < length bs = omega (arith, c.if-block-len-2.false, c.len-else-block-len.ensures, c.args.blocks.now.ok) in
    ap joined (are_joined bs c.remove-next.new.self.items i c.index_mut.result.now c.remove-next.result c.append.new.self within
    c.remove-next.ensures.items c.index_mut.ensures.value c.remove-next.ensures.value c.append.ensures.all) ∙ joined-both bs i within

pub returns-clause-filled : goal.returns-clause-filled
returns-clause-filled g c =
    let bs = c.args.blocks.now.items in
    let i = c.args.block in
    let within : i + 1 < length bs = omega (arith, c.if-block-len-2.false, c.len-else-block-len.ensures, c.args.blocks.now.ok) in
    let few = are_thin bs i c.index.result.now c.index-2.result.now within c.index.ensures c.index-2.ensures (omega (arith, c.if-len-gt-HALF.false, c.len-2.ensures.length, c.len-3.ensures.length)) in
    subst (All IsFilled) (sym (are_joined bs c.remove-next.new.self.items i c.index_mut.result.now c.remove-next.result c.append.new.self within
    c.remove-next.ensures.items c.index_mut.ensures.value c.remove-next.ensures.value c.append.ensures.all))
    (filled-both bs i (i + 1) (block_at bs i ++ block_at bs (i + 1)) c.requires.filled (both-filled bs i within c.requires.filled few))

pub returns-clause-pressure : goal.returns-clause-pressure
returns-clause-pressure g c =
    let bs = c.args.blocks.now.items in
    let i = c.args.block in
    let within : i + 1 < length bs = omega (arith, c.if-block-len-2.false, c.len-else-block-len.ensures, c.args.blocks.now.ok) in
    let few = are_thin bs i c.index.result.now c.index-2.result.now within c.index.ensures c.index-2.ensures (omega (arith, c.if-len-gt-HALF.false, c.len-2.ensures.length, c.len-3.ensures.length)) in
    let same = are_joined bs c.remove-next.new.self.items i c.index_mut.result.now c.remove-next.result c.append.new.self within
    c.remove-next.ensures.items c.index_mut.ensures.value c.remove-next.ensures.value c.append.ensures.all in
    omega (arith, both-pressure bs i within few, ap pressure same, c.keep.ensures.pool)
