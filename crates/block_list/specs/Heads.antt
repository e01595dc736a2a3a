-- Groups of blocks, and what is kept of each in one place.
use Rattle.std.specs.Prelude.{◌≡◌, ℕ, ◌*◌, ◌^◌, ◌<◌, ◌≤◌, ℤ, ◌≤ℤ◌, ⊤, unsigned_abs, Option, None, Some, List, length, take, drop, slice_set, slice_index_or}
use Rattle.block_list.specs.declared.sums.TheConstants.{GROUP}
use Rattle.block_list.specs.declared.heads.Head.{Head}
use Rattle.block_list.specs.Blocks.{joined}
use Rattle.block_list.specs.Sums.{total}

-- the blocks of this group: none past the last group
abbrev pub group_at : {T : Type 0} → List (List T) → ℕ → List (List T)
group_at blocks group = take GROUP (drop (GROUP * group) blocks)

-- the head tells how many items these are, and their sums, which are not larger than so many items can make them
pub record IsHead {T : Type 0} (weight : T → ℤ) (head : Head) (xs : List T) : Type 0 where
  pub items : head.items ≡ length xs
  pub sum : head.sums.sum ≡ total weight xs
  pub low : (k : ℕ) → head.sums.low ≤ℤ total weight (take k xs)
  pub small_sum : unsigned_abs head.sums.sum ≤ length xs * 2 ^ 40
  pub small_low : unsigned_abs head.sums.low ≤ length xs * 2 ^ 40

-- each group has a head, which tells of its items
pub record AreHeads {T : Type 0} (weight : T → ℤ) (heads : List Head) (blocks : List (List T)) : Type 0 where
  pub all : length blocks ≤ GROUP * length heads
  pub each : (group : ℕ) (head : Head) → group < length heads → IsHead weight (slice_index_or heads group head) (joined (group_at blocks group))

-- another block has come in the place of the one at this index, and nothing else is changed; with no index, anything may be
abbrev pub ChangesOnly : {T : Type 0} → Option ℕ → List (List T) → List (List T) → Type 0
ChangesOnly None old new = ⊤
ChangesOnly {T} (Some index) old new = (index < length old) × ((block : List T) × (new ≡ slice_set old index block))
