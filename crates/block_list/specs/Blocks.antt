-- Blocks side by side, as one list.
use Rattle.std.specs.Prelude.{◌≡◌, ℕ, ◌+◌, ◌-◌, ◌*◌, ◌<◌, ◌≤◌, List, [], ◌∷◌, length, take, slice_index_or}
use Rattle.std.specs.List.{flat_map}
use Rattle.block_list.specs.declared.sums.TheConstants.{MOST, HALF, GROUP}

-- the items of all blocks, one block after another
abbrev pub joined : {T : Type 0} → List (List T) → List T
joined blocks = flat_map (λ block. block) blocks

-- the block at this index
abbrev pub block_at : {T : Type 0} → List (List T) → ℕ → List T
block_at blocks i = slice_index_or blocks i []

-- a block in a list has an item, and room for one
pub record IsFilled {T : Type 0} (block : List T) : Type 0 where
  pub some : 0 < length block
  pub room : length block < MOST

-- this item of this block is the one at an index
pub record IsSpot {T : Type 0} (blocks : List (List T)) (at block index : ℕ) : Type 0 where
  pub within : block < length blocks
  pub inside : index < length (block_at blocks block)
  pub is : at ≡ length (joined (take block blocks)) + index

-- what is put in before this item of this block, or at its end, stands at an index
pub record IsGap {T : Type 0} (blocks : List (List T)) (at block index : ℕ) : Type 0 where
  pub within : block < length blocks
  pub inside : index ≤ length (block_at blocks block)
  pub is : at ≡ length (joined (take block blocks)) + index

-- how far this block and those after it are on the way to being parted: by what each has above its half, and the last one by all
-- that it has, since it may be parted at its end
abbrev pub pressed : {T : Type 0} → List T → List (List T) → ℕ
pressed block [] = length block
pressed block (next ∷ blocks) = (length block - HALF) + pressed next blocks

-- how far all blocks are; with none, the first one is wanted at once
abbrev pub pressure : {T : Type 0} → List (List T) → ℕ
pressure [] = HALF
pressure (block ∷ blocks) = pressed block blocks

-- how many items can be put in with so many empty blocks at hand: one for each at least, and half a block for each but for the
-- pressure
abbrev pub room_for : {T : Type 0} → List (List T) → ℕ → ℕ
room_for blocks pool = pool + ((HALF - 1) * pool - pressure blocks)

-- so many blocks have room in the list of those that are filled, and in that of those that are not, and their groups in that of
-- heads
pub record HaveRoom (all first second third : ℕ) : Type 0 where
  pub filled : all ≤ first
  pub empty : all ≤ second
  pub heads : all ≤ GROUP * third
