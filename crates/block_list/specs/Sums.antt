-- Sums over a list of what each item counts, and where a running sum falls below 0.
use Rattle.std.specs.Prelude.{◌≡◌, ℕ, ◌+◌, ◌^◌, ◌<◌, ◌≤◌, ℤ, pos, ◌+ℤ◌, ◌-ℤ◌, ◌≤ℤ◌, ◌<ℤ◌, unsigned_abs, List, [], ◌∷◌, take}

-- from -2^40 to 2^40
abbrev pub IsSmall : ℤ → Type 0
IsSmall n = unsigned_abs n ≤ 2 ^ 40

-- what all items count together
abbrev pub total : {T : Type 0} → (T → ℤ) → List T → ℤ
total weight [] = pos 0
total weight (x ∷ xs) = weight x +ℤ total weight xs

-- what the items before this index count, from that one on, and a base
abbrev pub running : {T : Type 0} → (T → ℤ) → List T → ℕ → ℤ → ℕ → ℤ
running weight xs from base index = base +ℤ (total weight (take index xs) -ℤ total weight (take from xs))

-- The running sum is not below 0 up to this index, where it is this; with the item there it is, unless the index is the end.
pub record IsFirstBelow {T : Type 0} (weight : T → ℤ) (xs : List T) (from end : ℕ) (base : ℤ) (index : ℕ) (before : ℤ) : Type 0 where
  pub after : from ≤ index
  pub within : index ≤ end
  pub is : before ≡ running weight xs from base index
  pub enough : (k : ℕ) → from < k → k ≤ index → pos 0 ≤ℤ running weight xs from base k
  pub crossed : index < end → running weight xs from base (index + 1) <ℤ pos 0

-- So far the running sum has come to this index without falling below 0.
pub record HasCome {T : Type 0} (weight : T → ℤ) (xs : List T) (from end : ℕ) (base : ℤ) (index : ℕ) (before : ℤ) : Type 0 where
  pub after : from ≤ index
  pub within : index ≤ end
  pub is : before ≡ running weight xs from base index
  pub enough : (k : ℕ) → from < k → k ≤ index → pos 0 ≤ℤ running weight xs from base k
