-- What a change makes of the items of a list.
use Rattle.std.specs.Prelude.{ℕ, zero, suc, unwrap_or, Option, List, [], ◌∷◌}

-- what a change makes of an item: the item itself where it stays
abbrev pub changed_item : {T : Type 0} → (T → Option T) → T → T
changed_item change x = unwrap_or (change x) x

-- the items with the one at this index changed, if there is one
abbrev pub change_at : {T : Type 0} → (T → Option T) → List T → ℕ → List T
change_at change [] at = []
change_at change (x ∷ xs) zero = changed_item change x ∷ xs
change_at change (x ∷ xs) (suc at) = x ∷ change_at change xs at
