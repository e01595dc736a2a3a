-- Which elements lists have.
use Rattle.std.proofs.Common.{◌≡◌, Bool, true, false, cond, List, [], ◌∷◌, map, filter, refl, ap, inl, inr}
use Rattle.std.specs.List.{flat_map}
use Rattle.std.specs.List.Sorted.{IsPermutation}
use Rattle.std.proofs.lemmas.List.Sorted.{IsPermutation-sym}
use Rattle.sqlite_trees.proofs.ListLemmas.{all-permutation}
use Rattle.sqlite_rules.specs.Lists.{Has}
use Rattle.sqlite_rules.proofs.ListLemmas.{all_has, all_from}

module _ {X Y : Type 0} (f : X → Y) where
  pub has_map : (xs : List X) (x : X) → Has xs x → Has (map f xs) (f x)
  has_map [] x h = absurd h
  has_map (y ∷ xs) x (inl same) = inl (ap f same)
  has_map (y ∷ xs) x (inr later) = inr (has_map xs x later)

  pub has_mapped : (xs : List X) (y : Y) → Has (map f xs) y → (x : X) × Has xs x × (y ≡ f x)
  has_mapped [] y h = absurd h
  has_mapped (x ∷ xs) y (inl same) = (x, inl refl, same)
  has_mapped (x ∷ xs) y (inr later) = let found = has_mapped xs y later in (found.0, inr found.1, found.2)

  pub flat_map-filter : (p : X → Bool) (xs : List X) → flat_map (λ x. cond (p x) (f x ∷ []) []) xs ≡ map f (filter p xs)
  flat_map-filter p [] = refl
  flat_map-filter p (x ∷ xs) = go (p x) refl (flat_map-filter p xs)
    where
      go : (b : Bool) → p x ≡ b → flat_map (λ x. cond (p x) (f x ∷ []) []) xs ≡ map f (filter p xs) → flat_map (λ x. cond (p x) (f x ∷ []) []) (x ∷ xs) ≡ map f (filter p (x ∷ xs))
      go true is later = rw is (ap (λ l. f x ∷ l) later)
      go false is later = rw is later

pub has_permutation : {X : Type 0} (xs ys : List X) (x : X) → IsPermutation xs ys → Has xs x → Has ys x
has_permutation xs ys x same h =
    all_has (Has ys) xs x (all-permutation (Has ys) ys xs (IsPermutation-sym xs ys same) (all_from (Has ys) ys (λ y there. there))) h
