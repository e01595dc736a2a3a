-- One more line of a count.
use Rattle.std.proofs.Common.{◌≡◌, ℕ, ℤ, ◌+◌, ◌<◌, Bool, true, false, List, [], ◌∷◌, ◌++◌, length, take, drop, map, get_or, Option, Some, None, refl, sym, ap, ◌∙◌, ◌≤◌, unsigned_abs, to_z, of_z, arith}
use Rattle.std.specs.Prelude.{slice_get}
use Rattle.std.specs.List.{filter_map, cons_option}
use Rattle.std.specs.Option.{option_map_or, option_to_list}
use Rattle.std.proofs.lemmas.Bool.Decides.{nat_tests}
use Rattle.std.proofs.lemmas.Int.{to_z-of_z, fits_signed_from_abs}
use Rattle.std.proofs.lemmas.List.{map-append, take_more, length-map}
use Rattle.std.proofs.lemmas.List.Elements.{filter_map-append}
use Rattle.std.proofs.lemmas.Option.{slice_get_read}
use Rattle.stock_model.specs.Faults.{first_line}
use Rattle.stock_model.proofs.Numbered.{first_line-here, first_line-drop}
use Rattle.stock_laws.proofs.RecordsAt.{slice_get-mapped}
use Rattle.stock_count.specs.Differences.{is_wide}
use mir.Syntax.{w64}

made-once : {X Y : Type 0} (f : X → Option Y) (x : X) → filter_map f (x ∷ []) ≡ option_to_list (f x)
made-once f x = elim (f x) as (λ o. cons_option o [] ≡ option_to_list o) [ None ↦ refl | Some y ↦ refl ]

-- the first elements with the one after them, which is read at its index
module _ {X : Type 0} (xs : List X) (i : ℕ) (x : X) (within : i < length xs) (read : x ≡ get_or xs i x) where
  front : take (i + 1) xs ≡ take i xs ++ x ∷ []
  front = take_more xs i x within ∙ ap (λ y. take i xs ++ y ∷ []) (sym read)

  pub map-next : {Y : Type 0} (f : X → Y) → map f (take i xs) ++ f x ∷ [] ≡ map f (take (i + 1) xs)
  map-next f = sym (ap (map f) front ∙ map-append f (take i xs) (x ∷ []))

  pub filter_map-next : {Y : Type 0} (f : X → Option Y) → filter_map f (take i xs) ++ option_to_list (f x) ≡ filter_map f (take (i + 1) xs)
  filter_map-next f =
      sym (ap (filter_map f) front ∙ filter_map-append f (take i xs) (x ∷ []) ∙ ap (λ ys. filter_map f (take i xs) ++ ys) (made-once f x))

  told : {Y : Type 0} (f : X → Y) (test : Y → Bool) (b : Bool) → test (f x) ≡ b → option_map_or test (slice_get (map f xs) i) false ≡ b
  told f test b is = ap (λ o. option_map_or test o false) (slice_get-mapped f xs i x (slice_get_read xs (length xs) i x refl within read)) ∙ is

  -- what is made of it is the first that passes a test
  pub first-here : {Y : Type 0} (f : X → Y) (test : Y → Bool) → test (f x) ≡ true → first_line test (i + 1) (drop i (map f xs)) ≡ Some (i + 1)
  first-here f test passes = first_line-here test (i + 1) i (map f xs) (told f test true passes)

  -- or it does not pass
  pub first-later : {Y : Type 0} (f : X → Y) (test : Y → Bool) → test (f x) ≡ false
      → first_line test (i + 1) (drop i (map f xs)) ≡ first_line test (i + 1 + 1) (drop (i + 1) (map f xs))
  first-later f test fails = first_line-drop test (i + 1) i (map f xs) (omega (arith, length-map xs f, within)) (told f test false fails)

-- a difference that is not wide is a number of 64 bits
pub narrow-kept : (z : ℤ) → is_wide z ≡ false → to_z w64 (of_z w64 z) ≡ z
narrow-kept z narrow =
    let small : unsigned_abs z ≤ 1_000_000_000 = grind (arith, nat_tests) in
    to_z-of_z w64 z (fits_signed_from_abs w64 z (omega (arith, small)))
