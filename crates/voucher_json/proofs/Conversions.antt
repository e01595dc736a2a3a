-- The grammar over tokens, under the conversion to JSON values.
use Rattle.std.proofs.Common.{◌≡◌, ℕ, ◌-◌, ◌<◌, ◌≤◌, List, [], length, Option, Some, None, option_map, option_and_then, refl, ap, ◌∙◌}
use Rattle.json.specs.Json as json
use Rattle.json.specs.Json.{Parse, parse_map, after_end_array, items, if_last}
use Rattle.json.specs.Token.{Token}
use Rattle.json.proofs.Grammar.{items_end, items_more}
use Rattle.serde_json.specs.Data.{Data, no_items, item}
use Rattle.serde_json.specs.Read.{of_json, of_items, converted}

-- what is found, or else something
abbrev pick : {A : Type 0} → A → Option A → A
pick other None = other
pick other (Some a) = a

-- the rest and the value
found : {B : Type 0} (r s : List Token) (x : Option B) (b : B) → option_map {U = B × List Token} (λ y. (y, r)) x ≡ Some (b, s) → (r ≡ s) × (x ≡ Some b)
found r s None b e = absurd (cc)
found r s (Some y) b e = let same = ap (pick (y, r)) e in (ap (λ p. p.1) same, ap (λ p. Some p.0) same)

-- what was converted was read
pub converted_some : {A B : Type 0} (f : A → Option B) (o : Option (A × List Token)) (b : B) (r : List Token) → converted f o ≡ Some (b, r) → (a : A) × (o ≡ Some (a, r)) × (f a ≡ Some b)
converted_some f None b r e = absurd (cc)
converted_some f (Some p) b r e = let both = found p.1 r (f p.0) b e in (p.0, ap (λ s. Some (p.0, s)) both.0, both.1)

-- a conversion under a constructor
twice : {A B : Type 0} (g : A → B) (r : List Token) (x : Option A) → option_map (λ b. (b, r)) (option_map g x) ≡ parse_map g (option_map (λ a. (a, r)) x)
twice g r None = refl
twice g r (Some a) = refl

with_item : (j : json.Json) (d : Data) → of_json j ≡ Some d → (o : Option (json.Items × List Token)) → converted of_items (parse_map (json.item j) o) ≡ parse_map (item d) (converted of_items o)
with_item j d e None = refl
with_item j d e (Some p) = rw e (twice (item d) p.1 (of_items p.0))

module _ (p : Parse json.Json) where
  -- one element, and then the rest of the list
  pub item_read : (turns : ℕ) (ts r : List Token) (d : Data) → 0 < turns → after_end_array ts ≡ None → converted of_json (p ts) ≡ Some (d, r)
      → converted of_items (items p turns ts) ≡ parse_map (item d) (converted of_items (items p (turns - 1) r))
  item_read turns ts r d some going e = let j = converted_some of_json (p ts) d r e in ap (converted of_items) (items_more p turns ts r j.0 some going j.1) ∙ with_item j.0 d j.2 _

  -- the end of the list
  pub items_over : (turns : ℕ) (ts r : List Token) → length ts ≤ turns → after_end_array ts ≡ Some r → converted of_items (items p turns ts) ≡ Some (no_items, r)
  items_over turns ts r enough e = ap (converted of_items) (items_end p turns ts r enough e)

-- a value that is the whole text
pub whole_read : (o : Option (json.Json × List Token)) (d : Data) → converted of_json o ≡ Some (d, []) → option_and_then of_json (option_and_then (λ p. if_last p.0 p.1) o) ≡ Some d
whole_read o d e = let j = converted_some of_json o d [] e in ap (λ r. option_and_then of_json (option_and_then (λ p. if_last p.0 p.1) r)) j.1 ∙ j.2
