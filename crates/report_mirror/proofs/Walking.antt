-- Lists that are gone over beside another one: what is left of it where so much was passed.
use Rattle.std.proofs.Common.{◌≡◌, ℕ, ◌+◌, ◌<◌, List, [], ◌++◌, length, get_or, take, drop, sym, ap, ◌∙◌, append_assoc}
use Rattle.std.proofs.lemmas.List.{append-nil, append_cancel_left, drop_more, take-append-drop}
use Rattle.std.proofs.lemmas.List.Concat.{flat_map-append}
use Rattle.std.specs.List.{flat_map}

-- the items of all blocks
abbrev pub joined : {A : Type 0} → List (List A) → List A
joined blocks = flat_map (λ block. block) blocks

module _ {A : Type 0} where
  -- the items from the block at i on
  from_block : (blocks : List (List A)) (i : ℕ) (block : List A) → i < length blocks → block ≡ get_or blocks i block
      → joined blocks ≡ joined (take i blocks) ++ (block ++ joined (drop (i + 1) blocks))
  from_block blocks i block within is =
      ap joined (sym (take-append-drop i blocks))
      ∙ flat_map-append (λ (z : List A). z) (take i blocks) (drop i blocks)
      ∙ ap (λ (z : List (List A)). joined (take i blocks) ++ joined z) (drop_more blocks i block within)
      ∙ ap (λ (z : List A). joined (take i blocks) ++ (z ++ joined (drop (i + 1) blocks))) (sym is)

  -- where the whole begins with all blocks, what is left behind the first i of them begins with the block at i
  pub left_of_blocks : (blocks : List (List A)) (i : ℕ) (block left rest whole : List A) → i < length blocks → block ≡ get_or blocks i block
      → joined (take i blocks) ++ left ≡ whole → whole ≡ joined blocks ++ rest → left ≡ block ++ (joined (drop (i + 1) blocks) ++ rest)
  left_of_blocks blocks i block left rest whole within is passed begins =
      append_cancel_left (joined (take i blocks)) left (block ++ (joined (drop (i + 1) blocks) ++ rest))
      (passed ∙ begins
      ∙ ap (λ (z : List A). z ++ rest) (from_block blocks i block within is)
      ∙ append_assoc (joined (take i blocks)) (block ++ joined (drop (i + 1) blocks)) rest
      ∙ ap (λ (z : List A). joined (take i blocks) ++ z) (append_assoc block (joined (drop (i + 1) blocks)) rest))

  -- a list is the whole that begins with it where nothing is left
  pub whole_from_nothing : (xs left whole : List A) → whole ≡ xs ++ left → left ≡ [] → xs ≡ whole
  whole_from_nothing xs left whole begins none = sym (append-nil xs) ∙ ap (λ (z : List A). xs ++ z) (sym none) ∙ sym begins

  -- and nothing is left where it is the whole
  pub nothing_from_whole : (xs left whole : List A) → whole ≡ xs ++ left → xs ≡ whole → left ≡ []
  nothing_from_whole xs left whole begins same = append_cancel_left xs left [] (sym begins ∙ sym same ∙ sym (append-nil xs))
