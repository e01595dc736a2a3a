-- The compact text of a value that may be stored: it is UTF-8, and reads as the value.
use Rattle.std.proofs.Common.{◌≡◌, ℕ, suc, max, ◌≤◌, ◌^◌, ◌<◌, List, [], ◌∷◌, ◌++◌, Bool, true, false, Some, option_map, option_and_then, decimal, IsUtf8, refl, sym, ap, ap₂, ◌∙◌, append-nil, arith}
use Rattle.std.specs.Prelude.{⊤}
use Rattle.std.proofs.lemmas.Fmt.{IsAscii-decimal}
use Rattle.std.proofs.lemmas.Str.{IsUtf8-append, IsUtf8-nil, IsUtf8-from_ascii}
use Rattle.json.specs.Json as json
use Rattle.json.specs.Lex.{tokens}
use Rattle.json.specs.Print.{quoted, IsNumber}
use Rattle.json.specs.Tree as tree
use Rattle.json.proofs.Printed.Tokens.{tokens-print}
use Rattle.json.proofs.Printed.Trees.{value-json_tokens, ArePrintable-json_tokens}
use Rattle.json.proofs.Printed.Decimals.{IsNumber-decimal}
use Rattle.json.proofs.Printed.Utf8.{are_ascii, IsUtf8-are_ascii, IsUtf8-quoted, IsUtf8-boolean}
use Rattle.serde_json.specs.Data.{Num, unsigned, negative, float, Data, null, boolean, number, string, array, object, Items, no_items, item, Members, no_members, member, put, depth, items_depth, members_depth}
use Rattle.serde_json.specs.Find.{is_float}
use Rattle.serde_json.specs.Read.{number_of, of_json, of_items, of_members, max_depth, read}
use Rattle.serde_json.specs.Written.{number_text, outline, items_outline, members_outline, has_float, items_have_float, members_have_float, comma_if, compact_text, items_text, members_text}
use Rattle.serde_json.proofs.Numbers.{number_of-decimal}
use Rattle.serde_json.proofs.Texts.{print-outline}

-- a whole number below 2^64 that is not negative
abbrev pub IsWhole : Num → Type 0
IsWhole (unsigned n) = n < 2 ^ 64
IsWhole (negative z) = ⊥
IsWhole (float x) = ⊥

-- the members, each put where its key belongs
abbrev pub put_all : Members → Members → Members
put_all no_members found = found
put_all (member key value members) found = put_all members (put key value found)

-- What may be stored: whole numbers, texts of which this holds, and objects whose keys are ASCII and in order.
abbrev mutual
  pub IsStorable : (List ℕ → Type 0) → Data → Type 0
  IsStorable P null = ⊤
  IsStorable P (boolean b) = ⊤
  IsStorable P (number n) = IsWhole n
  IsStorable P (string s) = P s
  IsStorable P (array items) = AreStorable P items
  IsStorable P (object members) = (put_all members no_members ≡ members) × MembersAreStorable P members

  pub AreStorable : (List ℕ → Type 0) → Items → Type 0
  AreStorable P no_items = ⊤
  AreStorable P (item value values) = IsStorable P value × AreStorable P values

  pub MembersAreStorable : (List ℕ → Type 0) → Members → Type 0
  MembersAreStorable P no_members = ⊤
  MembersAreStorable P (member key value members) = (are_ascii key ≡ true) × IsStorable P value × MembersAreStorable P members

-- a whole number's text
decimal-utf8 : (n : ℕ) → n < 2 ^ 64 → IsUtf8 (decimal n)
decimal-utf8 n small = IsUtf8-from_ascii (decimal n) (IsAscii-decimal n small)

whole-utf8 : (n : Num) → IsWhole n → IsUtf8 (number_text n)
whole-utf8 (unsigned n) small = decimal-utf8 n small
whole-utf8 (negative z) none = absurd none
whole-utf8 (float x) none = absurd none

-- it reads back, and is a number of JSON
whole-reads : (n : Num) → IsWhole n → number_of (number_text n) ≡ Some n
whole-reads (unsigned n) small = number_of-decimal n small
whole-reads (negative z) none = absurd none
whole-reads (float x) none = absurd none

whole-number : (n : Num) → IsWhole n → IsNumber (number_text n)
whole-number (unsigned n) small = IsNumber-decimal n small
whole-number (negative z) none = absurd none
whole-number (float x) none = absurd none

whole-float : (n : Num) → IsWhole n → is_float n ≡ false
whole-float (unsigned n) small = refl
whole-float (negative z) none = absurd none
whole-float (float x) none = absurd none

comma-utf8 : (later : Bool) → IsUtf8 (comma_if later)
comma-utf8 true = IsUtf8-are_ascii (44 ∷ []) refl
comma-utf8 false = IsUtf8-nil

mutual
  -- where the texts are UTF-8, so is the whole text
  pub compact_text-utf8 : (value : Data) → IsStorable IsUtf8 value → IsUtf8 (compact_text value)
  compact_text-utf8 null h = IsUtf8-are_ascii _ refl
  compact_text-utf8 (boolean b) h = IsUtf8-boolean b
  compact_text-utf8 (number n) h = whole-utf8 n h
  compact_text-utf8 (string s) h = IsUtf8-quoted s h
  compact_text-utf8 (array items) h = IsUtf8-append (91 ∷ []) (items_text false items) (IsUtf8-are_ascii _ refl) (items_text-utf8 false items h)
  compact_text-utf8 (object members) h = IsUtf8-append (123 ∷ []) (members_text false members) (IsUtf8-are_ascii _ refl) (members_text-utf8 false members h.1)

  items_text-utf8 : (later : Bool) (items : Items) → AreStorable IsUtf8 items → IsUtf8 (items_text later items)
  items_text-utf8 later no_items h = IsUtf8-are_ascii _ refl
  items_text-utf8 later (item value values) h =
      IsUtf8-append (comma_if later) (compact_text value ++ items_text true values) (comma-utf8 later)
      (IsUtf8-append (compact_text value) (items_text true values) (compact_text-utf8 value h.0) (items_text-utf8 true values h.1))

  members_text-utf8 : (later : Bool) (members : Members) → MembersAreStorable IsUtf8 members → IsUtf8 (members_text later members)
  members_text-utf8 later no_members h = IsUtf8-are_ascii _ refl
  members_text-utf8 later (member key value members) h =
      let rest = compact_text value ++ members_text true members in
      IsUtf8-append (comma_if later) (quoted key ++ 58 ∷ rest) (comma-utf8 later)
      (IsUtf8-append (quoted key) (58 ∷ rest) (IsUtf8-quoted key (IsUtf8-are_ascii key h.0))
      (IsUtf8-append (58 ∷ []) rest (IsUtf8-are_ascii _ refl)
      (IsUtf8-append (compact_text value) (members_text true members) (compact_text-utf8 value h.1) (members_text-utf8 true members h.2))))

-- there is no float in it
module _ (P : List ℕ → Type 0) where
  mutual
    pub no_float : (value : Data) → IsStorable P value → has_float value ≡ false
    no_float null h = refl
    no_float (boolean b) h = refl
    no_float (number n) h = whole-float n h
    no_float (string s) h = refl
    no_float (array items) h = no_float_in_items items h
    no_float (object members) h = no_float_in_members members h.1

    no_float_in_items : (items : Items) → AreStorable P items → items_have_float items ≡ false
    no_float_in_items no_items h = refl
    no_float_in_items (item value values) h = rw (no_float value h.0) (no_float_in_items values h.1)

    no_float_in_members : (members : Members) → MembersAreStorable P members → members_have_float members ≡ false
    no_float_in_members no_members h = refl
    no_float_in_members (member key value members) h = rw (no_float value h.1) (no_float_in_members members h.2)

-- an outline nests as deep as its value
mutual
  depth_of_outline : (value : Data) → tree.depth (outline value) ≡ depth value
  depth_of_outline null = refl
  depth_of_outline (boolean b) = refl
  depth_of_outline (number n) = refl
  depth_of_outline (string s) = refl
  depth_of_outline (array items) = ap suc (depth_of_items items)
  depth_of_outline (object members) = ap suc (depth_of_members members)

  depth_of_items : (items : Items) → tree.items_depth (items_outline items) ≡ items_depth items
  depth_of_items no_items = refl
  depth_of_items (item value values) = ap₂ max (depth_of_outline value) (depth_of_items values)

  depth_of_members : (members : Members) → tree.members_depth (members_outline members) ≡ members_depth members
  depth_of_members no_members = refl
  depth_of_members (member key value members) = ap₂ max (depth_of_outline value) (depth_of_members members)

module _ (P : List ℕ → Type 0) where
  -- such a value is what its outline stands for
  mutual
    of_outline : (value : Data) → IsStorable P value → of_json (outline value) ≡ Some value
    of_outline null h = refl
    of_outline (boolean b) h = refl
    of_outline (number n) h = ap (option_map number) (whole-reads n h)
    of_outline (string s) h = refl
    of_outline (array items) h = ap (option_map array) (of_items_outline items h)
    of_outline (object members) h = ap (option_map object) (of_members_outline members no_members h.1 ∙ ap Some h.0)

    of_items_outline : (items : Items) → AreStorable P items → of_items (items_outline items) ≡ Some items
    of_items_outline no_items h = refl
    of_items_outline (item value values) h = rw (of_outline value h.0, of_items_outline values h.1) refl

    of_members_outline : (members found : Members) → MembersAreStorable P members → of_members (members_outline members) found ≡ Some (put_all members found)
    of_members_outline no_members found h = refl
    of_members_outline (member key value members) found h = rw (of_outline value h.1) (of_members_outline members (put key value found) h.2)

  -- its outline's numbers are numbers of JSON
  mutual
    numbers_of_outline : (value : Data) → IsStorable P value → tree.HasNumbers (outline value)
    numbers_of_outline null h = tt
    numbers_of_outline (boolean b) h = tt
    numbers_of_outline (number n) h = whole-number n h
    numbers_of_outline (string s) h = tt
    numbers_of_outline (array items) h = numbers_of_items items h
    numbers_of_outline (object members) h = numbers_of_members members h.1

    numbers_of_items : (items : Items) → AreStorable P items → tree.ItemsHaveNumbers (items_outline items)
    numbers_of_items no_items h = tt
    numbers_of_items (item value values) h = (numbers_of_outline value h.0, numbers_of_items values h.1)

    numbers_of_members : (members : Members) → MembersAreStorable P members → tree.MembersHaveNumbers (members_outline members)
    numbers_of_members no_members h = tt
    numbers_of_members (member key value members) h = (numbers_of_outline value h.1, numbers_of_members members h.2)

  -- what is written of such a value reads as the value
  pub read-compact_text : (value : Data) → IsStorable P value → depth value ≤ max_depth → read (compact_text value) ≡ Some value
  read-compact_text value is shallow =
      let printed : tokens (compact_text value) ≡ tree.json_tokens (outline value) =
      ap tokens (sym (print-outline value)) ∙ tokens-print (tree.json_tokens (outline value)) (ArePrintable-json_tokens (outline value) (numbers_of_outline value is)) in
      ap (λ ts. option_and_then of_json (option_and_then (λ p. json.if_last p.0 p.1) (json.value max_depth ts))) (printed ∙ sym (append-nil (tree.json_tokens (outline value))))
      ∙ ap (λ found. option_and_then of_json (option_and_then (λ p. json.if_last p.0 p.1) found)) (value-json_tokens (outline value) max_depth [] (omega (arith, depth_of_outline value, shallow)))
      ∙ of_outline value is
