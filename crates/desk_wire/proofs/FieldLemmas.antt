-- The values of the fields of one name, one field after another.
use Rattle.std.proofs.Common.{◌≡◌, ℕ, ◌+◌, ◌<◌, Bool, true, false, List, [], ◌∷◌, ◌++◌, length, map, filter, take, drop, get_or, sym, ap, ◌∙◌, append-nil, take-append-drop}
use Rattle.std.specs.Prelude.{IsTrue, ◌↔◌}
use Rattle.std.specs.Char.{to_ascii_lowercase}
use Rattle.std.specs.List.{list_any}
use Rattle.std.specs.Str.{str_eq_ignore_ascii_case}
use Rattle.std.proofs.lemmas.Bool.{cond-true, cond-false, or_left}
use Rattle.std.proofs.lemmas.List.Folds.{list_any-append}
use Rattle.std.proofs.lemmas.Bool.Decides.{same_from_decides}
use Rattle.std.proofs.lemmas.List.{take_more, map_push, map-append}
use Rattle.std.proofs.lemmas.List.Elements.{filter-append}
use Rattle.std.proofs.lemmas.Slice.Eq.{bytes_eq-Decides}
use Rattle.httparse.specs.declared.spans.HeaderSpan.{HeaderSpan}
use Rattle.httparse.specs.Spans.{header_bytes}
use Rattle.desk_wire.specs.Heads.{Fields, values_of}

-- a comparison without regard to ASCII case gives this test
pub same_test : (r : Bool) (a b : List ℕ) → (IsTrue r ↔ (map to_ascii_lowercase a ≡ map to_ascii_lowercase b))
    → r ≡ str_eq_ignore_ascii_case a b
same_test r a b test =
    same_from_decides r (str_eq_ignore_ascii_case a b) (test.0, test.1) (bytes_eq-Decides (map to_ascii_lowercase a) (map to_ascii_lowercase b))

-- one more field, of that name and of another
pub values_of-push_yes : (name : List ℕ) (fields : Fields) (field : List ℕ × List ℕ)
    → str_eq_ignore_ascii_case field.0 name ≡ true
    → values_of name (fields ++ field ∷ []) ≡ values_of name fields ++ field.1 ∷ []
values_of-push_yes name fields field same =
    let P : List ℕ × List ℕ → Bool = λ f. str_eq_ignore_ascii_case f.0 name in
    ap (map (λ (f : List ℕ × List ℕ). f.1))
    (filter-append P fields (field ∷ []) ∙ ap (λ l. filter P fields ++ l) (cond-true (P field) (field ∷ []) [] same))
    ∙ map_push (λ (f : List ℕ × List ℕ). f.1) (filter P fields) field

pub values_of-push_no : (name : List ℕ) (fields : Fields) (field : List ℕ × List ℕ)
    → str_eq_ignore_ascii_case field.0 name ≡ false
    → values_of name (fields ++ field ∷ []) ≡ values_of name fields
values_of-push_no name fields field other =
    let P : List ℕ × List ℕ → Bool = λ f. str_eq_ignore_ascii_case f.0 name in
    ap (map (λ (f : List ℕ × List ℕ). f.1))
    (filter-append P fields (field ∷ []) ∙ ap (λ l. filter P fields ++ l) (cond-false (P field) (field ∷ []) [] other)
    ∙ append-nil (filter P fields))

-- the values of some fields and of those after them
values_of-append : (name : List ℕ) (fields more : Fields)
    → values_of name (fields ++ more) ≡ values_of name fields ++ values_of name more
values_of-append name fields more =
    let P : List ℕ × List ℕ → Bool = λ f. str_eq_ignore_ascii_case f.0 name in
    ap (map (λ (f : List ℕ × List ℕ). f.1)) (filter-append P fields more)
    ∙ map-append (λ (f : List ℕ × List ℕ). f.1) (filter P fields) (filter P more)

-- a value that passes among the first fields passes among all
pub some_value_kept : (front name : List ℕ) (fields : List HeaderSpan) (i : ℕ) (test : List ℕ → Bool)
    → list_any test (values_of name (map (header_bytes front) (take (i + 1) fields))) ≡ true
    → list_any test (values_of name (map (header_bytes front) fields)) ≡ true
some_value_kept front name fields i test some =
    let here = map (header_bytes front) (take (i + 1) fields) in
    let later = map (header_bytes front) (drop (i + 1) fields) in
    let parts : map (header_bytes front) fields ≡ here ++ later =
    ap (map (header_bytes front)) (sym (take-append-drop (i + 1) fields)) ∙ map-append (header_bytes front) (take (i + 1) fields) (drop (i + 1) fields) in
    ap (list_any test) (ap (values_of name) parts ∙ values_of-append name here later)
    ∙ list_any-append test (values_of name here) (values_of name later) ∙ or_left _ (list_any test (values_of name later)) some

-- the same for the fields up to the next place
module _ (front name : List ℕ) (fields : List HeaderSpan) (i : ℕ) (d : HeaderSpan) where
  next_fields : i < length fields
      → map (header_bytes front) (take (i + 1) fields)
      ≡ map (header_bytes front) (take i fields) ++ header_bytes front (get_or fields i d) ∷ []
  next_fields inside = ap (map (header_bytes front)) (take_more fields i d inside) ∙ map_push (header_bytes front) (take i fields) (get_or fields i d)

  pub next_values_yes : i < length fields
      → str_eq_ignore_ascii_case (header_bytes front (get_or fields i d)).0 name ≡ true
      → values_of name (map (header_bytes front) (take (i + 1) fields))
      ≡ values_of name (map (header_bytes front) (take i fields)) ++ (header_bytes front (get_or fields i d)).1 ∷ []
  next_values_yes inside same =
      ap (values_of name) (next_fields inside)
      ∙ values_of-push_yes name (map (header_bytes front) (take i fields)) (header_bytes front (get_or fields i d)) same

  pub next_values_no : i < length fields
      → str_eq_ignore_ascii_case (header_bytes front (get_or fields i d)).0 name ≡ false
      → values_of name (map (header_bytes front) (take (i + 1) fields))
      ≡ values_of name (map (header_bytes front) (take i fields))
  next_values_no inside other =
      ap (values_of name) (next_fields inside)
      ∙ values_of-push_no name (map (header_bytes front) (take i fields)) (header_bytes front (get_or fields i d)) other

  -- a field's name, compared without regard to ASCII case
  pub name_test : (shown : List ℕ) (r : Bool) → shown ≡ (header_bytes front (get_or fields i d)).0
      → (IsTrue r ↔ (map to_ascii_lowercase shown ≡ map to_ascii_lowercase name))
      → r ≡ str_eq_ignore_ascii_case (header_bytes front (get_or fields i d)).0 name
  name_test shown r is test =
      same_test r shown name test ∙ ap (λ (s : List ℕ). str_eq_ignore_ascii_case s name) is
