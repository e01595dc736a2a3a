-- The text of an object of JSON whose names and texts have nothing to escape.
use Rattle.std.proofs.Common.{◌≡◌, ℕ, true, List, [], ◌∷◌, ◌++◌, refl, sym, ap, ◌∙◌, append_assoc}
use Rattle.json.specs.Print.{escape, quoted}
use Rattle.json_texts.specs.Members.{Member, members_of, object_of}
use Rattle.serde_json.specs.Data.{Data, null, boolean, number, string, array, object}
use Rattle.serde_json.specs.Written.{number_text, compact_text, members_text}
use Rattle.stock_model.proofs.Pairwise.{Each}
use Rattle.valuation_report.specs.Pieces.{json_piece}

-- a value, and what comes after it
abbrev pub value_text : Data → List ℕ → List ℕ
value_text null rest = compact_text null ++ rest
value_text (boolean b) rest = compact_text (boolean b) ++ rest
value_text (number n) rest = number_text n ++ rest
value_text (string bytes) rest = 34 ∷ (bytes ++ 34 ∷ rest)
value_text (array values) rest = compact_text (array values) ++ rest
value_text (object fields) rest = compact_text (object fields) ++ rest

-- a member, and what comes after it
abbrev pub member_text : Member → List ℕ → List ℕ
member_text member rest = 34 ∷ (member.0 ++ 34 ∷ 58 ∷ value_text member.1 rest)

abbrev pub later_members : List Member → List ℕ → List ℕ
later_members [] rest = 125 ∷ rest
later_members (member ∷ members) rest = 44 ∷ member_text member (later_members members rest)

abbrev pub object_text : List Member → List ℕ → List ℕ
object_text [] rest = 123 ∷ 125 ∷ rest
object_text (member ∷ members) rest = 123 ∷ member_text member (later_members members rest)

-- a text has nothing to escape
abbrev pub IsPlainValue : Data → Type 0
IsPlainValue null = Unit {0}
IsPlainValue (boolean b) = Unit {0}
IsPlainValue (number n) = Unit {0}
IsPlainValue (string bytes) = escape bytes ≡ bytes
IsPlainValue (array values) = Unit {0}
IsPlainValue (object fields) = Unit {0}

abbrev pub IsPlainMember : Member → Type 0
IsPlainMember member = (escape member.0 ≡ member.0) × IsPlainValue member.1

-- a text between its quotes
plain_quoted : (bytes rest : List ℕ) → escape bytes ≡ bytes → 34 ∷ (bytes ++ 34 ∷ rest) ≡ quoted bytes ++ rest
plain_quoted bytes rest plain =
    ap (λ (text : List ℕ). 34 ∷ (text ++ 34 ∷ rest)) (sym plain)
    ∙ ap (λ (text : List ℕ). 34 ∷ text) (sym (append_assoc (escape bytes) (34 ∷ []) rest))

plain_value : (value : Data) (rest : List ℕ) → IsPlainValue value → value_text value rest ≡ compact_text value ++ rest
plain_value null rest plain = refl
plain_value (boolean b) rest plain = refl
plain_value (number n) rest plain = refl
plain_value (string bytes) rest plain = plain_quoted bytes rest plain
plain_value (array values) rest plain = refl
plain_value (object fields) rest plain = refl

plain_member : (member : Member) (rest : List ℕ) → IsPlainMember member → member_text member rest ≡ quoted member.0 ++ 58 ∷ (compact_text member.1 ++ rest)
plain_member member rest plain =
    plain_quoted member.0 (58 ∷ value_text member.1 rest) plain.0
    ∙ ap (λ (text : List ℕ). quoted member.0 ++ 58 ∷ text) (plain_value member.1 rest plain.1)

-- what comes after a value, moved out of the members
moved : (name value others rest : List ℕ) → quoted name ++ 58 ∷ (value ++ (others ++ rest)) ≡ (quoted name ++ 58 ∷ (value ++ others)) ++ rest
moved name value others rest = simp append_assoc

plain_later : (members : List Member) (rest : List ℕ) → Each IsPlainMember members → later_members members rest ≡ members_text true (members_of members) ++ rest
plain_later [] rest plain = refl
plain_later (member ∷ members) rest plain =
    let others = members_text true (members_of members) in
    ap (λ (text : List ℕ). 44 ∷ text)
    (plain_member member (later_members members rest) plain.0
    ∙ ap (λ (text : List ℕ). quoted member.0 ++ 58 ∷ (compact_text member.1 ++ text)) (plain_later members rest plain.1)
    ∙ moved member.0 (compact_text member.1) others rest)

plain_object : (members : List Member) (rest : List ℕ) → Each IsPlainMember members → object_text members rest ≡ compact_text (object_of members) ++ rest
plain_object [] rest plain = refl
plain_object (member ∷ members) rest plain =
    let others = members_text true (members_of members) in
    ap (λ (text : List ℕ). 123 ∷ text)
    (plain_member member (later_members members rest) plain.0
    ∙ ap (λ (text : List ℕ). quoted member.0 ++ 58 ∷ (compact_text member.1 ++ text)) (plain_later members rest plain.1)
    ∙ moved member.0 (compact_text member.1) others rest)

-- the object as a row of JSON
pub object_text-piece : (members : List Member) → Each IsPlainMember members → object_text members (44 ∷ []) ≡ json_piece (object_of members)
object_text-piece members plain = plain_object members (44 ∷ []) plain
