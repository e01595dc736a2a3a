-- A desk's body never asks for work nor for a settlement.
use Rattle.std.proofs.Common.{◌≡◌, ℕ, Bool, true, false, if◌then◌else◌, Option, Some, None, List, [], ◌∷◌, refl, sym, subst, Result, Ok, Err}
use Rattle.std.specs.Prelude.{option_and_then, bytes_eq, ⊤}
use Rattle.serde_json.specs.Data.{Data}
use Rattle.serde_json.specs.Find.{as_str, get}
use Rattle.stock_model.specs.declared.read_faults.FieldName.TheVariants as field
use Rattle.stock_model.specs.declared.read_faults.ReadFault.{ReadFault}
use Rattle.stock_model.specs.declared.requests.Request.{Request}
use Rattle.stock_model.specs.declared.requests.Request.TheVariants.{Post, Report}
use Rattle.voucher_json.specs.FieldNames.{field_text}
use Rattle.voucher_json.specs.Fields.{choose, IsWord}
use Rattle.voucher_json.specs.Requests.{desk_kinds, IsOfKind, IsRequest, IsReadAs}
use Rattle.voucher_json.specs.Walks.{Then, GoesOn, IsPresent, found_or_bad}
use Rattle.voucher_json.specs.declared.kinds.Kind.{Kind}
use Rattle.voucher_json.specs.declared.kinds.Kind.TheVariants as kind_of
use Rattle.desk_server.specs.Answering.{IsOfDesk}

-- a walk that comes to a value has come to one at each step
then-ok : {A B : Type 0} (first : Result A ReadFault → Type 0) (next : A → Result B ReadFault → Type 0) (b : B)
    → Then first next (Ok b) → (a : A) × first (Ok a) × next a (Ok b)
then-ok {A} {B} first next b walked = at walked.outcome walked.is walked.goes_on
  where
    at : (o : Result A ReadFault) → first o → GoesOn next o (Ok b) → (a : A) × first (Ok a) × next a (Ok b)
    at (Ok a) is on = (a, is, on)
    at (Err f) is on = absurd (let apart : Ok b ≡ Err f = on in cc)

abbrev IsDeskKind : Kind → Type 0
IsDeskKind (kind_of.Post kind) = ⊤
IsDeskKind kind_of.Work = ⊥
IsDeskKind kind_of.Settle = ⊥
IsDeskKind kind_of.Report = ⊤

abbrev EachKind : List (List ℕ × Kind) → Type 0
EachKind [] = ⊤
EachKind (word ∷ words) = IsDeskKind word.1 × EachKind words

chosen : (words : List (List ℕ × Kind)) (text : List ℕ) (kind : Kind) → EachKind words → choose words text ≡ Some kind → IsDeskKind kind
chosen [] text kind each is = absurd (let apart : None ≡ Some kind = is in cc)
chosen (word ∷ words) text kind each is = at (bytes_eq text word.0) is (chosen words text kind each.1)
  where
    at : (b : Bool) → (if b then Some word.1 else choose words text) ≡ Some kind
        → (choose words text ≡ Some kind → IsDeskKind kind) → IsDeskKind kind
    at true same later = let it : word.1 ≡ kind = cc in subst IsDeskKind it each.0
    at false same later = later same

each-desk_kind : EachKind desk_kinds
each-desk_kind = (tt, (tt, (tt, (tt, (tt, (tt, (tt, (tt, (tt, (tt, (tt, tt)))))))))))

word-kind : (text : Option (List ℕ)) (kind : Kind) → Ok kind ≡ found_or_bad field.Do 0 (option_and_then (choose desk_kinds) text)
    → IsDeskKind kind
word-kind None kind is = absurd cc
word-kind (Some text) kind is = at (choose desk_kinds text) refl is
  where
    at : (found : Option Kind) → choose desk_kinds text ≡ found → Ok kind ≡ found_or_bad field.Do 0 found → IsDeskKind kind
    at None same is = absurd cc
    at (Some k) same is = let one : k ≡ kind = cc in subst IsDeskKind one (chosen desk_kinds text k each-desk_kind same)

field-kind : (value : Option Data) (kind : Kind) → IsPresent (IsWord desk_kinds) field.Do 0 value (Ok kind) → IsDeskKind kind
field-kind None kind is = absurd cc
field-kind (Some value) kind is = word-kind (as_str value) kind is

of_kind : (kind : Kind) (value : Data) (request : Request) → IsDeskKind kind → IsOfKind kind value (Ok request) → IsOfDesk request
of_kind (kind_of.Post kind) value request known walked =
    let step = then-ok _ _ request walked in
    let is : request ≡ Post step.0 = let same : Ok request ≡ Ok (Post step.0) = step.2 in cc in subst IsOfDesk (sym is) tt
of_kind kind_of.Work value request known walked = absurd known
of_kind kind_of.Settle value request known walked = absurd known
of_kind kind_of.Report value request known walked =
    let step = then-ok _ _ request walked in
    let is : request ≡ Report step.0 = let same : Ok request ≡ Ok (Report step.0) = step.2 in cc in subst IsOfDesk (sym is) tt

pub read-of_desk : (text : List ℕ) (request : Request) → IsReadAs true text (Ok request) → IsOfDesk request
read-of_desk text request walked =
    let value = then-ok _ (IsRequest true) request walked in
    let object = then-ok _ _ request value.2 in
    let kind = then-ok _ _ request object.2 in
    of_kind kind.0 value.0 request (field-kind (get (field_text field.Do) value.0) kind.0 kind.1) kind.2
