-- The commands begin with bytes of their own, so no words are two of the program's forms; and those of a load tell one number, those
-- of a batch over a file one path, and so do those of an import and of an audit.
use Rattle.std.proofs.Common.{◌≡◌, ℕ, List, [], ◌∷◌, get_or, inl, inr, sym, ap, ◌∙◌}
use Rattle.std.proofs.lemmas.List.{append_cancel_left}
use Rattle.std.specs.Prelude.{codes}
use Rattle.std.specs.Str.Parse.{digits_value}
use Rattle.stock_words.specs.ServeWords.{Service, SpellsServe}
use Rattle.stock_words.specs.Words.{SpellsOver, SpellsBatchOver, SpellsImport, SpellsAudit, SpellsLoad}

-- the first byte of the first of some words
abbrev pub initial : List (List ℕ) → ℕ
initial [] = 0
initial (word ∷ words) = get_or word 0 0

pub batch_begins : (words : List (List ℕ)) → words ≡ codes "batch" ∷ [] → initial words ≡ 98
batch_begins words batch = ap initial batch

pub over_begins : (words : List (List ℕ)) (path : List ℕ) → SpellsBatchOver words path → initial words ≡ 98
over_begins words path (inl two) = ap initial two.0
over_begins words path (inr one) = ap initial one.0

pub import_begins : (words : List (List ℕ)) (path : List ℕ) → SpellsImport words path → initial words ≡ 105
import_begins words path (inl two) = ap initial two.0
import_begins words path (inr one) = ap initial one.0

pub audit_begins : (words : List (List ℕ)) (path : List ℕ) → SpellsAudit words path → initial words ≡ 97
audit_begins words path (inl two) = ap initial two.0
audit_begins words path (inr one) = ap initial one.0

pub load_begins : (words : List (List ℕ)) (n : ℕ) → SpellsLoad words n → initial words ≡ 108
load_begins words n load = ap initial load.1

pub serve_begins : (words : List (List ℕ)) (service : Service) → SpellsServe words service → initial words ≡ 115
serve_begins words service serve = ap initial serve.command

-- one word is not two
pub batch_is_not_over : (words : List (List ℕ)) (path : List ℕ) → words ≡ codes "batch" ∷ [] → SpellsBatchOver words path → ⊥
batch_is_not_over words path batch (inl two) = let same = sym batch ∙ two.0 in cc
batch_is_not_over words path batch (inr one) = let same = sym batch ∙ one.0 in cc

abbrev second_word : List (List ℕ) → List ℕ
second_word [] = []
second_word (word ∷ []) = []
second_word (word ∷ next ∷ words) = next

-- a load tells one number
pub load_once : (words : List (List ℕ)) (m n : ℕ) → SpellsLoad words m → SpellsLoad words n → m ≡ n
load_once words m n one other =
    let same : one.0 ≡ other.0 = sym (ap second_word one.1) ∙ ap second_word other.1 in
    sym one.2.told ∙ ap (digits_value 10) same ∙ other.2.told

abbrev third_word : List (List ℕ) → List ℕ
third_word [] = []
third_word (word ∷ []) = []
third_word (word ∷ next ∷ []) = []
third_word (word ∷ next ∷ third ∷ words) = third

abbrev behind_two : List (List ℕ) → List (List ℕ)
behind_two [] = []
behind_two (word ∷ []) = []
behind_two (word ∷ next ∷ words) = words

-- a command over a file tells one path
one_path_of : (command : List ℕ) (words : List (List ℕ)) (path path' : List ℕ) → SpellsOver command words path
    → SpellsOver command words path' → path ≡ path'
one_path_of command words path path' (inl two) (inl other) = sym (ap third_word two.0) ∙ ap third_word other.0
one_path_of command words path path' (inl two) (inr other) =
    let same : path ∷ [] ≡ [] = sym (ap behind_two two.0) ∙ ap behind_two other.0 in
    cc
one_path_of command words path path' (inr one) (inl other) =
    let same : [] ≡ path' ∷ [] = sym (ap behind_two one.0) ∙ ap behind_two other.0 in
    cc
one_path_of command words path path' (inr one) (inr other) =
    append_cancel_left (codes "--file=") path path' (sym (ap second_word one.0) ∙ ap second_word other.0)

pub one_path : (words : List (List ℕ)) (path path' : List ℕ) → SpellsBatchOver words path → SpellsBatchOver words path' → path ≡ path'
one_path = one_path_of (codes "batch")

pub one_import_path : (words : List (List ℕ)) (path path' : List ℕ) → SpellsImport words path → SpellsImport words path' → path ≡ path'
one_import_path = one_path_of (codes "import")

pub one_audit_path : (words : List (List ℕ)) (path path' : List ℕ) → SpellsAudit words path → SpellsAudit words path' → path ≡ path'
one_audit_path = one_path_of (codes "audit")
