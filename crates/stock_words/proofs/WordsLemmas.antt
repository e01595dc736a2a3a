-- What the kit's parser finds in the words of a batch, of an import, of an audit and of a load.
use Rattle.std.proofs.Common.{◌≡◌, ◌⊎◌, ℕ, true, false, refl, List, [], ◌∷◌, ◌++◌, get_or, Option, Some, None, inl, inr, sym, ap, ◌∙◌, subst, arith}
use Rattle.std.proofs.lemmas.Bool.{ne_eqb}
use Rattle.std.proofs.lemmas.List.Elements.{All-head}
use Rattle.std.specs.Char.{IsAsciiDigit}
use Rattle.std.proofs.lemmas.Bool.Decides.{eqb_tells}
use Rattle.std.specs.Prelude.{codes, MatchOption}
use Rattle.std.specs.Option.{option_map_or}
use Rattle.std.specs.Str.{bytes_eq}
use Rattle.clap.specs.Lexer.{long_of, short_of}
use Rattle.clap.specs.Words.{Row, Text, first_of, takes, subcommand_of}
use Rattle.clap.proofs.OnLiterals.{clap_on_literals}
use Rattle.stock_words.specs.Commands.{program, AsksFor, AsksForNothing, IsBatchFor, IsImportFor, IsAuditFor, IsLoadFor}
use Rattle.stock_words.specs.Words.{Spells, SpellsBatchOver, SpellsImport, SpellsAudit, SpellsNoServe, SpellsNothing, IsPath, IsCount}
use Rattle.stock_words.specs.declared.words.Asked.{Asked}
use Rattle.stock_words.specs.declared.words.Asked.TheVariants.{Batch, BatchOver, ImportInto, AuditOf, Load, Serve}

-- the word is a value: no `--`, no long option and no short one
record IsValue (word : Text) : Type 0 where
  no_end : bytes_eq word (codes "--") ≡ false
  no_long : long_of word ≡ None
  no_short : short_of word ≡ None

path_is_value : (path : Text) → IsPath path → IsValue path
path_is_value [] is = absurd is
path_is_value (byte ∷ []) is = elim (eqb_tells byte 45) [
  | inl dash ↦ record { no_end = rw dash.0 refl; no_long = rw dash.0 refl; no_short = rw dash.0 refl }
  | inr other ↦ record { no_end = rw other.0 refl; no_long = rw other.0 refl; no_short = rw other.0 refl }
]
path_is_value (byte ∷ next ∷ rest) is =
    let other = ne_eqb byte 45 is in
    record { no_end = rw other refl; no_long = rw other refl; no_short = rw other refl }

-- the command that was found, and its file
abbrev named : Option (Text × List Row) → Option (Text × Option Text)
named None = None
named (Some (name, rows)) = Some (name, first_of (codes "file") rows)

-- the parser takes the words, and finds this command in them, with this file if they name one
record Reads (words : List Text) (command : Text) (file : Option Text) : Type 0 where
  taken : takes program words ≡ true
  found : named (subcommand_of program words) ≡ Some (command, file)

reads-batch : Reads (codes "batch" ∷ []) (codes "batch") None
unfolding clap_on_literals
reads-batch = record { taken = refl; found = refl }

reads-two : (path : Text) → IsValue path → Reads (codes "batch" ∷ codes "--file" ∷ path ∷ []) (codes "batch") (Some path)
unfolding clap_on_literals
reads-two path value = record {
  taken = rw (value.no_end, value.no_long, value.no_short) refl;
  found = rw (value.no_end, value.no_long, value.no_short) refl;
}

reads-one : (path : Text) → Reads (codes "batch" ∷ (codes "--file=" ++ path) ∷ []) (codes "batch") (Some path)
unfolding clap_on_literals
reads-one path = record { taken = refl; found = refl }

import_reads-two : (path : Text) → IsValue path → Reads (codes "import" ∷ codes "--file" ∷ path ∷ []) (codes "import") (Some path)
unfolding clap_on_literals
import_reads-two path value = record {
  taken = rw (value.no_end, value.no_long, value.no_short) refl;
  found = rw (value.no_end, value.no_long, value.no_short) refl;
}

import_reads-one : (path : Text) → Reads (codes "import" ∷ (codes "--file=" ++ path) ∷ []) (codes "import") (Some path)
unfolding clap_on_literals
import_reads-one path = record { taken = refl; found = refl }

audit_reads-two : (path : Text) → IsValue path → Reads (codes "audit" ∷ codes "--file" ∷ path ∷ []) (codes "audit") (Some path)
unfolding clap_on_literals
audit_reads-two path value = record {
  taken = rw (value.no_end, value.no_long, value.no_short) refl;
  found = rw (value.no_end, value.no_long, value.no_short) refl;
}

audit_reads-one : (path : Text) → Reads (codes "audit" ∷ (codes "--file=" ++ path) ∷ []) (codes "audit") (Some path)
unfolding clap_on_literals
audit_reads-one path = record { taken = refl; found = refl }

-- the parser finds a load in them, with this word
abbrev named_load : Option (Text × List Row) → Option (Text × Option Text)
named_load None = None
named_load (Some (name, rows)) = Some (name, first_of (codes "count") rows)

record ReadsLoad (words : List Text) (word : Text) : Type 0 where
  taken : takes program words ≡ true
  found : named_load (subcommand_of program words) ≡ Some (codes "load", Some word)

reads-load : (word : Text) → IsValue word → ReadsLoad (codes "load" ∷ word ∷ []) word
unfolding clap_on_literals
reads-load word value = record {
  taken = rw (value.no_end, value.no_long, value.no_short) refl;
  found = rw (value.no_end, value.no_long, value.no_short) refl;
}

-- digits are no option
count_is_path : (word : Text) (n : ℕ) → IsCount word n → IsPath word
count_is_path [] n count = absurd (omega (arith, count.some))
count_is_path (digit ∷ []) n count = tt
count_is_path (digit ∷ next ∷ rest) n count =
    let first = All-head IsAsciiDigit digit (next ∷ rest) count.digits in
    λ dash. absurd (omega (arith, first.0, dash))

-- the words spell a batch, over this file if they name one
abbrev SpellsFile : List Text → Option Text → Type 0
SpellsFile words None = words ≡ codes "batch" ∷ []
SpellsFile words (Some path) = SpellsBatchOver words path

-- what the words spell that the program knows: a batch, an import, an audit, or a load
abbrev IsKnownBatch : List Text → Type 0
IsKnownBatch words = (file : Option Text) × SpellsFile words file × Reads words (codes "batch") file

abbrev IsKnownImport : List Text → Type 0
IsKnownImport words = (path : Text) × SpellsImport words path × Reads words (codes "import") (Some path)

abbrev IsKnownAudit : List Text → Type 0
IsKnownAudit words = (path : Text) × SpellsAudit words path × Reads words (codes "audit") (Some path)

record IsKnownLoad (words : List Text) : Type 0 where
  word : Text
  count : ℕ
  words_are : words ≡ codes "load" ∷ word ∷ []
  is_count : IsCount word count
  reads : ReadsLoad words word

abbrev IsKnown : List Text → Type 0
IsKnown words = IsKnownBatch words ⊎ IsKnownImport words ⊎ IsKnownAudit words ⊎ IsKnownLoad words

known-batch_over : (words : List Text) (path : Text) → SpellsBatchOver words path → IsKnownBatch words
known-batch_over words path (inl two) =
    (Some path, inl two, subst (λ (ws : List Text). Reads ws (codes "batch") (Some path)) (sym two.0) (reads-two path (path_is_value path two.1)))
known-batch_over words path (inr one) =
    (Some path, inr one, subst (λ (ws : List Text). Reads ws (codes "batch") (Some path)) (sym one.0) (reads-one path))

known-import : (words : List Text) (path : Text) → SpellsImport words path → IsKnownImport words
known-import words path (inl two) =
    (path, inl two, subst (λ (ws : List Text). Reads ws (codes "import") (Some path)) (sym two.0) (import_reads-two path (path_is_value path two.1)))
known-import words path (inr one) =
    (path, inr one, subst (λ (ws : List Text). Reads ws (codes "import") (Some path)) (sym one.0) (import_reads-one path))

known-audit : (words : List Text) (path : Text) → SpellsAudit words path → IsKnownAudit words
known-audit words path (inl two) =
    (path, inl two, subst (λ (ws : List Text). Reads ws (codes "audit") (Some path)) (sym two.0) (audit_reads-two path (path_is_value path two.1)))
known-audit words path (inr one) =
    (path, inr one, subst (λ (ws : List Text). Reads ws (codes "audit") (Some path)) (sym one.0) (audit_reads-one path))

known-read : (words : List Text) → SpellsNoServe words → IsKnown words
known-read words (inl batch) = inl (None, batch, subst (λ (ws : List Text). Reads ws (codes "batch") None) (sym batch) reads-batch)
known-read words (inr (inl (path, over))) = inl (known-batch_over words path over)
known-read words (inr (inr (inl (path, import)))) = inr (inl (known-import words path import))
known-read words (inr (inr (inr (inl (path, audit))))) = inr (inr (inl (known-audit words path audit)))
known-read words (inr (inr (inr (inr (n, (word, is, count)))))) =
    inr (inr (inr (record {
      word = word;
      count = n;
      words_are = is;
      is_count = count;
      reads =
          subst (λ (ws : List Text). ReadsLoad ws word) (sym is) (reads-load word (path_is_value word (count_is_path word n count)));
    })))

-- the parser refuses no words that the program knows
pub known-taken : (words : List Text) → SpellsNoServe words → takes program words ≡ true
known-taken words known =
    elim (known-read words known) [
      | inl batch ↦ batch.2.taken
      | inr (inl import) ↦ import.2.taken
      | inr (inr (inl audit)) ↦ audit.2.taken
      | inr (inr (inr load)) ↦ load.reads.taken
    ]

-- no command is another
batch_is_no_load : codes "batch" ≡ codes "load" → ⊥
batch_is_no_load is = let first : 98 ≡ 108 = ap (λ (word : Text). get_or word 0 0) is in absurd (omega (arith, first))

batch_is_no_import : codes "batch" ≡ codes "import" → ⊥
batch_is_no_import is = let first : 98 ≡ 105 = ap (λ (word : Text). get_or word 0 0) is in absurd (omega (arith, first))

import_is_no_load : codes "import" ≡ codes "load" → ⊥
import_is_no_load is = let first : 105 ≡ 108 = ap (λ (word : Text). get_or word 0 0) is in absurd (omega (arith, first))

batch_is_no_audit : codes "batch" ≡ codes "audit" → ⊥
batch_is_no_audit is = let first : 98 ≡ 97 = ap (λ (word : Text). get_or word 0 0) is in absurd (omega (arith, first))

import_is_no_audit : codes "import" ≡ codes "audit" → ⊥
import_is_no_audit is = let first : 105 ≡ 97 = ap (λ (word : Text). get_or word 0 0) is in absurd (omega (arith, first))

audit_is_no_load : codes "audit" ≡ codes "load" → ⊥
audit_is_no_load is = let first : 97 ≡ 108 = ap (λ (word : Text). get_or word 0 0) is in absurd (omega (arith, first))

-- the name and the file that were found, and the word of a load
name-is : (name command : Text) (rows : List Row) (file : Option Text) → named (Some (name, rows)) ≡ Some (command, file) → name ≡ command
name-is name command rows file is = ap (λ o. option_map_or (λ p. p.0) o name) is

file-is : (name command : Text) (rows : List Row) (file : Option Text) → named (Some (name, rows)) ≡ Some (command, file)
    → first_of (codes "file") rows ≡ file
file-is name command rows file is = ap (λ o. option_map_or (λ p. p.1) o file) is

load_name-is : (name : Text) (rows : List Row) (word : Text) → named_load (Some (name, rows)) ≡ Some (codes "load", Some word)
    → name ≡ codes "load"
load_name-is name rows word is = ap (λ o. option_map_or (λ p. p.0) o name) is

load_word-is : (name : Text) (rows : List Row) (word : Text) → named_load (Some (name, rows)) ≡ Some (codes "load", Some word)
    → first_of (codes "count") rows ≡ Some word
load_word-is name rows word is = ap (λ o. option_map_or (λ p. p.1) o (Some word)) is

-- what the parser finds in a batch asks for it
batch_spelled : (words : List Text) (rows : List Row) (file : Option Text) (asked : Asked) → first_of (codes "file") rows ≡ file
    → SpellsFile words file → IsBatchFor rows asked → Spells words asked
batch_spelled words rows file Batch is spells asks = subst (SpellsFile words) (sym is ∙ asks) spells
batch_spelled words rows file (BatchOver path) is spells asks = subst (SpellsFile words) (sym is ∙ asks) spells
batch_spelled words rows file (ImportInto path) is spells asks = absurd asks
batch_spelled words rows file (AuditOf other) is spells asks = absurd asks
batch_spelled words rows file (Load n) is spells asks = absurd asks
batch_spelled words rows file (Serve service) is spells asks = absurd asks

asks-batch : (words : List Text) (found : Option (Text × List Row)) (file : Option Text) (asked : Asked)
    → named found ≡ Some (codes "batch", file) → SpellsFile words file → AsksFor found asked → Spells words asked
asks-batch words None file asked is spells asks = absurd asks
asks-batch words (Some (name, rows)) file asked is spells (inl asks) =
    batch_spelled words rows file asked (file-is name (codes "batch") rows file is) spells asks.1
asks-batch words (Some (name, rows)) file asked is spells (inr (inl asks)) =
    absurd (batch_is_no_import (sym (name-is name (codes "batch") rows file is) ∙ asks.0))
asks-batch words (Some (name, rows)) file asked is spells (inr (inr (inl asks))) =
    absurd (batch_is_no_audit (sym (name-is name (codes "batch") rows file is) ∙ asks.0))
asks-batch words (Some (name, rows)) file asked is spells (inr (inr (inr asks))) =
    absurd (batch_is_no_load (sym (name-is name (codes "batch") rows file is) ∙ asks.0))

-- what it finds in an import does
import_spelled : (words : List Text) (rows : List Row) (path : Text) (asked : Asked) → first_of (codes "file") rows ≡ Some path
    → SpellsImport words path → IsImportFor rows asked → Spells words asked
import_spelled words rows path Batch is spells asks = absurd asks
import_spelled words rows path (BatchOver other) is spells asks = absurd asks
import_spelled words rows path (ImportInto other) is spells asks =
    let both : Some path ≡ Some other.now = sym is ∙ asks in
    let same : path ≡ other.now = cc in
    subst (SpellsImport words) same spells
import_spelled words rows path (AuditOf other) is spells asks = absurd asks
import_spelled words rows path (Load n) is spells asks = absurd asks
import_spelled words rows path (Serve service) is spells asks = absurd asks

asks-import : (words : List Text) (found : Option (Text × List Row)) (path : Text) (asked : Asked)
    → named found ≡ Some (codes "import", Some path) → SpellsImport words path → AsksFor found asked → Spells words asked
asks-import words None path asked is spells asks = absurd asks
asks-import words (Some (name, rows)) path asked is spells (inl asks) =
    absurd (batch_is_no_import (sym asks.0 ∙ name-is name (codes "import") rows (Some path) is))
asks-import words (Some (name, rows)) path asked is spells (inr (inl asks)) =
    import_spelled words rows path asked (file-is name (codes "import") rows (Some path) is) spells asks.1
asks-import words (Some (name, rows)) path asked is spells (inr (inr (inl asks))) =
    absurd (import_is_no_audit (sym (name-is name (codes "import") rows (Some path) is) ∙ asks.0))
asks-import words (Some (name, rows)) path asked is spells (inr (inr (inr asks))) =
    absurd (import_is_no_load (sym (name-is name (codes "import") rows (Some path) is) ∙ asks.0))

-- and what it finds in an audit
audit_spelled : (words : List Text) (rows : List Row) (path : Text) (asked : Asked) → first_of (codes "file") rows ≡ Some path
    → SpellsAudit words path → IsAuditFor rows asked → Spells words asked
audit_spelled words rows path Batch is spells asks = absurd asks
audit_spelled words rows path (BatchOver other) is spells asks = absurd asks
audit_spelled words rows path (ImportInto other) is spells asks = absurd asks
audit_spelled words rows path (AuditOf other) is spells asks =
    let both : Some path ≡ Some other.now = sym is ∙ asks in
    let same : path ≡ other.now = cc in
    subst (SpellsAudit words) same spells
audit_spelled words rows path (Load n) is spells asks = absurd asks
audit_spelled words rows path (Serve service) is spells asks = absurd asks

asks-audit : (words : List Text) (found : Option (Text × List Row)) (path : Text) (asked : Asked)
    → named found ≡ Some (codes "audit", Some path) → SpellsAudit words path → AsksFor found asked → Spells words asked
asks-audit words None path asked is spells asks = absurd asks
asks-audit words (Some (name, rows)) path asked is spells (inl asks) =
    absurd (batch_is_no_audit (sym asks.0 ∙ name-is name (codes "audit") rows (Some path) is))
asks-audit words (Some (name, rows)) path asked is spells (inr (inl asks)) =
    absurd (import_is_no_audit (sym asks.0 ∙ name-is name (codes "audit") rows (Some path) is))
asks-audit words (Some (name, rows)) path asked is spells (inr (inr (inl asks))) =
    audit_spelled words rows path asked (file-is name (codes "audit") rows (Some path) is) spells asks.1
asks-audit words (Some (name, rows)) path asked is spells (inr (inr (inr asks))) =
    absurd (audit_is_no_load (sym (name-is name (codes "audit") rows (Some path) is) ∙ asks.0))

-- and so does what it finds in a load
load_spelled : (words : List Text) (rows : List Row) (word : Text) (asked : Asked) → first_of (codes "count") rows ≡ Some word
    → words ≡ codes "load" ∷ word ∷ [] → IsLoadFor rows asked → Spells words asked
load_spelled words rows word Batch is spells asks = absurd asks
load_spelled words rows word (BatchOver path) is spells asks = absurd asks
load_spelled words rows word (ImportInto path) is spells asks = absurd asks
load_spelled words rows word (AuditOf path) is spells asks = absurd asks
load_spelled words rows word (Serve service) is spells asks = absurd asks
load_spelled words rows word (Load n) is spells (told, first, count) =
    let same : Some told ≡ Some word = sym first ∙ is in
    let word_is : told ≡ word = cc in (word, spells, subst (λ (w : Text). IsCount w n) word_is count)

asks-load : (words : List Text) (found : Option (Text × List Row)) (word : Text) (asked : Asked)
    → named_load found ≡ Some (codes "load", Some word) → words ≡ codes "load" ∷ word ∷ [] → AsksFor found asked → Spells words asked
asks-load words None word asked is spells asks = absurd asks
asks-load words (Some (name, rows)) word asked is spells (inl asks) =
    absurd (batch_is_no_load (sym asks.0 ∙ load_name-is name rows word is))
asks-load words (Some (name, rows)) word asked is spells (inr (inl asks)) =
    absurd (import_is_no_load (sym asks.0 ∙ load_name-is name rows word is))
asks-load words (Some (name, rows)) word asked is spells (inr (inr (inl asks))) =
    absurd (audit_is_no_load (sym asks.0 ∙ load_name-is name rows word is))
asks-load words (Some (name, rows)) word asked is spells (inr (inr (inr asks))) =
    load_spelled words rows word asked (load_word-is name rows word is) spells asks.1

something-in_batch : (found : Option (Text × List Row)) (file : Option Text) → named found ≡ Some (codes "batch", file)
    → AsksForNothing found → ⊥
something-in_batch None file is nothing = cc
something-in_batch (Some (name, rows)) file is nothing = absurd (nothing.0 (name-is name (codes "batch") rows file is))

something-in_import : (found : Option (Text × List Row)) (path : Text) → named found ≡ Some (codes "import", Some path)
    → AsksForNothing found → ⊥
something-in_import None path is nothing = cc
something-in_import (Some (name, rows)) path is nothing =
    let none = nothing.1 (name-is name (codes "import") rows (Some path) is) in
    let both : None ≡ Some path = sym none ∙ file-is name (codes "import") rows (Some path) is in
    cc

something-in_audit : (found : Option (Text × List Row)) (path : Text) → named found ≡ Some (codes "audit", Some path)
    → AsksForNothing found → ⊥
something-in_audit None path is nothing = cc
something-in_audit (Some (name, rows)) path is nothing =
    let none = nothing.2 (name-is name (codes "audit") rows (Some path) is) in
    let both : None ≡ Some path = sym none ∙ file-is name (codes "audit") rows (Some path) is in
    cc

something-in_load : (found : Option (Text × List Row)) (word : Text) (n : ℕ) → named_load found ≡ Some (codes "load", Some word)
    → IsCount word n → AsksForNothing found → ⊥
something-in_load None word n is count nothing = cc
something-in_load (Some (name, rows)) word n is count nothing =
    nothing.3 (load_name-is name rows word is) word (load_word-is name rows word is) n count

-- what the parser finds in them is what they spell
pub known-asked : (words : List Text) (asked : Option Asked) → SpellsNoServe words
    → MatchOption asked (AsksForNothing (subcommand_of program words)) (AsksFor (subcommand_of program words))
    → MatchOption asked (SpellsNothing words) (Spells words)
known-asked words None known nothing =
    elim (known-read words known) [
      | inl batch ↦ absurd (something-in_batch (subcommand_of program words) batch.0 batch.2.found nothing)
      | inr (inl import) ↦ absurd (something-in_import (subcommand_of program words) import.0 import.2.found nothing)
      | inr (inr (inl audit)) ↦ absurd (something-in_audit (subcommand_of program words) audit.0 audit.2.found nothing)
      | inr (inr (inr load)) ↦ absurd (something-in_load (subcommand_of program words) load.word load.count load.reads.found load.is_count nothing)
    ]
known-asked words (Some asked) known asks =
    elim (known-read words known) [
      | inl batch ↦ asks-batch words (subcommand_of program words) batch.0 asked batch.2.found batch.1 asks
      | inr (inl import) ↦ asks-import words (subcommand_of program words) import.0 asked import.2.found import.1 asks
      | inr (inr (inl audit)) ↦ asks-audit words (subcommand_of program words) audit.0 asked audit.2.found audit.1 asks
      | inr (inr (inr load)) ↦ asks-load words (subcommand_of program words) load.word asked load.reads.found load.words_are asks
    ]
