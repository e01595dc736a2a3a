-- What the program's words ask for, each word as its bytes.
use Rattle.std.specs.Prelude.{ℕ, ◌≡◌, ◌≢◌, ◌⊎◌, List, [], ◌∷◌, ◌++◌, map, codes, String, string_bytes}
use Rattle.std.specs.declared.alloc.Global.{Global}
use Rattle.stock_words.specs.declared.words.TheConstants.{MAX_LOAD}
use Rattle.stock_words.specs.NumberWords.{IsNumber, IsNoNumber}
pub use Rattle.stock_words.specs.Paths.{IsPath}
use Rattle.stock_words.specs.ServeWords.{Service, SpellsServe, SpellsNoService, service_of}
use Rattle.stock_words.specs.declared.words.Asked.{Asked}
use Rattle.stock_words.specs.declared.words.Asked.TheVariants.{Batch, BatchOver, ImportInto, AuditOf, Load, Serve}
use Rattle.stock_words.specs.declared.words.WordsFault.{WordsFault}
use Rattle.stock_words.specs.declared.words.WordsFault.TheVariants.{Unknown, NoMemory}

-- the word is `--file=` followed by a path
abbrev pub IsFileOption : List ℕ → List ℕ → Type 0
IsFileOption word path = (word ≡ codes "--file=" ++ path) × (path ≢ [])

-- the words are the command, `--file` and the path, or the command and one word for both
abbrev pub SpellsOver : List ℕ → List (List ℕ) → List ℕ → Type 0
SpellsOver command words path = ((words ≡ command ∷ codes "--file" ∷ path ∷ []) × IsPath path)
    ⊎ ((words ≡ command ∷ (codes "--file=" ++ path) ∷ []) × (path ≢ []))

-- the words are `batch` over the file at the path
abbrev pub SpellsBatchOver : List (List ℕ) → List ℕ → Type 0
SpellsBatchOver words path = SpellsOver (codes "batch") words path

-- the words are `import` into the file at the path
abbrev pub SpellsImport : List (List ℕ) → List ℕ → Type 0
SpellsImport words path = SpellsOver (codes "import") words path

-- the words are `audit` of the file at the path
abbrev pub SpellsAudit : List (List ℕ) → List ℕ → Type 0
SpellsAudit words path = SpellsOver (codes "audit") words path

-- the word tells a number of vouchers, from 1 to 40,000
abbrev pub IsCount : List ℕ → ℕ → Type 0
IsCount word n = IsNumber MAX_LOAD word n

abbrev pub IsNoCount : List ℕ → Type 0
IsNoCount word = IsNoNumber MAX_LOAD word

-- the words are `load` and a word that tells the number
abbrev pub SpellsLoad : List (List ℕ) → ℕ → Type 0
SpellsLoad words n = (word : List ℕ) × (words ≡ codes "load" ∷ word ∷ []) × IsCount word n

-- the words ask for this
abbrev pub Spells : List (List ℕ) → Asked → Type 0
Spells words Batch = words ≡ codes "batch" ∷ []
Spells words (BatchOver path) = SpellsBatchOver words path.now
Spells words (ImportInto path) = SpellsImport words path.now
Spells words (AuditOf path) = SpellsAudit words path.now
Spells words (Load n) = SpellsLoad words n
Spells words (Serve asked) = SpellsServe words (service_of asked)

-- the words are no form that the program knows
abbrev pub SpellsNothing : List (List ℕ) → Type 0
SpellsNothing words = (words ≢ codes "batch" ∷ []) × ((path : List ℕ) → SpellsBatchOver words path → ⊥)
    × ((path : List ℕ) → SpellsImport words path → ⊥) × ((path : List ℕ) → SpellsAudit words path → ⊥)
    × ((n : ℕ) → SpellsLoad words n → ⊥) × SpellsNoService words

-- the words ask for a batch, an import, an audit or a load
abbrev pub SpellsNoServe : List (List ℕ) → Type 0
SpellsNoServe words = (words ≡ codes "batch" ∷ []) ⊎ ((path : List ℕ) × SpellsBatchOver words path)
    ⊎ ((path : List ℕ) × SpellsImport words path) ⊎ ((path : List ℕ) × SpellsAudit words path) ⊎ ((n : ℕ) × SpellsLoad words n)

-- why nothing can be done for the words: they are no form, or memory was wanting to read a batch, an import, an audit or a load
abbrev pub IsFaultOf : List (List ℕ) → WordsFault → Type 0
IsFaultOf words Unknown = SpellsNothing words
IsFaultOf words NoMemory = SpellsNoServe words

-- the words are exactly the one word `batch`
abbrev pub IsBatch : List (String Global) → Type 0
IsBatch words = map string_bytes words ≡ codes "batch" ∷ []

-- `batch` over the file at this path
abbrev pub IsBatchOver : List (String Global) → List ℕ → Type 0
IsBatchOver words path = SpellsBatchOver (map string_bytes words) path

-- `import` into the file at this path
abbrev pub IsImport : List (String Global) → List ℕ → Type 0
IsImport words path = SpellsImport (map string_bytes words) path

-- `audit` of the file at this path
abbrev pub IsAudit : List (String Global) → List ℕ → Type 0
IsAudit words path = SpellsAudit (map string_bytes words) path

-- `load` with this number of vouchers
abbrev pub IsLoad : List (String Global) → ℕ → Type 0
IsLoad words n = SpellsLoad (map string_bytes words) n

-- `serve` with the options of this service
abbrev pub IsServe : List (String Global) → Service → Type 0
IsServe words service = SpellsServe (map string_bytes words) service
