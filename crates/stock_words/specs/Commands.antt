-- The commands `batch`, `import`, `audit` and `load` as the kit's parser of words holds them, and what it finds by them.
use Rattle.std.specs.Prelude.{◌≡◌, ◌≢◌, ◌⊎◌, ℕ, true, List, Option, None, Some, codes}
use Rattle.clap.specs.Words.{App, Row, Rule, Text, first_of, new_app, new_rule, with_rule, with_subcommand}
use Rattle.clap.specs.Simple.{on_top}
use Rattle.stock_words.specs.declared.words.Asked.{Asked}
use Rattle.stock_words.specs.declared.words.Asked.TheVariants.{Batch, BatchOver, ImportInto, AuditOf, Load}
use Rattle.stock_words.specs.Words.{IsCount, IsNoCount}

-- `--file` with a value
abbrev pub file_option : Rule
file_option = record (new_rule (codes "file")) { long = Some (codes "file") }

-- a command with this name, and with `--file`
abbrev pub file_command : List ℕ → App
file_command name = with_rule (new_app name) file_option

-- the number of vouchers, by its place
abbrev pub load_command : App
load_command = with_rule (new_app (codes "load")) (new_rule (codes "count"))

-- the program, whose name is none of the words
abbrev pub program : App
program = with_subcommand (with_subcommand (with_subcommand (with_subcommand (on_top (λ s. record s { no_binary_name = true }) (new_app (codes "stockd")))
    (file_command (codes "batch")).top) (file_command (codes "import")).top) (file_command (codes "audit")).top) load_command.top

-- what was found of the command `batch` asks for this
abbrev pub IsBatchFor : List Row → Asked → Type 0
IsBatchFor rows Batch = first_of (codes "file") rows ≡ None
IsBatchFor rows (BatchOver path) = first_of (codes "file") rows ≡ Some path.now
IsBatchFor rows asked = ⊥

-- what was found of the command `import` asks for this
abbrev pub IsImportFor : List Row → Asked → Type 0
IsImportFor rows (ImportInto path) = first_of (codes "file") rows ≡ Some path.now
IsImportFor rows asked = ⊥

-- what was found of the command `audit` asks for this
abbrev pub IsAuditFor : List Row → Asked → Type 0
IsAuditFor rows (AuditOf path) = first_of (codes "file") rows ≡ Some path.now
IsAuditFor rows asked = ⊥

-- no file is named
abbrev pub IsFileForNothing : List Row → Type 0
IsFileForNothing rows = first_of (codes "file") rows ≡ None

-- what was found of the command `load` asks for this
abbrev pub IsLoadFor : List Row → Asked → Type 0
IsLoadFor rows (Load n) = (word : List ℕ) × (first_of (codes "count") rows ≡ Some word) × IsCount word n
IsLoadFor rows asked = ⊥

-- it is no number of vouchers
abbrev pub IsLoadForNothing : List Row → Type 0
IsLoadForNothing rows = (word : List ℕ) → first_of (codes "count") rows ≡ Some word → IsNoCount word

-- a command was found, and asks for this
abbrev pub AsksFor : Option (Text × List Row) → Asked → Type 0
AsksFor None asked = ⊥
AsksFor (Some (name, rows)) asked = ((name ≡ codes "batch") × IsBatchFor rows asked)
    ⊎ ((name ≡ codes "import") × IsImportFor rows asked) ⊎ ((name ≡ codes "audit") × IsAuditFor rows asked)
    ⊎ ((name ≡ codes "load") × IsLoadFor rows asked)

-- no command was found that is known, and asks for something
abbrev pub AsksForNothing : Option (Text × List Row) → Type 0
AsksForNothing None = Unit {0}
AsksForNothing (Some (name, rows)) = (name ≢ codes "batch") × (name ≡ codes "import" → IsFileForNothing rows)
    × (name ≡ codes "audit" → IsFileForNothing rows) × (name ≡ codes "load" → IsLoadForNothing rows)
