-- The words of `serve`: its options, each at most once, in any order.
use Rattle.std.specs.Prelude.{ℕ, ◌≡◌, ◌≢◌, ◌⊎◌, ◌≤◌, ◌^◌, ◌-◌, Option, Some, None, List, [], ◌∷◌, ◌++◌, codes}
use Rattle.std.specs.Option.{option_map}
use Rattle.stock_nums.specs.declared.limits.TheConstants.{MAX_DESK}
use Rattle.stock_words.specs.NumberWords.{IsNumber}
use Rattle.stock_words.specs.Paths.{IsPath}
use Rattle.stock_words.specs.declared.serve_words.Name.{Name}
use Rattle.stock_words.specs.declared.serve_words.Name.TheVariants.{File, Port, Desks, Connections, Idle}
use Rattle.stock_words.specs.declared.serve_words.Options.{Options}
use Rattle.stock_words.specs.declared.serve_words.ServeWords.{ServeWords}
use Rattle.stock_words.specs.declared.serve_words.TheConstants.{MAX_PORT, MAX_CONNECTIONS, MAX_IDLE}

abbrev pub option_text : Name → List ℕ
option_text File = codes "--file"
option_text Port = codes "--port"
option_text Desks = codes "--desks"
option_text Connections = codes "--connections"
option_text Idle = codes "--idle"

-- an option and its value
abbrev pub Setting : Type 0
Setting = Name × List ℕ

-- the words begin with this option, as two words or as one, and these come behind it
abbrev pub BeginsWithSetting : List (List ℕ) → Setting → List (List ℕ) → Type 0
BeginsWithSetting words setting rest =
    ((words ≡ option_text setting.0 ∷ setting.1 ∷ rest) × IsPath setting.1)
    ⊎ ((words ≡ (option_text setting.0 ++ (codes "=" ++ setting.1)) ∷ rest) × (setting.1 ≢ []))

-- the words do not begin with this option, or with any
abbrev pub IsNotFirst : List (List ℕ) → Name → Type 0
IsNotFirst words name = (value : List ℕ) (rest : List (List ℕ)) → BeginsWithSetting words (name, value) rest → ⊥

abbrev pub BeginsWithNone : List (List ℕ) → Type 0
BeginsWithNone words = (setting : Setting) (rest : List (List ℕ)) → BeginsWithSetting words setting rest → ⊥

-- the words are these options
abbrev pub SpellsSettings : List (List ℕ) → List Setting → Type 0
SpellsSettings words [] = words ≡ []
SpellsSettings words (setting ∷ settings) =
    (rest : List (List ℕ)) × BeginsWithSetting words setting rest × SpellsSettings rest settings

-- the values of the options that were given
pub record Given : Type 0 where
  pub file : Option (List ℕ)
  pub port : Option (List ℕ)
  pub desks : Option (List ℕ)
  pub connections : Option (List ℕ)
  pub idle : Option (List ℕ)

abbrev pub none_given : Given
none_given = record { file = None; port = None; desks = None; connections = None; idle = None }

abbrev pub value_of : Name → Given → Option (List ℕ)
value_of File given = given.file
value_of Port given = given.port
value_of Desks given = given.desks
value_of Connections given = given.connections
value_of Idle given = given.idle

abbrev pub with_value : Setting → Given → Given
with_value (File, value) given = record given { file = Some value }
with_value (Port, value) given = record given { port = Some value }
with_value (Desks, value) given = record given { desks = Some value }
with_value (Connections, value) given = record given { connections = Some value }
with_value (Idle, value) given = record given { idle = Some value }

-- with these options, none of which is given twice
abbrev pub Gives : List Setting → Given → Given → Type 0
Gives [] before after = after ≡ before
Gives (setting ∷ settings) before after = (value_of setting.0 before ≡ None) × Gives settings (with_value setting before) after

-- the words are options, and with them these values are given
abbrev pub SpellsGiven : List (List ℕ) → Given → Given → Type 0
SpellsGiven words before after = (settings : List Setting) × SpellsSettings words settings × Gives settings before after

abbrev pub SpellsNotGiven : List (List ℕ) → Given → Type 0
SpellsNotGiven words before = (after : Given) → SpellsGiven words before after → ⊥

-- what a service is asked for: the path of its ledger, its port, how many desks and how many connections, and after how many seconds a
-- silent peer is ended, if that is limited
pub record Service : Type 0 where
  pub path : List ℕ
  pub port : ℕ
  pub desks : ℕ
  pub connections : ℕ
  pub idle : Option ℕ

-- a value tells this number, from 1 to the greatest
abbrev pub TellsNumber : ℕ → Option (List ℕ) → ℕ → Type 0
TellsNumber most None n = ⊥
TellsNumber most (Some word) n = IsNumber most word n

-- as many connections as desks where none are told, else so many, and no fewer than desks
abbrev pub TellsConnections : Option (List ℕ) → ℕ → ℕ → Type 0
TellsConnections None desks connections = connections ≡ desks
TellsConnections (Some word) desks connections = IsNumber MAX_CONNECTIONS word connections × (desks ≤ connections)

-- a limit is told, or none
abbrev pub TellsIdle : Option (List ℕ) → Option ℕ → Type 0
TellsIdle None None = Unit {0}
TellsIdle (Some word) (Some seconds) = IsNumber MAX_IDLE word seconds
TellsIdle _ _ = ⊥

-- the values ask for this service
pub record Means (given : Given) (service : Service) : Type 0 where
  pub path : given.file ≡ Some service.path
  pub port : TellsNumber MAX_PORT given.port service.port
  pub desks : TellsNumber MAX_DESK given.desks service.desks
  pub connections : TellsConnections given.connections service.desks service.connections
  pub idle : TellsIdle given.idle service.idle

abbrev pub MeansNothing : Given → Type 0
MeansNothing given = (service : Service) → Means given service → ⊥

-- the words are `serve` and such options
pub record SpellsServe (words : List (List ℕ)) (service : Service) : Type 0 where
  pub options : List (List ℕ)
  pub given : Given
  pub command : words ≡ codes "serve" ∷ options
  pub spelled : SpellsGiven options none_given given
  pub means : Means given service

-- the words are none of a service
abbrev pub SpellsNoService : List (List ℕ) → Type 0
SpellsNoService words = (service : Service) → SpellsServe words service → ⊥

-- what the program makes of them
abbrev pub given_of : Options → Given
given_of options = record {
  file = option_map (λ value. value.now) options.file;
  port = option_map (λ value. value.now) options.port;
  desks = option_map (λ value. value.now) options.desks;
  connections = option_map (λ value. value.now) options.connections;
  idle = option_map (λ value. value.now) options.idle;
}

abbrev pub service_of : ServeWords → Service
service_of asked =
    record { path = asked.path.now; port = asked.port; desks = asked.desks; connections = asked.connections; idle = asked.idle }
