-- The report that a desk showed last, of which it keeps the response.
use Rattle.std.specs.Prelude.{ℕ, ◌≡◌, ◌⊎◌, Bool, false, List, Option, Some, None, length}
use Rattle.stock_model.specs.declared.answers.Answer.TheVariants.{Shown}
use Rattle.stock_model.specs.declared.queries.Query.{Query}
use Rattle.stock_model.specs.declared.records.Record.{Record}
use Rattle.turn_lock.specs.Histories.{BeginsWith}
use Rattle.mirrored_sessions.specs.Steps.{selected_of}
use Rattle.desk_server.specs.Responses.{response_to}
use Rattle.desk_server.specs.declared.responding.Response.{Response}
use Rattle.desk_server.specs.declared.responding.Response.TheVariants.{Text, NoMemory}
use Rattle.mirrored_desk.specs.declared.last_report.LastReport.{LastReport}

-- these records were read from the mirror, and the response is the one to the report of them
pub record IsReport (records : List Record) (last : LastReport) : Type 0 where
  pub covers : last.covered.0 ≡ length records
  pub response_is : last.response ≡ response_to (Shown last.query (selected_of records last.query)) false

-- what was read last begins with the records of the report that is kept, if one is
abbrev pub IsKept : List Record → Option LastReport → Type 0
IsKept read None = Unit {0}
IsKept read (Some last) = (records : List Record) × BeginsWith read records × IsReport records last

-- the report that is kept was asked by this query of so many records, and this is its response to a request that doesn't ask to close
abbrev pub IsRepeated : Option LastReport → Query → ℕ → Bool → Response → Type 0
IsRepeated None query covered close response = ⊥
IsRepeated (Some last) query covered close response =
    (last.query ≡ query) × (last.covered.0 ≡ covered) × (close ≡ false) × ((response ≡ Text last.response) ⊎ (response ≡ NoMemory false))
