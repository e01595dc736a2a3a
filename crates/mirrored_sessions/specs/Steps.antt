-- What a desk does for its peer, where a report may be read from a mirror: a generation that was published, beside the book.
use Rattle.std.specs.Prelude.{ℕ, ◌≤◌, max, List, [], ◌∷◌, filter, length, Result, Ok}
use Rattle.stock_model.specs.Masters.{heads}
use Rattle.stock_model.specs.Replay.{replay}
use Rattle.stock_model.specs.Reports.{is_until, need_of}
use Rattle.stock_model.specs.declared.answers.Answer.{Answer}
use Rattle.stock_model.specs.declared.answers.Answer.TheVariants.{Told, Shown}
use Rattle.stock_model.specs.declared.queries.Query.{Query}
use Rattle.stock_model.specs.declared.queries.Selected.{Selected}
use Rattle.stock_model.specs.declared.read_faults.ReadFault.{ReadFault}
use Rattle.stock_model.specs.declared.records.Record.{Record}
use Rattle.stock_model.specs.declared.replies.Reply.TheVariants.{Pending}
use Rattle.stock_model.specs.declared.requests.Request.{Request}
use Rattle.stock_model.specs.declared.requests.Request.TheVariants.{Report}
use Rattle.turn_lock.specs.Histories.{BeginsWith}
use Rattle.session_laws.specs.Exchanges.{Exchange}

-- what a report is made from where these records are covered: their replay up to the last moment that is asked for, and their items and
-- warehouses
abbrev pub selected_of : List Record → Query → Selected
selected_of records query =
    record {
      covered = record { 0 = length records };
      rows = filter (is_until query.until) (replay records);
      heads = heads records;
    }

-- a report that was read from the mirror, and the records that the generation covers which stood there
pub record Reading : Type 0 where
  pub query : Query
  pub records : List Record

-- an exchange as without a mirror, or a report that was read from it
pub data Step : Type 0 where
  Turned : Exchange → Step
  Read : Reading → Step

abbrev pub turned_step : Exchange → Step
turned_step exchange = Turned exchange

abbrev pub reading_step : Query → List Record → Step
reading_step query records = Read (record { query = query; records = records })

-- what was asked
abbrev pub asked_in : Step → Result Request ReadFault
asked_in (Turned exchange) = exchange.asked
asked_in (Read reading) = Ok (Report reading.query)

-- and what was answered
abbrev pub answer_in : Step → Answer
answer_in (Turned exchange) = exchange.answer
answer_in (Read reading) = Shown reading.query (selected_of reading.records reading.query)

-- the exchanges alone, of which the lock knows
abbrev pub turned_in : List Step → List Exchange
turned_in [] = []
turned_in (Turned exchange ∷ steps) = exchange ∷ turned_in steps
turned_in (Read reading ∷ steps) = turned_in steps

-- how many records the answer says to be covered, 0 where it says nothing of it
abbrev pub printed_in : Answer → ℕ
printed_in (Shown query chosen) = chosen.covered.0
printed_in (Told (Pending covered wanted) heads) = covered.0
printed_in (Told reply heads) = 0

-- the most that any of the answers says, where so many were said before
abbrev pub printed_after : ℕ → List Step → ℕ
printed_after printed [] = printed
printed_after printed (step ∷ steps) = printed_after (max printed (printed_in (answer_in step))) steps

-- what was read from the mirror was published: these records begin with it; and it covers the record that the report has to cover
abbrev pub IsReading : List Record → Step → Type 0
IsReading published (Turned exchange) = Unit {0}
IsReading published (Read reading) = BeginsWith published reading.records × ((need_of reading.query).0 ≤ length reading.records)

-- no report from the mirror covers less than an answer before it said
abbrev pub AreNoFewer : ℕ → List Step → Type 0
AreNoFewer printed [] = Unit {0}
AreNoFewer printed (Turned exchange ∷ steps) = AreNoFewer (max printed (printed_in exchange.answer)) steps
AreNoFewer printed (Read reading ∷ steps) =
    (printed ≤ length reading.records) × AreNoFewer (max printed (length reading.records)) steps
