-- What `load` prints, and how it ends.
use Rattle.std.specs.Prelude.{◌≡◌, ℕ, Option, None, List, ◌++◌, codes, decimal}
use Rattle.std.specs.Io.KnownBytes.{Appends}
use Rattle.stock_io.specs.Counts.{Rose}
use Rattle.stock_io.specs.Streams.{AppendsFront}
use Rattle.stock_model.specs.declared.deeds.Deed.{Deed}
use Rattle.stock_model.specs.declared.queries.Format.TheVariants.{Json}
use Rattle.stock_model.specs.declared.queries.Query.{Query}
use Rattle.stock_model.specs.declared.queries.Sheet.TheVariants.{Balance}
use Rattle.stock_model.specs.History.{accepted, covered}
use Rattle.stock_model.specs.InputLines.{lines_of}
use Rattle.stock_model.specs.Reports.{selected}
use Rattle.stock_model.specs.Sheets.{balance}
use Rattle.valuation_report.specs.BalanceSums.{sums_of}
use Rattle.valuation_report.specs.declared.balance_sums.BalanceSums.{BalanceSums}
use Rattle.repost_worker.specs.Paces.{Pace, first_pace}
use Rattle.load_script.specs.LoadScript.{load_script}
use Rattle.stock_batch.specs.Replies.{Answered}
use Rattle.stock_ends.specs.declared.end.End.{End}
use Rattle.stock_ends.specs.declared.end.End.TheVariants.{Done, NoMemory, WriteFailed}

-- the balance of all items and all warehouses at all moments
abbrev pub whole_balance : Query
whole_balance = record { sheet = Balance; need = record { 0 = 0 }; until = None; item = None; store = None; format = Json }

-- what its rows sum to
abbrev pub sums_at : List Deed → BalanceSums
sums_at history = sums_of (balance whole_balance (selected history whole_balance))

-- how many records are covered and accepted, and the sums
abbrev pub summary_by : ℕ → ℕ → BalanceSums → List ℕ
summary_by covered records sums =
    codes "{\"covered\":" ++ (decimal covered ++ (codes ",\"records\":" ++ (decimal records
    ++ (codes ",\"stock\":" ++ (decimal sums.stock ++ (codes ",\"worth\":" ++ (decimal sums.worth ++ codes "}\n")))))))

-- the line that is printed
abbrev pub summary_text : List Deed → List ℕ
summary_text history = summary_by (covered history) (accepted history) (sums_at history)

-- the lines of this input have answers, which lead to this state of the book
abbrev pub LeadsBy : List ℕ → Pace → Type 0
LeadsBy input last = (text : List ℕ) × Answered first_pace (lines_of input) text last

-- the script of so many vouchers leads to it
abbrev pub Leads : ℕ → Pace → Type 0
Leads n last = LeadsBy (load_script n) last

-- the text is the summary of the state to which the script leads
abbrev pub IsSummaryOf : ℕ → List ℕ → Type 0
IsSummaryOf n text = (last : Pace) × Leads n last × (text ≡ summary_text last.history)

-- the summary was written
pub record IsSummed {O : Type 0} (written : O → Option (List ℕ)) (faults : O → ℕ) (before after : O) (n : ℕ) : Type 0 where
  pub text : List ℕ
  pub summary : IsSummaryOf n text
  pub wrote : Appends (written before) (written after) text
  pub faults_kept : faults after ≡ faults before

-- a front of it was
pub record IsCutShort {O : Type 0} (written : O → Option (List ℕ)) (faults : O → ℕ) (before after : O) (n : ℕ) : Type 0 where
  pub text : List ℕ
  pub summary : IsSummaryOf n text
  pub wrote : AppendsFront (written before) (written after) text
  pub cause : Rose (faults before) (faults after)

-- how a load ends, and what it wrote then
abbrev pub IsLoaded : {O : Type 0} → (O → Option (List ℕ)) → (O → ℕ) → O → O → ℕ → End → Type 0
IsLoaded written faults before after n Done = IsSummed written faults before after n
IsLoaded written faults before after n NoMemory = after ≡ before
IsLoaded written faults before after n WriteFailed = IsCutShort written faults before after n
IsLoaded written faults before after n end = ⊥
