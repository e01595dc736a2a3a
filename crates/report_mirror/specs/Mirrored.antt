-- What a mirror shows, and what its readers know of it.
use Rattle.std.specs.Prelude.{ℕ, ◌≡◌, ◌<◌, ◌≤◌, max, List, length}
use mathlib.Core.Option.{some}
use lib.ListN.{get_elem?}
use Rattle.turn_lock.specs.Histories.{BeginsWith}
use Rattle.stock_model.specs.Reports.{need_of, IsSelected}
use Rattle.stock_model.specs.declared.queries.Query.{Query}
use Rattle.stock_model.specs.declared.records.Record.{Record}
use Rattle.mirrored_sessions.specs.Steps.{selected_of}
use Rattle.report_mirror.specs.declared.reader.Mirrored.{Mirrored}
use Rattle.report_mirror.specs.declared.reader.Mirrored.TheVariants.{Behind, Report}
use Rattle.report_mirror.specs.declared.shown.Seen.{Seen}

-- the generation that is shown begins with what each reader has seen
abbrev pub AllBeginnings : List Record → List Seen → Type 0
AllBeginnings shown views = (seat : ℕ) (seen : Seen) → get_elem? views seat ≡ some seen → BeginsWith shown seen.records

-- who had seen this meets one that begins with it, and has seen the one that is shown then
abbrev pub Sees : Seen → List Record → List Record → Seen → Type 0
Sees seen before now seen' = BeginsWith before seen.records × (seen'.records ≡ now)

-- so many records a report has to cover: the one that it asks for or shows, and no fewer than these
abbrev pub wanted : Query → ℕ → ℕ
wanted query least = max (need_of query).0 least

-- what is found for a report in a generation of these records: that it covers too few, or what the report is made from
abbrev pub IsMirrored : List Record → Query → ℕ → Mirrored → Type 0
IsMirrored read query least (Behind covered) = (covered.0 ≡ length read) × (length read < wanted query least)
IsMirrored read query least (Report chosen) =
    (wanted query least ≤ length read) × (chosen ≡ selected_of read query) × IsSelected query chosen
