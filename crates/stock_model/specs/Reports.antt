-- What a report is answered at a point of the history: a function of the history and the request.
use Rattle.std.specs.Prelude.{ℕ, ◌≡◌, max, Bool, true, not, List, [], filter, nat_le, if◌then◌else◌, Option, Some, None}
use Rattle.stock_nums.specs.Places.{is_later}
use Rattle.stock_nums.specs.declared.entry.Row.{Row}
use Rattle.stock_nums.specs.declared.moment.Moment.{Moment}
use Rattle.stock_nums.specs.declared.numbers.RecordNo.{RecordNo}
use Rattle.stock_model.specs.declared.deeds.Deed.{Deed}
use Rattle.stock_model.specs.declared.queries.Query.{Query}
use Rattle.stock_model.specs.declared.queries.Sheet.{Sheet}
use Rattle.stock_model.specs.declared.queries.Sheet.TheVariants as sheet
use Rattle.stock_model.specs.declared.queries.Selected.{Selected}
use Rattle.stock_model.specs.declared.queries.Need.{Need}
use Rattle.stock_model.specs.declared.queries.Need.TheVariants as need
use Rattle.stock_model.specs.declared.queries.SelectFault.{SelectFault}
use Rattle.stock_model.specs.declared.queries.SelectFault.TheVariants as unmet
use Rattle.stock_model.specs.declared.answers.Answer.{Answer}
use Rattle.stock_model.specs.declared.answers.Answer.TheVariants.{Told, Shown}
use Rattle.stock_model.specs.declared.replies.Reply.TheVariants.{Pending, NoSuchRecord}
use Rattle.stock_model.specs.Masters.{heads}
use Rattle.stock_model.specs.Replay.{replay}
use Rattle.stock_model.specs.History.{accepted, covered, covered_records, IsLegal}

-- the movement's moment is not after this one, where there is one
abbrev pub is_until : Option Moment → Row → Bool
is_until None row = true
is_until (Some until) row = not (is_later row.entry.place.moment until)

-- what a report is made from: the replay of the covered records up to the last moment that is asked for, and the
-- items and warehouses of these records
unfoldable pub selected : List Deed → Query → Selected
selected history query =
    record {
      covered = record { 0 = covered history };
      rows = filter (is_until query.until) (replay (covered_records history));
      heads = heads (covered_records history);
    }

-- the record that a sheet shows, 0 for none
abbrev pub record_shown : Sheet → ℕ
record_shown (sheet.Voucher voucher) = voucher.0
record_shown _ = 0

-- the record that a report has to cover, 0 for none: the greater of the one that is asked for and the one that is shown
abbrev pub need_of : Query → RecordNo
need_of query = record { 0 = max query.need.0 (record_shown query.sheet) }

-- whether the reports cover the record that this one has to cover: it is covered, or accepted and not covered yet,
-- or not accepted
abbrev pub need_at : List Deed → Query → Need
need_at history query =
    if nat_le (need_of query).0 (covered history) then need.Ready
    else (if nat_le (need_of query).0 (accepted history)
    then need.Pending (record { 0 = covered history }) (need_of query)
    else need.NoSuchRecord (record { 0 = accepted history }) (need_of query))

-- why nothing is selected where the need isn't met
abbrev pub unmet_need : Need → Option SelectFault
unmet_need need.Ready = None
unmet_need (need.Pending covered wanted) = Some (unmet.Pending covered wanted)
unmet_need (need.NoSuchRecord accepted wanted) = Some (unmet.NoSuchRecord accepted wanted)

-- the answer to a report whose need is so met
abbrev pub report_by : Need → List Deed → Query → Answer
report_by need.Ready history query = Shown query (selected history query)
report_by (need.Pending covered wanted) history query = Told (Pending covered wanted) []
report_by (need.NoSuchRecord accepted wanted) history query = Told (NoSuchRecord accepted wanted) []

-- the answer to a report
abbrev pub report : List Deed → Query → Answer
report history query = report_by (need_at history query) history query

-- this was selected for the query, from a book with a legal history
pub record IsSelected (query : Query) (chosen : Selected) : Type 0 where
  pub history : List Deed
  pub legal : IsLegal history
  pub is : chosen ≡ selected history query
