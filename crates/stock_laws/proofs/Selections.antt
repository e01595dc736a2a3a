-- What is selected from a book is the first rows of a legal journal's replay, with the journal's heads.
use Rattle.std.proofs.Common.{◌≡◌, ℕ, List, take, filter, Option, sum_by, refl, sym, ◌∙◌, subst, arith}
use Rattle.stock_nums.specs.declared.entry.Key.{Key}
use Rattle.stock_nums.specs.declared.moment.Moment.{Moment}
use Rattle.stock_model.specs.declared.queries.Query.{Query}
use Rattle.stock_model.specs.declared.queries.Selected.{Selected}
use Rattle.stock_model.specs.declared.records.Record.{Record}
use Rattle.stock_model.specs.Bounds.{AreBounded}
use Rattle.stock_model.specs.History.{covered, covered_records, records}
use Rattle.stock_model.specs.Journals.{AreLegal}
use Rattle.stock_model.specs.Layers.{formula_at, layer_rows, shown_value}
use Rattle.stock_model.specs.Masters.{heads}
use Rattle.stock_model.specs.PostingOrder.{posting_line}
use Rattle.stock_model.specs.Replay.{rows_of, replay}
use Rattle.stock_model.specs.Reports.{is_until, selected, IsSelected}
use Rattle.stock_model.specs.Sums.{stock_value}
use Rattle.stock_laws.proofs.Formulas.{posting_line-formula}
use Rattle.stock_laws.proofs.LayersLeft.{value-by, formula_at-is}
use Rattle.stock_laws.proofs.Legality.{AreLegal-history, AreLegal-take}
use Rattle.stock_laws.proofs.LegalReplay.{IsLegalLine-journal, AreBounded-first_rows}
use Rattle.stock_laws.proofs.Until.{filter-front, until-order}
use Rattle.stock_laws.proofs.Valuation.{Kept, Kept-take, rows_of-take}

-- so many first rows of the replay of a legal journal, and the journal's heads
pub record IsOfJournal (chosen : Selected) : Type 0 where
  pub journal : List Record
  pub legal : AreLegal journal
  pub count : ℕ
  pub rows : chosen.rows ≡ rows_of journal (take count (posting_line journal))
  pub heads : chosen.heads ≡ heads journal

-- the movements up to a moment are the first ones
until-first : (journal : List Record) (until : Option Moment) → (n : ℕ) × (filter (is_until until) (replay journal) ≡ rows_of journal (take n (posting_line journal)))
unfolding replay
until-first journal until =
    let line = posting_line journal in
    let front = filter-front (is_until until) (rows_of journal line) (until-order journal until) in
    (front.0, front.1 ∙ rows_of-take journal line front.0)

-- what is selected from a book is so, of the records that its reports cover
pub IsOfJournal-selected : (query : Query) (chosen : Selected) → IsSelected query chosen → IsOfJournal chosen
unfolding selected
IsOfJournal-selected query chosen of =
    let journal = covered_records of.history in
    let first = until-first journal query.until in
    let own : IsOfJournal (selected of.history query) =
    record {
      journal = journal;
      legal = AreLegal-take (records of.history) (covered of.history) (AreLegal-history of.history of.legal);
      count = first.0;
      rows = first.1;
      heads = refl;
    } in
    subst IsOfJournal (sym of.is) own

-- such rows are kept: value is conserved, and units left by their item's formula
pub Kept-chosen : (chosen : Selected) (of : IsOfJournal chosen) → Kept (posting_line-formula of.journal).0 of.journal chosen.rows
Kept-chosen chosen of =
    let formula = (posting_line-formula of.journal).0 in
    subst (Kept formula of.journal) (sym of.rows) (Kept-take formula of.journal (posting_line of.journal) of.count (IsLegalLine-journal of.journal of.legal))

-- and bounded
pub chosen-bounded : (query : Query) (chosen : Selected) → IsSelected query chosen → AreBounded chosen.rows
chosen-bounded query chosen from =
    let of = IsOfJournal-selected query chosen from in
    subst AreBounded (sym of.rows) (AreBounded-first_rows of.journal of.count of.legal)

-- the layers of an item in a warehouse are together worth what it is worth there
pub chosen-layers : (query : Query) (chosen : Selected) (key : Key) → IsSelected query chosen → sum_by shown_value (layer_rows chosen.heads chosen.rows key) ≡ stock_value chosen.rows key
chosen-layers query chosen key from =
    let of = IsOfJournal-selected query chosen from in
    let formula = (posting_line-formula of.journal).0 in
    let costed = (Kept-chosen chosen of).costed in
    let rows = chosen.rows in
    omega (arith, value-by formula (formula_at rows key) chosen.heads rows key costed (formula_at-is formula rows key costed.formulas), costed.covered key)
