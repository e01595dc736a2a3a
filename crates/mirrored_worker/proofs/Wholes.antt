-- What a book selects where no moment is asked for is a generation of all that it covers.
use Rattle.std.proofs.Common.{◌≡◌, ℕ, ◌≤◌, List, ◌++◌, None, length, drop, filter, sym, ap, ◌∙◌, arith, length-take}
use Rattle.stock_nums.specs.declared.moment.Moment.{Moment}
use Rattle.std.specs.Prelude.{Option}
use Rattle.stock_model.specs.History.{records, accepted, covered, covered_records, IsLegal}
use Rattle.stock_model.specs.Masters.{heads}
use Rattle.stock_model.specs.Replay.{replay}
use Rattle.stock_model.specs.Reports.{is_until, selected}
use Rattle.stock_model.specs.declared.deeds.Deed.{Deed}
use Rattle.stock_model.specs.declared.queries.Query.{Query}
use Rattle.stock_model.specs.declared.queries.Selected.{Selected}
use Rattle.stock_model.specs.declared.records.Record.{Record}
use Rattle.turn_lock.specs.Histories.{BeginsWith}
use Rattle.turn_lock.proofs.Lists.{begins_is}
use Rattle.report_selection.proofs.Filters.{all-kept}
use Rattle.report_mirror.specs.Generations.{IsGeneration}

-- the records that are known and those that come after them are all
pub known-past : (known all : List Record) (count : ℕ) → BeginsWith all known → count ≡ length known → known ++ drop count all ≡ all
known-past known all count begins is = ap (λ (n : ℕ). known ++ drop n all) is ∙ sym (begins_is all known begins)

module _ (history : List Deed) (within : covered history ≤ accepted history) where
  pub length-covered_records : length (covered_records history) ≡ covered history
  length-covered_records = omega (arith, length-take (covered history) (records history), within)

  pub whole-generation : (query : Query) (whole : Selected) (all : List Record) → IsLegal history → query.until ≡ None
      → whole ≡ selected history query → all ≡ covered_records history → IsGeneration whole.covered.0 all whole.rows whole.heads
  unfolding selected
  whole-generation query whole all legal until is are =
      let count : whole.covered.0 ≡ covered history = ap (λ (s : Selected). s.covered.0) is in
      let kept = covered_records history in
      record {
        history = history;
        legal = legal;
        of_history = are;
        counted = count ∙ sym (ap length are ∙ length-covered_records);
        covers = count;
        valued =
            ap (λ (s : Selected). s.rows) is ∙ ap (λ (u : Option Moment). filter (is_until u) (replay kept)) until ∙ all-kept (replay kept)
            ∙ ap replay (sym are);
        named = ap (λ (s : Selected). s.heads) is ∙ ap heads (sym are);
      }
