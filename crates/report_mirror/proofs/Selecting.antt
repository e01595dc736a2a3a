-- What a report is made from is given by the records that are covered.
use Rattle.std.proofs.Common.{◌≡◌, List, filter, ap, ◌∙◌}
use Rattle.stock_nums.specs.declared.entry.Row.{Row}
use Rattle.stock_nums.specs.declared.head.Head.{Head}
use Rattle.stock_nums.specs.declared.numbers.RecordNo.{RecordNo}
use Rattle.stock_model.specs.Masters.{heads}
use Rattle.stock_model.specs.Replay.{replay}
use Rattle.stock_model.specs.Reports.{is_until, selected, IsSelected}
use Rattle.stock_model.specs.declared.queries.Query.{Query}
use Rattle.stock_model.specs.declared.records.Record.{Record}
use Rattle.report_mirror.specs.Generations.{IsGeneration}

module _ (count : RecordNo) (records : List Record) (rows front : List Row) (masters : List Head) (query : Query)
    (is : IsGeneration count.0 records rows masters) (kept : front ≡ filter (is_until query.until) rows) where
  -- it is what the book selects
  pub of-book : IsSelected query (record { covered = count; rows = front; heads = masters })
  unfolding selected
  of-book =
      record {
        history = is.history;
        legal = is.legal;
        is = λ i. record {
          covered = record { 0 = is.covers i };
          rows = (kept ∙ ap (filter (is_until query.until)) (is.valued ∙ ap replay is.of_history)) i;
          heads = (is.named ∙ ap heads is.of_history) i;
        };
      }
