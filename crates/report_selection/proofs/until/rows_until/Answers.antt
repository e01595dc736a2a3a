-- The rows of a replay stand in posting order, so those up to a moment come first; with no moment all are kept.
use Rattle.std.proofs.Common.{◌≡◌, List, Option, Some, IfOk, filter, sym, ap, ◌∙◌, subst}
use Rattle.std.specs.List.Sorted.{IsPartitionedBy}
use Rattle.stock_nums.specs.declared.entry.Row.{Row}
use Rattle.stock_nums.specs.declared.moment.Moment.{Moment}
use Rattle.stock_model.specs.Reports.{is_until}
use Rattle.stock_laws.proofs.Until.{until-order}
use Rattle.report_selection.proofs.Filters.{all-kept, partitioned}
use Rattle.report_selection.proofs.until.rows_until.Goals as goal

pub count_until-requires : goal.count_until-requires
count_until-requires c =
    let asked = Some c.in-Some.until in
    subst (IsPartitionedBy (is_until asked)) (sym c.requires.1) (partitioned (is_until asked) _ (until-order c.requires.0 asked))

pub returns-in-None : goal.returns-in-None
returns-in-None c =
    let rows = c.args.rows.now in
    let all : rows ≡ filter (is_until c.args.until) rows =
    sym (all-kept rows) ∙ ap (λ (asked : Option Moment). filter (is_until asked) rows) (sym c.in-None.is) in
    subst (λ (kept : List Row). IfOk c.share.result (λ front. front ≡ kept)) all c.share.ensures
