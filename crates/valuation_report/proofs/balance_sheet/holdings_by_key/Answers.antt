-- A row that is asked for fits, and is taken into account in what is held of its key.
use Rattle.std.proofs.Common.{List, filter, ◌+◌, sym, ap, ◌∙◌, subst}
use Rattle.std.proofs.lemmas.List.{take_all}
use Rattle.stock_nums.specs.declared.entry.Row.{Row}
use Rattle.stock_model.specs.Sheets.{is_asked_key}
use Rattle.valuation_report.specs.Grouping.{IsHeldByKey, is_asked_row}
use Rattle.valuation_report.proofs.HeldByKey.{room-by_key, held-more, held-same}
use Rattle.stock_laws.proofs.Walks.{at_next, at_end}
use Rattle.valuation_report.proofs.balance_sheet.holdings_by_key.Goals as goal

pub add_row-requires : goal.add_row-requires
add_row-requires c =
    let rows = c.args.rows.now in
    let seen = c.loop-row.invariant.0 in
    let row = c.in-Some.row.now in
    let next = at_next rows c.loop-row.row-iterator c.next.new.self seen row c.loop-row.invariant.1 c.in-Some.ensures.steps in
    room-by_key c.args.query.now c.args.heads.now rows c.requires.held c.loop-row.by_key seen row c.entry_key-key.result next.0 next.1
    (sym c.is_wanted.ensures ∙ c.if-is_wanted.true) c.entry_key-key.ensures c.loop-row.invariant.2

pub loop-row-preserved-in-Continue-1 : goal.loop-row-preserved-in-Continue-1
loop-row-preserved-in-Continue-1 c =
    let query = c.args.query.now in
    let heads = c.args.heads.now in
    let rows = c.args.rows.now in
    let seen = c.loop-row.invariant.0 in
    let row = c.in-Some.row.now in
    let next = at_next rows c.loop-row.row-iterator c.next.new.self seen row c.loop-row.invariant.1 c.in-Some.ensures.steps in
    let tested = sym (c.is_wanted.ensures ∙ ap (is_asked_key query heads) c.entry_key-key.ensures) in (
      seen + 1,
      next.2,
      held-more query heads rows c.requires.held c.loop-row.by_key _ seen row c.entry_key-key.result next.0 next.1 (tested ∙ c.if-is_wanted.true)
          c.entry_key-key.ensures c.loop-row.invariant.2 c.in_ok-add_row.ensures,
    )

pub loop-row-preserved : goal.loop-row-preserved
loop-row-preserved c =
    let query = c.args.query.now in
    let heads = c.args.heads.now in
    let rows = c.args.rows.now in
    let seen = c.loop-row.invariant.0 in
    let row = c.in-Some.row.now in
    let next = at_next rows c.loop-row.row-iterator c.next.new.self seen row c.loop-row.invariant.1 c.in-Some.ensures.steps in
    let tested = sym (c.is_wanted.ensures ∙ ap (is_asked_key query heads) c.entry_key-key.ensures) in (
      seen + 1,
      next.2,
      held-same query heads rows c.requires.held c.loop-row.by_key seen row next.0 next.1 (tested ∙ c.if-is_wanted.false) c.loop-row.invariant.2,
    )

pub returns : goal.returns
returns c =
    let rows = c.args.rows.now in
    let seen = c.loop-row.invariant.0 in
    subst (λ (all : List Row). IsHeldByKey c.loop-row.by_key (filter (is_asked_row c.args.query.now c.args.heads.now) all))
    (take_all seen rows (at_end rows c.loop-row.row-iterator seen c.loop-row.invariant.1 c.in-None.ensures.steps.0)) c.loop-row.invariant.2
