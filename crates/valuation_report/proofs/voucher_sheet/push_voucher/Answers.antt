-- A movement of the record has its pieces, and one of another has none.
use Rattle.std.proofs.Common.{◌≡◌, true, ◌+◌, sym, subst, rules}
use Rattle.std.proofs.lemmas.List.Sums.{AllPass-from_list_all}
use Rattle.stock_nums.specs.declared.entry.Row.{Row}
use Rattle.stock_model.specs.Books.{has_lines}
use Rattle.valuation_report.proofs.PiecesSoFar.{no_piece}
use Rattle.valuation_report.proofs.RecordPieces.{of_record, of_other, of_all}
use Rattle.stock_laws.proofs.Walks.{at_next, at_end}
use Rattle.valuation_report.proofs.voucher_sheet.push_voucher.Goals as goal

pub loop-row-init : goal.loop-row-init
loop-row-init c = (0, search rules, no_piece c.args.text.now.items)

pub push_movement-requires-clause-lines : goal.push_movement-requires-clause-lines
push_movement-requires-clause-lines c =
    let rows = c.args.rows.now in
    let seen = c.loop-row.invariant.0 in
    let row = c.in-Some.row.now in
    let next = at_next rows c.loop-row.row-iterator c.next.new.self seen row c.loop-row.invariant.1 c.in-Some.ensures.steps in
    subst (λ (row : Row). has_lines row ≡ true) (sym next.1) (AllPass-from_list_all has_lines rows c.requires.lines seen row next.0)

pub loop-row-preserved-in-Continue-1 : goal.loop-row-preserved-in-Continue-1
loop-row-preserved-in-Continue-1 c =
    let rows = c.args.rows.now in
    let seen = c.loop-row.invariant.0 in
    let row = c.in-Some.row.now in
    let next = at_next rows c.loop-row.row-iterator c.next.new.self seen row c.loop-row.invariant.1 c.in-Some.ensures.steps in (
      seen + 1,
      next.2,
      of_record c.args.format c.args.number.0 c.args.heads.now rows seen row next.0 next.1 c.if-row-number.true c.loop-row.invariant.2
          c.in_ok-push_movement.ensures,
    )

pub loop-row-preserved : goal.loop-row-preserved
loop-row-preserved c =
    let rows = c.args.rows.now in
    let seen = c.loop-row.invariant.0 in
    let row = c.in-Some.row.now in
    let next = at_next rows c.loop-row.row-iterator c.next.new.self seen row c.loop-row.invariant.1 c.in-Some.ensures.steps in (
      seen + 1,
      next.2,
      of_other c.args.format c.args.number.0 c.args.heads.now rows seen row next.0 next.1 c.if-row-number.false c.loop-row.invariant.2,
    )

pub returns : goal.returns
returns c =
    let rows = c.args.rows.now in
    let seen = c.loop-row.invariant.0 in
    of_all c.args.format c.args.number.0 c.args.heads.now rows seen
    (at_end rows c.loop-row.row-iterator seen c.loop-row.invariant.1 c.in-None.ensures.steps.0) c.loop-row.invariant.2
