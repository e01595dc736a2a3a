-- One more movement fits, and is added with what is held after it.
use Rattle.std.proofs.Common.{ℕ, List, ap₂, ◌∙◌}
use Rattle.valuation_report.specs.LedgerParts.{row_text}
use Rattle.valuation_report.proofs.Joined.{renamed}
use Rattle.valuation_report.proofs.LedgerPieces.{row-is}
use Rattle.valuation_report.proofs.LedgerSteps.{movements-more}
use Rattle.valuation_report.proofs.RunningHoldings.{room_for, held_with}
use Rattle.valuation_report.proofs.ledger_texts.push_rows.Goals as goal

pub add-requires : goal.add-requires
add-requires c =
    room_for c.args.rows.now c.loop-row.row-index c.row-item.result c.loop-row.holding c.requires.held c.loop-row-test.true c.row-item.is c.loop-row.invariant.0

pub loop-row-preserved : goal.loop-row-preserved
loop-row-preserved c =
    let row_is = ap₂ (λ (item store : List ℕ). row_text c.args.format item store c.movement_of.result)
    (c.as_slice-own_item.ensures.value ∙ c.in_ok-item_text.ensures) (c.as_slice-own_store.ensures.value ∙ c.in_ok-store_text.ensures)
    ∙ row-is c.args.format c.args.item.now c.args.store.now c.movement_of.result c.requires.item c.requires.store in
    let held = c.add.ensures
    ∙ held_with c.args.rows.now c.loop-row.row-index c.row-item.result c.loop-row.holding c.requires.held c.loop-row-test.true c.row-item.is c.loop-row.invariant.0 in (
      held,
      movements-more c.args.format c.args.item.now c.args.store.now c.args.rows.now c.loop-row.row-index c.row-item.result c.add.new.self c.movement_of.result c.loop-row.text.items c.push_row.new.text.items _
          c.loop-row-test.true c.row-item.is c.movement_of.ensures held (renamed c.in_ok-push_row.ensures row_is) c.loop-row.invariant.1,
    )
