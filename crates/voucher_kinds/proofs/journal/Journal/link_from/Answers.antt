-- No record before the first one names a line, and none that was passed over is a link.
use Rattle.std.proofs.Common.{◌+◌, ◌∙◌, sym, ap, arith}
use Rattle.stock_model.specs.declared.records.Record.{Record}
use Rattle.stock_model.specs.Cancelling.{names_line_of}
use Rattle.voucher_kinds.proofs.Named.{first_link-from, link-step, gone-link, other-link}
use Rattle.voucher_kinds.proofs.journal.Journal.link_from.Goals as goal
use Rattle.voucher_kinds.proofs.journal.Journal.link_from.Goals.{else-is_live-via-then-is_live+else-names_line_of, else-is_live-via-else-is_live}

pub loop-index-init : goal.loop-index-init
loop-index-init c = first_link-from c.args.self.now c.args.number.0 c.args.first.0 c.saturating_sub-index.result c.requires c.saturating_sub-index.ensures

pub loop-index-preserved : goal.loop-index-preserved
loop-index-preserved c =
    let journal = c.args.self.now in
    let n = c.args.number.0 in
    let i = c.loop-index.index in
    elim c.else-is_live.branch [
      | else-is_live-via-then-is_live+else-names_line_of w ↦
          link-step journal n i (λ item held.
          other-link journal c.as_slice-records.result.now n i w.index-records-index.result item (c.as_slice-records.ensures.value ∙ c.self.view_is)
          (omega (arith, c.loop-index-test.true, c.as_slice-records.ensures.len)) w.index-records-index.is (ap (λ (r : Record). names_line_of n r.what) w.index-records-index.is ∙ sym w.names_line_of.ensures ∙ w.if-names_line_of.false) held)
          ∙ c.loop-index.invariant
      | else-is_live-via-else-is_live w ↦
          link-step journal n i (λ item held. gone-link journal n (i + 1) item (sym c.is_live.ensures ∙ w.if-is_live.false)) ∙ c.loop-index.invariant
    ]
