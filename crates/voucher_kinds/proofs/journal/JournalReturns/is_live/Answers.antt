-- A record is in force exactly where none is noted to take it back.
use Rattle.std.proofs.Common.{◌≡◌, Bool, true, false, not, List, refl, ap, ◌∙◌}
use Rattle.std.specs.Prelude.{is_none, is_some}
use Rattle.stock_model.specs.declared.records.Record.{Record}
use Rattle.stock_model.specs.Entries.{is_live}
use Rattle.voucher_kinds.specs.Journals.{taker}
use Rattle.voucher_kinds.proofs.Noted.{taker-live}
use Rattle.voucher_kinds.proofs.journal.JournalReturns.is_live.Goals as goal

turned : (a b : Bool) → a ≡ not b → b ≡ not a
turned true true is = cc
turned true false is = refl
turned false true is = refl
turned false false is = cc

pub returns : goal.returns
returns c =
    let n = c.args.number.0 in
    turned (is_some c.taker.result) c.is_none.result c.is_none.ensures
    ∙ ap is_none (c.taker.ensures ∙ ap (λ takers. taker takers n) c.as_slice.ensures.value)
    ∙ taker-live c.self.inside.records.items c.self.inside.takers.items n c.self.invariant.0.takers_are
    ∙ ap (λ (records : List Record). is_live records n) c.self.view_is
