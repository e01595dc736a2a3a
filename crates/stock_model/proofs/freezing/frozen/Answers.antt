-- One more record closes the past up to the later of what was closed, and of what it closes.
use Rattle.std.proofs.Common.{◌≡◌, ◌+◌, ◌++◌, ◌∷◌, [], take, Option, refl, sym, ap, ◌∙◌}
use Rattle.std.proofs.lemmas.List.{take_more}
use Rattle.stock_nums.specs.declared.moment.Moment.{Moment}
use Rattle.stock_model.specs.declared.records.Record.{Record}
use Rattle.stock_model.specs.Freezing.{closed_by, later_if_any, frozen}
use Rattle.stock_model.proofs.Freezes.{frozen-snoc}
use Rattle.stock_model.proofs.freezing.frozen.Goals as goal

pub loop-record-init : goal.loop-record-init
unfolding frozen
loop-record-init c = refl

pub loop-record-preserved : goal.loop-record-preserved
loop-record-preserved c =
    let records = c.args.records.now in
    let i = c.loop-record.record-index in
    let item = c.record-item.result in
    let front : take (i + 1) records ≡ take i records ++ item ∷ [] =
    take_more records i item c.loop-record-test.true ∙ ap (λ (r : Record). take i records ++ r ∷ []) (sym c.record-item.is) in
    c.frozen_with-until.ensures
    ∙ ap (λ (before : Option Moment). later_if_any before (closed_by item.what)) c.loop-record.invariant
    ∙ sym (frozen-snoc (take i records) item)
    ∙ ap frozen (sym front)
