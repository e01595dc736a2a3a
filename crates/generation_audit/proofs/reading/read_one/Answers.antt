-- The next record is added.
use Rattle.std.proofs.Common.{ℕ, ◌+◌, List, length, ap, ◌∙◌}
use Rattle.stock_model.specs.declared.records.Record.{Record}
use Rattle.stock_keeper.specs.Changed.{stored}
use Rattle.voucher_json.specs.RecordTexts.{record_text}
use Rattle.generation_audit.proofs.reading.read_one.Goals as goal

pub returns-in-Ok-add-clause-read : goal.returns-in-Ok-add-clause-read
returns-in-Ok-add-clause-read c =
    let next = ap (λ (items : List Record). length items + 1) c.records.ensures.records in
    record {
      item = c.in-Ok.item;
      sound = c.in-Ok-add.ensures.sound;
      is = c.in-Ok.ensures.ok ∙ ap (λ (n : ℕ). stored (record { 0 = n }) (record_text c.in-Ok.item)) next;
      grows = c.in-Ok-add.ensures.added;
    }
