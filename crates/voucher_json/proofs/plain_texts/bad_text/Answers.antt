use Rattle.std.proofs.Common.{◌∙◌}
use Rattle.std.proofs.lemmas.Result.{IfOk-weaker}
use Rattle.voucher_json.proofs.PlainTexts.{bad_json-text, bad_field-text, limit-text}
use Rattle.voucher_json.proofs.plain_texts.bad_text.Goals as goal

pub returns-in-BadJson : goal.returns-in-BadJson
returns-in-BadJson c = rw c.in-BadJson.is (IfOk-weaker c.from_slice.result _ _ (λ text is. is ∙ bad_json-text) c.from_slice.ensures.items)

pub returns-in-BadField : goal.returns-in-BadField
returns-in-BadField c = rw c.in-BadField.is (IfOk-weaker c.field_fault_text.result _ _ (λ text is. is ∙ bad_field-text c.in-BadField.name c.in-BadField.line) c.field_fault_text.ensures)

pub returns-in-Limit : goal.returns-in-Limit
returns-in-Limit c =
    rw c.in-Limit.is (IfOk-weaker c.field_fault_text-in-Limit.result _ _ (λ text is. is ∙ limit-text c.in-Limit.name c.in-Limit.line) c.field_fault_text-in-Limit.ensures)
