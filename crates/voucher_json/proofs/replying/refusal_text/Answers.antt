use Rattle.std.proofs.Common.{◌∙◌}
use Rattle.std.proofs.lemmas.Result.{IfOk-weaker}
use Rattle.voucher_json.proofs.PlainTexts.{code_taken-text, code_shape-text, account_range-text, no_basis-text, unknown_item-text, unknown_store-text, same_store-text, unknown_target-text, link_later-text, repeated_target-text}
use Rattle.voucher_json.proofs.replying.refusal_text.Goals as goal

pub returns-in-CodeTaken : goal.returns-in-CodeTaken
returns-in-CodeTaken c = rw c.in-CodeTaken.is (IfOk-weaker c.record_fault_text.result _ _ (λ text is. is ∙ code_taken-text) c.record_fault_text.ensures)

pub returns-in-CodeShape : goal.returns-in-CodeShape
returns-in-CodeShape c = rw c.in-CodeShape.is (IfOk-weaker c.record_fault_text-in-CodeShape.result _ _ (λ text is. is ∙ code_shape-text) c.record_fault_text-in-CodeShape.ensures)

pub returns-in-AccountRange : goal.returns-in-AccountRange
returns-in-AccountRange c = rw c.in-AccountRange.is (IfOk-weaker c.record_fault_text-in-AccountRange.result _ _ (λ text is. is ∙ account_range-text) c.record_fault_text-in-AccountRange.ensures)

pub returns-in-NoBasis : goal.returns-in-NoBasis
returns-in-NoBasis c = rw c.in-NoBasis.is (IfOk-weaker c.record_fault_text-in-NoBasis.result _ _ (λ text is. is ∙ no_basis-text) c.record_fault_text-in-NoBasis.ensures)

pub returns-in-UnknownItem : goal.returns-in-UnknownItem
returns-in-UnknownItem c = rw c.in-UnknownItem.is (IfOk-weaker c.line_fault_text.result _ _ (λ text is. is ∙ unknown_item-text c.in-UnknownItem.line) c.line_fault_text.ensures)

pub returns-in-UnknownStore : goal.returns-in-UnknownStore
returns-in-UnknownStore c = rw c.in-UnknownStore.is (IfOk-weaker c.line_fault_text-in-UnknownStore.result _ _ (λ text is. is ∙ unknown_store-text c.in-UnknownStore.line) c.line_fault_text-in-UnknownStore.ensures)

pub returns-in-SameStore : goal.returns-in-SameStore
returns-in-SameStore c = rw c.in-SameStore.is (IfOk-weaker c.line_fault_text-in-SameStore.result _ _ (λ text is. is ∙ same_store-text c.in-SameStore.line) c.line_fault_text-in-SameStore.ensures)

pub returns-in-UnknownTarget : goal.returns-in-UnknownTarget
returns-in-UnknownTarget c = rw c.in-UnknownTarget.is (IfOk-weaker c.line_fault_text-in-UnknownTarget.result _ _ (λ text is. is ∙ unknown_target-text c.in-UnknownTarget.line) c.line_fault_text-in-UnknownTarget.ensures)

pub returns-in-LinkLater : goal.returns-in-LinkLater
returns-in-LinkLater c = rw c.in-LinkLater.is (IfOk-weaker c.line_fault_text-in-LinkLater.result _ _ (λ text is. is ∙ link_later-text c.in-LinkLater.line) c.line_fault_text-in-LinkLater.ensures)

pub returns-in-RepeatedTarget : goal.returns-in-RepeatedTarget
returns-in-RepeatedTarget c = rw c.in-RepeatedTarget.is (IfOk-weaker c.line_fault_text-in-RepeatedTarget.result _ _ (λ text is. is ∙ repeated_target-text c.in-RepeatedTarget.line) c.line_fault_text-in-RepeatedTarget.ensures)
