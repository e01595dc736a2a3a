use Rattle.std.proofs.Common.{◌∙◌}
use Rattle.std.proofs.lemmas.Result.{IfOk-weaker}
use Rattle.voucher_json.proofs.PlainTexts.{accepted-text, worked-text, settled-text, long-text, store-text, memory-text, http-text}
use Rattle.voucher_json.proofs.replying.reply_bytes.Goals as goal

pub returns-in-Accepted : goal.returns-in-Accepted
returns-in-Accepted c = rw c.in-Accepted.is (IfOk-weaker c.numbered.result _ _ (λ text is. is ∙ accepted-text c.in-Accepted.number.0) c.numbered.ensures)

pub returns-in-Worked : goal.returns-in-Worked
returns-in-Worked c = rw c.in-Worked.is (IfOk-weaker c.numbered-in-Worked.result _ _ (λ text is. is ∙ worked-text c.in-Worked.covered.0) c.numbered-in-Worked.ensures)

pub returns-in-Settled : goal.returns-in-Settled
returns-in-Settled c = rw c.in-Settled.is (IfOk-weaker c.numbered-in-Settled.result _ _ (λ text is. is ∙ settled-text c.in-Settled.covered.0) c.numbered-in-Settled.ensures)

pub returns-in-Long : goal.returns-in-Long
returns-in-Long c = rw c.in-Long.is (IfOk-weaker c.from_slice.result _ _ (λ text is. is ∙ long-text) c.from_slice.ensures.items)

pub returns-in-StoreFailed : goal.returns-in-StoreFailed
returns-in-StoreFailed c = rw c.in-StoreFailed.is (IfOk-weaker c.from_slice-in-StoreFailed.result _ _ (λ text is. is ∙ store-text) c.from_slice-in-StoreFailed.ensures.items)

pub returns-in-MemoryFailed : goal.returns-in-MemoryFailed
returns-in-MemoryFailed c = rw c.in-MemoryFailed.is (IfOk-weaker c.from_slice-in-MemoryFailed.result _ _ (λ text is. is ∙ memory-text) c.from_slice-in-MemoryFailed.ensures.items)

pub returns-in-Http : goal.returns-in-Http
returns-in-Http c = rw c.in-Http.is (IfOk-weaker c.from_slice-in-Http.result _ _ (λ text is. is ∙ http-text) c.from_slice-in-Http.ensures.items)
