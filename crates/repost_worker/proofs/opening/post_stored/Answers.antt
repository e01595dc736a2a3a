-- The next record is posted, or what is kept is bad.
use Rattle.std.proofs.Common.{◌≡◌, ◌+◌, ℕ, ap, ◌∙◌, arith}
use Rattle.stock_model.specs.History.{accepted, records}
use Rattle.stock_laws.proofs.Legality.{AreLegal-history, IsHeld-legal}
use Rattle.stock_keeper.specs.Changed.{stored}
use Rattle.voucher_json.specs.RecordTexts.{record_text}
use Rattle.repost_worker.proofs.opening.post_stored.Goals as goal

pub overflow_add-number : goal.overflow_add-number
overflow_add-number c =
    let told = c.book.result.now.history in
    let held = IsHeld-legal (records told) (AreLegal-history told c.accepted-accepted.ensures.legal) in
    omega (arith, held.records, c.accepted-accepted.ensures.accepted)

pub returns-in-Ok-post-clause-posted : goal.returns-in-Ok-post-clause-posted
returns-in-Ok-post-clause-posted c =
    let next : c.accepted-accepted.result.0 + 1 ≡ accepted c.args.book.now.history + 1 =
    ap (λ (n : ℕ). n + 1) (c.accepted-accepted.ensures.accepted ∙ ap accepted c.book.ensures.history) in
    record {
      item = c.in-Ok.item;
      sound = c.in-Ok-post.ensures.sound;
      is = c.in-Ok.ensures.ok ∙ ap (λ (n : ℕ). stored (record { 0 = n }) (record_text c.in-Ok.item)) next;
      grows = c.in-Ok-post.ensures.kept;
    }
