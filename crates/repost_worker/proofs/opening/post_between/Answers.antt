-- One more of the stored records is posted, or it is bad.
use Rattle.std.proofs.Common.{◌≡◌, ◌<◌, ◌+◌, ℕ, List, length, Some, slice_get, sym, ap, ◌∙◌, refl, arith}
use Rattle.std.proofs.lemmas.Option.{slice_get_read}
use Rattle.stock_model.specs.History.{records, accepted}
use Rattle.stock_keeper.specs.declared.tables.StoredRecord.{StoredRecord}
use Rattle.repost_worker.proofs.OpenedOrder.{keeps-none, keeps-more}
use Rattle.repost_worker.proofs.StoredPosts.{accepted-posted, covered-posted, stored-posted, unposted-bad}
use Rattle.repost_worker.proofs.opening.post_between.Goals as goal

pub loop-index-init : goal.loop-index-init
loop-index-init c = record {
  stored = c.requires.stored;
  at = c.requires.before;
  covered = refl;
  kept = keeps-none c.args.book.now.history;
  pace = record { known = refl; turns = refl };
  legal = c.requires.legal;
}

pub loop-index-preserved : goal.loop-index-preserved
loop-index-preserved c =
    let old = c.loop-index.book.history in
    let new = c.post_stored.new.book.history in
    let one = c.index-kept-index.result in
    let rows = c.args.tables.now.records in
    let held = c.loop-index.invariant in
    let whole : c.as_slice-kept.result.now ≡ rows = c.as_slice-kept.ensures in
    let within : c.loop-index.index < length c.as_slice-kept.result.now =
    omega (arith, ap length whole, c.requires.within, c.loop-index-test.true) in
    let found : slice_get rows (accepted old) ≡ Some one =
    ap (λ (n : ℕ). slice_get rows n) held.at
    ∙ ap (λ (rs : List StoredRecord). slice_get rs c.loop-index.index) (sym whole)
    ∙ slice_get_read c.as_slice-kept.result.now (length c.as_slice-kept.result.now) c.loop-index.index one refl within
    c.index-kept-index.is in
    record {
      stored = stored-posted old new one c.in_default.ensures.posted c.args.tables.now held.stored found;
      at = accepted-posted old new one c.in_default.ensures.posted ∙ ap (λ (n : ℕ). n + 1) held.at;
      covered = covered-posted old new one c.in_default.ensures.posted ∙ held.covered;
      kept =
          keeps-more c.args.book.now.history old new c.in_default.ensures.posted.item held.kept c.in_default.ensures.posted.grows;
      pace = record {
        known = c.in_default.ensures.pace.known ∙ held.pace.known;
        turns = c.in_default.ensures.pace.turns ∙ held.pace.turns;
      };
      legal = c.in_default.ensures.legal;
    }

pub returns-in-Err-clause-fault : goal.returns-in-Err-clause-fault
returns-in-Err-clause-fault c =
    let old = c.loop-index.book.history in
    let one = c.index-kept-index.result in
    let rows = c.args.tables.now.records in
    let held = c.loop-index.invariant in
    let whole : c.as_slice-kept.result.now ≡ rows = c.as_slice-kept.ensures in
    let within : c.loop-index.index < length c.as_slice-kept.result.now =
    omega (arith, ap length whole, c.requires.within, c.loop-index-test.true) in
    let found : slice_get rows (accepted old) ≡ Some one =
    ap (λ (n : ℕ). slice_get rows n) held.at
    ∙ ap (λ (rs : List StoredRecord). slice_get rs c.loop-index.index) (sym whole)
    ∙ slice_get_read c.as_slice-kept.result.now (length c.as_slice-kept.result.now) c.loop-index.index one refl within
    c.index-kept-index.is in
    unposted-bad c.args.tables.now (records old) one c.in-Err.fault held.stored found
    (omega (arith, ap length whole, held.at)) c.in-Err.ensures.fault
