-- One more of the stored records is read.
use Rattle.std.proofs.Common.{◌≡◌, ◌<◌, ◌+◌, ℕ, List, [], ◌∷◌, length, take, Some, slice_get, refl, sym, ap, ◌∙◌, subst, arith}
use Rattle.std.proofs.lemmas.List.{length_push, take-append-le}
use Rattle.std.proofs.lemmas.Option.{slice_get_read}
use Rattle.stock_model.specs.declared.records.Record.{Record}
use Rattle.stock_keeper.specs.declared.tables.StoredRecord.{StoredRecord}
use Rattle.kept_tables.specs.Openings.{AreStored}
use Rattle.kept_tables.proofs.OpeningSteps.{AreStored-more}
use Rattle.generation_audit.proofs.reading.read_between.Goals as goal

pub loop-index-preserved : goal.loop-index-preserved
loop-index-preserved c =
    let old = c.loop-index.journal in
    let one = c.index-kept-index.result in
    let rows = c.args.tables.now.records in
    let held = c.loop-index.invariant in
    let read = c.in_default.ensures.read in
    let whole : c.as_slice-kept.result.now ≡ rows = c.as_slice-kept.ensures in
    let within : c.loop-index.index < length c.as_slice-kept.result.now =
    omega (arith, ap length whole, c.requires.within, c.loop-index-test.true) in
    let found : slice_get rows (length old) ≡ Some one =
    ap (λ (n : ℕ). slice_get rows n) held.at
    ∙ ap (λ (rs : List StoredRecord). slice_get rs c.loop-index.index) (sym whole)
    ∙ slice_get_read c.as_slice-kept.result.now (length c.as_slice-kept.result.now) c.loop-index.index one refl within
    c.index-kept-index.is in
    record {
      stored = subst (λ (items : List Record). AreStored items c.args.tables.now) (sym read.grows)
          (AreStored-more c.args.tables.now old read.item one held.stored found read.is read.sound);
      at = ap length read.grows ∙ length_push old read.item ∙ ap (λ (n : ℕ). n + 1) held.at;
      from = omega (arith, held.from);
      front = ap (take c.args.start) read.grows ∙ take-append-le c.args.start old (read.item ∷ []) (omega (arith, held.from, held.at)) ∙ held.front;
    }
