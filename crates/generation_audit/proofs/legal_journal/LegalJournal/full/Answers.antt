-- The room is that of the journal's records and movements.
use Rattle.std.proofs.Common.{◌≡◌, ◌+◌, ◌<◌, ◌≤◌, ◌⊎◌, List, length, None, inl, inr, sym, ap, ◌∙◌, subst, arith}
use Rattle.stock_nums.specs.declared.limits.TheConstants.{MAX_RECORDS, MAX_ENTRIES}
use Rattle.stock_model.specs.declared.records.Record.{Record}
use Rattle.stock_model.specs.Entries.{entries, all_entries}
use Rattle.stock_model.specs.Faults.{voucher_fault}
use Rattle.stock_model.proofs.Growth.{length-posting_line}
use Rattle.stock_laws.proofs.Legality.{AreSound-from}
use Rattle.generation_audit.proofs.FaultSteps.{full-some, full-none}
use Rattle.generation_audit.proofs.legal_journal.LegalJournal.full.Goals.{then-records-ge-MAX_RECORDS-via-then-records-ge-MAX_RECORDS, then-records-ge-MAX_RECORDS-via-else-records-ge-MAX_RECORDS+then-count-held}
use Rattle.generation_audit.proofs.legal_journal.LegalJournal.full.Goals as goal

pub returns-then-records-ge-MAX_RECORDS : goal.returns-then-records-ge-MAX_RECORDS
returns-then-records-ge-MAX_RECORDS c =
    let records : c.args.self.now ≡ c.self.inside.journal = sym c.self.view_is in
    let sound : voucher_fault c.self.inside.journal c.args.item.now.what ≡ None =
    subst (λ (journal : List Record). voucher_fault journal c.args.item.now.what ≡ None) records c.requires in
    let held_sound = AreSound-from c.self.inside.journal c.self.invariant.legal in
    let line : c.len-held.result ≡ length c.self.inside.movements.entries = c.len-held.ensures ∙ ap length c.timeline.ensures.entries in
    let held : c.len-held.result ≡ length (all_entries c.self.inside.journal) = line ∙ ap length c.self.invariant.posted ∙ length-posting_line c.self.inside.journal in
    let no_room : (MAX_RECORDS ≤ length c.self.inside.journal) ⊎ (MAX_ENTRIES < length (all_entries c.self.inside.journal) + length (entries c.self.inside.journal c.args.item.now)) =
    elim c.then-records-ge-MAX_RECORDS.branch [
      | then-records-ge-MAX_RECORDS-via-then-records-ge-MAX_RECORDS w ↦ inl (omega (arith, c.count-records.ensures.count))
      | then-records-ge-MAX_RECORDS-via-else-records-ge-MAX_RECORDS+then-count-held w ↦ inr (omega (arith, c.self.invariant.few, line, held, w.count.ensures c.self.inside.journal held_sound sound, w.if-count-held.true))
    ] in
    rw (records, c.count-records.ensures.count, held) (sym (full-some c.self.inside.journal c.args.item.now no_room))

pub returns : goal.returns
returns c =
    let records : c.args.self.now ≡ c.self.inside.journal = sym c.self.view_is in
    let sound : voucher_fault c.self.inside.journal c.args.item.now.what ≡ None =
    subst (λ (journal : List Record). voucher_fault journal c.args.item.now.what ≡ None) records c.requires in
    let held_sound = AreSound-from c.self.inside.journal c.self.invariant.legal in
    let line : c.len-held.result ≡ length c.self.inside.movements.entries = c.len-held.ensures ∙ ap length c.timeline.ensures.entries in
    let held : c.len-held.result ≡ length (all_entries c.self.inside.journal) = line ∙ ap length c.self.invariant.posted ∙ length-posting_line c.self.inside.journal in
    let new = c.count.ensures c.self.inside.journal held_sound sound in
    rw records
    (sym
    (full-none c.self.inside.journal c.args.item.now (omega (arith, c.count-records.ensures.count, c.if-records-ge-MAX_RECORDS.false))
    (omega (arith, c.self.invariant.few, line, held, new, c.if-count-held.false))))
