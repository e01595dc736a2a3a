-- No record has a fault, and none makes a movement.
use Rattle.std.proofs.Common.{[], List, refl, sym, ◌∙◌, subst, ◌≡◌}
use Rattle.stock_model.specs.Entries.{all_entries}
use Rattle.stock_model.specs.PostingOrder.{posting_line}
use Rattle.stock_model.specs.declared.records.Record.{Record}
use Rattle.generation_audit.specs.LegalJournals.{IsLegalJournal}
use Rattle.generation_audit.proofs.FaultSteps.{IsLegalJournal-from}
use Rattle.generation_audit.proofs.legal_journal.LegalJournal.new.Goals as goal

no_line : posting_line [] ≡ []
unfolding posting_line all_entries
no_line = refl

pub invariant_of-result : goal.invariant_of-result
invariant_of-result c =
    subst (λ (journal : List Record). IsLegalJournal journal c.new-2.result.entries) (sym c.new.ensures)
    (IsLegalJournal-from [] c.new-2.result.entries tt (c.new-2.ensures ∙ sym no_line))
