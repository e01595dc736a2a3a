-- The covered records are a legal journal, whose worths are compared.
use Rattle.std.proofs.Common.{List, take, sym, subst}
use Rattle.stock_model.specs.Journals.{AreLegal}
use Rattle.stock_model.specs.declared.records.Record.{Record}
use Rattle.stock_laws.proofs.Legality.{AreLegal-take}
use Rattle.stock_keeper.specs.declared.changes.SpotWorth.{SpotWorth}
use Rattle.generation_audit.specs.Comparing.{IsCompared}
use Rattle.generation_audit.specs.Findings.{IsFoundIn}
use Rattle.generation_audit.specs.declared.comparing.Compared.{Compared}
use Rattle.generation_audit.proofs.auditing.verdict_on.Goals as goal

pub compare_worths-requires-clause-legal : goal.compare_worths-requires-clause-legal
compare_worths-requires-clause-legal c =
    let records = c.records-records.ensures in
    AreLegal-take c.records-records.result.now c.args.covered (subst AreLegal (sym records.records) records.legal)

pub returns-in-Apart : goal.returns-in-Apart
returns-in-Apart c =
    let covered = c.args.covered in
    let records = c.records-records.result.now in
    let worths = c.as_slice-worths.result.now in
    let found = c.in-Apart.found in
    let is : IsFoundIn (take covered records) worths found =
    subst (λ (made : Compared). IsCompared (take covered records) worths made) c.in-Apart.is c.in_ok-found.ensures in (
      c.args.ledger.now.journal,
      covered,
      c.requires.read,
      subst (λ (ws : List SpotWorth). IsFoundIn (take covered c.args.ledger.now.journal) ws found) c.as_slice-worths.ensures
          (subst (λ (items : List Record). IsFoundIn (take covered items) worths found) c.records-records.ensures.records is),
    )
