-- Where the records have no room, what was made in the master is taken away again.
use Rattle.std.proofs.Common.{◌≡◌, ap, ◌∙◌, rules}
use Rattle.item_master.specs.State.{MasterState}
use Rattle.voucher_kinds.specs.Heads.{with_made, without_last}
use Rattle.voucher_kinds.specs.declared.heads.Made.{Made}
use Rattle.voucher_kinds.proofs.Kept.{without_last-with_made}
use Rattle.voucher_kinds.proofs.journal.enter.Goals as goal
use Rattle.voucher_kinds.proofs.journal.enter.Goals.{in-Ok, in-Err}

pub returns-clause-unmade : goal.returns-clause-unmade
returns-clause-unmade c =
    let adds : c.add_made.new.master ≡ with_made c.args.master.now c.args.number.0 c.args.item.what = search rules in
    elim c.match-push.branch [
      | in-Ok w ↦ rw w.result-is tt
      | in-Err w ↦
          rw w.result-is
          (w.master-is ∙ w.take_away.ensures
          ∙ ap (λ (m : MasterState). without_last m c.made_by-made.result) adds
          ∙ ap (λ (made : Made). without_last (with_made c.args.master.now c.args.number.0 c.args.item.what) made) c.made_by-made.ensures
          ∙ without_last-with_made c.args.master.now c.args.number.0 c.args.item.what)
    ]
