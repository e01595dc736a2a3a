-- What a commit leaves that failed, and one that did not.
use Rattle.std.proofs.Common.{rules, sym, ◌∙◌}
use Rattle.sqlite_tables.proofs.LeftUpgraded.{upgrade_left}
use Rattle.sqlite_tables.proofs.upgrading.upgrade_ledger.Goals as goal

pub returns-in_err-commit-clause-crash : goal.returns-in_err-commit-clause-crash
returns-in_err-commit-clause-crash g c =
    let left =
    upgrade_left g.S.Store c.args.conn.now c.transaction-tx.result.conn.now c.upgrade_found.new.tx.conn.now c.commit.new.self.0 c.transaction-tx.ensures.begun
    (sym c.schema.ensures.value ∙ c.refusal_of-refusal.ensures c.in_default.is) c.in_ok-copy.ensures.turned c.upgrade_found.ensures.survives c.commit.ensures.survives in
    search rules

pub returns-clause-crash : goal.returns-clause-crash
returns-clause-crash g c =
    let left =
    upgrade_left g.S.Store c.args.conn.now c.transaction-tx.result.conn.now c.upgrade_found.new.tx.conn.now c.commit.new.self.0 c.transaction-tx.ensures.begun
    (sym c.schema.ensures.value ∙ c.refusal_of-refusal.ensures c.in_default.is) c.in_ok-copy.ensures.turned c.upgrade_found.ensures.survives c.commit.ensures.survives in
    search rules
