use Rattle.std.proofs.Common.{Some, sym, ◌∙◌, subst}
use Rattle.std.specs.BTreeMap.{Updates}
use Rattle.stock_nums.specs.declared.numbers.AccountNo.{AccountNo}
use Rattle.gl_lines.specs.StoreAccounts.{number_cmp}
use Rattle.gl_lines.proofs.HeadAccounts.{AreAccountsOf-known, AreAccountsOf-added}
use Rattle.gl_lines.proofs.store_accounts.StoreAccounts.add.Goals as goal

pub returns-then-contains_key : goal.returns-then-contains_key
returns-then-contains_key c heads are =
    AreAccountsOf-known c.args.self.now.by_number heads c.args.head.now are (sym c.contains_key.ensures ∙ c.if-contains_key.true)

pub returns : goal.returns
returns c heads are =
    AreAccountsOf-added c.args.self.now.by_number c.insert.new.self heads c.args.head.now are (sym c.contains_key.ensures ∙ c.if-contains_key.false)
    (subst (λ (account : AccountNo). Updates number_cmp c.args.self.now.by_number c.insert.new.self c.args.head.now.number (Some account)) c.account_no.ensures c.in_ok-insert.ensures.updates)
