use Rattle.std.proofs.Common.{Bool, cond, Some, None, ap, ◌∙◌}
use Rattle.std.specs.Prelude.{is_some}
use Rattle.stock_nums.specs.Accounts.{is_store_account}
use Rattle.stock_nums.specs.Codes.{is_code}
use Rattle.stock_model.specs.declared.faults.PostFault.TheVariants.{CodeTaken, CodeShape, AccountRange}
use Rattle.stock_model.specs.Masters.{store_with}
use Rattle.stock_model.proofs.StoreFaults.{store-faults}
use Rattle.stock_model.proofs.refusals.master_fault.Goals as goal

pub returns-in-Store : goal.returns-in-Store
returns-in-Store g c =
    let journal = g.N.Names.journal c.args.names.now in
    let code = c.in-Store.code in
    let taken = c.is_some-in-Store.ensures ∙ ap is_some c.store_with.ensures in
    rw c.in-Store.is
    (c.store_fault.ensures
    ∙ ap (λ (b : Bool). cond b (Some CodeTaken) (cond (is_code code) (cond (is_store_account c.in-Store.account.0) None (Some AccountRange)) (Some CodeShape))) taken
    ∙ store-faults (is_some (store_with journal code)) (is_code code) (is_store_account c.in-Store.account.0))
