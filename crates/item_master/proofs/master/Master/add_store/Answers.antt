-- Without a fault nothing has the code.
use Rattle.std.proofs.Common.{sym, ap, ◌∙◌}
use Rattle.stock_nums.specs.Heads.{store_in}
use Rattle.item_master.specs.State.{MasterState}
use Rattle.item_master.proofs.Registers.{store_in-heads, absent_from}
use Rattle.item_master.proofs.master.Master.add_store.Goals as goal

pub add-requires : goal.add-requires
add-requires c =
    let told = ap (λ (master : MasterState). store_in master.stores c.args.code.now) c.self.view_is in
    sym (store_in-heads c.self.inside.stores c.args.code.now) ∙ told ∙ absent_from (store_in c.args.self.now.stores c.args.code.now) _ _ (sym c.store_fault.ensures ∙ c.in_default.is)
