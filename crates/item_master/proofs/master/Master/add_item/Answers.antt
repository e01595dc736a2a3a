-- Without a fault nothing has the code.
use Rattle.std.proofs.Common.{sym, ap, ◌∙◌}
use Rattle.stock_nums.specs.Heads.{item_in}
use Rattle.item_master.specs.State.{MasterState}
use Rattle.item_master.proofs.Registers.{item_in-heads, absent_from}
use Rattle.item_master.proofs.master.Master.add_item.Goals as goal

pub add-requires : goal.add-requires
add-requires c =
    let told = ap (λ (master : MasterState). item_in master.items c.args.code.now) c.self.view_is in
    sym (item_in-heads c.self.inside.items c.args.code.now) ∙ told ∙ absent_from (item_in c.args.self.now.items c.args.code.now) _ _ (sym c.item_fault.ensures ∙ c.in_default.is)
