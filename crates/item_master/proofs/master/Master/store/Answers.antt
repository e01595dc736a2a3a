-- The register finds what the list of heads has.
use Rattle.std.proofs.Common.{sym, ap, ◌∙◌}
use Rattle.stock_nums.specs.Heads.{store_in}
use Rattle.item_master.specs.State.{MasterState}
use Rattle.item_master.proofs.Registers.{store_in-heads}
use Rattle.item_master.proofs.master.Master.store.Goals as goal

pub returns : goal.returns
returns c =
    c.value_of.ensures ∙ sym (store_in-heads c.self.inside.stores c.args.code.now) ∙ ap (λ (master : MasterState). store_in master.stores c.args.code.now) c.self.view_is
