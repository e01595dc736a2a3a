-- The register finds what the list of heads has.
use Rattle.std.proofs.Common.{sym, ap, ◌∙◌}
use Rattle.stock_nums.specs.Heads.{item_in}
use Rattle.item_master.specs.State.{MasterState}
use Rattle.item_master.proofs.Registers.{item_in-heads}
use Rattle.item_master.proofs.master.Master.item.Goals as goal

pub returns : goal.returns
returns c =
    c.value_of.ensures ∙ sym (item_in-heads c.self.inside.items c.args.code.now) ∙ ap (λ (master : MasterState). item_in master.items c.args.code.now) c.self.view_is
