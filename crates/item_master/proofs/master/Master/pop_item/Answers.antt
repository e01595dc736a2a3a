-- The heads are those of all values but the last.
use Rattle.std.proofs.Common.{◌≡◌, map, ap}
use Rattle.item_master.specs.Register.{item_head}
use Rattle.item_master.specs.State.{MasterState}
use Rattle.item_master.proofs.Registers.{map-front}
use Rattle.item_master.proofs.master.Master.pop_item.Goals as goal

pub returns-clause-items : goal.returns-clause-items
returns-clause-items c =
    let told : map item_head c.self.inside.items ≡ c.args.self.now.items = ap (λ (master : MasterState). master.items) c.self.view_is in
    rw (c.pop.ensures, ← told) (map-front item_head c.self.inside.items)
