-- The heads are those of all values but the last.
use Rattle.std.proofs.Common.{◌≡◌, map, ap}
use Rattle.item_master.specs.Register.{store_head}
use Rattle.item_master.specs.State.{MasterState}
use Rattle.item_master.proofs.Registers.{map-front}
use Rattle.item_master.proofs.master.Master.pop_store.Goals as goal

pub returns-clause-stores : goal.returns-clause-stores
returns-clause-stores c =
    let told : map store_head c.self.inside.stores ≡ c.args.self.now.stores = ap (λ (master : MasterState). master.stores) c.self.view_is in
    rw (c.pop.ensures, ← told) (map-front store_head c.self.inside.stores)
