-- The map has the last code no more.
use Rattle.std.proofs.Common.{None}
use Rattle.std.proofs.lemmas.Map.Text.{btree_map_updates_text}
use Rattle.item_master.proofs.Registers.{IsRegister-removed}
use Rattle.item_master.proofs.register.Register.pop.Goals as goal

pub invariant_of-self : goal.invariant_of-self
invariant_of-self g c =
    IsRegister-removed c.self.inside.entries.items c.pop.new.self.items c.in-Some.code c.text.result.now c.in-Some.field-0-1 c.in-Some.ensures.items c.text.ensures c.self.invariant
    (btree_map_updates_text c.text.result.now c.self.inside.by_code c.remove.new.self None c.remove.ensures.updates)

pub invariant_of-self-in-Some-2 : goal.invariant_of-self-in-Some-2
invariant_of-self-in-Some-2 g c =
    IsRegister-removed c.self.inside.entries.items c.pop.new.self.items c.in-Some.code c.text.result.now c.in-Some.field-0-1 c.in-Some.ensures.items c.text.ensures c.self.invariant
    (btree_map_updates_text c.text.result.now c.self.inside.by_code c.remove.new.self None c.remove.ensures.updates)
