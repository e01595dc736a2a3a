-- What is taken out of a block is taken out of the list.
use Rattle.std.proofs.Common.{◌≡◌, ℕ, ◌+◌, ◌<◌, Option, None, Some, IfSome, set, List, length, ap, sym, ◌∙◌, subst, arith, length-set}
use Rattle.std.specs.List.{remove}
use Rattle.std.proofs.lemmas.List.Edits.{length-remove}
use Rattle.block_list.specs.Blocks.{joined, block_at, pressure, IsSpot}
use Rattle.block_list.specs.Heads.{ChangesOnly}
use Rattle.block_list.proofs.Joined.{joined-get, joined-take}
use Rattle.block_list.proofs.Pressure.{pressure-set}
use Rattle.block_list.proofs.blocks.take_out.Goals as goal

pub returns-clause-item : goal.returns-clause-item
returns-clause-item g c =
    let bs = c.args.blocks.now.items in
    let i = c.spot_of-spot.result.block in
    let o = c.spot_of-spot.result.index in
    let spot = subst (λ (xs : List (List g.row.T.Denot)). IsSpot xs c.args.index i o) c.as_slice.ensures.value c.spot_of-spot.ensures in
    c.remove_in-item.ensures.item ∙ joined-get bs c.args.index i o spot

pub returns-clause-items : goal.returns-clause-items
returns-clause-items g c =
    let bs = c.args.blocks.now.items in
    let i = c.spot_of-spot.result.block in
    let o = c.spot_of-spot.result.index in
    let spot = subst (λ (xs : List (List g.row.T.Denot)). IsSpot xs c.args.index i o) c.as_slice.ensures.value c.spot_of-spot.ensures in
    c.join_at-2.ensures.items ∙ c.join_at.ensures.items ∙ c.drop_empty.ensures.items ∙ ap joined c.remove_in-item.ensures.blocks ∙ joined-take bs c.args.index i o spot

pub returns-clause-pressure : goal.returns-clause-pressure
returns-clause-pressure g c =
    let bs = c.args.blocks.now.items in
    let i = c.spot_of-spot.result.block in
    let o = c.spot_of-spot.result.index in
    let spot = subst (λ (xs : List (List g.row.T.Denot)). IsSpot xs c.args.index i o) c.as_slice.ensures.value c.spot_of-spot.ensures in
    let less : length (remove (block_at bs i) o) + 1 ≡ length (block_at bs i) = length-remove (block_at bs i) o spot.inside in
    let fallen = pressure-set bs i (remove (block_at bs i) o) 0 1 spot.within (omega (arith, less)) (omega (arith, less)) in
    omega (arith, fallen.0, ap pressure c.remove_in-item.ensures.blocks, c.drop_empty.ensures.pressure, c.join_at.ensures.pressure, c.join_at-2.ensures.pressure)

-- the only block that has changed, if it is told
only : {T : Type 0} (told : Option ℕ) (i : ℕ) (before after : ℕ) (old new : List (List T)) (b : List T) → IfSome told (λ alone. (alone ≡ i) × (after ≡ before)) → i < length old
    → (after ≡ before → new ≡ set old i b) → ChangesOnly told old new
only None i before after old new b told within same = tt
only (Some k) i before after old new b told within same =
    subst (λ (n : ℕ). ChangesOnly (Some n) old new) (sym told.0) (within, (b, same told.1))

pub returns-clause-changed : goal.returns-clause-changed
returns-clause-changed g c =
    let bs = c.args.blocks.now.items in
    let i = c.spot_of-spot.result.block in
    let o = c.spot_of-spot.result.index in
    let spot = subst (λ (xs : List (List g.row.T.Denot)). IsSpot xs c.args.index i o) c.as_slice.ensures.value c.spot_of-spot.ensures in
    let b = remove (block_at bs i) o in
    let taken = c.remove_in-item.ensures.blocks in
    let size = ap length taken ∙ length-set bs i b in
    only c.alone_at.result i c.len-count.result c.len.result bs c.join_at-2.new.blocks.items b c.alone_at.ensures spot.within
    (λ as_many.
    let counts = c.drop_empty.ensures.count in
    c.join_at-2.ensures.same (omega arith) ∙ c.join_at.ensures.same (omega arith) ∙ c.drop_empty.ensures.same (omega arith) ∙ taken)
