-- The item stands in a block.
use Rattle.std.proofs.Common.{◌≡◌, ◌≤◌, slice_get, List, [], length, ap, sym, ◌∙◌, subst, arith}
use Rattle.std.proofs.lemmas.List.{get_or_default}
use Rattle.std.proofs.lemmas.Option.{slice_get_past}
use Rattle.block_list.specs.Blocks.{block_at, IsSpot}
use Rattle.block_list.specs.State.{ListState}
use Rattle.block_list.proofs.Joined.{joined-get}
use Rattle.block_list.proofs.list.BlockList.get.Goals as goal

pub returns-then-index-self : goal.returns-then-index-self
returns-then-index-self g c =
    let bs = c.self.inside.blocks.items in
    let i = c.spot_of-spot.result.block in
    let o = c.spot_of-spot.result.index in
    let spot = subst (λ (xs : List (List g.row.T.Denot)). IsSpot xs c.args.index i o) c.as_slice-then-index-self.ensures.value c.spot_of-spot.ensures in
    let read : c.index.result.now ≡ block_at bs i = c.index.ensures ∙ get_or_default bs i c.index.result.now [] spot.within in
    c.get.ensures ∙ ap (λ (b : List g.row.T.Denot). slice_get b o) read ∙ joined-get bs c.args.index i o spot
    ∙ ap (λ (s : ListState g.row.T.Denot). slice_get s.items c.args.index) c.self.view_is

pub returns-else-index-self : goal.returns-else-index-self
returns-else-index-self g c =
    let past : length c.args.self.now.items ≤ c.args.index =
    omega (arith, c.if-index-self.false, c.self.invariant.2, ap (λ (s : ListState g.row.T.Denot). length s.items) c.self.view_is) in
    sym (slice_get_past c.args.self.now.items c.args.index past)
