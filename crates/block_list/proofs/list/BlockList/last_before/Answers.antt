-- The item stands in a block.
use Rattle.std.proofs.Common.{◌≡◌, suc, ◌+◌, slice_get, List, [], ap, ◌∙◌, subst, arith}
use Rattle.std.proofs.lemmas.List.{get_or_default}
use Rattle.block_list.specs.Blocks.{joined, block_at, IsSpot}
use Rattle.block_list.specs.Bounds.{HasSides}
use Rattle.block_list.specs.State.{ListState}
use Rattle.block_list.proofs.Joined.{joined-get}
use Rattle.block_list.proofs.list.BlockList.last_before.Goals as goal

pub returns : goal.returns
returns g c =
    let test = g.B.Bound.above c.args.bound.now in
    let bs = c.self.inside.blocks.items in
    let i = c.in_ok-spot.spot.block in
    let o = c.in_ok-spot.spot.index in
    let found = c.in_ok-spot.ensures.spot in
    let at = found.0 in
    let next : at + 1 ≡ suc at = omega arith in
    let whole = ap joined c.as_slice.ensures.value ∙ ap (λ (s : ListState g.row.T.Denot). s.items) c.self.view_is in
    let spot = subst (λ (xs : List (List g.row.T.Denot)). IsSpot xs at i o) c.as_slice.ensures.value found.2 in
    let read : c.index.result.now ≡ block_at bs i = c.index.ensures ∙ get_or_default bs i c.index.result.now [] spot.within in (
      suc at,
      subst (HasSides test c.args.self.now.items) next (subst (λ (ys : List g.row.T.Denot). HasSides test ys (at + 1)) whole found.1),
      c.get.ensures ∙ ap (λ (b : List g.row.T.Denot). slice_get b o) read ∙ joined-get bs at i o spot
          ∙ ap (λ (s : ListState g.row.T.Denot). slice_get s.items at) c.self.view_is,
    )
