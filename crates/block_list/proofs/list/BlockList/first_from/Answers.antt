-- The item stands in a block, or all come before the bound.
use Rattle.std.proofs.Common.{◌≡◌, slice_get, List, [], length, ap, sym, ◌∙◌, subst, arith}
use Rattle.std.specs.Option.{option_copied}
use Rattle.std.proofs.lemmas.List.{get_or_default}
use Rattle.std.proofs.lemmas.Option.{slice_get_past}
use Rattle.block_list.specs.Blocks.{joined, block_at, IsSpot}
use Rattle.block_list.specs.Bounds.{HasSides}
use Rattle.block_list.specs.State.{ListState}
use Rattle.block_list.proofs.Joined.{joined-get}
use Rattle.block_list.proofs.list.BlockList.first_from.Goals as goal

pub returns-in_err-spot : goal.returns-in_err-spot
returns-in_err-spot g c =
    let test = g.B.Bound.above c.args.bound.now in
    let xs = c.args.self.now.items in
    let whole = ap joined c.as_slice.ensures.value ∙ ap (λ (s : ListState g.row.T.Denot). s.items) c.self.view_is in
    let sides = subst (λ (ys : List g.row.T.Denot). HasSides test ys (length ys)) whole c.in_err-spot.ensures.none in
    (length xs, sides, ap option_copied c.from_residual.ensures ∙ sym (slice_get_past xs (length xs) (omega arith)))

pub returns : goal.returns
returns g c =
    let test = g.B.Bound.above c.args.bound.now in
    let bs = c.self.inside.blocks.items in
    let i = c.in_ok-spot.spot.block in
    let o = c.in_ok-spot.spot.index in
    let found = c.in_ok-spot.ensures.spot in
    let at = found.0 in
    let whole = ap joined c.as_slice.ensures.value ∙ ap (λ (s : ListState g.row.T.Denot). s.items) c.self.view_is in
    let spot = subst (λ (xs : List (List g.row.T.Denot)). IsSpot xs at i o) c.as_slice.ensures.value found.2 in
    let read : c.index.result.now ≡ block_at bs i = c.index.ensures ∙ get_or_default bs i c.index.result.now [] spot.within in (
      at,
      subst (λ (ys : List g.row.T.Denot). HasSides test ys at) whole found.1,
      c.get.ensures ∙ ap (λ (b : List g.row.T.Denot). slice_get b o) read ∙ joined-get bs at i o spot
          ∙ ap (λ (s : ListState g.row.T.Denot). slice_get s.items at) c.self.view_is,
    )
