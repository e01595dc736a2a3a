-- The item stands in a block and becomes another one or stays, or all come before the bound.
use Rattle.std.proofs.Common.{◌≡◌, List, Option, get_or, set, unwrap_or, length, ap, sym, ◌∙◌, subst, arith}
use Rattle.block_list.specs.Blocks.{joined}
use Rattle.block_list.specs.Bounds.{HasSides}
use Rattle.block_list.specs.Changes.{change_at}
use Rattle.block_list.specs.State.{ListState}
use Rattle.block_list.proofs.Changed.{change_at-set, change_at-same, change_at-past}
use Rattle.block_list.proofs.Sides.{sides-read}
use Rattle.block_list.proofs.list.BlockList.update_first_from.Goals as goal

pub returns-in_default-clause-items : goal.returns-in_default-clause-items
returns-in_default-clause-items g c =
    let test = g.B.Bound.above c.args.bound.now in
    let xs = c.args.self.now.items in
    let whole = ap joined c.as_slice.ensures.value ∙ ap (λ (s : ListState g.row.T.Denot). s.items) c.self.view_is in
    let sides = subst (λ (ys : List g.row.T.Denot). HasSides test ys (length ys)) whole c.in_default.ensures.none in
    (length xs, sides, sym (change_at-past (g.C.Change.changed c.args.change.now) xs (length xs) (omega arith)))

pub returns-in_default-change-clause-items : goal.returns-in_default-change-clause-items
returns-in_default-change-clause-items g c =
    let test = g.B.Bound.above c.args.bound.now in
    let make = g.C.Change.changed c.args.change.now in
    let bs = c.self.inside.blocks.items in
    let x = c.index-as_slice-spot.result in
    let there =
    sides-read test c.as_slice.result.now bs c.in-Some.spot.block c.in-Some.spot.index c.index.result.now x c.as_slice.ensures.value c.in-Some.ensures.spot c.index.ensures
    (c.index-as_slice-spot.is ∙ ap (λ (b : List g.row.T.Denot). get_or b c.in-Some.spot.index x) c.as_slice-in-Some.ensures) in
    let stays : change_at make (joined bs) there.0 ≡ joined bs =
    change_at-same make (joined bs) there.0 x there.3 (sym c.change.ensures ∙ c.in_default-change.is) in (
      there.0,
      subst (λ (s : ListState g.row.T.Denot). HasSides test s.items there.0) c.self.view_is there.1,
      sym (subst (λ (s : ListState g.row.T.Denot). change_at make s.items there.0 ≡ s.items) c.self.view_is stays),
    )

pub returns-in-Some-change-clause-items : goal.returns-in-Some-change-clause-items
returns-in-Some-change-clause-items g c =
    let test = g.B.Bound.above c.args.bound.now in
    let make = g.C.Change.changed c.args.change.now in
    let bs = c.self.inside.blocks.items in
    let x = c.index-as_slice-spot.result in
    let there =
    sides-read test c.as_slice.result.now bs c.in-Some.spot.block c.in-Some.spot.index c.index.result.now x c.as_slice.ensures.value c.in-Some.ensures.spot c.index.ensures
    (c.index-as_slice-spot.is ∙ ap (λ (b : List g.row.T.Denot). get_or b c.in-Some.spot.index x) c.as_slice-in-Some.ensures) in
    let becomes : change_at make (joined bs) there.0 ≡ set (joined bs) there.0 c.in-Some-change.item =
    change_at-set make (joined bs) there.0 x there.3
    ∙ ap (λ (made : Option g.row.T.Denot). set (joined bs) there.0 (unwrap_or made x)) (sym c.change.ensures ∙ c.in-Some-change.is) in (
      there.0,
      subst (λ (s : ListState g.row.T.Denot). HasSides test s.items there.0) c.self.view_is there.1,
      c.replace-other.ensures.items there.0 there.2 ∙ sym becomes
          ∙ ap (λ (s : ListState g.row.T.Denot). change_at make s.items there.0) c.self.view_is,
    )
