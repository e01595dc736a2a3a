-- The run stands in a block.
use Rattle.std.proofs.Common.{List, [], length, take, drop, ap, ap₂, sym, ◌∙◌, subst}
use Rattle.std.proofs.lemmas.List.{get_or_default, take_rest}
use Rattle.block_list.specs.Blocks.{IsSpot}
use Rattle.block_list.specs.State.{ListState}
use Rattle.block_list.proofs.Joined.{joined-run}
use Rattle.block_list.proofs.list.BlockList.run_from.Goals as goal

pub returns-clause-items : goal.returns-clause-items
returns-clause-items g c =
    let bs = c.self.inside.blocks.items in
    let i = c.spot_of-spot.result.block in
    let o = c.spot_of-spot.result.index in
    let spot = subst (λ (xs : List (List g.row.T.Denot)). IsSpot xs c.args.index i o) c.as_slice-2.ensures.value c.spot_of-spot.ensures in
    let read = c.as_slice-3.ensures ∙ c.index.ensures ∙ get_or_default bs i c.index.result.now [] spot.within in
    let run = take_rest c.as_slice-3.result.now o ∙ ap (drop o) read in
    run ∙ joined-run bs c.args.index i o spot ∙ ap₂ (λ n (s : ListState g.row.T.Denot). take n (drop c.args.index s.items)) (ap length (sym run)) c.self.view_is
