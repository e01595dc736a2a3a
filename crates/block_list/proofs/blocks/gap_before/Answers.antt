-- The bound falls in the last block that begins before it, or before all.
use Rattle.std.proofs.Common.{ℕ, ◌-◌, ◌<◌, List, [], length, refl, ◌∙◌, subst, arith}
use Rattle.std.proofs.lemmas.List.{get_or_default}
use Rattle.block_list.specs.Blocks.{block_at}
use Rattle.block_list.specs.Bounds.{HasSides, first_passes}
use Rattle.block_list.proofs.Sides.{after-first, sides-none, sides-joined}
use Rattle.block_list.proofs.blocks.gap_before.Goals as goal

pub returns-then-count-eq0-clause-sides : goal.returns-then-count-eq0-clause-sides
returns-then-count-eq0-clause-sides g c =
    let test = g.B.Bound.above c.args.bound.now in
    let bs = c.args.blocks.now in
    sides-none test bs c.requires.filled (subst (λ (n : ℕ). HasSides (first_passes test) bs n) c.if-count-eq0.true c.search-count.ensures)

pub returns-clause-gap : goal.returns-clause-gap
returns-clause-gap g c =
    let bs = c.args.blocks.now in
    let n = c.search-count.result in
    let within : n - 1 < length bs = omega (arith, c.search-count.ensures.within, c.if-count-eq0.false) in
    let read = c.as_slice.ensures ∙ c.index-blocks-block.is ∙ get_or_default bs (n - 1) c.index-blocks-block.result [] within in
    let own = subst (λ (b : List g.row.T.Denot). HasSides (g.B.Bound.above c.args.bound.now) b c.search.result) read c.search.ensures in
    record { within = within; inside = own.within; is = refl }

pub returns-clause-sides : goal.returns-clause-sides
returns-clause-sides g c =
    let test = g.B.Bound.above c.args.bound.now in
    let bs = c.args.blocks.now in
    let n = c.search-count.result in
    let within : n - 1 < length bs = omega (arith, c.search-count.ensures.within, c.if-count-eq0.false) in
    let read = c.as_slice.ensures ∙ c.index-blocks-block.is ∙ get_or_default bs (n - 1) c.index-blocks-block.result [] within in
    let own = subst (λ (b : List g.row.T.Denot). HasSides test b c.search.result) read c.search.ensures in
    sides-joined test bs n c.search.result c.requires.filled c.search-count.ensures (omega (arith, c.if-count-eq0.false)) own

pub returns-clause-first : goal.returns-clause-first
returns-clause-first g c start =
    let test = g.B.Bound.above c.args.bound.now in
    let bs = c.args.blocks.now in
    let n = c.search-count.result in
    let within : n - 1 < length bs = omega (arith, c.search-count.ensures.within, c.if-count-eq0.false) in
    let read = c.as_slice.ensures ∙ c.index-blocks-block.is ∙ get_or_default bs (n - 1) c.index-blocks-block.result [] within in
    let own = subst (λ (b : List g.row.T.Denot). HasSides test b c.search.result) read c.search.ensures in
    absurd (after-first test bs n c.requires.filled c.search-count.ensures (omega (arith, c.if-count-eq0.false)) (subst (HasSides test (block_at bs (n - 1))) start own))
