-- What is replaced in a block is replaced in the list.
use Rattle.std.proofs.Common.{◌≡◌, ◌+◌, List, [], length, take, map, set, refl, ap, sym, ◌∙◌, subst, arith}
use Rattle.std.specs.List.{All}
use Rattle.std.proofs.lemmas.List.{get_or_default, length-set}
use Rattle.block_list.specs.Blocks.{joined, block_at, IsFilled, IsSpot}
use Rattle.block_list.proofs.Grouped.{AreHeads-same}
use Rattle.block_list.proofs.Joined.{joined-replaced, filled-replaced}
use Rattle.block_list.proofs.Pressure.{pressure-set}
use Rattle.block_list.proofs.blocks.replace.Goals as goal

pub returns-clause-items : goal.returns-clause-items
returns-clause-items g c at spot =
    let bs = c.args.blocks.now.items in
    let i = c.args.spot.block in
    let o = c.args.spot.index in
    let read : c.index_mut.result.now ≡ block_at bs i = c.index_mut.ensures.value ∙ get_or_default bs i c.index_mut.result.now [] c.requires.within in
    let made : c.set.new.self ≡ set (block_at bs i) o c.args.item = c.set.ensures.items ∙ ap (λ (b : List g.row.T.Denot). set b o c.args.item) read in
    ap (λ (b : List g.row.T.Denot). joined (set bs i b)) made ∙ joined-replaced bs at i o c.args.item spot

pub returns-clause-len : goal.returns-clause-len
returns-clause-len g c =
    let bs = c.args.blocks.now.items in
    let i = c.args.spot.block in
    let o = c.args.spot.index in
    let at = length (joined (take i bs)) + o in
    let spot : IsSpot bs at i o = record { within = c.requires.within; inside = c.requires.inside; is = refl } in
    ap length (returns-clause-items g c at spot) ∙ length-set (joined bs) at c.args.item

pub returns-clause-heads : goal.returns-clause-heads
returns-clause-heads g c same heads are =
    let bs = c.args.blocks.now.items in
    let i = c.args.spot.block in
    let read : c.index_mut.result.now ≡ block_at bs i = c.index_mut.ensures.value ∙ get_or_default bs i c.index_mut.result.now [] c.requires.within in
    let w = g.W.Weigh.weight in
    AreHeads-same w heads bs i c.set.new.self (c.set.ensures.weights same ∙ ap (map w) read) are

pub returns-clause-filled : goal.returns-clause-filled
returns-clause-filled g c =
    let bs = c.args.blocks.now.items in
    let i = c.args.spot.block in
    let o = c.args.spot.index in
    let read : c.index_mut.result.now ≡ block_at bs i = c.index_mut.ensures.value ∙ get_or_default bs i c.index_mut.result.now [] c.requires.within in
    let made : c.set.new.self ≡ set (block_at bs i) o c.args.item = c.set.ensures.items ∙ ap (λ (b : List g.row.T.Denot). set b o c.args.item) read in
    subst (All IsFilled) (sym (ap (λ (b : List g.row.T.Denot). set bs i b) made)) (filled-replaced bs i o c.args.item c.requires.within c.requires.filled)

pub returns-clause-pressure : goal.returns-clause-pressure
returns-clause-pressure g c =
    let bs = c.args.blocks.now.items in
    let i = c.args.spot.block in
    let o = c.args.spot.index in
    let read : c.index_mut.result.now ≡ block_at bs i = c.index_mut.ensures.value ∙ get_or_default bs i c.index_mut.result.now [] c.requires.within in
    let made : c.set.new.self ≡ set (block_at bs i) o c.args.item = c.set.ensures.items ∙ ap (λ (b : List g.row.T.Denot). set b o c.args.item) read in
    let size : length c.set.new.self ≡ length (block_at bs i) = ap length made ∙ length-set (block_at bs i) o c.args.item in
    let same = pressure-set bs i c.set.new.self 0 0 c.requires.within (omega (arith, size)) (omega (arith, size)) in
    omega (arith, same.0, same.1)
