-- A block without items is in no list.
use Rattle.std.proofs.Common.{◌≡◌, ◌≤◌, [], length, ap, sym, ◌∙◌, subst, arith}
use Rattle.std.specs.List.{All}
use Rattle.std.proofs.lemmas.List.{get_or_default}
use Rattle.block_list.specs.Blocks.{joined, block_at, pressure, IsFilled}
use Rattle.block_list.proofs.Joined.{joined-without, filled-without}
use Rattle.block_list.proofs.Pressure.{pressure-removed}
use Rattle.block_list.proofs.blocks.drop_empty.Goals as goal

pub returns-clause-items : goal.returns-clause-items
returns-clause-items g c =
    let bs = c.args.blocks.now.items in
    let i = c.args.block in
    let read : c.index.result.now ≡ block_at bs i = c.index.ensures ∙ get_or_default bs i c.index.result.now [] c.requires.within in
    let none : length (block_at bs i) ≤ 0 = omega (arith, ap length read, c.len.ensures.length, c.if-len-gt0.false) in
    ap joined c.remove-none.ensures.items ∙ joined-without bs i c.requires.within none

pub returns-clause-filled : goal.returns-clause-filled
returns-clause-filled g c =
    let bs = c.args.blocks.now.items in
    let i = c.args.block in
    subst (All IsFilled) (sym c.remove-none.ensures.items) (filled-without IsFilled c.requires.filled.0 bs i (block_at bs i) c.requires.filled.1 c.requires.filled.2)

pub returns-clause-pressure : goal.returns-clause-pressure
returns-clause-pressure g c =
    omega (arith, pressure-removed c.args.blocks.now.items c.args.block c.requires.within, ap pressure c.remove-none.ensures.items, c.keep.ensures.pool)
