-- The item is put into a block, and a full block is parted.
use Rattle.std.proofs.Common.{◌≡◌, ℕ, suc, ◌+◌, ◌<◌, ◌≤◌, take, drop, set, [], length, ap, sym, ◌∙◌, subst, arith, length-take, length-drop}
use Rattle.std.specs.List.{insert, All}
use Rattle.std.proofs.lemmas.List.{length-set, get_or_default}
use Rattle.std.proofs.lemmas.List.Edits.{length-insert}
use Rattle.block_list.specs.Blocks.{joined, block_at, pressure, IsFilled}
use Rattle.block_list.specs.declared.sums.TheConstants.{MOST, HALF}
use Rattle.block_list.proofs.Joined.{joined-put, joined-parted, filled-parted}
use Rattle.block_list.proofs.Pressure.{pressure-set, pressure-parted}
use Rattle.block_list.proofs.blocks.put_among.Goals as goal

pub returns-then-len-lt-MOST-clause-items : goal.returns-then-len-lt-MOST-clause-items
returns-then-len-lt-MOST-clause-items g c at gap =
    ap joined c.insert_in.ensures.blocks ∙ joined-put c.args.blocks.now.items at c.args.gap.block c.args.gap.index c.args.item gap

pub returns-clause-items : goal.returns-clause-items
returns-clause-items g c at gap =
    let bs = c.args.blocks.now.items in
    let mids = c.insert_in.new.blocks.items in
    let i = c.args.gap.block in
    let b = insert (block_at bs i) c.args.gap.index c.args.item in
    let within : i < length mids = omega (arith, c.requires.within, ap length c.insert_in.ensures.blocks, length-set bs i b) in
    ap joined c.split.ensures.blocks ∙ joined-parted mids i c.cut_of-cut.result within
    ∙ ap joined c.insert_in.ensures.blocks ∙ joined-put bs at i c.args.gap.index c.args.item gap

pub returns-clause-filled : goal.returns-clause-filled
returns-clause-filled g c =
    let bs = c.args.blocks.now.items in
    let mids = c.insert_in.new.blocks.items in
    let i = c.args.gap.block in
    let b = insert (block_at bs i) c.args.gap.index c.args.item in
    let within : i < length mids = omega (arith, c.requires.within, ap length c.insert_in.ensures.blocks, length-set bs i b) in
    let read : c.index.result.now ≡ block_at mids i = c.index.ensures ∙ get_or_default mids i c.index.result.now [] within in
    let size : length (block_at mids i) ≡ MOST = omega (arith, c.len.ensures.length, c.len.ensures.most, c.if-len-lt-MOST.false, ap length read) in
    subst (All IsFilled) (sym c.split.ensures.blocks) (filled-parted bs mids i c.cut_of-cut.result b c.requires.filled c.insert_in.ensures.blocks size (omega (arith, c.cut_of-cut.ensures.within.0)) c.cut_of-cut.ensures.within.1)

pub returns-then-len-lt-MOST-clause-pressure : goal.returns-then-len-lt-MOST-clause-pressure
returns-then-len-lt-MOST-clause-pressure g c =
    let bs = c.args.blocks.now.items in
    let i = c.args.gap.block in
    let b = insert (block_at bs i) c.args.gap.index c.args.item in
    let more : length b ≡ length (block_at bs i) + 1 = length-insert (block_at bs i) c.args.gap.index c.args.item c.requires.inside in
    let grown = pressure-set bs i b 1 0 c.requires.within (omega (arith, more)) (omega (arith, more)) in
    omega (arith, grown.0, ap pressure c.insert_in.ensures.blocks)

pub returns-clause-pressure : goal.returns-clause-pressure
returns-clause-pressure g c =
    let bs = c.args.blocks.now.items in
    let mids = c.insert_in.new.blocks.items in
    let i = c.args.gap.block in
    let b = insert (block_at bs i) c.args.gap.index c.args.item in
    let cut = c.cut_of-cut.result in
    let within : i < length mids = omega (arith, c.requires.within, ap length c.insert_in.ensures.blocks, length-set bs i b) in
    let read : c.index.result.now ≡ block_at mids i = c.index.ensures ∙ get_or_default mids i c.index.result.now [] within in
    let size : length (block_at mids i) ≡ MOST = omega (arith, c.len.ensures.length, c.len.ensures.most, c.if-len-lt-MOST.false, ap length read) in
    let lower = take cut (block_at mids i) in
    let upper = drop cut (block_at mids i) in
    let more : length b ≡ length (block_at bs i) + 1 = length-insert (block_at bs i) c.args.gap.index c.args.item c.requires.inside in
    let grown = pressure-set bs i b 1 0 c.requires.within (omega (arith, more)) (omega (arith, more)) in
    let half : HALF ≤ length lower = omega (arith, length-take cut (block_at mids i), size, c.cut_of-cut.ensures.within.0, c.cut_of-cut.ensures.within.1) in
    let both : length lower + length upper ≡ MOST = omega (arith, length-take cut (block_at mids i), length-drop cut (block_at mids i), size, c.cut_of-cut.ensures.within.1) in
    let middle : suc i < length mids → length lower ≡ HALF = λ later.
    omega (arith, length-take cut (block_at mids i), size, c.cut_of-cut.ensures.middle (omega (arith, later, c.len-2.ensures))) in
    let one : suc i ≡ i + 1 = omega arith in
    let parted = subst (λ (k : ℕ). pressure (insert (set mids i lower) k upper) + HALF ≤ pressure mids) one (pressure-parted mids i lower upper within size both half middle) in
    omega (arith, parted, grown.0, ap pressure c.insert_in.ensures.blocks, ap pressure c.split.ensures.blocks, c.split.ensures.pool)
