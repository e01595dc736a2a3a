-- Each group that is passed adds its items, and the last one those of its first blocks.
use Rattle.std.proofs.Common.{◌≡◌, ℕ, ◌+◌, ◌*◌, ◌%◌, ◌<◌, ◌≤◌, List, length, take, drop, ap, sym, ◌∙◌, arith, length-append}
use Rattle.std.proofs.Math.Seq.{take-add}
use Rattle.std.proofs.lemmas.List.{take-take, take-append-drop}
use Rattle.block_list.specs.Blocks.{joined}
use Rattle.block_list.specs.Heads.{group_at}
use Rattle.block_list.specs.declared.sums.TheConstants.{GROUP}
use Rattle.block_list.proofs.Joined.{joined-append}
use Rattle.block_list.proofs.Grouped.{joined-groups_more, group-fits, length-group_at, no_items}
use Rattle.block_list.proofs.groups.items_before.Goals as goal

pub overflow_add-place-in-loop-place : goal.overflow_add-place-in-loop-place
overflow_add-place-in-loop-place g c =
    let p = c.loop-place.place.group in
    let within : p < length c.args.heads.now = omega (arith, c.loop-place-test.true, c.requires.within, c.requires.heads.all) in
    omega (arith, (c.requires.heads.each p no_items within).items, c.loop-place.invariant.1, group-fits c.args.blocks.now p, c.requires.few)

pub loop-place-preserved : goal.loop-place-preserved
loop-place-preserved g c =
    let bs = c.args.blocks.now in
    let p = c.loop-place.place.group in
    let within : p < length c.args.heads.now = omega (arith, c.loop-place-test.true, c.requires.within, c.requires.heads.all) in
    let more = ap length (joined-groups_more bs p) ∙ length-append (joined (take (GROUP * p) bs)) (joined (group_at bs p)) in (
      omega (arith, c.loop-place-test.true),
      omega (arith, (c.requires.heads.each p no_items within).items, c.loop-place.invariant.1, more),
    )

pub items_before-requires-clause-within : goal.items_before-requires-clause-within
items_before-requires-clause-within g c =
    omega (arith, ap length c.group_of.ensures, length-group_at c.args.blocks.now c.loop-place.place.group, c.loop-place.invariant.0, c.loop-place-test.false, c.requires.within)

pub items_before-requires-clause-few : goal.items_before-requires-clause-few
items_before-requires-clause-few g c =
    omega (arith, ap (λ (xs : List (List g.row.T.Denot)). length (joined xs)) c.group_of.ensures, group-fits c.args.blocks.now c.loop-place.place.group, c.requires.few)

-- so many items are in the first blocks
all-before : {T : Type 0} (bs : List (List T)) (g rest count : ℕ) → rest < GROUP → GROUP * g + rest ≡ count
    → length (joined (take count bs)) ≡ length (joined (take (GROUP * g) bs)) + length (joined (take rest (group_at bs g)))
all-before bs g rest count few is =
    let front = take (GROUP * g) bs in
    let from_there = drop (GROUP * g) bs in
    ap (λ n. length (joined (take n bs))) (sym is) ∙ ap (λ xs. length (joined xs)) (take-add (GROUP * g) rest bs) ∙ ap length (joined-append front (take rest from_there))
    ∙ length-append (joined front) (joined (take rest from_there))
    ∙ ap (λ xs. length (joined front) + length (joined xs)) (sym (take-take rest GROUP from_there (omega (arith, few))))

-- and no more than in all
few_first : {T : Type 0} (bs : List (List T)) (count : ℕ) → length (joined (take count bs)) ≤ length (joined bs)
few_first bs count =
    let front = take count bs in
    let rest = drop count bs in
    omega (arith, ap (λ xs. length (joined xs)) (take-append-drop count bs), ap length (joined-append front rest), length-append (joined front) (joined rest))

pub overflow_add-result : goal.overflow_add-result
overflow_add-result g c =
    let bs = c.args.blocks.now in
    let p = c.loop-place.place.group in
    let rest = c.args.count % GROUP in
    let own = c.items_before.ensures ∙ ap (λ (xs : List (List g.row.T.Denot)). length (joined (take rest xs))) c.group_of.ensures in
    let all = all-before bs p rest c.args.count (omega arith) (omega (arith, c.loop-place.invariant.0, c.loop-place-test.false)) in
    omega (arith, own, all, c.loop-place.invariant.1, few_first bs c.args.count, c.requires.few)

pub returns : goal.returns
returns g c =
    let bs = c.args.blocks.now in
    let p = c.loop-place.place.group in
    let rest = c.args.count % GROUP in
    let own = c.items_before.ensures ∙ ap (λ (xs : List (List g.row.T.Denot)). length (joined (take rest xs))) c.group_of.ensures in
    let all = all-before bs p rest c.args.count (omega arith) (omega (arith, c.loop-place.invariant.0, c.loop-place-test.false)) in
    omega (arith, own, all, c.loop-place.invariant.1)
