-- In the list the group's items stand after those before it.
use Rattle.std.proofs.Common.{◌≡◌, ◌+◌, ◌-◌, ◌≤◌, ◌++◌, max, min, ℤ, length, sym, subst, arith, to_z, of_z, to_z-of_z, w64}
use Rattle.block_list.specs.Blocks.{joined}
use Rattle.block_list.specs.Sums.{IsFirstBelow}
use Rattle.block_list.proofs.Crossings.{IsFirstBelow-placed}
use Rattle.block_list.proofs.groups.over.Goals as goal

pub returns-clause-found : goal.returns-clause-found
returns-clause-found g c front rest size =
    let at = c.args.at in
    let b = joined c.args.group.now in
    let before = c.args.before in
    let limit = c.min-limit.result in
    let found = c.below_in-found.result in
    let same : to_z w64 (of_z w64 at.before) ≡ at.before = to_z-of_z {w = w64} {z = at.before} (record { sfits = omega (arith, c.requires.bound) }) in
    let own = subst (λ (base : ℤ). IsFirstBelow g.W.Weigh.weight b (at.index - before) (limit - before) base found.index found.before) same c.below_in-found.ensures.found in
    let inside : limit - before ≤ length b = omega (arith, c.min-limit.ensures, c.requires.head.items, c.if-limit-at.false) in
    let last : length front + (limit - before) ≡ max at.index (min c.args.end (before + length b)) =
    omega (arith, size, c.min-limit.ensures, c.requires.head.items, c.if-limit-at.false, c.requires.begun) in
    let placed =
    IsFirstBelow-placed g.W.Weigh.weight front b rest (at.index - before) (limit - before) at.before found.index found.before inside own
    at.index (max at.index (min c.args.end (before + length b))) (before + found.index) (omega (arith, size, c.requires.begun)) last (omega (arith, size)) in
    let kept : to_z w64 (of_z w64 found.before) ≡ found.before =
    to_z-of_z {w = w64} {z = found.before} (record { sfits = omega (arith, c.requires.bound, c.below_in-found.ensures.bound, own.within, c.min-limit.ensures) }) in
    subst (λ (v : ℤ). IsFirstBelow g.W.Weigh.weight (front ++ (b ++ rest)) at.index (max at.index (min c.args.end (before + length b))) at.before (before + found.index) v) (sym kept) placed
