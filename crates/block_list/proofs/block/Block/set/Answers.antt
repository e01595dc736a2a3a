-- An item that counts the same as the one before leaves all sums.
use Rattle.std.proofs.Common.{◌≡◌, ℤ, ◌≤ℤ◌, map, set, sym, ap, ◌∙◌, subst, arith}
use Rattle.std.proofs.Math.Seq.{map-set_same}
use Rattle.std.proofs.lemmas.Int.{ints}
use Rattle.block_list.proofs.Totals.{fronts-same, total-same}
use Rattle.block_list.proofs.block.Block.set.Goals as goal

pub invariant_of-self-else-counts_otherwise : goal.invariant_of-self-else-counts_otherwise
invariant_of-self-else-counts_otherwise g c =
    let w = g.W.Weigh.weight in
    let xs = c.self.inside.items.items in
    let ys = set xs c.args.index c.args.item in
    let same : c.weight.result ≡ c.weight-2.result =
    omega (arith, ints, c.if-counts_otherwise.false, c.weight.ensures.small, c.weight-2.ensures.small) in
    let counts : map w ys ≡ map w xs =
    map-set_same w xs c.args.index c.args.item c.index.result.now
    (sym c.weight.ensures.weight ∙ same ∙ c.weight-2.ensures.weight ∙ ap w c.index.ensures) in (
      c.self.invariant.0,
      c.self.invariant.1,
      c.self.invariant.2 ∙ total-same w xs ys (sym counts),
      λ k. subst (λ (s : ℤ). c.self.inside.sums.low ≤ℤ s) (fronts-same w xs ys (sym counts) k) (c.self.invariant.3 k),
      c.self.invariant.4,
      c.self.invariant.5,
    )

pub returns-else-counts_otherwise-clause-weights :
    goal.returns-else-counts_otherwise-clause-weights
returns-else-counts_otherwise-clause-weights g c _ =
    let w = g.W.Weigh.weight in
    let xs = c.self.inside.items.items in
    let same : c.weight.result ≡ c.weight-2.result =
    omega (arith, ints, c.if-counts_otherwise.false, c.weight.ensures.small, c.weight-2.ensures.small) in
    map-set_same w xs c.args.index c.args.item c.index.result.now
    (sym c.weight.ensures.weight ∙ same ∙ c.weight-2.ensures.weight ∙ ap w c.index.ensures)
    ∙ ap (map w) c.self.view_is
