-- The running sum over the changes of the key that come after the place and before the end.
use Rattle.std.proofs.Common.{◌≤◌, ◌^◌, ℤ, ◌+ℤ◌, unsigned_abs, ap, ap₂, sym, ◌∙◌, subst, arith, to_z, of_z, w64}
use Rattle.key_order.specs.Changes.{first_lack}
use Rattle.key_order.specs.KeyOrderState.{KeyOrderState}
use Rattle.key_order.specs.KeyBounds.{is_before_key}
use Rattle.key_order.proofs.KeyOrdering.{is_before_key-back, IsPartitionedBy-back}
use Rattle.key_order.proofs.KeyLacks.{first_lack-empty, first_lack-none, first_lack-some, running-bound}
use Rattle.key_order.proofs.KeyRuns.{small-kept}
use Rattle.key_order.proofs.order.KeyOrder.first_lack.Goals as goal

pub index_of_start-index-requires-clause-first_point : goal.index_of_start-index-requires-clause-first_point
index_of_start-index-requires-clause-first_point c =
    let key = c.args.key in
    c.partition_point-first.ensures.point
    (IsPartitionedBy-back (is_before_key key) (is_before_key-back key) c.self.inside.changes.items c.self.invariant.0)

pub returns-then-last-index : goal.returns-then-last-index
returns-then-last-index c =
    let cs = c.self.inside.changes.items in
    let key = c.args.key in
    let from = c.args.from in
    let order = c.self.invariant.0 in
    let first = c.partition_point-first.ensures.point
    (IsPartitionedBy-back (is_before_key key) (is_before_key-back key) cs order) in
    let after = c.index_of_start-index.ensures.point in
    let last = c.index_of_end-last in
    first_lack-empty cs key from c.args.end c.args.more c.partition_point-first.result c.index_of_start-index.result last.result
    order first after last.ensures.point last.ensures.within
    c.if-last-index.true
    ∙ ap (λ (s : KeyOrderState). first_lack s.changes key from c.args.end c.args.more) c.self.view_is

pub lack_at-requires : goal.lack_at-requires
lack_at-requires c =
    running-bound c.self.inside.changes.items c.index_of_start-index.result c.first_below-crossing.result.index
    (to_z w64 (of_z w64 c.more_held-before.result)) c.first_below-crossing.result.before
    c.self.invariant.1
    (subst (λ (z : ℤ). unsigned_abs z ≤ 2 ^ 54)
    (sym (small-kept c.more_held-before.result
    (omega (arith, c.more_held-before.ensures.bound)))) c.more_held-before.ensures.bound) c.first_below-crossing.ensures.is

pub returns-then-crossing-last : goal.returns-then-crossing-last
returns-then-crossing-last c =
    let cs = c.self.inside.changes.items in
    let key = c.args.key in
    let from = c.args.from in
    let order = c.self.invariant.0 in
    let first = c.partition_point-first.ensures.point
    (IsPartitionedBy-back (is_before_key key) (is_before_key-back key) cs order) in
    let after = c.index_of_start-index.ensures.point in
    let last = c.index_of_end-last in
    let held = small-kept c.sum_between.result (omega (arith, c.sum_between.ensures.bound)) ∙ c.sum_between.ensures.sum in
    let base = small-kept c.more_held-before.result (omega (arith, c.more_held-before.ensures.bound))
    ∙ c.more_held-before.ensures.sum
    ∙ ap₂ (λ (a b : ℤ). a +ℤ b) (small-kept c.args.more (omega (arith, c.requires.bound))) held in
    c.lack_at.ensures
    ∙ first_lack-some cs key from c.args.end c.args.more c.partition_point-first.result c.index_of_start-index.result last.result
    order first after last.ensures.point last.ensures.within
    (to_z w64 (of_z w64 c.more_held-before.result)) base c.first_below-crossing.result.index
    c.first_below-crossing.result.before c.first_below-crossing.ensures c.if-crossing-last.true
    ∙ ap (λ (s : KeyOrderState). first_lack s.changes key from c.args.end c.args.more) c.self.view_is

pub returns-else-crossing-last : goal.returns-else-crossing-last
returns-else-crossing-last c =
    let cs = c.self.inside.changes.items in
    let key = c.args.key in
    let from = c.args.from in
    let order = c.self.invariant.0 in
    let first = c.partition_point-first.ensures.point
    (IsPartitionedBy-back (is_before_key key) (is_before_key-back key) cs order) in
    let after = c.index_of_start-index.ensures.point in
    let last = c.index_of_end-last in
    let held = small-kept c.sum_between.result (omega (arith, c.sum_between.ensures.bound)) ∙ c.sum_between.ensures.sum in
    let base = small-kept c.more_held-before.result (omega (arith, c.more_held-before.ensures.bound))
    ∙ c.more_held-before.ensures.sum
    ∙ ap₂ (λ (a b : ℤ). a +ℤ b) (small-kept c.args.more (omega (arith, c.requires.bound))) held in
    first_lack-none cs key from c.args.end c.args.more c.partition_point-first.result c.index_of_start-index.result last.result
    order first after last.ensures.point last.ensures.within
    (to_z w64 (of_z w64 c.more_held-before.result)) base c.first_below-crossing.result.index
    c.first_below-crossing.result.before c.first_below-crossing.ensures c.if-crossing-last.false
    ∙ ap (λ (s : KeyOrderState). first_lack s.changes key from c.args.end c.args.more) c.self.view_is
