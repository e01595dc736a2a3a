-- The bound parts the worths, and the new one stands there.
use Rattle.std.proofs.Common.{◌≡◌, ◌<◌, ◌≤◌, length, false, true, get_or, sym, ◌∙◌, ap, subst, rules, arith}
use Rattle.std.proofs.lemmas.List.{get_or_default}
use Rattle.std.proofs.lemmas.List.Sorted.{IsPartitionPoint-from_clause}
use Rattle.stock_keeper.specs.Worths.{AreInOrder, is_same_spot}
use Rattle.stock_keeper.specs.declared.changes.SpotWorth.{SpotWorth}
use Rattle.stock_keeper.proofs.Putting.{comes_before, IsPoint, parted, put-set, put-insert, AreInOrder-put}
use Rattle.stock_keeper.proofs.worths.put_one.Goals as goal
use Rattle.stock_keeper.proofs.worths.put_one.Goals.{else-index-len-via-then-index-len+else-is_same, else-index-len-via-else-index-len}

pub returns-then-is_same-clause-put : goal.returns-then-is_same-clause-put
returns-then-is_same-clause-put c =
    let row = c.args.row.now in
    let vs = c.args.worths.now.items in
    let index = c.partition_point-index.result in
    let order = subst AreInOrder (sym c.deref.ensures.value) c.requires in
    let shown : IsPoint row.spot c.deref.result.now index =
    IsPartitionPoint-from_clause (comes_before row.spot) _ _ c.partition_point-index.ensures.partitioned (parted row.spot c.deref.result.now order) (λ a r q k. search rules) in
    let point = subst (λ us. IsPoint row.spot us index) c.deref.ensures.value shown in
    let within : index < length vs = omega arith in
    let read = c.index.ensures ∙ get_or_default vs index c.index.result.now row within in
    put-set vs row index within point
    (subst (λ (v : SpotWorth). is_same_spot v.spot row.spot ≡ true) read (sym c.is_same.ensures ∙ c.if-is_same.true))

pub returns-then-is_same-clause-in_order : goal.returns-then-is_same-clause-in_order
returns-then-is_same-clause-in_order c =
    subst AreInOrder (sym (returns-then-is_same-clause-put c)) (AreInOrder-put c.args.worths.now.items c.args.row.now c.requires)

pub returns-in_ok-insert-clause-put : goal.returns-in_ok-insert-clause-put
returns-in_ok-insert-clause-put c =
    let row = c.args.row.now in
    let vs = c.args.worths.now.items in
    let index = c.partition_point-index.result in
    let order = subst AreInOrder (sym c.deref.ensures.value) c.requires in
    let shown : IsPoint row.spot c.deref.result.now index =
    IsPartitionPoint-from_clause (comes_before row.spot) _ _ c.partition_point-index.ensures.partitioned (parted row.spot c.deref.result.now order) (λ a r q k. search rules) in
    let point = subst (λ us. IsPoint row.spot us index) c.deref.ensures.value shown in
    let within : index ≤ length vs = omega (arith, ap length c.deref.ensures.value) in
    let other : index < length vs → is_same_spot (get_or vs index row).spot row.spot ≡ false =
    λ l. elim c.else-index-len.branch [
      | else-index-len-via-then-index-len+else-is_same w ↦ subst (λ (v : SpotWorth). is_same_spot v.spot row.spot ≡ false) (w.index.ensures ∙ get_or_default vs index w.index.result.now row l) (sym w.is_same.ensures ∙ w.if-is_same.false)
      | else-index-len-via-else-index-len w ↦ absurd (omega (arith, l))
    ] in
    c.in_ok-insert.ensures.items ∙ put-insert vs row index within point other

pub returns-in_ok-insert-clause-in_order : goal.returns-in_ok-insert-clause-in_order
returns-in_ok-insert-clause-in_order c =
    subst AreInOrder (sym (returns-in_ok-insert-clause-put c)) (AreInOrder-put c.args.worths.now.items c.args.row.now c.requires)
