-- Each way in which the loop, or what follows it, ends.
use Rattle.std.proofs.Common.{◌≤◌, length, drop, Some, sym, ◌∙◌, subst, arith}
use Rattle.std.proofs.lemmas.Bool.{false≢true}
use Rattle.stock_keeper.proofs.SpotOrder.{same-from_neither}
use Rattle.kept_tables.specs.Differences.{IsTold}
use Rattle.kept_tables.specs.declared.differing.Difference.{Difference}
use Rattle.kept_tables.proofs.ApartSteps.{stands, stored_first, replayed_first, changed_here, same_here, stored_left, replayed_left, none_left}
use Rattle.kept_tables.proofs.differing.first_apart.Goals as goal
use Rattle.kept_tables.proofs.differing.first_apart.Goals.{then-loop-index-test+else-index-replayed, else-loop-index-test}

pub returns-then-is_before : goal.returns-then-is_before
returns-then-is_before c =
    let i = c.loop-index.index in
    let vs = c.args.stored.now in
    let ws = c.args.replayed.now in
    let at = stands vs i c.requires.stored c.loop-index-test.true in
    let made_at = stands ws i c.requires.replayed c.if-index-replayed.true in
    c.loop-index.invariant.told (Some c.stored_alone.result)
    (subst (λ (d : Difference). IsTold (drop i vs) (drop i ws) (Some d)) (sym c.stored_alone.ensures)
    (stored_first vs ws i _ _ at made_at (sym c.is_before.ensures ∙ c.if-is_before.true)))

pub returns-then-is_before-2 : goal.returns-then-is_before-2
returns-then-is_before-2 c =
    let i = c.loop-index.index in
    let vs = c.args.stored.now in
    let ws = c.args.replayed.now in
    let at = stands vs i c.requires.stored c.loop-index-test.true in
    let made_at = stands ws i c.requires.replayed c.if-index-replayed.true in
    c.loop-index.invariant.told (Some c.replayed_alone.result)
    (subst (λ (d : Difference). IsTold (drop i vs) (drop i ws) (Some d)) (sym c.replayed_alone.ensures)
    (replayed_first vs ws i _ _ at made_at (sym c.is_before-in-loop-index.ensures ∙ c.if-is_before-2.true)))

pub returns-then-not-is_same_worth : goal.returns-then-not-is_same_worth
returns-then-not-is_same_worth c =
    let i = c.loop-index.index in
    let vs = c.args.stored.now in
    let ws = c.args.replayed.now in
    let at = stands vs i c.requires.stored c.loop-index-test.true in
    let made_at = stands ws i c.requires.replayed c.if-index-replayed.true in
    let one = same-from_neither _ _ (sym c.is_before.ensures ∙ c.if-is_before.false)
    (sym c.is_before-in-loop-index.ensures ∙ c.if-is_before-2.false) in
    c.loop-index.invariant.told (Some c.changed.result)
    (subst (λ (d : Difference). IsTold (drop i vs) (drop i ws) (Some d)) (sym c.changed.ensures)
    (changed_here vs ws i _ _ at made_at one (λ same. false≢true (sym c.if-not-is_same_worth.true ∙ c.is_same_worth.ensures.1 same))))

pub loop-index-preserved : goal.loop-index-preserved
loop-index-preserved c =
    let i = c.loop-index.index in
    let vs = c.args.stored.now in
    let ws = c.args.replayed.now in
    let at = stands vs i c.requires.stored c.loop-index-test.true in
    let made_at = stands ws i c.requires.replayed c.if-index-replayed.true in
    let one = same-from_neither _ _ (sym c.is_before.ensures ∙ c.if-is_before.false)
    (sym c.is_before-in-loop-index.ensures ∙ c.if-is_before-2.false) in
    record {
      within = omega arith;
      made_within = omega arith;
      told = λ told rest. c.loop-index.invariant.told told
          (same_here vs ws i _ _ told at made_at one (c.is_same_worth.ensures.0 c.if-not-is_same_worth.false) rest);
    }

pub returns-then-index-stored : goal.returns-then-index-stored
returns-then-index-stored c =
    let i = c.loop-index.index in
    let vs = c.args.stored.now in
    let ws = c.args.replayed.now in
    let past : length ws ≤ i = elim c.loop-index-test.branch [
      | then-loop-index-test+else-index-replayed w ↦ w.if-index-replayed.false
      | else-loop-index-test w ↦ absurd (omega arith)
    ] in
    c.loop-index.invariant.told (Some c.stored_alone-then-index-stored.result)
    (subst (λ (d : Difference). IsTold (drop i vs) (drop i ws) (Some d)) (sym c.stored_alone-then-index-stored.ensures)
    (stored_left vs ws i _ (stands vs i c.requires.stored c.if-index-stored.true) past))

pub returns-then-index-replayed-2 : goal.returns-then-index-replayed-2
returns-then-index-replayed-2 c =
    let i = c.loop-index.index in
    let vs = c.args.stored.now in
    let ws = c.args.replayed.now in
    c.loop-index.invariant.told (Some c.replayed_alone-then-index-replayed-2.result)
    (subst (λ (d : Difference). IsTold (drop i vs) (drop i ws) (Some d)) (sym c.replayed_alone-then-index-replayed-2.ensures)
    (replayed_left vs ws i _ (stands ws i c.requires.replayed c.if-index-replayed-2.true) c.if-index-stored.false))

pub returns : goal.returns
returns c =
    c.loop-index.invariant.told _
    (none_left c.args.stored.now c.args.replayed.now c.loop-index.index c.if-index-stored.false c.if-index-replayed-2.false)
