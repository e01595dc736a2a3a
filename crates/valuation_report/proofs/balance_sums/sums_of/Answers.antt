-- The entries are what is held, and their rows are the balance's.
use Rattle.std.proofs.Common.{◌<◌, ◌^◌, List, length, sym, ap, ◌∙◌, subst, map}
use Rattle.stock_nums.specs.declared.entry.Key.{Key}
use Rattle.stock_nums.specs.declared.head.Head.{Head}
use Rattle.valuation_report.specs.declared.holdings.Holding.{Holding}
use Rattle.valuation_report.specs.BalanceSums.{sums_of}
use Rattle.valuation_report.proofs.GroupLists.{holdings_of, holdings-are}
use Rattle.valuation_report.proofs.OwnRows.{AreHeld-own}
use Rattle.valuation_report.proofs.SummedRows.{AreSumsSoFar, entry_row, entry_rows-are, sums-start, sums-more, sums-room, sums-all}
use Rattle.valuation_report.proofs.balance_sums.sums_of.Goals as goal

pub holdings_by_key-requires-clause-held : goal.holdings_by_key-requires-clause-held
holdings_by_key-requires-clause-held c =
    record { at = λ key. AreHeld-own key c.args.selected.now.rows c.requires.bounded }

pub loop-key-init : goal.loop-key-init
loop-key-init c =
    let gives = c.into_iter-key-iterator.ensures.into_iter_gives in
    sums-start c.args.selected.now.heads c.into_iter-key-iterator.result
    (subst (λ (entries : List (Key × Holding)). length entries < 2 ^ 63) (sym gives.0) gives.1)

pub add-requires : goal.add-requires
add-requires c =
    let room = sums-room c.args.selected.now.heads c.into_iter-key-iterator.result (c.in-Some._key, c.in-Some.holding) c.loop-key._key-iterator
    c.next.new.self c.loop-key.sums c.in-Some.ensures.steps c.loop-key.invariant in
    record { stock = room.0; worth = room.1 }

pub loop-key-preserved : goal.loop-key-preserved
loop-key-preserved c =
    sums-more c.args.selected.now.heads c.into_iter-key-iterator.result c.in-Some._key c.in-Some.holding c.loop-key._key-iterator c.next.new.self
    c.loop-key.sums c.add.new.self c.in-Some.ensures.steps c.add.ensures.added c.add.ensures.stock c.add.ensures.worth c.loop-key.invariant

pub returns : goal.returns
returns c =
    let query = c.args.query.now in
    let chosen = c.args.selected.now in
    let heads = c.as_slice-heads.result.now in
    let rows = chosen.rows in
    let all = c.into_iter-key-iterator.result in
    let gives = c.into_iter-key-iterator.ensures.into_iter_gives in
    let entries = gives.0 ∙ holdings-are query heads c.in_ok-by_key.by_key rows gives.5 c.in_ok-by_key.ensures
    ∙ ap (λ (them : List Head). holdings_of query them rows) c.as_slice-heads.ensures in
    let made = subst (λ (rest : List (Key × Holding)). AreSumsSoFar chosen.heads all rest c.loop-key.sums) c.in-None.ensures.steps.0
    c.loop-key.invariant in
    sums-all chosen.heads all c.loop-key.sums made
    ∙ ap (λ (them : List (Key × Holding)). sums_of (map (entry_row chosen.heads) them)) entries
    ∙ ap sums_of (entry_rows-are query chosen)
