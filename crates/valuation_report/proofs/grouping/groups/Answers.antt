-- All entries are groups, and they are the ones that are asked for.
use Rattle.std.proofs.Common.{◌≡◌, List, ◌++◌, map, filter, sym, ap, ◌∙◌}
use Rattle.std.proofs.lemmas.List.{append-nil}
use Rattle.stock_nums.specs.declared.entry.Key.{Key}
use Rattle.stock_nums.specs.declared.entry.Row.{Row}
use Rattle.stock_nums.specs.declared.head.Head.{Head}
use Rattle.stock_model.specs.Sheets.{is_asked_key, keys_of}
use Rattle.valuation_report.specs.Groups.{group_of}
use Rattle.valuation_report.proofs.GroupLists.{entry_group, entries-are}
use Rattle.valuation_report.proofs.grouping.groups.Goals as goal

pub returns : goal.returns
returns c =
    let chosen = c.args.selected.now in
    let gives = c.into_iter-key-iterator.ensures.into_iter_gives in
    let none : c.loop-key.groups ++ map entry_group c.loop-key.key-iterator ≡ c.loop-key.groups =
    ap (λ (entries : List (Key × List Row)). c.loop-key.groups ++ map entry_group entries) c.in-None.ensures.steps.0 ∙ append-nil c.loop-key.groups in
    sym none ∙ c.loop-key.invariant ∙ ap (map entry_group) gives.0
    ∙ entries-are c.args.query.now c.as_slice.result.now c.in_ok-by_key.by_key chosen.rows gives.5 c.in_ok-by_key.ensures
    ∙ ap (λ (heads : List Head). map (group_of chosen.rows) (filter (is_asked_key c.args.query.now heads) (keys_of chosen.rows))) c.as_slice.ensures
