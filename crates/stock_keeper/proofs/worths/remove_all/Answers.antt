-- What is kept is what passes, and it stays in order.
use Rattle.std.proofs.Common.{sym, subst, rules, not}
use Rattle.std.proofs.lemmas.Fn.{filter_same}
use Rattle.std.proofs.lemmas.List.Kept.{AllPairs-filter}
use Rattle.stock_keeper.specs.Worths.{AreInOrder, IsBefore, is_among}
use Rattle.stock_keeper.specs.declared.changes.SpotWorth.{SpotWorth}
use Rattle.stock_keeper.proofs.worths.remove_all.Goals as goal

pub returns-clause-rest : goal.returns-clause-rest
returns-clause-rest c = filter_same _ _ _ (λ x b f' k. search rules) _ _ c.retain.ensures.filtered

pub returns-clause-in_order : goal.returns-clause-in_order
returns-clause-in_order c =
    subst AreInOrder (sym (returns-clause-rest c)) (AllPairs-filter IsBefore (λ (w : SpotWorth). not (is_among c.args.spots.now w.spot)) c.args.worths.now.items c.requires)
