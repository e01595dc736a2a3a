-- The sum of what movements count first falls below nothing at the first suspect.
use Rattle.std.proofs.Common.{ℕ, pos, ap, sym, ◌∙◌, subst}
use Rattle.std.specs.List.{find}
use Rattle.block_list.specs.Sums.{IsFirstBelow}
use Rattle.repost_frontier.specs.FrontierState.{FrontierState}
use Rattle.repost_frontier.specs.Slots.{is_suspect, suspect_weight}
use Rattle.repost_frontier.proofs.FirstSuspect.{find-first_below}
use Rattle.repost_frontier.proofs.frontier.Frontier.first.Goals as goal

pub returns-clause-first : goal.returns-clause-first
returns-clause-first c =
    let inside = c.self.inside.list.items in
    let below = subst (λ (n : ℕ). IsFirstBelow suspect_weight inside 0 n (pos 0) c.first_below-found.result.index c.first_below-found.result.before)
    c.len.ensures c.first_below-found.ensures in
    c.get.ensures ∙ sym (find-first_below inside c.first_below-found.result.index c.first_below-found.result.before below)
    ∙ ap (λ (s : FrontierState). find is_suspect s.slots) c.self.view_is
