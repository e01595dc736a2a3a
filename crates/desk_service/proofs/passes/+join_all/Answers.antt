-- The last pass is joined, and then the rest.
use Rattle.std.proofs.Common.{◌≤◌, sym, ap, ◌∙◌, subst, arith}
use Rattle.std.specs.Prelude.{All}
use Rattle.turn_lock.specs.Histories.{BeginsWith}
use Rattle.turn_lock.specs.Passes.{PassView}
use Rattle.turn_lock.proofs.Lists.{begins_through}
use Rattle.desk_service.specs.Passes.{joined_all}
use Rattle.desk_service.proofs.SplitOff.{joined_all-last, All-last}
use Rattle.desk_service.proofs.passes.+join_all.Goals as goal

pub returns-in-Some-clause-joined : goal.returns-in-Some-clause-joined
returns-in-Some-clause-joined g t c =
    let rest = c.pop.new.self.items in
    c.join_all.ensures.joined ∙ ap (λ v. joined_all v rest) c.join.ensures.joined
    ∙ sym (joined_all-last c.args.pass.view rest c.in-Some.other) ∙ ap (joined_all c.args.pass.view) (sym c.in-Some.ensures.items)

pub returns-in-Some-clause-saw_all : goal.returns-in-Some-clause-saw_all
returns-in-Some-clause-saw_all g t c =
    let rest = c.pop.new.self.items in
    let last = c.in-Some.other in
    let P = λ (other : PassView _). BeginsWith c.join_all.result.view.seen other.view.seen in
    subst (All P) (sym c.in-Some.ensures.items)
    (All-last P rest last c.join_all.ensures.saw_all
    (begins_through last.view.seen c.join.result.view.seen c.join_all.result.view.seen c.join.ensures.saw_both.1 c.join_all.ensures.saw_own))

pub returns-in-Some-clause-no_fewer_faults : goal.returns-in-Some-clause-no_fewer_faults
returns-in-Some-clause-no_fewer_faults g t c = omega (arith, c.join.ensures.no_fewer_faults.0, c.join_all.ensures.no_fewer_faults)

pub returns-in-Some-clause-counted_all : goal.returns-in-Some-clause-counted_all
returns-in-Some-clause-counted_all g t c =
    let rest = c.pop.new.self.items in
    let P = λ (other : PassView _). other.view.seen_faults ≤ c.join_all.result.view.seen_faults in
    subst (All P) (sym c.in-Some.ensures.items)
    (All-last P rest c.in-Some.other c.join_all.ensures.counted_all
    (omega (arith, c.join.ensures.no_fewer_faults.1, c.join_all.ensures.no_fewer_faults)))
