-- Those that stand side by side are passed up to the first that was valued, and with it.
use Rattle.std.proofs.Common.{◌+◌, set, sym, ap, ◌∙◌, arith}
use Rattle.repost_frontier.specs.declared.slot.Slot.{Slot}
use Rattle.repost_frontier.proofs.Published.{published-run, published-found, ahead-within, run-within}
use Rattle.repost_frontier.proofs.frontier.forget_next.Goals as goal

pub overflow_add-index : goal.overflow_add-index
overflow_add-index c =
    let found = sym c.first_revalued.ensures ∙ c.in-Some.is in
    let within = ahead-within c.args.list.now.items c.run_from-run.result.now c.args.index c.in-Some.ahead c.run_from-run.ensures.items c.requires.within found in
    omega (arith, within, c.requires.few)

pub overflow_add-result : goal.overflow_add-result
overflow_add-result c =
    let found = sym c.first_revalued.ensures ∙ c.in-Some.is in
    let within = ahead-within c.args.list.now.items c.run_from-run.result.now c.args.index c.in-Some.ahead c.run_from-run.ensures.items c.requires.within found in
    omega (arith, within, c.requires.few)

pub overflow_add-result-in-Some : goal.overflow_add-result-in-Some
overflow_add-result-in-Some c =
    let found = sym c.first_revalued.ensures ∙ c.in-Some.is in
    let within = ahead-within c.args.list.now.items c.run_from-run.result.now c.args.index c.in-Some.ahead c.run_from-run.ensures.items c.requires.within found in
    omega (arith, within, c.requires.few)

pub overflow_add-result-in-None : goal.overflow_add-result-in-None
overflow_add-result-in-None c =
    let within = run-within c.args.list.now.items c.run_from-run.result.now c.args.index c.run_from-run.ensures.items c.requires.within in
    omega (arith, within, c.requires.few)

pub returns-in-Some-clause-slots : goal.returns-in-Some-clause-slots
returns-in-Some-clause-slots c slots is =
    let found = sym c.first_revalued.ensures ∙ c.in-Some.is in
    let made = c.set.ensures.items ∙ ap (λ (s : Slot). set c.args.list.now.items (c.args.index + c.in-Some.ahead) s) c.as_published-slot.ensures in
    made ∙ published-found slots c.args.list.now.items c.run_from-run.result.now c.args.index c.in-Some.ahead c.index-run-ahead.result is
    c.run_from-run.ensures.items c.requires.within found c.index-run-ahead.is

pub returns-in-None-clause-slots : goal.returns-in-None-clause-slots
returns-in-None-clause-slots c slots is =
    let none = sym c.first_revalued.ensures ∙ c.in-None.is in
    published-run slots c.args.list.now.items c.run_from-run.result.now c.args.index is c.run_from-run.ensures.items none
