-- The peer was handed back in a turn of the pass.
use Rattle.std.proofs.Common.{[], ◌∷◌, ◌++◌, ap, ◌∙◌, subst, sym, length, ◌<◌}
use Rattle.shared_listener.specs.declared.step.Step.TheVariants.{HungUp}
use Rattle.shared_listener.specs.Steps.{comes, hangs}
use Rattle.turn_lock.specs.Histories.{made_by}
use Rattle.desk_connections.proofs.WayTurns.{IsWay-turned, made-added, begins-added, has_peer-taken}
use Rattle.desk_connections.proofs.handing_back.give_back.Goals as goal

pub returns-clause-way : goal.returns-clause-way
returns-clause-way g c =
    let noted = c.hang_up.ensures.noted in
    let taken = ap (λ s. s.log) c.book.ensures.value ∙ c.take-held.ensures.history in
    let given = c.give.ensures in
    IsWay-turned c.args.way.view c.give.result.view c.take-held.result.taken c.hang_up.new.self.log c.requires.way
    (ap (λ v. v.first) given.rest ∙ ap (λ v. v.first) c.take-held.ensures.pass.1) c.take-held.ensures.begins
    (begins-added c.take-held.result.taken c.hang_up.new.self.log ((c.args.number.0, HungUp noted.0) ∷ [])
    (noted.1 ∙ ap (λ l. l ++ (c.args.number.0, HungUp noted.0) ∷ []) taken)) given.seen.0

pub returns-clause-noted : goal.returns-clause-noted
returns-clause-noted g c =
    let noted = c.hang_up.ensures.noted in
    let taken = ap (λ s. s.log) c.book.ensures.value ∙ c.take-held.ensures.history in
    let before = ap (λ v. v.made) c.take-held.ensures.pass.1 in (
      noted.0,
      made-added c.take-held.result.taken c.hang_up.new.self.log ((c.args.number.0, HungUp noted.0) ∷ []) c.take-held.result.view.made
          c.give.result.view.made (noted.1 ∙ ap (λ l. l ++ (c.args.number.0, HungUp noted.0) ∷ []) taken) c.give.ensures.made
          ∙ ap (λ l. l ++ (c.args.number.0, HungUp noted.0) ∷ []) before,
      noted.2,
    )
