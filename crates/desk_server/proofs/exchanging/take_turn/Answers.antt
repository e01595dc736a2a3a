-- The turn takes what the pass had seen and more, and gives back what was kept besides.
use Rattle.std.proofs.Common.{◌≡◌, ℕ, ◌+◌, ◌-◌, [], ◌∷◌, ◌++◌, sym, ap, ◌∙◌, subst, arith}
use Rattle.std.specs.Prelude.{All, Ok, Some, length}
use Rattle.stock_model.specs.declared.deeds.Deed.{Deed}
use Rattle.turn_lock.specs.Histories.{past}
use Rattle.turn_lock.specs.declared.view.Start.{Start}
use Rattle.turn_lock.specs.declared.view.View.{View}
use Rattle.generation_book.specs.State.{BookState}
use Rattle.generation_book.specs.Follows.{Follows}
use Rattle.generation_book.proofs.Following.{follows-through}
use Rattle.session_laws.specs.Makers.{with_makers}
use Rattle.session_laws.proofs.FromLock.{grown-from_lock, own-from_lock, IsTurn-from_lock}
use Rattle.desk_server.proofs.Over.{comes-to}
use Rattle.desk_server.proofs.exchanging.take_turn.Goals as goal

pub give-pass-requires-clause-grown : goal.give-pass-requires-clause-grown
give-pass-requires-clause-grown g c =
    let over = c.respond-answered.ensures.answers _ (comes-to c.respond-answered.result c.args.close) in
    let took = ap (λ (b : BookState). with_makers b.history) c.book.ensures.value ∙ c.take-held.ensures.history in
    grown-from_lock c.book.result.now.history c.respond-answered.new.book.history over.kept c.take-held.result.taken took over.grows

pub give-pass-requires-clause-own : goal.give-pass-requires-clause-own
give-pass-requires-clause-own g c =
    let over = c.respond-answered.ensures.answers _ (comes-to c.respond-answered.result c.args.close) in
    let took = ap (λ (b : BookState). with_makers b.history) c.book.ensures.value ∙ c.take-held.ensures.history in
    let number = c.requires.number ∙ sym (ap (λ v. v.number) c.take-held.ensures.pass.1) in
    subst (λ (n : ℕ). All (λ (e : ℕ × Deed). e.0 ≡ n) (past c.take-held.result.taken (with_makers c.respond-answered.new.book.history))) number
    (own-from_lock c.book.result.now.history c.respond-answered.new.book.history over.kept c.take-held.result.taken took over.grows
    c.args.desk.0 c.args.request over.answer over.answers)

pub give-pass-requires-clause-no_fewer_faults : goal.give-pass-requires-clause-no_fewer_faults
give-pass-requires-clause-no_fewer_faults g c =
    omega (
      arith,
      c.take-held.ensures.faults,
      ap (λ (b : BookState). b.keeper.faults) c.book.ensures.value,
      (c.respond-answered.ensures.answers _ (comes-to c.respond-answered.result c.args.close)).faults.never_falls,
    )

pub give-pass-requires-clause-follows : goal.give-pass-requires-clause-follows
give-pass-requires-clause-follows g c =
    let over = c.respond-answered.ensures.answers _ (comes-to c.respond-answered.result c.args.close) in
    let start = c.args.pass.view.start in
    let before = subst (Follows start) (sym c.book.ensures.value) c.take-held.ensures.follows in
    subst (λ (s : Start). Follows s c.respond-answered.new.book) (sym (ap (λ (v : View Deed). v.start) c.take-held.ensures.pass.1))
    (follows-through start c.book.result.now c.respond-answered.new.book before over.follows)

pub returns-clause-rest : goal.returns-clause-rest
returns-clause-rest g c =
    let new = c.give-pass.result.view in
    c.give-pass.ensures.rest
    ∙ ap (λ (v : View Deed). record v { seen = new.seen; seen_faults = new.seen_faults; made = new.made; stops = new.stops; faults = new.faults })
    c.take-held.ensures.pass.1

pub returns-clause-responds : goal.returns-clause-responds
returns-clause-responds g c =
    let over = c.respond-answered.ensures.answers _ c.finish.ensures in
    let held = c.take-held in
    let before = c.book.result.now in
    let after = c.respond-answered.new.book in
    let same = held.ensures.pass.1 in
    let took = ap (λ (b : BookState). with_makers b.history) c.book.ensures.value ∙ held.ensures.history in
    let counted = ap (λ (b : BookState). b.keeper.faults) c.book.ensures.value ∙ held.ensures.faults in
    let given = c.give-pass.ensures in
    record {
      exchange = record { asked = Ok c.args.request; answer = over.answer; stop = Some (length held.result.taken); kept = over.kept };
      turn = IsTurn-from_lock c.args.desk.0 c.args.pass.view c.give-pass.result.view c.args.request over.answer before.history after.history
          over.kept held.result.taken held.result.taken_faults after.keeper.faults
          held.ensures.begins took over.grows over.answers
          (λ so_far. omega (arith, over.faults.failed so_far, counted))
          held.ensures.no_fewer_faults
          (omega (arith, over.faults.never_falls, counted))
          given.seen.1
          given.seen.0
          (given.made ∙ ap (λ (v : View Deed). v.made ++ past held.result.taken (with_makers after.history)) same)
          (given.stops ∙ ap (λ (v : View Deed). v.stops ++ length held.result.taken ∷ []) same)
          (given.faults ∙ ap (λ (v : View Deed). v.faults + (after.keeper.faults - held.result.taken_faults)) same);
      response_is = over.response_is;
      covers = omega (arith, over.covers, c.covered-covered.ensures);
    }
