-- The turn that was made last is one more, or nothing was left to do.
use Rattle.std.proofs.Common.{◌≡◌, ◌+◌, ℕ, Option, sym, ◌∙◌, subst}
use Rattle.std.proofs.lemmas.Bool.{false≢true}
use Rattle.std.proofs.lemmas.Result.{err_from_is_err_and}
use Rattle.repost_worker.specs.Turns.{IsTurnTo, valuations}
use Rattle.repost_worker.specs.declared.turn.Turned.{Turned}
use Rattle.repost_worker.proofs.Running.{AreMade, made-more, run-idle, run-refused, run-full}
use Rattle.repost_worker.proofs.Working.{publishes-more}
use Rattle.repost_worker.proofs.TurnsAhead.{between-work, turns_ahead-less}
use Rattle.repost_worker.proofs.run.make_turns.Goals as goal

pub returns-then-is_idle-clause-run : goal.returns-then-is_idle-clause-run
returns-then-is_idle-clause-run g c =
    let idle = c.is_idle.ensures.0 c.if-is_idle.true in
    let before = c.loop-alloc in
    let after = c.turn_on.new in
    run-idle c.args.limit before.left c.args.book.now.history c.args.build.now c.args.steps.now before.book.history before.build before.steps
    before.invariant.made after.book.history after.build after.steps (c.is_one_left.ensures.0 c.loop-alloc-test.true)
    (subst (λ (t : Turned). IsTurnTo before.book.history before.build t after.book.history after.build) idle c.in_ok-turn_on.ensures.turn)
    (subst (λ (t : Turned). after.steps ≡ before.steps + valuations t) idle c.in_ok-turn_on.ensures.steps)

pub loop-alloc-smaller : goal.loop-alloc-smaller
loop-alloc-smaller g c =
    let before = c.loop-alloc in
    let after = c.turn_on.new in
    turns_ahead-less before.book.history before.build c.in_ok-turn_on.field-0 after.book.history after.build
    (between-work before.book.history before.build before.invariant.work) c.in_ok-turn_on.ensures.turn
    (λ idle. false≢true (sym c.if-is_idle.false ∙ c.is_idle.ensures.1 idle))

pub loop-alloc-preserved : goal.loop-alloc-preserved
loop-alloc-preserved g c =
    let before = c.loop-alloc in
    let after = c.turn_on.new in
    record {
      work = c.in_ok-turn_on.ensures.work;
      made = subst (λ (left : Option ℕ). AreMade c.args.limit left c.args.book.now.history c.args.build.now c.args.steps.now
          after.book.history after.build after.steps) (sym c.one_less-left.ensures)
          (made-more c.args.limit before.left c.args.book.now.history c.args.build.now c.args.steps.now before.book.history before.build
          before.steps before.invariant.made c.in_ok-turn_on.field-0 after.book.history after.build after.steps
          (c.is_one_left.ensures.0 c.loop-alloc-test.true) c.in_ok-turn_on.ensures.turn c.in_ok-turn_on.ensures.steps
          (λ idle. false≢true (sym c.if-is_idle.false ∙ c.is_idle.ensures.1 idle)));
      publishes =
          publishes-more c.args.book.now.history c.args.book.now.keeper before.book.history before.book.keeper before.invariant.publishes
          after.book.history after.book.keeper before.build after.build c.in_ok-turn_on.field-0 c.in_ok-turn_on.ensures.turn
          c.in_ok-turn_on.ensures.done;
    }

pub returns-then-is_idle-clause-publishes : goal.returns-then-is_idle-clause-publishes
returns-then-is_idle-clause-publishes g c =
    let before = c.loop-alloc in
    let after = c.turn_on.new in
    publishes-more c.args.book.now.history c.args.book.now.keeper before.book.history before.book.keeper before.invariant.publishes
    after.book.history after.book.keeper before.build after.build c.in_ok-turn_on.field-0 c.in_ok-turn_on.ensures.turn
    c.in_ok-turn_on.ensures.done

pub returns-in_err-turn_on-clause-run : goal.returns-in_err-turn_on-clause-run
returns-in_err-turn_on-clause-run g c =
    let before = c.loop-alloc in
    let after = c.turn_on.new in
    let told = err_from_is_err_and c.from_residual.result c.from_residual.ensures.1 in
    rw told.1
    (run-refused c.args.limit before.left c.args.book.now.history c.args.build.now c.args.steps.now before.book.history before.build before.steps
    before.invariant.made told.0 after.book.history after.build after.steps (c.is_one_left.ensures.0 c.loop-alloc-test.true)
    c.in_err-turn_on.ensures.book_stays c.in_err-turn_on.ensures.build_stays c.in_err-turn_on.ensures.no_steps)

pub returns-clause-run : goal.returns-clause-run
returns-clause-run g c =
    let before = c.loop-alloc in
    run-full c.args.limit before.left c.args.book.now.history c.args.build.now c.args.steps.now before.book.history before.build before.steps
    before.invariant.made (λ more. false≢true (sym c.loop-alloc-test.false ∙ c.is_one_left.ensures.1 more))
