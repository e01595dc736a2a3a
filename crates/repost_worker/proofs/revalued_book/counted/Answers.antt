-- What a run does to the history.
use Rattle.std.proofs.Common.{ℕ, Option, None, subst}
use Rattle.stock_keeper.specs.declared.fault.KeepFault.{KeepFault}
use Rattle.repost_worker.specs.Runs.{IsRun}
use Rattle.repost_worker.proofs.RunLaws.{covered-run}
use Rattle.repost_worker.proofs.Paces.{in_pace-work, in_pace-limit, stops-limit}
use Rattle.repost_worker.proofs.Settling.{settled-run}
use Rattle.repost_worker.proofs.Working.{turns-legal}
use Rattle.repost_worker.proofs.revalued_book.counted.Goals as goal

pub returns-clause-all : goal.returns-clause-all
returns-clause-all g c all done =
    let run = c.run_turns.ensures.run in
    covered-run c.args.book.now.history c.run_turns.new.book.history c.args.build.now c.run_turns.new.build c.new-steps.result
    c.run_turns.new.steps
    (subst (λ (stopped : Option KeepFault). IsRun None stopped c.args.book.now.history c.args.build.now c.new-steps.result
    c.run_turns.new.book.history c.run_turns.new.build c.run_turns.new.steps) done
    (subst (λ (limit : Option ℕ). IsRun limit c.run_turns.result.stopped c.args.book.now.history c.args.build.now c.new-steps.result
    c.run_turns.new.book.history c.run_turns.new.build c.run_turns.new.steps) all run))

pub returns-clause-legal : goal.returns-clause-legal
returns-clause-legal g c legal =
    let run = c.run_turns.ensures.run in
    turns-legal run.turns c.args.book.now.history c.run_turns.new.book.history c.args.build.now run.last run.run c.requires.work.within legal

pub returns-clause-pace : goal.returns-clause-pace
returns-clause-pace g c =
    in_pace-limit c.args.turns c.run_turns.result.stopped c.args.book.now c.run_turns.new.book c.args.build.now
    c.run_turns.new.build c.new-steps.result c.run_turns.new.steps c.requires.work c.run_turns.ensures.run

pub returns-clause-in_pace : goal.returns-clause-in_pace
returns-clause-in_pace g c = in_pace-work c.run_turns.new.book c.run_turns.new.build c.run_turns.ensures.work

pub returns-clause-stops : goal.returns-clause-stops
returns-clause-stops g c =
    stops-limit c.run_turns.result.stopped c.args.turns c.args.book.now c.run_turns.new.book c.args.build.now
    c.run_turns.new.build c.new-steps.result c.run_turns.new.steps c.requires.work c.run_turns.ensures.run c.run_turns.ensures.due

pub returns-clause-once : goal.returns-clause-once
returns-clause-once g c all done same =
    let run = c.run_turns.ensures.run in
    settled-run c.args.book.now.history c.run_turns.new.book.history c.args.build.now c.run_turns.new.build c.new-steps.result
    c.run_turns.new.steps same
    (subst (λ (stopped : Option KeepFault). IsRun None stopped c.args.book.now.history c.args.build.now c.new-steps.result
    c.run_turns.new.book.history c.run_turns.new.build c.run_turns.new.steps) done
    (subst (λ (limit : Option ℕ). IsRun limit c.run_turns.result.stopped c.args.book.now.history c.args.build.now c.new-steps.result
    c.run_turns.new.book.history c.run_turns.new.build c.run_turns.new.steps) all run))
