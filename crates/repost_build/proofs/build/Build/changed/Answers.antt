-- The rows of all movements that were valued are those of the replay.
use Rattle.std.proofs.Common.{◌≡◌, ◌<◌, List, length, take, filter, ap, ◌∙◌, arith}
use Rattle.std.proofs.lemmas.List.{take_all}
use Rattle.stock_nums.specs.declared.entry.Entry.{Entry}
use Rattle.stock_model.specs.PostingOrder.{posting_line}
use Rattle.stock_model.specs.Replay.{replay}
use Rattle.stock_model.specs.declared.records.Record.{Record}
use Rattle.repost_fetch.specs.Changes.{is_valued}
use Rattle.repost_frontier.proofs.Published.{run-within}
use Rattle.repost_laws.specs.Builds.{IsClean}
use Rattle.repost_laws.specs.Valuations.{found_rows}
use Rattle.repost_laws.proofs.WholeSteps.{rows-clean, rows-changed}
use Rattle.repost_build.specs.Builds.{IsOf}
use Rattle.repost_build.specs.Readings.{slots_in, found_in, suspects_in, valued_in, base_of, fetches_of, turns_of}
use Rattle.repost_build.specs.Rows.{valued_rows}
use Rattle.repost_build.specs.declared.build.Build.{Build}
use Rattle.repost_build.proofs.Rows.{valued-rows, valued-run}
use Rattle.repost_build.proofs.build.Build.changed.Goals as goal

-- what was valued of a clean build
rows-of : (journal : List Record) (build : Build) → IsOf journal build → IsClean (posting_line journal) (suspects_in build)
    → valued_rows (slots_in build) ≡ filter (is_valued (valued_in build)) (replay journal)
rows-of journal build of clean =
    valued-rows (slots_in build) of.kept.indexed.in_order
    ∙ ap (λ (line : List Entry). filter (is_valued (valued_in build)) (found_rows (found_in build) line)) of.line
    ∙ ap (filter (is_valued (valued_in build)))
    (rows-clean journal (base_of build) (found_in build) (suspects_in build) (valued_in build) (fetches_of build) (turns_of build) of.built clean)

pub loop-index-preserved : goal.loop-index-preserved
loop-index-preserved g c =
    let slots = slots_in c.args.self.now in
    let run = c.run_from-run.result.now in
    let inside : c.loop-index.index < length slots = omega (arith, c.loop-index-test.true, c.len.ensures) in
    record {
      within = run-within slots run c.loop-index.index c.run_from-run.ensures.slots inside;
      rows = valued-run slots run c.loop-index.index c.loop-index.rows c.push_valued.new.rows c.run_from-run.ensures.slots c.loop-index.invariant.rows
          c.in_ok-push_valued.ensures;
    }

pub returns-clause-rows : goal.returns-clause-rows
returns-clause-rows g c =
    let slots = slots_in c.args.self.now in
    let all : take c.loop-index.index slots ≡ slots = take_all c.loop-index.index slots (omega (arith, c.loop-index-test.false, c.len.ensures)) in
    c.loop-index.invariant.rows ∙ ap valued_rows all ∙ rows-of g.journal c.args.self.now c.requires.0 c.requires.1

pub returns-clause-changes : goal.returns-clause-changes
returns-clause-changes g c =
    let build = c.args.self.now in
    record {
      valued = valued_in build;
      rows = returns-clause-rows g c;
      others = rows-changed g.journal (base_of build) (found_in build) (suspects_in build) (valued_in build) (fetches_of build) (turns_of build) c.requires.0.built c.requires.1;
      gone = c.requires.0.gone;
    }
