-- A turn that published is followed by one look, and any other one by none.
use Rattle.std.proofs.Common.{◌^◌, ◌≤◌, length, inl, inr, arith}
use Rattle.std.specs.Prelude.{◌⊎◌}
use Rattle.std.proofs.lemmas.Bool.{false≢true}
use Rattle.stock_model.specs.History.{covered_records}
use Rattle.session_laws.specs.Makers.{without_makers}
use Rattle.locked_worker.specs.GatedRuns.{PublishesNothing}
use Rattle.locked_worker.proofs.AfterTurns.{turn-with}
use Rattle.mirrored_worker.proofs.Looking.{covers-worked, work-look, shows-nothing, shows-published, shows-one}
use Rattle.mirrored_worker.proofs.shown_turn.show_turn.Goals as goal
use Rattle.mirrored_worker.proofs.shown_turn.show_turn.Goals.{then-publishes_nothing-via-then-publishes_nothing, then-publishes_nothing-via-else-publishes_nothing+then-gives-ge-MAX_TURNS}

pub returns-then-publishes_nothing-clause-turn : goal.returns-then-publishes_nothing-clause-turn
returns-then-publishes_nothing-clause-turn g c =
    let worked = c.work_one-pass in
    let mid = worked.result.pass.view in
    let why : PublishesNothing worked.result.result ⊎ (2 ^ 57 ≤ length mid.stops) =
    elim c.then-publishes_nothing.branch [
      | then-publishes_nothing-via-then-publishes_nothing w ↦ inl (c.publishes_nothing.ensures.0 w.if-publishes_nothing.true)
      | then-publishes_nothing-via-else-publishes_nothing+then-gives-ge-MAX_TURNS w ↦ inr (omega (arith, w.gives.ensures, w.if-gives-ge-MAX_TURNS.true))
    ] in
    record {
      mid = mid;
      turn = turn-with c.args.pass.view c.args.build.now mid worked.new.build worked.result.result worked.ensures.turn worked.ensures.refused
          worked.ensures.build_stays;
      shows = shows-nothing worked.result.result mid c.args.writer why;
    }

pub returns-then-publishes_nothing-clause-shown : goal.returns-then-publishes_nothing-clause-shown
returns-then-publishes_nothing-clause-shown g c =
    let worked = c.work_one-pass in
    covers-worked worked.result.result c.args.pass.view c.args.build.now worked.result.pass.view worked.new.build c.args.writer worked.ensures.turn
    worked.ensures.refused worked.ensures.build_stays c.requires.shown

pub show_published-pass-requires-clause-shown : goal.show_published-pass-requires-clause-shown
show_published-pass-requires-clause-shown g c =
    let worked = c.work_one-pass in
    covers-worked worked.result.result c.args.pass.view c.args.build.now worked.result.pass.view worked.new.build c.args.writer worked.ensures.turn
    worked.ensures.refused worked.ensures.build_stays c.requires.shown

pub returns-clause-work : goal.returns-clause-work
returns-clause-work g c =
    let worked = c.work_one-pass in
    let showing = c.show_published-pass in
    work-look worked.result.pass.view showing.result.pass.view worked.new.build showing.ensures.look worked.ensures.work

pub returns-clause-turn : goal.returns-clause-turn
returns-clause-turn g c =
    let worked = c.work_one-pass in
    let showing = c.show_published-pass in
    let mid = worked.result.pass.view in
    let new = showing.result.pass.view in
    record {
      mid = mid;
      turn = turn-with c.args.pass.view c.args.build.now mid worked.new.build worked.result.result worked.ensures.turn worked.ensures.refused
          worked.ensures.build_stays;
      shows = shows-published worked.result.result mid c.args.writer new showing.result.writer
          (λ none. false≢true (c.if-publishes_nothing.ensures.1 none)) (omega (arith, c.gives.ensures, c.if-gives-ge-MAX_TURNS.false))
          (record {
            look = showing.ensures.look;
            shows = shows-one showing.result.result (covered_records (without_makers new.seen)) c.args.writer showing.result.writer
                showing.ensures.all_shown showing.ensures.unchanged;
          });
    }
