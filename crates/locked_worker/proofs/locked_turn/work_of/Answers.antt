-- No suspect was found, and the build is as it was.
use Rattle.std.proofs.Common.{rules, ◌≡◌, List, sym, ap, subst}
use Rattle.stock_model.specs.PostingOrder.{posting_line}
use Rattle.stock_model.specs.declared.records.Record.{Record}
use Rattle.std.specs.Prelude.{is_some, take}
use Rattle.session_laws.specs.Makers.{without_makers}
use Rattle.repost_laws.specs.Builds.{IsClean}
use Rattle.repost_build.specs.Builds.{IsOf}
use Rattle.repost_build.specs.Readings.{suspects_in, target_of}
use Rattle.repost_worker.specs.Turns.{IsCleanOf}
use Rattle.repost_worker.proofs.Works.{work-still, clean-still}
use Rattle.locked_worker.proofs.LockedTurns.{turn-locked}
use Rattle.locked_worker.proofs.locked_turn.work_of.Given
use Rattle.locked_worker.proofs.locked_turn.work_of.Goals as goal

pub work_at_stop-requires : goal.work_at_stop-requires
work_at_stop-requires g c κs within =
    let history = without_makers c.args.pass.view.seen in
    let old = c.args.build.now in
    let mid = c.turn.new.self in
    let none = ap is_some c.in-None.is in
    let same = c.turn.ensures.unchanged none in
    let records = c.requires.1.1.1.0 in
    let of = subst (λ (rs : List Record). IsOf (take (target_of old) rs) mid) (sym records) c.turn.ensures.of in
    let clean = subst (λ (rs : List Record). IsClean (posting_line (take (target_of old) rs)) (suspects_in old)) (sym records)
    (c.turn.ensures.clean none) in (
      search rules,
      (
        search rules,
        (
          records,
          (
            c.requires.1.1.1.1.0,
            (
              c.requires.1.1.1.1.1.0,
              (
                c.requires.1.1.1.1.1.1.0,
                (work-still history old mid same c.requires.1.1.1.1.1.1.1 of, clean-still history old mid same clean),
              ),
            ),
          ),
        ),
      ),
    )

pub returns-in-None-clause-turn : goal.returns-in-None-clause-turn
returns-in-None-clause-turn g c =
    let old = c.args.build.now in
    let none = ap is_some c.in-None.is in
    let clean = subst (λ (rs : List Record). IsClean (posting_line (take (target_of old) rs)) (suspects_in old)) (sym c.requires.1.1.1.0)
    (c.turn.ensures.clean none) in
    turn-locked old c.turn.new.self (c.turn.ensures.unchanged none) c.args.pass.view c.requires.1.1.1.1.1.1.1 clean c.work_at_stop.result.result _
    c.work_at_stop.new.build c.work_at_stop.ensures.turn
