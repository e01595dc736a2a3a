-- One more turn was made, and perhaps shown.
use Rattle.std.proofs.Common.{◌^◌, ◌<◌, [], ◌∷◌, length, refl, ◌∙◌, subst, arith}
use Rattle.turn_lock.proofs.Lists.{begins_self, begins_through}
use Rattle.locked_worker.specs.GatedRuns.{Answered}
use Rattle.locked_worker.specs.declared.gate.Go.{Go}
use Rattle.locked_worker.proofs.AfterTurns.{rest-through, not-stopped}
use Rattle.mirrored_worker.proofs.Looking.{shown-rest}
use Rattle.mirrored_worker.proofs.MirroredRuns.{starts, goes-on}
use Rattle.mirrored_worker.proofs.run_mirrored.run_mirrored.Goals as goal

pub loop-init : goal.loop-init
loop-init g c = record {
  same_lock = refl;
  work = c.requires.work;
  rest = refl;
  shown = c.requires.shown;
  grows = begins_self c.args.writer;
  way = starts c.args.pass.view c.args.build.now c.args.writer c.args.steps.now (g.G.Gate.told c.args.gate.now);
}

pub loop-preserved : goal.loop-preserved
loop-preserved g c =
    let before = c.loop in
    let turn = c.show_turn-turn in
    let few : length before.pass.view.stops < 2 ^ 57 = omega (arith, c.gives.ensures, c.if-gives-ge-MAX_TURNS.false) in
    record {
      same_lock = turn.ensures.same_lock ∙ before.invariant.same_lock;
      work = turn.ensures.work;
      rest = rest-through c.args.pass.view before.pass.view turn.result.pass.view before.invariant.rest
          (shown-rest turn.result.result before.pass.view before.build before.writer turn.result.pass.view turn.new.build turn.result.writer
          turn.ensures.turn);
      shown = turn.ensures.shown;
      grows = begins_through c.args.writer before.writer turn.result.writer before.invariant.grows turn.ensures.grows;
      way = goes-on c.args.pass.view c.args.build.now c.args.writer c.args.steps.now (g.G.Gate.told c.args.gate.now) before.last before.pass.view
          before.build before.writer before.steps (g.G.Gate.told before.gate) before.invariant.way turn.result.result turn.result.pass.view
          turn.new.build turn.result.writer turn.new.steps (g.G.Gate.told c.next-in-loop.new.self) few
          (subst (λ (go : Go). Answered ((before.last, go) ∷ []) (g.G.Gate.told before.gate) (g.G.Gate.told c.next-in-loop.new.self))
          (not-stopped c.next-in-loop.result c.in_default.not-Stop) c.next-in-loop.ensures.told)
          turn.ensures.turn turn.ensures.steps;
    }
