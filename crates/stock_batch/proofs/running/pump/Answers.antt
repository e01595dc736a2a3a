-- Each way out of the loop, and each turn, from what was taken and written so far.
use Rattle.std.proofs.Common.{◌≡◌, ℕ, ◌+◌, ◌++◌, length, take, drop, sym, ap, ◌∙◌, subst, arith, length-append, length-drop}
use Rattle.std.proofs.lemmas.List.{take-append-le, length-take}
use Rattle.std.specs.Io.KnownBytes.{Consumes}
use Rattle.stock_batch.proofs.Ends.{UnderWay-piece, Ran-read_failed, Ran-too_long, Ran-stopped, Ran-ended}
use Rattle.stock_batch.proofs.running.pump.Goals as goal

pub returns-in_default : goal.returns-in_default
returns-in_default g c =
    Ran-read_failed g.S.Source.left g.S.Source.taken g.S.Source.faults g.O.Sink.written g.O.Sink.faults c.args.input.now c.loop-taken.input c.read.new.self c.args.output.now c.loop-taken.output c.args.batch.now.book c.loop-taken.batch c.loop-taken.taken c.loop-taken.invariant.0 c.loop-taken-test.true c.in_default.ensures.left_kept c.in_default.ensures.taken_kept c.in_default.ensures.never_falls c.in_default.ensures.cause

pub returns-then-n-eq0 : goal.returns-then-n-eq0
returns-then-n-eq0 g c =
    let consumed = subst (λ (n : ℕ). Consumes (g.S.Source.left c.loop-taken.input) (g.S.Source.left c.read.new.self) (take n c.read.new.buf)) c.if-n-eq0.true c.in-Ok.ensures.bytes in
    let counted = subst (λ (n : ℕ). g.S.Source.taken c.read.new.self ≡ g.S.Source.taken c.loop-taken.input + n) c.if-n-eq0.true c.in-Ok.ensures.count in
    Ran-ended g.S.Source.left g.S.Source.taken g.S.Source.faults g.O.Sink.written g.O.Sink.faults c.args.input.now c.loop-taken.input c.read.new.self c.args.output.now c.loop-taken.output c.finish.new.output c.args.batch.now.book c.loop-taken.batch c.finish.new.batch.book c.loop-taken.taken c.finish.result c.loop-taken.invariant.0 c.loop-taken-test.true consumed counted (c.in-Ok.ensures.end c.if-n-eq0.true) c.in-Ok.ensures.faults_kept c.finish.ensures.finishes c.finish.ensures.never_falls c.finish.ensures.cause

pub returns-in-Err : goal.returns-in-Err
returns-in-Err g c =
    let rest = drop c.min-room.result c.loop-taken.buffer in
    let front : take c.in-Ok.n (c.read.new.buf ++ rest) ≡ take c.in-Ok.n c.read.new.buf = take-append-le c.in-Ok.n c.read.new.buf rest c.in-Ok.ensures.bound.0 in
    let consumed = subst (Consumes (g.S.Source.left c.loop-taken.input) (g.S.Source.left c.read.new.self)) (sym front) c.in-Ok.ensures.bytes in
    let size : c.in-Ok.n ≡ length (take c.in-Ok.n (c.read.new.buf ++ rest)) = c.in-Ok.ensures.bound.1 ∙ ap length (sym front) in
    Ran-stopped g.S.Source.left g.S.Source.taken g.S.Source.faults g.O.Sink.written g.O.Sink.faults c.args.input.now c.loop-taken.input c.read.new.self c.args.output.now c.loop-taken.output c.step.new.output c.args.batch.now.book c.loop-taken.batch c.step.new.batch.book c.loop-taken.taken c.in-Ok.n _ c.in-Err.end c.loop-taken.invariant.0
    (omega (arith, c.loop-taken.invariant.1, c.loop-taken-test.true, c.in-Ok.ensures.bound.0, c.read.auto.buf, c.piece_size-size.ensures.within, c.piece_size-size.ensures.some, c.min-room.ensures, length-take c.min-room.result c.loop-taken.buffer))
    consumed c.in-Ok.ensures.count size c.in-Ok.ensures.faults_kept c.in-Err.ensures.stops c.step.ensures.never_falls c.in-Err.ensures.cause

pub loop-taken-preserved : goal.loop-taken-preserved
loop-taken-preserved g c =
    let rest = drop c.min-room.result c.loop-taken.buffer in
    let front : take c.in-Ok.n (c.read.new.buf ++ rest) ≡ take c.in-Ok.n c.read.new.buf = take-append-le c.in-Ok.n c.read.new.buf rest c.in-Ok.ensures.bound.0 in
    let consumed = subst (Consumes (g.S.Source.left c.loop-taken.input) (g.S.Source.left c.read.new.self)) (sym front) c.in-Ok.ensures.bytes in
    let size : c.in-Ok.n ≡ length (take c.in-Ok.n (c.read.new.buf ++ rest)) = c.in-Ok.ensures.bound.1 ∙ ap length (sym front) in (
      UnderWay-piece g.S.Source.left g.S.Source.taken g.S.Source.faults g.O.Sink.written g.O.Sink.faults c.args.input.now c.loop-taken.input c.read.new.self c.args.output.now c.loop-taken.output c.step.new.output c.args.batch.now.book c.loop-taken.batch c.step.new.batch c.loop-taken.taken c.in-Ok.n _ c.loop-taken.invariant.0 consumed c.in-Ok.ensures.count size c.in-Ok.ensures.faults_kept c.in_default-step.ensures.takes c.in_default-step.ensures.faults_kept,
      omega (arith, c.loop-taken.invariant.1, c.loop-taken-test.true, c.in-Ok.ensures.bound.0, c.read.auto.buf, c.piece_size-size.ensures.within, c.piece_size-size.ensures.some, c.min-room.ensures, length-take c.min-room.result c.loop-taken.buffer),
      omega (arith, c.loop-taken.invariant.2, c.read.auto.buf, c.piece_size-size.ensures.within, c.piece_size-size.ensures.some, c.min-room.ensures, length-take c.min-room.result c.loop-taken.buffer, length-drop c.min-room.result c.loop-taken.buffer, length-append c.read.new.buf rest),
    )

pub returns : goal.returns
returns g c =
    Ran-too_long g.S.Source.left g.S.Source.taken g.S.Source.faults g.O.Sink.written g.O.Sink.faults c.args.input.now c.loop-taken.input c.args.output.now c.loop-taken.output c.args.batch.now.book c.loop-taken.batch c.loop-taken.taken c.loop-taken.invariant.0 (omega (arith, c.loop-taken.invariant.1, c.loop-taken-test.false))
