-- Each way out of the loop, and each turn, from what was taken so far.
use Rattle.std.proofs.Common.{◌≡◌, ℕ, ◌+◌, ◌++◌, ◌≤◌, length, take, drop, Err, sym, ap, ◌∙◌, subst, arith, length-append, length-drop}
use Rattle.std.proofs.lemmas.List.{take-append-le, length-take}
use Rattle.std.specs.Io.KnownBytes.{Consumes}
use Rattle.sheet_io.specs.declared.taking.TheConstants.{MAX_SHEET}
use Rattle.sheet_io.specs.declared.taking.TakeFault.TheVariants.{TooLong, NoMemory}
use Rattle.sheet_io.proofs.Takings.{nothing-taken, more-taken, taking-stopped, taking-failed, taking-ended}
use Rattle.sheet_io.proofs.taking.take_through.Goals as goal

pub loop-bytes-init : goal.loop-bytes-init
loop-bytes-init g c = (
  rw c.new-bytes.ensures.items (nothing-taken g.S.Source.left g.S.Source.taken g.S.Source.faults c.args.input.now),
  omega (arith, ap length c.new-bytes.ensures.items),
  c.requires,
)

pub returns-in_default : goal.returns-in_default
returns-in_default g c =
    taking-failed g.S.Source.left g.S.Source.taken g.S.Source.faults c.args.input.now c.loop-bytes.input c.read.new.self
    c.loop-bytes.bytes.items c.loop-bytes.invariant.0 (omega (arith, c.loop-bytes-test.true, c.len.ensures)) c.in_default.ensures.left_kept
    c.in_default.ensures.taken_kept c.in_default.ensures.never_falls c.in_default.ensures.cause

pub returns-then-n-eq0 : goal.returns-then-n-eq0
returns-then-n-eq0 g c =
    let consumed =
    subst (λ (n : ℕ). Consumes (g.S.Source.left c.loop-bytes.input) (g.S.Source.left c.read.new.self) (take n c.read.new.buf))
    c.if-n-eq0.true c.in-Ok.ensures.bytes in
    let counted =
    subst (λ (n : ℕ). g.S.Source.taken c.read.new.self ≡ g.S.Source.taken c.loop-bytes.input + n) c.if-n-eq0.true c.in-Ok.ensures.count in
    rw c.from_vec.ensures
    (taking-ended g.S.Source.left g.S.Source.taken g.S.Source.faults c.args.input.now c.loop-bytes.input c.read.new.self
    c.loop-bytes.bytes.items c.loop-bytes.invariant.0 (omega (arith, c.loop-bytes-test.true, c.len.ensures)) consumed counted (c.in-Ok.ensures.end c.if-n-eq0.true)
    c.in-Ok.ensures.faults_kept)

pub returns-in_default-extend_from_slice : goal.returns-in_default-extend_from_slice
returns-in_default-extend_from_slice g c =
    let rest = drop c.min-room.result c.loop-bytes.buffer in
    let front : take c.in-Ok.n (c.read.new.buf ++ rest) ≡ take c.in-Ok.n c.read.new.buf =
    take-append-le c.in-Ok.n c.read.new.buf rest c.in-Ok.ensures.bound.0 in
    let consumed =
    subst (Consumes (g.S.Source.left c.loop-bytes.input) (g.S.Source.left c.read.new.self)) (sym front) c.in-Ok.ensures.bytes in
    let size : c.in-Ok.n ≡ length (take c.in-Ok.n (c.read.new.buf ++ rest)) = c.in-Ok.ensures.bound.1 ∙ ap length (sym front) in
    let more =
    more-taken g.S.Source.left g.S.Source.taken g.S.Source.faults c.args.input.now c.loop-bytes.input c.read.new.self
    c.loop-bytes.bytes.items (take c.in-Ok.n (c.read.new.buf ++ rest)) c.in-Ok.n c.loop-bytes.invariant.0 consumed
    c.in-Ok.ensures.count size c.in-Ok.ensures.faults_kept in
    let few : length (c.loop-bytes.bytes.items ++ take c.in-Ok.n (c.read.new.buf ++ rest)) ≤ MAX_SHEET =
    omega (
      arith,
      c.loop-bytes.invariant.1,
      c.loop-bytes-test.true,
      c.in-Ok.ensures.bound.0,
      c.read.auto.buf,
      c.min-room.ensures,
      length-take c.min-room.result c.loop-bytes.buffer,
      size,
      length-append c.loop-bytes.bytes.items (take c.in-Ok.n (c.read.new.buf ++ rest)),
    ) in
    taking-stopped g.S.Source.left g.S.Source.taken g.S.Source.faults c.args.input.now c.read.new.self
    (c.loop-bytes.bytes.items ++ take c.in-Ok.n (c.read.new.buf ++ rest)) (Err NoMemory) more (few, more.no_fault)

pub loop-bytes-preserved : goal.loop-bytes-preserved
loop-bytes-preserved g c =
    let rest = drop c.min-room.result c.loop-bytes.buffer in
    let front : take c.in-Ok.n (c.read.new.buf ++ rest) ≡ take c.in-Ok.n c.read.new.buf =
    take-append-le c.in-Ok.n c.read.new.buf rest c.in-Ok.ensures.bound.0 in
    let consumed =
    subst (Consumes (g.S.Source.left c.loop-bytes.input) (g.S.Source.left c.read.new.self)) (sym front) c.in-Ok.ensures.bytes in
    let size : c.in-Ok.n ≡ length (take c.in-Ok.n (c.read.new.buf ++ rest)) = c.in-Ok.ensures.bound.1 ∙ ap length (sym front) in
    let more =
    more-taken g.S.Source.left g.S.Source.taken g.S.Source.faults c.args.input.now c.loop-bytes.input c.read.new.self
    c.loop-bytes.bytes.items (take c.in-Ok.n (c.read.new.buf ++ rest)) c.in-Ok.n c.loop-bytes.invariant.0 consumed
    c.in-Ok.ensures.count size c.in-Ok.ensures.faults_kept in
    let few : length (c.loop-bytes.bytes.items ++ take c.in-Ok.n (c.read.new.buf ++ rest)) ≤ MAX_SHEET =
    omega (
      arith,
      c.loop-bytes.invariant.1,
      c.loop-bytes-test.true,
      c.in-Ok.ensures.bound.0,
      c.read.auto.buf,
      c.min-room.ensures,
      length-take c.min-room.result c.loop-bytes.buffer,
      size,
      length-append c.loop-bytes.bytes.items (take c.in-Ok.n (c.read.new.buf ++ rest)),
    ) in (
      rw c.in-Ok-extend_from_slice.ensures.items more,
      rw c.in-Ok-extend_from_slice.ensures.items few,
      omega (
        arith,
        c.loop-bytes.invariant.2,
        c.read.auto.buf,
        c.min-room.ensures,
        length-take c.min-room.result c.loop-bytes.buffer,
        length-drop c.min-room.result c.loop-bytes.buffer,
        length-append c.read.new.buf rest,
      ),
    )

pub returns : goal.returns
returns g c =
    taking-stopped g.S.Source.left g.S.Source.taken g.S.Source.faults c.args.input.now c.loop-bytes.input c.loop-bytes.bytes.items
    (Err TooLong) c.loop-bytes.invariant.0
    (omega (arith, c.loop-bytes.invariant.1, c.loop-bytes-test.false), c.loop-bytes.invariant.0.no_fault)
