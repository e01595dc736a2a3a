-- Each way out of the loop, and each turn, from what was imported so far.
use Rattle.std.proofs.Common.{◌≡◌, ◌+◌, ◌<◌, List, take, drop, length, sym, subst, arith}
use Rattle.std.proofs.lemmas.List.{take_all}
use Rattle.voucher_import.specs.declared.sheet.SheetVoucher.{SheetVoucher}
use Rattle.stock_import.specs.Runs.{IsUnderWay}
use Rattle.stock_import.proofs.Runs.{front-next, front-rest, under_way-more, run-stopped, run-finished}
use Rattle.stock_import.proofs.running.import_all.Goals as goal

pub returns-in-Err : goal.returns-in-Err
returns-in-Err g c =
    let i = c.loop-voucher.voucher-index in
    let vouchers = c.args.vouchers.now in
    let voucher = c.voucher-item.result in
    let within : i < length vouchers = c.loop-voucher-test.true in
    run-stopped g.O.Sink.written g.O.Sink.faults c.in-Err.end c.args.output.now c.loop-voucher.output c.step.new.output
    c.args.import.now.book c.loop-voucher.import.book c.step.new.import.book vouchers (take i vouchers) (drop (i + 1) vouchers) voucher
    (front-rest vouchers i voucher within c.voucher-item.is) c.loop-voucher.invariant.0 c.in-Err.ensures.stops c.step.ensures.never_falls

pub loop-voucher-preserved : goal.loop-voucher-preserved
loop-voucher-preserved g c =
    let i = c.loop-voucher.voucher-index in
    let vouchers = c.args.vouchers.now in
    let voucher = c.voucher-item.result in
    let within : i < length vouchers = c.loop-voucher-test.true in
    let more =
    under_way-more g.O.Sink.written g.O.Sink.faults c.args.output.now c.loop-voucher.output c.step.new.output c.args.import.now.book
    c.loop-voucher.import.book c.step.new.import.book (take i vouchers) voucher c.loop-voucher.invariant.0 c.in_default.ensures.takes
    c.in_default.ensures.legal c.in_default.ensures.faults_kept in (
      subst (λ (done : List SheetVoucher). IsUnderWay g.O.Sink.written g.O.Sink.faults c.args.output.now c.step.new.output
          c.args.import.now.book c.step.new.import.book done) (sym (front-next vouchers i voucher within c.voucher-item.is)) more,
      c.in_default.ensures.nothing_waits,
    )

pub returns : goal.returns
returns g c =
    let vouchers = c.args.vouchers.now in
    let all : take c.loop-voucher.voucher-index vouchers ≡ vouchers = take_all c.loop-voucher.voucher-index vouchers (omega (arith, c.loop-voucher-test.false)) in
    run-finished g.O.Sink.written g.O.Sink.faults c.finish.result c.args.output.now c.loop-voucher.output c.finish.new.output
    c.args.import.now.book c.loop-voucher.import.book c.finish.new.import.book vouchers
    (subst (λ (done : List SheetVoucher). IsUnderWay g.O.Sink.written g.O.Sink.faults c.args.output.now c.loop-voucher.output
    c.args.import.now.book c.loop-voucher.import.book done) all c.loop-voucher.invariant.0) c.finish.ensures.finishes c.finish.ensures.never_falls
