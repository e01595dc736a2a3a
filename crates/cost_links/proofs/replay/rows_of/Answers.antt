-- The next movement is ready, since the journal is legal.
use Rattle.std.proofs.Common.{List, sym, ◌∙◌, subst, arith}
use Rattle.stock_nums.specs.declared.entry.Row.{Row}
use Rattle.stock_model.specs.declared.records.Record.{Record}
use Rattle.stock_laws.proofs.Legality.{IsHeld-legal}
use Rattle.stock_laws.proofs.LegalReplay.{AreBounded-replay}
use Rattle.cost_links.specs.Ready.{IsReady}
use Rattle.cost_links.proofs.ReadyRows.{IsReady-legal, replay-all}
use Rattle.cost_links.proofs.replay.rows_of.Goals as goal

pub new-requires : goal.new-requires
new-requires c = omega (arith, (IsHeld-legal c.args.records.now c.requires.legal).records)

pub with-requires : goal.with-requires
with-requires c =
    let records = c.args.records.now in
    let e = c.entry-item.result in
    let ready = IsReady-legal records c.args.line.now c.loop-entry.entry-index e c.requires.legal c.requires.line c.loop-entry-test.true c.entry-item.is in
    subst (λ (journal : List Record). IsReady journal c.loop-entry.replayed e) (sym c.in_ok-charges.ensures) (subst (λ (rows : List Row). IsReady records rows e) (sym c.loop-entry.invariant) ready)

pub returns-clause-rows : goal.returns-clause-rows
returns-clause-rows c = c.into_rows.ensures ∙ c.loop-entry.invariant ∙ replay-all c.args.records.now c.args.line.now c.loop-entry.entry-index c.requires.line c.loop-entry-test.false

pub returns-clause-bounded : goal.returns-clause-bounded
returns-clause-bounded c = AreBounded-replay c.args.records.now c.requires.legal

pub returns-in_err-charges-clause-bounded : goal.returns-in_err-charges-clause-bounded
returns-in_err-charges-clause-bounded c = AreBounded-replay c.args.records.now c.requires.legal

pub returns-in_err-replayed-clause-bounded : goal.returns-in_err-replayed-clause-bounded
returns-in_err-replayed-clause-bounded c = AreBounded-replay c.args.records.now c.requires.legal
