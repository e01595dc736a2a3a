-- The next movement is due what the definition says, which is stored, or is the first of which it is not.
use Rattle.std.proofs.Common.{◌≡◌, ◌+◌, ◌++◌, ◌∷◌, [], take, drop, List, Some, sym, ap, ◌∙◌, subst}
use Rattle.std.proofs.lemmas.List.{take_all}
use Rattle.stock_nums.specs.declared.entry.Entry.{Entry}
use Rattle.stock_nums.specs.declared.entry.Row.{Row}
use Rattle.stock_nums.specs.declared.entry.Worth.{Worth}
use Rattle.stock_model.specs.Bounds.{AreBounded}
use Rattle.stock_model.specs.PostingOrder.{posting_line}
use Rattle.stock_model.specs.Replay.{valued, value_next, rows_of}
use Rattle.stock_model.specs.declared.records.Record.{Record}
use Rattle.stock_keeper.specs.declared.changes.SpotWorth.{SpotWorth}
use Rattle.cost_links.specs.Ready.{IsReady}
use Rattle.cost_links.proofs.ReadyRows.{IsReady-legal, replay-all}
use Rattle.generation_audit.specs.RightRows.{stored_worth, row_with, due, AreRight}
use Rattle.generation_audit.proofs.RightSteps.{rows-right, right-next, rows-next, parted}
use Rattle.generation_audit.proofs.comparing.walk_line.Goals as goal

-- what is due over the rows so far is due by the definition
due-is : (journal : List Record) (worths : List SpotWorth) (past : List Entry) (before : List Row) (e : Entry) → before ≡ rows_of journal past → AreRight journal worths past
    → (valued journal before e).worth ≡ due journal worths past e
due-is journal worths past before e rows right =
    ap (λ (rs : List Row). (valued journal rs e).worth) (rows ∙ sym (rows-right journal worths past right))

pub due-due-requires : goal.due-due-requires
due-due-requires c =
    let journal = c.args.records.now in
    let e = c.entry-item.result in
    let ready = subst (λ (rows : List Row). IsReady journal rows e) (sym c.loop-entry.invariant.rows)
    (IsReady-legal journal c.args.line.now c.loop-entry.entry-index e c.requires.legal c.requires.line c.loop-entry-test.true c.entry-item.is) in
    subst (λ (items : List Record). IsReady items c.loop-entry.before e) (sym c.in_ok-charges.ensures) ready

pub with-requires : goal.with-requires
with-requires c =
    let journal = c.args.records.now in
    let e = c.entry-item.result in
    let before = c.loop-entry.before in
    let ready = subst (λ (rows : List Row). IsReady journal rows e) (sym c.loop-entry.invariant.rows)
    (IsReady-legal journal c.args.line.now c.loop-entry.entry-index e c.requires.legal c.requires.line c.loop-entry-test.true c.entry-item.is) in
    let due_is : c.due-due.result ≡ (valued journal before e).worth = c.due-due.ensures ∙ ap (λ (items : List Record). (valued items before e).worth) c.in_ok-charges.ensures in
    subst (λ (w : Worth). AreBounded (before ++ row_with e w ∷ [])) (sym due_is) ready.bounded

pub returns-in-Some : goal.returns-in-Some
returns-in-Some c =
    let journal = c.args.records.now in
    let worths = c.args.worths.now in
    let line = c.args.line.now in
    let i = c.loop-entry.entry-index in
    let e = c.entry-item.result in
    let before = c.loop-entry.before in
    let due_is : c.due-due.result ≡ due journal worths (take i line) e =
    c.due-due.ensures ∙ ap (λ (items : List Record). (valued items before e).worth) c.in_ok-charges.ensures
    ∙ due-is journal worths (take i line) before e c.loop-entry.invariant.rows c.loop-entry.invariant.right in
    let kept : stored_worth c.in_ok-stored.stored.worths.now e ≡ stored_worth worths e = ap (λ (ws : List SpotWorth). stored_worth ws e) c.in_ok-stored.ensures in
    record {
      past = take i line;
      e = e;
      rest = drop (i + 1) line;
      parts = sym c.requires.line ∙ parted line i e c.loop-entry-test.true c.entry-item.is;
      right = c.loop-entry.invariant.right;
      wrong = λ right. c.in-Some.ensures.wrong (kept ∙ right ∙ ap Some (sym due_is));
      spot = c.in-Some.ensures.spot;
      stored = c.in-Some.ensures.stored ∙ kept;
      due = c.in-Some.ensures.due ∙ ap Some due_is;
    }

pub loop-entry-preserved : goal.loop-entry-preserved
loop-entry-preserved c =
    let journal = c.args.records.now in
    let worths = c.args.worths.now in
    let line = c.args.line.now in
    let i = c.loop-entry.entry-index in
    let e = c.entry-item.result in
    let before = c.loop-entry.before in
    let valued_is : c.due-due.result ≡ (valued journal before e).worth = c.due-due.ensures ∙ ap (λ (items : List Record). (valued items before e).worth) c.in_ok-charges.ensures in
    let due_is = valued_is ∙ due-is journal worths (take i line) before e c.loop-entry.invariant.rows c.loop-entry.invariant.right in
    let kept : stored_worth c.in_ok-stored.stored.worths.now e ≡ stored_worth worths e = ap (λ (ws : List SpotWorth). stored_worth ws e) c.in_ok-stored.ensures in
    let right = sym kept ∙ c.wrong_at.ensures.right c.in_default.is ∙ ap Some due_is in
    record {
      rows = c.in_ok-before.ensures
          ∙ ap (λ (w : Worth). before ++ row_with e w ∷ []) valued_is
          ∙ ap (λ (rows : List Row). value_next journal rows e) c.loop-entry.invariant.rows
          ∙ sym (rows-next journal line i e c.loop-entry-test.true c.entry-item.is);
      right = right-next journal worths line i e c.loop-entry-test.true c.entry-item.is c.loop-entry.invariant.right right;
    }

pub returns : goal.returns
returns c =
    let journal = c.args.records.now in
    let worths = c.args.worths.now in
    let line = c.args.line.now in
    let i = c.loop-entry.entry-index in
    let whole : take i line ≡ posting_line journal = take_all i line c.loop-entry-test.false ∙ c.requires.line in
    let right = subst (AreRight journal worths) whole c.loop-entry.invariant.right in
    let rows = c.into_rows.ensures ∙ c.loop-entry.invariant.rows in (
      right,
      rows ∙ ap (rows_of journal) whole ∙ sym (rows-right journal worths (posting_line journal) right),
      rows ∙ replay-all journal line i c.requires.line c.loop-entry-test.false,
    )
