-- Of a record in force all movements are in force, and of another one none is.
use Rattle.std.proofs.Common.{◌≡◌, ◌≤◌, [], length, filter, inl, inr, sym, ◌∙◌, arith}
use Rattle.std.proofs.lemmas.Result.{IfOk-weaker}
use Rattle.stock_model.specs.Entries.{is_of_record, all_entries}
use Rattle.record_effects.proofs.GoneWith.{none-dead, none-beyond, all-live}
use Rattle.record_effects.proofs.effect.live_entries_of.Goals as goal
use Rattle.record_effects.proofs.effect.live_entries_of.Goals.{then-number-eq0-via-then-number-eq0, then-number-eq0-via-else-number-eq0+then-number-count, then-number-eq0-via-else-number-eq0+else-number-count+then-not-is_live}

pub returns-then-number-eq0 : goal.returns-then-number-eq0
returns-then-number-eq0 c =
    let journal = c.args.journal.now in
    let n = c.args.number.0 in
    let none : filter (is_of_record n) (all_entries journal) ≡ [] = elim c.then-number-eq0.branch [
      | then-number-eq0-via-then-number-eq0 w ↦ none-beyond journal n (inl w.if-number-eq0.true)
      | then-number-eq0-via-else-number-eq0+then-number-count w ↦
          none-beyond journal n (inr (omega (arith, w.if-number-count.true, w.count.ensures.count)))
      | then-number-eq0-via-else-number-eq0+else-number-count+then-not-is_live w ↦
          none-dead journal n (sym w.is_live.ensures ∙ w.if-not-is_live.true)
    ] in
    c.new.ensures ∙ sym none

pub returns : goal.returns
returns c =
    let journal = c.args.journal.now in
    let n = c.args.number.0 in
    let within : n ≤ length journal = omega (arith, c.if-number-count.false, c.count.ensures.count) in
    let own = all-live journal n (omega (arith, c.if-number-eq0.false)) within (sym c.is_live.ensures ∙ c.if-not-is_live.false) in
    IfOk-weaker c.entries_of.result _ _ (λ es is. is ∙ sym own) c.entries_of.ensures
