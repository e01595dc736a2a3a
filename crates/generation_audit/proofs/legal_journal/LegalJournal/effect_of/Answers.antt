-- The faults in their order, and what comes and goes where there is none.
use Rattle.std.proofs.Common.{◌≡◌, List, [], ◌∷◌, ◌++◌, Some, None, inr, refl, sym, ◌∙◌, subst, arith}
use Rattle.stock_nums.specs.declared.entry.Entry.{Entry}
use Rattle.stock_model.specs.declared.records.Record.{Record}
use Rattle.stock_model.specs.Enough.{shortage}
use Rattle.stock_model.specs.Faults.{fault_but_short, short_of}
use Rattle.stock_model.specs.PostingOrder.{posting_line}
use Rattle.stock_laws.proofs.Legality.{room-from}
use Rattle.record_effects.proofs.Effects.{IsEffect, effect-line, effect-apart, effect-held, effect-once, effect-few}
use Rattle.generation_audit.proofs.FaultSteps.{fault-at_once, fault-short, fault-none, has_one}
use Rattle.generation_audit.proofs.legal_journal.LegalJournal.effect_of.Goals as goal

pub returns-in-Some-clause-refused : goal.returns-in-Some-clause-refused
returns-in-Some-clause-refused c =
    inr (refl, has_one c.args.self.now c.args.item.now _ (fault-at_once c.args.self.now c.args.item.now _ (sym c.fault_but_short.ensures ∙ c.in-Some.is)))

pub try_change-requires-clause-apart : goal.try_change-requires-clause-apart
try_change-requires-clause-apart c =
    let effect : IsEffect c.self.inside.journal c.args.item.now c.self.inside.movements.entries c.as_slice-adds.result.now c.as_slice-gone.result.now =
    record { posted = c.self.invariant.posted; come = c.as_slice-adds.ensures ∙ c.in-Ok.ensures.adds; go = c.as_slice-gone.ensures ∙ c.in-Ok.ensures.gone } in
    effect-apart _ _ _ _ _ effect

pub try_change-requires-clause-held : goal.try_change-requires-clause-held
try_change-requires-clause-held c =
    let effect : IsEffect c.self.inside.journal c.args.item.now c.self.inside.movements.entries c.as_slice-adds.result.now c.as_slice-gone.result.now =
    record { posted = c.self.invariant.posted; come = c.as_slice-adds.ensures ∙ c.in-Ok.ensures.adds; go = c.as_slice-gone.ensures ∙ c.in-Ok.ensures.gone } in
    effect-held _ _ _ _ _ effect

pub try_change-requires-clause-once : goal.try_change-requires-clause-once
try_change-requires-clause-once c =
    let effect : IsEffect c.self.inside.journal c.args.item.now c.self.inside.movements.entries c.as_slice-adds.result.now c.as_slice-gone.result.now =
    record { posted = c.self.invariant.posted; come = c.as_slice-adds.ensures ∙ c.in-Ok.ensures.adds; go = c.as_slice-gone.ensures ∙ c.in-Ok.ensures.gone } in
    effect-once _ _ _ _ _ effect

pub try_change-requires-clause-few : goal.try_change-requires-clause-few
try_change-requires-clause-few c =
    let none : fault_but_short c.self.inside.journal c.args.item.now ≡ None =
    subst (λ (journal : List Record). fault_but_short journal c.args.item.now ≡ None) (sym c.self.view_is) (sym c.fault_but_short.ensures ∙ c.in_default.is) in
    let effect : IsEffect c.self.inside.journal c.args.item.now c.self.inside.movements.entries c.as_slice-adds.result.now c.as_slice-gone.result.now =
    record { posted = c.self.invariant.posted; come = c.as_slice-adds.ensures ∙ c.in-Ok.ensures.adds; go = c.as_slice-gone.ensures ∙ c.in-Ok.ensures.gone } in
    omega (arith, effect-few _ _ _ _ _ effect (room-from c.self.inside.journal c.args.item.now none).1)

pub returns-in-Ok-try_change-clause-sound : goal.returns-in-Ok-try_change-clause-sound
returns-in-Ok-try_change-clause-sound c =
    let none : fault_but_short c.self.inside.journal c.args.item.now ≡ None =
    subst (λ (journal : List Record). fault_but_short journal c.args.item.now ≡ None) (sym c.self.view_is) (sym c.fault_but_short.ensures ∙ c.in_default.is) in
    let effect : IsEffect c.self.inside.journal c.args.item.now c.self.inside.movements.entries c.as_slice-adds.result.now c.as_slice-gone.result.now =
    record { posted = c.self.invariant.posted; come = c.as_slice-adds.ensures ∙ c.in-Ok.ensures.adds; go = c.as_slice-gone.ensures ∙ c.in-Ok.ensures.gone } in
    let enough : shortage (posting_line (c.self.inside.journal ++ c.args.item.now ∷ [])) ≡ None =
    subst (λ (es : List Entry). shortage es ≡ None) (effect-line _ _ _ _ _ effect) c.in-Ok-try_change.ensures.none_short in
    rw (← c.self.view_is) (fault-none c.self.inside.journal c.args.item.now none enough)

pub returns-in-Err-clause-refused : goal.returns-in-Err-clause-refused
returns-in-Err-clause-refused c =
    let none : fault_but_short c.self.inside.journal c.args.item.now ≡ None =
    subst (λ (journal : List Record). fault_but_short journal c.args.item.now ≡ None) (sym c.self.view_is) (sym c.fault_but_short.ensures ∙ c.in_default.is) in
    let effect : IsEffect c.self.inside.journal c.args.item.now c.self.inside.movements.entries c.as_slice-adds.result.now c.as_slice-gone.result.now =
    record { posted = c.self.invariant.posted; come = c.as_slice-adds.ensures ∙ c.in-Ok.ensures.adds; go = c.as_slice-gone.ensures ∙ c.in-Ok.ensures.gone } in
    let lacks = subst (λ (es : List Entry). shortage es ≡ Some c.in-Err.field-0) (effect-line _ _ _ _ _ effect) c.in-Err.ensures.short in
    inr (
      refl,
      has_one c.args.self.now c.args.item.now (short_of c.in-Err.field-0)
          (rw (← c.self.view_is) (fault-short c.self.inside.journal c.args.item.now c.in-Err.field-0 none lacks)),
    )
