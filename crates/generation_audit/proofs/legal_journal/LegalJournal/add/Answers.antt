-- A record without a fault is added, and its movements come and go.
use Rattle.std.proofs.Common.{◌≡◌, ◌++◌, ◌∷◌, [], List, None, sym, ap, ◌∙◌, subst, arith}
use Rattle.stock_model.specs.Entries.{entries}
use Rattle.stock_model.specs.Faults.{fault}
use Rattle.stock_model.specs.declared.records.Record.{Record}
use Rattle.stock_laws.proofs.Legality.{NoFault-from}
use Rattle.record_effects.specs.Effects.{gone_with}
use Rattle.generation_audit.specs.LegalJournals.{IsLegalJournal}
use Rattle.record_effects.proofs.Effects.{IsEffect, effect-line, effect-apart, effect-few, effect-enough}
use Rattle.generation_audit.proofs.FaultSteps.{legal-more, IsLegalJournal-from}
use Rattle.generation_audit.proofs.legal_journal.LegalJournal.add.Goals as goal

pub push-requires-clause-room : goal.push-requires-clause-room
push-requires-clause-room c =
    let none : fault c.self.inside.journal c.args.item ≡ None = subst (λ (records : List Record). fault records c.args.item ≡ None) (sym c.self.view_is) c.in-Ok.ensures.sound in
    (NoFault-from c.self.inside.journal c.args.item none).records

pub push-requires-clause-sound : goal.push-requires-clause-sound
push-requires-clause-sound c =
    let none : fault c.self.inside.journal c.args.item ≡ None = subst (λ (records : List Record). fault records c.args.item ≡ None) (sym c.self.view_is) c.in-Ok.ensures.sound in
    (NoFault-from c.self.inside.journal c.args.item none).sound

pub change-requires-clause-apart : goal.change-requires-clause-apart
change-requires-clause-apart c =
    let effect : IsEffect c.self.inside.journal c.args.item c.reserve.new.self.entries c.as_slice.result.now c.as_slice-2.result.now =
    record {
      posted = c.reserve.ensures.unchanged ∙ c.self.invariant.posted;
      come = c.as_slice.ensures ∙ c.in-Ok.ensures.adds ∙ ap (λ (records : List Record). entries records c.args.item) (sym c.self.view_is);
      go = c.as_slice-2.ensures ∙ c.in-Ok.ensures.gone ∙ ap (λ (records : List Record). gone_with records c.args.item) (sym c.self.view_is);
    } in
    effect-apart _ _ _ _ _ effect

pub change-requires-clause-few : goal.change-requires-clause-few
change-requires-clause-few c =
    let none : fault c.self.inside.journal c.args.item ≡ None = subst (λ (records : List Record). fault records c.args.item ≡ None) (sym c.self.view_is) c.in-Ok.ensures.sound in
    let effect : IsEffect c.self.inside.journal c.args.item c.reserve.new.self.entries c.as_slice.result.now c.as_slice-2.result.now =
    record {
      posted = c.reserve.ensures.unchanged ∙ c.self.invariant.posted;
      come = c.as_slice.ensures ∙ c.in-Ok.ensures.adds ∙ ap (λ (records : List Record). entries records c.args.item) (sym c.self.view_is);
      go = c.as_slice-2.ensures ∙ c.in-Ok.ensures.gone ∙ ap (λ (records : List Record). gone_with records c.args.item) (sym c.self.view_is);
    } in
    omega (arith, effect-few _ _ _ _ _ effect (NoFault-from c.self.inside.journal c.args.item none).few)

pub change-requires-clause-enough : goal.change-requires-clause-enough
change-requires-clause-enough c =
    let none : fault c.self.inside.journal c.args.item ≡ None = subst (λ (records : List Record). fault records c.args.item ≡ None) (sym c.self.view_is) c.in-Ok.ensures.sound in
    let effect : IsEffect c.self.inside.journal c.args.item c.reserve.new.self.entries c.as_slice.result.now c.as_slice-2.result.now =
    record {
      posted = c.reserve.ensures.unchanged ∙ c.self.invariant.posted;
      come = c.as_slice.ensures ∙ c.in-Ok.ensures.adds ∙ ap (λ (records : List Record). entries records c.args.item) (sym c.self.view_is);
      go = c.as_slice-2.ensures ∙ c.in-Ok.ensures.gone ∙ ap (λ (records : List Record). gone_with records c.args.item) (sym c.self.view_is);
    } in
    effect-enough _ _ _ _ _ effect none

pub invariant_of-self-2 : goal.invariant_of-self-2
invariant_of-self-2 c =
    let none : fault c.self.inside.journal c.args.item ≡ None = subst (λ (records : List Record). fault records c.args.item ≡ None) (sym c.self.view_is) c.in-Ok.ensures.sound in
    let effect : IsEffect c.self.inside.journal c.args.item c.reserve.new.self.entries c.as_slice.result.now c.as_slice-2.result.now =
    record {
      posted = c.reserve.ensures.unchanged ∙ c.self.invariant.posted;
      come = c.as_slice.ensures ∙ c.in-Ok.ensures.adds ∙ ap (λ (records : List Record). entries records c.args.item) (sym c.self.view_is);
      go = c.as_slice-2.ensures ∙ c.in-Ok.ensures.gone ∙ ap (λ (records : List Record). gone_with records c.args.item) (sym c.self.view_is);
    } in
    subst (λ (journal : List Record). IsLegalJournal journal c.change.new.self.entries) (sym c.in-Ok-push.ensures.kept)
    (IsLegalJournal-from (c.self.inside.journal ++ c.args.item ∷ []) c.change.new.self.entries
    (legal-more [] c.self.inside.journal c.args.item c.self.invariant.legal none)
    (c.change.ensures.changed ∙ effect-line _ _ _ _ _ effect))
