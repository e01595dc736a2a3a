-- The faults in their order, and what comes and goes where there is none.
use Rattle.std.proofs.Common.{◌≡◌, List, [], ◌∷◌, ◌++◌, Some, None, inr, sym, ap, ◌∙◌, subst, arith}
use Rattle.stock_nums.specs.declared.entry.Entry.{Entry}
use Rattle.stock_model.specs.declared.records.Record.{Record}
use Rattle.stock_model.specs.Enough.{shortage}
use Rattle.stock_model.specs.Entries.{entries}
use Rattle.stock_model.specs.Faults.{fault_but_short}
use Rattle.stock_model.specs.PostingOrder.{posting_line}
use Rattle.generation_book.specs.State.{BookState}
use Rattle.generation_book.specs.Book.{deeds}
use Rattle.record_effects.specs.Effects.{gone_with}
use Rattle.stock_laws.proofs.Legality.{room-from}
use Rattle.generation_book.proofs.Books.{history-records, fault-at_once, fault-short, fault-none}
use Rattle.record_effects.proofs.Effects.{IsEffect, effect-line, effect-apart, effect-held, effect-once, effect-few}
use Rattle.generation_book.proofs.book.Book.effect_of.Goals as goal

pub returns-in-Some-clause-fault : goal.returns-in-Some-clause-fault
returns-in-Some-clause-fault g c = inr (fault-at_once _ c.args.item.now c.in-Some.fault (sym c.fault_but_short.ensures ∙ c.in-Some.is))

pub try_change-requires-clause-apart : goal.try_change-requires-clause-apart
try_change-requires-clause-apart g c =
    let effect : IsEffect c.self.inside.journal c.args.item.now c.self.inside.movements.entries c.as_slice-adds.result.now c.as_slice-gone.result.now =
    record { posted = c.self.invariant.0.posted; come = c.as_slice-adds.ensures ∙ c.in-Ok.ensures.adds; go = c.as_slice-gone.ensures ∙ c.in-Ok.ensures.gone } in
    effect-apart _ _ _ _ _ effect

pub try_change-requires-clause-held : goal.try_change-requires-clause-held
try_change-requires-clause-held g c =
    let effect : IsEffect c.self.inside.journal c.args.item.now c.self.inside.movements.entries c.as_slice-adds.result.now c.as_slice-gone.result.now =
    record { posted = c.self.invariant.0.posted; come = c.as_slice-adds.ensures ∙ c.in-Ok.ensures.adds; go = c.as_slice-gone.ensures ∙ c.in-Ok.ensures.gone } in
    effect-held _ _ _ _ _ effect

pub try_change-requires-clause-once : goal.try_change-requires-clause-once
try_change-requires-clause-once g c =
    let effect : IsEffect c.self.inside.journal c.args.item.now c.self.inside.movements.entries c.as_slice-adds.result.now c.as_slice-gone.result.now =
    record { posted = c.self.invariant.0.posted; come = c.as_slice-adds.ensures ∙ c.in-Ok.ensures.adds; go = c.as_slice-gone.ensures ∙ c.in-Ok.ensures.gone } in
    effect-once _ _ _ _ _ effect

pub try_change-requires-clause-few : goal.try_change-requires-clause-few
try_change-requires-clause-few g c =
    let told : deeds c.self.inside.events.items c.self.inside.journal ≡ c.args.self.now.history = ap (λ (b : BookState). b.history) c.self.view_is in
    let records = history-records _ _ _ _ _ c.args.self.now.history c.self.invariant.0 told in
    let none : fault_but_short c.self.inside.journal c.args.item.now ≡ None =
    subst (λ (journal : List Record). fault_but_short journal c.args.item.now ≡ None) records (sym c.fault_but_short.ensures ∙ c.in_default.is) in
    let effect : IsEffect c.self.inside.journal c.args.item.now c.self.inside.movements.entries c.as_slice-adds.result.now c.as_slice-gone.result.now =
    record { posted = c.self.invariant.0.posted; come = c.as_slice-adds.ensures ∙ c.in-Ok.ensures.adds; go = c.as_slice-gone.ensures ∙ c.in-Ok.ensures.gone } in
    omega (arith, effect-few _ _ _ _ _ effect (room-from c.self.inside.journal c.args.item.now none).1)

pub returns-in-Ok-try_change-clause-sound : goal.returns-in-Ok-try_change-clause-sound
returns-in-Ok-try_change-clause-sound g c =
    let told : deeds c.self.inside.events.items c.self.inside.journal ≡ c.args.self.now.history = ap (λ (b : BookState). b.history) c.self.view_is in
    let records = history-records _ _ _ _ _ c.args.self.now.history c.self.invariant.0 told in
    let none : fault_but_short c.self.inside.journal c.args.item.now ≡ None =
    subst (λ (journal : List Record). fault_but_short journal c.args.item.now ≡ None) records (sym c.fault_but_short.ensures ∙ c.in_default.is) in
    let effect : IsEffect c.self.inside.journal c.args.item.now c.self.inside.movements.entries c.as_slice-adds.result.now c.as_slice-gone.result.now =
    record { posted = c.self.invariant.0.posted; come = c.as_slice-adds.ensures ∙ c.in-Ok.ensures.adds; go = c.as_slice-gone.ensures ∙ c.in-Ok.ensures.gone } in
    let enough : shortage (posting_line (c.self.inside.journal ++ c.args.item.now ∷ [])) ≡ None =
    subst (λ (es : List Entry). shortage es ≡ None) (effect-line _ _ _ _ _ effect) c.in-Ok-try_change.ensures.none_short in
    rw records (fault-none c.self.inside.journal c.args.item.now none enough)

pub returns-in-Ok-try_change-clause-adds : goal.returns-in-Ok-try_change-clause-adds
returns-in-Ok-try_change-clause-adds g c =
    let told : deeds c.self.inside.events.items c.self.inside.journal ≡ c.args.self.now.history = ap (λ (b : BookState). b.history) c.self.view_is in
    let records = history-records _ _ _ _ _ c.args.self.now.history c.self.invariant.0 told in
    c.in-Ok.ensures.adds ∙ ap (λ (journal : List Record). entries journal c.args.item.now) (sym records)

pub returns-in-Ok-try_change-clause-gone : goal.returns-in-Ok-try_change-clause-gone
returns-in-Ok-try_change-clause-gone g c =
    let told : deeds c.self.inside.events.items c.self.inside.journal ≡ c.args.self.now.history = ap (λ (b : BookState). b.history) c.self.view_is in
    let records = history-records _ _ _ _ _ c.args.self.now.history c.self.invariant.0 told in
    c.in-Ok.ensures.gone ∙ ap (λ (journal : List Record). gone_with journal c.args.item.now) (sym records)

pub returns-in-Err-clause-fault : goal.returns-in-Err-clause-fault
returns-in-Err-clause-fault g c =
    let told : deeds c.self.inside.events.items c.self.inside.journal ≡ c.args.self.now.history = ap (λ (b : BookState). b.history) c.self.view_is in
    let records = history-records _ _ _ _ _ c.args.self.now.history c.self.invariant.0 told in
    let none : fault_but_short c.self.inside.journal c.args.item.now ≡ None =
    subst (λ (journal : List Record). fault_but_short journal c.args.item.now ≡ None) records (sym c.fault_but_short.ensures ∙ c.in_default.is) in
    let effect : IsEffect c.self.inside.journal c.args.item.now c.self.inside.movements.entries c.as_slice-adds.result.now c.as_slice-gone.result.now =
    record { posted = c.self.invariant.0.posted; come = c.as_slice-adds.ensures ∙ c.in-Ok.ensures.adds; go = c.as_slice-gone.ensures ∙ c.in-Ok.ensures.gone } in
    let lacks = subst (λ (es : List Entry). shortage es ≡ Some c.in-Err.shortage) (effect-line _ _ _ _ _ effect) c.in-Err.ensures.short in
    inr (rw (records, c.fault_of.ensures) (fault-short c.self.inside.journal c.args.item.now c.in-Err.shortage none lacks))
