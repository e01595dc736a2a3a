-- A record without a fault is kept: the keeper has it first.
use Rattle.std.proofs.Common.{◌≡◌, ℕ, ◌+◌, ◌-◌, take, [], ◌∷◌, ◌++◌, length-append, ap, ◌∙◌, sym, subst, arith, length, None, List}
use Rattle.stock_io.specs.Counts.{raised}
use Rattle.stock_keeper.specs.Changed.{Follows}
use Rattle.stock_keeper.specs.declared.tables.Tables.{Tables}
use Rattle.stock_model.specs.declared.records.Record.{Record}
use Rattle.stock_model.specs.declared.deeds.Deed.{Deed}
use Rattle.stock_model.specs.declared.deeds.Deed.TheVariants as deed
use Rattle.stock_model.specs.Faults.{fault}
use Rattle.stock_model.specs.declared.faults.PostFault.{PostFault}
use Rattle.std.proofs.lemmas.List.{take-append-le}
use Rattle.stock_model.specs.History.{records, accepted, IsLegal}
use Rattle.stock_model.specs.Masters.{heads}
use Rattle.stock_model.specs.Entries.{entries}
use Rattle.stock_laws.proofs.Histories.{records-append}
use Rattle.stock_laws.proofs.Legality.{NoFault-from}
use Rattle.kept_tables.specs.Kept.{IsKept}
use Rattle.kept_tables.specs.TablesOf.{tables_of}
use Rattle.kept_tables.proofs.KeptRecords.{Follows-next}
use Rattle.generation_book.specs.State.{BookState}
use Rattle.generation_book.specs.Book.{deeds}
use Rattle.record_effects.specs.Effects.{gone_with}
use Rattle.generation_book.specs.Handed.{IsHanded}
use Rattle.generation_book.specs.Refusals.{IsRefusalOf, HasTriedFor, HasAskedFor}
use Rattle.generation_book.specs.declared.events.Event.{Event}
use Rattle.generation_book.specs.declared.events.Event.TheVariants.{Kept}
use Rattle.generation_book.proofs.Books.{records-deeds, history-records, IsBook-kept, deeds-kept, legal-kept, at_once-none, popped}
use Rattle.generation_book.proofs.ClosedBooks.{closed-kept}
use Rattle.record_effects.proofs.Effects.{IsEffect, effect-line, effect-apart, effect-few, effect-enough}
use Rattle.generation_book.proofs.KeptBooks.{kept-appended, kept-unappended}
use Rattle.generation_book.proofs.OwnFaults.{refused-for, refused-uncalled, refused-by, tried-uncalled, tried-by, asked-uncalled, asked-by}
use Rattle.generation_book.proofs.book.Book.post.Goals as goal

pub returns-in-Err-clause-fault : goal.returns-in-Err-clause-fault
returns-in-Err-clause-fault g c = refused-for (records c.args.self.now.history) c.args.item c.in-Err.fault c.in-Err.ensures.fault

pub returns-in-Err-clause-refused : goal.returns-in-Err-clause-refused
returns-in-Err-clause-refused g c = refused-uncalled (records c.args.self.now.history) c.args.item c.in-Err.fault c.args.self.now.keeper c.in-Err.ensures.fault

pub returns-in-Err-clause-tried : goal.returns-in-Err-clause-tried
returns-in-Err-clause-tried g c =
    tried-uncalled (records c.args.self.now.history) c.args.item c.in-Err.fault (deed.Kept c.args.item) c.args.self.now.tried c.in-Err.ensures.fault

pub returns-in-Err-clause-asked : goal.returns-in-Err-clause-asked
returns-in-Err-clause-asked g c =
    asked-uncalled (records c.args.self.now.history) c.args.item c.in-Err.fault c.args.self.now.calls c.in-Err.ensures.fault

pub returns-in_default-clause-fault : goal.returns-in_default-clause-fault
returns-in_default-clause-fault g c = at_once-none _ c.args.item c.in-Ok.ensures.sound

pub returns-then-is_err-clause-fault : goal.returns-then-is_err-clause-fault
returns-then-is_err-clause-fault g c = at_once-none _ c.args.item c.in-Ok.ensures.sound

pub returns-then-is_err-2-clause-fault : goal.returns-then-is_err-2-clause-fault
returns-then-is_err-2-clause-fault g c = at_once-none _ c.args.item c.in-Ok.ensures.sound

pub returns-in_default-push-clause-fault : goal.returns-in_default-push-clause-fault
returns-in_default-push-clause-fault g c = at_once-none _ c.args.item c.in-Ok.ensures.sound

pub push-requires-clause-room : goal.push-requires-clause-room
push-requires-clause-room g c =
    let told : deeds c.self.inside.events.items c.self.inside.journal ≡ c.args.self.now.history = ap (λ (b : BookState). b.history) c.self.view_is in
    let held = history-records _ _ _ _ _ c.args.self.now.history c.self.invariant.0 told in
    let none : fault c.self.inside.journal c.args.item ≡ None = subst (λ (records : List Record). fault records c.args.item ≡ None) held c.in-Ok.ensures.sound in
    (NoFault-from c.self.inside.journal c.args.item none).records

pub push-requires-clause-sound : goal.push-requires-clause-sound
push-requires-clause-sound g c =
    let told : deeds c.self.inside.events.items c.self.inside.journal ≡ c.args.self.now.history = ap (λ (b : BookState). b.history) c.self.view_is in
    let held = history-records _ _ _ _ _ c.args.self.now.history c.self.invariant.0 told in
    let none : fault c.self.inside.journal c.args.item ≡ None = subst (λ (records : List Record). fault records c.args.item ≡ None) held c.in-Ok.ensures.sound in
    (NoFault-from c.self.inside.journal c.args.item none).sound

pub append-requires : goal.append-requires
append-requires g c t tells =
    let told : deeds c.self.inside.events.items c.self.inside.journal ≡ c.args.self.now.history = ap (λ (b : BookState). b.history) c.self.view_is in
    let held = history-records _ _ _ _ _ c.args.self.now.history c.self.invariant.0 told in
    let history = c.args.self.now.history in
    let kept = subst (λ (h : List Deed). IsKept (g.K.Keeper.tells c.self.inside.keeper) (g.K.Keeper.may_leave c.self.inside.keeper) h c.self.inside.tried.events) told c.self.invariant.1 in
    let next : c.in-Ok-push.number.0 ≡ accepted history + 1 =
    omega (arith, c.in-Ok-push.ensures.number, ap length c.in-Ok-push.ensures.kept, length-append c.self.inside.journal (c.args.item ∷ []), ap length held) in
    subst (λ (ts : Tables). Follows ts c.in-Ok-push.number) (sym (kept.told t tells))
    (subst (λ (n : ℕ). Follows (tables_of history) (record { 0 = n })) (sym next) (Follows-next history))

pub invariant_of-self-in-Err-append : goal.invariant_of-self-in-Err-append
invariant_of-self-in-Err-append g c =
    let told : deeds c.self.inside.events.items c.self.inside.journal ≡ c.args.self.now.history = ap (λ (b : BookState). b.history) c.self.view_is in
    let held = history-records _ _ _ _ _ c.args.self.now.history c.self.invariant.0 told in
    let none : fault c.self.inside.journal c.args.item ≡ None = subst (λ (records : List Record). fault records c.args.item ≡ None) held c.in-Ok.ensures.sound in
    let history = c.args.self.now.history in
    let kept = subst (λ (h : List Deed). IsKept (g.K.Keeper.tells c.self.inside.keeper) (g.K.Keeper.may_leave c.self.inside.keeper) h c.self.inside.tried.events) told c.self.invariant.1 in
    let legal = subst IsLegal told c.self.invariant.0.legal in
    let next : c.in-Ok-push.number.0 ≡ accepted history + 1 =
    omega (arith, c.in-Ok-push.ensures.number, ap length c.in-Ok-push.ensures.kept, length-append c.self.inside.journal (c.args.item ∷ []), ap length held) in
    let text = subst (IsHanded (g.K.Keeper.tells c.self.inside.keeper) (g.K.Keeper.may_leave c.self.inside.keeper) c.args.item) (sym c.as_slice.ensures) c.in-Ok-handed_text.ensures in
    let journal : c.pop.new.self ≡ c.self.inside.journal =
    c.pop.ensures ∙ ap (λ (rs : List Record). take (length rs - 1) rs) c.in-Ok-push.ensures.kept ∙ popped c.self.inside.journal c.args.item in
    let now = kept-unappended history c.self.inside.tried.events (g.K.Keeper.tells c.self.inside.keeper) (g.K.Keeper.may_leave c.self.inside.keeper)
    (g.K.Keeper.tells c.append.new.self) (g.K.Keeper.may_leave c.append.new.self) kept c.in-Ok-push.number c.args.item c.as_slice.result.now
    next legal text (legal-kept history c.args.item legal c.in-Ok.ensures.sound) c.in-Err-append.ensures.tables_kept c.in-Err-append.ensures.crash in
    rw (c.reserve.ensures.items, journal, c.reserve-2.ensures.unchanged, c.with_kept-tried.ensures) (
      c.self.invariant.0,
      subst (λ (h : List Deed). IsKept (g.K.Keeper.tells c.append.new.self) (g.K.Keeper.may_leave c.append.new.self) h
          (c.self.inside.tried.events ++ deed.Kept c.args.item ∷ [])) (sym told) now,
      c.self.invariant.2,
      c.self.invariant.3,
    )

pub returns-in-Err-append-clause-fault : goal.returns-in-Err-append-clause-fault
returns-in-Err-append-clause-fault g c =
    subst (IsRefusalOf (records c.args.self.now.history) c.args.item) (sym c.refusal_of.ensures)
    (refused-by (records c.args.self.now.history) c.args.item c.in-Err-append.fault c.in-Ok.ensures.sound)

pub returns-in-Err-append-clause-tried : goal.returns-in-Err-append-clause-tried
returns-in-Err-append-clause-tried g c =
    let before : c.self.inside.tried.events ≡ c.args.self.now.tried = ap (λ (b : BookState). b.tried) c.self.view_is in
    subst (λ (f : PostFault). HasTriedFor f (deed.Kept c.args.item) c.args.self.now.tried c.with_kept-tried.result.events) (sym c.refusal_of.ensures)
    (tried-by c.in-Err-append.fault (deed.Kept c.args.item) c.args.self.now.tried c.with_kept-tried.result.events
    (c.with_kept-tried.ensures ∙ ap (λ (ds : List Deed). ds ++ deed.Kept c.args.item ∷ []) before))

pub returns-in-Err-append-clause-asked : goal.returns-in-Err-append-clause-asked
returns-in-Err-append-clause-asked g c =
    let before : c.self.inside.calls ≡ c.args.self.now.calls = ap (λ (b : BookState). b.calls) c.self.view_is in
    subst (λ (f : PostFault). HasAskedFor f c.args.self.now.calls c.one_more-self-inside.result) (sym c.refusal_of.ensures)
    (asked-by c.in-Err-append.fault c.args.self.now.calls c.one_more-self-inside.result (c.one_more-self-inside.ensures ∙ ap raised before))

pub change-requires-clause-apart : goal.change-requires-clause-apart
change-requires-clause-apart g c =
    let told : deeds c.self.inside.events.items c.self.inside.journal ≡ c.args.self.now.history = ap (λ (b : BookState). b.history) c.self.view_is in
    let held = history-records _ _ _ _ _ c.args.self.now.history c.self.invariant.0 told in
    let effect : IsEffect c.self.inside.journal c.args.item c.reserve-2.new.self.entries c.as_slice-2.result.now c.as_slice-3.result.now =
    record {
      posted = c.reserve-2.ensures.unchanged ∙ c.self.invariant.0.posted;
      come = c.as_slice-2.ensures ∙ c.in-Ok.ensures.adds ∙ ap (λ (records : List Record). entries records c.args.item) held;
      go = c.as_slice-3.ensures ∙ c.in-Ok.ensures.gone ∙ ap (λ (records : List Record). gone_with records c.args.item) held;
    } in
    effect-apart _ _ _ _ _ effect

pub change-requires-clause-few : goal.change-requires-clause-few
change-requires-clause-few g c =
    let told : deeds c.self.inside.events.items c.self.inside.journal ≡ c.args.self.now.history = ap (λ (b : BookState). b.history) c.self.view_is in
    let held = history-records _ _ _ _ _ c.args.self.now.history c.self.invariant.0 told in
    let none : fault c.self.inside.journal c.args.item ≡ None = subst (λ (records : List Record). fault records c.args.item ≡ None) held c.in-Ok.ensures.sound in
    let effect : IsEffect c.self.inside.journal c.args.item c.reserve-2.new.self.entries c.as_slice-2.result.now c.as_slice-3.result.now =
    record {
      posted = c.reserve-2.ensures.unchanged ∙ c.self.invariant.0.posted;
      come = c.as_slice-2.ensures ∙ c.in-Ok.ensures.adds ∙ ap (λ (records : List Record). entries records c.args.item) held;
      go = c.as_slice-3.ensures ∙ c.in-Ok.ensures.gone ∙ ap (λ (records : List Record). gone_with records c.args.item) held;
    } in
    omega (arith, effect-few _ _ _ _ _ effect (NoFault-from c.self.inside.journal c.args.item none).few)

pub change-requires-clause-enough : goal.change-requires-clause-enough
change-requires-clause-enough g c =
    let told : deeds c.self.inside.events.items c.self.inside.journal ≡ c.args.self.now.history = ap (λ (b : BookState). b.history) c.self.view_is in
    let held = history-records _ _ _ _ _ c.args.self.now.history c.self.invariant.0 told in
    let none : fault c.self.inside.journal c.args.item ≡ None = subst (λ (records : List Record). fault records c.args.item ≡ None) held c.in-Ok.ensures.sound in
    let effect : IsEffect c.self.inside.journal c.args.item c.reserve-2.new.self.entries c.as_slice-2.result.now c.as_slice-3.result.now =
    record {
      posted = c.reserve-2.ensures.unchanged ∙ c.self.invariant.0.posted;
      come = c.as_slice-2.ensures ∙ c.in-Ok.ensures.adds ∙ ap (λ (records : List Record). entries records c.args.item) held;
      go = c.as_slice-3.ensures ∙ c.in-Ok.ensures.gone ∙ ap (λ (records : List Record). gone_with records c.args.item) held;
    } in
    effect-enough _ _ _ _ _ effect none

pub invariant_of-self-2 : goal.invariant_of-self-2
invariant_of-self-2 g c =
    let told : deeds c.self.inside.events.items c.self.inside.journal ≡ c.args.self.now.history = ap (λ (b : BookState). b.history) c.self.view_is in
    let held = history-records _ _ _ _ _ c.args.self.now.history c.self.invariant.0 told in
    let none : fault c.self.inside.journal c.args.item ≡ None = subst (λ (records : List Record). fault records c.args.item ≡ None) held c.in-Ok.ensures.sound in
    let effect : IsEffect c.self.inside.journal c.args.item c.reserve-2.new.self.entries c.as_slice-2.result.now c.as_slice-3.result.now =
    record {
      posted = c.reserve-2.ensures.unchanged ∙ c.self.invariant.0.posted;
      come = c.as_slice-2.ensures ∙ c.in-Ok.ensures.adds ∙ ap (λ (records : List Record). entries records c.args.item) held;
      go = c.as_slice-3.ensures ∙ c.in-Ok.ensures.gone ∙ ap (λ (records : List Record). gone_with records c.args.item) held;
    } in
    let history = c.args.self.now.history in
    let kept = subst (λ (h : List Deed). IsKept (g.K.Keeper.tells c.self.inside.keeper) (g.K.Keeper.may_leave c.self.inside.keeper) h c.self.inside.tried.events) told c.self.invariant.1 in
    let legal = subst IsLegal told c.self.invariant.0.legal in
    let next : c.in-Ok-push.number.0 ≡ accepted history + 1 =
    omega (arith, c.in-Ok-push.ensures.number, ap length c.in-Ok-push.ensures.kept, length-append c.self.inside.journal (c.args.item ∷ []), ap length held) in
    let text = subst (IsHanded (g.K.Keeper.tells c.self.inside.keeper) (g.K.Keeper.may_leave c.self.inside.keeper) c.args.item) (sym c.as_slice.ensures) c.in-Ok-handed_text.ensures in
    let events = c.push_reserved.ensures.items ∙ ap (λ (es : List Event). es ++ Kept ∷ []) c.reserve.ensures.items in
    let journal = c.in-Ok-push.ensures.kept in
    let all = c.change.ensures.changed ∙ effect-line _ _ _ _ _ effect in
    let now = kept-appended history c.self.inside.tried.events (g.K.Keeper.tells c.self.inside.keeper) (g.K.Keeper.may_leave c.self.inside.keeper)
    (g.K.Keeper.tells c.append.new.self) (g.K.Keeper.may_leave c.append.new.self) kept c.in-Ok-push.number c.args.item c.as_slice.result.now
    next legal text c.in_default-append.ensures.made c.in_default-append.ensures.durable in
    let longer = ap (λ (h : List Deed). h ++ deed.Kept c.args.item ∷ []) told in
    rw (events, journal, c.new-self-inside.ensures) (
      IsBook-kept c.self.inside.events.items c.self.inside.journal c.self.inside.movements.entries c.self.inside.covered.0 c.self.inside.rows c.args.item c.change.new.self.entries c.self.invariant.0 none all,
      subst (λ (h : List Deed). IsKept (g.K.Keeper.tells c.append.new.self) (g.K.Keeper.may_leave c.append.new.self) h [])
          (sym (deeds-kept c.self.inside.events.items c.self.inside.journal c.args.item c.self.invariant.0.counted ∙ longer)) now,
      omega (arith, c.self.invariant.2, length-append c.self.inside.events.items (Kept ∷ [])),
      c.self.invariant.3 ∙ ap heads (sym (take-append-le c.self.inside.covered.0 c.self.inside.journal (c.args.item ∷ []) c.self.invariant.0.within)),
    )

pub returns-clause-kept : goal.returns-clause-kept
returns-clause-kept g c =
    let told : deeds c.self.inside.events.items c.self.inside.journal ≡ c.args.self.now.history = ap (λ (b : BookState). b.history) c.self.view_is in
    let events = c.push_reserved.ensures.items ∙ ap (λ (es : List Event). es ++ Kept ∷ []) c.reserve.ensures.items in
    let journal = c.in-Ok-push.ensures.kept in
    rw (events, journal, ← told) (deeds-kept c.self.inside.events.items c.self.inside.journal c.args.item c.self.invariant.0.counted)

pub returns-clause-number : goal.returns-clause-number
returns-clause-number g c =
    let told : deeds c.self.inside.events.items c.self.inside.journal ≡ c.args.self.now.history = ap (λ (b : BookState). b.history) c.self.view_is in
    let events = c.push_reserved.ensures.items ∙ ap (λ (es : List Event). es ++ Kept ∷ []) c.reserve.ensures.items in
    let journal = c.in-Ok-push.ensures.kept in
    c.in-Ok-push.ensures.number ∙ rw (events, journal, deeds-kept c.self.inside.events.items c.self.inside.journal c.args.item c.self.invariant.0.counted, records-append) (omega (arith, length-append c.self.inside.journal (c.args.item ∷ []), length-append (records (deeds c.self.inside.events.items c.self.inside.journal)) (c.args.item ∷ []), ap length (records-deeds c.self.inside.events.items c.self.inside.journal c.self.invariant.0.counted)))

pub returns-clause-legal : goal.returns-clause-legal
returns-clause-legal g c = (invariant_of-self-2 g c).0.legal

pub returns-clause-closed : goal.returns-clause-closed
returns-clause-closed g c = closed-kept c.args.self.now.history _ c.args.item (returns-clause-kept g c) (returns-clause-legal g c)
