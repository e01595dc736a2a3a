-- What calls on stored tables make of what they tell.
use Rattle.std.proofs.Common.{◌≡◌, ◌∙◌, subst, Option, Some, None, IfSome, Bool, true, false, Result, Ok, Err, IsTrue, OnOk, OnErr, IfOk, inl, inr, arith}
use Rattle.std.proofs.lemmas.Result.{on_ok_weaker, on_err_weaker}
use Rattle.sqlite_trees.specs.declared.store.Store.{Ghosts}
use Rattle.sqlite_trees.specs.Tree.{Trees}
use Rattle.sqlite.specs.State.{HasCleanDisk, Survives}
use Rattle.sqlite.specs.Held.{Held, state}
use Rattle.stock_keeper.specs.Keeping.{Within, Makes, MayMake}
use Rattle.stock_keeper.specs.declared.tables.Tables.{Tables}
use Rattle.stock_keeper.specs.Changed.{new_tables, upgraded}
use Rattle.sqlite_tables.specs.Finding.{IsPrepared, IsUpgraded, TellsWhatWas}
use Rattle.sqlite_tables.specs.Making.{HasMadeTables, IsBlank}
use Rattle.stock_keeper.specs.Worths.{AreInOrder}
use Rattle.sqlite_tables.specs.Standing.{StandsFor, IsTelling}
use Rattle.sqlite_tables.specs.Reading.{HasRead}
use Rattle.sqlite_tables.specs.Sorted.{KnowsOrder}
use Rattle.sqlite_tables.specs.Stored.{Base, IsCopy, IsSettled, IsStored, TellsTables, MayLeaveTables}
use Rattle.sqlite_tables.specs.Turning.{HasMade, HasUndone, IsTried}
use Rattle.sqlite_tables.proofs.Telling.{stands_alone, makes_telling, makes_told, tried_left, undone_telling, undone_told, read_told, quiet_left, left_told}

abbrev pub base : {S : Type 0} → Held S → Bool → Base S
base conn ready = record { conn = conn; ready = ready }

module _ {S : Type 0} (store : Ghosts S) (old new : Held S) (ready : Bool) (settled : IsSettled store old ready) where
  module _ {E : Type 0} (May : Tables → Type 0) (change : Tables → Tables) (may : (t : Tables) → TellsTables store (base old ready) t → May t)
      (survives : Survives (state store old) (state store new) (IsTried May change (state store old))) (r : Result (Unit {0}) E) (made : OnOk r (HasMade store May change old new)) where
    pub changed_made : OnOk r (Makes change (TellsTables store (base old ready)) (TellsTables store (base new ready)))
    changed_made =
        on_ok_weaker r (λ m t told. let it = makes_told store old new (settled.telling told.0) May change (λ s h. may s (told.0, h)) _ survives m t told.1 in (it.0, (told.0, it.1), it.2)) made

    pub changed_crash : OnErr r (MayMake change (TellsTables store (base old ready)) (MayLeaveTables store (base old ready)) (MayLeaveTables store (base new ready)))
    changed_crash = always r (λ t left. elim (tried_left store old new (settled.telling left.0) May change (λ s h. may s (left.0, h)) survives t left.1) [
      | inl before ↦ inl (left.0, before)
      | inr it ↦ inr (it.0, (left.0, it.1), it.2)
    ])
      where
        always : {P : Type 0} (r : Result (Unit {0}) E) → P → OnErr r P
        always (Ok _) p = tt
        always (Err _) p = p

    pub changed_durable : ((s : S) (db : Trees) → IsTrue (store.view s).is_open → store.recovers s db → db ≡ (store.view s).committed)
        → OnOk r (Within (TellsTables store (base new ready)) (MayLeaveTables store (base new ready)))
    changed_durable last =
        on_ok_weaker r (λ m t left. (left.0, left_told store last new (makes_telling store old new (settled.telling left.0) May change (λ s h. may s (left.0, h)) _ survives m) (m left.1.clean).is_open t left.1)) made

    module _ (undone : OnErr r (HasUndone store old new)) where
      pub changed_kept : OnErr r (Within (TellsTables store (base old ready)) (TellsTables store (base new ready)))
      changed_kept = on_err_weaker r (λ u t told. (told.0, undone_told store old new (settled.telling told.0) _ survives u t told.1)) undone

      pub changed_stored : new.in_transaction ≡ false → IsStored store new ready None
      changed_stored ended = record { settled = record { settled = ended; telling = λ is_ready. by r made undone is_ready }; copied = tt }
        where
          by : (r : Result (Unit {0}) E) → OnOk r (HasMade store May change old new) → OnErr r (HasUndone store old new) → IsTrue ready → Rattle.sqlite_tables.specs.Standing.IsTelling store new
          by (Ok _) m u is_ready = makes_telling store old new (settled.telling is_ready) May change (λ s h. may s (is_ready, h)) _ survives m
          by (Err _) m u is_ready = undone_telling store old new (settled.telling is_ready) _ survives u

  module _ (survives : Survives (state store old) (state store new) (λ _. ⊥)) (undone : HasUndone store old new) where
    pub loaded_tables : {E : Type 0} (r : Result Tables E) → IfOk r (HasRead store old new) → IfOk r (λ copy. (t : Tables) → TellsTables store (base new ready) t → copy ≡ t)
    loaded_tables (Ok copy) read = λ t told. read_told store old new (settled.telling told.0) _ survives undone copy read t told.1
    loaded_tables (Err e) read = tt

    pub loaded_left : {E : Type 0} (r : Result Tables E) → IfOk r (HasRead store old new)
        → IfOk r (λ copy. (t : Tables) → TellsTables store (base old ready) t → MayLeaveTables store (base new ready) t → copy ≡ t)
    loaded_left (Ok copy) read = λ t told left. read left.1.clean t told.1.stands
    loaded_left (Err e) read = tt

    pub loaded_kept : Within (TellsTables store (base old ready)) (TellsTables store (base new ready))
    loaded_kept t told = (told.0, undone_told store old new (settled.telling told.0) _ survives undone t told.1)

    pub loaded_crash : Within (MayLeaveTables store (base old ready)) (MayLeaveTables store (base new ready))
    loaded_crash t left = (left.0, quiet_left store old new survives t left.1)

    pub loaded_stored : new.in_transaction ≡ false → IsStored store new ready None
    loaded_stored ended = record { settled = record { settled = ended; telling = λ is_ready. undone_telling store old new (settled.telling is_ready) _ survives undone }; copied = tt }

-- ---- tables that were made, or found

module _ {S : Type 0} (store : Ghosts S) (old new : Held S) (order : KnowsOrder store old) (P : Trees → Type 0) (survives : Survives (state store old) (state store new) P) where
  -- what was found is told
  found_before : (copy : Tables) → IsUpgraded store old new copy → (clean : HasCleanDisk (state store new)) → (from : Tables) × StandsFor (state store old).now from × (copy ≡ upgraded from)
  found_before copy it clean =
      let was_clean : HasCleanDisk (state store old) = omega (arith, survives.clean, clean) in
      (it.found.0, it.found.1 clean it.is_whole (order.sorted was_clean (it.made clean).was_open), it.found.2)

  found_telling : (copy : Tables) → IsUpgraded store old new copy → IsTelling store new
  found_telling copy it clean is_open =
      let made = it.made clean in
      let from = found_before copy it clean in
      (upgraded from.0, record { clean = clean; is_open = is_open; stands = made.stands from.0 from.1 tt; committed = made.committed })

  new_telling : (blank : IsBlank (state store old).now) → HasMadeTables store old new → IsTelling store new
  new_telling blank made clean is_open =
      let it = made clean in
      (new_tables, record { clean = clean; is_open = is_open; stands = it.stands blank; committed = it.committed })

  pub prepared_telling : (kept : Option Tables) → IsPrepared store old new kept → IsTelling store new
  prepared_telling None made = new_telling made.0 made.1
  prepared_telling (Some copy) found = found_telling copy found

  prepared_open : (kept : Option Tables) → IsPrepared store old new kept → HasCleanDisk (state store new) → IsTrue (state store new).is_open
  prepared_open None made clean = (made.1 clean).is_open
  prepared_open (Some copy) found clean = (found.made clean).is_open

  -- the copy is what is told
  prepared_copy : (kept : Option Tables) → IsPrepared store old new kept → IfSome kept (λ copy. AreInOrder copy.worths) → IfSome kept (IsCopy store new)
  prepared_copy None made in_order = tt
  prepared_copy (Some copy) found in_order = (
    in_order,
    λ t told.
        let made = found.made told.clean in
        let from = found_before copy found told.clean in
        from.2 ∙ stands_alone (state store new).now (upgraded from.0) t (made.stands from.0 from.1 tt) told.stands,
  )

  pub prepared_stored : (kept : Option Tables) → IsPrepared store old new kept → IfSome kept (λ copy. AreInOrder copy.worths) → new.in_transaction ≡ false → IsStored store new true kept
  prepared_stored kept it in_order ended = record {
    settled = record { settled = ended; telling = λ ready. prepared_telling kept it };
    copied = prepared_copy kept it in_order;
  }

  pub prepared_told : (kept : Option Tables) → IsPrepared store old new kept → TellsWhatWas (state store old).now (TellsTables store (base new true))
  prepared_told None made = inl (made.0, λ t told. stands_alone (state store new).now t new_tables told.1.stands ((made.1 told.1.clean).stands made.0))
  prepared_told (Some copy) found = inr (
    found.is_whole,
    λ t told.
        let made = found.made told.1.clean in
        let was = found_before copy found told.1.clean in
        (was.0, was.1, stands_alone (state store new).now t (upgraded was.0) told.1.stands (made.stands was.0 was.1 tt)),
  )

  pub prepared_durable : (kept : Option Tables) → IsPrepared store old new kept → ((s : S) (db : Trees) → IsTrue (store.view s).is_open → store.recovers s db → db ≡ (store.view s).committed)
      → Within (TellsTables store (base new true)) (MayLeaveTables store (base new true))
  prepared_durable kept it last t left = (left.0, left_told store last new (prepared_telling kept it) (prepared_open kept it left.1.clean) t left.1)

-- ---- a copy that is handed out

module _ {S : Type 0} (store : Ghosts S) (conn : Held S) (ready : Bool) (kept : Option Tables) (stored : IsStored store conn ready kept) (copy : Tables) (has : kept ≡ Some copy) where
  copied : IsCopy store conn copy
  copied = subst (λ k. IfSome k (IsCopy store conn)) has stored.copied

  pub copied_tables : (t : Tables) → TellsTables store (base conn ready) t → copy ≡ t
  copied_tables t told = copied.1 t told.1

  pub copied_order : AreInOrder copy.worths
  copied_order = copied.0
