-- The ends of a load as they are told.
use Rattle.std.proofs.Common.{◌≡◌, ◌⊎◌, ℕ, List, Option, inl, inr, sym, subst, refl, arith}
use Rattle.stock_ends.specs.Statuses.{status_of, IsToldAs, CountsNoFault}
use Rattle.stock_ends.specs.declared.end.End.{End}
use Rattle.stock_ends.specs.declared.end.End.TheVariants.{Done, NoMemory, ReadFailed, WriteFailed, TooLong, StoreFailed, ListenFailed, BadSheet, Damaged}
use Rattle.stock_load.specs.Loads.{IsLoaded}

module _ {O : Type 0} (written : O → Option (List ℕ)) (faults : O → ℕ) (before after : O) (n : ℕ) where
  -- the end that is told is that of the load
  pub loaded-told : (end told : End) → IsToldAs end told → IsLoaded written faults before after n end → IsLoaded written faults before after n told
  loaded-told Done told is loaded = subst (IsLoaded written faults before after n) (sym is) loaded
  loaded-told NoMemory told is loaded = subst (IsLoaded written faults before after n) (sym is) loaded
  loaded-told ReadFailed told is loaded = absurd loaded
  loaded-told WriteFailed told is loaded = subst (IsLoaded written faults before after n) (sym is) loaded
  loaded-told TooLong told is loaded = absurd loaded
  loaded-told StoreFailed told is loaded = absurd loaded
  loaded-told ListenFailed told is loaded = absurd loaded
  loaded-told BadSheet told is loaded = absurd loaded
  loaded-told (Damaged damage) told is loaded = absurd loaded

  -- without a fault it is done, or memory was wanting
  pub loaded-complete : (end : End) → IsLoaded written faults before after n end → CountsNoFault (faults before) (faults after)
      → (status_of end ≡ 0) ⊎ (status_of end ≡ 3)
  loaded-complete Done loaded none = inl refl
  loaded-complete NoMemory loaded none = inr refl
  loaded-complete ReadFailed loaded none = absurd loaded
  loaded-complete WriteFailed loaded none =
      let rose = loaded.cause none.1 in
      absurd (omega (arith, rose, none.0))
  loaded-complete TooLong loaded none = absurd loaded
  loaded-complete StoreFailed loaded none = absurd loaded
  loaded-complete ListenFailed loaded none = absurd loaded
  loaded-complete BadSheet loaded none = absurd loaded
  loaded-complete (Damaged damage) loaded none = absurd loaded
