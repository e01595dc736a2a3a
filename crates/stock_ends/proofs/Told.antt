-- The end that is told, and its line.
use Rattle.std.proofs.Common.{◌≡◌, ℕ, List, inl, refl, arith}
use Rattle.stock_ends.specs.Statuses.{status_of, note_text, IsToldAs, IsNote}
use Rattle.stock_ends.specs.declared.damage.Damage.{Damage}
use Rattle.stock_ends.specs.declared.end.End.{End}
use Rattle.stock_ends.specs.declared.end.End.TheVariants.{Done, NoMemory, ReadFailed, WriteFailed, TooLong, StoreFailed, ListenFailed, BadSheet, Damaged}

pub told-itself : (end : End) → IsToldAs end end
told-itself Done = refl
told-itself NoMemory = refl
told-itself ReadFailed = refl
told-itself WriteFailed = refl
told-itself TooLong = refl
told-itself StoreFailed = refl
told-itself ListenFailed = refl
told-itself BadSheet = refl
told-itself (Damaged damage) = inl refl

pub noted-undamaged : (end : End) (text : List ℕ) → ((damage : Damage) → end ≡ Damaged damage → ⊥) → IsNote end text → text ≡ note_text end
noted-undamaged Done text not is = is
noted-undamaged NoMemory text not is = is
noted-undamaged ReadFailed text not is = is
noted-undamaged WriteFailed text not is = is
noted-undamaged TooLong text not is = is
noted-undamaged StoreFailed text not is = is
noted-undamaged ListenFailed text not is = is
noted-undamaged BadSheet text not is = is
noted-undamaged (Damaged damage) text not is = absurd (not damage refl)

-- no end has the status of other words
pub status_not_2 : (end : End) → status_of end ≡ 2 → ⊥
status_not_2 Done is = absurd (omega (arith, is))
status_not_2 NoMemory is = absurd (omega (arith, is))
status_not_2 ReadFailed is = absurd (omega (arith, is))
status_not_2 WriteFailed is = absurd (omega (arith, is))
status_not_2 TooLong is = absurd (omega (arith, is))
status_not_2 StoreFailed is = absurd (omega (arith, is))
status_not_2 ListenFailed is = absurd (omega (arith, is))
status_not_2 BadSheet is = absurd (omega (arith, is))
status_not_2 (Damaged damage) is = absurd (omega (arith, is))
