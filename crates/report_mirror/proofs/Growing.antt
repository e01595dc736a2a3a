-- What is shown begins with what each reader has seen, as it is read and as a longer one is shown.
use Rattle.std.proofs.Common.{◌≡◌, ◌≢◌, ℕ, List, [], ◌∷◌, ◌++◌, fold, refl, ap, ◌∙◌, subst, ⊎_elim}
use Rattle.std.proofs.lemmas.List.Sums.{fold-append}
use mathlib.Core.Option.{some}
use lib.ListN.{get_elem?}
use Rattle.crossbeam_utils.specs.Register.{Admits, TurnsAt}
use Rattle.atomic_table.proofs.Lists.{at_set, at_snoc}
use Rattle.turn_lock.specs.Histories.{BeginsWith}
use Rattle.turn_lock.proofs.Lists.{begins_self, begins_through}
use Rattle.stock_model.specs.declared.records.Record.{Record}
use Rattle.report_mirror.specs.Mirrored.{AllBeginnings, Sees}
use Rattle.report_mirror.specs.declared.shown.Seen.{Seen}

-- a reader that has seen nothing may come at any time
pub admits : Admits AllBeginnings (record { records = [] })
admits shown views holds seat seen at =
    ⊎_elim (holds seat seen)
    (λ (same : record { records = [] } ≡ seen). subst (λ (s : Seen). BeginsWith shown s.records) same refl)
    (at_snoc views (record { records = [] }) seen seat at)

-- who meets a generation that begins with the one that was shown has seen it
pub meets : (seat : ℕ) (seen : Seen) (before now : List Record) → BeginsWith now before → TurnsAt AllBeginnings seat seen before now Sees
meets seat seen before now grows views holds at = (
  record { records = now },
  (λ other found there.
      ⊎_elim
      (λ (own : (other ≡ seat) × (record { records = now } ≡ found)).
      subst (λ (s : Seen). BeginsWith now s.records) own.1 (begins_self now))
      (λ (else : (other ≢ seat) × (get_elem? views other ≡ some found)).
      begins_through found.records before now (holds other found else.1) grows)
      (at_set views seat other (record { records = now }) found there)),
  (holds seat seen at, refl),
)

-- the last of the operations decides, where each sets what comes
pub fold-last : {A B : Type 0} (f : B → A → B) (z : B) (xs ys : List A) (x : A) → ys ≡ xs ++ x ∷ [] → fold f z ys ≡ f (fold f z xs) x
fold-last f z xs ys x is = ap (fold f z) is ∙ fold-append f z xs (x ∷ [])
