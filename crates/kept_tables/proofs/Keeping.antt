-- A keeper of a history after one of its calls: of the longer history where the call was done, and of the same where it was
-- refused.
use Rattle.std.proofs.Common.{◌≡◌, List, [], ◌∷◌, ◌++◌, ◌⊎◌, inl, inr, ap, ◌∙◌}
use Rattle.std.proofs.lemmas.List.Elements.{Contains-append_left, Contains-push}
use Rattle.stock_model.specs.History.{IsLegal}
use Rattle.stock_model.specs.declared.deeds.Deed.{Deed}
use Rattle.stock_keeper.specs.Keeping.{Within, IsMade, Makes, MayMake, HoldsOfNone}
use Rattle.stock_keeper.specs.declared.tables.Tables.{Tables}
use Rattle.kept_tables.specs.Kept.{IsTried, IsKept}
use Rattle.kept_tables.specs.TablesOf.{tables_of}

-- what was tried was so also once more was
IsTried-more : (history tried : List Deed) (event : Deed) (t : Tables) → IsTried history tried t → IsTried history (tried ++ event ∷ []) t
IsTried-more history tried event t is =
    record {
      event = is.event;
      refused = Contains-append_left tried (event ∷ []) is.event is.refused;
      legal = is.legal;
      is = is.is;
    }

module _ (history tried : List Deed) (event : Deed) (change : Tables → Tables)
    (is : change (tables_of history) ≡ tables_of (history ++ event ∷ []))
    (tells may_leave : Tables → Type 0) (kept : IsKept tells may_leave history tried) where
  -- what the change makes of the tables that were told are the tables of the longer history
  made-is : (t : Tables) → IsMade change tells t → t ≡ tables_of (history ++ event ∷ [])
  made-is t (old, told, made) = made ∙ ap change (kept.told old told) ∙ is

  pub IsKept-done : (tells' may_leave' : Tables → Type 0) → Makes change tells tells' → Within tells' may_leave'
      → IsKept tells' may_leave' (history ++ event ∷ []) []
  IsKept-done tells' may_leave' makes durable =
      record {
        told = λ t now. made-is t (makes t now);
        left = λ t may. inl (made-is t (makes t (durable t may)));
      }

  pub IsKept-refused : (tells' may_leave' : Tables → Type 0) → IsLegal (history ++ event ∷ []) → Within tells tells'
      → MayMake change tells may_leave may_leave' → IsKept tells' may_leave' history (tried ++ event ∷ [])
  IsKept-refused tells' may_leave' legal same may_make =
      record {
        told = λ t now. kept.told t (same t now);
        left = λ t may. by_cause t (may_make t may);
      }
    where
      before_it : (t : Tables) → (t ≡ tables_of history) ⊎ IsTried history tried t → (t ≡ tables_of history) ⊎ IsTried history (tried ++ event ∷ []) t
      before_it t (inl untouched) = inl untouched
      before_it t (inr one) = inr (IsTried-more history tried event t one)

      by_cause : (t : Tables) → may_leave t ⊎ IsMade change tells t → (t ≡ tables_of history) ⊎ IsTried history (tried ++ event ∷ []) t
      by_cause t (inl before) = before_it t (kept.left t before)
      by_cause t (inr made) =
          inr (record { event = event; refused = Contains-push tried event; legal = legal; is = made-is t made })

-- no tables were told and a crash left none, and so it is after any call
module _ (change : Tables → Tables) (tells may_leave : Tables → Type 0) (none_told : HoldsOfNone tells) (none_left : HoldsOfNone may_leave) where
  none_made : (t : Tables) → IsMade change tells t → ⊥
  none_made t (old, told, made) = none_told old told

  pub IsKept-nothing-done : (tells' may_leave' : Tables → Type 0) → Makes change tells tells' → Within tells' may_leave'
      → (history tried : List Deed) → IsKept tells' may_leave' history tried
  IsKept-nothing-done tells' may_leave' makes durable history tried =
      record {
        told = λ t now. absurd (none_made t (makes t now));
        left = λ t may. absurd (none_made t (makes t (durable t may)));
      }

  pub IsKept-nothing-refused : (tells' may_leave' : Tables → Type 0) → Within tells tells' → MayMake change tells may_leave may_leave'
      → (history tried : List Deed) → IsKept tells' may_leave' history tried
  IsKept-nothing-refused tells' may_leave' same may_make history tried =
      record {
        told = λ t now. absurd (none_told t (same t now));
        left = λ t may. absurd (by_cause t (may_make t may));
      }
    where
      by_cause : (t : Tables) → may_leave t ⊎ IsMade change tells t → ⊥
      by_cause t (inl before) = none_left t before
      by_cause t (inr made) = none_made t made
