-- Where stretches end, and that movements change what is held in one by one number of units.
use Rattle.std.proofs.Common.{◌≡◌, pos, Bool, true, false, cond, ◌&&◌, not, List, [], ◌∷◌, Option, Some, None, ◌⊎◌, inl, inr, refl, sym, ap, ◌∙◌, arith}
use Rattle.std.proofs.lemmas.Bool.{false≢true}
use Rattle.std.proofs.lemmas.Int.{ints}
use Rattle.stock_nums.specs.Places.{is_before}
use Rattle.stock_nums.specs.declared.entry.Entry.{Entry}
use Rattle.stock_nums.specs.declared.entry.Key.{Key}
use Rattle.stock_nums.specs.declared.place.Place.{Place}
use Rattle.stock_nums.proofs.PlaceOrder.{is_before-irreflexive, is_before-transitive}
use Rattle.stock_model.specs.Enough.{entry_key, is_of_key}
use Rattle.stock_model.proofs.Pairwise.{Each, Each-weaker}
use Rattle.key_order.specs.Changes.{change_of, changes_of, change_units, held_with, is_before_end}
use Rattle.quantity_check.specs.Stretches.{is_until_of, units_until, is_later_of, nearer, nearer_after, nearest_after, end_of_stretch}
use Rattle.quantity_check.proofs.HeldSums.{held_with-cons}
use Rattle.quantity_check.proofs.Members.{IsIn}
use Rattle.quantity_check.proofs.PlaceSteps.{false_from_never, before_not_after, not_after_before}

-- what comes before the nearer of a place and an end comes before both
before_end-nearer : (end : Option Place) (r q : Place) → is_before_end (nearer end r) q ≡ true → (is_before_end end q ≡ true) × (is_before q r ≡ true)
before_end-nearer None r q h = (refl, h)
before_end-nearer (Some a) r q h = by_cases (is_before r a) refl h
  where
    by_cases : (b : Bool) → is_before r a ≡ b → is_before_end (cond b (Some r) (Some a)) q ≡ true → (is_before q a ≡ true) × (is_before q r ≡ true)
    by_cases true is k = (is_before-transitive q r a k is, k)
    by_cases false is k = (k, before_not_after q a r k is)

-- and back
before_end-nearer_back : (end : Option Place) (r q : Place) → is_before_end end q ≡ true → is_before q r ≡ true → is_before_end (nearer end r) q ≡ true
before_end-nearer_back None r q h k = k
before_end-nearer_back (Some a) r q h k =
    elim (is_before r a) as (λ b. is_before_end (cond b (Some r) (Some a)) q ≡ true) [ true ↦ k | false ↦ h ]

-- the later movements of the key come after this place too
abbrev pub AreBeyond : Key → Place → Place → List Entry → Type 0
AreBeyond key place q es = Each (λ f. is_later_of key place f ≡ true → is_before q f.place ≡ true) es

-- what comes before the nearest place comes before the end and all later movements of the key
before_end-nearest_after : (end : Option Place) (es : List Entry) (key : Key) (place q : Place) → is_before_end (nearest_after end es key place) q ≡ true
    → (is_before_end end q ≡ true) × AreBeyond key place q es
before_end-nearest_after end [] key place q h = (h, tt)
before_end-nearest_after end (e ∷ es) key place q h =
    let rest = before_end-nearest_after (nearer_after end key place e) es key place q h in
    by_cases (is_later_of key place e) refl rest.0 rest.1
  where
    by_cases : (b : Bool) → is_later_of key place e ≡ b → is_before_end (cond b (nearer end e.place) end) q ≡ true → AreBeyond key place q es
        → (is_before_end end q ≡ true) × AreBeyond key place q (e ∷ es)
    by_cases true is k others = let both = before_end-nearer end e.place q k in (both.0, (λ later. both.1, others))
    by_cases false is k others = (k, (λ later. absurd (false≢true (sym is ∙ later)), others))

-- and back
before_end-nearest_after_back : (end : Option Place) (es : List Entry) (key : Key) (place q : Place) → is_before_end end q ≡ true → AreBeyond key place q es
    → is_before_end (nearest_after end es key place) q ≡ true
before_end-nearest_after_back end [] key place q h beyond = h
before_end-nearest_after_back end (e ∷ es) key place q h beyond =
    before_end-nearest_after_back (nearer_after end key place e) es key place q (by_cases (is_later_of key place e) refl) beyond.1
  where
    by_cases : (b : Bool) → is_later_of key place e ≡ b → is_before_end (cond b (nearer end e.place) end) q ≡ true
    by_cases true is = before_end-nearer_back end e.place q h (beyond.0 is)
    by_cases false is = h

-- what comes before the end of a movement's stretch comes before all later ones of its key that come or go
pub AreBeyond-stretch : (adds gone : List Entry) (e : Entry) (q : Place) → is_before_end (end_of_stretch adds gone e) q ≡ true
    → AreBeyond (entry_key e) e.place q adds × AreBeyond (entry_key e) e.place q gone
AreBeyond-stretch adds gone e q h =
    let both = before_end-nearest_after (nearest_after None adds (entry_key e) e.place) gone (entry_key e) e.place q h in
    ((before_end-nearest_after None adds (entry_key e) e.place q both.0).1, both.1)

-- and back
pub before_end-stretch : (adds gone : List Entry) (e : Entry) (q : Place) → AreBeyond (entry_key e) e.place q adds → AreBeyond (entry_key e) e.place q gone
    → is_before_end (end_of_stretch adds gone e) q ≡ true
before_end-stretch adds gone e q by_adds by_gone =
    before_end-nearest_after_back (nearest_after None adds (entry_key e) e.place) gone (entry_key e) e.place q
    (before_end-nearest_after_back None adds (entry_key e) e.place q refl by_adds) by_gone

-- a movement changes as much at a place that does not come before another and that comes before no later one
units_until-along : (e : Entry) (key : Key) (p q : Place) → is_before q p ≡ false → (is_later_of key p e ≡ true → is_before q e.place ≡ true) → units_until key q e ≡ units_until key p e
units_until-along e key p q not_before beyond = by_key (is_of_key key e) refl
  where
    by_side : (b : Bool) → is_of_key key e ≡ true → is_before p e.place ≡ b → is_before q e.place ≡ b
    by_side true of_key is = beyond (ap (λ (k : Bool). k && is_before p e.place) of_key ∙ is)
    by_side false of_key is =
        false_from_never (is_before q e.place) (λ h. false≢true (sym is ∙ not_after_before p q e.place not_before h))

    by_key : (k : Bool) → is_of_key key e ≡ k → units_until key q e ≡ units_until key p e
    by_key true is =
        ap (λ (b : Bool). cond (is_of_key key e && not b) (change_units (change_of e)) (pos 0)) (by_side (is_before p e.place) is refl)
    by_key false is =
        ap (λ (k : Bool). cond (k && not (is_before q e.place)) (change_units (change_of e)) (pos 0)) is
        ∙ ap (λ (k : Bool). cond (k && not (is_before p e.place)) (change_units (change_of e)) (pos 0)) (sym is)

-- and so do all
pub held_with-along : (es : List Entry) (key : Key) (p q : Place) → is_before q p ≡ false → AreBeyond key p q es → held_with (changes_of es) key q ≡ held_with (changes_of es) key p
held_with-along [] key p q not_before beyond = refl
held_with-along (e ∷ es) key p q not_before beyond =
    let here = units_until-along e key p q not_before beyond.0 in
    omega (arith, ints, held_with-cons e es key q, held_with-cons e es key p, here, held_with-along es key p q not_before beyond.1)

-- the last of the movements of the key that stand up to a place
pub record IsLatest (es : List Entry) (key : Key) (q : Place) (e : Entry) : Type 0 where
  pub until : is_until_of key q e ≡ true
  pub last : Each (λ f. is_until_of key q f ≡ true → is_before e.place f.place ≡ false) es

-- it is one of them, if there is any
pub latest : (key : Key) (q : Place) (es : List Entry) → Each (λ f. is_until_of key q f ≡ false) es ⊎ ((e : Entry) × IsIn e es × IsLatest es key q e)
latest key q [] = inl tt
latest key q (f ∷ fs) = by_cases (is_until_of key q f) refl (latest key q fs)
  where
    none_later : Each (λ g. is_until_of key q g ≡ false) fs → Each (λ g. is_until_of key q g ≡ true → is_before f.place g.place ≡ false) fs
    none_later none =
        Each-weaker (λ g. is_until_of key q g ≡ false) (λ g. is_until_of key q g ≡ true → is_before f.place g.place ≡ false) (λ g is until. absurd (false≢true (sym is ∙ until))) fs none

    by_place : (b : Bool) (e : Entry) → is_before e.place f.place ≡ b → is_until_of key q f ≡ true → IsIn e fs → IsLatest fs key q e
        → (g : Entry) × IsIn g (f ∷ fs) × IsLatest (f ∷ fs) key q g
    by_place true e is until here best = (
      f,
      inl refl,
      record {
        until = until;
        last = (
          λ h. is_before-irreflexive f.place,
          Each-weaker (λ g. is_until_of key q g ≡ true → is_before e.place g.place ≡ false) (λ g. is_until_of key q g ≡ true → is_before f.place g.place ≡ false)
              (λ g h k. false_from_never (is_before f.place g.place) (λ after. false≢true (sym (h k) ∙ is_before-transitive e.place f.place g.place is after))) fs best.last,
        );
      },
    )
    by_place false e is until here best =
        (e, inr here, record { until = best.until; last = (λ h. is, best.last) })

    by_cases : (b : Bool) → is_until_of key q f ≡ b → Each (λ g. is_until_of key q g ≡ false) fs ⊎ ((e : Entry) × IsIn e fs × IsLatest fs key q e)
        → Each (λ g. is_until_of key q g ≡ false) (f ∷ fs) ⊎ ((e : Entry) × IsIn e (f ∷ fs) × IsLatest (f ∷ fs) key q e)
    by_cases true is rest =
        elim rest [
          | inl none ↦ inr (f, inl refl, record { until = is; last = (λ h. is_before-irreflexive f.place, none_later none) })
          | inr some ↦ inr (by_place (is_before some.0.place f.place) some.0 refl is some.1 some.2)
        ]
    by_cases false is rest =
        elim rest [
          | inl none ↦ inl (is, none)
          | inr some ↦ inr (some.0, inr some.1, record { until = some.2.until; last = (λ until. absurd (false≢true (sym is ∙ until)), some.2.last) })
        ]
