-- The first lack of a key within a stretch of a line, by its movements.
use Rattle.std.proofs.Common.{◌≡◌, ℤ, Bool, true, false, cond, List, [], ◌∷◌, Option, Some, inl, inr, refl, sym, ap, ◌∙◌, subst}
use Rattle.std.specs.List.{find}
use Rattle.std.specs.Option.{option_map}
use Rattle.std.proofs.lemmas.Bool.{false≢true}
use Rattle.stock_nums.specs.Places.{is_before}
use Rattle.stock_nums.specs.declared.entry.Entry.{Entry}
use Rattle.stock_nums.specs.declared.entry.Key.{Key}
use Rattle.stock_nums.specs.declared.place.Place.{Place}
use Rattle.stock_nums.proofs.PlaceOrder.{is_before-irreflexive, is_before-asymmetric}
use Rattle.stock_model.specs.Enough.{is_of_key}
use Rattle.stock_model.specs.InOrder.{IsBefore}
use Rattle.stock_model.proofs.Pairwise.{Precedes, Pairwise}
use Rattle.key_order.specs.Changes.{change_of, changes_of, of_key, lacks_within, lack_at}
use Rattle.key_order.specs.declared.change.Change.{Change}
use Rattle.key_order.specs.declared.change.Lack.{Lack}
use Rattle.quantity_check.proofs.Members.{AnyOf}

module _ (cs : List Change) (key : Key) (from end : Option Place) (more : ℤ) where
  -- the movement is of the key, and lacks within the stretch
  abbrev pub LacksThere : Entry → Type 0
  LacksThere m = (is_of_key key m ≡ true) × (lacks_within cs key from end more (change_of m) ≡ true)

  -- the first lack among these movements
  abbrev pub found_among : List Entry → Option Lack
  found_among es = option_map (lack_at cs key more) (find (lacks_within cs key from end more) (of_key key (changes_of es)))

  -- with one more movement in front
  found_among-lacks : (e : Entry) (es : List Entry) → LacksThere e → found_among (e ∷ es) ≡ Some (lack_at cs key more (change_of e))
  found_among-lacks e es is =
      ap (λ (k : Bool). option_map (lack_at cs key more) (find (lacks_within cs key from end more) (cond k (change_of e ∷ of_key key (changes_of es)) (of_key key (changes_of es))))) is.0
      ∙ ap (λ (b : Bool). option_map (lack_at cs key more) (cond b (Some (change_of e)) (find (lacks_within cs key from end more) (of_key key (changes_of es))))) is.1

  found_among-other_key : (e : Entry) (es : List Entry) → is_of_key key e ≡ false → found_among (e ∷ es) ≡ found_among es
  found_among-other_key e es is =
      ap (λ (k : Bool). option_map (lack_at cs key more) (find (lacks_within cs key from end more) (cond k (change_of e ∷ of_key key (changes_of es)) (of_key key (changes_of es))))) is

  found_among-enough : (e : Entry) (es : List Entry) → is_of_key key e ≡ true → lacks_within cs key from end more (change_of e) ≡ false → found_among (e ∷ es) ≡ found_among es
  found_among-enough e es of_key_is is =
      ap (λ (k : Bool). option_map (lack_at cs key more) (find (lacks_within cs key from end more) (cond k (change_of e ∷ of_key key (changes_of es)) (of_key key (changes_of es))))) of_key_is
      ∙ ap (λ (b : Bool). option_map (lack_at cs key more) (cond b (Some (change_of e)) (find (lacks_within cs key from end more) (of_key key (changes_of es))))) is

  -- what is found is a movement's
  abbrev pub IsLackOf : Lack → Entry → Type 0
  IsLackOf lack m = LacksThere m × (lack ≡ lack_at cs key more (change_of m))

  found_among-some_step : (e : Entry) (es : List Entry) (lack : Lack) → (found_among es ≡ Some lack → AnyOf (IsLackOf lack) es) → found_among (e ∷ es) ≡ Some lack → AnyOf (IsLackOf lack) (e ∷ es)
  found_among-some_step e es lack rest h = by_key (is_of_key key e) refl
    where
      by_lack : (b : Bool) → is_of_key key e ≡ true → lacks_within cs key from end more (change_of e) ≡ b → AnyOf (IsLackOf lack) (e ∷ es)
      by_lack true of is =
          let found : Some (lack_at cs key more (change_of e)) ≡ Some lack = sym (found_among-lacks e es (of, is)) ∙ h in
          let same : lack ≡ lack_at cs key more (change_of e) = cc in
          inl ((of, is), same)
      by_lack false of is = inr (rest (sym (found_among-enough e es of is) ∙ h))

      by_key : (k : Bool) → is_of_key key e ≡ k → AnyOf (IsLackOf lack) (e ∷ es)
      by_key true is = by_lack (lacks_within cs key from end more (change_of e)) is refl
      by_key false is = inr (rest (sym (found_among-other_key e es is) ∙ h))

  pub found_among-some : (es : List Entry) (lack : Lack) → found_among es ≡ Some lack → AnyOf (IsLackOf lack) es
  found_among-some [] lack h = cc
  found_among-some (e ∷ es) lack h = found_among-some_step e es lack (λ k. found_among-some es lack k) h

  -- a lack is found, and not after the place
  abbrev pub IsFoundAmong : List Entry → Place → Type 0
  IsFoundAmong es q = (lack : Lack) × (found_among es ≡ Some lack) × (is_before q lack.place ≡ false)

  -- the movement lacks and stands at the place
  abbrev pub LacksAt : Place → Entry → Type 0
  LacksAt q m = LacksThere m × (m.place ≡ q)

  -- in posting order the first of the movements does not come after one that lacks
  not_before_first : (e : Entry) (fs : List Entry) (q : Place) → Precedes IsBefore e fs → AnyOf (LacksAt q) fs → is_before q e.place ≡ false
  not_before_first e [] q before h = absurd h
  not_before_first e (f ∷ fs) q before h =
      elim h [
        | inl is ↦ subst (λ (p : Place). is_before p e.place ≡ false) is.1 (is_before-asymmetric e.place f.place before.0)
        | inr rest ↦ not_before_first e fs q before.1 rest
      ]

  found_among-first_step : (e : Entry) (es : List Entry) (q : Place) → Precedes IsBefore e es → (AnyOf (LacksAt q) es → IsFoundAmong es q) → AnyOf (LacksAt q) (e ∷ es) → IsFoundAmong (e ∷ es) q
  found_among-first_step e es q order rest some = by_key (is_of_key key e) refl some
    where
      on : found_among (e ∷ es) ≡ found_among es → AnyOf (LacksAt q) es → IsFoundAmong (e ∷ es) q
      on same h = let found = rest h in (found.0, same ∙ found.1, found.2)

      by_lack : (b : Bool) → is_of_key key e ≡ true → lacks_within cs key from end more (change_of e) ≡ b → AnyOf (LacksAt q) (e ∷ es) → IsFoundAmong (e ∷ es) q
      by_lack true of is h =
          let not_before : is_before q e.place ≡ false = elim h [
            | inl here ↦ subst (λ (p : Place). is_before p e.place ≡ false) here.1 (is_before-irreflexive e.place)
            | inr more_of ↦ not_before_first e es q order more_of
          ] in
          (lack_at cs key more (change_of e), found_among-lacks e es (of, is), not_before)
      by_lack false of is h =
          elim h [
            | inl here ↦ absurd (false≢true (sym is ∙ here.0.1))
            | inr more_of ↦ on (found_among-enough e es of is) more_of
          ]

      by_key : (k : Bool) → is_of_key key e ≡ k → AnyOf (LacksAt q) (e ∷ es) → IsFoundAmong (e ∷ es) q
      by_key true is h = by_lack (lacks_within cs key from end more (change_of e)) is refl h
      by_key false is h =
          elim h [
            | inl here ↦ absurd (false≢true (sym is ∙ here.0.0))
            | inr more_of ↦ on (found_among-other_key e es is) more_of
          ]

  -- in posting order none that lacks comes before the one that is found
  pub found_among-first : (es : List Entry) (q : Place) → Pairwise IsBefore es → AnyOf (LacksAt q) es → IsFoundAmong es q
  found_among-first [] q order some = absurd some
  found_among-first (e ∷ es) q order some = found_among-first_step e es q order.0 (λ h. found_among-first es q order.1 h) some
