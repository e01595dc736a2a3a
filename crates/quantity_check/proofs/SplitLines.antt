-- A line falls into the movements that go from it and those that are left.
use Rattle.std.proofs.Common.{◌≡◌, ◌+◌, ◌≤◌, ◌+ℤ◌, Bool, true, false, cond, not, List, [], ◌∷◌, ◌++◌, length, filter, ◌⊎◌, inl, inr, refl, sym, ap, ◌∙◌, subst, arith}
use Rattle.std.proofs.lemmas.Int.{ints}
use Rattle.std.proofs.lemmas.List.Kept.{AllPairs-filter}
use Rattle.stock_nums.specs.declared.entry.Entry.{Entry}
use Rattle.stock_nums.specs.declared.entry.Key.{Key}
use Rattle.stock_nums.specs.declared.place.Place.{Place}
use Rattle.stock_model.specs.InOrder.{IsBefore, IsInPostingOrder}
use Rattle.stock_model.proofs.Pairwise.{Precedes, Pairwise, Each, Each-weaker, Each-from_Precedes}
use Rattle.stock_laws.proofs.LiveEntries.{filter-passes, Pairwise-filter, length-filter-le}
use Rattle.key_order.specs.Changes.{changes_of, held_with}
use Rattle.key_order.proofs.SamePlaces.{is_same_place-true, is_same_place-refl}
use Rattle.posting_order.specs.Timelines.{is_at, without}
use Rattle.posting_order.proofs.KeyLines.{Each-kept, filter-swap}
use Rattle.posting_order.proofs.Parting.{Fails, fails_from_not_passes}
use Rattle.posting_order.proofs.Places.{kept_apart}
use Rattle.quantity_check.specs.ChangedLines.{line_without}
use Rattle.quantity_check.specs.OwnPlaces.{StandApart, HaveOwnPlaces}
use Rattle.quantity_check.specs.Stretches.{units_until}
use Rattle.quantity_check.proofs.HeldSums.{held_with-cons}
use Rattle.quantity_check.proofs.Members.{IsIn, Each-in, Each-from_in, IsIn-filter, IsIn-filtered}
use Rattle.quantity_check.proofs.OwnPlaceLemmas.{StandApart-sym, HaveOwnPlaces-filter}
use Rattle.quantity_check.proofs.PlaceSteps.{true_from_never}

-- a movement that stands apart from another is not where that one stands
elsewhere : (e f : Entry) → StandApart f e → is_at e.place f ≡ false
elsewhere e f apart = fails_from_not_passes (is_at e.place) f (λ at. apart (is_same_place-true f.place e.place at))

-- each of several movements stands apart from one that comes before them
apart-first : (e f : Entry) (fs : List Entry) → Precedes StandApart f fs → IsIn e fs → StandApart f e
apart-first e f fs before later = Each-in (StandApart f) e fs (Each-from_Precedes StandApart f fs before) later

-- the first one taken out leaves the others
without-first : (f : Entry) (fs : List Entry) → Precedes StandApart f fs → without (f ∷ fs) f.place ≡ fs
without-first f fs before =
    ap (λ (b : Bool). cond (not b) (f ∷ without fs f.place) (without fs f.place)) (is_same_place-refl f.place)
    ∙ kept_apart f.place fs
    (Each-weaker (StandApart f) (Fails (is_at f.place)) (λ g apart. elsewhere f g (StandApart-sym f g apart)) fs (Each-from_Precedes StandApart f fs before))

-- a later one taken out leaves the first
without-later : (e f : Entry) (fs : List Entry) → StandApart f e → without (f ∷ fs) e.place ≡ f ∷ without fs e.place
without-later e f fs apart =
    ap (λ (b : Bool). cond (not b) (f ∷ without fs e.place) (without fs e.place)) (elsewhere e f apart)

-- without one of its movements a line has one fewer
length-without : (line : List Entry) (e : Entry) → Pairwise StandApart line → IsIn e line → length line ≡ length (without line e.place) + 1
length-without [] e apart here = absurd here
length-without (f ∷ fs) e apart here =
    elim here [
      | inl same ↦
          subst (λ (g : Entry). length (f ∷ fs) ≡ length (without (f ∷ fs) g.place) + 1) same
          (omega (arith, ap length (without-first f fs apart.0)))
      | inr later ↦
          omega (arith, ap length (without-later e f fs (apart-first e f fs apart.0 later)), length-without fs e apart.1 later)
    ]

-- and holds what that one changes less
held_with-without : (line : List Entry) (e : Entry) (key : Key) (place : Place) → Pairwise StandApart line → IsIn e line
    → held_with (changes_of line) key place ≡ units_until key place e +ℤ held_with (changes_of (without line e.place)) key place
held_with-without [] e key place apart here = absurd here
held_with-without (f ∷ fs) e key place apart here =
    elim here [
      | inl same ↦
          subst (λ (g : Entry). held_with (changes_of (f ∷ fs)) key place ≡ units_until key place g +ℤ held_with (changes_of (without (f ∷ fs) g.place)) key place) same
          (held_with-cons f fs key place ∙ ap (λ (l : List Entry). units_until key place f +ℤ held_with (changes_of l) key place) (sym (without-first f fs apart.0)))
      | inr later ↦
          let left = ap (λ (l : List Entry). held_with (changes_of l) key place) (without-later e f fs (apart-first e f fs apart.0 later)) in
          omega (arith, ints, left, held_with-cons f fs key place, held_with-cons f (without fs e.place) key place, held_with-without fs e key place apart.1 later)
    ]

-- of movements with places of their own one at most stands at a place
one_at : (m e : Entry) (line : List Entry) → Pairwise StandApart line → IsIn m line → IsIn e line → m.place ≡ e.place → m ≡ e
one_at m e [] apart here there same = absurd here
one_at m e (f ∷ fs) apart here there same =
    elim here [
      | inl first ↦
          elim there [
            | inl own ↦ sym first ∙ own
            | inr later ↦ absurd (apart-first e f fs apart.0 later (ap (λ (g : Entry). g.place) first ∙ same))
          ]
      | inr rest ↦
          elim there [
            | inl first ↦ absurd (apart-first m f fs apart.0 rest (ap (λ (g : Entry). g.place) first ∙ sym same))
            | inr later ↦ one_at m e fs apart.1 rest later same
          ]
    ]

-- of a line one of whose movements is taken out each other is left
left-or_taken : (m e : Entry) (line : List Entry) → Pairwise StandApart line → IsIn e line → IsIn m line → (m ≡ e) ⊎ IsIn m (without line e.place)
left-or_taken m e line apart taken here = by_place (is_at e.place m) refl
  where
    by_place : (b : Bool) → is_at e.place m ≡ b → (m ≡ e) ⊎ IsIn m (without line e.place)
    by_place true at = inl (one_at m e line apart here taken (is_same_place-true m.place e.place at))
    by_place false other = inr (IsIn-filter (λ f. not (is_at e.place f)) m line here (ap not other))

-- one that is left stands apart from the one that was taken out
left-apart : (m e : Entry) → not (is_at e.place m) ≡ true → m.place ≡ e.place → ⊥
left-apart m e left same =
    let there : is_at e.place m ≡ true = subst (λ (p : Place). is_at p m ≡ true) same (is_same_place-refl m.place) in
    absurd (never (is_at e.place m) there left)
  where
    never : (b : Bool) → b ≡ true → not b ≡ true → ⊥
    never true is other = cc
    never false is other = cc

-- the movements that go and those that are left are together those of the line
pub record IsSplit (line left gone : List Entry) : Type 0 where
  pub held : (key : Key) (place : Place) → held_with (changes_of line) key place ≡ held_with (changes_of left) key place +ℤ held_with (changes_of gone) key place
  pub count : length line ≡ length left + length gone
  pub either : (m : Entry) → IsIn m line → IsIn m left ⊎ IsIn m gone
  pub within : (m : Entry) → IsIn m left → IsIn m line
  pub apart : (m : Entry) → IsIn m left → Each (λ e. m.place ≡ e.place → ⊥) gone

-- one more goes
split-one : (line left gone : List Entry) (e : Entry) → Pairwise StandApart line → IsIn e line → IsSplit (without line e.place) left gone → IsSplit line left (e ∷ gone)
split-one line left gone e apart here split =
    record {
      held = λ key place. omega (arith, ints, held_with-without line e key place apart here, split.held key place, held_with-cons e gone key place);
      count = omega (arith, length-without line e apart here, split.count);
      either = λ m there. elim (left-or_taken m e line apart here there) [
        | inl same ↦ inr (inl (sym same))
        | inr rest ↦ elim (split.either m rest) [ inl stays ↦ inl stays | inr goes ↦ inr (inr goes) ]
      ];
      within = λ m stays. (IsIn-filtered (λ f. not (is_at e.place f)) m line (split.within m stays)).0;
      apart = λ m stays. (left-apart m e (IsIn-filtered (λ f. not (is_at e.place f)) m line (split.within m stays)).1, split.apart m stays);
    }

-- a line without some of its movements, each named once
pub line_without-split : (line gone : List Entry) → Pairwise StandApart line → Each (λ e. IsIn e line) gone → Pairwise StandApart gone
    → IsSplit line (line_without line gone) gone
line_without-split line [] apart here once =
    record {
      held = λ key place. omega (arith, ints);
      count = omega arith;
      either = λ m there. inl there;
      within = λ m stays. stays;
      apart = λ m stays. tt;
    }
line_without-split line (e ∷ gone) apart here once =
    let left : Entry → Bool = λ f. not (is_at e.place f) in
    let others : Each (λ f. IsIn f (without line e.place)) gone =
    Each-from_in (λ f. IsIn f (without line e.place)) gone (λ f later.
    IsIn-filter left f line (Each-in (λ g. IsIn g line) f gone here.1 later)
    (ap not (elsewhere e f (StandApart-sym e f (apart-first f e gone once.0 later))))) in
    split-one line (line_without (without line e.place) gone) gone e apart here.0
    (line_without-split (without line e.place) gone (Pairwise-filter StandApart left line apart) others once.1)

-- where those that go are the ones that fail a test, those that pass it are left
pub line_without-kept : (p : Entry → Bool) (line gone : List Entry) → ((m : Entry) → IsIn m line → p m ≡ true → Each (λ e. m.place ≡ e.place → ⊥) gone)
    → ((m : Entry) → IsIn m line → p m ≡ false → IsIn m gone) → line_without line gone ≡ filter p line
line_without-kept p line [] apart taken =
    sym (filter-passes (λ m. p m ≡ true) p (λ m passes. passes) line
    (Each-from_in (λ m. p m ≡ true) line (λ m here. true_from_never (p m) (taken m here))))
line_without-kept p line (e ∷ gone) apart taken =
    let left : Entry → Bool = λ f. not (is_at e.place f) in
    let others : Each (λ m. p m ≡ true → left m ≡ true) line =
    Each-from_in (λ m. p m ≡ true → left m ≡ true) line (λ m here passes. ap not (elsewhere e m (apart m here passes).0)) in
    let same : filter p (without line e.place) ≡ filter p line =
    filter-swap p left line ∙ filter-passes (λ m. left m ≡ true) left (λ m passes. passes) (filter p line) (Each-kept (λ m. left m ≡ true) p line others) in
    line_without-kept p (without line e.place) gone (λ m here passes. (apart m (IsIn-filtered left m line here).0 passes).1)
    (λ m here fails. later m (IsIn-filtered left m line here).1 (taken m (IsIn-filtered left m line here).0 fails))
    ∙ same
  where
    later : (m : Entry) → not (is_at e.place m) ≡ true → IsIn m (e ∷ gone) → IsIn m gone
    later m other here =
        elim here [
          | inl same ↦ absurd (left-apart m e other (ap (λ (f : Entry). f.place) (sym same)))
          | inr rest ↦ rest
        ]

-- what is left of a line in posting order is in posting order
pub IsInPostingOrder-line_without : (line gone : List Entry) → IsInPostingOrder line → IsInPostingOrder (line_without line gone)
IsInPostingOrder-line_without line [] order = order
IsInPostingOrder-line_without line (e ∷ gone) order =
    IsInPostingOrder-line_without (without line e.place) gone (AllPairs-filter IsBefore (λ f. not (is_at e.place f)) line order)

-- it stands apart from further movements where the line does
pub HaveOwnPlaces-line_without : (line gone es : List Entry) → HaveOwnPlaces (line ++ es) → HaveOwnPlaces (line_without line gone ++ es)
HaveOwnPlaces-line_without line [] es apart = apart
HaveOwnPlaces-line_without line (e ∷ gone) es apart =
    HaveOwnPlaces-line_without (without line e.place) gone es (HaveOwnPlaces-filter (λ f. not (is_at e.place f)) line es apart)

-- and no more are left than there were
pub length-line_without : (line gone : List Entry) → length (line_without line gone) ≤ length line
length-line_without line [] = omega arith
length-line_without line (e ∷ gone) =
    omega (arith, length-line_without (without line e.place) gone, length-filter-le (λ f. not (is_at e.place f)) line)
