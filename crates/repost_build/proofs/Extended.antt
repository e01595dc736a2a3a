-- What an extension makes suspect: new movements, and what they touch.
use Rattle.std.proofs.Common.{◌≡◌, Bool, true, ◌||◌, List, [], ◌∷◌, ◌++◌, None, Contains, ◌⊎◌, inl, inr, refl, sym, ap, ◌∙◌, subst, arith}
use Rattle.std.proofs.lemmas.Bool.{or_cases, or_left, or_right}
use Rattle.stock_nums.specs.declared.entry.Entry.{Entry}
use Rattle.stock_nums.specs.declared.place.Place.{Place}
use Rattle.stock_model.specs.InOrder.{IsInPostingOrder}
use Rattle.stock_model.proofs.Pairwise.{Contains-cases, Contains-first, Contains-later}
use Rattle.quantity_check.specs.OwnPlaces.{HaveOwnPlaces}
use Rattle.quantity_check.proofs.OwnPlaceLemmas.{entry_at-next, HaveOwnPlaces-next}
use Rattle.repost_frontier.specs.Readings.{found_of, suspects_of, revalued_of}
use Rattle.repost_frontier.specs.Slots.{slot_at, new_slot}
use Rattle.repost_frontier.specs.declared.slot.Slot.{Slot}
use Rattle.repost_frontier.proofs.SlotOrder.{entries-put_slot}
use Rattle.repost_frontier.proofs.SlotReadings.{suspect-put, suspects-put, found-put, revalued-put}
use Rattle.repost_laws.proofs.Turns.{place-cases}
use Rattle.repost_spread.specs.Adding.{put_new, put_all_new}
use Rattle.repost_spread.specs.Marks.{AreMarked}
use Rattle.repost_spread.specs.Movements.{entries_of, slots_of, line_of}
use Rattle.repost_spread.specs.declared.movements.Movements.{Movements}
use Rattle.repost_spread.proofs.Puts.{slot-none}
use Rattle.repost_spread.proofs.TouchingLines.{one-at}
use Rattle.repost_build.proofs.Truths.{same-truth}

-- the next of the new movements stands where none does, and the others too once it is there
module _ (slots : List Slot) (e : Entry) (es : List Entry) (apart : HaveOwnPlaces (entries_of slots ++ e ∷ es)) where
  free : slot_at slots e.place ≡ None
  free = slot-none slots e.place (entry_at-next (entries_of slots) e es apart)

  next-apart : HaveOwnPlaces (entries_of (put_new slots e) ++ es)
  next-apart =
      subst (λ (line : List Entry). HaveOwnPlaces (line ++ es)) (sym (entries-put_slot slots (new_slot e)))
      (HaveOwnPlaces-next (entries_of slots) e es apart)

pub found-all : (slots : List Slot) (es : List Entry) → HaveOwnPlaces (entries_of slots ++ es) → (p : Place)
    → found_of (put_all_new slots es) p ≡ found_of slots p
found-all slots [] apart p = refl
found-all slots (e ∷ es) apart p =
    found-all (put_new slots e) es (next-apart slots e es apart) p ∙ found-put slots e p (free slots e es apart)

pub revalued-all : (slots : List Slot) (es : List Entry) → HaveOwnPlaces (entries_of slots ++ es) → (p : Place)
    → revalued_of (put_all_new slots es) p ≡ revalued_of slots p
revalued-all slots [] apart p = refl
revalued-all slots (e ∷ es) apart p =
    revalued-all (put_new slots e) es (next-apart slots e es apart) p ∙ revalued-put slots e p (free slots e es apart)

-- what is suspect stays so
suspect-still : (slots : List Slot) (es : List Entry) → HaveOwnPlaces (entries_of slots ++ es) → (p : Place)
    → suspects_of slots p ≡ true → suspects_of (put_all_new slots es) p ≡ true
suspect-still slots [] apart p was = was
suspect-still slots (e ∷ es) apart p was =
    suspect-still (put_new slots e) es (next-apart slots e es apart) p (elim (place-cases p e.place) [
      | inl own ↦ ap (λ (q : Place). suspects_of (put_new slots e) q) own ∙ suspect-put slots e (free slots e es apart)
      | inr other ↦ suspects-put slots e p other ∙ was
    ])

-- and so are the new ones
suspect-new : (slots : List Slot) (es : List Entry) → HaveOwnPlaces (entries_of slots ++ es) → (f : Entry) → Contains es f
    → suspects_of (put_all_new slots es) f.place ≡ true
suspect-new slots [] apart f held = absurd (omega (arith, held.1))
suspect-new slots (e ∷ es) apart f held =
    elim (Contains-cases e es f held) [
      | inl own ↦
          suspect-still (put_new slots e) es (next-apart slots e es apart) f.place
          (subst (λ (g : Entry). suspects_of (put_new slots e) g.place ≡ true) own (suspect-put slots e (free slots e es apart)))
      | inr later ↦ suspect-new (put_new slots e) es (next-apart slots e es apart) f later
    ]

-- a movement of the list stands at the place
abbrev IsAt : List Entry → Place → Type 0
IsAt es p = (e : Entry) × Contains es e × (p ≡ e.place)

-- and no others
suspect-only : (slots : List Slot) (es : List Entry) → HaveOwnPlaces (entries_of slots ++ es) → (p : Place)
    → suspects_of (put_all_new slots es) p ≡ true → (suspects_of slots p ≡ true) ⊎ IsAt es p
suspect-only slots [] apart p is = inl is
suspect-only slots (e ∷ es) apart p is =
    elim (suspect-only (put_new slots e) es (next-apart slots e es apart) p is) [
      | inl now ↦ elim (place-cases p e.place) [
        | inl own ↦ inr (e, Contains-first e es, own)
        | inr other ↦ inl (sym (suspects-put slots e p other) ∙ now)
      ]
      | inr later ↦ inr (later.0, Contains-later e es later.0 later.1, later.2)
    ]

-- new movements are put in, and what is touched is marked, which new ones are
pub extended-suspects : (touched : Entry → Bool) (slots : List Slot) (es : List Entry) (mid new : Movements)
    → HaveOwnPlaces (entries_of slots ++ es) → slots_of mid ≡ put_all_new slots es → IsInPostingOrder (line_of mid)
    → ((e : Entry) → Contains es e → touched e ≡ true) → ((e : Entry) → Contains es e → Contains (line_of mid) e)
    → AreMarked mid new (λ f. touched f ≡ true) → (f : Entry) → Contains (line_of mid) f
    → suspects_of (slots_of new) f.place ≡ (suspects_of slots f.place || touched f)
extended-suspects touched slots es mid new apart made in_order are_new among marked f held =
    same-truth (suspects_of (slots_of new) f.place) (suspects_of slots f.place || touched f)
    (λ suspect. elim ((marked.marked f held).0 suspect) [
      | inl was ↦ elim (suspect-only slots es apart f.place (sym mid-is ∙ was)) [
        | inl old ↦ or_left (suspects_of slots f.place) (touched f) old
        | inr at ↦
            let same : f ≡ at.0 = one-at (line_of mid) at.0 f in_order (among at.0 at.1) held at.2 in
            or_right (suspects_of slots f.place) (touched f) (subst (λ (g : Entry). touched g ≡ true) (sym same) (are_new at.0 at.1))
      ]
      | inr now ↦ or_right (suspects_of slots f.place) (touched f) now
    ])
    (λ either. (marked.marked f held).1 (elim (or_cases (suspects_of slots f.place) (touched f) either) [
      | inl old ↦ inl (mid-is ∙ suspect-still slots es apart f.place old)
      | inr now ↦ inr now
    ]))
  where
    mid-is : suspects_of (slots_of mid) f.place ≡ suspects_of (put_all_new slots es) f.place
    mid-is = ap (λ (l : List Slot). suspects_of l f.place) made
