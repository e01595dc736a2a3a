-- Movements that are put among others, each with what was found of it.
use Rattle.std.proofs.Common.{◌≡◌, ℕ, ◌+◌, ◌-◌, ◌<◌, Bool, true, false, cond, List, [], ◌∷◌, ◌++◌, length, drop, get_or, Some, None, inl, inr, refl, sym, ap, ◌∙◌, subst, arith, drop-cons, suc, Contains}
use Rattle.std.proofs.lemmas.Option.{none-some}
use Rattle.std.proofs.lemmas.List.{length-map}
use Rattle.std.proofs.lemmas.List.Elements.{Contains-append_cases, Contains-append_left, Contains-append_right}
use Rattle.stock_nums.specs.Places.{is_before}
use Rattle.stock_nums.specs.declared.entry.Entry.{Entry}
use Rattle.stock_nums.specs.declared.place.Place.{Place}
use Rattle.stock_model.specs.PostingOrder.{put}
use Rattle.stock_model.proofs.Pairwise.{Contains-cases, Contains-first, Contains-later, Pairwise-from_AllPairs}
use Rattle.stock_laws.proofs.TestedSums.{All-from_Each}
use Rattle.posting_order.specs.Timelines.{entry_at}
use Rattle.quantity_check.specs.OwnPlaces.{StandApart, HaveOwnPlaces}
use Rattle.quantity_check.proofs.OwnPlaceLemmas.{Across-head, Pairwise-Across}
use Rattle.repost_frontier.specs.Slots.{slot_entry, slot_at, is_slot_at}
use Rattle.repost_frontier.specs.declared.slot.Slot.{Slot}
use Rattle.repost_index.specs.IndexState.{IndexState}
use Rattle.repost_index.specs.Indexed.{CanBeIndexed, HasRoom}
use Rattle.repost_laws.specs.Fetches.{AreDated}
use Rattle.repost_spread.specs.Adding.{put_new, put_all_new}
use Rattle.repost_spread.specs.Movements.{entries_of}

-- where no movement stands, none is found with what was found of it
pub slot-none : (slots : List Slot) (place : Place) → entry_at (entries_of slots) place ≡ None → slot_at slots place ≡ None
slot-none [] place none = refl
slot-none (s ∷ slots) place none = by_cases (is_slot_at place s) none (slot-none slots place)
  where
    by_cases : (b : Bool) → cond b (Some (slot_entry s)) (entry_at (entries_of slots) place) ≡ None
        → (entry_at (entries_of slots) place ≡ None → slot_at slots place ≡ None) → cond b (Some s) (slot_at slots place) ≡ None
    by_cases true h rest = absurd (none-some (slot_entry s) (sym h))
    by_cases false h rest = rest h

-- a movement of the line once one more is put in
pub Contains-put : (line : List Entry) (e f : Entry) → Contains (put line e) f → Contains (e ∷ line) f
Contains-put [] e f held = held
Contains-put (g ∷ line) e f held = by_cases (is_before e.place g.place) held (Contains-put line e f)
  where
    by_cases : (b : Bool) → Contains (cond b (e ∷ g ∷ line) (g ∷ put line e)) f → (Contains (put line e) f → Contains (e ∷ line) f)
        → Contains (e ∷ g ∷ line) f
    by_cases true h rest = h
    by_cases false h rest =
        elim (Contains-cases g (put line e) f h) [
          | inl same ↦ subst (Contains (e ∷ g ∷ line)) same (Contains-later e (g ∷ line) g (Contains-first g line))
          | inr later ↦ elim (Contains-cases e line f (rest later)) [
            | inl same ↦ subst (Contains (e ∷ g ∷ line)) same (Contains-first e (g ∷ line))
            | inr other ↦ Contains-later e (g ∷ line) f (Contains-later g line f other)
          ]
        ]

moved : (line es : List Entry) (e f : Entry) → Contains (put line e ++ es) f → Contains (line ++ e ∷ es) f
moved line es e f held =
    elim (Contains-append_cases (put line e) es f held) [
      | inl own ↦ elim (Contains-cases e line f (Contains-put line e f own)) [
        | inl same ↦ Contains-append_right line (e ∷ es) f (subst (Contains (e ∷ es)) same (Contains-first e es))
        | inr before ↦ Contains-append_left line (e ∷ es) f before
      ]
      | inr later ↦ Contains-append_right line (e ∷ es) f (Contains-later e es f later)
    ]

-- they are dated as before
AreDated-next : (line es : List Entry) (e : Entry) → AreDated (line ++ e ∷ es) → AreDated (put line e ++ es)
AreDated-next line es e dated =
    record {
      numbered = λ f held. dated.numbered f (moved line es e f held);
      few = λ f held. dated.few f (moved line es e f held);
      dated = λ f g held also. dated.dated f g (moved line es e f held) (moved line es e g also);
    }

-- the rest begins with the next
pub rest-is : (es : List Entry) (i : ℕ) (e : Entry) → i < length es → e ≡ get_or es i e → drop i es ≡ e ∷ drop (i + 1) es
rest-is es i e within is =
    let one_more : suc i ≡ i + 1 = omega arith in
    drop-cons es i e within ∙ ap (λ (f : Entry). f ∷ drop (suc i) es) (sym is) ∙ ap (λ (k : ℕ). e ∷ drop k es) one_more

pub AreDated-step : (line es : List Entry) (i : ℕ) (e : Entry) → i < length es → e ≡ get_or es i e → AreDated (line ++ drop i es)
    → AreDated (put line e ++ drop (i + 1) es)
AreDated-step line es i e within is dated =
    AreDated-next line (drop (i + 1) es) e (subst (λ (rest : List Entry). AreDated (line ++ rest)) (rest-is es i e within is) dated)

pub slots-step : (slots new old : List Slot) (es : List Entry) (i : ℕ) (e : Entry) → i < length es → e ≡ get_or es i e → new ≡ put_new slots e
    → put_all_new slots (drop i es) ≡ put_all_new old es → put_all_new new (drop (i + 1) es) ≡ put_all_new old es
slots-step slots new old es i e within is made so_far =
    ap (λ (l : List Slot). put_all_new l (drop (i + 1) es)) made ∙ ap (put_all_new slots) (sym (rest-is es i e within is)) ∙ so_far

-- the next of them can be found
pub CanBeIndexed-next : (line es : List Entry) (i : ℕ) (e : Entry) → i < length es → e ≡ get_or es i e → HaveOwnPlaces (line ++ drop i es) → AreDated (line ++ drop i es)
    → CanBeIndexed line e
CanBeIndexed-next line es i e within is apart dated =
    let rest = rest-is es i e within is in
    let more = subst (λ (fs : List Entry). HaveOwnPlaces (line ++ fs)) rest apart in
    let all = subst (λ (fs : List Entry). AreDated (line ++ fs)) rest dated in
    let own = Contains-append_right line (e ∷ drop (i + 1) es) e (Contains-first e (drop (i + 1) es)) in
    record {
      apart = All-from_Each (λ f. f.place ≡ e.place → ⊥) line (Across-head StandApart line e (drop (i + 1) es)
          (Pairwise-Across StandApart line (e ∷ drop (i + 1) es) (Pairwise-from_AllPairs StandApart (line ++ e ∷ drop (i + 1) es) more)));
      numbered = all.numbered e own;
      few = all.few e own;
      dated = λ f held. all.dated f e (Contains-append_left line (e ∷ drop (i + 1) es) f held) own;
    }

pub count-of : (slots : List Slot) → length (entries_of slots) ≡ length slots
count-of slots = length-map slots slot_entry

-- where there is room for more, there is for one
pub room-next : (n : ℕ) (index : IndexState) → 0 < n → HasRoom n index → HasRoom 1 index
room-next n index some room = record {
  keys = omega (arith, some, room.keys);
  entering = omega (arith, some, room.entering);
  leaving = omega (arith, some, room.leaving);
  dates = room.dates;
}

pub few-next : (n i : ℕ) (old new : IndexState) → i < n → ((m : ℕ) → HasRoom (m + 1) old → HasRoom m new) → HasRoom (n - i) old → HasRoom (n - (i + 1)) new
few-next n i old new within less room =
    let count : n - i ≡ (n - (i + 1)) + 1 = omega (arith, within) in
    less (n - (i + 1)) (subst (λ (m : ℕ). HasRoom m old) count room)
