-- Movements that go are taken out: what was found of the others stays.
use Rattle.std.proofs.Common.{◌≡◌, ◌≢◌, ℕ, pos, ◌≤ℤ◌, false, List, [], ◌∷◌, Option, Some, None, Contains, inl, inr, refl, sym, ap, ◌∙◌, subst, arith}
use Rattle.std.specs.Option.{option_map_or}
use Rattle.std.proofs.lemmas.Int.{ints}
use Rattle.stock_nums.specs.declared.entry.Entry.{Entry}
use Rattle.stock_nums.specs.declared.entry.Worth.{Worth}
use Rattle.stock_nums.specs.declared.limits.TheConstants.{MAX_VALUE}
use Rattle.stock_nums.specs.declared.place.Place.{Place}
use Rattle.stock_model.specs.LandedCost.{added}
use Rattle.stock_model.specs.PostingOrder.{posting_line}
use Rattle.stock_model.specs.declared.records.Record.{Record}
use Rattle.stock_model.proofs.Pairwise.{Contains-first, Contains-later}
use Rattle.repost_frontier.specs.Readings.{slot_found, found_of, suspects_of, revalued_of}
use Rattle.repost_frontier.specs.Slots.{slot_at, slots_without, is_suspect, is_revalued}
use Rattle.repost_frontier.specs.declared.slot.Slot.{Slot}
use Rattle.repost_frontier.proofs.SlotsLeft.{left-gone, left-others}
use Rattle.repost_laws.specs.Builds.{Suspects, ValuedSince}
use Rattle.repost_laws.specs.Valuations.{Found, Valued, worth_of, no_worth}
use Rattle.repost_laws.specs.WholeBuilds.{worth_at, IsWorthInRange, IsBuildOf}
use Rattle.repost_laws.proofs.ChangedLines.{valuation-alike}
use Rattle.repost_laws.proofs.Turns.{place-cases}
use Rattle.repost_spread.specs.Removing.{slots_but, slots_but_all}

-- none of these goes from the place
abbrev pub StandElsewhere : List Entry → Place → Type 0
StandElsewhere gone p = (g : Entry) → Contains gone g → p ≢ g.place

slot-stays : (slots : List Slot) (gone : List Entry) (p : Place) → StandElsewhere gone p → slot_at (slots_but_all slots gone) p ≡ slot_at slots p
slot-stays slots [] p apart = refl
slot-stays slots (g ∷ gone) p apart =
    slot-stays (slots_but slots g) gone p (λ h held. apart h (Contains-later g gone h held))
    ∙ left-others slots g.place p (apart g (Contains-first g gone))

pub found-stays : (slots : List Slot) (gone : List Entry) (p : Place) → StandElsewhere gone p → found_of (slots_but_all slots gone) p ≡ found_of slots p
found-stays slots gone p apart = ap (λ (o : Option Slot). option_map_or slot_found o None) (slot-stays slots gone p apart)

pub suspect-stays : (slots : List Slot) (gone : List Entry) (p : Place) → StandElsewhere gone p → suspects_of (slots_but_all slots gone) p ≡ suspects_of slots p
suspect-stays slots gone p apart = ap (λ (o : Option Slot). option_map_or is_suspect o false) (slot-stays slots gone p apart)

pub revalued-stays : (slots : List Slot) (gone : List Entry) (p : Place) → StandElsewhere gone p → revalued_of (slots_but_all slots gone) p ≡ revalued_of slots p
revalued-stays slots gone p apart = ap (λ (o : Option Slot). option_map_or is_revalued o false) (slot-stays slots gone p apart)

-- what is found at no place any more is worth nothing
range-of : (found : Found) (place : Place) (w : Worth) → worth_at found place ≡ w → pos 0 ≤ℤ w.value.0 → w.value.0 ≤ℤ pos MAX_VALUE → IsWorthInRange found place
range-of found place w is least most =
    record { from_zero = subst (λ (v : Worth). pos 0 ≤ℤ v.value.0) (sym is) least; within = subst (λ (v : Worth). v.value.0 ≤ℤ pos MAX_VALUE) (sym is) most }

pub range-alike : (found new_found : Found) (p : Place) → new_found p ≡ found p → IsWorthInRange found p → IsWorthInRange new_found p
range-alike found new_found p same range =
    range-of new_found p (worth_at found p) (ap (λ (o : Option Valued). option_map_or worth_of o no_worth) same) range.from_zero range.within

range-left : (slots : List Slot) (g : Entry) (p : Place) → IsWorthInRange (found_of slots) p → IsWorthInRange (found_of (slots_but slots g)) p
range-left slots g p range =
    let tell : Option Slot → Worth = λ (o : Option Slot). option_map_or worth_of (option_map_or slot_found o None) no_worth in
    elim (place-cases p g.place) [
      | inl same ↦
          let none : slot_at (slots_without slots g.place) p ≡ None =
          ap (slot_at (slots_without slots g.place)) same ∙ left-gone slots g.place in
          range-of (found_of (slots_but slots g)) p no_worth (ap tell none) (omega (arith, ints)) (omega (arith, ints))
      | inr other ↦ range-of (found_of (slots_but slots g)) p (worth_at (found_of slots) p) (ap tell (left-others slots g.place p other)) range.from_zero range.within
    ]

pub range-stays : (slots : List Slot) (gone : List Entry) (p : Place) → IsWorthInRange (found_of slots) p
    → IsWorthInRange (found_of (slots_but_all slots gone)) p
range-stays slots [] p range = range
range-stays slots (g ∷ gone) p range = range-stays (slots_but slots g) gone p (range-left slots g p range)

-- a build is one by what is found and valued of its movements alone
pub IsBuildOf-alike : (journal : List Record) (n : ℕ) (found new_found : Found) (suspects : Suspects) (valued new_valued : ValuedSince)
    (fetches turns : ℕ) → IsBuildOf journal n found suspects valued fetches turns
    → ((e : Entry) → Contains (posting_line journal) e → new_found e.place ≡ found e.place)
    → ((p : Place) → IsWorthInRange new_found p)
    → ((e : Entry) → Contains (posting_line journal) e → new_valued e.place ≡ valued e.place)
    → IsBuildOf journal n new_found suspects new_valued fetches turns
IsBuildOf-alike journal n found new_found suspects valued new_valued fetches turns build same range same_valued =
    let line = posting_line journal in
    let was = build.published in
    record {
      legal = build.legal;
      built = λ e held none.
          same e held ∙ build.built e held none
          ∙ ap Some (sym (valuation-alike found new_found (added journal) line e same));
      in_range = range;
      counted = build.counted;
      published =
          record {
            within = was.within;
            published = was.published;
            clean = was.clean;
            built = was.built;
            none_suspect = was.none_suspect;
            since = record {
              kept = λ e held old is. same e held ∙ was.since.kept e held old (sym (same_valued e held) ∙ is);
              later = λ e held new clean. same_valued e held ∙ was.since.later e held new clean;
            };
          };
    }
