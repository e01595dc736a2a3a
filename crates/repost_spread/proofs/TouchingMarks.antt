-- What marks make suspect, one after another.
use Rattle.std.proofs.Common.{◌≡◌, List, Contains, inl, inr, refl, sym, ap, ◌∙◌, subst, ◌⊎◌, IsTrue}
use Rattle.stock_nums.specs.declared.entry.Entry.{Entry}
use Rattle.stock_nums.specs.declared.place.Place.{Place}
use Rattle.cost_links.specs.Linked.{charged_of}
use Rattle.repost_frontier.specs.Readings.{found_of, revalued_of, suspects_of}
use Rattle.repost_frontier.specs.Slots.{slot_at, marks}
use Rattle.repost_frontier.specs.declared.slot.Slot.{Slot}
use Rattle.repost_frontier.proofs.SlotOrder.{entries-marks}
use Rattle.repost_frontier.proofs.SlotReadings.{suspect-marked, suspects-marked, found-marked, revalued-marked, entry-found}
use Rattle.repost_laws.proofs.Turns.{place-cases}
use Rattle.repost_spread.specs.Movements.{AreFoundBy, AreKept, entries_of, slots_of, line_of}
use Rattle.repost_spread.specs.Marks.{AreMarked}
use Rattle.repost_spread.specs.declared.movements.Movements.{Movements}

-- nothing is changed where none is to be marked
pub unmarked : (m : Movements) (p : Entry → Type 0) → AreKept m → ((f : Entry) → Contains (line_of m) f → p f → ⊥) → AreMarked m m p
unmarked m p kept none =
    record {
      kept = kept;
      alike = record { entries = refl; found = λ _. refl; revalued = λ _. refl; charged = λ _. refl };
      marked = λ f held. (inl, λ either. elim either [ inl was ↦ was | inr now ↦ absurd (none f held now) ]);
    }

-- those that are marked are told otherwise
pub marked-as : (old new : Movements) (p q : Entry → Type 0) → ((f : Entry) → Contains (line_of old) f → p f → q f)
    → ((f : Entry) → Contains (line_of old) f → q f → p f) → AreMarked old new p → AreMarked old new q
marked-as old new p q to from are =
    record {
      kept = are.kept;
      alike = are.alike;
      marked = λ f held. (
        λ suspect. elim ((are.marked f held).0 suspect) [ inl was ↦ inl was | inr now ↦ inr (to f held now) ],
        λ either. (are.marked f held).1 (elim either [ inl was ↦ inl was | inr now ↦ inr (from f held now) ]),
      );
    }

-- some are marked, and then others
pub marked-then : (a b c : Movements) (p q : Entry → Type 0) → AreMarked a b p → AreMarked b c q → AreMarked a c (λ f. p f ⊎ q f)
marked-then a b c p q first second =
    record {
      kept = second.kept;
      alike = record {
        entries = second.alike.entries ∙ first.alike.entries;
        found = λ place. second.alike.found place ∙ first.alike.found place;
        revalued = λ place. second.alike.revalued place ∙ first.alike.revalued place;
        charged = λ line. second.alike.charged line ∙ first.alike.charged line;
      };
      marked = λ f held.
          let held_then = subst (λ (line : List Entry). Contains line f) (sym first.alike.entries) held in (
            λ suspect. elim ((second.marked f held_then).0 suspect) [
              | inl was ↦ elim ((first.marked f held).0 was) [ inl before ↦ inl before | inr now ↦ inr (inl now) ]
              | inr now ↦ inr (inr now)
            ],
            λ either. (second.marked f held_then).1 (elim either [
              | inl before ↦ inl ((first.marked f held).1 (inl before))
              | inr later ↦ elim later [ inl one ↦ inl ((first.marked f held).1 (inr one)) | inr other ↦ inr other ]
            ]),
          );
    }

-- what a mark at a place makes of the movements
pub marked-at : (old new : Movements) (place : Place) → AreKept old → slots_of new ≡ marks (slots_of old) place → new.index ≡ old.index
    → new.links ≡ old.links → AreMarked old new (λ f. f.place ≡ place)
marked-at old new place kept made index links =
    let was = slots_of old in
    let same : line_of new ≡ line_of old = ap entries_of made ∙ entries-marks was place in
    record {
      kept = subst (λ i. AreFoundBy (line_of new) i new.links) (sym index) (subst (λ l. AreFoundBy (line_of new) old.index l) (sym links)
          (subst (λ (line : List Entry). AreFoundBy line old.index old.links) (sym same) kept));
      alike = record {
        entries = same;
        found = λ p. ap (λ (slots : List Slot). found_of slots p) made ∙ found-marked was place p;
        revalued = λ p. ap (λ (slots : List Slot). revalued_of slots p) made ∙ revalued-marked was place p;
        charged = λ line. ap (λ l. charged_of l line) links;
      };
      marked = λ f held. (to f held, from f held);
    }
  where
    reads : (p : Place) → suspects_of (slots_of new) p ≡ suspects_of (marks (slots_of old) place) p
    reads p = ap (λ (slots : List Slot). suspects_of slots p) made

    to : (f : Entry) → Contains (line_of old) f → IsTrue (suspects_of (slots_of new) f.place)
        → IsTrue (suspects_of (slots_of old) f.place) ⊎ (f.place ≡ place)
    to f held suspect =
        elim (place-cases f.place place) [
          | inl own ↦ inr own
          | inr other ↦ inl (subst IsTrue (reads f.place ∙ suspects-marked (slots_of old) place f.place other) suspect)
        ]

    from : (f : Entry) → Contains (line_of old) f → IsTrue (suspects_of (slots_of old) f.place) ⊎ (f.place ≡ place)
        → IsTrue (suspects_of (slots_of new) f.place)
    from f held either =
        elim (place-cases f.place place) [
          | inl own ↦
              let there = entry-found (slots_of old) f kept.indexed.in_order held in
              subst IsTrue (sym (reads f.place ∙ ap (λ (p : Place). suspects_of (marks (slots_of old) place) p) own
              ∙ suspect-marked (slots_of old) place there.0 (ap (slot_at (slots_of old)) (sym own) ∙ there.1))) refl
          | inr other ↦ elim either [
            | inl was ↦ subst IsTrue (sym (reads f.place ∙ suspects-marked (slots_of old) place f.place other)) was
            | inr own ↦ absurd (other own)
          ]
        ]
