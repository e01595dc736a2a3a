-- What the calls of a turn make of the movements is a turn as the laws say it.
use Rattle.std.specs.List.Sorted.{IsPermutation}
use Rattle.std.proofs.Common.{◌≡◌, ◌≢◌, ◌+◌, ℕ, ℤ, arith, true, false, List, Some, Contains, ◌⊎◌, ◌↔◌, inl, inr, refl, sym, ap, ◌∙◌, subst, IsTrue}
use Rattle.std.specs.List.{find}
use Rattle.std.proofs.lemmas.Bool.{false≢true}
use Rattle.stock_nums.specs.Places.{is_before}
use Rattle.stock_nums.specs.declared.cause.Target.{Target}
use Rattle.stock_nums.specs.declared.entry.Entry.{Entry}
use Rattle.stock_nums.specs.declared.place.Place.{Place}
use Rattle.stock_nums.specs.declared.place.Spot.{Spot}
use Rattle.stock_nums.proofs.PlaceOrder.{is_before-irreflexive}
use Rattle.stock_model.specs.InOrder.{IsInPostingOrder}
use Rattle.stock_model.specs.PostingOrder.{posting_line}
use Rattle.stock_model.specs.declared.records.Record.{Record}
use Rattle.cost_links.specs.Tables.{Held, held_by}
use Rattle.cost_links.specs.Taken.{Taken, value_taken, share_taken, held_after}
use Rattle.cost_links.specs.declared.values.Valued.{Valued as ValuedAt}
use Rattle.repost_frontier.specs.Readings.{value_of, found_of, suspects_of, revalued_of}
use Rattle.repost_frontier.specs.Slots.{is_suspect, with_value, slot_at}
use Rattle.repost_frontier.specs.declared.slot.Slot.{Slot}
use Rattle.repost_frontier.proofs.SlotOrder.{entries-with_value}
use Rattle.repost_frontier.proofs.SlotReadings.{found-valued, revalued-valued, suspect-valued, suspects-valued, entry-found, suspect-first, first-first}
use Rattle.repost_laws.specs.Builds.{IsTurn, IsFirst, IsFoundAt, IsValuedAt}
use Rattle.repost_laws.specs.Touched.{IsMarked, SpreadsTo}
use Rattle.repost_laws.specs.Valuations.{Valued, Found, valuation, valued_with, taken_from, earlier}
use Rattle.repost_laws.specs.WholeBuilds.{IsBuildOf}
use Rattle.repost_laws.proofs.Spreading.{spread-before}
use Rattle.repost_laws.proofs.Turns.{place-cases}
use Rattle.repost_laws.proofs.WholeSteps.{IsBuildOf-turn}
use Rattle.repost_spread.specs.Marks.{AreMarked}
use Rattle.repost_spread.specs.Movements.{AreKept, entries_of, slots_of, line_of, charged_by}
use Rattle.repost_spread.specs.declared.movements.Movements.{Movements}
use Rattle.repost_fetch.specs.Changes.{gone_spots}
use Rattle.repost_build.specs.Builds.{IsOf, IsTurned}
use Rattle.repost_build.specs.Readings.{slots_in, found_in, suspects_in, valued_in, base_of, target_of, fetches_of, turns_of, gone_of}
use Rattle.repost_build.specs.declared.build.Build.{Build}
use Rattle.repost_build.proofs.Givens.{charged-is}

-- what marks a movement spreads to it
marked-spreads : (line : List Entry) (found : Found) (place : Place) (now : Valued) (f : Entry) → IsMarked line found place now f
    → SpreadsTo line place f
marked-spreads line found place now f (inl starts) = inl starts.0
marked-spreads line found place now f (inr takes) = inr takes.0

module _ (old mid new : Movements) (s : Slot) (v : ValuedAt) (kept : AreKept old) (is : find is_suspect (slots_of old) ≡ Some s)
    (spread : AreMarked old mid (IsMarked (line_of old) (found_of (slots_of old)) s.entry.place (value_of v)))
    (made : slots_of new ≡ with_value (slots_of mid) s.entry.place v) where
  in_order : IsInPostingOrder (line_of old)
  in_order = kept.indexed.in_order

  pub first : IsFirst (line_of old) (suspects_of (slots_of old)) s.entry
  first = first-first (slots_of old) s in_order is

  pub line-stays : line_of new ≡ line_of old
  line-stays = ap entries_of made ∙ entries-with_value (slots_of mid) s.entry.place v ∙ spread.alike.entries

  there : (t : Slot) × (slot_at (slots_of mid) s.entry.place ≡ Some t) × (t.entry ≡ s.entry)
  there = entry-found (slots_of mid) s.entry spread.kept.indexed.in_order
      (subst (λ (line : List Entry). Contains line s.entry) (sym spread.alike.entries) first.held)

  found-now : IsFoundAt (found_of (slots_of old)) (found_of (slots_of new)) s.entry.place (value_of v)
  found-now =
      let now = found-valued (slots_of mid) s.entry.place v there.0 there.1 in
      record {
        own = ap (λ (slots : List Slot). found_of slots s.entry.place) made ∙ now.own;
        others = λ p other. ap (λ (slots : List Slot). found_of slots p) made ∙ now.others p other ∙ spread.alike.found p;
      }

  pub valued-now : IsValuedAt (revalued_of (slots_of old)) (revalued_of (slots_of new)) s.entry.place
  valued-now =
      let now = revalued-valued (slots_of mid) s.entry.place v there.0 there.1 in
      record {
        own = ap (λ (slots : List Slot). revalued_of slots s.entry.place) made ∙ now.own;
        others = λ p other. ap (λ (slots : List Slot). revalued_of slots p) made ∙ now.others p other ∙ spread.alike.revalued p;
      }

  suspect-other : (f : Entry) → f.place ≢ s.entry.place
      → suspects_of (slots_of new) f.place ≡ suspects_of (slots_of mid) f.place
  suspect-other f other =
      ap (λ (slots : List Slot). suspects_of slots f.place) made ∙ suspects-valued (slots_of mid) s.entry.place v f.place other

  suspect-own : (f : Entry) → f.place ≡ s.entry.place → suspects_of (slots_of new) f.place ≡ false
  suspect-own f own =
      ap (λ (p : Place). suspects_of (slots_of new) p) own ∙ ap (λ (slots : List Slot). suspects_of slots s.entry.place) made
      ∙ suspect-valued (slots_of mid) s.entry.place v

  -- what the movement spreads to comes after it, so it is another
  never-itself : (f : Entry) → f.place ≡ s.entry.place
      → IsMarked (line_of old) (found_of (slots_of old)) s.entry.place (value_of v) f → ⊥
  never-itself f own marked =
      let before = spread-before (line_of old) s.entry.place f
      (marked-spreads (line_of old) (found_of (slots_of old)) s.entry.place (value_of v) f marked) in
      false≢true (sym (is_before-irreflexive f.place) ∙ subst (λ (p : Place). is_before p f.place ≡ true) (sym own) before)

  marked-now : (f : Entry) → Contains (line_of old) f → IsTrue (suspects_of (slots_of new) f.place)
      ↔ ((IsTrue (suspects_of (slots_of old) f.place) × (f.place ≢ s.entry.place))
      ⊎ IsMarked (line_of old) (found_of (slots_of old)) s.entry.place (value_of v) f)
  marked-now f held =
      elim (place-cases f.place s.entry.place) [
        | inl own ↦ (
          λ suspect. absurd (false≢true (sym (suspect-own f own) ∙ suspect)),
          λ either. elim either [ inl was ↦ absurd (was.1 own) | inr marked ↦ absurd (never-itself f own marked) ],
        )
        | inr other ↦ (
          λ suspect. elim ((spread.marked f held).0 (subst IsTrue (suspect-other f other) suspect)) [
            | inl was ↦ inl (was, other)
            | inr marked ↦ inr marked
          ],
          λ either. subst IsTrue (sym (suspect-other f other)) ((spread.marked f held).1 (elim either [
            | inl was ↦ inl was.0
            | inr marked ↦ inr marked
          ])),
        )
      ]

  pub is-turn : (charged : Target → ℕ) → value_of v ≡ valuation charged (found_of (slots_of old)) (line_of old) s.entry
      → IsTurn charged (line_of old) (found_of (slots_of old)) (suspects_of (slots_of old)) s.entry (found_of (slots_of new))
      (suspects_of (slots_of new))
  is-turn charged same =
      record {
        suspect = suspect-first (slots_of old) s in_order is;
        first = first;
        valued = subst (λ (w : Valued). IsFoundAt (found_of (slots_of old)) (found_of (slots_of new)) s.entry.place w) same found-now;
        marked = subst (λ (w : Valued). (f : Entry) → Contains (line_of old) f → IsTrue (suspects_of (slots_of new) f.place)
            ↔ ((IsTrue (suspects_of (slots_of old) f.place) × (f.place ≢ s.entry.place))
            ⊎ IsMarked (line_of old) (found_of (slots_of old)) s.entry.place w f)) same marked-now;
      }

-- what is found of a movement that takes over so much
pub found-with : (v : ValuedAt) (t : Taken) (e : Entry) → v.worth.value.0 ≡ value_taken t e e.cause → v.worth.share.0 ≡ share_taken t e e.cause
    → held_by (Some v.after) ≡ held_after t e → value_of v ≡ valued_with t e
found-with v t e value share after =
    ap (λ (x : ℤ). record { worth = record { value = record { 0 = x }; share = v.worth.share }; after = held_by (Some v.after) }) value
    ∙ ap (λ (x : ℤ). record { worth = record { value = record { 0 = value_taken t e e.cause }; share = record { 0 = x } }; after = held_by (Some v.after) }) share
    ∙ ap (λ (h : Held). record { worth = record { value = record { 0 = value_taken t e e.cause }; share = record { 0 = share_taken t e e.cause } }; after = h }) after

-- a build after a turn
pub turned-build : (journal : List Record) (old new : Build) (s : Slot) (v : ValuedAt) (t : Taken) (mid : Movements) → IsOf journal old
    → find is_suspect (slots_in old) ≡ Some s
    → t ≡ taken_from (charged_by old.movements) (found_in old) (earlier (line_of old.movements) s.entry) s.entry
    → value_of v ≡ valued_with t s.entry
    → AreMarked old.movements mid (IsMarked (line_of old.movements) (found_in old) s.entry.place (value_of v))
    → slots_in new ≡ with_value (slots_of mid) s.entry.place v → base_of new ≡ base_of old → target_of new ≡ target_of old
    → gone_of new ≡ gone_of old → fetches_of new ≡ fetches_of old → turns_of new ≡ turns_of old + 1 → IsTurned journal old new s.entry.place
turned-build journal old new s v t mid of is taken now spread made base target gone fetches turns =
    let m = old.movements in
    let same : value_of v ≡ valuation (charged_by m) (found_in old) (line_of m) s.entry = now ∙ ap (λ (u : Taken). valued_with u s.entry) taken in
    let turn = is-turn m mid new.movements s v of.kept is spread made (charged_by m) same in
    record {
      entry = s.entry;
      at = refl;
      turn = subst (λ (charged : Target → ℕ). IsTurn charged (posting_line journal) (found_in old) (suspects_in old) s.entry (found_in new) (suspects_in new))
          (charged-is journal old of)
          (subst (λ (line : List Entry). IsTurn (charged_by m) line (found_in old) (suspects_in old) s.entry (found_in new) (suspects_in new)) of.line turn);
      valued = valued-now m mid new.movements s v of.kept is spread made;
      base = base;
      target = target;
      gone = gone;
      fetches = fetches;
      turns = turns;
    }

-- is of the same records
pub of-turned : (journal : List Record) (old new : Build) (place : Place) → IsOf journal old → AreKept new.movements
    → line_of new.movements ≡ line_of old.movements → ((line : Target) → charged_by new.movements line ≡ charged_by old.movements line)
    → IsTurned journal old new place → IsOf journal new
of-turned journal old new place of kept line charged turned =
    record {
      kept = kept;
      line = line ∙ of.line;
      charged = λ target. charged target ∙ of.charged target;
      target = turned.target ∙ of.target;
      fetched = omega (arith, of.fetched, turned.fetches, turned.base, turned.target);
      gone = subst (λ (s : List Spot). IsPermutation s (gone_spots (base_of new) journal)) (sym turned.gone)
          (subst (λ (n : ℕ). IsPermutation (gone_of old) (gone_spots n journal)) (sym turned.base) of.gone);
      built = subst (λ (n : ℕ). IsBuildOf journal n (found_in new) (suspects_in new) (valued_in new) (fetches_of new) (turns_of new)) (sym turned.base)
          (subst (λ (n : ℕ). IsBuildOf journal (base_of old) (found_in new) (suspects_in new) (valued_in new) n (turns_of new)) (sym turned.fetches)
          (subst (λ (n : ℕ). IsBuildOf journal (base_of old) (found_in new) (suspects_in new) (valued_in new) (fetches_of old) n) (sym turned.turns)
          (IsBuildOf-turn journal (base_of old) (found_in old) (found_in new) (suspects_in old) (suspects_in new) (valued_in old) (valued_in new)
          turned.entry (fetches_of old) (turns_of old) of.built turned.turn
          (subst (λ (p : Place). IsValuedAt (valued_in old) (valued_in new) p) (sym turned.at) turned.valued))));
    }
