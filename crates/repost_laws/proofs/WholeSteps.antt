-- What a build keeps is kept by each of its steps.
use Rattle.std.proofs.Common.{◌≡◌, ℕ, pos, ◌+◌, ◌≤◌, ◌≤ℤ◌, ℤ, true, ◌&&◌, ◌||◌, List, [], ◌++◌, length, take, drop, filter, Some, None, inl, inr, refl, sym, ap, ◌∙◌, subst, arith, int_le, length-take, length-append, Contains}
use Rattle.std.proofs.lemmas.Bool.Decides.{nat_tests}
use Rattle.std.proofs.lemmas.Int.{ints}
use Rattle.std.proofs.lemmas.List.{take-append-le, take-append-drop, take_all}
use Rattle.stock_nums.specs.declared.entry.Entry.{Entry}
use Rattle.stock_nums.specs.declared.entry.Worth.{Worth}
use Rattle.stock_nums.specs.declared.limits.TheConstants.{MAX_VALUE}
use Rattle.stock_nums.specs.declared.place.Place.{Place}
use Rattle.std.specs.Option.{option_map_or}
use Rattle.stock_model.specs.Entries.{all_entries}
use Rattle.stock_model.specs.Journals.{AreLegal}
use Rattle.stock_model.specs.LandedCost.{added}
use Rattle.stock_model.specs.PostingOrder.{posting_line}
use Rattle.stock_model.specs.Replay.{replay}
use Rattle.stock_model.specs.declared.records.Record.{Record}
use Rattle.stock_laws.proofs.Legality.{AreLegal-take}
use Rattle.stock_laws.proofs.PostingLine.{IsInPostingOrder-posting_line}
use Rattle.repost_laws.specs.Builds.{Suspects, IsBuilt, IsClean, IsTurn, ValuedSince, IsValuedAt, IsSince, is_as_published, is_row_left}
use Rattle.repost_laws.specs.Changes.{goes_with, both_lines, is_recharged}
use Rattle.repost_laws.specs.Touched.{is_touched_by}
use Rattle.repost_laws.specs.Valuations.{Valued, Found, nothing_found, worth_of, no_worth, valuation, found_rows}
use Rattle.repost_laws.specs.WholeBuilds.{made, worth_at, IsWorthInRange, IsBuildOf, none_suspect, none_valued}
use Rattle.repost_laws.proofs.FirstSuspect.{first-can}
use Rattle.repost_laws.proofs.LocalRows.{found_rows-replay}
use Rattle.repost_laws.proofs.ChangedLines.{IsBuilt-change}
use Rattle.repost_laws.proofs.ChangedJournals.{IsChange-more}
use Rattle.repost_laws.proofs.MadeEntries.{length-line-made, made-grows}
use Rattle.repost_laws.proofs.SinceChanges.{IsSince-start, IsSince-change, IsSince-turn, replay-changed}
use Rattle.repost_laws.proofs.TurnCounts.{AreAhead-turn, AreFew-start, AreFew-fetch, AreFew-turn}
use Rattle.repost_laws.proofs.Turns.{place-cases, IsBuilt-turn}

-- nothing found is worth nothing
in_range-none : (place : Place) → IsWorthInRange nothing_found place
in_range-none place = record { from_zero = omega (arith, ints); within = omega (arith, ints) }

no-entry : (e : Entry) → Contains (posting_line []) e → ⊥
unfolding posting_line all_entries
no-entry e held = absurd (omega (arith, held.1))

pub IsBuildOf-start : IsBuildOf [] 0 nothing_found none_suspect none_valued 0 0
IsBuildOf-start =
    record {
      legal = tt;
      built = λ e held. absurd (no-entry e held);
      in_range = in_range-none;
      counted = record { last = None; ahead = λ e held. absurd (no-entry e held); few = AreFew-start (posting_line []) none_suspect None (made []) (length-line-made []) (λ e held. refl) };
      published =
          record {
            within = omega arith;
            published = nothing_found;
            clean = none_suspect;
            built = λ e held. absurd (no-entry e held);
            none_suspect = λ e held. refl;
            since = record { kept = λ e held old is. refl; later = λ e held. absurd (no-entry e held) };
          };
    }

-- with the first n of more records
first-same : (journal more : List Record) (n : ℕ) → n ≤ length journal → take n journal ≡ take n (journal ++ more)
first-same journal more n within = sym (take-append-le n journal more within)

-- further records, which bring movements and may take some away
pub IsBuildOf-change : (journal more : List Record) (n : ℕ) (found : Found) (suspects new_suspects : Suspects)
    (valued : ValuedSince) (fetches turns : ℕ) → IsBuildOf journal n found suspects valued fetches turns
    → AreLegal (journal ++ more)
    → ((e : Entry) → Contains (posting_line (journal ++ more)) e → new_suspects e.place
    ≡ (suspects e.place || is_touched_by (length journal) (goes_with journal more) (is_recharged journal more) (both_lines journal more) e))
    → IsBuildOf (journal ++ more) n found new_suspects valued (fetches + 1) (turns + 1)
IsBuildOf-change journal more n found suspects new_suspects valued fetches turns build legal marked =
    let line = posting_line journal in
    let all = journal ++ more in
    let new_line = posting_line all in
    let m = length journal in
    let gone = goes_with journal more in
    let charged_by = is_recharged journal more in
    let both = both_lines journal more in
    let change = IsChange-more journal more found suspects new_suspects legal marked in
    let was = build.published in
    let first = first-same journal more n was.within in
    record {
      legal = legal;
      built = IsBuilt-change m gone charged_by both (added journal) line found suspects (added all) new_line found new_suspects change build.built;
      in_range = build.in_range;
      counted = record { last = None; ahead = λ e held suspect. refl; few = AreFew-fetch line new_line suspects new_suspects build.counted.last (made journal) (made all) fetches turns (made-grows journal more) (length-line-made all) build.counted.few };
      published =
          record {
            within = omega (arith, was.within, length-append journal more);
            published = was.published;
            clean = was.clean;
            built = subst (λ (j : List Record). IsBuilt (added j) (posting_line j) was.published was.clean) first was.built;
            none_suspect = subst (λ (j : List Record). IsClean (posting_line j) was.clean) first was.none_suspect;
            since = IsSince-change n m was.published gone charged_by both (added journal) line found suspects (added all) new_line found new_suspects valued was.within change was.since;
          };
    }

-- what is valued is worth from 0 to 3*10^17
range-of : (v : ℤ) → (int_le (pos 0) v && int_le v (pos MAX_VALUE)) ≡ true → (pos 0 ≤ℤ v) × (v ≤ℤ pos MAX_VALUE)
range-of v h = (grind (arith, ints, nat_tests), grind (arith, ints, nat_tests))

range-now : (found : Found) (place : Place) (now : Valued) → found place ≡ Some now → (pos 0 ≤ℤ now.worth.value.0) × (now.worth.value.0 ≤ℤ pos MAX_VALUE) → IsWorthInRange found place
range-now found place now is range =
    let own : worth_at found place ≡ now.worth = ap (λ o. option_map_or worth_of o no_worth) is in
    record { from_zero = subst (λ (w : Worth). pos 0 ≤ℤ w.value.0) (sym own) range.0; within = subst (λ (w : Worth). w.value.0 ≤ℤ pos MAX_VALUE) (sym own) range.1 }

range-same : (found new_found : Found) (place : Place) → new_found place ≡ found place → IsWorthInRange found place → IsWorthInRange new_found place
range-same found new_found place same range =
    let own : worth_at new_found place ≡ worth_at found place = ap (λ o. option_map_or worth_of o no_worth) same in
    record { from_zero = subst (λ (w : Worth). pos 0 ≤ℤ w.value.0) (sym own) range.from_zero; within = subst (λ (w : Worth). w.value.0 ≤ℤ pos MAX_VALUE) (sym own) range.within }

pub IsBuildOf-turn : (journal : List Record) (n : ℕ) (found new_found : Found) (suspects new_suspects : Suspects)
    (valued new_valued : ValuedSince) (e : Entry) (fetches turns : ℕ)
    → IsBuildOf journal n found suspects valued fetches turns
    → IsTurn (added journal) (posting_line journal) found suspects e new_found new_suspects
    → IsValuedAt valued new_valued e.place
    → IsBuildOf journal n new_found new_suspects new_valued fetches (turns + 1)
IsBuildOf-turn journal n found new_found suspects new_suspects valued new_valued e fetches turns build turn at =
    let line = posting_line journal in
    let now = valuation (added journal) found line e in
    let can = first-can journal found suspects e build.legal build.built turn.first in
    let range = range-of now.worth.value.0 can.in_range in
    let was = build.published in
    record {
      legal = build.legal;
      built = IsBuilt-turn (added journal) line found suspects e new_found new_suspects (IsInPostingOrder-posting_line journal) turn build.built;
      in_range = λ place. elim (place-cases place e.place) [
        | inl same ↦ range-now new_found place now (ap new_found same ∙ turn.valued.own) range
        | inr other ↦ range-same found new_found place (turn.valued.others place other) (build.in_range place)
      ];
      counted = record {
        last = Some e.place;
        ahead = AreAhead-turn (added journal) line found suspects e new_found new_suspects turn;
        few = AreFew-turn (added journal) line found suspects e new_found new_suspects build.counted.last (made journal) fetches turns turn build.counted.ahead build.counted.few;
      };
      published =
          record {
            within = was.within;
            published = was.published;
            clean = was.clean;
            built = was.built;
            none_suspect = was.none_suspect;
            since = IsSince-turn n was.published (added journal) line found suspects e new_found new_suspects valued new_valued turn at was.since;
          };
    }

pub IsBuildOf-published : (journal : List Record) (n : ℕ) (found : Found) (suspects : Suspects) (valued : ValuedSince)
    (fetches turns : ℕ) → IsBuildOf journal n found suspects valued fetches turns → IsClean (posting_line journal) suspects
    → IsBuildOf journal (length journal) found suspects none_valued 0 0
IsBuildOf-published journal n found suspects valued fetches turns build clean =
    let line = posting_line journal in
    let whole : journal ≡ take (length journal) journal = sym (take_all (length journal) journal (omega arith)) in
    record {
      legal = build.legal;
      built = build.built;
      in_range = build.in_range;
      counted = record { last = None; ahead = λ e held suspect. refl; few = AreFew-start line suspects None (made journal) (length-line-made journal) clean };
      published =
          record {
            within = omega arith;
            published = found;
            clean = suspects;
            built = subst (λ (j : List Record). IsBuilt (added j) (posting_line j) found suspects) whole build.built;
            none_suspect = subst (λ (j : List Record). IsClean (posting_line j) suspects) whole clean;
            since = IsSince-start journal found suspects none_valued build.legal (λ place. refl);
          };
    }

pub rows-clean : (journal : List Record) (n : ℕ) (found : Found) (suspects : Suspects) (valued : ValuedSince)
    (fetches turns : ℕ) → IsBuildOf journal n found suspects valued fetches turns → IsClean (posting_line journal) suspects
    → found_rows found (posting_line journal) ≡ replay journal
rows-clean journal n found suspects valued fetches turns build clean = found_rows-replay journal found build.legal (λ e held. build.built e held (clean e held))

pub rows-changed : (journal : List Record) (n : ℕ) (found : Found) (suspects : Suspects) (valued : ValuedSince)
    (fetches turns : ℕ) → IsBuildOf journal n found suspects valued fetches turns → IsClean (posting_line journal) suspects
    → filter (is_as_published valued) (replay journal)
    ≡ filter (is_as_published valued) (filter (is_row_left (goes_with (take n journal) (drop n journal))) (replay (take n journal)))
rows-changed journal n found suspects valued fetches turns build clean =
    let was = build.published in
    let front = take n journal in
    let rest = drop n journal in
    let whole : journal ≡ front ++ rest = sym (take-append-drop n journal) in
    let count : n ≡ length front = omega (arith, length-take n journal, was.within) in
    subst (λ (j : List Record). filter (is_as_published valued) (replay j) ≡ filter (is_as_published valued) (filter (is_row_left (goes_with front rest)) (replay front))) (sym whole)
    (replay-changed front rest was.published found suspects was.clean valued (AreLegal-take journal n build.legal)
    (subst AreLegal whole build.legal) was.built was.none_suspect
    (subst (λ (j : List Record). IsBuilt (added j) (posting_line j) found suspects) whole build.built)
    (subst (λ (j : List Record). IsClean (posting_line j) suspects) whole clean)
    (subst (λ (m : ℕ). IsSince m was.published (posting_line (front ++ rest)) found suspects valued) count
    (subst (λ (j : List Record). IsSince n was.published (posting_line j) found suspects valued) whole was.since)))
