-- What a build of a legal journal gives the calls of a turn.
use Rattle.std.proofs.Common.{◌≡◌, ◌↔◌, ◌∙◌, ℕ, ◌+◌, ◌*◌, ◌^◌, ◌<◌, ◌≤◌, length, filter, arith, false, List, [], ◌∷◌, ◌++◌, Option, Some, None, Contains, refl, sym, ap, subst, append_assoc, length-append}
use Rattle.std.specs.List.{find}
use Rattle.std.specs.Option.{is_some}
use Rattle.std.proofs.Math.Path.{fun_ext}
use Rattle.std.proofs.lemmas.Bool.{false≢true}
use Rattle.std.proofs.lemmas.Nat.{mul-le}
use Rattle.stock_nums.specs.declared.cause.Target.{Target}
use Rattle.stock_nums.specs.declared.entry.Entry.{Entry}
use Rattle.stock_model.specs.Enough.{IsEnough}
use Rattle.stock_model.specs.Entries.{entries, entries_after, is_spared, all_entries}
use Rattle.stock_model.specs.Journals.{AreLegal}
use Rattle.stock_model.specs.LandedCost.{added}
use Rattle.stock_model.specs.PostingOrder.{posting_line}
use Rattle.stock_model.specs.declared.records.Record.{Record}
use Rattle.stock_laws.proofs.LiveEntries.{all_entries-step}
use Rattle.stock_laws.proofs.Legality.{IsHeld-legal}
use Rattle.cost_links.specs.Taken.{CanBeTaken}
use Rattle.repost_frontier.specs.Slots.{is_suspect}
use Rattle.repost_frontier.specs.declared.slot.Slot.{Slot}
use Rattle.repost_frontier.proofs.SlotReadings.{first-first, suspect-first, clean-first}
use Rattle.repost_laws.specs.Builds.{IsFirst, IsClean}
use Rattle.repost_laws.specs.Fetches.{HaveOneMethod}
use Rattle.repost_laws.specs.Valuations.{earlier, taken_from}
use Rattle.repost_laws.proofs.FirstSuspect.{first-can}
use Rattle.repost_laws.specs.WholeBuilds.{made}
use Rattle.repost_laws.proofs.JournalFronts.{AreLegal-front, IsEnough-legal, HaveOneMethod-posting_line}
use Rattle.repost_spread.specs.Movements.{line_of, charged_by}
use Rattle.repost_build.specs.Builds.{IsOf}
use Rattle.repost_build.specs.Readings.{slots_in, found_in, suspects_in, fetches_of, turns_of}
use Rattle.repost_build.specs.declared.build.Build.{Build}

-- each record of a legal journal made no more movements than may be held
made-after : (done rest : List Record) → AreLegal (done ++ rest) → length (entries_after done rest) ≤ length rest * 200_000
made-after done [] legal = omega arith
made-after done (r ∷ rest) legal =
    let next = done ++ r ∷ [] in
    let all : AreLegal (next ++ rest) = subst AreLegal (sym (append_assoc done (r ∷ []) rest)) legal in
    omega (
      arith,
      (IsHeld-legal next (AreLegal-front next rest all)).few,
      ap length (all_entries-step done r),
      length-append (filter (is_spared r) (all_entries done)) (entries done r),
      length-append (entries done r) (entries_after next rest),
      made-after next rest all,
    )

module _ (journal : List Record) (build : Build) (of : IsOf journal build) where
  pub charged-is : charged_by build.movements ≡ added journal
  charged-is = fun_ext of.charged

  pub enough-of : IsEnough (line_of build.movements)
  enough-of = subst IsEnough (sym of.line) (IsEnough-legal journal of.built.legal)

  pub one_method-of : HaveOneMethod (line_of build.movements)
  one_method-of = subst HaveOneMethod (sym of.line) (HaveOneMethod-posting_line journal)

  -- there is room to count one turn more
  pub turns-fit : turns_of build + 1 < 2 ^ 64
  turns-fit =
      let held = IsHeld-legal journal of.built.legal in
      let entries : made journal + 1 ≤ 10_000_000_001 = omega (arith, made-after [] journal of.built.legal, held.records) in
      let fetches : fetches_of build ≤ 50_000 = omega (arith, of.fetched, of.target, held.records) in
      omega (arith, of.built.counted.few.bound, mul-le (fetches_of build) (made journal + 1) 50_000 10_000_000_001 fetches entries)

  pub first-of : (s : Slot) → find is_suspect (slots_in build) ≡ Some s → IsFirst (line_of build.movements) (suspects_in build) s.entry
  first-of s is = first-first (slots_in build) s of.kept.indexed.in_order is

  pub can-of : (s : Slot) → find is_suspect (slots_in build) ≡ Some s
      → CanBeTaken (taken_from (charged_by build.movements) (found_in build) (earlier (line_of build.movements) s.entry) s.entry) s.entry
  can-of s is =
      subst (λ (charged : Target → ℕ). CanBeTaken (taken_from charged (found_in build) (earlier (line_of build.movements) s.entry) s.entry) s.entry)
      (sym charged-is)
      (subst (λ (line : List Entry). CanBeTaken (taken_from (added journal) (found_in build) (earlier line s.entry) s.entry) s.entry)
      (sym of.line)
      (first-can journal (found_in build) (suspects_in build) s.entry of.built.legal of.built.built
      (subst (λ (line : List Entry). IsFirst line (suspects_in build) s.entry) of.line (first-of s is))))

-- whether a first suspect is found tells whether there is one
pub first-tells : (journal : List Record) (build : Build) → IsOf journal build → (first : Option Slot)
    → first ≡ find is_suspect (slots_in build) → (is_some first ≡ false) ↔ IsClean (posting_line journal) (suspects_in build)
first-tells journal build of None is = (λ _. clean, λ _. refl)
  where
    clean : IsClean (posting_line journal) (suspects_in build)
    clean = subst (λ (line : List Entry). IsClean line (suspects_in build)) of.line (clean-first (slots_in build) (sym is))
first-tells journal build of (Some s) is = (λ none. absurd (false≢true (sym none)), λ clean. absurd (never clean))
  where
    never : IsClean (posting_line journal) (suspects_in build) → ⊥
    never clean =
        let held = subst (λ (line : List Entry). Contains line s.entry) of.line (first-of journal build of s (sym is)).held in
        false≢true (sym (clean s.entry held) ∙ suspect-first (slots_in build) s of.kept.indexed.in_order (sym is))
