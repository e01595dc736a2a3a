-- The movements that come with further records of a legal journal, among those that were there.
use Rattle.std.proofs.Common.{◌≡◌, ℕ, ◌+◌, ◌^◌, ◌<◌, ◌≤◌, true, List, [], ◌∷◌, ◌++◌, length, filter, Some, Contains, ◌⊎◌, inl, inr, sym, ap, ◌∙◌, subst, arith, length-append}
use Rattle.std.proofs.lemmas.Bool.Decides.{nat_tests}
use Rattle.std.proofs.lemmas.List.Elements.{Contains-append_cases, Contains-append_left, Contains-append_right}
use Rattle.stock_nums.specs.declared.entry.Entry.{Entry}
use Rattle.stock_model.specs.Entries.{entries_after, is_live_entry, all_entries}
use Rattle.stock_model.specs.InOrder.{IsBefore, IsInPostingOrder}
use Rattle.stock_model.specs.Journals.{AreLegal}
use Rattle.stock_model.specs.PostingOrder.{put, put_all, posting_line}
use Rattle.stock_model.specs.VoucherLines.{moment_of}
use Rattle.stock_model.specs.declared.records.Record.{Record}
use Rattle.stock_model.proofs.Growth.{entries_after-append, length-posting_line}
use Rattle.stock_model.proofs.Pairwise.{Each, Pairwise, Across, Across-from_Each, Pairwise-from_AllPairs, AllPairs-from_Pairwise, Contains-cases, Contains-first, Contains-later}
use Rattle.stock_laws.proofs.Distinct.{Differ, entries_after-Pairwise}
use Rattle.stock_laws.proofs.EntryRecords.{IsOfRecord}
use Rattle.stock_laws.proofs.KnownEntries.{entries_after-known}
use Rattle.stock_laws.proofs.Legality.{AreSound-from, IsHeld-legal}
use Rattle.stock_laws.proofs.LiveEntries.{IsBetween, entries_after-between, Each-filter, Pairwise-filter}
use Rattle.stock_laws.proofs.LiveLines.{all_entries-longer}
use Rattle.stock_laws.proofs.PostingLine.{put_all-Pairwise, IsInPostingOrder-posting_line}
use Rattle.stock_laws.proofs.RecordsAt.{what_at, what_at-once}
use Rattle.quantity_check.specs.OwnPlaces.{HaveOwnPlaces}
use Rattle.quantity_check.proofs.OwnPlaceLemmas.{HaveOwnPlaces-put_all}
use Rattle.repost_laws.specs.Changes.{goes_with, coming, both_lines}
use Rattle.repost_laws.specs.Fetches.{AreDated, AreNew}
use Rattle.repost_laws.specs.Touched.{is_new, is_old, is_left}
use Rattle.repost_laws.proofs.ChangedJournals.{line-between, both-old, both-left}
use Rattle.repost_laws.proofs.Filtered.{Contains-filtered}
use Rattle.repost_laws.proofs.JournalFronts.{AreLegal-front}
use Rattle.repost_laws.proofs.MoreRecords.{of_line, in_line}
use Rattle.repost_laws.proofs.Spreading.{Each-Contains}
use Rattle.repost_spread.proofs.Puts.{Contains-put}

-- a movement in force is one of all that its records made
pub of-made : (journal : List Record) (e : Entry) → Contains (all_entries journal) e
    → Contains (entries_after [] journal) e × (is_live_entry journal e ≡ true)
unfolding all_entries
of-made journal e held = Contains-filtered (is_live_entry journal) (entries_after [] journal) e held

-- a movement of a line among which others were put is of the one or one of the others
pub put_all-cases : (line es : List Entry) (e : Entry) → Contains (put_all line es) e → Contains line e ⊎ Contains es e
put_all-cases line [] e held = inl held
put_all-cases line (f ∷ es) e held =
    elim (put_all-cases (put line f) es e held) [
      | inl first ↦ elim (Contains-cases f line e (Contains-put line f e first)) [
        | inl same ↦ inr (subst (Contains (f ∷ es)) same (Contains-first f es))
        | inr before ↦ inl before
      ]
      | inr later ↦ inr (Contains-later f es e later)
    ]

new-number : (n : ℕ) (e : Entry) → is_new n e ≡ true → n < e.place.voucher.0
new-number n e is = grind (arith, nat_tests)

new-from : (n : ℕ) (e : Entry) → n < e.place.voucher.0 → is_new n e ≡ true
new-from n e more = grind (arith, nat_tests)

-- what one record says has one moment
same_moment : (journal : List Record) (e f : Entry) → IsOfRecord journal e → IsOfRecord journal f
    → e.place.voucher.0 ≡ f.place.voucher.0 → e.place.moment ≡ f.place.moment
same_moment journal e f own other same =
    let held = subst (λ (n : ℕ). what_at journal n ≡ Some own.what) same own.held in
    let says : own.what ≡ other.what = what_at-once journal f.place.voucher.0 own.what other.what held other.held in
    let moments : Some e.place.moment ≡ Some f.place.moment = sym own.timed ∙ ap moment_of says ∙ other.timed in
    cc

module _ (journal more : List Record) where
  coming-between : Each (IsBetween (length journal) (length (journal ++ more))) (coming journal more)
  coming-between =
      Each-filter (IsBetween (length journal) (length (journal ++ more))) (is_live_entry (journal ++ more)) (entries_after journal more)
      (entries_after-between journal more)

  coming-apart : Pairwise Differ (coming journal more)
  coming-apart = Pairwise-filter Differ (is_live_entry (journal ++ more)) (entries_after journal more) (entries_after-Pairwise journal more)

  coming-across : Across Differ (coming journal more) (posting_line journal)
  coming-across =
      Across-from_Each Differ (IsBetween (length journal) (length (journal ++ more))) (IsBetween 0 (length journal))
      (λ a b new old same_voucher same_line same_side. omega (arith, new.0, old.1, same_voucher)) (coming journal more) (posting_line journal)
      coming-between (line-between journal)

  -- all stand in posting order, at places of their own
  pub both-ordered : IsInPostingOrder (both_lines journal more)
  both-ordered =
      AllPairs-from_Pairwise IsBefore (both_lines journal more)
      (put_all-Pairwise (posting_line journal) (coming journal more)
      (Pairwise-from_AllPairs IsBefore (posting_line journal) (IsInPostingOrder-posting_line journal)) coming-apart coming-across)

  pub coming-own_places : HaveOwnPlaces (posting_line journal ++ coming journal more)
  coming-own_places = HaveOwnPlaces-put_all (posting_line journal) (coming journal more) both-ordered

  -- those that were there and those that come are there
  pub line-in_both : (e : Entry) → Contains (posting_line journal) e → Contains (both_lines journal more) e
  line-in_both e held =
      (Contains-filtered (is_old (length journal)) (both_lines journal more) e
      (subst (λ (l : List Entry). Contains l e) (sym (both-old journal more)) held)).0

  pub coming-in_both : (e : Entry) → Contains (coming journal more) e → Contains (both_lines journal more) e
  coming-in_both e held =
      let all = journal ++ more in
      let among : Contains (all_entries all) e =
      subst (λ (l : List Entry). Contains l e) (sym (all_entries-longer journal more))
      (Contains-append_right (filter (is_live_entry all) (all_entries journal)) (coming journal more) e held) in
      (Contains-filtered (is_left (goes_with journal more)) (both_lines journal more) e
      (subst (λ (l : List Entry). Contains l e) (sym (both-left journal more)) (in_line all e among))).0

  -- those that come are the new ones
  pub coming-new : AreNew (length journal) (both_lines journal more) (coming journal more)
  coming-new e held = (
    λ new. elim (put_all-cases (posting_line journal) (coming journal more) e held) [
      | inl old ↦
          let own = Each-Contains (IsBetween 0 (length journal)) (posting_line journal) e (line-between journal) old in
          absurd (omega (arith, own.1, new-number (length journal) e new))
      | inr own ↦ own
    ],
    λ own. new-from (length journal) e
        (Each-Contains (IsBetween (length journal) (length (journal ++ more))) (coming journal more) e coming-between own).0,
  )

  -- all that are there were made
  made-among : (e : Entry) → Contains (posting_line journal ++ coming journal more) e → Contains (entries_after [] (journal ++ more)) e
  made-among e held =
      subst (λ (l : List Entry). Contains l e) (sym (entries_after-append [] journal more))
      (elim (Contains-append_cases (posting_line journal) (coming journal more) e held) [
        | inl old ↦ Contains-append_left (entries_after [] journal) (entries_after journal more) e (of-made journal e (of_line journal e old)).0
        | inr own ↦ Contains-append_right (entries_after [] journal) (entries_after journal more) e
            (Contains-filtered (is_live_entry (journal ++ more)) (entries_after journal more) e own).0
      ])

  module _ (legal : AreLegal (journal ++ more)) where
    -- they are few
    pub coming-few : length (posting_line journal) + length (coming journal more) ≤ 2 ^ 20
    coming-few =
        let all = journal ++ more in
        let left = filter (is_live_entry all) (all_entries journal) in
        omega (
          arith,
          length-posting_line journal,
          (IsHeld-legal journal (AreLegal-front journal more legal)).few,
          (IsHeld-legal all legal).few,
          ap length (all_entries-longer journal more),
          length-append left (coming journal more),
        )

    -- and dated
    pub coming-dated : AreDated (posting_line journal ++ coming journal more)
    coming-dated =
        let all = journal ++ more in
        let made = entries_after [] all in
        let known : (e : Entry) → Contains (posting_line journal ++ coming journal more) e → IsOfRecord all e =
        λ e held. Each-Contains (IsOfRecord all) made e (entries_after-known [] all (AreSound-from all legal)) (made-among e held) in
        let between : (e : Entry) → Contains (posting_line journal ++ coming journal more) e → IsBetween 0 (length all) e =
        λ e held. Each-Contains (IsBetween 0 (length all)) made e (entries_after-between [] all) (made-among e held) in
        record {
          numbered = λ e held. (between e held).0;
          few = λ e held. omega (arith, (between e held).1, (IsHeld-legal all legal).records);
          dated = λ e f held other same. same_moment all e f (known e held) (known f other) same;
        }
