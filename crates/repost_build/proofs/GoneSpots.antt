-- The spots of the first records' movements that go: those that went before, and those that go with further records.
use Rattle.std.proofs.Common.{◌≡◌, ℕ, ◌<◌, ◌≤◌, Bool, true, false, cond, ◌&&◌, not, List, [], ◌∷◌, ◌++◌, length, take, drop, map, filter, refl, sym, ap, ◌∙◌, subst, arith, length-take}
use Rattle.std.specs.List.Sorted.{IsPermutation}
use Rattle.std.proofs.lemmas.Bool.{false≢true}
use Rattle.std.proofs.lemmas.Bool.Decides.{nat_tests}
use Rattle.std.proofs.lemmas.List.{append-nil, map-append, take-append-drop, take-append-le, take_all}
use Rattle.std.proofs.lemmas.List.Elements.{filter-append}
use Rattle.std.proofs.lemmas.List.Sorted.{IsPermutation-sym, IsPermutation-trans, IsPermutation-append, IsPermutation-map, IsPermutation-filter_both}
use Rattle.stock_nums.specs.declared.entry.Entry.{Entry}
use Rattle.stock_nums.specs.declared.place.Spot.{Spot}
use Rattle.stock_model.specs.Entries.{entries_after, is_live, is_live_entry, all_entries}
use Rattle.stock_model.specs.PostingOrder.{posting_line}
use Rattle.stock_model.specs.declared.records.Record.{Record}
use Rattle.stock_model.proofs.Growth.{entries_after-append}
use Rattle.stock_model.proofs.Pairwise.{Each}
use Rattle.stock_laws.proofs.Formulas.{put_all-Each}
use Rattle.stock_laws.proofs.LiveEntries.{IsBetween, entries_after-between, filter-passes, filter-fails}
use Rattle.stock_laws.proofs.LiveLines.{is_live-longer}
use Rattle.stock_laws.proofs.PostingLine.{IsPermutation-posting_line}
use Rattle.repost_fetch.specs.Changes.{gone_spots, spot_of_entry}
use Rattle.repost_fetch.specs.Fetched.{is_taken, going}
use Rattle.repost_laws.specs.Changes.{goes_with}
use Rattle.repost_laws.specs.Touched.{is_old, is_gone}
use Rattle.repost_laws.proofs.ChangedJournals.{line-between}
use Rattle.repost_laws.proofs.Filtered.{filter-both, filter-swap}
use Rattle.repost_laws.proofs.MoreRecords.{is_old-from}
use Rattle.repost_laws.proofs.Spreading.{Each-passes}
use Rattle.repost_spread.proofs.Permuted.{IsPermutation-filter}

new-from : (n : ℕ) (e : Entry) → n < e.place.voucher.0 → is_old n e ≡ false
new-from n e more = grind (arith, nat_tests)

not_not : (b : Bool) → b ≡ not (not b)
not_not true = refl
not_not false = refl

-- where all that pass the one test pass the other, the other takes none of them
filter-within : (P : Entry → Type 0) (p q : Entry → Bool) → ((e : Entry) → P e → p e ≡ true → q e ≡ true) → (es : List Entry) → Each P es
    → filter p (filter q es) ≡ filter p es
filter-within P p q wider [] all = refl
filter-within P p q wider (e ∷ es) all = by_cases (p e) (q e) refl (wider e all.0) (filter-within P p q wider es all.1)
  where
    by_cases : (b c : Bool) → p e ≡ b → (p e ≡ true → c ≡ true) → filter p (filter q es) ≡ filter p es
        → filter p (cond c (e ∷ filter q es) (filter q es)) ≡ cond b (e ∷ filter p es) (filter p es)
    by_cases true true is h rest = ap (λ (v : Bool). cond v (e ∷ filter p (filter q es)) (filter p (filter q es))) is ∙ ap (λ (fs : List Entry). e ∷ fs) rest
    by_cases true false is h rest = absurd (false≢true (h is))
    by_cases false true is h rest = ap (λ (v : Bool). cond v (e ∷ filter p (filter q es)) (filter p (filter q es))) is ∙ rest
    by_cases false false is h rest = rest

-- the movements of a line are those of records in force
line-live : (journal : List Record) → Each (λ e. is_live_entry journal e ≡ true) (posting_line journal)
unfolding posting_line all_entries
line-live journal = put_all-Each (λ e. is_live_entry journal e ≡ true) [] (all_entries journal) tt (Each-passes (is_live_entry journal) (entries_after [] journal))

-- none goes where no record came
pub no-spots : (journal : List Record) (n : ℕ) → n ≡ length journal → gone_spots n journal ≡ []
no-spots journal n count =
    let whole : take n journal ≡ journal = take_all n journal (omega (arith, count)) in
    ap (map spot_of_entry)
    (ap (λ (j : List Record). filter (is_gone (λ k. not (is_live j k))) (posting_line (take n journal))) (take-append-drop n journal)
    ∙ ap (λ (j : List Record). filter (is_gone (λ k. not (is_live journal k))) (posting_line j)) whole
    ∙ filter-fails (λ e. is_live_entry journal e ≡ true) (is_gone (λ k. not (is_live journal k))) (λ e live. ap not live) (posting_line journal) (line-live journal))

module _ (journal more : List Record) (base : ℕ) (within : base ≤ length journal) where
  abbrev all : List Record
  all = journal ++ more

  abbrev first : List Record
  first = take base journal

  abbrev taken : Entry → Bool
  taken = is_gone (is_taken journal more)

  -- not in force, in the journal and in the longer one
  abbrev dead : List Record → Entry → Bool
  dead j = is_gone (λ k. not (is_live j k))

  size : length first ≡ base
  size = omega (arith, length-take base journal, within)

  abbrev IsFirst : Entry → Type 0
  IsFirst = IsBetween 0 base

  line-first : Each IsFirst (posting_line first)
  line-first = subst (λ (n : ℕ). Each (IsBetween 0 n) (posting_line first)) size (line-between first)

  made-first : Each IsFirst (entries_after [] first)
  made-first = subst (λ (n : ℕ). Each (IsBetween 0 n) (entries_after [] first)) size (entries_after-between [] first)

  -- what is in force with more records was so with fewer
  live-before : (e : Entry) → IsFirst e → is_live_entry all e ≡ true → is_live_entry journal e ≡ true
  live-before e is live = first-of (is_live_entry journal e) (is_live_entry all e) (is_live-longer journal more e.place.voucher.0 (omega (arith, is.1, within))) live
    where
      first-of : (a b : Bool) → b ≡ (a && b) → b ≡ true → a ≡ true
      first-of true b parts holds = refl
      first-of false b parts holds = sym parts ∙ holds

  live-first : (e : Entry) → IsFirst e → is_live_entry journal e ≡ true → is_live_entry first e ≡ true
  live-first e is live =
      let whole : first ++ drop base journal ≡ journal = take-append-drop base journal in
      first-of (is_live_entry first e) (is_live_entry journal e)
      (subst (λ (j : List Record). is_live j e.place.voucher.0 ≡ (is_live first e.place.voucher.0 && is_live j e.place.voucher.0)) whole
      (is_live-longer first (drop base journal) e.place.voucher.0 (omega (arith, is.1, size)))) live
    where
      first-of : (a b : Bool) → b ≡ (a && b) → b ≡ true → a ≡ true
      first-of true b parts holds = refl
      first-of false b parts holds = sym parts ∙ holds

  dead-later : (e : Entry) → IsFirst e → dead journal e ≡ true → dead all e ≡ true
  dead-later e is gone = by_cases (is_live_entry all e) refl
    where
      by_cases : (b : Bool) → is_live_entry all e ≡ b → not (is_live_entry all e) ≡ true
      by_cases true live = absurd (false≢true (ap not (sym (live-before e is live)) ∙ gone))
      by_cases false live = ap not live

  -- the first ones' movements that go are those that were gone and those that are taken
  parted : IsPermutation (filter (dead all) (posting_line first)) (filter (dead journal) (posting_line first) ++ filter taken (posting_line first))
  parted =
      let line = posting_line first in
      let left = filter (dead all) line in
      let gone : filter (dead journal) left ≡ filter (dead journal) line = filter-within IsFirst (dead journal) (dead all) dead-later line line-first in
      let more_gone : filter (is_live_entry journal) left ≡ filter taken line =
      filter-swap (is_live_entry journal) (dead all) line ∙ sym (filter-both (is_live_entry journal) (dead all) line) in
      subst (λ (es : List Entry). IsPermutation left (es ++ filter taken line)) gone
      (subst (λ (es : List Entry). IsPermutation left (filter (dead journal) left ++ es)) more_gone
      (IsPermutation-filter_both (dead journal) (is_live_entry journal) (λ e. not_not (is_live_entry journal e)) left))

  -- the latter are those of the first records among all that go
  made-old : filter (is_old base) (entries_after [] journal) ≡ entries_after [] first
  made-old =
      let rest = drop base journal in
      let whole : first ++ rest ≡ journal = take-append-drop base journal in
      let front : filter (is_old base) (entries_after [] first) ≡ entries_after [] first =
      filter-passes IsFirst (is_old base) (λ e is. is_old-from base e is.1) (entries_after [] first) made-first in
      let none : filter (is_old base) (entries_after first rest) ≡ [] =
      filter-fails (IsBetween (length first) (length (first ++ rest))) (is_old base) (λ e is. new-from base e (omega (arith, is.0, size)))
      (entries_after first rest) (entries_after-between first rest) in
      ap (λ (j : List Record). filter (is_old base) (entries_after [] j)) (sym whole)
      ∙ ap (filter (is_old base)) (entries_after-append [] first rest)
      ∙ filter-append (is_old base) (entries_after [] first) (entries_after first rest)
      ∙ ap (λ (es : List Entry). es ++ filter (is_old base) (entries_after first rest)) front
      ∙ ap (λ (es : List Entry). entries_after [] first ++ es) none
      ∙ append-nil (entries_after [] first)

  taken-live : (e : Entry) → IsFirst e → taken e ≡ true → is_live_entry first e ≡ true
  taken-live e is gone = live-first e is (left (is_live_entry journal e) (goes_with journal more e.place.voucher.0) gone)
    where
      left : (a b : Bool) → (a && b) ≡ true → a ≡ true
      left true b h = refl
      left false b h = absurd (false≢true h)

  taken-made : filter taken (all_entries first) ≡ filter (is_old base) (going journal more)
  unfolding all_entries
  taken-made =
      filter-within IsFirst taken (is_live_entry first) taken-live (entries_after [] first) made-first
      ∙ ap (filter taken) (sym made-old)
      ∙ filter-swap taken (is_old base) (entries_after [] journal)

  taken-line : IsPermutation (filter (is_old base) (going journal more)) (filter taken (posting_line first))
  taken-line =
      subst (λ (es : List Entry). IsPermutation es (filter taken (posting_line first))) taken-made
      (IsPermutation-filter taken (all_entries first) (posting_line first) (IsPermutation-posting_line first))

  spots-then : gone_spots base journal ≡ map spot_of_entry (filter (dead journal) (posting_line first))
  spots-then = ap (λ (j : List Record). map spot_of_entry (filter (dead j) (posting_line first))) (take-append-drop base journal)

  spots-now : gone_spots base all ≡ map spot_of_entry (filter (dead all) (posting_line first))
  spots-now =
      ap (λ (j : List Record). map spot_of_entry (filter (dead j) (posting_line (take base all)))) (take-append-drop base all)
      ∙ ap (λ (j : List Record). map spot_of_entry (filter (dead all) (posting_line j))) (take-append-le base journal more within)

  -- so the spots that were kept and these are those that go now
  pub more-spots : (kept : List Spot) → IsPermutation kept (gone_spots base journal)
      → IsPermutation (kept ++ map spot_of_entry (filter (is_old base) (going journal more))) (gone_spots base all)
  more-spots kept were =
      let line = posting_line first in
      let old = map spot_of_entry (filter (dead journal) line) in
      let own = map spot_of_entry (filter taken line) in
      let new = map spot_of_entry (filter (is_old base) (going journal more)) in
      let before : IsPermutation kept old = subst (λ (spots : List Spot). IsPermutation kept spots) spots-then were in
      let both : IsPermutation (kept ++ new) (old ++ own) =
      IsPermutation-append kept old new own before (IsPermutation-map spot_of_entry (filter (is_old base) (going journal more)) (filter taken line) taken-line) in
      let together : map spot_of_entry (filter (dead journal) line ++ filter taken line) ≡ old ++ own =
      map-append spot_of_entry (filter (dead journal) line) (filter taken line) in
      let whole : IsPermutation (old ++ own) (map spot_of_entry (filter (dead all) line)) =
      subst (λ (spots : List Spot). IsPermutation spots (map spot_of_entry (filter (dead all) line))) together
      (IsPermutation-map spot_of_entry (filter (dead journal) line ++ filter taken line) (filter (dead all) line)
      (IsPermutation-sym (filter (dead all) line) (filter (dead journal) line ++ filter taken line) parted)) in
      subst (λ (spots : List Spot). IsPermutation (kept ++ new) spots) (sym spots-now)
      (IsPermutation-trans (kept ++ new) (old ++ own) (map spot_of_entry (filter (dead all) line)) both whole)
