-- The movements that go with further records of a journal.
use Rattle.std.proofs.Common.{◌≡◌, ℕ, ◌+◌, ◌<◌, ◌≤◌, Bool, true, false, cond, ◌&&◌, ◌||◌, not, nat_lt, List, [], ◌∷◌, ◌++◌, length, get_or, filter, Contains, inl, inr, refl, sym, ap, ◌∙◌, subst, arith, length-append}
use Rattle.std.specs.List.{list_any}
use Rattle.std.proofs.lemmas.Bool.{false≢true, or_cases, or_left, or_right}
use Rattle.std.proofs.lemmas.Bool.Decides.{nat_tests}
use Rattle.std.proofs.lemmas.List.Elements.{filter_agree}
use Rattle.stock_nums.specs.declared.entry.Entry.{Entry}
use Rattle.stock_nums.specs.declared.place.Place.{Place}
use Rattle.stock_model.specs.Entries.{entries, entries_after, is_live, is_live_entry, all_entries}
use Rattle.stock_model.specs.PostingOrder.{posting_line}
use Rattle.stock_model.specs.declared.records.Record.{Record}
use Rattle.stock_model.proofs.Pairwise.{Each, Precedes, Pairwise, Pairwise-append, Precedes-from_Each, Across-from_Each, AllPairs-from_Pairwise, Contains-cases, Contains-first, Contains-later}
use Rattle.stock_laws.proofs.CostedRows.{both}
use Rattle.stock_laws.proofs.Distinct.{Differ, entries_after-Pairwise}
use Rattle.stock_laws.proofs.LiveEntries.{IsOfNumber, IsBetween, movements-number, entries_after-between, Pairwise-filter}
use Rattle.key_order.proofs.SamePlaces.{is_same_place-true, is_same_place-refl}
use Rattle.posting_order.specs.Timelines.{is_at}
use Rattle.quantity_check.specs.OwnPlaces.{StandApart, HaveOwnPlaces}
use Rattle.repost_fetch.specs.Fetched.{is_taken, going}
use Rattle.repost_laws.specs.Changes.{goes_with, coming, both_lines}
use Rattle.repost_laws.specs.Touched.{is_gone, is_left}
use Rattle.repost_laws.proofs.ChangedJournals.{both-left}
use Rattle.repost_laws.proofs.Filtered.{filter-both, Contains-filtered, Contains-filter}
use Rattle.repost_laws.proofs.MoreRecords.{of_line, in_line}
use Rattle.repost_laws.proofs.Turns.{both-true}
use Rattle.repost_spread.specs.Removing.{line_but, line_but_all}
use Rattle.repost_spread.specs.Touches.{record_of, has_record, AreByRecord, AreOfRecords}
use Rattle.repost_spread.proofs.RecordsAmong.{has-own, has-one}
use Rattle.repost_spread.proofs.TouchingLines.{one-at}
use Rattle.repost_build.proofs.ComingOnes.{of-made, put_all-cases, line-in_both, both-ordered}
use Rattle.repost_build.proofs.Truths.{same-truth}

-- the movements of records are in the order of these
abbrev ByRecord : Entry → Entry → Type 0
ByRecord a b = record_of a ≤ record_of b

one-record : (n : ℕ) (es : List Entry) → Each (IsOfNumber n) es → Pairwise ByRecord es
one-record n [] own = tt
one-record n (e ∷ es) own =
    (Precedes-from_Each ByRecord (IsOfNumber n) e (λ f other. omega (arith, own.0, other)) es own.1, one-record n es own.1)

made-by_record : (done more : List Record) → Pairwise ByRecord (entries_after done more)
made-by_record done [] = tt
made-by_record done (r ∷ more) =
    let next = done ++ r ∷ [] in
    let n = length done + 1 in
    let own = movements-number done n r.what in
    Pairwise-append ByRecord (entries done r) (entries_after next more) (one-record n (entries done r) own) (made-by_record next more)
    (Across-from_Each ByRecord (IsOfNumber n) (IsBetween (length next) (length (next ++ more)))
    (λ a b of between. omega (arith, of, between.0, length-append done (r ∷ []))) (entries done r) (entries_after next more) own
    (entries_after-between next more))

is-less : (i j : ℕ) → nat_lt i j ≡ true → i < j
is-less i j h = grind (arith, nat_tests)

not-less : (i j : ℕ) → nat_lt i j ≡ false → j ≤ i
not-less i j h = grind (arith, nat_tests)

by_record-from : (es : List Entry) → Pairwise ByRecord es → AreByRecord es
by_record-from es pairs i j d upto within = by_cases (nat_lt i j) refl
  where
    by_cases : (b : Bool) → nat_lt i j ≡ b → record_of (get_or es i d) ≤ record_of (get_or es j d)
    by_cases true is = AllPairs-from_Pairwise ByRecord es pairs i j d (is-less i j is) within
    by_cases false is =
        let same : i ≡ j = omega (arith, upto, not-less i j is) in
        subst (λ (k : ℕ). record_of (get_or es i d) ≤ record_of (get_or es k d)) same (omega arith)

-- two that differ stand apart
Precedes-apart : (e : Entry) (es : List Entry) → Precedes Differ e es → Precedes StandApart e es
Precedes-apart e [] all = tt
Precedes-apart e (f ∷ es) all =
    (λ same. all.0 (ap (λ (p : Place). p.voucher.0) same) (ap (λ (p : Place). p.line) same) (ap (λ (p : Place). p.side) same), Precedes-apart e es all.1)

Pairwise-apart : (es : List Entry) → Pairwise Differ es → Pairwise StandApart es
Pairwise-apart [] all = tt
Pairwise-apart (e ∷ es) all = (Precedes-apart e es all.0, Pairwise-apart es all.1)

-- what is left is what stands where none of those does that go
abbrev has_place : List Entry → Entry → Bool
has_place gone f = list_any (λ (g : Entry). is_at g.place f) gone

keeps-all : (es : List Entry) → filter (λ (f : Entry). not false) es ≡ es
keeps-all [] = refl
keeps-all (e ∷ es) = ap (λ (fs : List Entry). e ∷ fs) (keeps-all es)

not-either : (a b : Bool) → (not a && not b) ≡ not (a || b)
not-either true b = refl
not-either false b = refl

but_all-filter : (line gone : List Entry) → line_but_all line gone ≡ filter (λ f. not (has_place gone f)) line
but_all-filter line [] = sym (keeps-all line)
but_all-filter line (g ∷ gone) =
    but_all-filter (line_but line g) gone
    ∙ sym (filter-both (λ f. not (is_at g.place f)) (λ f. not (has_place gone f)) line)
    ∙ filter_agree (λ f. not (is_at g.place f) && not (has_place gone f)) (λ f. not (has_place (g ∷ gone) f))
    (λ f. not-either (is_at g.place f) (has_place gone f)) line

-- tests that tell the same of the movements of a list keep the same
pub filter-alike : (p q : Entry → Bool) (es : List Entry) → ((e : Entry) → Contains es e → p e ≡ q e) → filter p es ≡ filter q es
filter-alike p q [] same = refl
filter-alike p q (e ∷ es) same =
    ap (λ (b : Bool). cond b (e ∷ filter p es) (filter p es)) (same e (Contains-first e es))
    ∙ ap (λ (fs : List Entry). cond (q e) (e ∷ fs) fs) (filter-alike p q es (λ f held. same f (Contains-later e es f held)))

record StandsAt (gone : List Entry) (f : Entry) : Type 0 where
  g : Entry
  held : Contains gone g
  at : f.place ≡ g.place

stands-at : (gone : List Entry) (f : Entry) → has_place gone f ≡ true → StandsAt gone f
stands-at [] f has = absurd (false≢true has)
stands-at (g ∷ gone) f has =
    elim (or_cases (is_at g.place f) (has_place gone f) has) [
      | inl own ↦ record { g = g; held = Contains-first g gone; at = is_same_place-true f.place g.place own }
      | inr later ↦ let one = stands-at gone f later in record { g = one.g; held = Contains-later g gone one.g one.held; at = one.at }
    ]

has-own_place : (gone : List Entry) (f : Entry) → Contains gone f → has_place gone f ≡ true
has-own_place [] f held = absurd (omega (arith, held.1))
has-own_place (g ∷ gone) f held =
    elim (Contains-cases g gone f held) [
      | inl same ↦ or_left (is_at g.place f) (has_place gone f)
          (subst (λ (h : Entry). is_at g.place h ≡ true) same (is_same_place-refl g.place))
      | inr later ↦ or_right (is_at g.place f) (has_place gone f) (has-own_place gone f later)
    ]

module _ (journal more : List Record) where
  abbrev taken : ℕ → Bool
  taken = is_taken journal more

  abbrev goes : ℕ → Bool
  goes = goes_with journal more

  -- those that go were there
  pub gone-in_line : (e : Entry) → Contains (going journal more) e → Contains (posting_line journal) e
  unfolding all_entries
  gone-in_line e held =
      let parts = Contains-filtered (is_gone taken) (entries_after [] journal) e held in
      let live = (both-true (is_live journal e.place.voucher.0) (goes e.place.voucher.0) parts.1).0 in
      in_line journal e (Contains-filter (is_live_entry journal) (entries_after [] journal) e parts.0 live)

  pub gone-goes : (e : Entry) → Contains (going journal more) e → goes (record_of e) ≡ true
  gone-goes e held =
      (both-true (is_live journal e.place.voucher.0) (goes e.place.voucher.0) (Contains-filtered (is_gone taken) (entries_after [] journal) e held).1).1

  pub gone-in_both : (e : Entry) → Contains (going journal more) e → Contains (both_lines journal more) e
  gone-in_both e held = line-in_both journal more e (gone-in_line e held)

  -- and of all that were there or come they are those of records that go
  pub goes-gone : (e : Entry) → Contains (both_lines journal more) e → goes (record_of e) ≡ true → Contains (going journal more) e
  goes-gone e held leaves =
      elim (put_all-cases (posting_line journal) (coming journal more) e held) [
        | inl old ↦
            let made = of-made journal e (of_line journal e old) in
            Contains-filter (is_gone taken) (entries_after [] journal) e made.0 (both made.1 leaves)
        | inr comes ↦
            let live = (Contains-filtered (is_live_entry (journal ++ more)) (entries_after journal more) e comes).1 in
            absurd (false≢true (ap not (sym live) ∙ leaves))
      ]

  pub gone-of_records : AreOfRecords (both_lines journal more) (going journal more)
  gone-of_records =
      record {
        held = gone-in_both;
        whole = λ e held has.
            let one = has-one (going journal more) (record_of e) has in
            goes-gone e held (subst (λ (k : ℕ). goes k ≡ true) one.of (gone-goes one.e one.held));
        by_record = by_record-from (going journal more)
            (Pairwise-filter ByRecord (is_gone taken) (entries_after [] journal) (made-by_record [] journal));
      }

  -- each has a place of its own
  pub gone-own_places : HaveOwnPlaces (going journal more)
  gone-own_places =
      AllPairs-from_Pairwise StandApart (going journal more)
      (Pairwise-apart (going journal more) (Pairwise-filter Differ (is_gone taken) (entries_after [] journal) (entries_after-Pairwise [] journal)))

  -- without them all are those that are there now
  pub gone-left : line_but_all (both_lines journal more) (going journal more) ≡ posting_line (journal ++ more)
  gone-left =
      let all = both_lines journal more in
      let gone = going journal more in
      let same : (f : Entry) → Contains all f → has_place gone f ≡ is_gone goes f = λ f held.
      same-truth (has_place gone f) (is_gone goes f)
      (λ has.
      let one = stands-at gone f has in
      let own : f ≡ one.g = one-at all one.g f (both-ordered journal more) (gone-in_both one.g one.held) held one.at in
      subst (λ (g : Entry). is_gone goes g ≡ true) (sym own) (gone-goes one.g one.held))
      (λ leaves. has-own_place gone f (goes-gone f held leaves)) in
      but_all-filter all gone
      ∙ filter-alike (λ f. not (has_place gone f)) (is_left goes) all (λ f held. ap not (same f held))
      ∙ both-left journal more

  -- whether a record of one that is there goes is told by those that go
  pub has-goes : (e : Entry) → Contains (both_lines journal more) e → has_record (going journal more) (record_of e) ≡ goes (record_of e)
  has-goes e held =
      same-truth (has_record (going journal more) (record_of e)) (goes (record_of e))
      (λ has.
      let one = has-one (going journal more) (record_of e) has in
      subst (λ (k : ℕ). goes k ≡ true) one.of (gone-goes one.e one.held))
      (λ leaves. has-own (going journal more) e (goes-gone e held leaves))
