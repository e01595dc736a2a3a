-- Where each row is told as changed, no other row has to be as it was, and what is fetched as gone is what goes.
use Rattle.std.proofs.Common.{◌≡◌, ℕ, ◌≤◌, true, List, [], ◌∷◌, length, length-take, map, filter, take, drop, refl, sym, ap, ◌∙◌, subst, arith}
use Rattle.std.specs.List.Sorted.{IsPermutation}
use Rattle.std.proofs.lemmas.List.Sorted.{IsPermutation-refl}
use Rattle.std.proofs.lemmas.List.{take_all, take-append-drop}
use Rattle.stock_nums.specs.declared.entry.Entry.{Entry}
use Rattle.stock_nums.specs.declared.entry.Row.{Row}
use Rattle.stock_nums.specs.declared.place.Spot.{Spot}
use Rattle.stock_model.specs.Entries.{entries_after}
use Rattle.stock_model.specs.History as history
use Rattle.stock_model.specs.Replay.{replay}
use Rattle.stock_model.specs.declared.records.Record.{Record}
use Rattle.stock_model.proofs.Pairwise.{Each}
use Rattle.stock_laws.proofs.LiveEntries.{IsBetween, entries_after-between, filter-passes, Each-filter}
use Rattle.repost_laws.specs.Builds.{ValuedSince, is_as_published, is_row_left}
use Rattle.repost_laws.specs.Touched.{is_old, is_gone}
use Rattle.repost_laws.proofs.MoreRecords.{is_old-from}
use Rattle.repost_fetch.specs.Changes.{is_valued, goes_since, gone_spots, spot_of_entry, AreChanges}
use Rattle.repost_fetch.specs.Fetched.{is_taken, going}
use Rattle.repost_build.proofs.GoneSpots.{no-spots, more-spots}
use Rattle.book_tests.proofs.books.publish_all.Goals as goal

abbrev all_valued : ValuedSince
all_valued place = true

all-changed : (rows : List Row) → rows ≡ filter (is_valued all_valued) rows
all-changed [] = refl
all-changed (row ∷ rows) = ap (λ (rest : List Row). row ∷ rest) (all-changed rows)

none-kept : (rows : List Row) → filter (is_as_published all_valued) rows ≡ []
none-kept [] = refl
none-kept (row ∷ rows) = none-kept rows

-- the movements of the first records that further ones take back are those that go since
gone-since : (journal : List Record) (n : ℕ) → n ≤ length journal
    → IsPermutation (map spot_of_entry (going (take n journal) (drop n journal))) (gone_spots n journal)
gone-since journal n within =
    let first = take n journal in
    let more = drop n journal in
    let gone = going first more in
    let size : length first ≡ n = omega (arith, length-take n journal, within) in
    let made : Each (IsBetween 0 n) (entries_after [] first) =
    subst (λ (k : ℕ). Each (IsBetween 0 k) (entries_after [] first)) size (entries_after-between [] first) in
    let old : filter (is_old n) gone ≡ gone =
    filter-passes (IsBetween 0 n) (is_old n) (λ e is. is_old-from n e is.1) gone
    (Each-filter (IsBetween 0 n) (is_gone (is_taken first more)) (entries_after [] first) made) in
    let none : IsPermutation [] (gone_spots n first) = subst (IsPermutation []) (sym (no-spots first n (sym size))) (IsPermutation-refl []) in
    let all = more-spots first more n (omega (arith, size)) [] none in
    subst (λ (es : List Entry). IsPermutation (map spot_of_entry es) (gone_spots n journal)) old
    (subst (λ (j : List Record). IsPermutation (map spot_of_entry (filter (is_old n) gone)) (gone_spots n j)) (take-append-drop n journal) all)

AreChanges-all : (journal : List Record) (n : ℕ) (changed : List Row) (spots : List Spot) → n ≤ length journal → changed ≡ replay journal
    → spots ≡ map spot_of_entry (going (take n journal) (drop n journal)) → AreChanges journal n changed spots
AreChanges-all journal n changed spots within is told =
    record {
      valued = all_valued;
      rows = is ∙ all-changed (replay journal);
      others = none-kept (replay journal) ∙ sym (none-kept (filter (is_row_left (goes_since n journal)) (replay (take n journal))));
      gone = subst (λ (s : List Spot). IsPermutation s (gone_spots n journal)) (sym told) (gone-since journal n within);
    }

pub publish-requires-clause-changed : goal.publish-requires-clause-changed
publish-requires-clause-changed c =
    let told = c.args.book.now.history in
    let journal : List Record = history.records told in
    let accepted = c.accepted-accepted.result.0 in
    let covered = c.covered-covered.result.0 in
    let rows = c.as_slice-changed.result.now in
    let spots = c.as_slice-2.result.now in
    let count : accepted ≡ length journal = c.accepted-accepted.ensures.accepted in
    let all : take accepted journal ≡ journal = take_all accepted journal (omega (arith, count)) in
    let gone : spots ≡ map spot_of_entry (going (take covered journal) (drop covered journal)) =
    c.as_slice-2.ensures ∙ c.in_ok-gone.ensures ∙ ap (map spot_of_entry) (c.as_slice.ensures ∙ c.in_ok-fetched.ensures.gone) in
    let are = AreChanges-all journal covered rows spots (omega (arith, count, c.if-covered-accepted.false)) (c.as_slice-changed.ensures ∙ c.in_ok-block.ensures ∙ c.in_ok-replayed.ensures) gone in
    subst (λ (first : List Record). AreChanges first (history.covered told) rows spots) (sym all)
    (subst (λ (n : ℕ). AreChanges journal n rows spots) c.covered-covered.ensures.covered are)

pub publish-requires-clause-rows : goal.publish-requires-clause-rows
publish-requires-clause-rows c =
    let journal : List Record = history.records c.args.book.now.history in
    let accepted = c.accepted-accepted.result.0 in
    let all : take accepted journal ≡ journal = take_all accepted journal (omega (arith, c.accepted-accepted.ensures.accepted)) in
    c.in_ok-rows.ensures ∙ c.in_ok-block.ensures ∙ c.in_ok-replayed.ensures ∙ ap replay (sym all)
