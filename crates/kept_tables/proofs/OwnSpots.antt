-- Each movement of a journal's replay has a spot of its own, and one of the first records that stays is one of all.
use Rattle.std.proofs.Common.{◌≡◌, ℕ, ◌<◌, Bool, true, false, not, List, [], ◌∷◌, ◌++◌, length, get_or, map, filter, take, drop, inl, inr, refl, sym, ap, ◌∙◌, subst, arith, Contains}
use Rattle.std.specs.List.{AllPairs}
use Rattle.std.proofs.lemmas.List.{length-map, get_or-map, take-append-drop}
use Rattle.std.proofs.lemmas.List.Elements.{Contains-get_or}
use Rattle.stock_nums.specs.declared.entry.Entry.{Entry}
use Rattle.stock_nums.specs.declared.entry.Row.{Row}
use Rattle.stock_nums.specs.declared.place.Spot.{Spot}
use Rattle.stock_model.specs.Entries.{entries_after, is_live_entry, all_entries}
use Rattle.stock_model.specs.InOrder.{IsBefore}
use Rattle.stock_model.specs.PostingOrder.{posting_line}
use Rattle.stock_model.specs.Replay.{replay}
use Rattle.stock_model.specs.Sums.{row_entry}
use Rattle.stock_model.specs.declared.records.Record.{Record}
use Rattle.stock_model.proofs.Pairwise.{Pairwise, Precedes-Contains, Contains-cases, Contains-first, Contains-later}
use Rattle.stock_keeper.specs.Worths.{is_same_spot}
use Rattle.stock_keeper.proofs.SpotOrder.{same-from_test}
use Rattle.stock_laws.proofs.Distinct.{Differ, all_entries-Pairwise}
use Rattle.stock_laws.proofs.LiveLines.{all_entries-longer}
use Rattle.stock_laws.proofs.PostingLine.{IsInPostingOrder-posting_line}
use Rattle.cost_links.proofs.ReadyRows.{entries-rows_of}
use Rattle.repost_laws.proofs.EarlierOnes.{never_itself}
use Rattle.repost_fetch.specs.Changes.{goes_since}
use Rattle.repost_laws.specs.Builds.{is_row_left}
use Rattle.repost_laws.proofs.Filtered.{Contains-filtered, Contains-filter}
use Rattle.repost_laws.proofs.MoreRecords.{Contains-front, of_line, in_line}
use Rattle.kept_tables.specs.TablesOf.{spot_of}
use Rattle.kept_tables.proofs.RowWorths.{HasOtherSpot}
use Rattle.kept_tables.proofs.WorthsAt.{fails}

-- movements that differ are of different spots
different_spots : (a b : Entry) → Differ a b → spot_of a.place ≡ spot_of b.place → ⊥
different_spots a b differ same =
    differ (ap (λ (s : Spot). s.voucher.0) same) (ap (λ (s : Spot). s.line) same) (ap (λ (s : Spot). s.side) same)

-- so movements of one spot are one
one_entry : (es : List Entry) (a b : Entry) → Pairwise Differ es → Contains es a → Contains es b
    → spot_of a.place ≡ spot_of b.place → a ≡ b
one_entry [] a b apart first second same = absurd (omega (arith, first.1))
one_entry (e ∷ es) a b apart first second same =
    elim (Contains-cases e es a first) [
      | inl is_a ↦ elim (Contains-cases e es b second) [
        | inl is_b ↦ sym is_a ∙ is_b
        | inr later ↦ absurd (different_spots e b (Precedes-Contains Differ e es b apart.0 later)
            (ap (λ (f : Entry). spot_of f.place) is_a ∙ same))
      ]
      | inr early ↦ elim (Contains-cases e es b second) [
        | inl is_b ↦ absurd (different_spots e a (Precedes-Contains Differ e es a apart.0 early)
            (ap (λ (f : Entry). spot_of f.place) is_b ∙ sym same))
        | inr later ↦ one_entry es a b apart.1 early later same
      ]
    ]

-- the second movement is of another spot than the first
abbrev IsOfOtherSpot : Entry → Entry → Type 0
IsOfOtherSpot a b = is_same_spot (spot_of b.place) (spot_of a.place) ≡ false

-- in posting order each movement is of another spot than those before it
later-other : (journal : List Record) (a b : Entry) → Contains (posting_line journal) a
    → Contains (posting_line journal) b → IsBefore a b → IsOfOtherSpot a b
later-other journal a b first second before =
    fails (is_same_spot (spot_of b.place) (spot_of a.place)) (λ test.
    let one : b ≡ a =
    one_entry (all_entries journal) b a (all_entries-Pairwise journal) (of_line journal b second) (of_line journal a first)
    (same-from_test (spot_of b.place) (spot_of a.place) test) in
    never_itself a (subst (IsBefore a) one before))

-- elements of a list that are related in one way are related in another, where that follows
AllPairs-held : {X : Type 0} (R Q : X → X → Type 0) (xs : List X)
    → ((a b : X) → Contains xs a → Contains xs b → R a b → Q a b)
    → AllPairs R xs → AllPairs Q xs
AllPairs-held R Q xs follows pairs i j d less within =
    let early : i < length xs = omega arith in
    follows (get_or xs i d) (get_or xs j d) (Contains-get_or xs i d early) (Contains-get_or xs j d within) (pairs i j d less within)

-- elements from which related ones are made are related by what is made of them
AllPairs-map : {X Y : Type 0} (R : Y → Y → Type 0) (f : X → Y) (xs : List X) → AllPairs R (map f xs)
    → AllPairs (λ a b. R (f a) (f b)) xs
AllPairs-map {Y = Y} R f xs pairs i j d less within =
    let early : i < length xs = omega arith in
    let long : j < length (map f xs) = omega (arith, length-map xs f) in
    subst (λ (y : Y). R y (f (get_or xs j d))) (get_or-map f xs i d (f d) early)
    (subst (R (get_or (map f xs) i (f d))) (get_or-map f xs j d (f d) within) (pairs i j (f d) less long))

-- the rows of a replay have the movements in posting order
entries-replay : (journal : List Record) → map row_entry (replay journal) ≡ posting_line journal
unfolding replay
entries-replay journal = entries-rows_of journal (posting_line journal)

-- each row of a replay is of another spot than those before it
pub AllPairs-replay : (journal : List Record) → AllPairs HasOtherSpot (replay journal)
AllPairs-replay journal =
    AllPairs-map IsOfOtherSpot row_entry (replay journal)
    (subst (AllPairs IsOfOtherSpot) (sym (entries-replay journal))
    (AllPairs-held IsBefore IsOfOtherSpot (posting_line journal) (later-other journal) (IsInPostingOrder-posting_line journal)))

-- one of the rows is of the movement
pub record HasEntry (rows : List Row) (e : Entry) : Type 0 where
  pub row : Row
  pub held : Contains rows row
  pub is : row.entry ≡ e

HasEntry-from : (rows : List Row) (e : Entry) → Contains (map row_entry rows) e → HasEntry rows e
HasEntry-from [] e held = absurd (omega (arith, held.1))
HasEntry-from (first ∷ rows) e held =
    elim (Contains-cases first.entry (map row_entry rows) e held) [
      | inl same ↦ record { row = first; held = Contains-first first rows; is = same }
      | inr later ↦
          let has = HasEntry-from rows e later in
          record { row = has.row; held = Contains-later first rows has.row has.held; is = has.is }
    ]

-- and the movement of a row is one of theirs
Contains-entry : (rows : List Row) (row : Row) → Contains rows row → Contains (map row_entry rows) row.entry
Contains-entry [] row held = absurd (omega (arith, held.1))
Contains-entry (first ∷ rows) row held =
    elim (Contains-cases first rows row held) [
      | inl same ↦ subst (λ (r : Row). Contains (first.entry ∷ map row_entry rows) r.entry) same
          (Contains-first first.entry (map row_entry rows))
      | inr later ↦ Contains-later first.entry (map row_entry rows) row.entry (Contains-entry rows row later)
    ]

-- a row of a replay is of a movement of its line
pub in-line_of : (journal : List Record) (row : Row) → Contains (replay journal) row → Contains (posting_line journal) row.entry
in-line_of journal row held =
    subst (λ (es : List Entry). Contains es row.entry) (entries-replay journal) (Contains-entry (replay journal) row held)

-- which is of a record in force
pub live-line : (journal : List Record) (e : Entry) → Contains (posting_line journal) e → is_live_entry journal e ≡ true
unfolding all_entries
live-line journal e held = (Contains-filtered (is_live_entry journal) (entries_after [] journal) e (of_line journal e held)).1

-- and one of the first records that stays in force is one of all
stays-in_line : (front more : List Record) (e : Entry) → Contains (posting_line front) e → is_live_entry (front ++ more) e ≡ true
    → Contains (posting_line (front ++ more)) e
stays-in_line front more e held live =
    let kept = Contains-filter (is_live_entry (front ++ more)) (all_entries front) e (of_line front e held) live in
    in_line (front ++ more) e
    (subst (λ (es : List Entry). Contains es e) (sym (all_entries-longer front more))
    (Contains-front (filter (is_live_entry (front ++ more)) (all_entries front)) (filter (is_live_entry (front ++ more)) (entries_after front more)) e kept))

-- so a row of the replay of the first ones that does not go is of a movement of the whole replay
pub HasEntry-left : (journal : List Record) (n : ℕ) (row : Row) → Contains (replay (take n journal)) row
    → is_row_left (goes_since n journal) row ≡ true → HasEntry (replay journal) row.entry
HasEntry-left journal n row held stays =
    let front = take n journal in
    let more = drop n journal in
    let whole : front ++ more ≡ journal = take-append-drop n journal in
    let live : is_live_entry (front ++ more) row.entry ≡ true = twice (is_live_entry (front ++ more) row.entry) stays in
    HasEntry-from (replay journal) row.entry
    (subst (λ (es : List Entry). Contains es row.entry) (sym (entries-replay journal))
    (subst (λ (j : List Record). Contains (posting_line j) row.entry) whole (stays-in_line front more row.entry (in-line_of front row held) live)))
  where
    twice : (b : Bool) → not (not b) ≡ true → b ≡ true
    twice true h = refl
    twice false h = h
