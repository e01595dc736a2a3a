-- Sound worths are those of the replay, each once, and where they stand in order they are the tables' of it.
use Rattle.std.proofs.Common.{◌≡◌, false, List, [], ◌∷◌, map, Option, Some, None, inl, inr, refl, sym, ap, ◌∙◌, subst, arith, Contains}
use Rattle.std.specs.List.{cons_option}
use Rattle.std.specs.Option.{option_map}
use Rattle.stock_nums.specs.declared.entry.Entry.{Entry}
use Rattle.stock_nums.specs.declared.entry.Row.{Row}
use Rattle.stock_nums.specs.declared.entry.Worth.{Worth}
use Rattle.stock_nums.specs.declared.place.Spot.{Spot}
use Rattle.stock_model.specs.PostingOrder.{posting_line}
use Rattle.stock_model.specs.Replay.{replay}
use Rattle.stock_model.specs.Sums.{row_entry}
use Rattle.stock_model.specs.declared.records.Record.{Record}
use Rattle.stock_model.proofs.Pairwise.{Each, Contains-cases, Contains-first, Contains-later, Pairwise-from_AllPairs}
use Rattle.stock_keeper.specs.Worths.{is_same_spot, IsBefore, AreInOrder}
use Rattle.stock_keeper.specs.declared.changes.SpotWorth.{SpotWorth}
use Rattle.stock_keeper.proofs.SpotOrder.{same-from_test}
use Rattle.cost_links.proofs.ReadyRows.{entries-rows_of}
use Rattle.repost_laws.proofs.Spreading.{Each-Contains}
use Rattle.kept_tables.specs.Differences.{worth_at}
use Rattle.kept_tables.specs.TablesOf.{spot_worth, worths_of}
use Rattle.kept_tables.proofs.OwnSpots.{AllPairs-replay}
use Rattle.kept_tables.proofs.RowWorths.{IsElsewhere, HasOtherSpot, HasAt, fold-elsewhere, fold-held, held_or_elsewhere, AreInOrder-worths_of}
use Rattle.kept_tables.proofs.WorthsAt.{worth_at-other, one_worth, same-from_spots}
use Rattle.generation_audit.specs.RightRows.{entry_spot, stored_worth, row_with, stored_rows, stands_at, AreRight, AreOwn}
use Rattle.generation_audit.specs.Sound.{AreWorthsOf}
use Rattle.generation_audit.proofs.OwnWorths.{found-one, first-own, stand-apart}
use Rattle.generation_audit.proofs.RightSteps.{rows-right}

-- a row that is stored of a movement has what is stored of it
kept-row : (worths : List SpotWorth) (es : List Entry) (row : Row) → Contains (stored_rows worths es) row → stored_worth worths row.entry ≡ Some row.worth
kept-row worths [] row held = absurd (omega (arith, held.1))
kept-row worths (e ∷ es) row held = by_stored (stored_worth worths e) refl held (kept-row worths es row)
  where
    by_stored : (o : Option Worth) → stored_worth worths e ≡ o → Contains (cons_option (option_map (row_with e) o) (stored_rows worths es)) row
        → (Contains (stored_rows worths es) row → stored_worth worths row.entry ≡ Some row.worth) → stored_worth worths row.entry ≡ Some row.worth
    by_stored None is held later = later held
    by_stored (Some w) is held later =
        elim (Contains-cases (row_with e w) (stored_rows worths es) row held) [
          | inl same ↦ subst (λ (r : Row). stored_worth worths r.entry ≡ Some r.worth) same is
          | inr behind ↦ later behind
        ]

-- one of the rows is of the movement
pub row-of : (rows : List Row) (e : Entry) → Contains (map row_entry rows) e → (row : Row) × Contains rows row × (row.entry ≡ e)
row-of [] e held = absurd (omega (arith, held.1))
row-of (first ∷ rows) e held =
    elim (Contains-cases first.entry (map row_entry rows) e held) [
      | inl same ↦ (first, Contains-first first rows, same)
      | inr later ↦ let rest = row-of rows e later in (rest.0, Contains-later first rows rest.0 rest.1, rest.2)
    ]

-- the stored rows are the replay
pub rows-are : (journal : List Record) (worths : List SpotWorth) → AreRight journal worths (posting_line journal) → stored_rows worths (posting_line journal) ≡ replay journal
unfolding replay
rows-are journal worths right = rows-right journal worths (posting_line journal) right

-- whose movements are those of the posting line
pub entries-are : (journal : List Record) → map row_entry (replay journal) ≡ posting_line journal
unfolding replay
entries-are journal = entries-rows_of journal (posting_line journal)

-- what is stored at a row's spot is its worth
pub each-stored : (journal : List Record) (worths : List SpotWorth) → AreRight journal worths (posting_line journal) → (row : Row) → Contains (replay journal) row
    → worth_at worths (entry_spot row.entry) ≡ Some row.worth
each-stored journal worths right row held =
    kept-row worths (posting_line journal) row (subst (λ (rows : List Row). Contains rows row) (sym (rows-are journal worths right)) held)

same_worth : (a b : Worth) → Some a ≡ Some b → a ≡ b
same_worth a b same = cc

-- the worths are those of the replay, each once
pub worths-are : (journal : List Record) (worths : List SpotWorth) → AreRight journal worths (posting_line journal) → AreOwn (posting_line journal) worths
    → AreWorthsOf (replay journal) worths
worths-are journal worths right own =
    let line = posting_line journal in
    record {
      each = each-stored journal worths right;
      only = λ w held.
          let first = first-own line [] worths w own held in
          let found = found-one (stands_at w.spot) line first.0 in
          let has = row-of (replay journal) found.0 (subst (λ (es : List Entry). Contains es found.0) (sym (entries-are journal)) found.1) in
          let spot : entry_spot has.0.entry ≡ w.spot = ap entry_spot has.2 ∙ same-from_test (entry_spot found.0) w.spot found.2 in
          let worth : has.0.worth ≡ w.worth =
          same_worth has.0.worth w.worth (sym (each-stored journal worths right has.0 has.1) ∙ ap (worth_at worths) spot ∙ first.1) in
          (has.0, has.1, one_worth (spot_worth has.0) w spot worth);
      once = stand-apart line worths own;
    }

-- where no worth is at the spot, none stands there
pub none-stands : (ws : List SpotWorth) (s : Spot) → ((w : SpotWorth) → Contains ws w → is_same_spot w.spot s ≡ false) → worth_at ws s ≡ None
none-stands [] s others = refl
none-stands (w ∷ ws) s others =
    worth_at-other w ws s (others w (Contains-first w ws)) ∙ none-stands ws s (λ v held. others v (Contains-later w ws v held))

-- worths in order that are those of the replay are the list of its worths
pub in-order : (journal : List Record) (worths : List SpotWorth) → AreWorthsOf (replay journal) worths → AreInOrder worths → worths ≡ worths_of (replay journal)
in-order journal worths are order =
    same-from_spots worths (worths_of (replay journal)) (Pairwise-from_AllPairs IsBefore worths order)
    (Pairwise-from_AllPairs IsBefore (worths_of (replay journal)) (AreInOrder-worths_of (replay journal)))
    (λ s. elim (held_or_elsewhere (replay journal) s) [
      | inl has ↦ at_row s has
      | inr others ↦ elsewhere s others
    ])
  where
    rows : List Row
    rows = replay journal

    at_row : (s : Spot) → HasAt rows s → worth_at worths s ≡ worth_at (worths_of rows) s
    at_row s has =
        ap (worth_at worths) (sym has.at) ∙ are.each has.row has.held
        ∙ sym (fold-held [] rows has.row (Pairwise-from_AllPairs HasOtherSpot rows (AllPairs-replay journal)) has.held)
        ∙ ap (worth_at (worths_of rows)) has.at

    elsewhere : (s : Spot) → Each (IsElsewhere s) rows → worth_at worths s ≡ worth_at (worths_of rows) s
    elsewhere s others =
        none-stands worths s (λ w held.
        let row = are.only w held in
        subst (λ (u : SpotWorth). is_same_spot u.spot s ≡ false) row.2 (Each-Contains (IsElsewhere s) rows row.0 others row.1))
        ∙ sym (fold-elsewhere [] rows s others)
