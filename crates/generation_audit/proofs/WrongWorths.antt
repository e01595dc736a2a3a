-- Where what is stored is not right, it is not the replay's.
use Rattle.std.proofs.Common.{◌≡◌, Bool, true, false, ◌&&◌, ◌||◌, not, List, [], ◌∷◌, ◌++◌, fold, Some, None, inl, inr, refl, sym, ap, ◌∙◌, subst, Contains}
use Rattle.std.specs.List.{list_any}
use Rattle.std.proofs.lemmas.Bool.{false≢true}
use Rattle.std.proofs.lemmas.List.Elements.{Contains-append_left, Contains-append_right}
use Rattle.std.proofs.lemmas.List.Sums.{fold-append}
use Rattle.stock_nums.specs.declared.entry.Entry.{Entry}
use Rattle.stock_nums.specs.declared.entry.Row.{Row}
use Rattle.stock_nums.specs.declared.place.Spot.{Spot}
use Rattle.stock_model.specs.PostingOrder.{posting_line}
use Rattle.stock_model.specs.Replay.{valued, value_next, rows_of, replay}
use Rattle.stock_model.specs.declared.records.Record.{Record}
use Rattle.stock_model.proofs.Pairwise.{Precedes, Pairwise, Contains-first, Pairwise-from_AllPairs}
use Rattle.stock_keeper.specs.Worths.{is_spot_before, is_same_spot, IsBefore, AreInOrder}
use Rattle.stock_keeper.specs.declared.changes.SpotWorth.{SpotWorth}
use Rattle.stock_keeper.proofs.SpotOrder.{neither-from_test}
use Rattle.kept_tables.specs.Differences.{is_at, worth_at}
use Rattle.kept_tables.specs.TablesOf.{worths_of}
use Rattle.kept_tables.proofs.OwnSpots.{AllPairs-replay, in-line_of}
use Rattle.kept_tables.proofs.RowWorths.{row_spot, HasOtherSpot, fold-held, fold-elsewhere, held_or_elsewhere}
use Rattle.kept_tables.proofs.WorthsAt.{fails, test-refl, worth_at-first}
use Rattle.generation_audit.specs.Findings.{IsWrongAt, IsExtra, IsFoundIn}
use Rattle.generation_audit.specs.RightRows.{entry_spot, stands_at}
use Rattle.generation_audit.specs.declared.finding.Finding.{Finding}
use Rattle.generation_audit.proofs.OwnWorths.{none-passes, worth_at-behind}
use Rattle.generation_audit.proofs.RightSteps.{rows-right}

-- a row stays where more movements are valued
stays : (journal : List Record) (rows : List Row) (es : List Entry) (row : Row) → Contains rows row → Contains (fold (value_next journal) rows es) row
stays journal rows [] row held = held
stays journal rows (e ∷ es) row held = stays journal (value_next journal rows e) es row (Contains-append_left rows (valued journal rows e ∷ []) row held)

-- a movement of the line is valued in the replay from those before it
in-replay : (journal : List Record) (past rest : List Entry) (e : Entry) → posting_line journal ≡ past ++ e ∷ rest → Contains (replay journal) (valued journal (rows_of journal past) e)
unfolding replay
in-replay journal past rest e parts =
    let rows = rows_of journal past in
    let row = valued journal rows e in
    subst (λ (all : List Row). Contains all row) (sym (ap (rows_of journal) parts ∙ fold-append (value_next journal) [] past (e ∷ rest)))
    (stays journal (value_next journal rows e) rest row (Contains-append_right rows (row ∷ []) row (Contains-first row [])))

-- and its worth stands at its spot
at-replay : (journal : List Record) (past rest : List Entry) (e : Entry) → posting_line journal ≡ past ++ e ∷ rest
    → worth_at (worths_of (replay journal)) (entry_spot e) ≡ Some (valued journal (rows_of journal past) e).worth
at-replay journal past rest e parts =
    fold-held [] (replay journal) (valued journal (rows_of journal past) e) (Pairwise-from_AllPairs HasOtherSpot (replay journal) (AllPairs-replay journal))
    (in-replay journal past rest e parts)

-- a movement of which another worth is stored
wrong-differs : (journal : List Record) (worths : List SpotWorth) (found : Finding) → IsWrongAt journal worths found
    → (found.stored ≡ worth_at worths found.spot) × (worth_at worths found.spot ≡ worth_at (worths_of (replay journal)) found.spot → ⊥)
wrong-differs journal worths found is = (
  is.stored ∙ ap (worth_at worths) (sym is.spot),
  λ same. is.wrong (ap (worth_at worths) (sym is.spot) ∙ same ∙ ap (worth_at (worths_of (replay journal))) is.spot
      ∙ at-replay journal is.past is.rest is.e is.parts
      ∙ ap (λ (rows : List Row). Some (valued journal rows is.e).worth) (sym (rows-right journal worths is.past is.right))),
)

-- in order, none before a worth stands at its spot
before-last : (v w : SpotWorth) (front rest : List SpotWorth) → Precedes IsBefore v (front ++ w ∷ rest) → is_spot_before v.spot w.spot ≡ true
before-last v w [] rest h = h.0
before-last v w (u ∷ front) rest h = before-last v w front rest h.1

both-fail : (a b : Bool) → a ≡ false → b ≡ false → (a || b) ≡ false
both-fail true b h k = absurd (false≢true (sym h))
both-fail false b h k = k

apart : (v w : SpotWorth) → is_spot_before v.spot w.spot ≡ true → is_same_spot v.spot w.spot ≡ false
apart v w before =
    fails (is_same_spot v.spot w.spot) (λ test. false≢true (sym (neither-from_test v.spot w.spot test).0 ∙ before))

none-before : (front rest : List SpotWorth) (w : SpotWorth) → Pairwise IsBefore (front ++ w ∷ rest) → list_any (is_at w.spot) front ≡ false
none-before [] rest w order = refl
none-before (v ∷ front) rest w order =
    both-fail (is_same_spot v.spot w.spot) (list_any (is_at w.spot) front) (apart v w (before-last v w front rest order.0)) (none-before front rest w order.1)

no-movement : (a b : Bool) → (a && not b) ≡ false → b ≡ false → a ≡ false
no-movement true true h k = k
no-movement true false h k = absurd (false≢true (sym h))
no-movement false b h k = refl

-- a worth of no movement
extra-differs : (journal : List Record) (worths : List SpotWorth) (found : Finding) → IsExtra (posting_line journal) worths found → AreInOrder worths
    → (found.stored ≡ worth_at worths found.spot) × (worth_at worths found.spot ≡ worth_at (worths_of (replay journal)) found.spot → ⊥)
extra-differs journal worths found is order =
    let line = posting_line journal in
    let s = is.w.spot in
    let sorted = subst (Pairwise IsBefore) is.parts (Pairwise-from_AllPairs IsBefore worths order) in
    let first : list_any (is_at s) is.front ≡ false = none-before is.front is.rest is.w sorted in
    let stands : worth_at worths s ≡ Some is.w.worth =
    ap (λ (ws : List SpotWorth). worth_at ws s) is.parts ∙ worth_at-behind is.front (is.w ∷ is.rest) s first ∙ worth_at-first is.w is.rest in
    let none : list_any (stands_at s) line ≡ false = no-movement (list_any (stands_at s) line) (list_any (is_at s) is.front) is.extra first in
    let absent : worth_at (worths_of (replay journal)) s ≡ None = elim (held_or_elsewhere (replay journal) s) [
      | inl has ↦ absurd (false≢true (sym (none-passes (stands_at s) line has.row.entry none (in-line_of journal has.row has.held))
          ∙ subst (λ (t : Spot). is_same_spot (row_spot has.row) t ≡ true) has.at (test-refl (row_spot has.row))))
      | inr others ↦ fold-elsewhere [] (replay journal) s others
    ] in (
      is.stored ∙ sym stands ∙ ap (worth_at worths) (sym is.spot),
      λ same.
          let never : Some is.w.worth ≡ None = sym stands ∙ ap (worth_at worths) (sym is.spot) ∙ same ∙ ap (worth_at (worths_of (replay journal))) is.spot ∙ absent in cc,
    )

-- so what is found differs from the replay
pub found-differs : (journal : List Record) (worths : List SpotWorth) (found : Finding) → IsFoundIn journal worths found → AreInOrder worths
    → (found.stored ≡ worth_at worths found.spot) × (worth_at worths found.spot ≡ worth_at (worths_of (replay journal)) found.spot → ⊥)
found-differs journal worths found (inl wrong) order = wrong-differs journal worths found wrong
found-differs journal worths found (inr extra) order = extra-differs journal worths found extra.1 order
