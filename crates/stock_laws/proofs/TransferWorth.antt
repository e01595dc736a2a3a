-- What leaves by transfers is worth what enters by them, among the movements of whatever moments and records.
use Rattle.std.proofs.Common.{◌≡◌, ℕ, ◌+◌, ◌<◌, Bool, true, false, cond, ◌&&◌, not, List, [], ◌∷◌, ◌++◌, map, filter, fold, sum_by, Some, refl, sym, ap, ◌∙◌, subst, arith, nat_lt, unsigned_abs}
use Rattle.std.proofs.lemmas.Bool.{false≢true}
use Rattle.std.proofs.lemmas.Bool.Decides.{nat_tests}
use Rattle.std.proofs.lemmas.List.Sorted.{All-permutation, sum_by-IsPermutation}
use Rattle.std.proofs.lemmas.List.Sums.{sum_by-cons, fold-append}
use Rattle.stock_nums.specs.Causes.{enters_by, is_entering}
use Rattle.stock_nums.specs.Places.{first_by, side_rank, is_before}
use Rattle.stock_nums.specs.Targets.{is_same_target}
use Rattle.stock_nums.specs.declared.cause.Cause.{Cause}
use Rattle.stock_nums.specs.declared.cause.Cause.TheVariants.{Receipt, Issue, TransferLeaves, TransferEnters, CustomerReturn, SupplierReturn}
use Rattle.stock_nums.specs.declared.cause.Target.{Target}
use Rattle.stock_nums.specs.declared.entry.Entry.{Entry}
use Rattle.stock_nums.specs.declared.entry.Row.{Row}
use Rattle.stock_nums.specs.declared.moment.Moment.{Moment}
use Rattle.stock_nums.specs.declared.place.Place.{Place}
use Rattle.stock_nums.specs.declared.place.Side.{Side}
use Rattle.stock_nums.specs.declared.place.Side.TheVariants.{Leaves, Enters}
use Rattle.stock_model.specs.declared.records.Record.{Record}
use Rattle.stock_model.specs.Conservation.{is_sent, is_arrived, has_cause, worth_by}
use Rattle.stock_model.specs.Entries.{all_entries}
use Rattle.stock_model.specs.InOrder.{IsBefore}
use Rattle.stock_model.specs.Journals.{AreSound, AreLegal}
use Rattle.stock_model.specs.PostingOrder.{posting_line}
use Rattle.stock_model.specs.Replay.{valued, value_next, rows_of, replay}
use Rattle.stock_model.specs.Sums.{row_entry, value_of}
use Rattle.stock_model.specs.Values.{own_line, leaves_by, line_cost, value_by}
use Rattle.stock_model.specs.VoucherLines.{moment_of}
use Rattle.stock_laws.proofs.Conserved.{line_cost-next}
use Rattle.stock_laws.proofs.Conserving.{side-is}
use Rattle.stock_laws.proofs.CostedRows.{map-value_all}
use Rattle.stock_laws.proofs.EntryRecords.{IsOfRecord}
use Rattle.stock_laws.proofs.KnownEntries.{entries-known}
use Rattle.stock_laws.proofs.Legality.{AreSound-from}
use Rattle.stock_laws.proofs.Linked.{is_same_target-true, is_same_target-refl, IsNoneLeaving, IsLinked, AreLinkedAfter, AreLinkedAfter-at}
use Rattle.stock_laws.proofs.LinkedJournals.{AreLinked-posting_line}
use Rattle.stock_model.proofs.Pairwise.{Each, Precedes, Pairwise, Pairwise-from_AllPairs, Each-from_Precedes}
use Rattle.stock_laws.proofs.PostingLine.{IsInPostingOrder-posting_line, IsPermutation-posting_line}
use Rattle.stock_laws.proofs.RecordsAt.{what_at-once, what_at}
use Rattle.stock_laws.proofs.ReplayRows.{HoldsValued, replay-each}
use Rattle.stock_laws.proofs.TestedSums.{All-from_Each, Each-from_All, Each-both, counted, counted-fails, tested-cons, tested-none_of}
use Rattle.stock_laws.proofs.TransferSides.{entry_weight, all_entries-even}

-- of two places of one moment, record and line the one that comes later enters
rank-last : (ad as_ av al bd bs bv bl : ℕ) (a b : ℕ) → ad ≡ bd → as_ ≡ bs → av ≡ bv → al ≡ bl
    → first_by ad bd (first_by as_ bs (first_by av bv (first_by al bl (nat_lt a b)))) ≡ true → a < b
rank-last ad as_ av al bd bs bv bl a b dates seconds vouchers lines before = grind (arith, nat_tests)

rank-enters : (a b : Side) → side_rank a < side_rank b → is_entering b ≡ true
rank-enters a Enters h = refl
rank-enters a Leaves h = absurd (omega (arith, h))

later-enters : (p q : Place) → p.moment ≡ q.moment → p.voucher.0 ≡ q.voucher.0 → p.line ≡ q.line → is_before p q ≡ true → is_entering q.side ≡ true
later-enters p q moments vouchers lines before =
    rank-enters p.side q.side
    (rank-last p.moment.date p.moment.second p.voucher.0 p.line q.moment.date q.moment.second q.voucher.0 q.line (side_rank p.side) (side_rank q.side)
    (ap (λ (m : Moment). m.date) moments) (ap (λ (m : Moment). m.second) moments) vouchers lines before)

-- movements of one line are of one moment
one_moment : (journal : List Record) (e f : Entry) → IsOfRecord journal e → IsOfRecord journal f → own_line e ≡ own_line f → e.place.moment ≡ f.place.moment
one_moment journal e f own other same =
    let whats = what_at-once journal f.place.voucher.0 own.what other.what (ap (λ (t : Target). what_at journal t.voucher.0) (sym same) ∙ own.held) other.held in
    let both : Some e.place.moment ≡ Some f.place.moment = sym own.timed ∙ ap moment_of whats ∙ other.timed in
    cc

-- a movement that comes after one of a line does not leave by it
none_after : (journal : List Record) (e f : Entry) → IsOfRecord journal e → IsOfRecord journal f → IsBefore e f → IsNoneLeaving (own_line e) f
none_after journal e f own other before =
    let step : (b : Bool) → is_same_target (own_line f) (own_line e) ≡ b → (b && not (is_entering f.place.side)) ≡ false =
    λ b. elim b as (λ v. is_same_target (own_line f) (own_line e) ≡ v → (v && not (is_entering f.place.side)) ≡ false) [
      | true ↦ λ is.
          let same : own_line e ≡ own_line f = sym (is_same_target-true (own_line f) (own_line e) is) in
          ap not (later-enters e.place f.place (one_moment journal e f own other same) (ap (λ (t : Target). t.voucher.0) same) (ap (λ (t : Target). t.line) same) before)
      | false ↦ λ is. refl
    ] in
    step (is_same_target (own_line f) (own_line e)) refl

-- what is known of a list at one of its elements
Each-here : {X : Type 0} (P : X → Type 0) (past : List X) (x : X) (rest : List X) → Each P (past ++ x ∷ rest) → P x × Each P rest
Each-here P [] x rest all = all
Each-here P (y ∷ past) x rest all = Each-here P past x rest all.1

Precedes-here : {X : Type 0} (R : X → X → Type 0) (past : List X) (x : X) (rest : List X) → Pairwise R (past ++ x ∷ rest) → Precedes R x rest
Precedes-here R [] x rest all = all.0
Precedes-here R (y ∷ past) x rest all = Precedes-here R past x rest all.1

-- each movement of the posting line is known by its record
line-known : (journal : List Record) → AreSound journal → Each (IsOfRecord journal) (posting_line journal)
line-known journal sound =
    Each-from_All (IsOfRecord journal) (posting_line journal)
    (All-permutation (IsOfRecord journal) (all_entries journal) (posting_line journal) (IsPermutation-posting_line journal)
    (All-from_Each (IsOfRecord journal) (all_entries journal) (entries-known journal sound)))

-- none of those after a movement leaves by its line
rest-none : (journal : List Record) (past : List Entry) (e : Entry) (rest : List Entry) → AreSound journal → past ++ e ∷ rest ≡ posting_line journal → Each (IsNoneLeaving (own_line e)) rest
rest-none journal past e rest sound parts =
    let known = Each-here (IsOfRecord journal) past e rest (subst (Each (IsOfRecord journal)) (sym parts) (line-known journal sound)) in
    let order : Pairwise IsBefore (past ++ e ∷ rest) =
    subst (Pairwise IsBefore) (sym parts) (Pairwise-from_AllPairs IsBefore (posting_line journal) (IsInPostingOrder-posting_line journal)) in
    Each-both (IsOfRecord journal) (IsBefore e) (IsNoneLeaving (own_line e)) (λ f other before. none_after journal e f known.0 other before) rest known.1
    (Each-from_Precedes IsBefore e rest (Precedes-here IsBefore past e rest order))

-- movements of which none leaves by a line add nothing to its cost
line_cost-stays : (journal : List Record) (rows : List Row) (es : List Entry) (line : Target) → Each (IsNoneLeaving line) es → line_cost (fold (value_next journal) rows es) line ≡ line_cost rows line
line_cost-stays journal rows [] line none = refl
line_cost-stays journal rows (e ∷ es) line none =
    let row = valued journal rows e in
    let one : line_cost (value_next journal rows e) line ≡ line_cost rows line + 0 =
    line_cost-next rows row line (is_entering e.place.side) refl ∙ ap (λ (b : Bool). line_cost rows line + counted b (value_of row)) none.0 in
    omega (arith, line_cost-stays journal (value_next journal rows e) es line none.1, one)

-- what a line costs in the end is what it costs after its movement
cost-after : (journal : List Record) (past : List Entry) (e : Entry) (rest : List Entry) → AreSound journal → past ++ e ∷ rest ≡ posting_line journal
    → line_cost (replay journal) (own_line e) ≡ line_cost (value_next journal (rows_of journal past) e) (own_line e)
unfolding replay
cost-after journal past e rest sound parts =
    ap (λ (es : List Entry). line_cost (rows_of journal es) (own_line e)) (sym parts)
    ∙ ap (λ (rows : List Row). line_cost rows (own_line e)) (fold-append (value_next journal) [] past (e ∷ rest))
    ∙ line_cost-stays journal (value_next journal (rows_of journal past) e) rest (own_line e) (rest-none journal past e rest sound parts)

-- a movement of this kind is worth what its line costs
abbrev IsWorthItsLine : List Record → (Cause → Bool) → Row → Type 0
IsWorthItsLine journal kind row = kind row.entry.cause ≡ true → value_of row ≡ line_cost (replay journal) (own_line row.entry)

-- only one cause is each side of a transfer
sent-is : (c : Cause) → is_sent c ≡ true → c ≡ TransferLeaves
sent-is (Receipt amount) h = absurd (false≢true h)
sent-is (Issue sold) h = absurd (false≢true h)
sent-is TransferLeaves h = refl
sent-is TransferEnters h = absurd (false≢true h)
sent-is (CustomerReturn target issued) h = absurd (false≢true h)
sent-is (SupplierReturn target amount received) h = absurd (false≢true h)

arrived-is : (c : Cause) → is_arrived c ≡ true → c ≡ TransferEnters
arrived-is (Receipt amount) h = absurd (false≢true h)
arrived-is (Issue sold) h = absurd (false≢true h)
arrived-is TransferLeaves h = absurd (false≢true h)
arrived-is TransferEnters h = refl
arrived-is (CustomerReturn target issued) h = absurd (false≢true h)
arrived-is (SupplierReturn target amount received) h = absurd (false≢true h)

-- what leaves by a line is all that it costs, since nothing left by it before
sent-worth : (journal : List Record) → AreLegal journal → HoldsValued journal (IsWorthItsLine journal is_sent) (posting_line journal)
sent-worth journal legal past e rest parts is =
    let rows = rows_of journal past in
    let own = own_line e in
    let row = valued journal rows e in
    let leaves : is_entering e.place.side ≡ false = side-is (enters_by e.cause) e.place.side e.sides ∙ ap enters_by (sent-is e.cause is) in
    let linked : IsLinked past e = AreLinkedAfter-at [] past e rest (subst (AreLinkedAfter []) (sym parts) (AreLinked-posting_line journal legal)) in
    let nothing : line_cost rows own ≡ 0 =
    tested-none_of row_entry value_of (leaves_by own) (IsNoneLeaving own) (λ r h. h) rows (subst (Each (IsNoneLeaving own)) (sym (map-value_all journal [] past)) (linked.1 leaves)) in
    let next : line_cost (value_next journal rows e) own ≡ line_cost rows own + value_of row =
    line_cost-next rows row own false leaves ∙ ap (λ (b : Bool). line_cost rows own + counted (b && true) (value_of row)) (is_same_target-refl own) in
    omega (arith, cost-after journal past e rest (AreSound-from journal legal) parts, next, nothing)

-- what enters by a transfer is worth what left by its line before, and nothing leaves by it later
arrived-worth : (journal : List Record) → AreLegal journal → HoldsValued journal (IsWorthItsLine journal is_arrived) (posting_line journal)
arrived-worth journal legal past e rest parts is =
    let rows = rows_of journal past in
    let own = own_line e in
    let row = valued journal rows e in
    let cause = arrived-is e.cause is in
    let enters : is_entering e.place.side ≡ true = side-is (enters_by e.cause) e.place.side e.sides ∙ ap enters_by cause in
    let value : value_of row ≡ line_cost rows own = ap (λ (c : Cause). unsigned_abs (value_by journal rows e c)) cause in
    let next : line_cost (value_next journal rows e) own ≡ line_cost rows own + counted (is_same_target own own && false) (value_of row) = line_cost-next rows row own true enters in
    omega (arith, cost-after journal past e rest (AreSound-from journal legal) parts, next, counted-fails (is_same_target own own) (value_of row), value)

-- a test of moments and of records' numbers, of a row
abbrev pub passes : (Moment → ℕ → Bool) → Row → Bool
passes test row = test row.entry.place.moment row.entry.place.voucher.0

-- what a line costs, where its moment and record pass
abbrev cost_where : List Record → (Moment → ℕ → Bool) → Moment → Target → ℕ
cost_where journal test at line = counted (test at line.voucher.0) (line_cost (replay journal) line)

-- of two tests either may come first
counted-turned : (a b : Bool) (m n : ℕ) → (b ≡ true → m ≡ n) → counted a (counted b m) ≡ counted b (counted a n)
counted-turned a true m n same = ap (counted a) (same refl)
counted-turned true false m n same = refl
counted-turned false false m n same = refl

-- what movements of this kind among those that pass are worth, by what their lines cost
worth-weights : (journal : List Record) (kind : Cause → Bool) (test : Moment → ℕ → Bool) (rows : List Row) → Each (IsWorthItsLine journal kind) rows
    → worth_by kind (filter (passes test) rows) ≡ sum_by (entry_weight kind (cost_where journal test)) (map row_entry rows)
worth-weights journal kind test [] all = refl
worth-weights journal kind test (row ∷ rows) all =
    let weight = entry_weight kind (cost_where journal test) in
    let front : worth_by kind (filter (passes test) (row ∷ rows)) ≡ counted (passes test row) (counted (kind row.entry.cause) (value_of row)) + worth_by kind (filter (passes test) rows) =
    elim (passes test row) as (λ b. worth_by kind (cond b (row ∷ filter (passes test) rows) (filter (passes test) rows)) ≡ counted b (counted (kind row.entry.cause) (value_of row)) + worth_by kind (filter (passes test) rows)) [
      | true ↦ tested-cons value_of (has_cause kind) row (filter (passes test) rows)
      | false ↦ omega arith
    ] in
    omega (
      arith,
      front,
      counted-turned (passes test row) (kind row.entry.cause) (value_of row) (line_cost (replay journal) (own_line row.entry)) all.0,
      sum_by-cons weight row.entry (map row_entry rows),
      worth-weights journal kind test rows all.1,
    )

-- so they are worth what the journal's movements count for
worth-entries : (journal : List Record) (kind : Cause → Bool) (test : Moment → ℕ → Bool) → Each (IsWorthItsLine journal kind) (replay journal)
    → worth_by kind (filter (passes test) (replay journal)) ≡ sum_by (entry_weight kind (cost_where journal test)) (all_entries journal)
unfolding replay
worth-entries journal kind test all =
    let weight = entry_weight kind (cost_where journal test) in
    worth-weights journal kind test (replay journal) all
    ∙ ap (sum_by weight) (map-value_all journal [] (posting_line journal))
    ∙ sum_by-IsPermutation weight (all_entries journal) (posting_line journal) (IsPermutation-posting_line journal)

-- among the movements whose moments and records pass any test what leaves by transfers is worth what enters by them
pub transfers-even : (journal : List Record) (test : Moment → ℕ → Bool) → AreLegal journal
    → worth_by is_sent (filter (passes test) (replay journal)) ≡ worth_by is_arrived (filter (passes test) (replay journal))
transfers-even journal test legal =
    worth-entries journal is_sent test (replay-each journal (IsWorthItsLine journal is_sent) (sent-worth journal legal))
    ∙ all_entries-even journal (cost_where journal test) (AreSound-from journal legal)
    ∙ sym (worth-entries journal is_arrived test (replay-each journal (IsWorthItsLine journal is_arrived) (arrived-worth journal legal)))
