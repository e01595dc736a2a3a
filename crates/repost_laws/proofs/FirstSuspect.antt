-- The first suspect is valued from what the replay says of all before it.
use Rattle.std.proofs.Common.{◌≡◌, ℕ, ◌≤◌, pos, true, ◌&&◌, List, [], ◌∷◌, ◌++◌, fold, inl, inr, refl, sym, ap, ◌∙◌, subst, arith, append_assoc, int_le, Contains}
use Rattle.std.proofs.lemmas.Bool.{false≢true}
use Rattle.std.proofs.lemmas.Bool.Decides.{nat_tests}
use Rattle.std.proofs.lemmas.Int.{ints}
use Rattle.std.proofs.lemmas.List.Sums.{fold-append}
use Rattle.stock_nums.specs.Places.{is_before}
use Rattle.stock_nums.specs.declared.cause.Cause.{Cause}
use Rattle.stock_nums.specs.declared.cause.Cause.TheVariants.{Receipt, Issue, TransferLeaves, TransferEnters, CustomerReturn, SupplierReturn}
use Rattle.stock_nums.specs.declared.cause.Method.{Method}
use Rattle.stock_nums.specs.declared.cause.Method.TheVariants.{Fifo, Average}
use Rattle.stock_nums.specs.declared.cause.Target.{Target}
use Rattle.stock_nums.specs.declared.entry.Entry.{Entry}
use Rattle.stock_nums.specs.declared.entry.Row.{Row}
use Rattle.stock_nums.specs.declared.limits.TheConstants.{MAX_VALUE}
use Rattle.stock_model.specs.Bounds.{AreBounded}
use Rattle.stock_model.specs.Formulas.{HaveOneFormula}
use Rattle.stock_model.specs.InOrder.{IsInPostingOrder}
use Rattle.stock_model.specs.Journals.{AreLegal}
use Rattle.stock_model.specs.LandedCost.{added}
use Rattle.stock_model.specs.PostingOrder.{posting_line}
use Rattle.stock_model.specs.Replay.{valued, value_next, rows_of, replay}
use Rattle.stock_model.specs.Values.{cost_by, fifo_cost, line_cost, value_by, own_line}
use Rattle.stock_model.specs.declared.records.Record.{Record}
use Rattle.stock_model.proofs.Pairwise.{Contains-cases, Contains-first, Contains-later}
use Rattle.stock_laws.proofs.Formulas.{posting_line-formula}
use Rattle.stock_laws.proofs.LegalReplay.{IsLegalLine-journal, CanBeValued-split}
use Rattle.stock_laws.proofs.Legality.{IsHeld-legal}
use Rattle.stock_laws.proofs.PostingLine.{IsInPostingOrder-posting_line}
use Rattle.stock_laws.proofs.Valuation.{IsLegalLine}
use Rattle.stock_model.specs.Enough.{entry_key}
use Rattle.stock_model.specs.Formulas.{HasFormula}
use Rattle.std.specs.List.{All}
use Rattle.std.proofs.lemmas.List.{append-nil}
use Rattle.cost_links.specs.Taken.{IsCostOf, IsLinkedBy, IsTakenFrom, CanBeTaken}
use Rattle.cost_links.specs.Ready.{IsReady}
use Rattle.cost_links.proofs.ReadyRows.{IsReady-from}
use Rattle.cost_links.proofs.TakenValues.{CanBeTaken-ready}
use Rattle.repost_laws.specs.Builds.{Suspects, IsBuilt, IsFirst}
use Rattle.repost_laws.specs.Valuations.{Found, earlier, pieces_taken_by, sources_by, taken_over, taken_from, valued_with, valuation, IsLocal}
use Rattle.repost_laws.proofs.EarlierOnes.{earlier-is_past}
use Rattle.repost_laws.proofs.Filtered.{Contains-filtered}
use Rattle.repost_laws.proofs.FoundRows.{IsTakenFrom-found, valued-is}
use Rattle.repost_laws.proofs.LocalRows.{has-middle, CanFollow-legal, IsFoundSoFar, IsFoundSoFar-nil, IsFoundSoFar-all, rows_of-next}
use Rattle.repost_laws.proofs.MoreRecords.{Contains-front}
use Rattle.repost_laws.proofs.Turns.{false-from}

-- an element of a list stands between those before it and those after it
pub record IsSplit (line : List Entry) (e : Entry) : Type 0 where
  pub past : List Entry
  pub rest : List Entry
  pub parts : past ++ e ∷ rest ≡ line

pub split-at : (line : List Entry) (e : Entry) → Contains line e → IsSplit line e
split-at [] e held = absurd (omega (arith, held.1))
split-at (f ∷ line) e held =
    elim (Contains-cases f line e held) [
      | inl same ↦ record { past = []; rest = line; parts = ap (λ (g : Entry). g ∷ line) (sym same) }
      | inr later ↦
          let split = split-at line e later in
          record { past = f ∷ split.past; rest = split.rest; parts = ap (λ (es : List Entry). f ∷ es) split.parts }
    ]

earlier-split : (journal : List Record) (past : List Entry) (e : Entry) (rest : List Entry) → past ++ e ∷ rest
    ≡ posting_line journal
    → earlier (posting_line journal) e ≡ past
earlier-split journal past e rest parts =
    ap (λ (line : List Entry). earlier line e) (sym parts)
    ∙ earlier-is_past past e rest (subst IsInPostingOrder (sym parts) (IsInPostingOrder-posting_line journal))

-- before the first suspect all is found as the replay has it
first-so_far : (journal : List Record) (found : Found) (suspects : Suspects) (past : List Entry) (e : Entry) (rest : List Entry)
    → AreLegal journal
    → IsBuilt (added journal) (posting_line journal) found suspects → IsFirst (posting_line journal) suspects e
    → past ++ e ∷ rest ≡ posting_line journal
    → IsFoundSoFar (posting_line-formula journal).0 journal found past
first-so_far journal found suspects past e rest legal built first parts =
    let formula = (posting_line-formula journal).0 in
    IsFoundSoFar-all formula journal found [] past (e ∷ rest)
    (subst (IsLegalLine formula journal) (sym parts) (IsLegalLine-journal journal legal))
    (subst IsInPostingOrder (sym parts) (IsInPostingOrder-posting_line journal)) local (IsFoundSoFar-nil formula journal found)
  where
    local : (f : Entry) → Contains past f → IsLocal (added journal) found (past ++ e ∷ rest) f
    local f held =
        let before : is_before f.place e.place ≡ true =
        (Contains-filtered (λ g. is_before g.place e.place) (posting_line journal) f
        (subst (λ (es : List Entry). Contains es f) (sym (earlier-split journal past e rest parts)) held)).1 in
        let in_line : Contains (posting_line journal) f = subst (λ (es : List Entry). Contains es f) parts
        (Contains-front past (e ∷ rest) f held) in
        subst (λ (es : List Entry). IsLocal (added journal) found es f) (sym parts)
        (built f in_line (false-from (suspects f.place) (λ is. false≢true (sym (first.first f in_line is) ∙ before))))

first-taken : (journal : List Record) (found : Found) (suspects : Suspects) (past : List Entry) (e : Entry) (rest : List Entry)
    → AreLegal journal
    → IsBuilt (added journal) (posting_line journal) found suspects → IsFirst (posting_line journal) suspects e
    → past ++ e ∷ rest ≡ posting_line journal
    → IsTakenFrom journal (rows_of journal past) e (taken_from (added journal) found past e)
first-taken journal found suspects past e rest legal built first parts =
    let so_far = first-so_far journal found suspects past e rest legal built first parts in
    let formula = (posting_line-formula journal).0 in
    let has : e.method ≡ formula e.item.0 = has-middle formula past e rest
    (subst (All (HasFormula formula)) (sym parts) (posting_line-formula journal).1) in
    IsTakenFrom-found journal (rows_of journal past) found past e so_far.rows
    (λ method. so_far.averages (entry_key e) (sym has ∙ method))

-- a row of the first movements is one of all
Contains-row : (rows : List Row) (row : Row) (more : List Row) → Contains ((rows ++ row ∷ []) ++ more) row
Contains-row [] row more = Contains-first row more
Contains-row (other ∷ rows) row more = Contains-later other ((rows ++ row ∷ []) ++ more) row (Contains-row rows row more)

rows-grow : (journal : List Record) (rows : List Row) (es : List Entry) → (more : List Row)
    × (fold (value_next journal) rows es ≡ rows ++ more)
rows-grow journal rows [] = ([], sym (append-nil rows))
rows-grow journal rows (e ∷ es) =
    let rest = rows-grow journal (value_next journal rows e) es in
    (valued journal rows e ∷ rest.0, rest.1 ∙ append_assoc rows (valued journal rows e ∷ []) rest.0)

pub first-worth : (journal : List Record) (found : Found) (suspects : Suspects) (e : Entry) → AreLegal journal
    → IsBuilt (added journal) (posting_line journal) found suspects → IsFirst (posting_line journal) suspects e
    → Contains (replay journal) (record { entry = e; worth = (valuation (added journal) found (posting_line journal) e).worth })
unfolding replay
first-worth journal found suspects e legal built first =
    let split = split-at (posting_line journal) e first.held in
    let past = split.past in
    let rows = rows_of journal past in
    let from = first-taken journal found suspects past e split.rest legal built first split.parts in
    let of : List Entry → Row = λ es. record {
      entry = e;
      worth =
          (valued_with (taken_from (added journal) found es e) e).worth;
    } in
    let own : of (earlier (posting_line journal) e) ≡ valued journal rows e =
    ap of (earlier-split journal past e split.rest split.parts)
    ∙ valued-is journal rows e (taken_from (added journal) found past e) from in
    let grown = rows-grow journal (value_next journal rows e) split.rest in
    let all : rows_of journal (posting_line journal) ≡ value_next journal rows e ++ grown.0 =
    ap (rows_of journal) (sym split.parts) ∙ fold-append (value_next journal) [] past (e ∷ split.rest) ∙ grown.1 in
    subst (Contains (rows_of journal (posting_line journal))) (sym own)
    (subst (λ (rs : List Row). Contains rs (valued journal rows e)) (sym all) (Contains-row rows (valued journal rows e) grown.0))

-- what is taken over is small
cost-small : (cost : ℕ) → (int_le (pos 0) (pos cost) && int_le (pos cost) (pos MAX_VALUE)) ≡ true → cost ≤ MAX_VALUE
cost-small cost h = grind (arith, ints, nat_tests)

taken-small : (method : Method) (found : Found) (rows : List Row) (past : List Entry) (e : Entry) → e.method ≡ method
    → IsCostOf method rows e (taken_over found (pieces_taken_by method past e))
    → cost_by e.method rows e ≤ MAX_VALUE → taken_over found (pieces_taken_by method past e) ≤ MAX_VALUE
taken-small Average found rows past e is cost small = omega arith
taken-small Fifo found rows past e is cost small =
    let same : cost_by e.method rows e ≡ fifo_cost rows e = ap (λ (m : Method). cost_by m rows e) is in
    omega (arith, cost, same, small)

linked-small : (journal : List Record) (found : Found) (rows : List Row) (past : List Entry) (e : Entry) (cause : Cause)
    → IsLinkedBy rows e (taken_over found (sources_by past e cause)) cause
    → ((line : Target) → line_cost rows line ≤ MAX_VALUE)
    → (int_le (pos 0) (value_by journal rows e cause) && int_le (value_by journal rows e cause) (pos MAX_VALUE)) ≡ true
    → taken_over found (sources_by past e cause) ≤ MAX_VALUE
linked-small journal found rows past e (Receipt amount) linked lines small = omega arith
linked-small journal found rows past e (Issue sold) linked lines small = taken-small e.method found rows past e refl linked
    (cost-small (cost_by e.method rows e) small)
linked-small journal found rows past e TransferLeaves linked lines small = taken-small e.method found rows past e refl linked
    (cost-small (cost_by e.method rows e) small)
linked-small journal found rows past e TransferEnters linked lines small = omega (arith, linked, lines (own_line e))
linked-small journal found rows past e (CustomerReturn target issued) linked lines small = omega (arith, linked, lines target)
linked-small journal found rows past e (SupplierReturn target amount received) linked lines small =
    taken-small e.method found rows past e refl linked (cost-small (cost_by e.method rows e) small)

pub first-can : (journal : List Record) (found : Found) (suspects : Suspects) (e : Entry) → AreLegal journal
    → IsBuilt (added journal) (posting_line journal) found suspects → IsFirst (posting_line journal) suspects e
    → CanBeTaken (taken_from (added journal) found (earlier (posting_line journal) e) e) e
first-can journal found suspects e legal built first =
    let split = split-at (posting_line journal) e first.held in
    let past = split.past in
    let rows = rows_of journal past in
    let formula = (posting_line-formula journal).0 in
    let from = first-taken journal found suspects past e split.rest legal built first split.parts in
    let can = CanBeValued-split journal past e split.rest legal split.parts in
    let follows = CanFollow-legal formula journal past e split.rest
    (subst (IsLegalLine formula journal) (sym split.parts) (IsLegalLine-journal journal legal)) in
    let ready : IsReady journal rows e =
    IsReady-from journal past split.rest e (subst HaveOneFormula (sym split.parts) (posting_line-formula journal))
    (subst AreBounded (sym (rows_of-next journal past e)) follows.bounded) can.held can.left can.lines in
    subst (λ (es : List Entry). CanBeTaken (taken_from (added journal) found es e) e)
    (sym (earlier-split journal past e split.rest split.parts))
    (CanBeTaken-ready journal rows e (taken_from (added journal) found past e) (IsHeld-legal journal legal).records ready
    (linked-small journal found rows past e e.cause from.source can.lines can.small) from)
