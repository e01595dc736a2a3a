-- What is read from the mirror is what a book selects that covers just these records.
use Rattle.std.proofs.Common.{◌≡◌, ℕ, zero, suc, ◌+◌, ◌<◌, ◌≤◌, List, [], ◌∷◌, ◌++◌, length, take, filter, refl, sym, ap, ◌∙◌, subst, length-append, arith}
use Rattle.std.specs.Prelude.{All}
use Rattle.std.proofs.lemmas.List.{take_all}
use Rattle.std.proofs.lemmas.List.Elements.{All-nil, All-cons, All-head, All-tail}
use Rattle.turn_lock.specs.Histories.{BeginsWith}
use Rattle.stock_model.specs.History.{records, covered_after, covered, covered_records, IsLegalAfter, IsLegal}
use Rattle.stock_model.specs.Masters.{heads}
use Rattle.stock_model.specs.Replay.{replay}
use Rattle.stock_model.specs.Reports.{is_until, selected, IsSelected}
use Rattle.stock_model.specs.declared.deeds.Deed.{Deed}
use Rattle.stock_model.specs.declared.deeds.Deed.TheVariants.{Kept, Published}
use Rattle.stock_model.specs.declared.queries.Query.{Query}
use Rattle.stock_model.specs.declared.records.Record.{Record}
use Rattle.book_answers.specs.Answers.{ShowsKeptStock}
use Rattle.session_laws.specs.Exchanges.{Exchange}
use Rattle.mirrored_sessions.specs.Steps.{Step, Turned, Read, answer_in, turned_in, selected_of, IsReading}
use Rattle.desk_service.proofs.KeptReports.{KeepsSelected}

-- the history in which these were kept, and nothing was published
abbrev kept : List Record → List Deed
kept [] = []
kept (item ∷ items) = Kept item ∷ kept items

-- records of a legal history are sound one after another
kept-legal : (journal : List Record) (c d : ℕ) (history : List Deed) → IsLegalAfter journal c history
    → IsLegalAfter journal d (kept (records history))
kept-legal journal c d [] legal = tt
kept-legal journal c d (Kept item ∷ history) legal = (legal.0, kept-legal (journal ++ item ∷ []) c d history legal.1)
kept-legal journal c d (Published n ∷ history) legal = kept-legal journal n.0 d history legal.2

kept-take : (n : ℕ) (journal : List Record) (d : ℕ) (items : List Record) → IsLegalAfter journal d (kept items)
    → IsLegalAfter journal d (kept (take n items))
kept-take zero journal d [] legal = tt
kept-take zero journal d (item ∷ items) legal = tt
kept-take (suc n) journal d [] legal = tt
kept-take (suc n) journal d (item ∷ items) legal = (legal.0, kept-take n (journal ++ item ∷ []) d items legal.1)

-- the history in which these were kept and then so many published
abbrev published : List Record → ℕ → List Deed
published items n = kept items ++ Published (record { 0 = n }) ∷ []

published-legal : (n d : ℕ) (journal items : List Record) → d < n → n ≤ length journal + length items
    → IsLegalAfter journal d (kept items) → IsLegalAfter journal d (published items n)
published-legal n d journal [] some within legal = (some, omega (arith, within), tt)
published-legal n d journal (item ∷ items) some within legal = (
  legal.0,
  published-legal n d (journal ++ item ∷ []) items some (omega (arith, within, length-append journal (item ∷ []))) legal.1,
)

published-records : (items : List Record) (n : ℕ) → records (published items n) ≡ items
published-records [] n = refl
published-records (item ∷ items) n = ap (λ (rs : List Record). item ∷ rs) (published-records items n)

published-covered : (d : ℕ) (items : List Record) (n : ℕ) → covered_after d (published items n) ≡ n
published-covered d [] n = refl
published-covered d (item ∷ items) n = published-covered d items n

-- all of them are covered then
all-covered : (items : List Record) → covered_records (published items (length items)) ≡ items
all-covered items =
    ap (λ (n : ℕ). take n (records (published items (length items)))) (published-covered 0 items (length items))
    ∙ ap (take (length items)) (published-records items (length items)) ∙ take_all (length items) items (omega arith)

module _ (final : List Deed) (legal : IsLegal final) where
  -- what was covered once is sound
  sound : (items : List Record) → BeginsWith (covered_records final) items → IsLegalAfter [] 0 (kept items)
  sound items begins =
      subst (λ (rs : List Record). IsLegalAfter [] 0 (kept rs)) begins
      (kept-take (length items) [] 0 (covered_records final) (kept-take (covered final) [] 0 (records final) (kept-legal [] 0 0 final legal)))

  -- a book that covers just these selects what was read
  pub read-selected : (query : Query) (items : List Record) → BeginsWith (covered_records final) items
      → IsSelected query (selected_of items query)
  unfolding selected
  read-selected query [] begins = record { history = []; legal = tt; is = refl }
  read-selected query (item ∷ items) begins =
      let all : List Record = item ∷ items in
      record {
        history = published all (length all);
        legal = published-legal (length all) 0 [] all (omega arith) (omega arith) (sound all begins);
        is = λ i. record {
          covered = record { 0 = sym (published-covered 0 all (length all)) i };
          rows = filter (is_until query.until) (replay (sym (all-covered all) i));
          heads = heads (sym (all-covered all) i);
        };
      }

  -- so the ledger keeps the stock of each report of a session, of those that were read too
  pub steps-keep : KeepsSelected → (steps : List Step) → All (λ exchange. ShowsKeptStock exchange.answer) (turned_in steps)
      → All (IsReading (covered_records final)) steps → All (λ step. ShowsKeptStock (answer_in step)) steps
  steps-keep law [] turned readings = All-nil (λ step. ShowsKeptStock (answer_in step))
  steps-keep law (Turned exchange ∷ steps) turned readings =
      All-cons (λ step. ShowsKeptStock (answer_in step)) (Turned exchange) steps
      (All-head (λ (e : Exchange). ShowsKeptStock e.answer) exchange (turned_in steps) turned)
      (steps-keep law steps (All-tail (λ (e : Exchange). ShowsKeptStock e.answer) exchange (turned_in steps) turned)
      (All-tail (IsReading (covered_records final)) (Turned exchange) steps readings))
  steps-keep law (Read reading ∷ steps) turned readings =
      let was = All-head (IsReading (covered_records final)) (Read reading) steps readings in
      All-cons (λ step. ShowsKeptStock (answer_in step)) (Read reading) steps
      (law reading.query (selected_of reading.records reading.query) (read-selected reading.query reading.records was.0))
      (steps-keep law steps turned (All-tail (IsReading (covered_records final)) (Read reading) steps readings))
