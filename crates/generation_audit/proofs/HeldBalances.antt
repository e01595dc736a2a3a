-- The balances of the accounts over the replay of a legal journal can be told.
use Rattle.std.proofs.Common.{◌≡◌, ℕ, zero, suc, Bool, true, nat_lt, if◌then◌else◌, List, [], ◌∷◌, ◌++◌, length, take, map, filter, None, refl, ap, ◌∙◌, subst, append-nil, arith}
use Rattle.std.proofs.lemmas.Bool.Decides.{nat_tests}
use Rattle.std.proofs.lemmas.List.{take_all}
use Rattle.stock_nums.specs.declared.entry.Row.{Row}
use Rattle.stock_model.specs.Books.{HaveBalances}
use Rattle.stock_model.specs.History.{records, covered, covered_after, covered_records, IsLegal}
use Rattle.stock_model.specs.Journals.{AreLegal}
use Rattle.stock_model.specs.Masters.{heads}
use Rattle.stock_model.specs.Replay.{replay}
use Rattle.stock_model.specs.Reports.{is_until, selected, IsSelected}
use Rattle.stock_model.specs.declared.deeds.Deed.{Deed}
use Rattle.stock_model.specs.declared.deeds.Deed.TheVariants.{Kept, Published}
use Rattle.stock_model.specs.declared.queries.Format.TheVariants.{Json}
use Rattle.stock_model.specs.declared.queries.Query.{Query}
use Rattle.stock_model.specs.declared.queries.Selected.{Selected}
use Rattle.stock_model.specs.declared.queries.Sheet.TheVariants.{Accounts}
use Rattle.stock_model.specs.declared.records.Record.{Record}
use Rattle.stock_laws.proofs.Histories.{records-append, covered_after-append}
use Rattle.stock_laws.proofs.LedgerBalance.{lines-told}
use Rattle.stock_laws.proofs.Selections.{chosen-bounded}
use Rattle.stock_laws.proofs.SmallBalances.{chosen-small}
use Rattle.kept_tables.specs.Openings.{opening}
use Rattle.kept_tables.proofs.Opened.{IsLegal-opening}

abbrev publication : ℕ → List Deed
publication n = Published (record { 0 = n }) ∷ []

records-kept : (items : List Record) → records (map Kept items) ≡ items
records-kept [] = refl
records-kept (item ∷ items) = ap (λ (rest : List Record). item ∷ rest) (records-kept items)

covered-kept : (n : ℕ) (items : List Record) → covered_after n (map Kept items) ≡ n
covered-kept n [] = refl
covered-kept n (item ∷ items) = covered-kept n items

opening-some : (items : List Record) (n : ℕ) → opening items (suc n) ≡ map Kept items ++ publication (suc n)
opening-some items n =
    let some : nat_lt 0 (suc n) ≡ true = grind (arith, nat_tests) in
    ap (λ (b : Bool). map Kept items ++ (if b then publication (suc n) else [])) some

records-opening : (items : List Record) (n : ℕ) → records (opening items n) ≡ items
records-opening items zero =
    records-append (map Kept items) [] ∙ append-nil (records (map Kept items)) ∙ records-kept items
records-opening items (suc n) =
    ap records (opening-some items n)
    ∙ records-append (map Kept items) (publication (suc n)) ∙ append-nil (records (map Kept items)) ∙ records-kept items

covered-opening : (items : List Record) (n : ℕ) → covered (opening items n) ≡ n
covered-opening items zero = covered_after-append 0 (map Kept items) [] ∙ covered-kept 0 items
covered-opening items (suc n) =
    ap covered (opening-some items n) ∙ covered_after-append 0 (map Kept items) (publication (suc n))

-- all records of the opened history are covered
all-covered : (items : List Record) → covered_records (opening items (length items)) ≡ items
all-covered items =
    let n = length items in
    ap (λ (m : ℕ). take m (records (opening items n))) (covered-opening items n)
    ∙ ap (take n) (records-opening items n) ∙ take_all n items (omega arith)

-- the accounts sheet of all movements
abbrev accounts_query : Query
accounts_query = record { sheet = Accounts; need = record { 0 = 0 }; until = None; item = None; store = None; format = Json }

all-rows : (rows : List Row) → filter (is_until None) rows ≡ rows
all-rows [] = refl
all-rows (row ∷ rows) = ap (λ (rest : List Row). row ∷ rest) (all-rows rows)

of_selected : (query : Query) (chosen : Selected) → IsSelected query chosen → HaveBalances chosen.heads chosen.rows
of_selected query chosen is =
    record {
      few = (chosen-bounded query chosen is).few;
      lines = lines-told query chosen is;
      small = λ account. chosen-small query chosen account is;
    }

told : (history : List Deed) → IsLegal history → HaveBalances (heads (covered_records history)) (filter (is_until None) (replay (covered_records history)))
unfolding selected
told history legal = of_selected accounts_query (selected history accounts_query) (record { history = history; legal = legal; is = refl })

pub balances-held : (journal : List Record) → AreLegal journal → HaveBalances (heads journal) (replay journal)
balances-held journal legal =
    let history = opening journal (length journal) in
    subst (λ (rows : List Row). HaveBalances (heads journal) rows) (all-rows (replay journal))
    (subst (λ (items : List Record). HaveBalances (heads items) (filter (is_until None) (replay items))) (all-covered journal)
    (told history (IsLegal-opening journal (length journal) legal (omega arith))))
