-- A movement of a line whose rows are bounded is ready when those before it were valued.
use Rattle.std.proofs.Common.{◌≡◌, ℕ, ◌≤◌, Bool, true, false, ◌&&◌, ◌||◌, not, List, [], ◌∷◌, ◌++◌, length, get_or, map, fold, refl, sym, ap, ◌∙◌, subst, append_assoc, take, drop, ◌+◌, ◌<◌}
use Rattle.std.specs.List.{list_all, All}
use Rattle.std.proofs.lemmas.List.{map-append, append-nil, take_all, take_more}
use Rattle.std.proofs.lemmas.List.Elements.{All-nil, All-cons, All-head, All-tail}
use Rattle.std.proofs.lemmas.List.Sums.{fold-append}
use Rattle.stock_nums.specs.declared.cause.Cause.{Cause}
use Rattle.stock_nums.specs.declared.cause.Cause.TheVariants.{Receipt, Issue, TransferLeaves, TransferEnters, CustomerReturn, SupplierReturn}
use Rattle.stock_nums.specs.declared.cause.Method.{Method}
use Rattle.stock_nums.specs.declared.cause.Method.TheVariants.{Fifo, Average}
use Rattle.stock_nums.specs.declared.cause.Target.{Target}
use Rattle.stock_nums.specs.declared.entry.Entry.{Entry}
use Rattle.stock_nums.specs.declared.entry.Key.{Key}
use Rattle.stock_nums.specs.declared.entry.Row.{Row}
use Rattle.stock_nums.specs.declared.limits.TheConstants.{MAX_VALUE}
use Rattle.stock_model.specs.Bounds.{AreBounded}
use Rattle.stock_model.specs.Enough.{entry_key, is_same_key}
use Rattle.stock_model.specs.Formulas.{HasFormula, HaveOneFormula}
use Rattle.stock_model.specs.Journals.{AreLegal}
use Rattle.stock_model.specs.PostingOrder.{posting_line}
use Rattle.stock_model.specs.Replay.{valued, value_next, rows_of, replay}
use Rattle.stock_model.specs.Sums.{row_entry}
use Rattle.stock_model.specs.Values.{line_cost, HasUnits, HasUnitsLeft}
use Rattle.stock_model.specs.declared.records.Record.{Record}
use Rattle.stock_laws.proofs.Enough.{is_same_key-true}
use Rattle.stock_laws.proofs.Formulas.{posting_line-formula}
use Rattle.stock_laws.proofs.LegalReplay.{CanBeValued-index, AreBounded-first_rows}
use Rattle.cost_links.specs.Formulas.{is_same_method, has_formula, HasFormulaAt}
use Rattle.cost_links.specs.Ready.{HasCostBy, IsReady}
use Rattle.cost_links.proofs.Splits.{line-parts}

-- the rows are those of the movements
entries-value_all : (journal : List Record) (rows : List Row) (es : List Entry) → map row_entry (fold (value_next journal) rows es) ≡ map row_entry rows ++ es
entries-value_all journal rows [] = sym (append-nil (map row_entry rows))
entries-value_all journal rows (e ∷ es) =
    entries-value_all journal (value_next journal rows e) es
    ∙ ap (λ (front : List Entry). front ++ es) (map-append row_entry rows (valued journal rows e ∷ []))
    ∙ append_assoc (map row_entry rows) (e ∷ []) es

pub entries-rows_of : (journal : List Record) (es : List Entry) → map row_entry (rows_of journal es) ≡ es
entries-rows_of journal es = entries-value_all journal [] es

is_same_method-refl : (method : Method) → is_same_method method method ≡ true
is_same_method-refl Fifo = refl
is_same_method-refl Average = refl

-- where each movement has the formula of its item, the rows of an item have one formula
rows-have : (formula : ℕ → Method) (e : Entry) (rows : List Row) → HasFormula formula e → All (HasFormula formula) (map row_entry rows) → HasFormulaAt e.method rows (entry_key e)
rows-have formula e [] own all = refl
rows-have formula e (row ∷ rows) own all =
    let first = All-head (HasFormula formula) row.entry (map row_entry rows) all in
    let rest = rows-have formula e rows own (All-tail (HasFormula formula) row.entry (map row_entry rows) all) in
    by_cases (is_same_key (entry_key row.entry) (entry_key e)) refl first rest
  where
    by_cases : (b : Bool) → is_same_key (entry_key row.entry) (entry_key e) ≡ b → HasFormula formula row.entry → HasFormulaAt e.method rows (entry_key e) → ((not b || is_same_method row.entry.method e.method) && list_all (has_formula e.method (entry_key e)) rows) ≡ true
    by_cases false other first rest = rest
    by_cases true same first rest =
        let one_item : entry_key row.entry ≡ entry_key e = is_same_key-true (entry_key row.entry) (entry_key e) same in
        let one_formula : row.entry.method ≡ e.method = first ∙ ap (λ (k : Key). formula k.item.0) one_item ∙ sym own in
        ap (λ (m : Method). is_same_method m e.method && list_all (has_formula e.method (entry_key e)) rows) one_formula
        ∙ ap (λ (b : Bool). b && list_all (has_formula e.method (entry_key e)) rows) (is_same_method-refl e.method)
        ∙ rest

-- what holds of all movements holds of those before one, and of it
All-front : (P : Entry → Type 0) (past rest : List Entry) → All P (past ++ rest) → All P past
All-front P [] rest all = All-nil P
All-front P (f ∷ past) rest all = All-cons P f past (All-head P f (past ++ rest) all) (All-front P past rest (All-tail P f (past ++ rest) all))

All-next : (P : Entry → Type 0) (past : List Entry) (e : Entry) (rest : List Entry) → All P (past ++ e ∷ rest) → P e
All-next P [] e rest all = All-head P e rest all
All-next P (f ∷ past) e rest all = All-next P past e rest (All-tail P f (past ++ e ∷ rest) all)

costs-by : (before : List Row) (cause : Cause) → ((line : Target) → line_cost before line ≤ MAX_VALUE) → HasCostBy before cause
costs-by before (Receipt amount) small = tt
costs-by before (Issue sold) small = tt
costs-by before TransferLeaves small = tt
costs-by before TransferEnters small = tt
costs-by before (CustomerReturn target issued) small = small target
costs-by before (SupplierReturn target amount received) small = tt

-- the movement is ready
pub IsReady-from : (journal : List Record) (past rest : List Entry) (e : Entry) → HaveOneFormula (past ++ e ∷ rest) → AreBounded (rows_of journal (past ++ e ∷ []))
    → HasUnits (rows_of journal past) e → HasUnitsLeft (rows_of journal past) e → ((line : Target) → line_cost (rows_of journal past) line ≤ MAX_VALUE) → IsReady journal (rows_of journal past) e
IsReady-from journal past rest e (formula, all) bounded held left small =
    let rows = rows_of journal past in
    let entries : map row_entry rows ≡ past = entries-rows_of journal past in
    let own : HasFormula formula e = All-next (HasFormula formula) past e rest all in
    let before : All (HasFormula formula) (map row_entry rows) = subst (All (HasFormula formula)) (sym entries) (All-front (HasFormula formula) past (e ∷ rest) all) in
    record {
      bounded = subst AreBounded (fold-append (value_next journal) [] past (e ∷ [])) bounded;
      held = held;
      left = left;
      cost = costs-by rows e.cause small;
      formula = rows-have formula e rows own before;
    }

-- the next movement of a legal journal's posting line
pub IsReady-legal : (journal : List Record) (line : List Entry) (i : ℕ) (e : Entry) → AreLegal journal → line ≡ posting_line journal → i < length line → e ≡ get_or line i e → IsReady journal (rows_of journal (take i line)) e
IsReady-legal journal line i e legal is within here =
    let can = CanBeValued-index journal line i e legal is within here in
    let one_more : take (i + 1) line ≡ take i line ++ e ∷ [] = take_more line i e within ∙ ap (λ (f : Entry). take i line ++ f ∷ []) (sym here) in
    let formulas : HaveOneFormula line = subst HaveOneFormula (sym is) (posting_line-formula journal) in
    let bounded : AreBounded (rows_of journal (take (i + 1) line)) = subst (λ (es : List Entry). AreBounded (rows_of journal (take (i + 1) es))) (sym is) (AreBounded-first_rows journal (i + 1) legal) in
    IsReady-from journal (take i line) (drop (i + 1) line) e (subst HaveOneFormula (line-parts line i e within here) formulas) (subst (λ (es : List Entry). AreBounded (rows_of journal es)) one_more bounded)
    can.held can.left can.lines

-- all movements of the posting line, valued, are the replay
pub replay-all : (journal : List Record) (line : List Entry) (i : ℕ) → line ≡ posting_line journal → length line ≤ i → rows_of journal (take i line) ≡ replay journal
unfolding replay
replay-all journal line i is all = ap (rows_of journal) (take_all i line all ∙ is)
