-- What holds of each movement of a journal, valued from those before it, holds of each row of its replay.
use Rattle.std.proofs.Common.{◌≡◌, Bool, true, false, cond, List, [], ◌∷◌, ◌++◌, filter, fold, refl, sym, ◌∙◌, subst, append_assoc}
use Rattle.std.specs.List.{list_all}
use Rattle.std.proofs.lemmas.List.Sums.{fold-append}
use Rattle.stock_nums.specs.declared.entry.Entry.{Entry}
use Rattle.stock_nums.specs.declared.entry.Row.{Row}
use Rattle.stock_model.specs.declared.records.Record.{Record}
use Rattle.stock_model.specs.PostingOrder.{posting_line}
use Rattle.stock_model.specs.Replay.{valued, value_next, rows_of, replay}
use Rattle.stock_laws.proofs.CostedRows.{both}
use Rattle.stock_model.proofs.Pairwise.{Each, Each-append}

-- the movement, valued from the rows of those before it, has the property
abbrev pub HoldsValued : List Record → (Row → Type 0) → List Entry → Type 0
HoldsValued journal P line =
    (past : List Entry) (e : Entry) (rest : List Entry) → past ++ e ∷ rest ≡ line → P (valued journal (rows_of journal past) e)

-- further movements are valued one after another
rows-each : (journal : List Record) (P : Row → Type 0) (past es : List Entry) → HoldsValued journal P (past ++ es) → Each P (rows_of journal past)
    → Each P (fold (value_next journal) (rows_of journal past) es)
rows-each journal P past [] holds all = all
rows-each journal P past (e ∷ es) holds all =
    let one : rows_of journal (past ++ e ∷ []) ≡ value_next journal (rows_of journal past) e = fold-append (value_next journal) [] past (e ∷ []) in
    let more : Each P (value_next journal (rows_of journal past) e) =
    Each-append P (rows_of journal past) (valued journal (rows_of journal past) e ∷ []) all (holds past e es refl, tt) in
    subst (λ (rows : List Row). Each P (fold (value_next journal) rows es)) one
    (rows-each journal P (past ++ e ∷ []) es (λ front f rest parts. holds front f rest (parts ∙ append_assoc past (e ∷ []) es)) (subst (Each P) (sym one) more))

-- and so are all
pub replay-each : (journal : List Record) (P : Row → Type 0) → HoldsValued journal P (posting_line journal) → Each P (replay journal)
unfolding replay
replay-each journal P holds = rows-each journal P [] (posting_line journal) holds tt

-- what holds of each holds of each that passes a test
pub Each-filter : {X : Type 0} (P : X → Type 0) (p : X → Bool) (xs : List X) → Each P xs → Each P (filter p xs)
Each-filter P p [] all = tt
Each-filter P p (x ∷ xs) all =
    elim (p x) as (λ b. Each P (cond b (x ∷ filter p xs) (filter p xs))) [
      | true ↦ (all.0, Each-filter P p xs all.1)
      | false ↦ Each-filter P p xs all.1
    ]

-- it passes a test
abbrev pub Passes : {X : Type 0} → (X → Bool) → X → Type 0
Passes p x = p x ≡ true

-- where each passes a test, all do
pub list_all-from_Each : {X : Type 0} (p : X → Bool) (xs : List X) → Each (Passes p) xs → list_all p xs ≡ true
list_all-from_Each p [] all = refl
list_all-from_Each p (x ∷ xs) all = both all.0 (list_all-from_Each p xs all.1)
