-- Opened tables are those of the history that they are opened as, and it is legal.
use Rattle.std.proofs.Common.{◌≡◌, ℕ, zero, suc, pos, ◌<◌, ◌≤◌, Bool, true, nat_lt, if◌then◌else◌, List, [], ◌∷◌, ◌++◌, length, take, map, refl, sym, ap, ◌∙◌, subst, append-nil, arith}
use Rattle.std.proofs.lemmas.Bool.Decides.{nat_tests}
use Rattle.std.proofs.lemmas.List.{take_all}
use Rattle.stock_model.specs.History.{records, covered, covered_after, IsLegalAfter, IsLegal}
use Rattle.stock_model.specs.Journals.{AreLegalAfter, AreLegal}
use Rattle.stock_model.specs.Replay.{replay}
use Rattle.stock_model.specs.declared.deeds.Deed.{Deed}
use Rattle.stock_model.specs.declared.deeds.Deed.TheVariants.{Kept, Published}
use Rattle.stock_model.specs.declared.records.Record.{Record}
use Rattle.stock_laws.proofs.Histories.{records-append, covered_after-append, IsLegalAfter-append}
use Rattle.stock_keeper.specs.declared.tables.Tables.{Tables}
use Rattle.kept_tables.specs.Openings.{opening, IsOpened}
use Rattle.kept_tables.specs.TablesOf.{stored_from, worths_of, tables_of}

abbrev publication : ℕ → List Deed
publication n = Published (record { 0 = n }) ∷ []

records-kept : (items : List Record) → records (map Kept items) ≡ items
records-kept [] = refl
records-kept (item ∷ items) = ap (λ (rest : List Record). item ∷ rest) (records-kept items)

covered-kept : (n : ℕ) (items : List Record) → covered_after n (map Kept items) ≡ n
covered-kept n [] = refl
covered-kept n (item ∷ items) = covered-kept n items

-- where some are covered, a publication stands last
opening-some : (items : List Record) (n : ℕ) → opening items (suc n) ≡ map Kept items ++ publication (suc n)
opening-some items n =
    let some : nat_lt 0 (suc n) ≡ true = grind (arith, nat_tests) in
    ap (λ (b : Bool). map Kept items ++ (if b then publication (suc n) else [])) some

records-opening : (items : List Record) (n : ℕ) → records (opening items n) ≡ items
records-opening items zero =
    records-append (map Kept items) [] ∙ append-nil (records (map Kept items)) ∙ records-kept items
records-opening items (suc n) =
    ap records (opening-some items n)
    ∙ records-append (map Kept items) (publication (suc n)) ∙ append-nil (records (map Kept items)) ∙ records-kept items

covered-opening : (items : List Record) (n : ℕ) → covered (opening items n) ≡ n
covered-opening items zero = covered_after-append 0 (map Kept items) [] ∙ covered-kept 0 items
covered-opening items (suc n) =
    ap covered (opening-some items n) ∙ covered_after-append 0 (map Kept items) (publication (suc n))

-- tables with the same in each field are the same
same_tables : (a b : Tables) → a.version ≡ b.version → a.records ≡ b.records → a.covered ≡ b.covered → a.worths ≡ b.worths → a ≡ b
same_tables a b versions rows counts worths =
    λ i. record { version = versions i; records = rows i; covered = counts i; worths = worths i }

pub tables_of-opening : (t : Tables) (items : List Record) (n : ℕ) → IsOpened t items n → tables_of (opening items n) ≡ t
tables_of-opening t items n is =
    let all : records (opening items n) ≡ items = records-opening items n in
    let many : covered (opening items n) ≡ n = covered-opening items n in
    let whole : take (length items) t.records ≡ t.records = take_all (length items) t.records (omega (arith, is.0.1)) in
    let rows : stored_from 1 (records (opening items n)) ≡ t.records = ap (stored_from 1) all ∙ is.0.0.1 ∙ whole in
    let count : pos (covered (opening items n)) ≡ t.covered = ap pos many ∙ sym is.2 in
    let worths : worths_of (replay (take (covered (opening items n)) (records (opening items n)))) ≡ t.worths =
    ap (λ (m : ℕ). worths_of (replay (take m (records (opening items n))))) many
    ∙ ap (λ (rs : List Record). worths_of (replay (take n rs))) all ∙ sym is.4 in
    same_tables (tables_of (opening items n)) t (sym is.1) rows count worths

-- records without a fault at their places are kept one after another
kept_one_by_one : (journal items : List Record) (n : ℕ) → AreLegalAfter journal items → IsLegalAfter journal n (map Kept items)
kept_one_by_one journal [] n legal = tt
kept_one_by_one journal (item ∷ items) n legal = (legal.0, kept_one_by_one (journal ++ item ∷ []) items n legal.1)

pub IsLegal-opening : (items : List Record) (n : ℕ) → AreLegal items → n ≤ length items → IsLegal (opening items n)
IsLegal-opening items zero legal within =
    IsLegalAfter-append [] 0 (map Kept items) [] (kept_one_by_one [] items 0 legal) tt
IsLegal-opening items (suc n) legal within =
    let more : covered_after 0 (map Kept items) < suc n = omega (arith, covered-kept 0 items) in
    let held : suc n ≤ length (records (map Kept items)) = omega (arith, ap length (records-kept items)) in
    subst IsLegal (sym (opening-some items n))
    (IsLegalAfter-append [] 0 (map Kept items) (publication (suc n)) (kept_one_by_one [] items 0 legal) (more, held, tt))
