-- What one more record and further records do to the posting line: what they take back goes, and what they bring is put among the rest.
use Rattle.std.proofs.Common.{◌≡◌, ℕ, ◌≤◌, Bool, true, false, ◌&&◌, ◌||◌, not, cond, List, [], ◌∷◌, ◌++◌, length, drop, filter, refl, sym, ap, ◌∙◌}
use Rattle.std.specs.List.{list_any}
use Rattle.std.proofs.lemmas.List.{drop-append-le}
use Rattle.std.proofs.lemmas.List.Elements.{filter-append}
use Rattle.std.proofs.lemmas.List.Folds.{list_any-append}
use Rattle.std.proofs.lemmas.List.Sums.{fold-append}
use Rattle.stock_nums.specs.Places.{is_before}
use Rattle.stock_nums.specs.declared.entry.Entry.{Entry}
use Rattle.stock_model.specs.declared.records.Record.{Record}
use Rattle.stock_model.specs.Entries.{entries, entries_after, takes_back, is_live, is_live_entry, is_spared, all_entries}
use Rattle.stock_model.specs.InOrder.{IsBefore}
use Rattle.stock_model.specs.PostingOrder.{put, put_all, posting_line}
use Rattle.stock_model.proofs.Growth.{entries_after-append}
use Rattle.stock_model.proofs.Pairwise.{Precedes, Pairwise, Across}
use Rattle.stock_laws.proofs.Distinct.{Differ, all_entries-Pairwise}
use Rattle.stock_laws.proofs.LiveEntries.{IsBetween, entries_after-between, filter-parts, Precedes-filter, all_entries-step}
use Rattle.stock_laws.proofs.PostingLine.{Precedes-along, put-Pairwise, put-Across, Across-nil}

-- a movement that comes before those of a line goes first
put-first : (line : List Entry) (e : Entry) → Precedes IsBefore e line → put line e ≡ e ∷ line
put-first [] e before = refl
put-first (f ∷ fs) e before = ap (λ (b : Bool). cond b (e ∷ f ∷ fs) (f ∷ put fs e)) before.0

-- those that pass a test among the movements of a line and one more
filter-put : (p : Entry → Bool) (line : List Entry) (e : Entry) → Pairwise IsBefore line
    → filter p (put line e) ≡ cond (p e) (put (filter p line) e) (filter p line)
filter-put p [] e ordered = refl
filter-put p (f ∷ fs) e ordered = by_cases (is_before e.place f.place) refl (filter-put p fs e ordered.1)
  where
    kept : List Entry
    kept = filter p fs

    by_test : (b c : Bool) → is_before e.place f.place ≡ false → (es : List Entry) → es ≡ cond c (put kept e) kept
        → cond b (f ∷ es) es ≡ cond c (put (cond b (f ∷ kept) kept) e) (cond b (f ∷ kept) kept)
    by_test true true after es rest =
        ap (λ (gs : List Entry). f ∷ gs) rest ∙ sym (ap (λ (b : Bool). cond b (e ∷ f ∷ kept) (f ∷ put kept e)) after)
    by_test true false after es rest = ap (λ (gs : List Entry). f ∷ gs) rest
    by_test false c after es rest = rest

    by_cases : (b : Bool) → is_before e.place f.place ≡ b → filter p (put fs e) ≡ cond (p e) (put kept e) kept
        → filter p (cond b (e ∷ f ∷ fs) (f ∷ put fs e)) ≡ cond (p e) (put (filter p (f ∷ fs)) e) (filter p (f ∷ fs))
    by_cases true before rest =
        let front = put-first (filter p (f ∷ fs)) e (Precedes-filter IsBefore e p (f ∷ fs) (before, Precedes-along e f fs before ordered.0)) in
        ap (λ (gs : List Entry). cond (p e) gs (filter p (f ∷ fs))) (sym front)
    by_cases false after rest = by_test (p f) (p e) after (filter p (put fs e)) rest

-- and of a line and more movements, each apart from the others
pub filter-put_all : (p : Entry → Bool) (line es : List Entry) → Pairwise IsBefore line → Pairwise Differ es → Across Differ es line
    → filter p (put_all line es) ≡ put_all (filter p line) (filter p es)
filter-put_all p line [] ordered apart across = refl
filter-put_all p line (e ∷ es) ordered apart across =
    filter-put_all p (put line e) es (put-Pairwise line e ordered across.0) apart.1 (put-Across es line e across.1 apart.0)
    ∙ ap (λ (l : List Entry). put_all l (filter p es)) (filter-put p line e ordered)
    ∙ by_cases (p e)
  where
    by_cases : (b : Bool) → put_all (cond b (put (filter p line) e) (filter p line)) (filter p es) ≡ put_all (filter p line) (cond b (e ∷ filter p es) (filter p es))
    by_cases true = refl
    by_cases false = refl

-- the posting line of a journal, as a test keeps it
posting_line-kept : (p : Entry → Bool) (journal : List Record) → filter p (posting_line journal) ≡ put_all [] (filter p (all_entries journal))
unfolding posting_line
posting_line-kept p journal = filter-put_all p [] (all_entries journal) tt (all_entries-Pairwise journal) (Across-nil (all_entries journal))

-- with one more record: what it takes back goes, and its movements are put among the rest
pub posting_line-step : (journal : List Record) (item : Record) → posting_line (journal ++ item ∷ []) ≡ put_all (filter (is_spared item) (posting_line journal)) (entries journal item)
unfolding posting_line
posting_line-step journal item =
    let spared = filter (is_spared item) (all_entries journal) in
    ap (put_all []) (all_entries-step journal item)
    ∙ fold-append put [] spared (entries journal item)
    ∙ ap (λ (l : List Entry). put_all l (entries journal item)) (sym (posting_line-kept (is_spared item) journal))

-- of a record of before: what is in force with further records was in force without them
was-live : (a b : Bool) → not (a || b) ≡ (not a && not (a || b))
was-live true b = refl
was-live false b = refl

pub is_live-longer : (journal more : List Record) (n : ℕ) → n ≤ length journal → is_live (journal ++ more) n ≡ (is_live journal n && is_live (journal ++ more) n)
is_live-longer journal more n old =
    let before = list_any (takes_back n) (drop n journal) in
    let after = list_any (takes_back n) more in
    let parts : is_live (journal ++ more) n ≡ not (before || after) =
    ap (λ (records : List Record). not (list_any (takes_back n) records)) (drop-append-le n journal more old)
    ∙ ap not (list_any-append (takes_back n) (drop n journal) more) in
    parts ∙ was-live before after ∙ sym (ap (λ (b : Bool). not before && b) parts)

-- with further records
pub all_entries-longer : (journal more : List Record)
    → all_entries (journal ++ more) ≡ filter (is_live_entry (journal ++ more)) (all_entries journal) ++ filter (is_live_entry (journal ++ more)) (entries_after journal more)
unfolding all_entries
all_entries-longer journal more =
    let live = is_live_entry (journal ++ more) in
    ap (filter live) (entries_after-append [] journal more)
    ∙ filter-append live (entries_after [] journal) (entries_after journal more)
    ∙ ap (λ (es : List Entry). es ++ filter live (entries_after journal more))
    (filter-parts (IsBetween 0 (length journal)) (is_live_entry journal) live live
    (λ e is. is_live-longer journal more e.place.voucher.0 is.1) (entries_after [] journal) (entries_after-between [] journal))

pub posting_line-longer : (journal more : List Record)
    → posting_line (journal ++ more) ≡ put_all (filter (is_live_entry (journal ++ more)) (posting_line journal)) (filter (is_live_entry (journal ++ more)) (entries_after journal more))
unfolding posting_line
posting_line-longer journal more =
    let live = is_live_entry (journal ++ more) in
    let new = filter live (entries_after journal more) in
    ap (put_all []) (all_entries-longer journal more)
    ∙ fold-append put [] (filter live (all_entries journal)) new
    ∙ ap (λ (l : List Entry). put_all l new) (sym (posting_line-kept live journal))
