-- What one more record, or fewer of them, does to the movements, the posting line and the rows of a journal.
use Rattle.std.proofs.Common.{◌≡◌, ◌+◌, true, false, cond, List, [], ◌∷◌, ◌++◌, length, sym, ap, ◌∙◌, append_assoc, arith}
use Rattle.std.proofs.lemmas.List.{append-nil}
use Rattle.stock_nums.specs.Places.{is_before}
use Rattle.stock_nums.specs.declared.entry.Entry.{Entry}
use Rattle.stock_model.specs.declared.records.Record.{Record}
use Rattle.stock_model.specs.Entries.{entries, entries_after, all_entries}
use Rattle.stock_model.specs.PostingOrder.{put, put_all, posting_line}

-- the movements of further records, and then of others after these
pub entries_after-append : (done xs ys : List Record) → entries_after done (xs ++ ys) ≡ entries_after done xs ++ entries_after (done ++ xs) ys
entries_after-append done [] ys = ap (λ (J : List Record). entries_after J ys) (sym (append-nil done))
entries_after-append done (x ∷ xs) ys =
    ap (λ (es : List Entry). entries done x ++ es)
    (entries_after-append (done ++ x ∷ []) xs ys ∙ ap (λ (J : List Record). entries_after (done ++ x ∷ []) xs ++ entries_after J ys) (append_assoc done (x ∷ []) xs))
    ∙ sym (append_assoc (entries done x) (entries_after (done ++ x ∷ []) xs) (entries_after (done ++ x ∷ xs) ys))

-- one more record at the end adds its movements at the end
pub entries_after-snoc : (journal records : List Record) (item : Record) → entries_after journal (records ++ item ∷ []) ≡ entries_after journal records ++ entries (journal ++ records) item
entries_after-snoc journal records item =
    entries_after-append journal records (item ∷ []) ∙ ap (λ (es : List Entry). entries_after journal records ++ es) (append-nil (entries (journal ++ records) item))

-- one more movement makes the line one longer
pub length-put : (line : List Entry) (e : Entry) → length (put line e) ≡ length line + 1
length-put [] e = omega arith
length-put (f ∷ fs) e =
    elim (is_before e.place f.place) as (λ b. length (cond b (e ∷ f ∷ fs) (f ∷ put fs e)) ≡ length (f ∷ fs) + 1) [ true ↦ omega arith | false ↦ omega (arith, length-put fs e) ]

pub length-put_all : (line es : List Entry) → length (put_all line es) ≡ length line + length es
length-put_all line [] = omega arith
length-put_all line (e ∷ es) = omega (arith, length-put_all (put line e) es, length-put line e)

-- the posting line has as many movements as the journal
pub length-posting_line : (journal : List Record) → length (posting_line journal) ≡ length (all_entries journal)
unfolding posting_line
length-posting_line journal = omega (arith, length-put_all [] (all_entries journal))
