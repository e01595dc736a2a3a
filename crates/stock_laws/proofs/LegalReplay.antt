-- The replay of a legal journal is bounded, and each of its movements can be valued from those before it.
use Rattle.std.proofs.Common.{◌≡◌, ℕ, suc, ◌+◌, ◌<◌, List, [], ◌∷◌, ◌++◌, length, get_or, take, drop, sym, ap, ◌∙◌, subst, add-one, arith}
use Rattle.std.proofs.lemmas.List.{take-append-drop}
use Rattle.std.proofs.lemmas.List.Sums.{fold-append}
use Rattle.std.proofs.Math.Seq.{drop-cons, take-suc}
use Rattle.stock_nums.specs.declared.entry.Entry.{Entry}
use Rattle.stock_model.specs.declared.records.Record.{Record}
use Rattle.stock_model.specs.Bounds.{AreBounded}
use Rattle.stock_model.specs.Journals.{AreLegal}
use Rattle.stock_model.specs.PostingOrder.{posting_line}
use Rattle.stock_model.specs.Replay.{valued, value_next, rows_of, replay}
use Rattle.stock_laws.proofs.Formulas.{posting_line-formula}
use Rattle.stock_model.proofs.Growth.{length-posting_line}
use Rattle.stock_laws.proofs.Legality.{IsHeld-legal}
use Rattle.stock_laws.proofs.LinkedJournals.{AreLinked-posting_line}
use Rattle.stock_laws.proofs.Received.{charges-le}
use Rattle.stock_laws.proofs.Valuation.{IsLegalLine, AreBounded-take_line, AreBounded-rows_of, CanBeValued, CanBeValued-at}

-- the posting line of a legal journal can be valued
pub IsLegalLine-journal : (journal : List Record) → AreLegal journal → IsLegalLine (posting_line-formula journal).0 journal (posting_line journal)
IsLegalLine-journal journal legal =
    let held = IsHeld-legal journal legal in
    record {
      few = omega (arith, length-posting_line journal, held.few);
      affordable = omega (arith, charges-le journal, held.records);
      formulas = (posting_line-formula journal).1;
      enough = held.enough;
      linked = AreLinked-posting_line journal legal;
    }

pub AreBounded-replay : (journal : List Record) → AreLegal journal → AreBounded (replay journal)
unfolding replay
AreBounded-replay journal legal =
    AreBounded-rows_of (posting_line-formula journal).0 journal (posting_line journal) (IsLegalLine-journal journal legal)

-- the rows of the first movements are bounded too
pub AreBounded-first_rows : (journal : List Record) (n : ℕ) → AreLegal journal → AreBounded (rows_of journal (take n (posting_line journal)))
AreBounded-first_rows journal n legal =
    AreBounded-take_line (posting_line-formula journal).0 journal (posting_line journal) n (IsLegalLine-journal journal legal)

-- a movement that stands between earlier and later ones can be valued from the earlier ones
pub CanBeValued-split : (journal : List Record) (past : List Entry) (e : Entry) (rest : List Entry) → AreLegal journal → past ++ e ∷ rest ≡ posting_line journal → CanBeValued journal (rows_of journal past) e
CanBeValued-split journal past e rest legal parts =
    CanBeValued-at (posting_line-formula journal).0 journal past e rest
    (subst (IsLegalLine (posting_line-formula journal).0 journal) (sym parts) (IsLegalLine-journal journal legal))

-- the movement at an index parts the line
split-at : (line : List Entry) (i : ℕ) (e : Entry) → i < length line → e ≡ get_or line i e → take i line ++ e ∷ drop (suc i) line ≡ line
split-at line i e within is =
    ap (λ (es : List Entry). take i line ++ es) (ap (λ (f : Entry). f ∷ drop (suc i) line) is ∙ sym (drop-cons line i e within)) ∙ take-append-drop i line

pub CanBeValued-index : (journal : List Record) (line : List Entry) (i : ℕ) (e : Entry) → AreLegal journal → line ≡ posting_line journal → i < length line → e ≡ get_or line i e
    → CanBeValued journal (rows_of journal (take i line)) e
CanBeValued-index journal line i e legal same within is =
    CanBeValued-split journal (take i line) e (drop (suc i) line) legal (split-at line i e within is ∙ same)

-- the rows of the first movements and of one more
pub rows_of-more : (journal : List Record) (line : List Entry) (i : ℕ) (e : Entry) → i < length line → e ≡ get_or line i e
    → rows_of journal (take (i + 1) line) ≡ rows_of journal (take i line) ++ valued journal (rows_of journal (take i line)) e ∷ []
rows_of-more journal line i e within is =
    let more : take (i + 1) line ≡ take i line ++ e ∷ [] =
    rw add-one (take-suc line i e within ∙ ap (λ (f : Entry). take i line ++ f ∷ []) (sym is)) in
    ap (rows_of journal) more ∙ fold-append (value_next journal) [] (take i line) (e ∷ [])
