-- The movements of a journal, record by record.
use Rattle.std.proofs.Common.{◌≡◌, ℕ, zero, suc, ◌+◌, ◌-◌, ◌<◌, List, [], ◌∷◌, ◌++◌, length, take, drop, filter, Option, Some, refl, sym, ap, ◌∙◌, subst, add-one, arith, append_assoc}
use Rattle.std.specs.Prelude.{slice_get}
use Rattle.std.specs.List.{flat_map}
use Rattle.std.specs.Option.{option_to_list}
use Rattle.std.proofs.lemmas.List.{append-nil}
use Rattle.std.proofs.lemmas.List.Elements.{filter-append}
use Rattle.stock_nums.specs.declared.entry.Entry.{Entry}
use Rattle.stock_nums.specs.declared.moment.Moment.{Moment}
use Rattle.stock_model.specs.declared.records.Record.{Record}
use Rattle.stock_model.specs.Entries.{entries, entries_after, entries_of, is_live_entry}
use Rattle.stock_count.specs.Held.{is_until}

-- the record at an index, and what is before it and from it on
record IsAt (journal : List Record) (i : ℕ) : Type 0 where
  pub item : Record
  pub is : slice_get journal i ≡ Some item
  pub front : take (suc i) journal ≡ take i journal ++ item ∷ []
  pub rest : drop i journal ≡ item ∷ drop (suc i) journal

at : (journal : List Record) (i : ℕ) → i < length journal → IsAt journal i
at [] i h = absurd (omega (arith, h))
at (x ∷ xs) zero h = record { item = x; is = refl; front = refl; rest = refl }
at (x ∷ xs) (suc i) h =
    let next = at xs i (omega (arith, h)) in
    record { item = next.item; is = next.is; front = ap (λ (ys : List Record). x ∷ ys) next.front; rest = next.rest }

one_less : (n : ℕ) → suc n - 1 ≡ n
one_less n = omega arith

-- from an index on, the movements of the record there come first
entries_after-suc : (journal : List Record) (i : ℕ) → i < length journal
    → entries_after (take i journal) (drop i journal) ≡ entries_of journal (suc i) ++ entries_after (take (suc i) journal) (drop (suc i) journal)
entries_after-suc journal i h =
    let here = at journal i h in
    let before : take (suc i - 1) journal ≡ take i journal = rw (one_less i) refl in
    let own : entries_of journal (suc i) ≡ entries (take i journal) here.item =
    ap (λ (held : List Record). flat_map (entries held) (option_to_list (slice_get journal i))) before
    ∙ ap (λ (found : Option Record). flat_map (entries (take i journal)) (option_to_list found)) here.is ∙ append-nil (entries (take i journal) here.item) in
    ap (entries_after (take i journal)) here.rest
    ∙ ap (λ (es : List Entry). es ++ entries_after (take i journal ++ here.item ∷ []) (drop (suc i) journal)) (sym own)
    ∙ ap (λ (before : List Record). entries_of journal (suc i) ++ entries_after before (drop (suc i) journal)) (sym here.front)

entries_after-next : (journal : List Record) (i : ℕ) → i < length journal
    → entries_after (take i journal) (drop i journal) ≡ entries_of journal (i + 1) ++ entries_after (take (i + 1) journal) (drop (i + 1) journal)
entries_after-next journal i h =
    subst (λ k. entries_after (take i journal) (drop i journal) ≡ entries_of journal k ++ entries_after (take k journal) (drop k journal))
    (sym (add-one i)) (entries_after-suc journal i h)

-- those of the movements that are in force and not after the moment
abbrev pub kept : List Record → Moment → List Entry → List Entry
kept journal moment es = filter (is_until moment) (filter (is_live_entry journal) es)

-- those of one more record, and then those of the rest, are all
pub kept-next : (journal : List Record) (moment : Moment) (i : ℕ) (found next own : List Entry) → i < length journal → own ≡ entries_of journal (i + 1)
    → next ≡ found ++ kept journal moment own
    → found ++ kept journal moment (entries_after (take i journal) (drop i journal)) ≡ kept journal moment (entries_after [] journal)
    → next ++ kept journal moment (entries_after (take (i + 1) journal) (drop (i + 1) journal)) ≡ kept journal moment (entries_after [] journal)
kept-next journal moment i found next own within own_is next_is all =
    let rest = entries_after (take (i + 1) journal) (drop (i + 1) journal) in
    let parts : kept journal moment (entries_of journal (i + 1) ++ rest) ≡ kept journal moment (entries_of journal (i + 1)) ++ kept journal moment rest =
    ap (filter (is_until moment)) (filter-append (is_live_entry journal) (entries_of journal (i + 1)) rest)
    ∙ filter-append (is_until moment) (filter (is_live_entry journal) (entries_of journal (i + 1))) (filter (is_live_entry journal) rest) in
    ap (λ (es : List Entry). es ++ kept journal moment rest) (next_is ∙ ap (λ (es : List Entry). found ++ kept journal moment es) own_is)
    ∙ append_assoc found (kept journal moment (entries_of journal (i + 1))) (kept journal moment rest)
    ∙ ap (λ (es : List Entry). found ++ es) (sym (ap (kept journal moment) (entries_after-next journal i within) ∙ parts))
    ∙ all
