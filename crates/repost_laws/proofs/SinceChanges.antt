-- What was not valued since the last publication is what was published, where movements come and go.
use Rattle.std.proofs.Common.{◌≡◌, ℕ, ◌≤◌, Bool, true, false, not, List, [], ◌∷◌, ◌++◌, length, filter, Option, inl, inr, refl, sym, ap, ◌∙◌, subst, arith, Contains}
use Rattle.std.specs.Option.{option_map_or}
use Rattle.std.proofs.lemmas.Bool.{false≢true}
use Rattle.std.proofs.lemmas.Bool.Decides.{nat_tests}
use Rattle.stock_nums.specs.declared.cause.Target.{Target}
use Rattle.stock_nums.specs.declared.entry.Entry.{Entry}
use Rattle.stock_nums.specs.declared.entry.Row.{Row}
use Rattle.stock_nums.specs.declared.place.Place.{Place}
use Rattle.stock_model.specs.Journals.{AreLegal}
use Rattle.stock_model.specs.LandedCost.{added}
use Rattle.stock_model.specs.PostingOrder.{posting_line}
use Rattle.stock_model.specs.Replay.{replay}
use Rattle.stock_model.specs.declared.records.Record.{Record}
use Rattle.stock_model.proofs.Pairwise.{Contains-first, Contains-later}
use Rattle.stock_laws.proofs.Legality.{AreSound-from}
use Rattle.repost_laws.specs.Builds.{Suspects, IsBuilt, IsClean, IsChange, IsTurn, ValuedSince, IsValuedAt, IsSince, is_as_published, is_row_left}
use Rattle.repost_laws.specs.Changes.{goes_with, both_lines}
use Rattle.repost_laws.specs.Touched.{is_new, is_old, is_left, is_touched_by}
use Rattle.repost_laws.specs.Valuations.{Valued, Found, no_worth, worth_of, found_row, found_rows}
use Rattle.repost_laws.proofs.ChangedJournals.{both-old, both-left}
use Rattle.repost_laws.proofs.Filtered.{or_false, filter-swap, Contains-filter, Contains-filtered}
use Rattle.repost_laws.proofs.FoundRows.{filter-map}
use Rattle.repost_laws.proofs.LocalRows.{found_rows-replay}
use Rattle.repost_laws.proofs.MoreRecords.{in_line-old}
use Rattle.repost_laws.proofs.SincePublished.{is_as_published_at, filter-implied}
use Rattle.repost_laws.proofs.Turns.{place-cases, false-from}

-- right after a publication
pub IsSince-start : (journal : List Record) (found : Found) (suspects : Suspects) (valued : ValuedSince) → AreLegal journal
    → ((place : Place) → valued place ≡ false) → IsSince (length journal) found (posting_line journal) found suspects valued
IsSince-start journal found suspects valued legal none =
    record {
      kept = λ e held old is. refl;
      later = λ e held is clear. absurd (false≢true (ap not (sym is) ∙ in_line-old journal e (AreSound-from journal legal) held));
    }

older : (n m : ℕ) (e : Entry) → n ≤ m → is_old n e ≡ true → is_old m e ≡ true
older n m e more is = grind (arith, nat_tests)

-- a movement that is there now, and of an old record, was there
pub was-there : (m : ℕ) (gone : ℕ → Bool) (both line new_line : List Entry) (e : Entry) → filter (is_old m) both ≡ line
    → filter (is_left gone) both ≡ new_line → Contains new_line e → is_old m e ≡ true → Contains line e
was-there m gone both line new_line e old left held is =
    subst (λ (es : List Entry). Contains es e) old
    (Contains-filter (is_old m) both e (Contains-filtered (is_left gone) both e (subst (λ (es : List Entry). Contains es e) (sym left) held)).0 is)

-- after a change
pub IsSince-change : (n m : ℕ) (published : Found) (gone : ℕ → Bool) (is_charged : Target → Bool) (both : List Entry) (charged : Target → ℕ)
    (line : List Entry) (found : Found) (suspects : Suspects) (new_charged : Target → ℕ) (new_line : List Entry)
    (new_found : Found) (new_suspects : Suspects) (valued : ValuedSince) → n ≤ m
    → IsChange m gone is_charged both charged line found suspects new_charged new_line new_found new_suspects
    → IsSince n published line found suspects valued → IsSince n published new_line new_found new_suspects valued
IsSince-change n m published gone is_charged both charged line found suspects new_charged new_line new_found new_suspects valued within change since =
    record {
      kept = λ e held old is.
          change.found_stays e held
          ∙ since.kept e (was-there m gone both line new_line e change.old change.left held (older n m e within old)) old is;
      later = λ e held is clear.
          let touched = or_false (suspects e.place) (is_touched_by m gone is_charged both e) (sym (change.marked e held) ∙ clear) in
          let own = or_false (is_new m e) _ touched.1 in
          since.later e (was-there m gone both line new_line e change.old change.left held (ap not own.0)) is touched.0;
    }

-- after a turn
pub IsSince-turn : (n : ℕ) (published : Found) (charged : Target → ℕ) (line : List Entry) (found : Found)
    (suspects : Suspects) (e : Entry) (new_found : Found) (new_suspects : Suspects)
    (valued new_valued : ValuedSince) → IsTurn charged line found suspects e new_found new_suspects
    → IsValuedAt valued new_valued e.place
    → IsSince n published line found suspects valued → IsSince n published line new_found new_suspects new_valued
IsSince-turn n published charged line found suspects e new_found new_suspects valued new_valued turn at since =
    record {
      kept = λ f held old is. elim (place-cases f.place e.place) [
        | inl same ↦ absurd (false≢true (sym is ∙ ap new_valued same ∙ at.own))
        | inr other ↦ turn.valued.others f.place other ∙ since.kept f held old (sym (at.others f.place other) ∙ is)
      ];
      later = λ f held is clear. elim (place-cases f.place e.place) [
        | inl same ↦ ap new_valued same ∙ at.own
        | inr other ↦
            let free : suspects f.place ≡ false = false-from (suspects f.place)
            (λ suspect. false≢true (sym clear ∙ (turn.marked f held).1 (inl (suspect, other)))) in
            at.others f.place other ∙ since.later f held is free
      ];
    }

-- the rows of movements of which the same is found
found_rows-alike : (published found : Found) (es : List Entry) → ((e : Entry) → Contains es e → found e.place ≡ published e.place)
    → found_rows found es ≡ found_rows published es
found_rows-alike published found [] same = refl
found_rows-alike published found (e ∷ es) same =
    ap (λ (v : Option Valued). record { entry = e; worth = option_map_or worth_of v no_worth } ∷ found_rows found es) (same e (Contains-first e es))
    ∙ ap (λ (rows : List Row). found_row published e ∷ rows) (found_rows-alike published found es (λ f held. same f (Contains-later e es f held)))

-- the rows that were not valued since are those that were published, but of movements that go
rows-left : (n : ℕ) (gone : ℕ → Bool) (published : Found) (both line new_line : List Entry) (found : Found) (suspects : Suspects)
    (valued : ValuedSince) → filter (is_old n) both ≡ line → filter (is_left gone) both ≡ new_line → IsClean new_line suspects
    → IsSince n published new_line found suspects valued
    → filter (is_as_published valued) (found_rows found new_line) ≡ filter (is_as_published valued) (filter (is_row_left gone) (found_rows published line))
rows-left n gone published both line new_line found suspects valued old left clean since =
    let unvalued = is_as_published_at valued in
    let is_old_one : (e : Entry) → Contains new_line e → unvalued e ≡ true → is_old n e ≡ true =
    λ e held passes. ap not (false-from (is_new n e) (λ is. false≢true (ap not (sym (since.later e held is (clean e held))) ∙ passes))) in
    let old_ones : filter unvalued (filter (is_left gone) line) ≡ filter unvalued new_line =
    ap (λ (es : List Entry). filter unvalued (filter (is_left gone) es)) (sym old)
    ∙ ap (filter unvalued) (filter-swap (is_left gone) (is_old n) both ∙ ap (filter (is_old n)) left)
    ∙ filter-implied unvalued (is_old n) new_line is_old_one in
    let same : (e : Entry) → Contains (filter unvalued new_line) e → found e.place ≡ published e.place =
    λ e held.
    let parts = Contains-filtered unvalued new_line e held in
    since.kept e parts.0 (is_old_one e parts.0 parts.1) (false-from (valued e.place) (λ is. false≢true (ap not (sym is) ∙ parts.1))) in
    filter-map (found_row found) (is_as_published valued) new_line
    ∙ found_rows-alike published found (filter unvalued new_line) same
    ∙ ap (found_rows published) (sym old_ones)
    ∙ sym (filter-map (found_row published) (is_as_published valued) (filter (is_left gone) line))
    ∙ ap (filter (is_as_published valued)) (sym (filter-map (found_row published) (is_row_left gone) line))

pub replay-changed : (journal more : List Record) (published found : Found) (suspects first_suspects : Suspects)
    (valued : ValuedSince) → AreLegal journal → AreLegal (journal ++ more)
    → IsBuilt (added journal) (posting_line journal) published first_suspects
    → IsClean (posting_line journal) first_suspects
    → IsBuilt (added (journal ++ more)) (posting_line (journal ++ more)) found suspects
    → IsClean (posting_line (journal ++ more)) suspects
    → IsSince (length journal) published (posting_line (journal ++ more)) found suspects valued
    → filter (is_as_published valued) (replay (journal ++ more))
    ≡ filter (is_as_published valued) (filter (is_row_left (goes_with journal more)) (replay journal))
replay-changed journal more published found suspects first_suspects valued legal all_legal was_built was_clean built clean since =
    let all = journal ++ more in
    let gone = goes_with journal more in
    ap (filter (is_as_published valued)) (sym (found_rows-replay all found all_legal (λ e held. built e held (clean e held))))
    ∙ rows-left (length journal) gone published (both_lines journal more) (posting_line journal) (posting_line all) found suspects valued
    (both-old journal more) (both-left journal more) clean since
    ∙ ap (λ (rows : List Row). filter (is_as_published valued) (filter (is_row_left gone) rows)) (found_rows-replay journal published legal
    (λ e held. was_built e held (was_clean e held)))
