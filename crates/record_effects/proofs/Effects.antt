-- What a record does to the posting line, once it is accepted.
use Rattle.std.proofs.Common.{◌≡◌, ◌+◌, ◌≤◌, Bool, true, false, ◌&&◌, not, List, [], ◌∷◌, ◌++◌, length, filter, None, Contains, sym, ap, ◌∙◌, subst, arith}
use Rattle.std.specs.List.{All}
use Rattle.std.proofs.lemmas.Bool.{false≢true}
use Rattle.stock_nums.specs.declared.entry.Entry.{Entry}
use Rattle.stock_nums.specs.declared.limits.TheConstants.{MAX_ENTRIES}
use Rattle.stock_nums.specs.declared.place.Place.{Place}
use Rattle.stock_model.specs.declared.records.Record.{Record}
use Rattle.stock_model.specs.Enough.{IsEnough}
use Rattle.stock_model.specs.Entries.{entries, entries_after, takes_back, is_live_entry, is_spared, all_entries}
use Rattle.stock_model.specs.Faults.{fault}
use Rattle.stock_model.specs.PostingOrder.{put_all, posting_line}
use Rattle.stock_model.proofs.Growth.{entries_after-snoc, length-posting_line}
use Rattle.stock_laws.proofs.Distinct.{Differ, entries_after-Pairwise, all_entries-Pairwise}
use Rattle.stock_laws.proofs.Enough.{IsEnough-from_none}
use Rattle.stock_laws.proofs.Legality.{NoFault-from}
use Rattle.stock_laws.proofs.LiveEntries.{IsBetween, entries_after-between, is_live-older, Each-live, Pairwise-filter}
use Rattle.stock_laws.proofs.LiveLines.{posting_line-step}
use Rattle.stock_laws.proofs.TestedSums.{All-from_Each}
use Rattle.quantity_check.specs.ChangedLines.{line_without, changed_line}
use Rattle.quantity_check.specs.OwnPlaces.{StandApart, HaveOwnPlaces}
use Rattle.quantity_check.proofs.Members.{IsIn, IsIn-filter, IsIn-filtered, Contains-IsIn, Each-own, Each-in, Each-from_in, Each-put_all, AnyOf-put_all_new}
use Rattle.quantity_check.proofs.OwnPlaceLemmas.{HaveOwnPlaces-related, HaveOwnPlaces-filter, HaveOwnPlaces-put_first}
use Rattle.quantity_check.proofs.SplitLines.{line_without-kept}
use Rattle.record_effects.specs.Effects.{is_taken_back, gone_with}

-- movements that differ stand at different places
StandApart-Differ : (a b : Entry) → Differ a b → StandApart a b
StandApart-Differ a b differ same =
    differ (ap (λ (p : Place). p.voucher.0) same) (ap (λ (p : Place). p.line) same) (ap (λ (p : Place). p.side) same)

-- the movements in force are those of the line
in_line : (journal : List Record) (e : Entry) → IsIn e (all_entries journal) → IsIn e (posting_line journal)
unfolding posting_line
in_line journal e here = AnyOf-put_all_new (λ f. f ≡ e) [] (all_entries journal) here

of_line : (journal : List Record) (e : Entry) → IsIn e (posting_line journal) → IsIn e (all_entries journal)
unfolding posting_line
of_line journal e here =
    Each-in (λ f. IsIn f (all_entries journal)) e (posting_line journal)
    (Each-put_all (λ f. IsIn f (all_entries journal)) [] (all_entries journal) tt (Each-own (all_entries journal))) here

-- a movement in force is of a record of the journal
pub in_force : (journal : List Record) (e : Entry) → IsIn e (all_entries journal) → is_live_entry journal e ≡ true
unfolding all_entries
in_force journal e here = (IsIn-filtered (is_live_entry journal) e (entries_after [] journal) here).1

-- with the record it is in force exactly where the record spares it
pub taken_back-spared : (journal : List Record) (item : Record) (e : Entry) → IsIn e (all_entries journal) → is_taken_back journal item e ≡ not (is_spared item e)
taken_back-spared journal item e here =
    let number = e.place.voucher.0 in
    let known : IsBetween 0 (length journal) e =
    Each-in (IsBetween 0 (length journal)) e (all_entries journal) (Each-live (IsBetween 0 (length journal)) journal (entries_after-between [] journal)) here in
    ap not (is_live-older journal item number known.1) ∙ ap (λ (b : Bool). not (b && not (takes_back number item))) (in_force journal e here)

-- a movement of the line that the record does not spare is among those that go
goes : (journal : List Record) (item : Record) (e : Entry) → IsIn e (posting_line journal) → is_spared item e ≡ false → IsIn e (gone_with journal item)
goes journal item e there fails =
    let here = of_line journal e there in
    IsIn-filter (is_taken_back journal item) e (all_entries journal) here (taken_back-spared journal item e here ∙ ap not fails)

-- and back
unspared : (journal : List Record) (item : Record) (e : Entry) → IsIn e (gone_with journal item) → is_spared item e ≡ false
unspared journal item e gone =
    let found = IsIn-filtered (is_taken_back journal item) e (all_entries journal) gone in
    turned (is_spared item e) (sym (taken_back-spared journal item e found.0) ∙ found.1)
  where
    turned : (b : Bool) → not b ≡ true → b ≡ false
    turned true is = cc
    turned false is = cc

-- so the line without those that go is what the record spares
line_without-gone : (journal : List Record) (item : Record) → line_without (posting_line journal) (gone_with journal item) ≡ filter (is_spared item) (posting_line journal)
line_without-gone journal item =
    line_without-kept (is_spared item) (posting_line journal) (gone_with journal item)
    (λ m there spared. Each-from_in (λ e. m.place ≡ e.place → ⊥) (gone_with journal item)
    (λ e gone same. false≢true (sym (unspared journal item e gone)
    ∙ sym (ap (λ (p : Place). not (takes_back p.voucher.0 item)) same) ∙ spared)))
    (goes journal item)

-- a line of a journal, and what comes and goes with one more record
pub record IsEffect (journal : List Record) (item : Record) (line adds gone : List Entry) : Type 0 where
  pub posted : line ≡ posting_line journal
  pub come : adds ≡ entries journal item
  pub go : gone ≡ gone_with journal item

-- the line once they came and went is that of the journal with the record
pub effect-line : (journal : List Record) (item : Record) (line adds gone : List Entry) → IsEffect journal item line adds gone
    → changed_line line adds gone ≡ posting_line (journal ++ item ∷ [])
effect-line journal item line adds gone effect =
    rw (effect.posted, effect.come, effect.go)
    (ap (λ (l : List Entry). put_all l (entries journal item)) (line_without-gone journal item) ∙ sym (posting_line-step journal item))

-- those that come have places of their own, where none of the line stands
pub effect-apart : (journal : List Record) (item : Record) (line adds gone : List Entry) → IsEffect journal item line adds gone → HaveOwnPlaces (line ++ adds)
unfolding posting_line all_entries
effect-apart journal item line adds gone effect =
    let next = journal ++ item ∷ [] in
    let made : HaveOwnPlaces (entries_after [] journal ++ entries journal item) =
    subst HaveOwnPlaces (entries_after-snoc [] journal item)
    (HaveOwnPlaces-related Differ StandApart-Differ (entries_after [] next) (entries_after-Pairwise [] next)) in
    rw (effect.posted, effect.come)
    (HaveOwnPlaces-put_first [] (all_entries journal) (entries journal item)
    (HaveOwnPlaces-filter (is_live_entry journal) (entries_after [] journal) (entries journal item) made))

-- those that go are in the line
pub effect-held : (journal : List Record) (item : Record) (line adds gone : List Entry) → IsEffect journal item line adds gone → All (Contains line) gone
effect-held journal item line adds gone effect =
    rw (effect.posted, effect.go)
    (All-from_Each (Contains (posting_line journal)) (gone_with journal item)
    (Each-from_in (Contains (posting_line journal)) (gone_with journal item)
    (λ e went. Contains-IsIn e (posting_line journal) (in_line journal e (IsIn-filtered (is_taken_back journal item) e (all_entries journal) went).0))))

-- each named once
pub effect-once : (journal : List Record) (item : Record) (line adds gone : List Entry) → IsEffect journal item line adds gone → HaveOwnPlaces gone
effect-once journal item line adds gone effect =
    rw effect.go
    (HaveOwnPlaces-related Differ StandApart-Differ (gone_with journal item)
    (Pairwise-filter Differ (is_taken_back journal item) (all_entries journal) (all_entries-Pairwise journal)))

-- they are few enough, where there is room for the record's own
pub effect-few : (journal : List Record) (item : Record) (line adds gone : List Entry) → IsEffect journal item line adds gone
    → length (all_entries journal) + length (entries journal item) ≤ MAX_ENTRIES → length line + length adds ≤ MAX_ENTRIES
effect-few journal item line adds gone effect room =
    omega (arith, room, ap length effect.posted, ap length effect.come, length-posting_line journal)

-- and where the record has no fault, there is always enough once they came and went
pub effect-enough : (journal : List Record) (item : Record) (line adds gone : List Entry) → IsEffect journal item line adds gone
    → fault journal item ≡ None → IsEnough (changed_line line adds gone)
effect-enough journal item line adds gone effect none =
    subst IsEnough (sym (effect-line journal item line adds gone effect))
    (IsEnough-from_none (posting_line (journal ++ item ∷ [])) (NoFault-from journal item none).enough)
