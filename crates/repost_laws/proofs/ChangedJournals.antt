-- Further records of a journal are a change: some movements come, and some go.
use Rattle.std.proofs.Common.{◌≡◌, ℕ, ◌<◌, Bool, true, false, cond, ◌||◌, not, List, [], ◌∷◌, ◌++◌, length, filter, refl, sym, ap, ◌∙◌, arith, Contains}
use Rattle.std.proofs.lemmas.Bool.Decides.{nat_tests}
use Rattle.std.proofs.lemmas.List.Elements.{filter_agree}
use Rattle.stock_nums.specs.declared.cause.Cause.{Cause}
use Rattle.stock_nums.specs.declared.cause.Cause.TheVariants.{Receipt, Issue, TransferLeaves, TransferEnters, CustomerReturn, SupplierReturn}
use Rattle.stock_nums.specs.declared.entry.Entry.{Entry}
use Rattle.stock_model.specs.Entries.{entries_after, is_live, is_live_entry, all_entries}
use Rattle.stock_model.specs.InOrder.{IsBefore}
use Rattle.stock_model.specs.Journals.{AreLegal, AreSound}
use Rattle.stock_model.specs.LandedCost.{added}
use Rattle.stock_model.specs.PostingOrder.{put_all, posting_line}
use Rattle.stock_model.specs.declared.records.Record.{Record}
use Rattle.stock_model.proofs.Pairwise.{Each, Across, Across-from_Each, Pairwise-from_AllPairs}
use Rattle.stock_laws.proofs.Distinct.{Differ, entries_after-Pairwise}
use Rattle.stock_laws.proofs.Formulas.{put_all-Each}
use Rattle.stock_laws.proofs.Legality.{AreSound-from}
use Rattle.stock_laws.proofs.LiveEntries.{IsBetween, entries_after-between, filter-passes, filter-fails, Each-filter, Pairwise-filter, Each-live}
use Rattle.stock_laws.proofs.LiveTargets.{IsOfLive, entry-live}
use Rattle.stock_laws.proofs.LiveLines.{filter-put_all, posting_line-longer}
use Rattle.stock_laws.proofs.PostingLine.{IsInPostingOrder-posting_line}
use Rattle.repost_laws.specs.Builds.{Suspects, IsOfOldLine, IsOfKeptLine, IsChange}
use Rattle.repost_laws.specs.Changes.{goes_with, coming, both_lines, is_recharged}
use Rattle.repost_laws.specs.Touched.{is_old, is_left, is_touched_by}
use Rattle.repost_laws.specs.Valuations.{Found}
use Rattle.repost_laws.proofs.ChangedCharges.{added-change}
use Rattle.repost_laws.proofs.JournalFronts.{AreSoundAfter-first}
use Rattle.repost_laws.proofs.MoreRecords.{of_line, old-number, is_old-from, old_line, known-in_line}
use Rattle.repost_laws.proofs.Spreading.{Each-Contains, Each-passes}

-- each movement of the line has the number of one of the records
pub line-between : (journal : List Record) → Each (IsBetween 0 (length journal)) (posting_line journal)
unfolding posting_line
line-between journal =
    let between = IsBetween 0 (length journal) in
    put_all-Each between [] (all_entries journal) tt (Each-live between journal (entries_after-between [] journal))

coming-between : (journal more : List Record) → Each (IsBetween (length journal) (length (journal ++ more))) (coming journal more)
coming-between journal more =
    Each-filter (IsBetween (length journal) (length (journal ++ more))) (is_live_entry (journal ++ more)) (entries_after journal more)
    (entries_after-between journal more)

-- those that come are apart from those that were there
coming-across : (journal more : List Record) → Across Differ (coming journal more) (posting_line journal)
coming-across journal more =
    Across-from_Each Differ (IsBetween (length journal) (length (journal ++ more))) (IsBetween 0 (length journal))
    (λ a b new old same_voucher same_line same_side. omega (arith, new.0, old.1, same_voucher)) (coming journal more) (posting_line journal)
    (coming-between journal more) (line-between journal)

-- those of both lines that pass a test
both-kept : (p : Entry → Bool) (journal more : List Record)
    → filter p (both_lines journal more) ≡ put_all (filter p (posting_line journal)) (filter p (coming journal more))
both-kept p journal more =
    filter-put_all p (posting_line journal) (coming journal more)
    (Pairwise-from_AllPairs IsBefore (posting_line journal) (IsInPostingOrder-posting_line journal))
    (Pairwise-filter Differ (is_live_entry (journal ++ more)) (entries_after journal more) (entries_after-Pairwise journal more))
    (coming-across journal more)

new-from : (n : ℕ) (e : Entry) → n < e.place.voucher.0 → is_old n e ≡ false
new-from n e more = grind (arith, nat_tests)

-- without those that come they are those that were there
pub both-old : (journal more : List Record) → filter (is_old (length journal)) (both_lines journal more) ≡ posting_line journal
both-old journal more =
    let n = length journal in
    let line = posting_line journal in
    let own : filter (is_old n) line ≡ line =
    filter-passes (IsBetween 0 n) (is_old n) (λ e is. is_old-from n e is.1) line (line-between journal) in
    let none : filter (is_old n) (coming journal more) ≡ [] =
    filter-fails (IsBetween n (length (journal ++ more))) (is_old n) (λ e is. new-from n e is.0) (coming journal more) (coming-between journal more) in
    both-kept (is_old n) journal more
    ∙ ap (λ (l : List Entry). put_all l (filter (is_old n) (coming journal more))) own
    ∙ ap (put_all line) none

not_not : (b : Bool) → not (not b) ≡ b
not_not true = refl
not_not false = refl

-- and without those that go, those that are there now
pub both-left : (journal more : List Record) → filter (is_left (goes_with journal more)) (both_lines journal more) ≡ posting_line (journal ++ more)
both-left journal more =
    let live = is_live_entry (journal ++ more) in
    let again : filter live (coming journal more) ≡ coming journal more =
    filter-passes (λ e. live e ≡ true) live (λ e passes. passes) (coming journal more) (Each-passes live (entries_after journal more)) in
    filter_agree (is_left (goes_with journal more)) live (λ e. not_not (is_live (journal ++ more) e.place.voucher.0)) (both_lines journal more)
    ∙ both-kept live journal more
    ∙ ap (put_all (filter live (posting_line journal))) again
    ∙ sym (posting_line-longer journal more)

-- the movements in the line are in force
all-live : (journal : List Record) (es : List Entry) → Each (λ e. is_live_entry journal e ≡ true) (filter (is_live_entry journal) es)
all-live journal [] = tt
all-live journal (e ∷ es) =
    let step : (b : Bool) → is_live_entry journal e ≡ b → Each (λ f. is_live_entry journal f ≡ true) (cond b (e ∷ filter (is_live_entry journal) es) (filter (is_live_entry journal) es)) =
    λ b. elim b as (λ v. is_live_entry journal e ≡ v → Each (λ f. is_live_entry journal f ≡ true) (cond v (e ∷ filter (is_live_entry journal) es) (filter (is_live_entry journal) es))) [
      | true ↦ λ is. (is, all-live journal es)
      | false ↦ λ is. all-live journal es
    ] in
    step (is_live_entry journal e) refl

in_line-live : (journal : List Record) (e : Entry) → Contains (posting_line journal) e → is_live_entry journal e ≡ true
unfolding all_entries
in_line-live journal e held =
    Each-Contains (λ f. is_live_entry journal f ≡ true) (all_entries journal) e (all-live journal (entries_after [] journal)) (of_line journal e held)

-- what an old movement returns is of an old line that stays
kept_line : (n : ℕ) (journal more : List Record) (cause : Cause) → IsOfOldLine n cause → IsOfLive (journal ++ more) cause
    → IsOfKeptLine n (goes_with journal more) cause
kept_line n journal more (Receipt amount) old live = tt
kept_line n journal more (Issue sold) old live = tt
kept_line n journal more TransferLeaves old live = tt
kept_line n journal more TransferEnters old live = tt
kept_line n journal more (CustomerReturn target issued) old live = (old, ap not live)
kept_line n journal more (SupplierReturn target amount received) old live = tt

pub IsChange-more : (journal more : List Record) (found : Found) (suspects new_suspects : Suspects) → AreLegal (journal ++ more)
    → ((e : Entry) → Contains (posting_line (journal ++ more)) e → new_suspects e.place
    ≡ (suspects e.place || is_touched_by (length journal) (goes_with journal more) (is_recharged journal more) (both_lines journal more) e))
    → IsChange (length journal) (goes_with journal more) (is_recharged journal more) (both_lines journal more) (added journal)
    (posting_line journal) found suspects (added (journal ++ more)) (posting_line (journal ++ more)) found new_suspects
IsChange-more journal more found suspects new_suspects legal marked =
    let n = length journal in
    let all = journal ++ more in
    let all_sound = AreSound-from all legal in
    let sound : AreSound journal = AreSoundAfter-first [] journal more all_sound in
    record {
      old = both-old journal more;
      left = both-left journal more;
      returned = λ e held is. kept_line n journal more e.cause
          (old_line all n e e.cause (known-in_line all e all_sound held).target (old-number n e is))
          (entry-live all e all_sound (known-in_line all e all_sound held) (in_line-live all e held));
      others = λ target none. added-change journal more target sound none;
      found_stays = λ e held. refl;
      marked = marked;
    }
