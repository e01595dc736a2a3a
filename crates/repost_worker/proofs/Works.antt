-- What a turn starts from, once no suspect was found, and what a fetch and a publication leave.
use Rattle.std.proofs.Common.{◌≡◌, ℕ, ◌+◌, ◌*◌, ◌≤◌, ◌||◌, List, [], ◌∷◌, ◌++◌, length, take, drop, sym, ap, ◌∙◌, subst, append-nil, length-append, arith}
use Rattle.std.proofs.lemmas.List.{take-append-le}
use Rattle.stock_nums.specs.declared.numbers.RecordNo.{RecordNo}
use Rattle.stock_model.specs.History.{records, covered}
use Rattle.stock_model.specs.PostingOrder.{posting_line}
use Rattle.stock_model.specs.declared.deeds.Deed.{Deed}
use Rattle.stock_model.specs.declared.deeds.Deed.TheVariants as deed
use Rattle.stock_model.specs.declared.records.Record.{Record}
use Rattle.stock_laws.proofs.Histories.{records-append, covered_after-append}
use Rattle.repost_frontier.specs.Readings.{found_of, suspects_of, revalued_of}
use Rattle.repost_frontier.specs.declared.slot.Slot.{Slot}
use Rattle.repost_laws.specs.Builds.{IsClean}
use Rattle.repost_laws.specs.WholeBuilds.{made}
use Rattle.repost_build.specs.Builds.{IsOf}
use Rattle.repost_build.specs.Readings.{suspects_in, target_of, fetches_of, turns_of, IsUnchanged}
use Rattle.repost_build.specs.declared.build.Build.{Build}
use Rattle.repost_worker.specs.Turns.{records_of, IsWorkOf, IsCleanOf, CanFetch, CanPublish, is_touched_since, IsFetched, IsPublished}

-- a new build can work on a book that covers nothing
pub work-start : (history : List Deed) (build : Build) → IsOf [] build → covered history ≡ 0 → IsWorkOf history build
work-start history build of none =
    record {
      of = subst (λ (n : ℕ). IsOf (take n (records history)) build) (sym of.target) of;
      within = omega (arith, of.target);
      base = omega (arith, of.target, of.fetched, none);
      fetches = omega (arith, of.target, of.fetched);
    }

-- and goes on where a record is accepted
pub work-kept : (history : List Deed) (build : Build) (item : Record) → IsWorkOf history build
    → IsWorkOf (history ++ deed.Kept item ∷ []) build
work-kept history build item work =
    let more = records-append history (deed.Kept item ∷ []) in
    record {
      of = subst (λ (rs : List Record). IsOf rs build)
          (sym (ap (take (target_of build)) more ∙ take-append-le (target_of build) (records history) (item ∷ []) work.within)) work.of;
      within = omega (arith, work.within, ap length more, length-append (records history) (item ∷ []));
      base = work.base ∙ sym (covered_after-append 0 history (deed.Kept item ∷ []));
      fetches = work.fetches;
    }

-- a turn that found no suspect changed nothing
module _ (history : List Deed) (old mid : Build) (same : IsUnchanged old mid) where
  pub work-still : IsWorkOf history old → IsOf (records_of history old) mid → IsWorkOf history mid
  work-still work of = record {
    of = subst (λ (n : ℕ). IsOf (take n (records history)) mid) (sym same.target) of;
    within = omega (arith, work.within, same.target);
    base = same.base ∙ work.base;
    fetches = omega (arith, work.fetches, same.fetches);
  }

  pub clean-still : IsCleanOf history old → IsCleanOf history mid
  clean-still clean =
      subst (λ (n : ℕ). IsClean (posting_line (take n (records history))) (suspects_in mid)) (sym same.target)
      (subst (λ (slots : List Slot). IsClean (posting_line (records_of history old)) (suspects_of slots)) (sym same.slots) clean)

  pub clean-before : IsCleanOf history mid → IsCleanOf history old
  clean-before clean =
      subst (λ (n : ℕ). IsClean (posting_line (take n (records history))) (suspects_in old)) same.target
      (subst (λ (slots : List Slot). IsClean (posting_line (records_of history mid)) (suspects_of slots)) same.slots clean)

  pub can_fetch-still : CanFetch history mid → CanFetch history old
  can_fetch-still can = (omega (arith, can.0, same.target), omega (arith, can.1, same.fetches))

  pub can_fetch-then : CanFetch history old → CanFetch history mid
  can_fetch-then can = (omega (arith, can.0, same.target), omega (arith, can.1, same.fetches))

  pub can_publish-still : CanPublish history old → CanPublish history mid
  can_publish-still can = (clean-still can.0, (λ fetch. can.1 (can_fetch-still fetch)), omega (arith, can.2, same.target))

  pub fetched-still : (new : Build) → IsFetched history mid new → IsFetched history old new
  fetched-still new fetched = record {
    target = fetched.target;
    touched = λ e held.
        subst (λ (slots : List Slot). suspects_in new e.place ≡ (suspects_of slots e.place || is_touched_since (records history) (target_of old) e))
        same.slots
        (subst (λ (n : ℕ). suspects_in new e.place ≡ (suspects_in mid e.place || is_touched_since (records history) n e)) same.target
        (fetched.touched e held));
    found = λ e held. fetched.found e held ∙ ap (λ (slots : List Slot). found_of slots e.place) same.slots;
    valued = λ e held. fetched.valued e held ∙ ap (λ (slots : List Slot). revalued_of slots e.place) same.slots;
    base = fetched.base ∙ same.base;
    fetches = omega (arith, fetched.fetches, same.fetches);
    turns = omega (arith, fetched.turns, same.turns);
  }

  pub published-still : (new : Build) → IsPublished mid new → IsPublished old new
  published-still new published = record {
    base = published.base ∙ same.target;
    target = published.target ∙ same.target;
    fetches = published.fetches;
    turns = published.turns;
    found = λ place. published.found place ∙ ap (λ (slots : List Slot). found_of slots place) same.slots;
    suspects = λ place. published.suspects place ∙ ap (λ (slots : List Slot). suspects_of slots place) same.slots;
    valued = published.valued;
  }

-- without a fetch there was no turn
pub turns-none : (journal : List Record) (build : Build) → IsOf journal build → fetches_of build ≡ 0 → turns_of build ≡ 0
turns-none journal build of none =
    let bound = subst (λ (f : ℕ). turns_of build ≤ f * (made journal + 1)) none of.built.counted.few.bound in
    omega (arith, bound)

-- a build that is of no more than is covered made none since that was published
pub turns-at_rest : (history : List Deed) (build : Build) → IsWorkOf history build → target_of build ≡ covered history → turns_of build ≡ 0
turns-at_rest history build work same =
    turns-none (records_of history build) build work.of (omega (arith, work.of.fetched, work.base, same))

-- after a publication there are the same records, of which so many are covered
pub records-published : (history : List Deed) (n : RecordNo) → records (history ++ deed.Published n ∷ []) ≡ records history
records-published history n = records-append history (deed.Published n ∷ []) ∙ append-nil (records history)

pub covered-published : (history : List Deed) (n : RecordNo) → covered (history ++ deed.Published n ∷ []) ≡ n.0
covered-published history n = covered_after-append 0 history (deed.Published n ∷ [])

pub work-published : (history : List Deed) (n : RecordNo) (old new : Build) → IsWorkOf history old → n.0 ≡ target_of old
    → IsPublished old new → IsOf (records_of history old) new → IsWorkOf (history ++ deed.Published n ∷ []) new
work-published history n old new work all published of =
    let same = records-published history n in
    record {
      of = subst (λ (rs : List Record). IsOf (take (target_of new) rs) new) (sym same)
          (subst (λ (m : ℕ). IsOf (take m (records history)) new) (sym published.target) of);
      within = omega (arith, ap length same, published.target, work.within);
      base = published.base ∙ sym all ∙ sym (covered-published history n);
      fetches = omega (arith, published.fetches);
    }
