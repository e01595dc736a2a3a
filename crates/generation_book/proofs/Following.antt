-- What a book may become after it was noted, step by step.
use Rattle.std.proofs.Common.{◌≡◌, ◌+◌, ◌-◌, ◌≤◌, ℕ, List, [], ◌∷◌, ◌++◌, length, length-append, append-nil, sym, ap, ◌∙◌, subst, arith}
use Rattle.turn_lock.specs.declared.view.Start.{Start}
use Rattle.stock_model.specs.declared.deeds.Deed.{Deed}
use Rattle.stock_model.specs.declared.deeds.Deed.TheVariants.{Kept}
use Rattle.stock_model.specs.declared.faults.PostFault.{PostFault}
use Rattle.stock_model.specs.declared.faults.PostFault.TheVariants.{CodeTaken, CodeShape, AccountRange, UnknownItem, UnknownStore, SameStore, UnknownTarget, NotLive, Linked, LinkLater, RepeatedTarget, OverReturn, NoBasis, Frozen, Full, Short, KeeperFailed, NoMemory}
use Rattle.stock_model.specs.declared.records.Record.{Record}
use Rattle.stock_keeper.specs.Calls.{KeeperState, IsDone, HasCalled}
use Rattle.stock_keeper.specs.declared.fault.KeepFault.TheVariants as keep
use Rattle.stock_keeper.proofs.Calls.{called-none, called-same, called-once, called-more, called-refused}
use Rattle.generation_book.specs.State.{BookState}
use Rattle.generation_book.specs.Follows.{start_of, Follows}
use Rattle.generation_book.specs.Refusals.{IsAfterRefusal}

-- nothing yet
pub follows-itself : (book : BookState) → Follows (start_of book) book
follows-itself book =
    let events = length book.history in
    let none : 0 ≡ events - events = omega arith in
    record {
      longer = omega arith;
      called = subst (λ (n : ℕ). HasCalled n book.keeper.plan book.keeper.calls book.keeper) none (called-none book.keeper);
    }

-- some events more, each by a call
pub follows-on : (start : Start) (old new : BookState) (more : List Deed) → Follows start old → new.history ≡ old.history ++ more
    → HasCalled (length more) old.keeper.plan old.keeper.calls new.keeper → Follows start new
follows-on start old new more before grows called =
    let long : length new.history ≡ length old.history + length more = ap length grows ∙ length-append old.history more in
    let less : start.events ≤ length old.history = before.longer in
    let all : (length old.history - start.events) + length more ≡ length new.history - start.events = omega (arith, long, less) in
    record {
      longer = omega (arith, long, less);
      called =
          subst (λ (n : ℕ). HasCalled n start.plan start.calls new.keeper) all
          (called-more (length old.history - start.events) (length more) start.plan start.calls old.keeper new.keeper before.called called);
    }

-- what it became, and then what that became
pub follows-through : (start : Start) (mid new : BookState) → Follows start mid → Follows (start_of mid) new → Follows start new
follows-through start mid new before after =
    let gone = length new.history - length mid.history in
    let less : start.events ≤ length mid.history = before.longer in
    let more : length mid.history ≤ length new.history = after.longer in
    let all : (length mid.history - start.events) + gone ≡ length new.history - start.events = omega (arith, less, more) in
    record {
      longer = omega (arith, less, more);
      called =
          subst (λ (n : ℕ). HasCalled n start.plan start.calls new.keeper) all
          (called-more (length mid.history - start.events) gone start.plan start.calls mid.keeper new.keeper before.called after.called);
    }

-- a record was kept
pub follows-kept : (old new : BookState) (item : Record) → new.history ≡ old.history ++ Kept item ∷ [] → IsDone old.keeper new.keeper
    → Follows (start_of old) new
follows-kept old new item kept done =
    follows-on (start_of old) old new (Kept item ∷ []) (follows-itself old) kept (called-once old.keeper new.keeper done.count)

called-after : (f : PostFault) (old new : KeeperState) → IsAfterRefusal f old new → HasCalled 0 old.plan old.calls new
called-after CodeTaken old new after = called-same old new after
called-after CodeShape old new after = called-same old new after
called-after AccountRange old new after = called-same old new after
called-after (UnknownItem n) old new after = called-same old new after
called-after (UnknownStore n) old new after = called-same old new after
called-after (SameStore n) old new after = called-same old new after
called-after (UnknownTarget n) old new after = called-same old new after
called-after (NotLive target) old new after = called-same old new after
called-after (Linked by) old new after = called-same old new after
called-after (LinkLater n) old new after = called-same old new after
called-after (RepeatedTarget n) old new after = called-same old new after
called-after (OverReturn n asked left) old new after = called-same old new after
called-after NoBasis old new after = called-same old new after
called-after (Frozen until) old new after = called-same old new after
called-after (Full held entries) old new after = called-same old new after
called-after (Short place item store lacking) old new after = called-same old new after
called-after KeeperFailed old new after = called-refused keep.Failed old new after
called-after NoMemory old new after = called-refused keep.NoMemory old new after

-- or refused
pub follows-refused : (old new : BookState) (f : PostFault) → new.history ≡ old.history → IsAfterRefusal f old.keeper new.keeper
    → Follows (start_of old) new
follows-refused old new f same after =
    follows-on (start_of old) old new [] (follows-itself old) (same ∙ sym (append-nil old.history)) (called-after f old.keeper new.keeper after)
