-- Which calls of the keeper an answer tells.
use Rattle.std.proofs.Common.{◌≡◌, ℕ, ◌≤◌, List, [], ◌∷◌, ◌++◌, Option, None, Some, Result, Ok, Err, IfOk, IfSome, OnErr, inl, refl, sym, ◌∙◌, subst, append-nil, arith}
use Rattle.stock_nums.specs.declared.memory.NoMemory as memory
use Rattle.stock_nums.specs.declared.numbers.RecordNo.{RecordNo}
use Rattle.stock_model.specs.declared.answers.Answer.{Answer}
use Rattle.stock_model.specs.declared.answers.Answer.TheVariants.{Told}
use Rattle.stock_model.specs.declared.deeds.Deed.TheVariants.{Kept}
use Rattle.stock_model.specs.declared.faults.PostFault.{PostFault}
use Rattle.stock_model.specs.declared.faults.PostFault.TheVariants.{CodeTaken, CodeShape, AccountRange, UnknownItem, UnknownStore, SameStore, UnknownTarget, NotLive, Linked, LinkLater, RepeatedTarget, OverReturn, NoBasis, Frozen, Full, Short, KeeperFailed, NoMemory}
use Rattle.stock_model.specs.declared.records.Record.{Record}
use Rattle.stock_model.specs.declared.replies.Reply.{Reply}
use Rattle.stock_model.specs.declared.replies.Reply.TheVariants.{Accepted, Worked, Settled, StoreFailed}
use Rattle.stock_model.specs.declared.requests.Request.TheVariants.{Work, Settle}
use Rattle.stock_model.specs.PostReplies.{refusal}
use Rattle.stock_keeper.proofs.Calls.{wanting-failed}
use Rattle.stock_keeper.specs.Calls.{KeeperState, IsDone, IsRefused}
use Rattle.stock_keeper.specs.declared.fault.KeepFault.{KeepFault}
use Rattle.stock_keeper.specs.declared.fault.KeepFault.TheVariants as keep_fault
use Rattle.generation_book.specs.Refusals.{IsAfterRefusal}
use Rattle.repost_worker.specs.Paces.{Pace, IsInPace, WorksInPace, StopsInPace}
use Rattle.repost_worker.specs.Published.{Publishes}
use Rattle.book_answers.specs.Answers.{HasText}
use Rattle.stock_batch.specs.Paces.{KeepsPace, IsLastCall, CallsKeeper, IsStopped, IsAfterTurns}

-- none was made
pub calls-none : (old : Pace) (answer : Answer) → IsLastCall answer old.keeper old.keeper → CallsKeeper old answer old
calls-none old answer last =
    record { more = []; grows = sym (append-nil old.history); between = old.keeper; done = refl; last = last }

pub stopped-none : (old : Pace) → IsStopped old old
stopped-none old =
    record { more = []; publications = tt; grows = sym (append-nil old.history); between = old.keeper; done = refl; last = inl refl }

-- one was made for a record that was accepted
pub calls-accepted : (old new : Pace) (item : Record) (n : RecordNo) → new.history ≡ old.history ++ Kept item ∷ []
    → IsDone old.keeper new.keeper → CallsKeeper old (Told (Accepted n) []) new
calls-accepted old new item n kept done =
    record { more = Kept item ∷ []; grows = kept; between = new.keeper; done = (new.keeper, done, refl); last = refl }

-- what a refusal leaves of the keeper is the last call
last-refused : (journal : List Record) (f : PostFault) (old new : KeeperState) → IsAfterRefusal f old new → HasText (refusal journal f)
    → IsLastCall (refusal journal f) old new
last-refused journal CodeTaken old new after told = after
last-refused journal CodeShape old new after told = after
last-refused journal AccountRange old new after told = after
last-refused journal (UnknownItem n) old new after told = after
last-refused journal (UnknownStore n) old new after told = after
last-refused journal (SameStore n) old new after told = after
last-refused journal (UnknownTarget n) old new after told = after
last-refused journal (NotLive target) old new after told = after
last-refused journal (Linked by) old new after told = after
last-refused journal (LinkLater n) old new after told = after
last-refused journal (RepeatedTarget n) old new after told = after
last-refused journal (OverReturn n asked left) old new after told = after
last-refused journal NoBasis old new after told = after
last-refused journal (Frozen until) old new after told = after
last-refused journal (Full held entries) old new after told = after
last-refused journal (Short place item store lacking) old new after told = after
last-refused journal KeeperFailed old new after told = after
last-refused journal NoMemory old new after told = absurd told

pub calls-refused : (r : Result Answer memory.NoMemory) (old new : Pace) (journal : List Record) (f : PostFault) → new.history ≡ old.history
    → IsAfterRefusal f old.keeper new.keeper → IfOk r (λ answer. answer ≡ refusal journal f) → IfOk r HasText
    → IfOk r (λ answer. CallsKeeper old answer new)
calls-refused (Err e) old new journal f same after is told = tt
calls-refused (Ok answer) old new journal f same after is told =
    record {
      more = [];
      grows = same ∙ sym (append-nil old.history);
      between = old.keeper;
      done = refl;
      last =
          subst (λ (a : Answer). IsLastCall a old.keeper new.keeper) (sym is)
          (last-refused journal f old.keeper new.keeper after (subst HasText is told));
    }

-- where memory was wanting for the answer too, it was refused for that
wanting-refused : (f : PostFault) (old new : KeeperState) → IsAfterRefusal f old new → IsRefused keep_fault.NoMemory old new
wanting-refused CodeTaken old new after = inl after
wanting-refused CodeShape old new after = inl after
wanting-refused AccountRange old new after = inl after
wanting-refused (UnknownItem n) old new after = inl after
wanting-refused (UnknownStore n) old new after = inl after
wanting-refused (SameStore n) old new after = inl after
wanting-refused (UnknownTarget n) old new after = inl after
wanting-refused (NotLive target) old new after = inl after
wanting-refused (Linked by) old new after = inl after
wanting-refused (LinkLater n) old new after = inl after
wanting-refused (RepeatedTarget n) old new after = inl after
wanting-refused (OverReturn n asked left) old new after = inl after
wanting-refused NoBasis old new after = inl after
wanting-refused (Frozen until) old new after = inl after
wanting-refused (Full held entries) old new after = inl after
wanting-refused (Short place item store lacking) old new after = inl after
wanting-refused KeeperFailed old new after = wanting-failed old new after
wanting-refused NoMemory old new after = after

pub stopped-refused : (r : Result Answer memory.NoMemory) (old new : Pace) (f : PostFault) → new.history ≡ old.history
    → IsAfterRefusal f old.keeper new.keeper → OnErr r (IsStopped old new)
stopped-refused (Ok answer) old new f same after = tt
stopped-refused (Err e) old new f same after =
    record {
      more = [];
      publications = tt;
      grows = same ∙ sym (append-nil old.history);
      between = old.keeper;
      done = refl;
      last = wanting-refused f old.keeper new.keeper after;
    }

-- turns make one for each publication, and perhaps one that failed
pub calls-turns : (stopped : Option KeepFault) (old new : Pace) (reply : Reply) (answer : Answer)
    → ((a b : KeeperState) → b ≡ a → IsLastCall (Told reply []) a b)
    → Publishes stopped old.history old.keeper new.history new.keeper → IsAfterTurns stopped reply answer → CallsKeeper old answer new
calls-turns None old new reply answer plain published after =
    record {
      more = published.more;
      grows = published.grows;
      between = published.between;
      done = published.done;
      last =
          subst (λ (a : Answer). IsLastCall a published.between new.keeper) (sym after)
          (plain published.between new.keeper published.last);
    }
calls-turns (Some keep_fault.Failed) old new reply answer plain published after =
    record {
      more = published.more;
      grows = published.grows;
      between = published.between;
      done = published.done;
      last = subst (λ (a : Answer). IsLastCall a published.between new.keeper) (sym after) published.last;
    }
calls-turns (Some keep_fault.NoMemory) old new reply answer plain published after = absurd after

-- so many turns were made, or fewer, and the keeper failed at the next one
pub pace-work : (stopped : Option KeepFault) (old new : Pace) (turns : ℕ) (count : RecordNo) (answer : Answer)
    → (stopped ≡ None → WorksInPace old turns new) → IfSome stopped (λ fault. StopsInPace fault old (Some turns) new) → IsInPace new
    → IsAfterTurns stopped (Worked count) answer → KeepsPace old (Work turns) answer new
pace-work None old new turns count answer works stops pace after = (
  (λ other. works refl),
  (λ failed. let clash : Told (Worked count) [] ≡ Told StoreFailed [] = sym after ∙ failed in absurd cc),
  pace,
)
pace-work (Some keep_fault.Failed) old new turns count answer works stops pace after =
    ((λ other. absurd (other after)), (λ failed. stops), pace)
pace-work (Some keep_fault.NoMemory) old new turns count answer works stops pace after = absurd after

pub pace-settle : (stopped : Option KeepFault) (old new : Pace) (count : RecordNo) (answer : Answer)
    → IfSome stopped (λ fault. StopsInPace fault old None new) → IsInPace new
    → IsAfterTurns stopped (Settled count) answer → KeepsPace old Settle answer new
pace-settle None old new count answer stops pace after =
    ((λ failed. let clash : Told (Settled count) [] ≡ Told StoreFailed [] = sym after ∙ failed in absurd cc), pace)
pace-settle (Some keep_fault.Failed) old new count answer stops pace after = ((λ failed. stops), pace)
pace-settle (Some keep_fault.NoMemory) old new count answer stops pace after = absurd after
