-- What a refusal leaves of the keeper's count of faults.
use Rattle.std.proofs.Common.{◌≡◌, List, refl, sym, ap, subst, arith, Result, Ok, Err, IfOk}
use Rattle.stock_io.specs.Counts.{NeverFalls}
use Rattle.stock_keeper.proofs.Calls as calls
use Rattle.stock_keeper.specs.Calls.{KeeperState}
use Rattle.stock_keeper.specs.declared.fault.KeepFault.TheVariants as keep
use Rattle.stock_nums.specs.declared.memory.NoMemory as memory
use Rattle.stock_model.specs.PostReplies.{refusal}
use Rattle.stock_model.specs.declared.answers.Answer.{Answer}
use Rattle.stock_model.specs.declared.faults.PostFault.{PostFault}
use Rattle.stock_model.specs.declared.faults.PostFault.TheVariants.{CodeTaken, CodeShape, AccountRange, UnknownItem, UnknownStore, SameStore, UnknownTarget, NotLive, Linked, LinkLater, RepeatedTarget, OverReturn, NoBasis, Frozen, Full, Short, KeeperFailed, NoMemory}
use Rattle.stock_model.specs.declared.records.Record.{Record}
use Rattle.generation_book.specs.Refusals.{IsAfterRefusal}
use Rattle.session_laws.specs.Exchanges.{store_failures}
use Rattle.book_answers.specs.Posts.{CountsFailure}

-- it does not fall
pub never_falls-refused : (f : PostFault) (old new : KeeperState) → IsAfterRefusal f old new → NeverFalls old.faults new.faults
never_falls-refused CodeTaken old new after = omega (arith, ap (λ k. k.faults) after)
never_falls-refused CodeShape old new after = omega (arith, ap (λ k. k.faults) after)
never_falls-refused AccountRange old new after = omega (arith, ap (λ k. k.faults) after)
never_falls-refused (UnknownItem n) old new after = omega (arith, ap (λ k. k.faults) after)
never_falls-refused (UnknownStore n) old new after = omega (arith, ap (λ k. k.faults) after)
never_falls-refused (SameStore n) old new after = omega (arith, ap (λ k. k.faults) after)
never_falls-refused (UnknownTarget n) old new after = omega (arith, ap (λ k. k.faults) after)
never_falls-refused (NotLive target) old new after = omega (arith, ap (λ k. k.faults) after)
never_falls-refused (Linked by) old new after = omega (arith, ap (λ k. k.faults) after)
never_falls-refused (LinkLater n) old new after = omega (arith, ap (λ k. k.faults) after)
never_falls-refused (RepeatedTarget n) old new after = omega (arith, ap (λ k. k.faults) after)
never_falls-refused (OverReturn n asked left) old new after = omega (arith, ap (λ k. k.faults) after)
never_falls-refused NoBasis old new after = omega (arith, ap (λ k. k.faults) after)
never_falls-refused (Frozen until) old new after = omega (arith, ap (λ k. k.faults) after)
never_falls-refused (Full held entries) old new after = omega (arith, ap (λ k. k.faults) after)
never_falls-refused (Short place item store lacking) old new after = omega (arith, ap (λ k. k.faults) after)
never_falls-refused KeeperFailed old new after = after.never_falls
never_falls-refused NoMemory old new after = calls.never_falls-refused keep.NoMemory old new after

counts : (answer : Answer) (f : PostFault) (old new : KeeperState) → IsAfterRefusal f old new → store_failures answer ≡ 0
    → CountsFailure answer old.faults new.faults
counts answer f old new after none =
    let kept = never_falls-refused f old new after in
    record { never_falls = kept; failed = λ _. omega (arith, none, kept) }

-- it rises where the refusal tells that what keeps the records failed
CountsFailure-refusal : (journal : List Record) (f : PostFault) (old new : KeeperState) → IsAfterRefusal f old new
    → CountsFailure (refusal journal f) old.faults new.faults
CountsFailure-refusal journal CodeTaken old new after = counts (refusal journal CodeTaken) CodeTaken old new after refl
CountsFailure-refusal journal CodeShape old new after = counts (refusal journal CodeShape) CodeShape old new after refl
CountsFailure-refusal journal AccountRange old new after = counts (refusal journal AccountRange) AccountRange old new after refl
CountsFailure-refusal journal (UnknownItem n) old new after = counts (refusal journal (UnknownItem n)) (UnknownItem n) old new after refl
CountsFailure-refusal journal (UnknownStore n) old new after = counts (refusal journal (UnknownStore n)) (UnknownStore n) old new after refl
CountsFailure-refusal journal (SameStore n) old new after = counts (refusal journal (SameStore n)) (SameStore n) old new after refl
CountsFailure-refusal journal (UnknownTarget n) old new after = counts (refusal journal (UnknownTarget n)) (UnknownTarget n) old new after refl
CountsFailure-refusal journal (NotLive target) old new after = counts (refusal journal (NotLive target)) (NotLive target) old new after refl
CountsFailure-refusal journal (Linked by) old new after = counts (refusal journal (Linked by)) (Linked by) old new after refl
CountsFailure-refusal journal (LinkLater n) old new after = counts (refusal journal (LinkLater n)) (LinkLater n) old new after refl
CountsFailure-refusal journal (RepeatedTarget n) old new after = counts (refusal journal (RepeatedTarget n)) (RepeatedTarget n) old new after refl
CountsFailure-refusal journal (OverReturn n asked left) old new after = counts (refusal journal (OverReturn n asked left)) (OverReturn n asked left) old new after refl
CountsFailure-refusal journal NoBasis old new after = counts (refusal journal NoBasis) NoBasis old new after refl
CountsFailure-refusal journal (Frozen until) old new after = counts (refusal journal (Frozen until)) (Frozen until) old new after refl
CountsFailure-refusal journal (Full held entries) old new after = counts (refusal journal (Full held entries)) (Full held entries) old new after refl
CountsFailure-refusal journal (Short place item store lacking) old new after = counts (refusal journal (Short place item store lacking)) (Short place item store lacking) old new after refl
CountsFailure-refusal journal KeeperFailed old new after =
    record { never_falls = after.never_falls; failed = λ so_far. let rose = after.fault so_far in omega (arith, rose) }
CountsFailure-refusal journal NoMemory old new after = counts (refusal journal NoMemory) NoMemory old new after refl

pub counts-refused : (r : Result Answer memory.NoMemory) (journal : List Record) (f : PostFault) (old new : KeeperState)
    → IsAfterRefusal f old new → IfOk r (λ answer. answer ≡ refusal journal f)
    → IfOk r (λ answer. CountsFailure answer old.faults new.faults)
counts-refused (Err e) journal f old new after is = tt
counts-refused (Ok answer) journal f old new after is =
    subst (λ (a : Answer). CountsFailure a old.faults new.faults) (sym is) (CountsFailure-refusal journal f old new after)
