-- Calls of a keeper, one after another.
use Rattle.std.proofs.Common.{◌≡◌, ◌≤◌, ◌+◌, ◌-◌, ◌^◌, ℕ, List, [], ◌∷◌, ◌++◌, length, Option, Some, None, OnSome, inl, inr, refl, sym, ap, ◌∙◌, subst, arith}
use Rattle.std.specs.Prelude.{min}
use Rattle.stock_io.specs.Counts.{NeverFalls, raised}
use Rattle.stock_keeper.specs.Calls.{KeeperState, IsDone, IsFailed, IsCounted, IsRefused, AreDone, HasCalled}
use Rattle.stock_keeper.specs.declared.fault.KeepFault.{KeepFault}
use Rattle.stock_keeper.specs.declared.fault.KeepFault.TheVariants.{Failed, NoMemory}

pub AreDone-append : {T : Type 0} (first second : List T) (old mid new : KeeperState) → AreDone first old mid → AreDone second mid new
    → AreDone (first ++ second) old new
AreDone-append [] second old mid new before after = subst (λ (k : KeeperState). AreDone second k new) before after
AreDone-append (x ∷ first) second old mid new before after =
    (before.0, before.1, AreDone-append first second before.0 mid new before.2 after)

-- where memory was wanting after a call, it was refused for that
pub wanting-done : (old new : KeeperState) → IsDone old new → IsRefused NoMemory old new
wanting-done old new done =
    let never_falls : old.faults ≤ new.faults = omega (arith, done.no_fault) in
    inr (never_falls, done.count)

pub wanting-failed : (old new : KeeperState) → IsFailed old new → IsRefused NoMemory old new
wanting-failed old new failed = inr (failed.never_falls, failed.count)

-- no refusal lowers the count of faults
pub never_falls-refused : (fault : KeepFault) (old new : KeeperState) → IsRefused fault old new → NeverFalls old.faults new.faults
never_falls-refused Failed old new failed = failed.never_falls
never_falls-refused NoMemory old new (inl same) = omega (arith, ap (λ (k : KeeperState). k.faults) same)
never_falls-refused NoMemory old new (inr called) = called.0

-- what two facts come to that stand where a plan is told
both : (plan told : Option (List ℕ)) (P Q R : Type 0) → told ≡ plan → OnSome plan P → OnSome told Q → (P → Q → R) → OnSome plan R
both None told P Q R same first second holds = tt
both (Some numbers) told P Q R same first second holds = holds first (subst (λ (p : Option (List ℕ)). OnSome p Q) same second)

always : (plan : Option (List ℕ)) (P : Type 0) → P → OnSome plan P
always None P holds = tt
always (Some numbers) P holds = holds

-- no call was made yet
pub called-none : (keeper : KeeperState) → HasCalled 0 keeper.plan keeper.calls keeper
called-none keeper =
    let none : min (keeper.calls + 0) (2 ^ 64 - 1) ≤ keeper.calls = omega arith in
    record { plan_kept = refl; counted = always keeper.plan _ none }

-- one was
pub called-once : (old new : KeeperState) → IsCounted old new → HasCalled 1 old.plan old.calls new
called-once old new count =
    record {
      plan_kept = count.plan_kept;
      counted = both old.plan old.plan _ _ _ refl count.counted count.counted (λ (is : new.calls ≡ raised old.calls) _. omega (arith, is));
    }

-- fewer are told too
pub called-fewer : (few more : ℕ) (plan : Option (List ℕ)) (calls : ℕ) (new : KeeperState) → few ≤ more → HasCalled more plan calls new
    → HasCalled few plan calls new
called-fewer few more plan calls new less called =
    record {
      plan_kept = called.plan_kept;
      counted =
          both plan plan _ _ _ refl called.counted called.counted
          (λ (all : min (calls + more) (2 ^ 64 - 1) ≤ new.calls) _. omega (arith, less, all));
    }

-- and then more
pub called-more : (first second : ℕ) (plan : Option (List ℕ)) (calls : ℕ) (mid new : KeeperState) → HasCalled first plan calls mid
    → HasCalled second mid.plan mid.calls new → HasCalled (first + second) plan calls new
called-more first second plan calls mid new before after =
    record {
      plan_kept = after.plan_kept ∙ before.plan_kept;
      counted =
          both plan mid.plan _ _ _ before.plan_kept before.counted after.counted
          (λ (some : min (calls + first) (2 ^ 64 - 1) ≤ mid.calls) (rest : min (mid.calls + second) (2 ^ 64 - 1) ≤ new.calls). omega (arith, some, rest));
    }

pub called-same : (old new : KeeperState) → new ≡ old → HasCalled 0 old.plan old.calls new
called-same old new same = subst (HasCalled 0 old.plan old.calls) (sym same) (called-none old)

pub called-refused : (fault : KeepFault) (old new : KeeperState) → IsRefused fault old new → HasCalled 0 old.plan old.calls new
called-refused Failed old new failed = called-fewer 0 1 old.plan old.calls new (omega arith) (called-once old new failed.count)
called-refused NoMemory old new (inl same) = called-same old new same
called-refused NoMemory old new (inr called) = called-fewer 0 1 old.plan old.calls new (omega arith) (called-once old new called.1)

-- one for each of these
pub called-done : {T : Type 0} (xs : List T) (old new : KeeperState) → AreDone xs old new → HasCalled (length xs) old.plan old.calls new
called-done [] old new done = called-same old new done
called-done (x ∷ xs) old new done =
    let first = called-once old done.0 done.1.count in
    let all : 1 + length xs ≡ length (x ∷ xs) = omega arith in
    subst (λ (n : ℕ). HasCalled n old.plan old.calls new) all
    (called-more 1 (length xs) old.plan old.calls done.0 new first (called-done xs done.0 new done.2))
