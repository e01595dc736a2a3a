-- A further step at a listener that desks share.
use Rattle.std.proofs.Common.{◌≡◌, ℕ, ◌+◌, ◌<◌, ◌≤◌, ◌⊎◌, ⊎_elim, List, [], ◌∷◌, ◌++◌, length, refl, sym, ap, ◌∙◌, subst, append-nil, length-append, arith, eq-eqb, ne_eqb}
use Rattle.std.proofs.lemmas.List.Elements.{All-nil, All-push}
use Rattle.std.specs.Prelude.{Bool, true, false, ◌||◌, All, Option}
use Rattle.std.specs.declared.snapshot.Snapshot.{Snapshot}
use mathlib.Core.Logic.{dite}
use native.Mathlib.Decide.{ℕ_discrete}
use Rattle.turn_lock.specs.Histories.{made_by}
use Rattle.turn_lock.proofs.Lists.{made_more}
use Rattle.stock_io.specs.Counts.{Rose, NeverFalls}
use Rattle.stock_io.specs.Listeners as one
use Rattle.stock_io.specs.Heard.{HandsOutAll, HangsUpAll, Heard}
use Rattle.shared_listener.specs.Steps.{comes, hangs, comers, has_ended}
use Rattle.shared_listener.specs.Sharing.{AreFirstInOrder, Shares}
use Rattle.shared_listener.specs.declared.step.Step.{Step}
use Rattle.shared_listener.specs.declared.step.Step.TheVariants.{Opened, Came, HungUp, Ended}
use Rattle.shared_listener.proofs.Hearing.{none_out, later_out, none_up, later_up}
use Rattle.shared_listener.proofs.StepLists.{comes-append, hangs-append, comers-append, has_ended-append}

-- one more behind those that came in order
first-append : (place desks : ℕ) (ks : List ℕ) (k : ℕ) → AreFirstInOrder place desks ks → (place + length ks < desks → k ≡ place + length ks + 1)
    → AreFirstInOrder place desks (ks ++ k ∷ [])
first-append place desks [] k before last = (λ few. let e = last (omega (arith, few)) in omega (arith, e), tt)
first-append place desks (n ∷ ks) k before last =
    (before.0, first-append (place + 1) desks ks k before.1 (λ few. let e = last (omega (arith, few)) in omega (arith, e)))

module _ {L P : Type 0} where
  length-comers : (log : List (ℕ × Step L P)) → length (comers log) ≡ length (comes log)
  length-comers [] = refl
  length-comers ((k, Opened opening) ∷ log) = length-comers log
  length-comers ((k, Came what) ∷ log) = let r = length-comers log in omega (arith, r)
  length-comers ((k, HungUp what) ∷ log) = length-comers log
  length-comers ((k, Ended) ∷ log) = length-comers log

  pub length-comes : (xs ys : List (ℕ × Step L P)) → length (comes (xs ++ ys)) ≡ length (comes xs) + length (comes ys)
  length-comes xs ys = ap length (comes-append xs ys) ∙ length-append (comes xs) (comes ys)

  pub length-hangs : (xs ys : List (ℕ × Step L P)) → length (hangs (xs ++ ys)) ≡ length (hangs xs) + length (hangs ys)
  length-hangs xs ys = ap length (hangs-append xs ys) ∙ length-append (hangs xs) (hangs ys)

  -- of each desk, once one more peer came to a desk, was handed back by one, or a desk was told the end
  back-came : (k n : ℕ) (log : List (ℕ × Step L P)) (what : Snapshot P) → length (hangs (made_by k log)) ≤ length (comes (made_by k log))
      → length (hangs (made_by k (log ++ (n, Came what) ∷ []))) ≤ length (comes (made_by k (log ++ (n, Came what) ∷ [])))
  back-came k n log what before = rw (made_more k log ((n, Came what) ∷ [])) (dite (ℕ_discrete n k)
      (λ e. rw (eq-eqb n k e) (omega (arith, before, length-hangs (made_by k log) ((n, Came what) ∷ []), length-comes (made_by k log) ((n, Came what) ∷ []))))
      (λ d. rw (ne_eqb n k d) (omega (arith, before, length-hangs (made_by k log) [], length-comes (made_by k log) []))))

  back-hung : (k n : ℕ) (log : List (ℕ × Step L P)) (what : Snapshot P) → length (hangs (made_by k log)) ≤ length (comes (made_by k log))
      → length (hangs (made_by n log)) < length (comes (made_by n log))
      → length (hangs (made_by k (log ++ (n, HungUp what) ∷ []))) ≤ length (comes (made_by k (log ++ (n, HungUp what) ∷ [])))
  back-hung k n log what before holds = rw (made_more k log ((n, HungUp what) ∷ [])) (dite (ℕ_discrete n k)
      (λ e. let fewer : length (hangs (made_by k log)) < length (comes (made_by k log)) =
      subst (λ (m : ℕ). length (hangs (made_by m log)) < length (comes (made_by m log))) e holds in
      rw (eq-eqb n k e) (omega (arith, fewer, length-hangs (made_by k log) ((n, HungUp what) ∷ []), length-comes (made_by k log) ((n, HungUp what) ∷ []))))
      (λ d. rw (ne_eqb n k d) (omega (arith, before, length-hangs (made_by k log) [], length-comes (made_by k log) []))))

  back-ended : (k n : ℕ) (log : List (ℕ × Step L P)) → length (hangs (made_by k log)) ≤ length (comes (made_by k log))
      → length (hangs (made_by k (log ++ (n, Ended) ∷ []))) ≤ length (comes (made_by k (log ++ (n, Ended) ∷ [])))
  back-ended k n log before = rw (made_more k log ((n, Ended) ∷ [])) (dite (ℕ_discrete n k)
      (λ e. rw (eq-eqb n k e) (omega (arith, before, length-hangs (made_by k log) ((n, Ended) ∷ []), length-comes (made_by k log) ((n, Ended) ∷ []))))
      (λ d. rw (ne_eqb n k d) (omega (arith, before, length-hangs (made_by k log) [], length-comes (made_by k log) []))))

  -- a step of a desk to which no peer came, and by which none was handed back
  pub comes-other : (log : List (ℕ × Step L P)) (x : ℕ × Step L P) → comes (x ∷ []) ≡ [] → comes (log ++ x ∷ []) ≡ comes log
  comes-other log x none = comes-append log (x ∷ []) ∙ ap (λ (z : List P). comes log ++ z) none ∙ append-nil (comes log)

  pub hangs-other : (log : List (ℕ × Step L P)) (x : ℕ × Step L P) → hangs (x ∷ []) ≡ [] → hangs (log ++ x ∷ []) ≡ hangs log
  hangs-other log x none = hangs-append log (x ∷ []) ∙ ap (λ (z : List P). hangs log ++ z) none ∙ append-nil (hangs log)

  comers-other : (log : List (ℕ × Step L P)) (x : ℕ × Step L P) → comers (x ∷ []) ≡ [] → comers (log ++ x ∷ []) ≡ comers log
  comers-other log x none = comers-append log (x ∷ []) ∙ ap (λ (z : List ℕ). comers log ++ z) none ∙ append-nil (comers log)

  ended-before : (log : List (ℕ × Step L P)) (x : ℕ × Step L P) → has_ended (x ∷ []) ≡ false → has_ended (log ++ x ∷ []) ≡ true → has_ended log ≡ true
  ended-before log x none now = either (has_ended log) (has_ended (x ∷ [])) none (sym (has_ended-append log (x ∷ [])) ∙ now)
    where
      either : (a b : Bool) → b ≡ false → (a || b) ≡ true → a ≡ true
      either true b none now = refl
      either false b none now = absurd (cc)

  module _ (is_fresh : P → Type 0) (desks wanted : ℕ) where
    pub Shares-none : (told : Heard P) → Shares {L = L} is_fresh desks wanted false [] told told
    Shares-none told = record {
      handed_out = none_out told.waiting;
      are_fresh = All-nil is_fresh;
      accepts = omega arith;
      no_more = omega arith;
      in_order = tt;
      hung_up = none_up told.hung_up;
      hang_ups = omega arith;
      back_after = λ k. omega arith;
      never_falls = omega arith;
      no_fault = λ _. refl;
      cause = λ failed. absurd (cc);
      few = λ failed. absurd (cc);
      ended = λ has. absurd (cc);
    }

    pub Shares-came : (failed : Bool) (log : List (ℕ × Step L P)) (old mid new : Heard P) (number : ℕ) (what : Snapshot P)
        → failed ≡ false → Shares is_fresh desks wanted failed log old mid → length (comes log) < wanted
        → (length (comes log) < desks → number ≡ length (comes log) + 1)
        → one.HandsOut mid.waiting new.waiting what.value → is_fresh what.value → new.accepts ≡ mid.accepts + 1 → new.hung_up ≡ mid.hung_up
        → new.hang_ups ≡ mid.hang_ups → new.faults ≡ mid.faults
        → Shares is_fresh desks wanted failed (log ++ (number, Came what) ∷ []) old new
    Shares-came failed log old mid new number what not_failed before room first out fresh accepts hung_up hang_ups faults =
        let x : List (ℕ × Step L P) = (number, Came what) ∷ [] in
        record {
          handed_out = subst (λ (z : List P). HandsOutAll old.waiting new.waiting z) (sym (comes-append log x))
              (later_out old.waiting mid.waiting new.waiting (comes log) what.value before.handed_out out);
          are_fresh = subst (λ (z : List P). All is_fresh z) (sym (comes-append log x))
              (All-push is_fresh (comes log) what.value before.are_fresh fresh);
          accepts = omega (arith, before.accepts, accepts, length-comes log x);
          no_more = omega (arith, room, length-comes log x);
          in_order = subst (λ (z : List ℕ). AreFirstInOrder 0 desks z) (sym (comers-append log x))
              (first-append 0 desks (comers log) number before.in_order
              (λ few. let same = length-comers log in let e = first (omega (arith, few, same)) in omega (arith, e, same)));
          hung_up = subst (λ (z : Option (List P)). HangsUpAll old.hung_up z (hangs (log ++ x))) (sym hung_up)
              (subst (λ (z : List P). HangsUpAll old.hung_up mid.hung_up z) (sym (hangs-other log (number, Came what) refl)) before.hung_up);
          hang_ups = omega (arith, before.hang_ups, hang_ups, length-hangs log x);
          back_after = λ k. back-came k number log what (before.back_after k);
          never_falls = omega (arith, before.never_falls, faults);
          no_fault = λ same. faults ∙ before.no_fault same;
          cause = λ rose. absurd (cc);
          few = λ rose. absurd (cc);
          ended = λ has. ⊎_elim (λ (rose : failed ≡ true). absurd (cc))
              (λ (all : length (comes log) ≡ wanted). absurd (omega (arith, room, all))) (before.ended (ended-before log (number, Came what) refl has));
        }

    pub Shares-hung : (failed : Bool) (log : List (ℕ × Step L P)) (old mid new : Heard P) (number : ℕ) (what : Snapshot P)
        → Shares is_fresh desks wanted failed log old mid → length (hangs (made_by number log)) < length (comes (made_by number log))
        → one.HangsUp mid.hung_up new.hung_up what.value → new.hang_ups ≡ mid.hang_ups + 1 → new.waiting ≡ mid.waiting → new.accepts ≡ mid.accepts
        → new.faults ≡ mid.faults → Shares is_fresh desks wanted failed (log ++ (number, HungUp what) ∷ []) old new
    Shares-hung failed log old mid new number what before holds up hang_ups waiting accepts faults =
        let x : List (ℕ × Step L P) = (number, HungUp what) ∷ [] in
        let same = comes-other log (number, HungUp what) refl in
        record {
          handed_out = subst (λ (z : Option (List P)). HandsOutAll old.waiting z (comes (log ++ x))) (sym waiting)
              (subst (λ (z : List P). HandsOutAll old.waiting mid.waiting z) (sym same) before.handed_out);
          are_fresh = subst (λ (z : List P). All is_fresh z) (sym same) before.are_fresh;
          accepts = omega (arith, before.accepts, accepts, length-comes log x);
          no_more = omega (arith, before.no_more, length-comes log x);
          in_order = subst (λ (z : List ℕ). AreFirstInOrder 0 desks z) (sym (comers-other log (number, HungUp what) refl)) before.in_order;
          hung_up = subst (λ (z : List P). HangsUpAll old.hung_up new.hung_up z) (sym (hangs-append log x))
              (later_up old.hung_up mid.hung_up new.hung_up (hangs log) what.value before.hung_up up);
          hang_ups = omega (arith, before.hang_ups, hang_ups, length-hangs log x);
          back_after = λ k. back-hung k number log what (before.back_after k) holds;
          never_falls = omega (arith, before.never_falls, faults);
          no_fault = λ none. faults ∙ before.no_fault none;
          cause = λ rose. subst (λ (n : ℕ). Rose old.faults n) (sym faults) (before.cause rose);
          few = λ rose. let less = before.few rose in omega (arith, less, length-comes log x);
          ended = λ has. subst (λ (z : List P). (failed ≡ true) ⊎ (length z ≡ wanted)) (sym same)
              (before.ended (ended-before log (number, HungUp what) refl has));
        }

    -- a desk is told the end, where it has come or comes now
    pub Shares-ended : (failed failed' : Bool) (log : List (ℕ × Step L P)) (old mid new : Heard P) (number : ℕ)
        → Shares is_fresh desks wanted failed log old mid
        → new.waiting ≡ mid.waiting → new.hung_up ≡ mid.hung_up → new.accepts ≡ mid.accepts → new.hang_ups ≡ mid.hang_ups
        → NeverFalls mid.faults new.faults → (failed' ≡ false → (failed ≡ false) × (new.faults ≡ mid.faults))
        → (failed' ≡ true → ((failed ≡ true) × (new.faults ≡ mid.faults)) ⊎ ((failed ≡ false) × Rose mid.faults new.faults × (length (comes log) < wanted)))
        → (failed' ≡ true) ⊎ (length (comes log) ≡ wanted)
        → Shares is_fresh desks wanted failed' (log ++ (number, Ended) ∷ []) old new
    Shares-ended failed failed' log old mid new number before waiting hung_up accepts hang_ups never_falls stays fails over =
        let x : List (ℕ × Step L P) = (number, Ended) ∷ [] in
        let same = comes-other log (number, Ended) refl in
        record {
          handed_out = subst (λ (z : Option (List P)). HandsOutAll old.waiting z (comes (log ++ x))) (sym waiting)
              (subst (λ (z : List P). HandsOutAll old.waiting mid.waiting z) (sym same) before.handed_out);
          are_fresh = subst (λ (z : List P). All is_fresh z) (sym same) before.are_fresh;
          accepts = omega (arith, before.accepts, accepts, length-comes log x);
          no_more = omega (arith, before.no_more, length-comes log x);
          in_order = subst (λ (z : List ℕ). AreFirstInOrder 0 desks z) (sym (comers-other log (number, Ended) refl)) before.in_order;
          hung_up = subst (λ (z : Option (List P)). HangsUpAll old.hung_up z (hangs (log ++ x))) (sym hung_up)
              (subst (λ (z : List P). HangsUpAll old.hung_up mid.hung_up z) (sym (hangs-other log (number, Ended) refl)) before.hung_up);
          hang_ups = omega (arith, before.hang_ups, hang_ups, length-hangs log x);
          back_after = λ k. back-ended k number log (before.back_after k);
          never_falls = omega (arith, before.never_falls, never_falls);
          no_fault = λ none. let s = stays none in s.1 ∙ before.no_fault s.0;
          cause = λ now. ⊎_elim (λ (s : (failed ≡ true) × (new.faults ≡ mid.faults)). subst (λ (n : ℕ). Rose old.faults n) (sym s.1) (before.cause s.0))
              (λ (s : (failed ≡ false) × Rose mid.faults new.faults × (length (comes log) < wanted)). subst (λ (n : ℕ). Rose n new.faults) (before.no_fault s.0) s.1) (fails now);
          few = λ now. subst (λ (z : List P). length z < wanted) (sym same)
              (⊎_elim (λ (s : (failed ≡ true) × (new.faults ≡ mid.faults)). before.few s.0)
              (λ (s : (failed ≡ false) × Rose mid.faults new.faults × (length (comes log) < wanted)). s.2) (fails now));
          ended = λ has. subst (λ (z : List P). (failed' ≡ true) ⊎ (length z ≡ wanted)) (sym same) over;
        }
