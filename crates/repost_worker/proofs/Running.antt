-- Turns one after another, as a run makes them.
use Rattle.std.proofs.Common.{◌≡◌, ℕ, zero, suc, ◌+◌, ◌-◌, ◌<◌, ◌≤◌, ◌≢◌, List, [], ◌∷◌, ◌++◌, length, sum_by, Option, Some, None, IfSome, inl, inr, refl, sym, ap, ◌∙◌, subst, length-append, arith}
use Rattle.std.specs.Option.{option_map}
use Rattle.std.proofs.lemmas.List.Elements.{Contains-append_cases}
use Rattle.std.proofs.lemmas.List.Sums.{sum_by-append}
use Rattle.stock_model.proofs.Pairwise.{Contains-cases}
use Rattle.stock_model.specs.declared.deeds.Deed.{Deed}
use Rattle.stock_keeper.specs.declared.fault.KeepFault.{KeepFault}
use Rattle.repost_build.specs.Readings.{IsUnchanged}
use Rattle.repost_build.specs.declared.build.Build.{Build}
use Rattle.repost_worker.specs.Turns.{IsTurnTo, valuations}
use Rattle.repost_worker.specs.Runs.{AreTurnsTo, AreAtWork, IsRun}
use Rattle.repost_worker.specs.declared.turn.Turned.{Turned}
use Rattle.repost_worker.specs.declared.turn.Turned.TheVariants.{Idle}

-- so many turns may still be made where so many were
abbrev pub AreLeft : Option ℕ → Option ℕ → ℕ → Type 0
AreLeft None left made = left ≡ None
AreLeft (Some limit) None made = ⊥
AreLeft (Some limit) (Some left) made = left + made ≡ limit

-- a build is as it is
unchanged : (build : Build) → IsUnchanged build build
unchanged build = record { slots = refl; charged = λ line. refl; base = refl; target = refl; gone = refl; fetches = refl; turns = refl }

-- these many turns were made, each of which did something
pub record AreMade (limit left : Option ℕ) (history : List Deed) (build : Build) (steps : ℕ) (history' : List Deed)
    (build' : Build) (steps' : ℕ) : Type 0 where
  pub turns : List Turned
  pub run : AreTurnsTo turns history build history' build'
  pub valued : steps' ≡ steps + sum_by valuations turns
  pub at_work : AreAtWork turns
  pub more : AreLeft limit left (length turns)

-- one more turn
pub turns-snoc : (turns : List Turned) (history : List Deed) (build : Build) (mid : List Deed) (then : Build) (turned : Turned)
    (history' : List Deed) (build' : Build) → AreTurnsTo turns history build mid then → IsTurnTo mid then turned history' build'
    → AreTurnsTo (turns ++ turned ∷ []) history build history' build'
turns-snoc [] history build mid then turned history' build' run turn = (
  history',
  build',
  subst (λ (h : List Deed). IsTurnTo h build turned history' build') run.0
      (subst (λ (b : Build). IsTurnTo mid b turned history' build') run.1 turn),
  (refl, refl),
)
turns-snoc (first ∷ turns) history build mid then turned history' build' run turn =
    (run.0, run.1, run.2, turns-snoc turns run.0 run.1 mid then turned history' build' run.3 turn)

at_work-snoc : (turns : List Turned) (turned : Turned) → AreAtWork turns → turned ≢ Idle → AreAtWork (turns ++ turned ∷ [])
at_work-snoc turns turned at_work more t held =
    elim (Contains-append_cases turns (turned ∷ []) t held) [
      | inl before ↦ at_work t before
      | inr last ↦ elim (Contains-cases turned [] t last) [ inl same ↦ λ idle. more (same ∙ idle) | inr none ↦ absurd (omega (arith, none.1)) ]
    ]

left-less : (limit left : Option ℕ) (made : ℕ) → AreLeft limit left made → IfSome left (λ n. 0 < n)
    → AreLeft limit (option_map (λ n. n - 1) left) (made + 1)
left-less None left made is more = ap (option_map (λ n. n - 1)) is
left-less (Some limit) None made is more = is
left-less (Some limit) (Some left) made is more = omega arith

left-within : (limit left : Option ℕ) (made : ℕ) → AreLeft limit left made → IfSome left (λ n. 0 < n)
    → IfSome limit (λ n. made < n)
left-within None left made is more = tt
left-within (Some limit) None made is more = absurd is
left-within (Some limit) (Some left) made is more = omega arith

at_most-less : (limit : Option ℕ) (made : ℕ) → IfSome limit (λ n. made < n) → IfSome limit (λ n. made + 1 ≤ n)
at_most-less None made more = tt
at_most-less (Some limit) made more = omega arith

at_most-more : (limit : Option ℕ) (made : ℕ) → IfSome limit (λ n. made < n) → IfSome limit (λ n. made ≤ n)
at_most-more None made more = tt
at_most-more (Some limit) made more = omega arith

-- where none are left, so many were made as may be
full-is : (limit left : Option ℕ) (made : ℕ) → AreLeft limit left made → (IfSome left (λ n. 0 < n) → ⊥) → limit ≡ Some made
full-is None left made is none = absurd (none (subst (λ (l : Option ℕ). IfSome l (λ n. 0 < n)) (sym is) tt))
full-is (Some limit) None made is none = absurd is
full-is (Some limit) (Some zero) made is none = ap Some (omega (arith, is))
full-is (Some limit) (Some (suc left)) made is none = absurd (none (omega arith))

full-within : (limit left : Option ℕ) (made : ℕ) → AreLeft limit left made → (IfSome left (λ n. 0 < n) → ⊥)
    → IfSome limit (λ n. made ≤ n)
full-within limit left made is none =
    subst (λ (l : Option ℕ). IfSome l (λ n. made ≤ n)) (sym (full-is limit left made is none)) (omega arith)

module _ (limit left : Option ℕ) (history : List Deed) (build : Build) (steps : ℕ) (mid : List Deed) (then : Build) (made_steps : ℕ)
    (made : AreMade limit left history build steps mid then made_steps) where
  -- after one more that did something
  pub made-more : (turned : Turned) (history' : List Deed) (build' : Build) (steps' : ℕ) → IfSome left (λ n. 0 < n)
      → IsTurnTo mid then turned history' build' → steps' ≡ made_steps + valuations turned → turned ≢ Idle
      → AreMade limit (option_map (λ n. n - 1) left) history build steps history' build' steps'
  made-more turned history' build' steps' more turn valued at_work = record {
    turns = made.turns ++ turned ∷ [];
    run = turns-snoc made.turns history build mid then turned history' build' made.run turn;
    valued = omega (arith, valued, made.valued, sum_by-append valuations made.turns (turned ∷ []));
    at_work = at_work-snoc made.turns turned made.at_work at_work;
    more = subst (AreLeft limit (option_map (λ n. n - 1) left)) (sym (length-append made.turns (turned ∷ [])))
        (left-less limit left (length made.turns) made.more more);
  }

  -- the run that ends as the next one is idle
  pub run-idle : (history' : List Deed) (build' : Build) (steps' : ℕ) → IfSome left (λ n. 0 < n)
      → IsTurnTo mid then Idle history' build' → steps' ≡ made_steps + valuations Idle
      → IsRun limit None history build steps history' build' steps'
  run-idle history' build' steps' more turn valued = record {
    turns = made.turns ++ Idle ∷ [];
    last = build';
    run = turns-snoc made.turns history build mid then Idle history' build' made.run turn;
    rest = unchanged build';
    valued = omega (arith, valued, made.valued, sum_by-append valuations made.turns (Idle ∷ []));
    within = subst (λ (n : ℕ). IfSome limit (λ most. n ≤ most)) (sym (length-append made.turns (Idle ∷ [])))
        (at_most-less limit (length made.turns) (left-within limit left (length made.turns) made.more more));
    ended = inl (record { before = made.turns; last = refl; at_work = made.at_work });
  }

  -- the run that ends as one more turn is refused, which changes nothing
  pub run-refused : (refusal : KeepFault) (history' : List Deed) (build' : Build) (steps' : ℕ) → IfSome left (λ n. 0 < n)
      → history' ≡ mid → IsUnchanged then build' → steps' ≡ made_steps
      → IsRun limit (Some refusal) history build steps history' build' steps'
  run-refused refusal history' build' steps' more stays rest none_valued = record {
    turns = made.turns;
    last = then;
    run = subst (λ (h : List Deed). AreTurnsTo made.turns history build h then) (sym stays) made.run;
    rest = rest;
    valued = none_valued ∙ made.valued;
    within = at_most-more limit (length made.turns) (left-within limit left (length made.turns) made.more more);
    ended = record { more = left-within limit left (length made.turns) made.more more; at_work = made.at_work };
  }

  -- the run that ends as no more turns may be made
  pub run-full : (IfSome left (λ n. 0 < n) → ⊥) → IsRun limit None history build steps mid then made_steps
  run-full none = record {
    turns = made.turns;
    last = then;
    run = made.run;
    rest = unchanged then;
    valued = made.valued;
    within = full-within limit left (length made.turns) made.more none;
    ended = inr (record { full = full-is limit left (length made.turns) made.more none; at_work = made.at_work });
  }
