-- A listener, since desks share it.
use Rattle.std.proofs.Common.{◌≡◌, ℕ, ◌<◌, ◌≤◌, List, [], ◌∷◌, ◌++◌, length, refl, sym, ap, ◌∙◌, subst, arith, eq-eqb, ne_eqb}
use Rattle.std.specs.Prelude.{Bool, false, Option}
use mathlib.Core.Logic.{dite}
use native.Mathlib.Decide.{ℕ_discrete}
use Rattle.turn_lock.specs.Histories.{made_by}
use Rattle.stock_io.specs.Heard.{Heard}
use Rattle.shared_listener.specs.Steps.{comes, hangs}
use Rattle.shared_listener.specs.Sharing.{Shares, IsShared}
use Rattle.shared_listener.specs.declared.step.Opening.{Opening}
use Rattle.shared_listener.specs.declared.step.Step.{Step}
use Rattle.shared_listener.specs.declared.step.Step.TheVariants.{Opened}
use Rattle.shared_listener.proofs.OfNumbers.{back-fewer}
use Rattle.shared_listener.proofs.Keeping.{Shares-none}

-- the first thing that is noted
pub first_noted : {X : Type 0} (before after : List X) (x : X) → after ≡ before ++ x ∷ [] → before ≡ [] → after ≡ x ∷ []
first_noted before after x more none = more ∙ ap (λ z. z ++ x ∷ []) none

more_is_some : {X : Type 0} (xs : List X) (x : X) → ¬ (xs ++ x ∷ [] ≡ [])
more_is_some [] x none = cc
more_is_some (y ∷ xs) x none = cc

module _ {L P : Type 0} where
  -- the opening is no peer's
  made-opened : {X : Type 0} (f : List (ℕ × Step L P) → List X) (k : ℕ) (opening : Opening L) (steps : List (ℕ × Step L P))
      → ((xs : List (ℕ × Step L P)) → f ((0, Opened opening) ∷ xs) ≡ f xs) → f (made_by k ((0, Opened opening) ∷ steps)) ≡ f (made_by k steps)
  made-opened f k opening steps skips = dite (ℕ_discrete 0 k)
      (λ e. rw (eq-eqb 0 k e) (skips (made_by k steps)))
      (λ d. rw (ne_eqb 0 k d) refl)

  pub comes-made_opened : (k : ℕ) (opening : Opening L) (steps : List (ℕ × Step L P)) → comes (made_by k ((0, Opened opening) ∷ steps)) ≡ comes (made_by k steps)
  comes-made_opened k opening steps = made-opened comes k opening steps (λ xs. refl)

  pub hangs-made_opened : (k : ℕ) (opening : Opening L) (steps : List (ℕ × Step L P)) → hangs (made_by k ((0, Opened opening) ∷ steps)) ≡ hangs (made_by k steps)
  hangs-made_opened k opening steps = made-opened hangs k opening steps (λ xs. refl)

  module _ (telling : L → Heard P) (listens_to : L → Option (ℕ × Option ℕ)) (is_fresh : P → Type 0) (desks wanted : ℕ) where
    pub IsShared-opened : (opening : Opening L) (log : List (ℕ × Step L P)) (listener : L) → log ≡ (0, Opened opening) ∷ []
        → opening.desks ≡ desks → opening.wanted ≡ wanted → opening.listener.value ≡ listener → (telling listener).hang_ups ≤ (telling listener).accepts
        → IsShared telling listens_to is_fresh desks wanted false log listener
    IsShared-opened opening log listener since desks_are wanted_are first no_more = record {
      opening = opening;
      steps = [];
      since = since;
      desks_are = desks_are;
      wanted_are = wanted_are;
      no_more_hung_up = subst (λ (l : L). (telling l).hang_ups ≤ (telling l).accepts) (sym first) no_more;
      port_kept = ap listens_to (sym first);
      untouched = λ none. sym first;
      shares = subst (λ (l : L). Shares {L = L} is_fresh desks wanted false [] (telling l) (telling listener)) (sym first)
          (Shares-none is_fresh desks wanted (telling listener));
    }

    pub IsShared-on : (failed failed' : Bool) (log log' : List (ℕ × Step L P)) (x : ℕ × Step L P) (listener listener' : L)
        → (before : IsShared telling listens_to is_fresh desks wanted failed log listener) → log' ≡ log ++ x ∷ []
        → listens_to listener' ≡ listens_to listener
        → Shares is_fresh desks wanted failed' (before.steps ++ x ∷ []) (telling before.opening.listener.value) (telling listener')
        → IsShared telling listens_to is_fresh desks wanted failed' log' listener'
    IsShared-on failed failed' log log' x listener listener' before more port shares = record {
      opening = before.opening;
      steps = before.steps ++ x ∷ [];
      since = more ∙ ap (λ (z : List (ℕ × Step L P)). z ++ x ∷ []) before.since;
      desks_are = before.desks_are;
      wanted_are = before.wanted_are;
      no_more_hung_up = before.no_more_hung_up;
      port_kept = port ∙ before.port_kept;
      untouched = λ none. absurd (more_is_some before.steps x none);
      shares = shares;
    }

    module _ (failed : Bool) (log : List (ℕ × Step L P)) (listener : L) (before : IsShared telling listens_to is_fresh desks wanted failed log listener) where
      pub comes-since : comes log ≡ comes before.steps
      comes-since = ap comes before.since

      -- the peer that a desk holds was handed out and not taken back
      pub holds-since : (number : ℕ) → length (hangs (made_by number log)) < length (comes (made_by number log))
          → length (hangs (made_by number before.steps)) < length (comes (made_by number before.steps))
      holds-since number holds =
          let h : hangs (made_by number log) ≡ hangs (made_by number before.steps) =
          ap (λ (z : List (ℕ × Step L P)). hangs (made_by number z)) before.since ∙ hangs-made_opened number before.opening before.steps in
          let c : comes (made_by number log) ≡ comes (made_by number before.steps) =
          ap (λ (z : List (ℕ × Step L P)). comes (made_by number z)) before.since ∙ comes-made_opened number before.opening before.steps in
          subst (λ (z : List P). length z < length (comes (made_by number before.steps))) h
          (subst (λ (z : List P). length (hangs (made_by number log)) < length z) c holds)

      pub outstanding-since : (number : ℕ) → length (hangs (made_by number log)) < length (comes (made_by number log))
          → (telling listener).hang_ups < (telling listener).accepts
      outstanding-since number holds =
          let fewer = back-fewer number before.steps before.shares.back_after (holds-since number holds) in
          omega (arith, fewer, before.no_more_hung_up, before.shares.accepts, before.shares.hang_ups)
