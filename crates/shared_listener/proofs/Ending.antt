-- What the end of a lock round a shared listener tells.
use Rattle.std.proofs.Common.{◌≡◌, ℕ, List, ◌∷◌, ◌++◌, map, refl, sym, ap, ◌∙◌, subst}
use Rattle.std.specs.Prelude.{Bool, true, Option}
use Rattle.turn_lock.specs.Histories.{BeginsWith, past, made_by}
use Rattle.turn_lock.proofs.Lists.{begins_is, begins_self, past_self}
use Rattle.stock_io.specs.Heard.{Heard}
use Rattle.shared_listener.specs.Steps.{comes, hangs, has_ended, IsOpened}
use Rattle.shared_listener.specs.Sharing.{Shares, IsShared}
use Rattle.shared_listener.specs.Visits.{IsVisited}
use Rattle.shared_listener.specs.declared.step.Opening.{Opening}
use Rattle.shared_listener.specs.declared.step.Step.{Step}
use Rattle.shared_listener.specs.declared.step.Step.TheVariants.{Opened}
use Rattle.shared_listener.proofs.Visiting.{IsVisited-shares}

-- the log begins with the opening that it was made with, so what it tells since is what desks did since
pub record IsSince {L P : Type 0} (telling : L → Heard P) (listens_to : L → Option (ℕ × Option ℕ)) (is_fresh : P → Type 0) (first : L)
    (desks wanted : ℕ) (opened log : List (ℕ × Step L P)) (failed : Bool) (listener : L) : Type 0 where
  pub port_kept : listens_to listener ≡ listens_to first
  pub untouched : log ≡ opened → listener ≡ first
  pub shares : Shares is_fresh desks wanted failed (past opened log) (telling first) (telling listener)

module _ {L P : Type 0} (telling : L → Heard P) (listens_to : L → Option (ℕ × Option ℕ)) (is_fresh : P → Type 0) where
  -- A lock round a listener was made with the log `opened`, and ended with this log and that listener.
  pub IsSince-end : (first : L) (desks wanted desks' wanted' : ℕ) (opened log : List (ℕ × Step L P)) (failed : Bool) (listener : L)
      → IsOpened first desks wanted opened → BeginsWith log opened → IsShared telling listens_to is_fresh desks' wanted' failed log listener
      → IsSince telling listens_to is_fresh first desks wanted opened log failed listener
  IsSince-end first desks wanted desks' wanted' opened log failed listener is begins shared =
      let rest = past opened log in
      let whole : log ≡ (0, Opened is.0) ∷ rest = begins_is log opened begins ∙ ap (λ (z : List (ℕ × Step L P)). z ++ rest) is.1 in
      let same : (0, Opened is.0) ∷ rest ≡ (0, Opened shared.opening) ∷ shared.steps = sym whole ∙ shared.since in
      let one : ℕ × Step L P = (0, Opened is.0) in
      let two : ℕ × Step L P = (0, Opened shared.opening) in
      let head : one ≡ two = cc in
      let second : one.1 ≡ two.1 = ap (λ (e : ℕ × Step L P). e.1) head in
      let opening : is.0 ≡ shared.opening = cc in
      let steps : rest ≡ shared.steps = cc in
      let listener_is : shared.opening.listener.value ≡ first = ap (λ (o : Opening L). o.listener.value) (sym opening) ∙ is.2 in
      let desks_are : desks' ≡ desks = sym shared.desks_are ∙ ap (λ (o : Opening L). o.desks) (sym opening) ∙ is.3 in
      let wanted_are : wanted' ≡ wanted = sym shared.wanted_are ∙ ap (λ (o : Opening L). o.wanted) (sym opening) ∙ is.4 in
      record {
        port_kept = shared.port_kept ∙ ap listens_to listener_is;
        untouched = λ still. shared.untouched (sym steps ∙ ap (past opened) still ∙ past_self opened) ∙ listener_is;
        shares = subst (λ (l : L). Shares is_fresh desks wanted failed rest (telling l) (telling listener)) listener_is
            (subst (λ (n : ℕ). Shares is_fresh n wanted failed rest (telling shared.opening.listener.value) (telling listener)) desks_are
            (subst (λ (n : ℕ). Shares is_fresh desks' n failed rest (telling shared.opening.listener.value) (telling listener)) wanted_are
            (subst (λ (z : List (ℕ × Step L P)). Shares is_fresh desks' wanted' failed z (telling shared.opening.listener.value) (telling listener))
            (sym steps) shared.shares)));
      }

  -- where no desk did anything, the listener is the one that was given
  pub untouched-opened : (first : L) (desks wanted desks' wanted' : ℕ) (opened : List (ℕ × Step L P)) (failed : Bool) (listener : L)
      → IsOpened first desks wanted opened → IsShared telling listens_to is_fresh desks' wanted' failed opened listener → listener ≡ first
  untouched-opened first desks wanted desks' wanted' opened failed listener is shared =
      (IsSince-end first desks wanted desks' wanted' opened opened failed listener is (begins_self opened) shared).untouched refl

  -- past the first log, what each number made is what its visits brought and gave back
  pub IsVisited-end : {V : Type 0} (first : L) (desks wanted : ℕ) (opened log : List (ℕ × Step L P)) (failed : Bool) (listener : L)
      → IsSince telling listens_to is_fresh first desks wanted opened log failed listener
      → (peer peer_then : V → P) (visits : ℕ → List V) (is_told : ℕ → Bool)
      → ((k : ℕ) → comes (made_by k (past opened log)) ≡ map peer (visits k))
      → ((k : ℕ) → hangs (made_by k (past opened log)) ≡ map peer_then (visits k))
      → ((k : ℕ) → is_told k ≡ true → has_ended (made_by k (past opened log)) ≡ true)
      → IsVisited peer peer_then is_fresh desks wanted visits is_told (telling first) (telling listener)
  IsVisited-end first desks wanted opened log failed listener since peer peer_then visits is_told to_each left_each told =
      IsVisited-shares peer peer_then is_fresh desks wanted failed (past opened log) visits is_told (telling first) (telling listener)
      since.shares to_each left_each told
