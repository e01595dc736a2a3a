-- The peers that came to desks through the lock of a listener, and those that desks handed back.
use Rattle.std.proofs.Common.{◌≡◌, ℕ, zero, suc, ◌+◌, ◌<◌, ◌≤◌, ◌⊎◌, ⊎_elim, inl, inr, List, [], ◌∷◌, ◌++◌, length, map, refl, sym, ap, ◌∙◌, subst, arith}
use mathlib.Core.Logic.{dite}
use native.Mathlib.Decide.{ℕ_discrete}
use Rattle.std.specs.Prelude.{All, Bool, true, Option, None}
use Rattle.std.proofs.lemmas.Bool.{cases_lt}
use Rattle.std.proofs.lemmas.List.{length-map}
use Rattle.std.proofs.lemmas.List.Elements.{All-nil, All-cons}
use Rattle.turn_lock.specs.Histories.{BeginsWith, past, made_by}
use Rattle.turn_lock.specs.Passes.{PassView}
use Rattle.turn_lock.specs.Views.{opened}
use Rattle.turn_lock.specs.declared.view.View.{View}
use Rattle.turn_lock.proofs.Lists.{begins_is}
use Rattle.stock_io.specs.Heard.{Heard}
use Rattle.shared_listener.specs.Steps.{comes, hangs, has_ended, IsOpened}
use Rattle.shared_listener.specs.Sharing.{AreFirstInOrder}
use Rattle.shared_listener.specs.Visits.{visits_to, IsVisited}
use Rattle.shared_listener.specs.declared.step.Step.{Step}
use Rattle.shared_listener.proofs.Ending.{IsSince, IsSince-end, IsVisited-end}
use Rattle.shared_listener.proofs.Merging.{visits_to-same, visits_to-other}
use Rattle.shared_listener.proofs.OneEach.{HaveOneEach, one_each}
use Rattle.shared_listener.proofs.StepLists.{comes-append}
use Rattle.desk_connections.specs.Visits.{Visit}
use Rattle.desk_service.specs.Desks.{Work, AreAttended}
use Rattle.desk_service.specs.Endings.{IsUnshared}
use Rattle.desk_service.proofs.AtWork.{attends, visits_at, comes_at, hangs_at, At, at, ways_down}
use Rattle.desk_service.proofs.Ended.{made_zero, made_other}
use Rattle.desk_service.proofs.Gathering.{IsDown, numbers, made_in, made_in-none, no_zero, no_later}

map_nil : {A B : Type 0} (f : A → B) (xs : List A) → map f xs ≡ [] → xs ≡ []
map_nil f [] none = refl
map_nil f (x ∷ xs) none = absurd (cc)

no_cons : {A : Type 0} (x : A) (xs zs : List A) → zs ≡ x ∷ xs → zs ≡ [] → ⊥
no_cons x xs [] some none = cc
no_cons x xs (z ∷ zs) some none = cc

module _ {V : Type 0} where
  -- where no other desk had a visit, each is to one of these desks
  pub all_within : (desks : ℕ) (all : List (ℕ × V)) → ((k : ℕ) → (k ≡ 0) ⊎ (desks < k) → visits_to k all ≡ [])
      → All (λ visit. (0 < visit.0) × (visit.0 ≤ desks)) all
  all_within desks [] none = All-nil (λ visit. (0 < visit.0) × (visit.0 ≤ desks))
  all_within desks ((n, v) ∷ all) none =
      let taken : (n ≡ 0) ⊎ (desks < n) → ⊥ = λ out. no_cons v (visits_to n all) (visits_to n ((n, v) ∷ all)) (visits_to-same n n v all refl) (none n out) in
      let inside : (0 < n) × (n ≤ desks) =
      dite (ℕ_discrete n 0) (λ is. absurd (taken (inl is)))
      (λ not. ⊎_elim (λ (more : desks < n). absurd (taken (inr more))) (λ (within : n ≤ desks). (omega (arith, not), within)) (cases_lt desks n)) in
      All-cons (λ visit. (0 < visit.0) × (visit.0 ≤ desks)) (n, v) all inside
      (all_within desks all (λ k out.
      dite (ℕ_discrete n k) (λ is. absurd (taken (subst (λ (m : ℕ). (m ≡ 0) ⊎ (desks < m)) (sym is) out)))
      (λ other. sym (visits_to-other n k v all other) ∙ none k out)))

  -- behind those that have one visit each come desks with none
  none_behind : (number : ℕ) (visits : ℕ → List V) (vs : List V) → HaveOneEach number visits vs → (k : ℕ) → number + length vs ≤ k → visits k ≡ []
  none_behind number visits [] each k behind = each k (omega (arith, behind))
  none_behind number visits (v ∷ vs) each k behind = none_behind (number + 1) visits vs each.1 k (omega (arith, behind))

  -- where fewer peers came than there are desks, those with higher numbers had none
  pub none_unbegun : (desks : ℕ) (all : List (ℕ × V)) → AreFirstInOrder 0 desks (map (λ v. v.0) all) → (k : ℕ) → length all < k → k ≤ desks
      → visits_to k all ≡ []
  none_unbegun desks all in_order k behind within =
      none_behind 1 (λ n. visits_to n all) (map (λ v. v.1) all) (one_each 0 desks all in_order (omega (arith, behind, within))) k
      (omega (arith, behind, length-map all (λ (v : ℕ × V). v.1)))

module _ {L P : Type 0} (left : P → Option (List ℕ)) (taken : P → ℕ) (written : P → Option (List ℕ)) (faults : P → ℕ) (ended : P → Bool)
    (telling : L → Heard P) (listens_to : L → Option (ℕ × Option ℕ)) (is_fresh : P → Type 0) (first : L) (desks wanted : ℕ)
    (log : List (ℕ × Step L P)) (is_opened : IsOpened first desks wanted log) (way : View (Step L P))
    (way_is : way ≡ record (opened log 0 (record { plan = None; calls = 0; events = 0 })) { split = desks })
    (works : List (Work L P)) (all : AreAttended (attends left taken written faults ended) 1 works) (as_many : length works ≡ desks)
    (ways : List (PassView (Step L P))) (ways_are : ways ≡ map (λ work. work.way_then) works) (listener : L) (accepted : ℕ)
    (unshared : IsUnshared telling listens_to is_fresh way ways listener accepted) where
  down : IsDown 1 desks (numbers ways)
  down =
      subst (λ (z : List (PassView (Step L P))). IsDown 1 desks (numbers z)) (sym ways_are)
      (subst (λ (n : ℕ). IsDown 1 n (numbers (map (λ (w : Work L P). w.way_then) works))) as_many
      (ways_down left taken written faults ended 1 works all))

  first_is : way.first ≡ log
  first_is = ap (λ (v : View (Step L P)). v.first) way_is

  zero_is : way.number ≡ 0
  zero_is = ap (λ (v : View (Step L P)). v.number) way_is

  none_joined : way.joined ≡ []
  none_joined = ap (λ (v : View (Step L P)). v.joined) way_is

  abbrev final : List (ℕ × Step L P)
  final = unshared.shared.log

  begins : BeginsWith final log
  begins = subst (λ (z : List (ℕ × Step L P)). BeginsWith final z) first_is unshared.closed.begins

  -- what each number did there since
  made : (k : ℕ) → made_by k (past log final) ≡ made_in k ways
  made zero =
      ap (λ (z : List (ℕ × Step L P)). made_by 0 (past z final)) (sym first_is)
      ∙ made_zero way ways final 0 desks unshared.closed zero_is none_joined down
      ∙ ap (λ (v : View (Step L P)). v.made) way_is ∙ sym (made_in-none 0 ways (no_zero desks ways down))
  made (suc k) =
      ap (λ (z : List (ℕ × Step L P)). made_by (suc k) (past z final)) (sym first_is)
      ∙ made_other way ways final 0 desks unshared.closed zero_is none_joined down (suc k) (omega arith)

  since : IsSince telling listens_to is_fresh first desks wanted log final unshared.shared.failed listener
  since =
      IsSince-end telling listens_to is_fresh first desks wanted unshared.shared.desks unshared.shared.wanted log final unshared.shared.failed
      listener is_opened begins unshared.is_shared

  pub port_kept : listens_to listener ≡ listens_to first
  port_kept = since.port_kept

  abbrev pub visits : ℕ → List (Visit P)
  visits = λ k. visits_at left taken written faults ended 1 k works all

  abbrev pub is_told : ℕ → Bool
  is_told = λ k. has_ended (made_in k ways)

  pub visited : IsVisited (λ visit. visit.peer) (λ visit. visit.peer_then) is_fresh desks wanted visits is_told (telling first) (telling listener)
  visited =
      IsVisited-end telling listens_to is_fresh first desks wanted log final unshared.shared.failed listener since
      (λ (visit : Visit P). visit.peer) (λ (visit : Visit P). visit.peer_then) visits is_told
      (λ k. ap comes (made k ∙ ap (made_in k) ways_are) ∙ comes_at left taken written faults ended 1 k works all)
      (λ k. ap hangs (made k ∙ ap (made_in k) ways_are) ∙ hangs_at left taken written faults ended 1 k works all)
      (λ k told. ap has_ended (made k) ∙ told)

  -- the first desk was told that no further peer comes
  pub told_first : 0 < desks → is_told 1 ≡ true
  told_first some =
      let one : At left taken written faults ended 1 (λ work. Unit {0}) 1 works all =
      at left taken written faults ended 1 (λ work. Unit {0}) 1 works all (λ i d within. tt) (omega arith) (omega (arith, some, as_many)) in
      ap has_ended (ap (made_in 1) ways_are ∙ one.way_made) ∙ one.did.told refl

  pub count : accepted ≡ length visited.came
  count =
      let whole : comes final ≡ comes (past log final) =
      ap comes (begins_is final log begins) ∙ comes-append log (past log final)
      ∙ ap (λ (z : List (ℕ × Step L P)). comes z ++ comes (past log final)) is_opened.1 in
      omega (arith, unshared.count, ap length whole, visited.accepts, since.shares.accepts)

  no_visits : (k : ℕ) → made_in k ways ≡ [] → visits k ≡ []
  no_visits k none =
      map_nil (λ (visit : Visit P). visit.peer) (visits k)
      (sym (comes_at left taken written faults ended 1 k works all) ∙ ap comes (ap (made_in k) (sym ways_are) ∙ none))

  pub within : All (λ visit. (0 < visit.0) × (visit.0 ≤ desks)) visited.came
  within =
      all_within desks visited.came
      (λ k out. visited.to_each k ∙ no_visits k
      (⊎_elim (λ (none : k ≡ 0). ap (λ (n : ℕ). made_in n ways) none ∙ made_in-none 0 ways (no_zero desks ways down))
      (λ (later : desks < k). made_in-none k ways (no_later 1 desks k ways down (omega (arith, later)))) out))
