-- What desks did at a listener that they share, told by the visits of peers to them.
use Rattle.std.proofs.Common.{◌≡◌, ℕ, List, [], ◌∷◌, length, map, refl, sym, ap, ◌∙◌, subst, arith, eq-eqb, ne_eqb}
use Rattle.std.specs.Prelude.{Bool, true, All}
use Rattle.std.proofs.lemmas.List.{length-map}
use Rattle.std.proofs.lemmas.List.Sorted.{length_permutation}
use mathlib.Core.Logic.{dite}
use native.Mathlib.Decide.{ℕ_discrete}
use Rattle.turn_lock.specs.Histories.{made_by}
use Rattle.stock_io.specs.Heard.{HandsOutAll, HangsUpAll, Heard}
use Rattle.shared_listener.specs.Steps.{comes, hangs, comers, has_ended}
use Rattle.shared_listener.specs.Sharing.{AreFirstInOrder, Shares}
use Rattle.shared_listener.specs.Listening.{Accepts, HangsUp}
use Rattle.shared_listener.specs.Visits.{visits_to, IsVisited}
use Rattle.shared_listener.specs.declared.step.Step.{Step}
use Rattle.shared_listener.specs.declared.step.Step.TheVariants.{Opened, Came, HungUp, Ended}
use Rattle.shared_listener.proofs.Listening.{closed_of, Shares-all, Shares-cause}
use Rattle.shared_listener.proofs.Merging.{Merged, merged, same_visits}

module _ {L P : Type 0} where
  -- each peer that came, and each that was handed back, with the number of its desk
  abbrev pub arrivals : List (ℕ × Step L P) → List (ℕ × P)
  arrivals [] = []
  arrivals ((k, Opened opening) ∷ log) = arrivals log
  arrivals ((k, Came what) ∷ log) = (k, what.value) ∷ arrivals log
  arrivals ((k, HungUp what) ∷ log) = arrivals log
  arrivals ((k, Ended) ∷ log) = arrivals log

  abbrev pub departures : List (ℕ × Step L P) → List (ℕ × P)
  departures [] = []
  departures ((k, Opened opening) ∷ log) = departures log
  departures ((k, Came what) ∷ log) = departures log
  departures ((k, HungUp what) ∷ log) = (k, what.value) ∷ departures log
  departures ((k, Ended) ∷ log) = departures log

  comes-arrivals : (log : List (ℕ × Step L P)) → comes log ≡ map (λ e. e.1) (arrivals log)
  comes-arrivals [] = refl
  comes-arrivals ((k, Opened opening) ∷ log) = comes-arrivals log
  comes-arrivals ((k, Came what) ∷ log) = ap (λ (z : List P). what.value ∷ z) (comes-arrivals log)
  comes-arrivals ((k, HungUp what) ∷ log) = comes-arrivals log
  comes-arrivals ((k, Ended) ∷ log) = comes-arrivals log

  comers-arrivals : (log : List (ℕ × Step L P)) → comers log ≡ map (λ e. e.0) (arrivals log)
  comers-arrivals [] = refl
  comers-arrivals ((k, Opened opening) ∷ log) = comers-arrivals log
  comers-arrivals ((k, Came what) ∷ log) = ap (λ (z : List ℕ). k ∷ z) (comers-arrivals log)
  comers-arrivals ((k, HungUp what) ∷ log) = comers-arrivals log
  comers-arrivals ((k, Ended) ∷ log) = comers-arrivals log

  hangs-departures : (log : List (ℕ × Step L P)) → hangs log ≡ map (λ e. e.1) (departures log)
  hangs-departures [] = refl
  hangs-departures ((k, Opened opening) ∷ log) = hangs-departures log
  hangs-departures ((k, Came what) ∷ log) = hangs-departures log
  hangs-departures ((k, HungUp what) ∷ log) = ap (λ (z : List P). what.value ∷ z) (hangs-departures log)
  hangs-departures ((k, Ended) ∷ log) = hangs-departures log

  arrivals-made : (k : ℕ) (log : List (ℕ × Step L P)) → arrivals (made_by k log) ≡ made_by k (arrivals log)
  arrivals-made k [] = refl
  arrivals-made k ((n, Opened opening) ∷ log) = let r = arrivals-made k log in dite (ℕ_discrete n k)
      (λ e. rw (eq-eqb n k e) r) (λ d. rw (ne_eqb n k d) r)
  arrivals-made k ((n, Came what) ∷ log) = let r = arrivals-made k log in dite (ℕ_discrete n k)
      (λ e. rw (eq-eqb n k e) (ap (λ (z : List (ℕ × P)). (n, what.value) ∷ z) r)) (λ d. rw (ne_eqb n k d) r)
  arrivals-made k ((n, HungUp what) ∷ log) = let r = arrivals-made k log in dite (ℕ_discrete n k)
      (λ e. rw (eq-eqb n k e) r) (λ d. rw (ne_eqb n k d) r)
  arrivals-made k ((n, Ended) ∷ log) = let r = arrivals-made k log in dite (ℕ_discrete n k)
      (λ e. rw (eq-eqb n k e) r) (λ d. rw (ne_eqb n k d) r)

  departures-made : (k : ℕ) (log : List (ℕ × Step L P)) → departures (made_by k log) ≡ made_by k (departures log)
  departures-made k [] = refl
  departures-made k ((n, Opened opening) ∷ log) = let r = departures-made k log in dite (ℕ_discrete n k)
      (λ e. rw (eq-eqb n k e) r) (λ d. rw (ne_eqb n k d) r)
  departures-made k ((n, Came what) ∷ log) = let r = departures-made k log in dite (ℕ_discrete n k)
      (λ e. rw (eq-eqb n k e) r) (λ d. rw (ne_eqb n k d) r)
  departures-made k ((n, HungUp what) ∷ log) = let r = departures-made k log in dite (ℕ_discrete n k)
      (λ e. rw (eq-eqb n k e) (ap (λ (z : List (ℕ × P)). (n, what.value) ∷ z) r)) (λ d. rw (ne_eqb n k d) r)
  departures-made k ((n, Ended) ∷ log) = let r = departures-made k log in dite (ℕ_discrete n k)
      (λ e. rw (eq-eqb n k e) r) (λ d. rw (ne_eqb n k d) r)

  comes-made : (k : ℕ) (log : List (ℕ × Step L P)) → visits_to k (arrivals log) ≡ comes (made_by k log)
  comes-made k log = ap (map (λ (e : ℕ × P). e.1)) (sym (arrivals-made k log)) ∙ sym (comes-arrivals (made_by k log))

  hangs-made : (k : ℕ) (log : List (ℕ × Step L P)) → visits_to k (departures log) ≡ hangs (made_by k log)
  hangs-made k log = ap (map (λ (e : ℕ × P). e.1)) (sym (departures-made k log)) ∙ sym (hangs-departures (made_by k log))

  -- what one desk was told, some desk was
  pub has_ended-made : (k : ℕ) (log : List (ℕ × Step L P)) → has_ended (made_by k log) ≡ true → has_ended log ≡ true
  has_ended-made k [] has = has
  has_ended-made k ((n, Opened opening) ∷ log) has = has_ended-made k log (dite (ℕ_discrete n k)
      (λ e. rw (eq-eqb n k e) at has) (λ d. rw (ne_eqb n k d) at has))
  has_ended-made k ((n, Came what) ∷ log) has = has_ended-made k log (dite (ℕ_discrete n k)
      (λ e. rw (eq-eqb n k e) at has) (λ d. rw (ne_eqb n k d) at has))
  has_ended-made k ((n, HungUp what) ∷ log) has = has_ended-made k log (dite (ℕ_discrete n k)
      (λ e. rw (eq-eqb n k e) at has) (λ d. rw (ne_eqb n k d) at has))
  has_ended-made k ((n, Ended) ∷ log) has = refl

-- of visits with their numbers: the peers, and the numbers
peers-visits : {P V : Type 0} (f : V → P) (all : List (ℕ × V)) → map (λ (e : ℕ × P). e.1) (map (λ (v : ℕ × V). (v.0, f v.1)) all) ≡ map (λ v. f v.1) all
peers-visits f [] = refl
peers-visits f (v ∷ all) = ap (λ z. f v.1 ∷ z) (peers-visits f all)

numbers-visits : {P V : Type 0} (f : V → P) (all : List (ℕ × V)) → map (λ (e : ℕ × P). e.0) (map (λ (v : ℕ × V). (v.0, f v.1)) all) ≡ map (λ v. v.0) all
numbers-visits f [] = refl
numbers-visits f (v ∷ all) = ap (λ (z : List ℕ). v.0 ∷ z) (numbers-visits f all)

module _ {L P V : Type 0} (peer peer_then : V → P) (is_fresh : P → Type 0) (desks wanted : ℕ) where
  -- where the peers that came to each desk and those that it handed back are those of its visits
  pub IsVisited-shares : (failed : Bool) (log : List (ℕ × Step L P)) (visits : ℕ → List V) (is_told : ℕ → Bool) (old new : Heard P)
      → Shares is_fresh desks wanted failed log old new
      → ((k : ℕ) → comes (made_by k log) ≡ map peer (visits k)) → ((k : ℕ) → hangs (made_by k log) ≡ map peer_then (visits k))
      → ((k : ℕ) → is_told k ≡ true → has_ended (made_by k log) ≡ true)
      → IsVisited peer peer_then is_fresh desks wanted visits is_told old new
  IsVisited-shares failed log visits is_told old new shares to_each left_each told =
      let c : Merged peer (arrivals log) visits = merged peer (arrivals log) visits (λ k. comes-made k log ∙ to_each k) in
      let l : Merged peer_then (departures log) visits = merged peer_then (departures log) visits (λ k. hangs-made k log ∙ left_each k) in
      let came : comes log ≡ map (λ v. peer v.1) c.all = comes-arrivals log ∙ ap (map (λ (e : ℕ × P). e.1)) c.are ∙ peers-visits peer c.all in
      let numbers : comers log ≡ map (λ v. v.0) c.all = comers-arrivals log ∙ ap (map (λ (e : ℕ × P). e.0)) c.are ∙ numbers-visits peer c.all in
      let left : hangs log ≡ map (λ v. peer_then v.1) l.all = hangs-departures log ∙ ap (map (λ (e : ℕ × P). e.1)) l.are ∙ peers-visits peer_then l.all in
      let count : length (comes log) ≡ length c.all = ap length came ∙ length-map c.all (λ (v : ℕ × V). peer v.1) in
      let permuted = same_visits c.all l.all (λ k. c.own k ∙ sym (l.own k)) in
      let count_left : length (hangs log) ≡ length c.all =
      ap length left ∙ length-map l.all (λ (v : ℕ × V). peer_then v.1) ∙ length_permutation c.all l.all permuted in
      record {
        came = c.all;
        left = l.all;
        to_each = c.own;
        all_left = permuted;
        left_each = l.own;
        handed_out = subst (λ (z : List P). HandsOutAll old.waiting new.waiting z) came shares.handed_out;
        are_fresh = subst (λ (z : List P). All is_fresh z) came shares.are_fresh;
        accepts = omega (arith, shares.accepts, count);
        no_more = omega (arith, shares.no_more, count);
        in_order = subst (λ (z : List ℕ). AreFirstInOrder 0 desks z) numbers shares.in_order;
        hung_up = subst (λ (z : List P). HangsUpAll old.hung_up new.hung_up z) left shares.hung_up;
        hang_ups = omega (arith, shares.hang_ups, count_left);
        never_falls = shares.never_falls;
        no_fault = λ all. Shares-all is_fresh desks wanted failed log old new shares (count ∙ all);
        cause = λ k is_told less. Shares-cause is_fresh desks wanted failed log old new shares (has_ended-made k log (told k is_told)) (omega (arith, less, count));
      }

module _ {P V : Type 0} (peer peer_then : V → P) (is_fresh : P → Type 0) (desks wanted : ℕ) (visits : ℕ → List V) (is_told : ℕ → Bool) (old new : Heard P)
    (visited : IsVisited peer peer_then is_fresh desks wanted visits is_told old new) where
  count-peers : length (map (λ visit. peer visit.1) visited.came) ≡ length visited.came
  count-peers = length-map visited.came (λ (visit : ℕ × V). peer visit.1)

  -- where a desk was told the end, the visits tell which peers were accepted
  pub Accepts-visited : (k : ℕ) → is_told k ≡ true → Accepts is_fresh wanted old (closed_of old new) (map (λ visit. peer visit.1) visited.came)
  Accepts-visited k told = record {
    came = visited.handed_out;
    are_fresh = visited.are_fresh;
    accepts = omega (arith, visited.accepts, count-peers);
    hung_up = refl;
    hang_ups = refl;
    no_more = omega (arith, visited.no_more, count-peers);
    never_falls = visited.never_falls;
    all = λ whole. visited.no_fault (sym count-peers ∙ whole);
    cause = λ fewer. visited.cause k told (omega (arith, fewer, count-peers));
  }

  -- and which were hung up
  pub HangsUp-visited : HangsUp (closed_of old new) new (map (λ visit. peer_then visit.1) visited.left)
  HangsUp-visited =
      let count = length-map visited.left (λ (visit : ℕ × V). peer_then visit.1) in
      let same = length_permutation visited.came visited.left visited.all_left in
      record { last = visited.hung_up; hang_ups = omega (arith, visited.hang_ups, count, same); waiting = refl; accepts = refl; faults = refl }
