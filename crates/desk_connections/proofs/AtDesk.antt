-- What a desk did so far: with a peer that is at it, and between two peers.
use Rattle.std.proofs.Common.{◌≡◌, ℕ, ◌+◌, ◌^◌, ◌<◌, ◌≤◌, ◌⊎◌, ⊎_elim, inl, inr, Bool, true, false, List, [], ◌∷◌, ◌++◌, length, map, take, drop, sym, refl, ap, ◌∙◌, subst, arith, append-nil, length-append}
use Rattle.std.proofs.lemmas.Bool.{cases_lt}
use Rattle.std.proofs.lemmas.List.{map-append, length-map, take-append-drop, take-append-le, take_all}
use Rattle.std.specs.Prelude.{◌||◌}
use Rattle.shared_listener.proofs.StepLists.{comes-append, hangs-append, has_ended-append}
use Rattle.shared_listener.specs.Steps.{comes, hangs, has_ended, NotesCame, NotesEnded, NotesHungUp}
use Rattle.shared_listener.specs.declared.step.Step.{Step}
use Rattle.shared_listener.specs.declared.step.Step.TheVariants.{Came, HungUp, Ended}
use Rattle.desk_connections.specs.Desks.{ServesOne, HasServed}
use Rattle.desk_connections.specs.Visits.{Visit, Learnt, Lead}
use Rattle.desk_connections.specs.Ways.{OneAtATime}
use Rattle.desk_connections.proofs.Visiting.{Lead-more}

module _ {L P : Type 0} where
  -- one peer came, and none was handed back
  one-first : (made : List (ℕ × Step L P)) (first : P) → comes made ≡ first ∷ [] → OneAtATime made
  one-first made first came n =
      omega (
        arith,
        ap length came,
        ap (λ (z : List (ℕ × Step L P)). length (comes z)) (take-append-drop n made),
        ap length (comes-append (take n made) (drop n made)),
        length-append (comes (take n made)) (comes (drop n made)),
      )

  -- after one step more
  one-more : (made made' : List (ℕ × Step L P)) (step : ℕ × Step L P) → made' ≡ made ++ step ∷ [] → OneAtATime made
      → length (comes made') ≤ length (hangs made') + 1 → OneAtATime made'
  one-more made made' step more one all n =
      ⊎_elim
      (λ (before : n < length made').
      subst (λ (z : List (ℕ × Step L P)). length (comes z) ≤ length (hangs z) + 1)
      (sym (ap (take n) more ∙ take-append-le n made (step ∷ []) (omega (arith, ap length more, length-append made (step ∷ []))))) (one n))
      (λ (after : length made' ≤ n).
      subst (λ (z : List (ℕ × Step L P)). length (comes z) ≤ length (hangs z) + 1) (sym (take_all n made' after)) all)
      (cases_lt n (length made'))

module _ {L P : Type 0} (is_visit : Visit P → Type 0) where
  -- the peers that came were served and handed back, and one more is at the desk
  pub record HasPeer (pass pass' : Learnt) (made : List (ℕ × Step L P)) (peer : P) : Type 0 where
    pub visits : List (Visit P)
    pub lead : Lead is_visit pass pass' visits
    pub came : comes made ≡ map (λ visit. visit.peer) visits ++ peer ∷ []
    pub went : hangs made ≡ map (λ visit. visit.peer_then) visits
    pub one_at_a_time : OneAtATime made

  pub has-first : (pass : Learnt) (made : List (ℕ × Step L P)) (first : P) → comes made ≡ first ∷ [] → hangs made ≡ []
      → HasPeer pass pass made first
  has-first pass made first came none_went = record {
    visits = [];
    lead = refl;
    came = came;
    went = none_went;
    one_at_a_time = one-first made first came;
  }

  -- no more peers were handed back than came, and one fewer while one is at the desk
  pub fewer-went : (pass pass' : Learnt) (made : List (ℕ × Step L P)) (peer : P) → HasPeer pass pass' made peer
      → length (hangs made) < length (comes made)
  fewer-went pass pass' made peer has =
      omega (
        arith,
        ap length has.went,
        ap length has.came,
        length-map has.visits (λ (visit : Visit P). visit.peer_then),
        length-map has.visits (λ (visit : Visit P). visit.peer),
        length-append (map (λ (visit : Visit P). visit.peer) has.visits) (peer ∷ []),
      )

  -- as many were handed back as came, and where one more is at the desk one fewer
  none-left : (made : List (ℕ × Step L P)) (visits : List (Visit P)) → comes made ≡ map (λ visit. visit.peer) visits
      → hangs made ≡ map (λ visit. visit.peer_then) visits → length (comes made) ≤ length (hangs made) + 1
  none-left made visits came went =
      omega (
        arith,
        ap length went,
        ap length came,
        length-map visits (λ (visit : Visit P). visit.peer_then),
        length-map visits (λ (visit : Visit P). visit.peer),
      )

  one-left : (made : List (ℕ × Step L P)) (visits : List (Visit P)) (peer : P) → comes made ≡ map (λ visit. visit.peer) visits ++ peer ∷ []
      → hangs made ≡ map (λ visit. visit.peer_then) visits → length (comes made) ≤ length (hangs made) + 1
  one-left made visits peer came went =
      omega (
        arith,
        ap length went,
        ap length came,
        length-map visits (λ (visit : Visit P). visit.peer_then),
        length-map visits (λ (visit : Visit P). visit.peer),
        length-append (map (λ (visit : Visit P). visit.peer) visits) (peer ∷ []),
      )

  -- the peer was served and handed back
  pub then-none : (number : ℕ) (pass mid new : Learnt) (made made' : List (ℕ × Step L P)) (peer : P)
      → HasPeer pass mid made peer → ServesOne is_visit number mid new made made' peer → HasServed is_visit pass new made'
  then-none number pass mid new made made' peer has one =
      let step : ℕ × Step L P = (number, HungUp one.went.0) in
      let came : comes made' ≡ map (λ visit. visit.peer) (has.visits ++ one.visit ∷ []) =
      ap comes one.went.1 ∙ comes-append made (step ∷ []) ∙ append-nil (comes made) ∙ has.came
      ∙ ap (λ (p : P). map (λ (visit : Visit P). visit.peer) has.visits ++ p ∷ []) (sym one.of)
      ∙ sym (map-append (λ (visit : Visit P). visit.peer) has.visits (one.visit ∷ [])) in
      let went : hangs made' ≡ map (λ visit. visit.peer_then) (has.visits ++ one.visit ∷ []) =
      ap hangs one.went.1 ∙ hangs-append made (step ∷ []) ∙ ap (λ (z : List P). z ++ one.went.0.value ∷ []) has.went
      ∙ ap (λ (p : P). map (λ (visit : Visit P). visit.peer_then) has.visits ++ p ∷ []) one.went.2
      ∙ sym (map-append (λ (visit : Visit P). visit.peer_then) has.visits (one.visit ∷ [])) in
      record {
        visits = has.visits ++ one.visit ∷ [];
        lead =
            Lead-more is_visit pass new has.visits one.visit (subst (λ (v : Learnt). Lead is_visit pass v has.visits) (sym one.before) has.lead)
            one.is one.after;
        came = came;
        went = went;
        one_at_a_time =
            one-more made made' step one.went.1 has.one_at_a_time (none-left made' (has.visits ++ one.visit ∷ []) came went);
      }

  -- the next peer came
  pub then-peer : (number : ℕ) (pass pass' : Learnt) (made made' : List (ℕ × Step L P)) (peer : P)
      → HasServed is_visit pass pass' made → NotesCame number peer made made' → HasPeer pass pass' made' peer
  then-peer number pass pass' made made' peer has noted =
      let step : ℕ × Step L P = (number, Came noted.0) in
      let came : comes made' ≡ map (λ visit. visit.peer) has.visits ++ peer ∷ [] =
      ap comes noted.1 ∙ comes-append made (step ∷ []) ∙ ap (λ (z : List P). z ++ noted.0.value ∷ []) has.came
      ∙ ap (λ (p : P). map (λ (visit : Visit P). visit.peer) has.visits ++ p ∷ []) noted.2 in
      let went : hangs made' ≡ map (λ visit. visit.peer_then) has.visits =
      ap hangs noted.1 ∙ hangs-append made (step ∷ []) ∙ append-nil (hangs made) ∙ has.went in
      record {
        visits = has.visits;
        lead = has.lead;
        came = came;
        went = went;
        one_at_a_time = one-more made made' step noted.1 has.one_at_a_time (one-left made' has.visits peer came went);
      }

  -- no further peer came
  pub ended-none : (number : ℕ) (pass pass' : Learnt) (made made' : List (ℕ × Step L P))
      → HasServed is_visit pass pass' made → NotesEnded number made made' → HasServed is_visit pass pass' made'
  ended-none number pass pass' made made' has ended =
      let step : ℕ × Step L P = (number, Ended) in
      let came : comes made' ≡ map (λ visit. visit.peer) has.visits =
      ap comes ended ∙ comes-append made (step ∷ []) ∙ append-nil (comes made) ∙ has.came in
      let went : hangs made' ≡ map (λ visit. visit.peer_then) has.visits =
      ap hangs ended ∙ hangs-append made (step ∷ []) ∙ append-nil (hangs made) ∙ has.went in
      record {
        visits = has.visits;
        lead = has.lead;
        came = came;
        went = went;
        one_at_a_time = one-more made made' step ended has.one_at_a_time (none-left made' has.visits came went);
      }

or-true : (b : Bool) → (b || true) ≡ true
or-true true = refl
or-true false = refl

-- a desk that was told so
pub was-told : {L P : Type 0} (number : ℕ) (made made' : List (ℕ × Step L P)) → NotesEnded number made made' → has_ended made' ≡ true
was-told number made made' ended = ap has_ended ended ∙ has_ended-append made ((number, Ended) ∷ []) ∙ or-true (has_ended made)

-- one more came, and was handed back
pub one-came : {L P : Type 0} (number : ℕ) (peer : P) (made made' : List (ℕ × Step L P)) → NotesCame number peer made made'
    → (length (comes made') ≡ length (comes made) + 1) × (length (hangs made') ≡ length (hangs made))
one-came number peer made made' noted =
    let step : List (ℕ × Step _ _) = (number, Came noted.0) ∷ [] in (
      ap length (ap comes noted.1 ∙ comes-append made step) ∙ length-append (comes made) (noted.0.value ∷ []),
      ap length (ap hangs noted.1 ∙ hangs-append made step ∙ append-nil (hangs made)),
    )

pub one-went : {L P : Type 0} (number : ℕ) (peer : P) (made made' : List (ℕ × Step L P)) → NotesHungUp number peer made made'
    → (length (comes made') ≡ length (comes made)) × (length (hangs made') ≡ length (hangs made) + 1)
one-went number peer made made' noted =
    let step : List (ℕ × Step _ _) = (number, HungUp noted.0) ∷ [] in (
      ap length (ap comes noted.1 ∙ comes-append made step ∙ append-nil (comes made)),
      ap length (ap hangs noted.1 ∙ hangs-append made step) ∙ length-append (hangs made) (noted.0.value ∷ []),
    )
