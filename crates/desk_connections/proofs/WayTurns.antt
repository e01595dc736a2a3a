-- Turns of a desk's pass of the listener's lock.
use Rattle.std.proofs.Common.{◌≡◌, ℕ, ◌<◌, Bool, true, false, cond, List, [], ◌∷◌, ◌++◌, length, sym, refl, ap, ◌∙◌, subst}
use Rattle.std.proofs.lemmas.List.{append-nil}
use Rattle.std.proofs.lemmas.List.Elements.{All-nil, All-cons}
use Rattle.std.specs.Prelude.{All, ⊤, ◌==◌}
use Rattle.turn_lock.proofs.Lists.{begins_is, begins_self, begins_more, past_more, past_self, begins_through}
use Rattle.turn_lock.specs.Histories.{BeginsWith, past, made_by}
use Rattle.turn_lock.specs.declared.view.View.{View}
use Rattle.shared_listener.specs.Steps.{comes, hangs, NotesCame, NotesHungUp, NotesEnded}
use Rattle.shared_listener.specs.Turns.{IfPeer, OnOver}
use Rattle.shared_listener.specs.declared.listener.Next.{Next}
use Rattle.shared_listener.specs.declared.listener.Next.TheVariants.{Peer, NotYet, Over}
use Rattle.shared_listener.specs.declared.step.Opening.{Opening}
use Rattle.shared_listener.specs.declared.step.Step.{Step}
use Rattle.shared_listener.specs.declared.step.Step.TheVariants.{Opened, Came, HungUp, Ended}
use Rattle.desk_connections.specs.Ways.{IsWay, Asks}

-- turns after turns leave what both leave
pub rest-through : {E : Type 0} (old mid new : View E)
    → mid ≡ record old { seen = mid.seen; seen_faults = mid.seen_faults; made = mid.made; stops = mid.stops; faults = mid.faults }
    → new ≡ record mid { seen = new.seen; seen_faults = new.seen_faults; made = new.made; stops = new.stops; faults = new.faults }
    → new ≡ record old { seen = new.seen; seen_faults = new.seen_faults; made = new.made; stops = new.stops; faults = new.faults }
rest-through {E} old mid new one other =
    other ∙ ap (λ (v : View E). record v { seen = new.seen; seen_faults = new.seen_faults; made = new.made; stops = new.stops; faults = new.faults }) one

module _ {L P : Type 0} where
  -- the pass has seen what a turn left, which began with what it had seen
  pub IsWay-turned : (old new : View (Step L P)) (taken log : List (ℕ × Step L P)) → IsWay old → new.first ≡ old.first
      → BeginsWith taken old.seen → BeginsWith log taken → new.seen ≡ log → IsWay new
  IsWay-turned old new taken log way same began grown seen = record {
    opening = way.opening;
    opened = same ∙ way.opened;
    begins =
        subst (BeginsWith new.seen) (sym same)
        (subst (λ (z : List (ℕ × Step L P)). BeginsWith z old.first) (sym seen)
        (begins_through old.first taken log (begins_through old.first old.seen taken way.begins began) grown));
  }

  -- that desks share the listener from then on tells of no peer
  comes-opened : (b : Bool) (opening : Opening L) (steps : List (ℕ × Step L P))
      → comes (cond b ((0, Opened opening) ∷ steps) steps) ≡ comes steps
  comes-opened true opening steps = refl
  comes-opened false opening steps = refl

  hangs-opened : (b : Bool) (opening : Opening L) (steps : List (ℕ × Step L P))
      → hangs (cond b ((0, Opened opening) ∷ steps) steps) ≡ hangs steps
  hangs-opened true opening steps = refl
  hangs-opened false opening steps = refl

  -- what a desk did, by all that the lock hands out
  module _ (number : ℕ) (way : View (Step L P)) (taken : List (ℕ × Step L P)) (is : IsWay way)
      (begins : BeginsWith taken way.seen) (own : made_by number (past way.first taken) ≡ way.made) where
    taken-is : taken ≡ (0, Opened is.opening) ∷ past way.first taken
    taken-is =
        begins_is taken way.first (begins_through way.first way.seen taken is.begins begins)
        ∙ ap (λ (z : List (ℕ × Step L P)). z ++ past way.first taken) is.opened

    pub comes-own : comes (made_by number taken) ≡ comes way.made
    comes-own =
        ap (λ (z : List (ℕ × Step L P)). comes (made_by number z)) taken-is
        ∙ comes-opened (0 == number) is.opening (made_by number (past way.first taken))
        ∙ ap comes own

    pub hangs-own : hangs (made_by number taken) ≡ hangs way.made
    hangs-own =
        ap (λ (z : List (ℕ × Step L P)). hangs (made_by number z)) taken-is
        ∙ hangs-opened (0 == number) is.opening (made_by number (past way.first taken))
        ∙ ap hangs own

    -- what `hang_up` requires
    pub has_peer-taken : length (hangs way.made) < length (comes way.made)
        → length (hangs (made_by number taken)) < length (comes (made_by number taken))
    has_peer-taken has =
        subst (λ (z : List P). length z < length (comes (made_by number taken))) (sym hangs-own)
        (subst (λ (z : List P). length (hangs way.made) < length z) (sym comes-own) has)

  -- the lock handed out this log, got it back with these steps besides, and the pass keeps what it made
  pub made-added : (taken log added made made' : List (ℕ × Step L P)) → log ≡ taken ++ added → made' ≡ made ++ past taken log
      → made' ≡ made ++ added
  made-added taken log added made made' grows keeps =
      keeps ∙ ap (λ (z : List (ℕ × Step L P)). made ++ z) (ap (past taken) grows ∙ past_more taken added)

  pub begins-added : (taken log added : List (ℕ × Step L P)) → log ≡ taken ++ added → BeginsWith log taken
  begins-added taken log added grows =
      subst (λ (z : List (ℕ × Step L P)). BeginsWith z taken) (sym grows) (begins_more taken added)

  own-added : (number : ℕ) (taken log : List (ℕ × Step L P)) (step : Step L P) → log ≡ taken ++ (number, step) ∷ []
      → All (λ (e : ℕ × Step L P). e.0 ≡ number) (past taken log)
  own-added number taken log step grows =
      subst (All (λ (e : ℕ × Step L P). e.0 ≡ number)) (sym (ap (past taken) grows ∙ past_more taken ((number, step) ∷ [])))
      (All-cons (λ (e : ℕ × Step L P). e.0 ≡ number) (number, step) [] refl (All-nil (λ (e : ℕ × Step L P). e.0 ≡ number)))

  -- what the listener noted as it was asked, after the log that the lock handed out
  pub asks-from : (number : ℕ) (next : Next P) (taken old new : List (ℕ × Step L P)) → old ≡ taken
      → IfPeer next (λ peer. NotesCame number peer old new) → OnOver next (NotesEnded number old new) → (next ≡ NotYet → new ≡ old)
      → Asks number taken next new
  asks-from number (Peer peer) taken old new same came over unchanged =
      subst (λ (z : List (ℕ × Step L P)). NotesCame number peer z new) same came
  asks-from number NotYet taken old new same came over unchanged = unchanged refl ∙ same
  asks-from number Over taken old new same came over unchanged =
      subst (λ (z : List (ℕ × Step L P)). NotesEnded number z new) same over

  pub asks-begins : (number : ℕ) (next : Next P) (old new : List (ℕ × Step L P)) → Asks number old next new → BeginsWith new old
  asks-begins number (Peer peer) old new asks = begins-added old new ((number, Came asks.0) ∷ []) asks.1
  asks-begins number NotYet old new asks = subst (λ (z : List (ℕ × Step L P)). BeginsWith z old) (sym asks) (begins_self old)
  asks-begins number Over old new asks = begins-added old new ((number, Ended) ∷ []) asks

  pub asks-own : (number : ℕ) (next : Next P) (old new : List (ℕ × Step L P)) → Asks number old next new
      → All (λ (e : ℕ × Step L P). e.0 ≡ number) (past old new)
  asks-own number (Peer peer) old new asks = own-added number old new (Came asks.0) asks.1
  asks-own number NotYet old new asks =
      subst (All (λ (e : ℕ × Step L P). e.0 ≡ number)) (sym (ap (past old) asks ∙ past_self old))
      (All-nil (λ (e : ℕ × Step L P). e.0 ≡ number))
  asks-own number Over old new asks = own-added number old new Ended asks

  -- what the pass made then
  pub asks-made : (number : ℕ) (next : Next P) (old new made made' : List (ℕ × Step L P)) → Asks number old next new
      → made' ≡ made ++ past old new → Asks number made next made'
  asks-made number (Peer peer) old new made made' asks keeps =
      (asks.0, made-added old new ((number, Came asks.0) ∷ []) made made' asks.1 keeps, asks.2)
  asks-made number NotYet old new made made' asks keeps =
      made-added old new [] made made' (asks ∙ sym (append-nil old)) keeps ∙ append-nil made
  asks-made number Over old new made made' asks keeps = made-added old new ((number, Ended) ∷ []) made made' asks keeps
