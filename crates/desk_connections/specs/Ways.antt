-- A desk's way to the listener: its pass of the lock under which desks share it.
use Rattle.std.specs.Prelude.{ℕ, ◌≡◌, ◌+◌, ◌^◌, ◌<◌, ◌≤◌, ◌⊎◌, Option, Some, None, List, [], ◌∷◌, length, take}
use Rattle.turn_lock.specs.Histories.{BeginsWith}
use Rattle.turn_lock.specs.declared.view.View.{View}
use Rattle.shared_listener.specs.Steps.{comes, hangs, NotesCame, NotesEnded}
use Rattle.shared_listener.specs.declared.listener.Next.{Next}
use Rattle.shared_listener.specs.declared.listener.Next.TheVariants.{Peer, NotYet, Over}
use Rattle.shared_listener.specs.declared.step.Opening.{Opening}
use Rattle.shared_listener.specs.declared.step.Step.{Step}
use Rattle.shared_listener.specs.declared.step.Step.TheVariants.{Opened}

module _ {L P : Type 0} where
  -- the lock was made with a listener that desks share from then on, and the pass has seen that
  pub record IsWay (way : View (Step L P)) : Type 0 where
    pub opening : Opening L
    pub opened : way.first ≡ (0, Opened opening) ∷ []
    pub begins : BeginsWith way.seen way.first

  -- what turns leave of what the pass knows
  abbrev pub LeavesWay : View (Step L P) → View (Step L P) → Type 0
  LeavesWay old new =
      new ≡ record old { seen = new.seen; seen_faults = new.seen_faults; made = new.made; stops = new.stops; faults = new.faults }

  -- at no time more than one of the peers that came to the desk was not yet handed back
  abbrev pub OneAtATime : List (ℕ × Step L P) → Type 0
  OneAtATime made = (n : ℕ) → length (comes (take n made)) ≤ length (hangs (take n made)) + 1

  -- this peer came to the desk, or it was told that no further one does
  abbrev pub Finds : ℕ → View (Step L P) → Option P → View (Step L P) → Type 0
  Finds number old (Some peer) new = NotesCame number peer old.made new.made
  Finds number old None new = NotesEnded number old.made new.made

  -- what was noted as the desk was told this
  abbrev pub Asks : ℕ → List (ℕ × Step L P) → Next P → List (ℕ × Step L P) → Type 0
  Asks number old (Peer peer) new = NotesCame number peer old new
  Asks number old NotYet new = new ≡ old
  Asks number old Over new = NotesEnded number old new
