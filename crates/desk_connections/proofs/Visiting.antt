-- Visits of one desk, one after another, and the sessions in them.
use Rattle.std.proofs.Common.{◌≡◌, ℕ, ◌<◌, List, [], ◌∷◌, ◌++◌, length, sym, subst, arith}
use Rattle.std.proofs.lemmas.List.Elements.{All-nil, All-cons, All-append}
use Rattle.std.proofs.lemmas.List.Kept.{AllPairs-cons}
use Rattle.std.specs.Prelude.{All, AllPairs}
use Rattle.turn_lock.proofs.Lists.{begins_self, begins_through}
use Rattle.turn_lock.specs.Histories.{BeginsWith, past, made_by}
use Rattle.stock_model.specs.declared.deeds.Deed.{Deed}
use Rattle.stock_model.specs.declared.records.Record.{Record}
use Rattle.session_laws.proofs.Going.{Session-none, Session-on}
use Rattle.session_laws.proofs.Serving.{Served-by_session}
use Rattle.session_laws.specs.Exchanges.{Exchange}
use Rattle.session_laws.specs.Makers.{with_makers}
use Rattle.session_laws.specs.Sessions.{Session, Served}
use Rattle.mirrored_sessions.specs.Steps.{Step, turned_in, IsReading, AreNoFewer}
use Rattle.mirrored_sessions.proofs.StepLemmas.{turned_in-append, All-longer}
use Rattle.desk_connections.specs.Visits.{Learnt, Remembers, Visit, Lead, AreSessions, all_steps}

Remembers-self : (known : Learnt) → Remembers known known
Remembers-self known = (begins_self known.view.seen, begins_self known.read)

Remembers-through : (old mid new : Learnt) → Remembers mid old → Remembers new mid → Remembers new old
Remembers-through old mid new one other = (
  begins_through old.view.seen mid.view.seen new.view.seen one.0 other.0,
  begins_through old.read mid.read new.read one.1 other.1,
)

module _ {P : Type 0} (is_visit : Visit P → Type 0) where
  -- each of them is a visit
  pub each_visit : (old new : Learnt) (visits : List (Visit P)) → Lead is_visit old new visits → All is_visit visits
  each_visit old new [] lead = All-nil is_visit
  each_visit old new (visit ∷ visits) lead = All-cons is_visit visit visits lead.1 (each_visit visit.new new visits lead.2)

  module _ (grows : (visit : Visit P) → is_visit visit → Remembers visit.new visit.old) where
    -- each begins with what the desk knew before them
    begin_with : (known old new : Learnt) (visits : List (Visit P)) → Lead is_visit old new visits
        → Remembers old known → All (λ (visit : Visit P). Remembers visit.old known) visits
    begin_with known old new [] lead begins = All-nil (λ (visit : Visit P). Remembers visit.old known)
    begin_with known old new (visit ∷ visits) lead begins =
        let at_first : Remembers visit.old known = subst (λ (l : Learnt). Remembers l known) (sym lead.0) begins in
        All-cons (λ (visit : Visit P). Remembers visit.old known) visit visits at_first
        (begin_with known visit.new new visits lead.2 (Remembers-through known visit.old visit.new at_first (grows visit lead.1)))

    -- a later one begins with all that the desk knew after an earlier one
    pub later_begins : (old new : Learnt) (visits : List (Visit P)) → Lead is_visit old new visits
        → AllPairs (λ (earlier later : Visit P). Remembers later.old earlier.new) visits
    later_begins old new [] lead = λ i j d before within. absurd (omega arith)
    later_begins old new (visit ∷ visits) lead =
        AllPairs-cons (λ (earlier later : Visit P). Remembers later.old earlier.new) visit visits
        (begin_with visit.new visit.new new visits lead.2 (Remembers-self visit.new))
        (later_begins visit.new new visits lead.2)

  -- one more visit
  pub Lead-more : (old new : Learnt) (visits : List (Visit P)) (visit : Visit P)
      → Lead is_visit old visit.old visits → is_visit visit → visit.new ≡ new → Lead is_visit old new (visits ++ visit ∷ [])
  Lead-more old new [] visit lead is same = (lead, is, sym same)
  Lead-more old new (first ∷ visits) visit lead is same =
      (lead.0, lead.1, Lead-more first.new new visits visit lead.2 is same)

  module _ (desk : ℕ) where
    -- the exchanges of all visits are one session of the desk
    pub Session-all : (old new : Learnt) (visits : List (Visit P)) (sessions : List (List Step)) → Lead is_visit old new visits
        → AreSessions desk visits sessions → Session desk old.view new.view (turned_in (all_steps sessions))
    Session-all old new [] [] lead are =
        subst (λ (known : Learnt). Session desk old.view known.view []) (sym lead) (Session-none desk old.view)
    Session-all old new [] (steps ∷ sessions) lead are = absurd are
    Session-all old new (visit ∷ visits) [] lead are = absurd are
    Session-all old new (visit ∷ visits) (steps ∷ sessions) lead are =
        subst (λ (exchanges : List Exchange). Session desk old.view new.view exchanges) (sym (turned_in-append steps (all_steps sessions)))
        (Session-on desk old.view visit.new.view new.view (turned_in steps) (turned_in (all_steps sessions))
        (subst (λ (known : Learnt). Session desk known.view visit.new.view (turned_in steps)) lead.0 are.0.1.session)
        (Session-all visit.new new visits sessions lead.2 are.1))

    -- and serve their peers by the one history that all desks share
    pub all_served : (first final : List Deed) (old new : Learnt) (visits : List (Visit P)) (sessions : List (List Step))
        → Lead is_visit old new visits → AreSessions desk visits sessions
        → BeginsWith old.view.seen (with_makers first) → BeginsWith (with_makers final) new.view.seen
        → new.view.made ≡ old.view.made ++ made_by desk (past (with_makers first) (with_makers final))
        → Served desk first final (turned_in (all_steps sessions))
    all_served first final old new visits sessions lead are begins ends made =
        Served-by_session desk first final old.view new.view (turned_in (all_steps sessions))
        (Session-all old new visits sessions lead are) begins ends made

    -- what was read last begins with what was read before
    read-grows : (old new : Learnt) (visits : List (Visit P)) (sessions : List (List Step)) → Lead is_visit old new visits
        → AreSessions desk visits sessions → BeginsWith new.read old.read
    read-grows old new [] [] lead are = subst (λ (known : Learnt). BeginsWith known.read old.read) (sym lead) (begins_self old.read)
    read-grows old new [] (steps ∷ sessions) lead are = absurd are
    read-grows old new (visit ∷ visits) [] lead are = absurd are
    read-grows old new (visit ∷ visits) (steps ∷ sessions) lead are =
        begins_through old.read visit.new.read new.read
        (subst (λ (known : Learnt). BeginsWith visit.new.read known.read) lead.0 are.0.1.grows)
        (read-grows visit.new new visits sessions lead.2 are.1)

    -- and all that was read is published where what was read last is
    pub all_read : (published : List Record) (old new : Learnt) (visits : List (Visit P)) (sessions : List (List Step))
        → Lead is_visit old new visits → AreSessions desk visits sessions → BeginsWith published new.read
        → All (IsReading published) (all_steps sessions)
    all_read published old new [] [] lead are begins = All-nil (IsReading published)
    all_read published old new [] (steps ∷ sessions) lead are begins = absurd are
    all_read published old new (visit ∷ visits) [] lead are begins = absurd are
    all_read published old new (visit ∷ visits) (steps ∷ sessions) lead are begins =
        All-append (IsReading published) steps (all_steps sessions)
        (All-longer published visit.new.read steps
        (begins_through visit.new.read new.read published (read-grows visit.new new visits sessions lead.2 are.1) begins) are.0.1.readings)
        (all_read published visit.new new visits sessions lead.2 are.1 begins)

    -- no report says less to be covered than an answer to the same peer before
    pub none_fewer : (visits : List (Visit P)) (sessions : List (List Step)) → AreSessions desk visits sessions
        → All (AreNoFewer 0) sessions
    none_fewer [] [] are = All-nil (AreNoFewer 0)
    none_fewer [] (steps ∷ sessions) are = absurd are
    none_fewer (visit ∷ visits) [] are = absurd are
    none_fewer (visit ∷ visits) (steps ∷ sessions) are =
        All-cons (AreNoFewer 0) steps sessions are.0.1.no_fewer (none_fewer visits sessions are.1)
