-- What a service does for its peers, and what it leaves.
use Rattle.std.specs.Prelude.{ℕ, zero, suc, ◌≡◌, ◌+◌, ◌-◌, ◌^◌, ◌<◌, ◌≤◌, Bool, Option, List, [], length, map, All, IsPermutation}
use Rattle.turn_lock.specs.Histories.{BeginsWith, past}
use Rattle.stock_model.specs.History.{covered_records, IsLegal}
use Rattle.stock_model.specs.Run.{ArePublications}
use Rattle.stock_model.specs.declared.deeds.Deed.{Deed}
use Rattle.session_laws.specs.Exchanges.{failures}
use Rattle.session_laws.specs.Makers.{deeds_by}
use Rattle.session_laws.specs.Sessions.{Served}
use Rattle.mirrored_sessions.specs.Steps.{Step, answer_in, turned_in, IsReading, AreNoFewer}
use Rattle.book_answers.specs.Answers.{ShowsKeptStock}
use Rattle.stock_io.specs.Heard.{Heard}
use Rattle.shared_listener.specs.Listening.{Accepts, HangsUp}
use Rattle.shared_listener.specs.Sharing.{AreFirstInOrder}
use Rattle.shared_listener.specs.Visits.{visits_to}
use Rattle.desk_connections.specs.Visits.{Learnt, Visit, IsVisit, Lead, AreSessions, all_steps}

-- These are the visits to the desk with this number, one after another: it served each peer and then ended the connection, and a
-- later visit begins with what the one before it left. Whatever steps make their sessions: those with a turn are answered by the one
-- history that all desks share, and each report that was read from the mirror is the replay of the first records that were covered once,
-- which the final history covers too, and says no less to be covered than any answer to the same peer before. The ledger keeps the stock
-- of each report. No more answers say that the store failed than its keeper counted faults in the desk's turns, where all that the keeper
-- has counted by the end of the service fits its count.
pub record AreServedBy {P : Type 0} (left : P → Option (List ℕ)) (taken : P → ℕ) (written : P → Option (List ℕ)) (faults : P → ℕ)
    (ended : P → Bool) (desk counted faults_then : ℕ) (first final : List Deed) (visits : List (Visit P)) : Type 0 where
  pub old : Learnt
  pub new : Learnt
  pub lead : Lead (IsVisit left taken written faults ended desk) old new visits
  pub shared : (sessions : List (List Step)) → AreSessions desk visits sessions → Served desk first final (turned_in (all_steps sessions))
  pub readings : (sessions : List (List Step)) → AreSessions desk visits sessions
      → All (IsReading (covered_records final)) (all_steps sessions)
  pub no_fewer : (sessions : List (List Step)) → AreSessions desk visits sessions → All (AreNoFewer 0) sessions
  pub keeps : (sessions : List (List Step)) → AreSessions desk visits sessions
      → All (λ step. ShowsKeptStock (answer_in step)) (all_steps sessions)
  pub failed : (sessions : List (List Step)) → AreSessions desk visits sessions → faults_then < 2 ^ 64 - 1
      → failures (turned_in (all_steps sessions)) ≤ counted

-- what each desk from 1 to this one counts, added up
abbrev pub total_to : ℕ → (ℕ → ℕ) → ℕ
total_to zero counts = 0
total_to (suc desk) counts = total_to desk counts + counts (suc desk)

-- So many peers were wanted and so many came, each to one of so many desks, the first ones to the desks in the order of their
-- numbers. Each was served by its desk and then hung up, those of one desk in the order in which they came. The
-- history grew by what desks kept and a worker published, and by nothing else, and is legal: each publication covers more records
-- than the one before, and no more than were accepted. The faults that were counted in the turns of desks are
-- among those of the keeper.
pub record IsService {P : Type 0} (serves : ℕ → ℕ → ℕ → List Deed → List Deed → List (Visit P) → Type 0) (is_fresh : P → Type 0)
    (desks wanted accepted : ℕ) (first final : List Deed) (faults faults' : ℕ) (old new : Heard P) : Type 0 where
  pub closed : Heard P
  -- each visit with the number of its desk, as the peers came and as they were hung up
  pub came : List (ℕ × Visit P)
  pub went : List (ℕ × Visit P)
  -- how many faults were counted in the turns of each desk
  pub counts : ℕ → ℕ
  pub count : accepted ≡ length came
  pub accepts : Accepts is_fresh wanted old closed (map (λ visit. visit.1.peer) came)
  pub to_desks : All (λ visit. (0 < visit.0) × (visit.0 ≤ desks)) came
  pub in_order : AreFirstInOrder 0 desks (map (λ visit. visit.0) came)
  pub served : (k : ℕ) → 0 < k → k ≤ desks → serves k (counts k) faults' first final (visits_to k came)
  pub all_went : IsPermutation came went
  pub went_in_turn : (k : ℕ) → visits_to k went ≡ visits_to k came
  pub hung_up : HangsUp closed new (map (λ visit. visit.1.peer_then) went)
  pub grows : BeginsWith final first
  pub legal : IsLegal final
  pub published : ArePublications (deeds_by 0 (past first final))
  pub among : faults + total_to desks counts ≤ faults'
  pub no_others : (k : ℕ) → desks < k → deeds_by k (past first final) ≡ []
  pub none_unbegun : (k : ℕ) → accepted < k → deeds_by k (past first final) ≡ []
