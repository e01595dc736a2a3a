-- Steps of a desk one after another: their exchanges, what their answers say to be covered, and what was read from the mirror.
use Rattle.std.proofs.Common.{◌≡◌, ℕ, ◌≤◌, max, List, [], ◌∷◌, ◌++◌, length, refl, ap, arith}
use Rattle.std.specs.Prelude.{All}
use Rattle.std.proofs.lemmas.List.Elements.{All-weaker}
use Rattle.turn_lock.proofs.Lists.{begins_through}
use Rattle.turn_lock.specs.Histories.{BeginsWith}
use Rattle.stock_model.specs.declared.records.Record.{Record}
use Rattle.session_laws.specs.Exchanges.{Exchange}
use Rattle.mirrored_sessions.specs.Steps.{Step, Turned, Read, answer_in, turned_in, printed_in, printed_after, IsReading, AreNoFewer}

pub turned_in-append : (a b : List Step) → turned_in (a ++ b) ≡ turned_in a ++ turned_in b
turned_in-append [] b = refl
turned_in-append (Turned exchange ∷ a) b = ap (λ (z : List Exchange). exchange ∷ z) (turned_in-append a b)
turned_in-append (Read reading ∷ a) b = turned_in-append a b

pub printed_after-append : (n : ℕ) (a b : List Step) → printed_after n (a ++ b) ≡ printed_after (printed_after n a) b
printed_after-append n [] b = refl
printed_after-append n (step ∷ a) b = printed_after-append (max n (printed_in (answer_in step))) a b

-- more was said before, and so more is said after
pub printed_after-more : (n m : ℕ) (steps : List Step) → n ≤ m → printed_after n steps ≤ printed_after m steps
printed_after-more n m [] more = more
printed_after-more n m (step ∷ steps) more =
    let k = printed_in (answer_in step) in printed_after-more (max n k) (max m k) steps (omega (arith, more))

-- no less than what was said before
pub AreNoFewer-less : (n m : ℕ) (steps : List Step) → n ≤ m → AreNoFewer m steps → AreNoFewer n steps
AreNoFewer-less n m [] less all = tt
AreNoFewer-less n m (Turned exchange ∷ steps) less all =
    let k = printed_in exchange.answer in AreNoFewer-less (max n k) (max m k) steps (omega (arith, less)) all
AreNoFewer-less n m (Read reading ∷ steps) less all = (
  omega (arith, less, all.0),
  (let k = length reading.records in AreNoFewer-less (max n k) (max m k) steps (omega (arith, less)) all.1),
)

pub AreNoFewer-append : (n m : ℕ) (a b : List Step) → AreNoFewer n a → printed_after n a ≤ m → AreNoFewer m b → AreNoFewer n (a ++ b)
AreNoFewer-append n m [] b front within rest = AreNoFewer-less n m b within rest
AreNoFewer-append n m (Turned exchange ∷ a) b front within rest =
    AreNoFewer-append (max n (printed_in exchange.answer)) m a b front within rest
AreNoFewer-append n m (Read reading ∷ a) b front within rest = (
  front.0,
  AreNoFewer-append (max n (length reading.records)) m a b front.1 within rest,
)

-- what was published stays so
IsReading-longer : (longer shorter : List Record) → BeginsWith longer shorter → (step : Step) → IsReading shorter step → IsReading longer step
IsReading-longer longer shorter begins (Turned exchange) reading = tt
IsReading-longer longer shorter begins (Read read) reading = (begins_through read.records shorter longer reading.0 begins, reading.1)

pub All-longer : (longer shorter : List Record) (steps : List Step) → BeginsWith longer shorter → All (IsReading shorter) steps
    → All (IsReading longer) steps
All-longer longer shorter steps begins all =
    All-weaker (IsReading shorter) (IsReading longer) (IsReading-longer longer shorter begins) steps all
