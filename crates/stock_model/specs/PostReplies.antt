-- What the posting of a record is answered at a point of the history.
use Rattle.std.specs.Prelude.{ℕ, ◌+◌, ◌≡◌, ◌⊎◌, Option, List, ◌∷◌, [], ◌++◌, filter_map, MatchOption}
use Rattle.std.specs.Option.{option_and_then}
use Rattle.stock_nums.specs.declared.head.Head.{Head}
use Rattle.stock_model.specs.declared.records.Record.{Record}
use Rattle.stock_model.specs.declared.deeds.Deed.{Deed}
use Rattle.stock_model.specs.declared.deeds.Deed.TheVariants.{Kept}
use Rattle.stock_model.specs.declared.faults.PostFault.{PostFault}
use Rattle.stock_model.specs.declared.faults.PostFault.TheVariants.{Short, KeeperFailed}
use Rattle.stock_model.specs.declared.replies.Reply.TheVariants.{Accepted, Refused, StoreFailed}
use Rattle.stock_model.specs.declared.answers.Answer.{Answer}
use Rattle.stock_model.specs.declared.answers.Answer.TheVariants.{Told}
use Rattle.stock_model.specs.Masters.{record_at, head_made}
use Rattle.stock_model.specs.Faults.{fault}
use Rattle.stock_model.specs.History.{records, accepted}

-- the item or warehouse with this number, if there is one
abbrev pub head_at : List Record → ℕ → Option Head
head_at journal n = option_and_then (λ item. head_made n item.what) (record_at journal n)

-- the numbers of the item and the warehouse that a fault names
abbrev pub named : PostFault → List ℕ
named (Short place item store lacking) = item.0 ∷ store.0 ∷ []
named _ = []

-- the answer to a record with this fault, with the item and the warehouse that it names
abbrev pub refusal : List Record → PostFault → Answer
refusal journal KeeperFailed = Told StoreFailed []
refusal journal f = Told (Refused f) (filter_map (head_at journal) (named f))

-- the record is accepted under the next number and kept
abbrev pub IsAccepted : List Deed → Record → Answer → List Deed → Type 0
IsAccepted old item answer new =
    (answer ≡ Told (Accepted (record { 0 = accepted old + 1 })) []) × (new ≡ old ++ Kept item ∷ [])

-- what keeps the records failed
abbrev pub TellsStoreFailed : Answer → Type 0
TellsStoreFailed answer = answer ≡ Told StoreFailed []

-- the answer to a record that is posted, and the history after it: refused for its first fault and nothing changed, or accepted,
-- unless what keeps it failed and nothing changed
abbrev pub IsPostAnswer : List Deed → Record → Answer → List Deed → Type 0
IsPostAnswer old item answer new =
    MatchOption (fault (records old) item)
    (IsAccepted old item answer new ⊎ (TellsStoreFailed answer × (new ≡ old)))
    (λ f. (answer ≡ refusal (records old) f) × (new ≡ old))
