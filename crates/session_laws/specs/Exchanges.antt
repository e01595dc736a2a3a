-- Exchanges: what a desk was asked and what it answered, one after another.
use Rattle.std.specs.Prelude.{ℕ, ◌≡◌, ◌+◌, ◌≤◌, List, [], ◌∷◌, length, sum_by, Option, Some, Result, IfSome}
use Rattle.std.specs.List.{filter_map, flat_map}
use Rattle.std.specs.Option.{option_map_or}
use Rattle.stock_model.specs.declared.answers.Answer.{Answer}
use Rattle.stock_model.specs.declared.answers.Answer.TheVariants.{Told}
use Rattle.stock_model.specs.declared.deeds.Deed.{Deed}
use Rattle.stock_model.specs.declared.read_faults.ReadFault.{ReadFault}
use Rattle.stock_model.specs.declared.replies.Reply.TheVariants.{StoreFailed}
use Rattle.stock_model.specs.declared.requests.Request.{Request}

-- one body that a peer sent, and its answer
pub record Exchange : Type 0 where
  -- the request that the body is, or why it is none
  pub asked : Result Request ReadFault
  pub answer : Answer
  -- how long the shared history was as the desk's turn at it began, if the desk took one
  pub stop : Option ℕ
  -- what the turn added to the history
  pub kept : List Deed

-- the stops of those that took a turn
abbrev pub stops_of : List Exchange → List ℕ
stops_of exchanges = filter_map (λ exchange. exchange.stop) exchanges

-- all that the desk added
abbrev pub kept_in : List Exchange → List Deed
kept_in exchanges = flat_map (λ exchange. exchange.kept) exchanges

-- 1 where what keeps the records failed, else 0
abbrev pub store_failures : Answer → ℕ
store_failures (Told StoreFailed heads) = 1
store_failures _ = 0

-- how often what keeps the records failed
abbrev pub failures : List Exchange → ℕ
failures exchanges = sum_by (λ exchange. store_failures exchange.answer) exchanges

-- how much of the history the desk knew once the exchange was over, where it knew so much before
abbrev pub known_after : ℕ → Exchange → ℕ
known_after known exchange = option_map_or (λ stop. stop + length exchange.kept) exchange.stop known

-- each turn began with all that the desk knew, what it had added itself included
abbrev pub AreInOrder : ℕ → List Exchange → Type 0
AreInOrder known [] = Unit {0}
AreInOrder known (exchange ∷ exchanges) =
    IfSome exchange.stop (λ stop. known ≤ stop) × AreInOrder (known_after known exchange) exchanges

-- the turn of the earlier one was over before that of the later one began, if both took one
abbrev pub IsBefore : Exchange → Exchange → Type 0
IsBefore earlier later = (m n : ℕ) → earlier.stop ≡ Some m → later.stop ≡ Some n → m + length earlier.kept ≤ n
