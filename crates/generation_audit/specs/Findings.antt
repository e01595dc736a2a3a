-- Where stored worths are not right, and what it is that they are.
use Rattle.std.specs.Prelude.{◌≡◌, ◌⊎◌, false, List, ◌∷◌, ◌++◌, Some, None}
use Rattle.stock_nums.specs.declared.entry.Entry.{Entry}
use Rattle.stock_model.specs.Accounts.{balances}
use Rattle.stock_model.specs.Masters.{heads}
use Rattle.stock_model.specs.PostingOrder.{posting_line}
use Rattle.stock_model.specs.declared.ledger_lines.Balance.{Balance}
use Rattle.stock_model.specs.declared.records.Record.{Record}
use Rattle.stock_keeper.specs.declared.changes.SpotWorth.{SpotWorth}
use Rattle.generation_audit.specs.RightRows.{entry_spot, stored_worth, stored_rows, due, IsRight, AreRight, is_free, AreOwn}
use Rattle.generation_audit.specs.declared.finding.Finding.{Finding}

-- the first movement in posting order of which not its worth over the rows stored before it is stored stands at this spot
pub record IsWrongAt (journal : List Record) (worths : List SpotWorth) (found : Finding) : Type 0 where
  pub past : List Entry
  pub e : Entry
  pub rest : List Entry
  pub parts : posting_line journal ≡ past ++ e ∷ rest
  pub right : AreRight journal worths past
  pub wrong : IsRight journal worths past e → ⊥
  pub spot : found.spot ≡ entry_spot e
  pub stored : found.stored ≡ stored_worth worths e
  pub due : found.due ≡ Some (due journal worths past e)

-- the first worth of none of the movements, or that stands at its spot a second time, is this
pub record IsExtra (line : List Entry) (worths : List SpotWorth) (found : Finding) : Type 0 where
  pub front : List SpotWorth
  pub w : SpotWorth
  pub rest : List SpotWorth
  pub parts : worths ≡ front ++ w ∷ rest
  pub own : AreOwn line front
  pub extra : is_free line front w.spot ≡ false
  pub spot : found.spot ≡ w.spot
  pub stored : found.stored ≡ Some w.worth
  pub due : found.due ≡ None

-- what is stored of each movement is right, and this stands beside
abbrev pub IsExtraAt : List Record → List SpotWorth → Finding → Type 0
IsExtraAt journal worths found = AreRight journal worths (posting_line journal) × IsExtra (posting_line journal) worths found

-- this is the first place at which the stored worths are not right
abbrev pub IsFoundIn : List Record → List SpotWorth → Finding → Type 0
IsFoundIn journal worths found = IsWrongAt journal worths found ⊎ IsExtraAt journal worths found

-- the stored worths are right, each once, and these are the balances of the accounts over them
pub record AreSound (journal : List Record) (worths : List SpotWorth) (accounts : List Balance) : Type 0 where
  pub right : AreRight journal worths (posting_line journal)
  pub own : AreOwn (posting_line journal) worths
  pub balanced : accounts ≡ balances (heads journal) (stored_rows worths (posting_line journal))
