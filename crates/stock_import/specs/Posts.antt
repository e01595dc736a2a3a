-- Vouchers that are posted over a book, one after another.
use Rattle.std.specs.Prelude.{◌≡◌, ◌⊎◌, Bool, true, false, List, [], ◌∷◌}
use Rattle.stock_model.specs.declared.answers.Answer.{Answer}
use Rattle.stock_model.specs.declared.answers.Answer.TheVariants.{Told}
use Rattle.stock_model.specs.declared.replies.Reply.TheVariants.{Accepted}
use Rattle.stock_model.specs.declared.requests.Request.TheVariants.{Post, Settle}
use Rattle.stock_model.specs.declared.vouchers.What.{What}
use Rattle.stock_model.specs.Run.{IsAnswerTo}
use Rattle.repost_worker.specs.Paces.{Pace, IsSamePace}
use Rattle.stock_batch.specs.Paces.{KeepsPace, CallsKeeper, IsStopped}

-- the answer tells that the voucher was accepted
abbrev pub is_accepted : Answer → Bool
is_accepted (Told (Accepted number) heads) = true
is_accepted answer = false

-- a voucher is posted and has this answer: it is accepted, or refused for its first fault, or what keeps the ledger failed; and no
-- turn is made
pub record IsPosted (old : Pace) (what : What) (answer : Answer) (new : Pace) : Type 0 where
  pub answers : IsAnswerTo old.history (Post what) answer new.history
  pub calls : CallsKeeper old answer new
  pub pace : IsSamePace old new

-- all turns are made that there are, and this is the answer
pub record IsSettled (old : Pace) (answer : Answer) (new : Pace) : Type 0 where
  pub answers : IsAnswerTo old.history Settle answer new.history
  pub pace : KeepsPace old Settle answer new
  pub calls : CallsKeeper old answer new

-- the vouchers are posted in their order, up to the first that is not accepted, and have these answers
abbrev pub ArePosted : Pace → List What → List Answer → Pace → Type 0
ArePosted old [] answers new = (answers ≡ []) × (new ≡ old)
ArePosted old (what ∷ rest) answers new =
    (answer : Answer) × (mid : Pace) × (more : List Answer) × (answers ≡ answer ∷ more) × IsPosted old what answer mid
    × (((is_accepted answer ≡ true) × ArePosted mid rest more new) ⊎ ((is_accepted answer ≡ false) × (more ≡ []) × (new ≡ mid)))

-- memory was wanting for a voucher: it was not accepted, or it was posted and its answer could not be kept to be told
abbrev pub IsPostCut : Pace → What → Pace → Type 0
IsPostCut old what new = IsStopped old new ⊎ ((answer : Answer) × IsPosted old what answer new)

-- and so for turns: what they had published by then stands
abbrev pub IsSettleCut : Pace → Pace → Type 0
IsSettleCut old new = IsStopped old new ⊎ ((answer : Answer) × IsSettled old answer new)

-- memory was wanting for one of these vouchers, and those before it were accepted
abbrev pub ArePostsCut : Pace → List What → Pace → Type 0
ArePostsCut old [] new = ⊥
ArePostsCut old (what ∷ rest) new =
    IsPostCut old what new
    ⊎ ((answer : Answer) × (mid : Pace) × IsPosted old what answer mid × (is_accepted answer ≡ true) × ArePostsCut mid rest new)
