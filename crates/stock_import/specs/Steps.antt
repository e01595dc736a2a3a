-- What a step of an import leaves of the book, and adds to the lines that wait.
use Rattle.std.specs.Prelude.{ℕ, ◌≡◌, Bool, true, false, List, ◌++◌}
use Rattle.std.specs.List.{flat_map, list_all}
use Rattle.stock_model.specs.declared.answers.Answer.{Answer}
use Rattle.stock_model.specs.declared.vouchers.What.{What}
use Rattle.repost_worker.specs.Paces.{Pace}
use Rattle.stock_count.specs.declared.plan.CountPlan.{CountPlan}
use Rattle.sheet_io.specs.Lines.{diffs_line}
use Rattle.stock_batch.specs.Answers.{answer_line}
use Rattle.stock_import.specs.Posts.{is_accepted, IsPosted, ArePosted}
use Rattle.stock_import.specs.Vouchers.{vouchers_of}

-- some text was added to what waits, and this holds of it and of the book then
abbrev pub Tells : (List ℕ → Pace → Type 0) → List ℕ → List ℕ → Pace → Type 0
Tells holds waiting waiting' new = (text : List ℕ) × (waiting' ≡ waiting ++ text) × holds text new

-- the voucher was posted, and its answer was added; it was accepted or not
abbrev pub AddsPost : Pace → What → List ℕ → List ℕ → Pace → Bool → Type 0
AddsPost old what waiting waiting' new accepted =
    (answer : Answer) × IsPosted old what answer new × (waiting' ≡ waiting ++ answer_line answer) × (accepted ≡ is_accepted answer)

-- so were these, up to the first that was not accepted, if one was not
abbrev pub AddsPosts : Pace → List What → List ℕ → List ℕ → Pace → Bool → Type 0
AddsPosts old whats waiting waiting' new accepted =
    (answers : List Answer) × ArePosted old whats answers new × (waiting' ≡ waiting ++ flat_map answer_line answers)
    × (accepted ≡ list_all is_accepted answers)

-- so were these where they were due, and nothing was done where they were not
abbrev pub AddsIf : Bool → Pace → List What → List ℕ → List ℕ → Pace → Type 0
AddsIf true old whats waiting waiting' new = (accepted : Bool) × AddsPosts old whats waiting waiting' new accepted
AddsIf false old whats waiting waiting' new = (waiting' ≡ waiting) × (new ≡ old)

-- how a count differs was added, and what makes up for it posted
abbrev pub AddsCount : Pace → CountPlan → List ℕ → List ℕ → Pace → Type 0
AddsCount old plan waiting waiting' new =
    (answers : List Answer) × ArePosted old (vouchers_of plan) answers new
    × (waiting' ≡ waiting ++ (diffs_line plan.diffs ++ flat_map answer_line answers))
