-- What is done for a voucher of a sheet, and which lines tell it.
use Rattle.std.specs.Prelude.{ℕ, ◌≡◌, ◌⊎◌, List, ◌++◌, Some, None, option_to_list}
use Rattle.std.specs.List.{flat_map}
use Rattle.stock_model.specs.declared.answers.Answer.{Answer}
use Rattle.stock_model.specs.declared.vouchers.What.{What}
use Rattle.stock_model.specs.History.{records}
use Rattle.repost_worker.specs.Paces.{Pace}
use Rattle.voucher_import.specs.declared.sheet.CountSheet.{CountSheet}
use Rattle.voucher_import.specs.declared.sheet.SheetVoucher.{SheetVoucher}
use Rattle.voucher_import.specs.declared.sheet.SheetVoucher.TheVariants.{Post, Count}
use Rattle.stock_count.specs.declared.plan.CountPlan.{CountPlan}
use Rattle.stock_count.specs.Differences.{differences, first_wide}
use Rattle.stock_count.specs.Plans.{IsPlan}
use Rattle.sheet_io.specs.Lines.{diffs_line, wide_line}
use Rattle.stock_batch.specs.Answers.{answer_line}
use Rattle.stock_import.specs.Posts.{IsPosted, ArePosted, IsPostCut, ArePostsCut}

-- the vouchers that make up for a count: the issue of what is missing first
abbrev pub vouchers_of : CountPlan → List What
vouchers_of plan = option_to_list plan.issue ++ option_to_list plan.receipt

-- The count is told by how it differs from what the accepted records hold, published or not, and by the answers to what makes up for
-- it. The receipt is posted only where the issue was accepted, or there is none.
pub record IsCounted (old : Pace) (sheet : CountSheet) (text : List ℕ) (new : Pace) : Type 0 where
  pub narrow : first_wide (differences (records old.history) sheet) ≡ None
  pub plan : CountPlan
  pub is_plan : IsPlan (records old.history) sheet plan
  pub answers : List Answer
  pub posted : ArePosted old (vouchers_of plan) answers new
  pub text_is : text ≡ diffs_line plan.diffs ++ flat_map answer_line answers

-- a line of the count differs by more than a voucher can move: the first such is told, and nothing is posted
pub record IsTooWide (old : Pace) (sheet : CountSheet) (text : List ℕ) (new : Pace) : Type 0 where
  pub line : ℕ
  pub wide : first_wide (differences (records old.history) sheet) ≡ Some line
  pub text_is : text ≡ wide_line line
  pub nothing_posted : new ≡ old

-- a voucher is told by its answer, a count by its lines
abbrev pub IsImported : Pace → SheetVoucher → List ℕ → Pace → Type 0
IsImported old (Post what) text new = (answer : Answer) × IsPosted old what answer new × (text ≡ answer_line answer)
IsImported old (Count sheet) text new = IsCounted old sheet text new ⊎ IsTooWide old sheet text new

-- memory was wanting for the voucher: nothing was done, or not all that makes up for it was posted, or not all of that could be told
abbrev pub IsCutShort : SheetVoucher → Pace → Pace → Type 0
IsCutShort (Post what) old new = (new ≡ old) ⊎ IsPostCut old what new
IsCutShort (Count sheet) old new =
    (new ≡ old) ⊎ ((plan : CountPlan) × IsPlan (records old.history) sheet plan × ArePostsCut old (vouchers_of plan) new)
