-- What a load has taken so far.
use Rattle.std.proofs.Common.{◌≡◌, ℕ, ◌+◌, List, [], ◌++◌, append_assoc, append-nil, refl, sym, ap, ◌∙◌, subst, add-one, Result, Ok, Err, OnOk}
use Rattle.stock_nums.specs.declared.memory.NoMemory.{NoMemory}
use Rattle.stock_model.specs.InputLines.{lines_of}
use Rattle.repost_worker.specs.Paces.{Pace, first_pace}
use Rattle.stock_batch.specs.declared.batch.Batch.{Batch}
use Rattle.stock_batch.specs.Batches.{StandsFor, GoesOn, WritesOut, HasTaken, TakesMore}
use Rattle.load_script.specs.LoadScript.{head_lines, first_receipt, opening_lines, voucher_line, work_line, voucher_lines, last_lines, load_script}
use Rattle.stock_load.specs.Loads.{LeadsBy, Leads}
use Rattle.stock_batch.specs.Replies.{Answered}

module _ {K : Type 0} where
  -- lines that were fed, of which the replies were dropped
  pub TakesMore-dropped : (old mid new : Batch K) (bytes : List ℕ) → GoesOn old bytes mid → WritesOut mid new → TakesMore old bytes new
  TakesMore-dropped old mid new bytes fed dropped first taken so_far = (
    so_far.0 ++ mid.waiting.items,
    dropped first (taken ++ bytes) so_far.0 (fed first taken so_far.0 so_far.1),
  )

  pub TakesMore-trans : (old mid new : Batch K) (bytes more : List ℕ) → TakesMore old bytes mid → TakesMore mid more new
      → TakesMore old (bytes ++ more) new
  TakesMore-trans old mid new bytes more then and first taken so_far =
      subst (HasTaken first new) (append_assoc taken bytes more) (and first (taken ++ bytes) (then first taken so_far))

  -- the lines before the vouchers
  pub HasTaken-opening : (start heads new : Batch K) (n : ℕ) → StandsFor first_pace start [] [] → TakesMore start head_lines heads
      → TakesMore heads (first_receipt n) new → HasTaken first_pace new (opening_lines n)
  unfolding opening_lines
  HasTaken-opening start heads new n stands then and = and first_pace head_lines (then first_pace [] ([], stands))

  -- before the first voucher, and after one more
  pub HasTaken-none : (batch : Batch K) (n : ℕ) → HasTaken first_pace batch (opening_lines n) → HasTaken first_pace batch (opening_lines n ++ voucher_lines 0)
  unfolding voucher_lines
  HasTaken-none batch n taken = subst (HasTaken first_pace batch) (sym (append-nil (opening_lines n))) taken

  pub HasTaken-more : (old new : Batch K) (n done : ℕ) → TakesMore old (voucher_line (done + 1) ++ work_line (done + 1)) new
      → HasTaken first_pace old (opening_lines n ++ voucher_lines done) → HasTaken first_pace new (opening_lines n ++ voucher_lines (done + 1))
  unfolding voucher_lines
  HasTaken-more old new n done takes so_far =
      let lines = voucher_line (done + 1) ++ work_line (done + 1) in
      let next : voucher_lines (done + 1) ≡ voucher_lines done ++ lines =
      subst (λ (k : ℕ). voucher_lines k ≡ voucher_lines done ++ (voucher_line k ++ work_line k)) (sym (add-one done)) refl in
      subst (HasTaken first_pace new)
      (append_assoc (opening_lines n) (voucher_lines done) lines ∙ ap (λ (more : List ℕ). opening_lines n ++ more) (sym next))
      (takes first_pace (opening_lines n ++ voucher_lines done) so_far)

  -- the last lines, and the end
  pub LeadsBy-end : (old last new : Batch K) (r : Result (Unit {0}) NoMemory) → TakesMore old last_lines last
      → OnOk r ((first : Pace) (taken written : List ℕ) → StandsFor first last taken written
      → Answered first (lines_of taken) (written ++ new.waiting.items) new.book)
      → OnOk r ((taken : List ℕ) → HasTaken first_pace old taken → LeadsBy (taken ++ last_lines) new.book)
  LeadsBy-end old last new (Err e) takes answered = tt
  LeadsBy-end old last new (Ok done) takes answered = λ taken so_far.
      let all = takes first_pace taken so_far in
      (all.0 ++ new.waiting.items, answered first_pace (taken ++ last_lines) all.0 all.1)

-- the whole script
pub Leads-all : (last : Pace) (n : ℕ) → LeadsBy ((opening_lines n ++ voucher_lines n) ++ last_lines) last → Leads n last
unfolding load_script
Leads-all last n leads =
    subst (λ (script : List ℕ). LeadsBy script last) (append_assoc (opening_lines n) (voucher_lines n) last_lines) leads
