-- How a run that keeps the pace goes on, and which lines make its steps.
use Rattle.std.proofs.Common.{◌≡◌, ℕ, ◌⊎◌, false, List, [], ◌∷◌, ◌++◌, refl, sym, ap, ◌∙◌, subst, inl, inr, Result, Ok, Err, IfOk, arith}
use Rattle.stock_nums.specs.declared.memory.NoMemory as memory
use Rattle.stock_model.specs.declared.answers.Answer.{Answer}
use Rattle.stock_model.specs.declared.answers.Answer.TheVariants.{Told}
use Rattle.stock_model.specs.declared.replies.Reply.TheVariants.{Bad}
use Rattle.stock_model.specs.declared.read_faults.ReadFault.TheVariants as read_fault
use Rattle.stock_model.specs.declared.read_faults.ReadFault.{ReadFault}
use Rattle.stock_model.specs.declared.requests.Request.{Request}
use Rattle.stock_model.specs.Run.{Run, IsAnswerTo}
use Rattle.repost_worker.specs.Paces.{Pace}
use Rattle.book_answers.specs.Answers.{HasText}
use Rattle.stock_batch.specs.OpenLines.{StandsForLine}
use Rattle.stock_batch.specs.Paces.{state_of, KeepsPace, CallsKeeper, PacedStep, PacedRun}
use Rattle.stock_batch.specs.declared.open_line.OpenLine.{OpenLine}
use Rattle.stock_batch.proofs.KeeperCalls.{calls-none}
use Rattle.stock_batch.proofs.Runs.{fits, bad_memory}

-- a run over more lines from where one ended
pub PacedRun-append : (reads : List ℕ → Result Request ReadFault → Type 0) (old mid new : Pace) (lines more : List (List ℕ)) (answers others : List Answer)
    → PacedRun reads old lines answers mid → PacedRun reads mid more others new → PacedRun reads old (lines ++ more) (answers ++ others) new
PacedRun-append reads old mid new [] more [] others first then = subst (λ (p : Pace). PacedRun reads p more others new) first then
PacedRun-append reads old mid new [] more (answer ∷ answers) others first then = absurd first
PacedRun-append reads old mid new (line ∷ lines) more [] others first then = absurd first
PacedRun-append reads old mid new (line ∷ lines) more (answer ∷ answers) others first then =
    (first.0, first.1, PacedRun-append reads first.0 mid new lines more answers others first.2 then)

-- without the pace it is a run
pub Run-paced : (reads : List ℕ → Result Request ReadFault → Type 0) (old new : Pace) (lines : List (List ℕ)) (answers : List Answer)
    → PacedRun reads old lines answers new → Run reads (state_of old.history) lines answers (state_of new.history)
Run-paced reads old new [] [] run = ap (λ (p : Pace). state_of p.history) run
Run-paced reads old new [] (answer ∷ answers) run = absurd run
Run-paced reads old new (line ∷ lines) [] run = absurd run
Run-paced reads old new (line ∷ lines) (answer ∷ answers) run =
    (state_of run.0.history, run.1.step, Run-paced reads run.0 new lines answers run.2)

-- a text is read in one way at most
abbrev pub HasOneReading : (List ℕ → Result Request ReadFault → Type 0) → Type 0
HasOneReading reads = (text : List ℕ) (a b : Result Request ReadFault) → reads text a → reads text b → a ≡ b

module _ (reads : List ℕ → Result Request ReadFault → Type 0) (one : HasOneReading reads) (line : OpenLine) (whole : line.long ≡ false) (old : Pace) where
  -- a line that is a request, and is answered
  step-request : (request : Request) (answer : Answer) (new : Pace) (bytes : List ℕ) → bytes ≡ line.bytes.items → reads bytes (Ok request)
      → IsAnswerTo old.history request answer new.history → KeepsPace old request answer new → CallsKeeper old answer new
      → (text : List ℕ) → StandsForLine line text → PacedStep reads old text answer new
  step-request request answer new bytes same read answers pace calls text stands =
      let is : reads text (Ok request) = subst (λ (t : List ℕ). reads t (Ok request)) (same ∙ stands.whole whole) read in
      record {
        step = inr (fits text line.long stands.long whole, inl (request, is, answers));
        keeps =
            λ short other read_so.
            let found : Ok request ≡ Ok other = one text (Ok request) (Ok other) is read_so in
            let found_so : request ≡ other = cc found in
            subst (λ (r : Request). KeepsPace old r answer new) found_so pace;
        bad = λ short fault read_so.
            let found : Ok request ≡ Err fault = one text (Ok request) (Err fault) is read_so in
            absurd cc;
        long = λ more. absurd (omega (arith, more, fits text line.long stands.long whole));
        calls = calls;
      }

  pub PacedStep-request : (r : Result Answer memory.NoMemory) (request : Request) (new : Pace) (bytes : List ℕ) → bytes ≡ line.bytes.items
      → reads bytes (Ok request) → IfOk r (λ answer. IsAnswerTo old.history request answer new.history)
      → IfOk r (λ answer. KeepsPace old request answer new) → IfOk r (λ answer. CallsKeeper old answer new)
      → IfOk r (λ answer. (text : List ℕ) → StandsForLine line text → PacedStep reads old text answer new)
  PacedStep-request (Err e) request new bytes same read answers pace calls = tt
  PacedStep-request (Ok answer) request new bytes same read answers pace calls =
      step-request request answer new bytes same read answers pace calls

  -- a line that is none
  step-bad : (f : ReadFault) (answer : Answer) (bytes : List ℕ) → bytes ≡ line.bytes.items → reads bytes (Err f)
      → answer ≡ Told (Bad f) [] → (text : List ℕ) → StandsForLine line text → PacedStep reads old text answer old
  step-bad f answer bytes same read is text stands =
      let bad : reads text (Err f) = subst (λ (t : List ℕ). reads t (Err f)) (same ∙ stands.whole whole) read in
      record {
        step = inr (fits text line.long stands.long whole, inr (f, bad, is, refl));
        keeps = λ short other read_so. let found : Err f ≡ Ok other = one text (Err f) (Ok other) bad read_so in cc;
        bad = λ short fault read_so. record { known = refl; turns = refl };
        long = λ more. record { known = refl; turns = refl };
        calls = subst (λ (a : Answer). CallsKeeper old a old) (sym is) (calls-none old (Told (Bad f) []) refl);
      }

  pub PacedStep-bad : (r : Result Answer memory.NoMemory) (f : ReadFault) (bytes : List ℕ) → bytes ≡ line.bytes.items
      → (f ≡ read_fault.NoMemory) ⊎ reads bytes (Err f) → IfOk r (λ answer. answer ≡ Told (Bad f) []) → IfOk r HasText
      → IfOk r (λ answer. (text : List ℕ) → StandsForLine line text → PacedStep reads old text answer old)
  PacedStep-bad (Err e) f bytes same read is told = tt
  PacedStep-bad (Ok answer) f bytes same (inl none) is told = absurd (bad_memory f answer is told none)
  PacedStep-bad (Ok answer) f bytes same (inr read) is told = step-bad f answer bytes same read is
