-- How a run goes on, and which answers make its steps.
use Rattle.std.proofs.Common.{◌≡◌, ℕ, ◌≤◌, Bool, false, ltb, List, [], ◌∷◌, ◌++◌, length, refl, sym, ap, ◌∙◌, subst, inl, inr, Option, None, Some, Result, Ok, Err, IfOk}
use Rattle.std.proofs.lemmas.Bool.{ltb-false}
use Rattle.stock_nums.specs.declared.numbers.RecordNo.{RecordNo}
use Rattle.stock_model.specs.declared.records.Record.{Record}
use Rattle.stock_model.specs.declared.deeds.Deed.{Deed}
use Rattle.stock_model.specs.declared.deeds.Deed.TheVariants.{Kept}
use Rattle.stock_nums.specs.declared.memory.NoMemory as memory
use Rattle.stock_model.specs.declared.faults.PostFault.{PostFault}
use Rattle.stock_model.specs.declared.requests.Request.TheVariants.{Post}
use Rattle.stock_model.specs.declared.answers.Answer.{Answer}
use Rattle.stock_model.specs.declared.answers.Answer.TheVariants.{Told}
use Rattle.stock_model.specs.declared.replies.Reply.TheVariants.{Accepted, Worked, Settled, Bad}
use Rattle.stock_model.specs.PostReplies.{refusal}
use Rattle.stock_model.specs.Faults.{fault}
use Rattle.stock_model.specs.History.{records, accepted, covered}
use Rattle.stock_model.specs.declared.read_faults.ReadFault.{ReadFault}
use Rattle.stock_model.specs.declared.read_faults.ReadFault.TheVariants as read_fault
use Rattle.stock_model.specs.Run.{max_line, IsAnswerTo, Settles, Works}
use Rattle.stock_keeper.specs.Calls.{KeeperState}
use Rattle.stock_keeper.specs.declared.fault.KeepFault.{KeepFault}
use Rattle.stock_keeper.specs.declared.fault.KeepFault.TheVariants as keep_fault
use Rattle.stock_keeper.specs.declared.fault.KeepFault.TheVariants.{Failed}
use Rattle.generation_book.specs.Refusals.{IsRefusalOf}
use Rattle.repost_worker.specs.Published.{Publishes}
use Rattle.stock_batch.specs.Paces.{IsAfterTurns}
use Rattle.book_answers.specs.Answers.{HasText}
use Rattle.book_answers.proofs.PostAnswers.{IsPostAnswer-accepted, IsPostAnswer-told}

-- a record without a fault that was kept is accepted under the next number
pub IsAnswerTo-accepted : (old new : List Deed) (item : Record) (n : RecordNo) → item.desk.0 ≡ 0 → fault (records old) item ≡ None
    → new ≡ old ++ Kept item ∷ [] → n.0 ≡ accepted new → IsAnswerTo old (Post item.what) (Told (Accepted n) []) new
IsAnswerTo-accepted old new item n desk sound kept is =
    (item, refl, record { desk = desk; answers = IsPostAnswer-accepted old new item n sound kept is })

-- where a refusal is told, the record has that fault first, or what keeps the records failed; want of memory is not told
pub IsAnswerTo-told : (old new : List Deed) (item : Record) (f : PostFault) → item.desk.0 ≡ 0 → IsRefusalOf (records old) item f → new ≡ old
    → HasText (refusal (records old) f) → IsAnswerTo old (Post item.what) (refusal (records old) f) new
IsAnswerTo-told old new item f desk is same told =
    (item, refl, record { desk = desk; answers = IsPostAnswer-told old new item f is same told })

-- so it is of any answer that is this refusal
pub IsAnswerTo-refusal : (old new : List Deed) (item : Record) (f : PostFault) (r : Result Answer memory.NoMemory) → item.desk.0 ≡ 0
    → IsRefusalOf (records old) item f → new ≡ old → IfOk r (λ answer. answer ≡ refusal (records new) f) → IfOk r HasText
    → IfOk r (λ answer. IsAnswerTo old (Post item.what) answer new)
IsAnswerTo-refusal old new item f (Err e) desk first same is told = tt
IsAnswerTo-refusal old new item f (Ok answer) desk first same is told =
    let is_so : answer ≡ refusal (records old) f = is ∙ ap (λ (history : List Deed). refusal (records history) f) same in
    subst (λ (a : Answer). IsAnswerTo old (Post item.what) a new) (sym is_so)
    (IsAnswerTo-told old new item f desk first same (subst HasText is_so told))

-- turns after which all is covered settle, unless what keeps the records failed
pub Settles-made : (stopped : Option KeepFault) (old new : List Deed) (keeper keeper' : KeeperState) (n : RecordNo) (answer : Answer)
    → Publishes stopped old keeper new keeper' → (stopped ≡ None → covered new ≡ accepted new) → n.0 ≡ covered new
    → IsAfterTurns stopped (Settled n) answer → Settles old answer new
Settles-made None old new keeper keeper' n answer published all is after =
    record {
      more = published.more;
      publications = published.publications;
      grows = published.grows;
      told = inl (all refl, after ∙ ap (λ (k : ℕ). Told (Settled (record { 0 = k })) []) (is ∙ all refl));
    }
Settles-made (Some Failed) old new keeper keeper' n answer published all is after =
    record { more = published.more; publications = published.publications; grows = published.grows; told = inr after }
Settles-made (Some keep_fault.NoMemory) old new keeper keeper' n answer published all is after = absurd after

-- turns are answered with how many records are covered, unless what keeps the records failed
pub Works-made : (stopped : Option KeepFault) (old new : List Deed) (keeper keeper' : KeeperState) (n : RecordNo) (answer : Answer)
    → Publishes stopped old keeper new keeper' → n.0 ≡ covered new → IsAfterTurns stopped (Worked n) answer → Works old answer new
Works-made None old new keeper keeper' n answer published is after =
    record {
      more = published.more;
      publications = published.publications;
      grows = published.grows;
      told = inl (after ∙ ap (λ (k : ℕ). Told (Worked (record { 0 = k })) []) is);
    }
Works-made (Some Failed) old new keeper keeper' n answer published is after =
    record { more = published.more; publications = published.publications; grows = published.grows; told = inr after }
Works-made (Some keep_fault.NoMemory) old new keeper keeper' n answer published is after = absurd after

-- a line that is not too long
pub fits : (line : List ℕ) (long : Bool) → long ≡ ltb max_line (length line) → long ≡ false → length line ≤ max_line
fits line long is tested = ltb-false max_line (length line) (sym is ∙ tested)

-- want of memory is no fault that is printed
pub bad_memory : (f : ReadFault) (answer : Answer) → answer ≡ Told (Bad f) [] → HasText answer → f ≡ read_fault.NoMemory → ⊥
bad_memory f answer is told memory = subst HasText (is ∙ ap (λ (g : ReadFault). Told (Bad g) []) memory) told
