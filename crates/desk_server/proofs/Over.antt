-- How a request is answered over a book, by what was kept and what was told.
use Rattle.std.proofs.Common.{◌≡◌, ℕ, ◌+◌, ⊎_elim, inl, inr, Bool, List, [], ◌++◌, refl, sym, ap, ◌∙◌, subst, arith, append-nil}
use Rattle.stock_model.specs.declared.answers.Answer.{Answer}
use Rattle.stock_model.specs.declared.answers.Answer.TheVariants.{Told}
use Rattle.stock_model.specs.declared.deeds.Deed.{Deed}
use Rattle.stock_model.specs.declared.queries.Need.{Need}
use Rattle.stock_model.specs.declared.queries.Need.TheVariants as need
use Rattle.stock_model.specs.declared.queries.Query.{Query}
use Rattle.stock_model.specs.declared.replies.Reply.TheVariants.{Accepted, MemoryFailed}
use Rattle.stock_model.specs.declared.requests.Request.{Request}
use Rattle.stock_model.specs.declared.requests.Request.TheVariants.{Post, Report}
use Rattle.stock_model.specs.declared.vouchers.What.{What}
use Rattle.stock_model.specs.History.{accepted}
use Rattle.stock_model.specs.Reports.{report, report_by, need_at}
use Rattle.stock_nums.specs.declared.numbers.RecordNo.{RecordNo}
use Rattle.stock_io.specs.Counts.{NeverFalls}
use Rattle.generation_book.specs.State.{BookState}
use Rattle.generation_book.specs.Follows.{start_of, Follows}
use Rattle.generation_book.proofs.Following.{follows-itself}
use Rattle.session_laws.specs.Answers.{IsAnswer}
use Rattle.session_laws.specs.Exchanges.{store_failures}
use Rattle.session_laws.specs.Sentences.{AcceptsNone}
use Rattle.mirrored_sessions.specs.Steps.{printed_in}
use Rattle.session_laws.proofs.AnswerCases.{KeepsOne, KeepsNothing, answer-cases}
use Rattle.book_answers.specs.Posts.{Posts, CountsFailure}
use Rattle.desk_server.specs.Answering.{AnswersOver, AnswersOnceTold, ComesTo}
use Rattle.desk_server.specs.Responding.{bytes_of}
use Rattle.desk_server.specs.Responses.{response_to}
use Rattle.desk_server.specs.declared.answering.Answered.{Answered}
use Rattle.desk_server.specs.declared.answering.Answered.TheVariants.{Whole, Untold}

module _ (desk : ℕ) (request : Request) (close : Bool) (old new : BookState) where
  -- nothing was kept, and memory was wanting
  pub over-no_memory : (response : List ℕ) (covered : ℕ) → new.history ≡ old.history → NeverFalls old.keeper.faults new.keeper.faults
      → Follows (start_of old) new → response ≡ response_to (Told MemoryFailed []) close
      → AnswersOver desk request close old new response covered
  over-no_memory response covered same never_falls follows text = record {
    answer = Told MemoryFailed [];
    kept = [];
    answers = inl (refl, refl);
    grows = same ∙ sym (append-nil old.history);
    faults = record { never_falls = never_falls; failed = λ _. omega (arith, never_falls) };
    follows = follows;
    response_is = text;
    covers = omega arith;
  }

  -- nothing was kept, and the answer is told, or memory is wanting for that
  pub over-told : (answer : Answer) (kept : List Deed) → IsAnswer desk old.history request answer kept → kept ≡ []
      → new.history ≡ old.history ++ kept → CountsFailure answer old.keeper.faults new.keeper.faults
      → Follows (start_of old) new → AnswersOnceTold desk request close old new (Untold answer)
  over-told answer kept answers none grows faults follows response told =
      ⊎_elim
      (λ (text : response ≡ response_to answer close).
      record {
        answer = answer;
        kept = kept;
        answers = inr answers;
        grows = grows;
        faults = faults;
        follows = follows;
        response_is = text;
        covers = omega arith;
      })
      (λ (no_memory : response ≡ response_to (Told MemoryFailed []) close).
      over-no_memory response (printed_in answer) (grows ∙ ap (λ (k : List Deed). old.history ++ k) none ∙ append-nil old.history) faults.never_falls follows no_memory)
      told

  -- what was told is what was kept
  pub over-accepted : (what : What) (answer : Answer) (n next : RecordNo) (response : List ℕ) → request ≡ Post what
      → Posts desk old.history what answer new.history → CountsFailure answer old.keeper.faults new.keeper.faults
      → Follows (start_of old) new → answer ≡ Told (Accepted n) [] → (n.0 ≡ accepted old.history + 1 → next ≡ n)
      → response ≡ response_to (Told (Accepted next) []) close → AnswersOver desk request close old new response 0
  over-accepted what answer n next response asked posts faults follows is same text =
      ⊎_elim
      (λ (one : KeepsOne desk old.history (Post what) answer posts.kept).
      let number : Told (Accepted n) [] ≡ Told (Accepted (record { 0 = accepted old.history + 1 })) [] = sym is ∙ one.told in
      let counted : n ≡ record { 0 = accepted old.history + 1 } = cc number in
      let next_is : next ≡ n = same (ap (λ (r : RecordNo). r.0) counted) in
      record {
        answer = answer;
        kept = posts.kept;
        answers = inr (subst (λ (r : Request). IsAnswer desk old.history r answer posts.kept) (sym asked) posts.posted);
        grows = posts.grows;
        faults = faults;
        follows = follows;
        response_is = text ∙ ap (λ (r : RecordNo). response_to (Told (Accepted r) []) close) next_is
            ∙ ap (λ (a : Answer). response_to a close) (sym is);
        covers = omega (arith, ap printed_in is);
      })
      (λ (nothing : KeepsNothing answer posts.kept). absurd (nothing.other n is))
      (answer-cases desk old.history answer posts.kept (Post what) posts.posted)

  pub over-not_accepted : (what : What) (answer : Answer) → request ≡ Post what
      → Posts desk old.history what answer new.history → CountsFailure answer old.keeper.faults new.keeper.faults
      → Follows (start_of old) new → AcceptsNone answer → AnswersOnceTold desk request close old new (Untold answer)
  over-not_accepted what answer asked posts faults follows none =
      over-told answer posts.kept
      (subst (λ (r : Request). IsAnswer desk old.history r answer posts.kept) (sym asked) posts.posted)
      (⊎_elim
      (λ (one : KeepsOne desk old.history (Post what) answer posts.kept).
      absurd (none (record { 0 = accepted old.history + 1 }) one.told))
      (λ (nothing : KeepsNothing answer posts.kept). nothing.nothing)
      (answer-cases desk old.history answer posts.kept (Post what) posts.posted))
      posts.grows faults follows

-- a report keeps nothing
no_failure : (met : Need) (history : List Deed) (query : Query) → store_failures (report_by met history query) ≡ 0
no_failure need.Ready history query = refl
no_failure (need.Pending covered wanted) history query = refl
no_failure (need.NoSuchRecord held wanted) history query = refl

pub over-report : (desk : ℕ) (query : Query) (close : Bool) (book : BookState) (answer : Answer)
    → answer ≡ report book.history query → AnswersOnceTold desk (Report query) close book book (Untold answer)
over-report desk query close book answer is =
    over-told desk (Report query) close book book answer [] (is, refl) refl (sym (append-nil book.history))
    (record {
      never_falls = omega arith;
      failed = λ _. omega (arith, ap store_failures is, no_failure (need_at book.history query) book.history query);
    })
    (follows-itself book)

-- what the response may come to: there is always one
pub told-first : Answered → Bool → List ℕ
told-first (Whole response) close = bytes_of response
told-first (Untold answer) close = response_to answer close

pub comes-to : (answered : Answered) (close : Bool) → ComesTo answered close (told-first answered close)
unfolding told-first
comes-to (Whole response) close = refl
comes-to (Untold answer) close = inl refl
