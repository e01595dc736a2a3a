-- The cases of a desk's answer: a record was accepted and kept, or nothing was kept.
use Rattle.std.proofs.Common.{◌≡◌, ◌≢◌, ℕ, ◌+◌, ◌⊎◌, ⊎_elim, inl, inr, List, [], ◌∷◌, ◌++◌, sym, refl, ap, ◌∙◌, subst}
use Rattle.std.proofs.lemmas.List.{append-nil, append_cancel_left}
use Rattle.std.proofs.lemmas.List.Elements.{All-nil, All-cons}
use Rattle.std.specs.Prelude.{All, MatchOption, Option, Some, None}
use Rattle.stock_nums.specs.declared.numbers.RecordNo.{RecordNo}
use Rattle.stock_model.specs.declared.answers.Answer.{Answer}
use Rattle.stock_model.specs.declared.answers.Answer.TheVariants.{Told}
use Rattle.stock_model.specs.declared.deeds.Deed.{Deed}
use Rattle.stock_model.specs.declared.deeds.Deed.TheVariants.{Kept}
use Rattle.stock_model.specs.declared.faults.PostFault.{PostFault}
use Rattle.stock_model.specs.declared.faults.PostFault.TheVariants.{CodeTaken, CodeShape, AccountRange, UnknownItem, UnknownStore, SameStore, UnknownTarget, NotLive, Linked, LinkLater, RepeatedTarget, OverReturn, NoBasis, Frozen, Full, Short, KeeperFailed, NoMemory}
use Rattle.stock_model.specs.declared.queries.Need.{Need}
use Rattle.stock_model.specs.declared.queries.Need.TheVariants as need
use Rattle.stock_model.specs.declared.queries.Query.{Query}
use Rattle.stock_model.specs.declared.read_faults.ReadFault.{ReadFault}
use Rattle.stock_model.specs.declared.read_faults.ReadFault.TheVariants as read_fault
use Rattle.stock_model.specs.declared.records.Record.{Record}
use Rattle.stock_model.specs.declared.replies.Reply.TheVariants.{Accepted, StoreFailed}
use Rattle.stock_model.specs.declared.requests.Request.{Request}
use Rattle.stock_model.specs.declared.requests.Request.TheVariants.{Post, Work, Settle, Report}
use Rattle.stock_model.specs.declared.vouchers.What.{What}
use Rattle.stock_model.specs.Faults.{fault}
use Rattle.stock_model.specs.History.{records, accepted}
use Rattle.stock_model.specs.PostReplies.{IsAccepted, TellsStoreFailed, refusal}
use Rattle.stock_model.specs.Reports.{report_by, need_at}
use Rattle.session_laws.specs.Answers.{IsAnswer, fault_answer}
use Rattle.session_laws.specs.Makers.{with_makers}
use Rattle.session_laws.specs.Sentences.{AcceptsNone}

-- the answer says that no record was accepted, and nothing was kept
pub record KeepsNothing (answer : Answer) (kept : List Deed) : Type 0 where
  pub other : AcceptsNone answer
  pub nothing : kept ≡ []

-- the answer is to a post, and the record was accepted and kept
pub record KeepsOne (desk : ℕ) (history : List Deed) (request : Request) (answer : Answer) (kept : List Deed) : Type 0 where
  pub item : Record
  pub of_desk : item.desk.0 ≡ desk
  pub asked : request ≡ Post item.what
  pub sound : fault (records history) item ≡ None
  pub told : answer ≡ Told (Accepted (record { 0 = accepted history + 1 })) []
  pub one : kept ≡ Kept item ∷ []

refusal-accepts_none : (journal : List Record) (f : PostFault) (n : RecordNo) → refusal journal f ≢ Told (Accepted n) []
refusal-accepts_none journal CodeTaken n same = cc
refusal-accepts_none journal CodeShape n same = cc
refusal-accepts_none journal AccountRange n same = cc
refusal-accepts_none journal (UnknownItem line) n same = cc
refusal-accepts_none journal (UnknownStore line) n same = cc
refusal-accepts_none journal (SameStore line) n same = cc
refusal-accepts_none journal (UnknownTarget line) n same = cc
refusal-accepts_none journal (NotLive target) n same = cc
refusal-accepts_none journal (Linked by) n same = cc
refusal-accepts_none journal (LinkLater line) n same = cc
refusal-accepts_none journal (RepeatedTarget line) n same = cc
refusal-accepts_none journal (OverReturn line asked left) n same = cc
refusal-accepts_none journal NoBasis n same = cc
refusal-accepts_none journal (Frozen until) n same = cc
refusal-accepts_none journal (Full held entries) n same = cc
refusal-accepts_none journal (Short place item store lacking) n same = cc
refusal-accepts_none journal KeeperFailed n same = cc
refusal-accepts_none journal NoMemory n same = cc

report-accepts_none : (met : Need) (history : List Deed) (query : Query) (n : RecordNo)
    → report_by met history query ≢ Told (Accepted n) []
report-accepts_none need.Ready history query n same = cc
report-accepts_none (need.Pending covered wanted) history query n same = cc
report-accepts_none (need.NoSuchRecord held wanted) history query n same = cc

report-fails_none : (met : Need) (history : List Deed) (query : Query) → report_by met history query ≢ Told StoreFailed []
report-fails_none need.Ready history query same = cc
report-fails_none (need.Pending covered wanted) history query same = cc
report-fails_none (need.NoSuchRecord held wanted) history query same = cc

pub fault_answer-accepts_none : (f : ReadFault) (n : RecordNo) → fault_answer f ≢ Told (Accepted n) []
fault_answer-accepts_none read_fault.BadJson n same = cc
fault_answer-accepts_none (read_fault.BadField name line) n same = cc
fault_answer-accepts_none (read_fault.Limit name line) n same = cc
fault_answer-accepts_none read_fault.NoMemory n same = cc

pub fault_answer-fails_none : (f : ReadFault) → fault_answer f ≢ Told StoreFailed []
fault_answer-fails_none read_fault.BadJson same = cc
fault_answer-fails_none (read_fault.BadField name line) same = cc
fault_answer-fails_none (read_fault.Limit name line) same = cc
fault_answer-fails_none read_fault.NoMemory same = cc

-- the deed's maker has this number
abbrev pub IsMadeBy : ℕ → ℕ × Deed → Type 0
IsMadeBy desk event = event.0 ≡ desk

-- nothing was added where the history stayed
nothing_added : (old kept : List Deed) → old ++ kept ≡ old → kept ≡ []
nothing_added old kept same = append_cancel_left old kept [] (same ∙ sym (append-nil old))

module _ (desk : ℕ) (history : List Deed) (answer : Answer) (kept : List Deed) where
  post-cases : (what : What) (item : Record) → item.desk.0 ≡ desk → item.what ≡ what
      → (found : Option PostFault) → fault (records history) item ≡ found
      → MatchOption found
      (IsAccepted history item answer (history ++ kept) ⊎ (TellsStoreFailed answer × (history ++ kept ≡ history)))
      (λ f. (answer ≡ refusal (records history) f) × (history ++ kept ≡ history))
      → KeepsOne desk history (Post what) answer kept ⊎ KeepsNothing answer kept
  post-cases what item of_desk says None none is =
      ⊎_elim
      (λ (yes : IsAccepted history item answer (history ++ kept)). inl (record {
        item = item;
        of_desk = of_desk;
        asked = ap Post (sym says);
        sound = none;
        told = yes.0;
        one = append_cancel_left history kept (Kept item ∷ []) yes.1;
      }))
      (λ (failed : TellsStoreFailed answer × (history ++ kept ≡ history)). inr (record {
        other = λ n same. let apart : Told StoreFailed [] ≡ Told (Accepted n) [] = sym failed.0 ∙ same in cc;
        nothing = nothing_added history kept failed.1;
      })) is
  post-cases what item of_desk says (Some f) found is =
      inr (record {
        other = λ n same. refusal-accepts_none (records history) f n (sym is.0 ∙ same);
        nothing = nothing_added history kept is.1;
      })

  -- what was asked was a post and its record is kept, or nothing is
  pub answer-cases : (request : Request) → IsAnswer desk history request answer kept
      → KeepsOne desk history request answer kept ⊎ KeepsNothing answer kept
  answer-cases (Post what) is = post-cases what is.item is.of_desk is.says (fault (records history) is.item) refl is.answers
  answer-cases (Work turns) is = absurd is
  answer-cases Settle is = absurd is
  answer-cases (Report query) is =
      inr (record {
        other = λ n same. report-accepts_none (need_at history query) history query n (sym is.0 ∙ same);
        nothing = is.1;
      })

  -- only a post is told that what keeps the records failed
  pub store_failed-post : (request : Request) → IsAnswer desk history request answer kept → TellsStoreFailed answer
      → (what : What) × (request ≡ Post what)
  store_failed-post (Post what) is failed = (what, refl)
  store_failed-post (Work turns) is failed = absurd is
  store_failed-post Settle is failed = absurd is
  store_failed-post (Report query) is failed = absurd (report-fails_none (need_at history query) history query (sym is.0 ∙ failed))

  -- what a desk adds is its own
  pub own-deeds : (request : Request) → IsAnswer desk history request answer kept → All (IsMadeBy desk) (with_makers kept)
  own-deeds request is =
      ⊎_elim
      (λ (one : KeepsOne desk history request answer kept).
      subst (λ (z : List Deed). All (IsMadeBy desk) (with_makers z)) (sym one.one)
      (All-cons (IsMadeBy desk) (one.item.desk.0, Kept one.item) [] one.of_desk (All-nil (IsMadeBy desk))))
      (λ (none : KeepsNothing answer kept).
      subst (λ (z : List Deed). All (IsMadeBy desk) (with_makers z)) (sym none.nothing) (All-nil (IsMadeBy desk)))
      (answer-cases request is)
