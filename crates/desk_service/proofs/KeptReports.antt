-- Over a legal history the ledger keeps the stock of each report of a session.
use Rattle.std.proofs.Common.{◌≡◌, ℕ, zero, suc, ◌⊎◌, ⊎_elim, List, [], ◌∷◌, ◌++◌, take, Option, Some, None, Result, Ok, Err, refl, sym, subst}
use Rattle.std.specs.Prelude.{All, MatchOption}
use Rattle.std.proofs.lemmas.List.Elements.{All-weaker}
use Rattle.stock_model.specs.Books.{KeepsStock}
use Rattle.stock_model.specs.History.{records, IsLegalAfter, IsLegal}
use Rattle.stock_model.specs.PostReplies.{IsAccepted, TellsStoreFailed, refusal}
use Rattle.stock_model.specs.Reports.{report_by, need_at, selected, IsSelected}
use Rattle.stock_model.specs.declared.answers.Answer.{Answer}
use Rattle.stock_model.specs.declared.deeds.Deed.{Deed}
use Rattle.stock_model.specs.declared.deeds.Deed.TheVariants.{Kept, Published}
use Rattle.stock_model.specs.declared.faults.PostFault.{PostFault}
use Rattle.stock_model.specs.declared.faults.PostFault.TheVariants.{CodeTaken, CodeShape, AccountRange, UnknownItem, UnknownStore, SameStore, UnknownTarget, NotLive, Linked, LinkLater, RepeatedTarget, OverReturn, NoBasis, Frozen, Full, Short, KeeperFailed, NoMemory}
use Rattle.stock_model.specs.declared.queries.Need.{Need}
use Rattle.stock_model.specs.declared.queries.Need.TheVariants as need
use Rattle.stock_model.specs.declared.queries.Query.{Query}
use Rattle.stock_model.specs.declared.queries.Selected.{Selected}
use Rattle.stock_model.specs.declared.read_faults.ReadFault.{ReadFault}
use Rattle.stock_model.specs.declared.read_faults.ReadFault.TheVariants as read_fault
use Rattle.stock_model.specs.declared.records.Record.{Record}
use Rattle.stock_model.specs.declared.requests.Request.{Request}
use Rattle.stock_model.specs.declared.requests.Request.TheVariants.{Post, Work, Settle, Report}
use Rattle.book_answers.specs.Answers.{ShowsKeptStock}
use Rattle.session_laws.specs.Answers.{IsAnswer, IsAnswered, IsReply, IsExchange, LacksMemory, fault_answer}
use Rattle.session_laws.specs.Exchanges.{Exchange}
use Rattle.session_laws.specs.Sessions.{Served}

-- the beginning of a legal stretch is legal
IsLegalAfter-take : (n : ℕ) (journal : List Record) (covered : ℕ) (history : List Deed) → IsLegalAfter journal covered history
    → IsLegalAfter journal covered (take n history)
IsLegalAfter-take zero journal covered history legal = tt
IsLegalAfter-take (suc n) journal covered [] legal = tt
IsLegalAfter-take (suc n) journal covered (Kept item ∷ history) legal =
    (legal.0, IsLegalAfter-take n (journal ++ item ∷ []) covered history legal.1)
IsLegalAfter-take (suc n) journal covered (Published m ∷ history) legal =
    (legal.0, legal.1, IsLegalAfter-take n journal m.0 history legal.2)

-- a refusal is no sheet
refusal-keeps : (journal : List Record) (f : PostFault) → ShowsKeptStock (refusal journal f)
refusal-keeps journal CodeTaken = tt
refusal-keeps journal CodeShape = tt
refusal-keeps journal AccountRange = tt
refusal-keeps journal (UnknownItem line) = tt
refusal-keeps journal (UnknownStore line) = tt
refusal-keeps journal (SameStore line) = tt
refusal-keeps journal (UnknownTarget line) = tt
refusal-keeps journal (NotLive target) = tt
refusal-keeps journal (Linked by) = tt
refusal-keeps journal (LinkLater line) = tt
refusal-keeps journal (RepeatedTarget line) = tt
refusal-keeps journal (OverReturn line asked left) = tt
refusal-keeps journal NoBasis = tt
refusal-keeps journal (Frozen until) = tt
refusal-keeps journal (Full held entries) = tt
refusal-keeps journal (Short place item store lacking) = tt
refusal-keeps journal KeeperFailed = tt
refusal-keeps journal NoMemory = tt

fault-keeps : (f : ReadFault) → ShowsKeptStock (fault_answer f)
fault-keeps read_fault.BadJson = tt
fault-keeps (read_fault.BadField name line) = tt
fault-keeps (read_fault.Limit name line) = tt
fault-keeps read_fault.NoMemory = tt

-- nor is the answer to a post
post-keeps : (history : List Deed) (item : Record) (answer : Answer) (new : List Deed) (found : Option PostFault)
    → MatchOption found
    (IsAccepted history item answer new ⊎ (TellsStoreFailed answer × (new ≡ history)))
    (λ f. (answer ≡ refusal (records history) f) × (new ≡ history))
    → ShowsKeptStock answer
post-keeps history item answer new None is =
    ⊎_elim
    (λ (yes : IsAccepted history item answer new). subst ShowsKeptStock (sym yes.0) tt)
    (λ (failed : TellsStoreFailed answer × (new ≡ history)). subst ShowsKeptStock (sym failed.0) tt) is
post-keeps history item answer new (Some f) is = subst ShowsKeptStock (sym is.0) (refusal-keeps (records history) f)

-- the ledger keeps the stock of whatever is selected from a book
abbrev pub KeepsSelected : Type 0
KeepsSelected = (query : Query) (chosen : Selected) → IsSelected query chosen → KeepsStock chosen

module _ (law : KeepsSelected) where
  report-keeps : (met : Need) (history : List Deed) (query : Query) → IsLegal history → ShowsKeptStock (report_by met history query)
  report-keeps need.Ready history query legal =
      law query (selected history query) (record { history = history; legal = legal; is = refl })
  report-keeps (need.Pending covered wanted) history query legal = tt
  report-keeps (need.NoSuchRecord held wanted) history query legal = tt

  answer-keeps : (desk : ℕ) (history : List Deed) (request : Request) (answer : Answer) (kept : List Deed) → IsLegal history
      → IsAnswer desk history request answer kept → ShowsKeptStock answer
  answer-keeps desk history (Post what) answer kept legal is =
      post-keeps history is.item answer (history ++ kept) _ is.answers
  answer-keeps desk history (Work turns) answer kept legal is = absurd is
  answer-keeps desk history Settle answer kept legal is = absurd is
  answer-keeps desk history (Report query) answer kept legal is =
      subst ShowsKeptStock (sym is.0) (report-keeps (need_at history query) history query legal)

  module _ (desk : ℕ) (final : List Deed) (legal : IsLegal final) where
    reply-keeps : (asked : Result Request ReadFault) (exchange : Exchange) → IsReply desk final asked exchange → ShowsKeptStock exchange.answer
    reply-keeps (Err f) exchange reply = subst ShowsKeptStock (sym reply.0) (fault-keeps f)
    reply-keeps (Ok request) exchange reply =
        ⊎_elim
        (λ (lacks : LacksMemory exchange.answer exchange.kept). subst ShowsKeptStock (sym lacks.0) tt)
        (λ (a : IsAnswered desk final request exchange).
        answer-keeps desk (take a.stop final) request exchange.answer exchange.kept (IsLegalAfter-take a.stop [] 0 final legal) a.answer)
        reply

    pub exchanges-keep : (first : List Deed) (exchanges : List Exchange) → Served desk first final exchanges
        → All (λ exchange. ShowsKeptStock exchange.answer) exchanges
    exchanges-keep first exchanges served =
        All-weaker (IsExchange desk final) (λ (exchange : Exchange). ShowsKeptStock exchange.answer)
        (λ exchange is. reply-keeps exchange.asked exchange is.reply) exchanges served.answers
