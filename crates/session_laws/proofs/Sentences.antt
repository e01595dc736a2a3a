-- What a peer may read off an answer, by the whole history.
use Rattle.std.proofs.Common.{◌≡◌, ℕ, ◌+◌, ◌≤◌, ◌⊎◌, ⊎_elim, inl, inr, List, [], ◌++◌, length, take, sym, refl, ap, ◌∙◌, subst}
use Rattle.std.proofs.lemmas.List.Elements.{All-contains}
use Rattle.std.specs.Prelude.{AllPairs, Contains, IfSome, Option, Some, Result, Ok, Err}
use Rattle.stock_nums.specs.declared.numbers.RecordNo.{RecordNo}
use Rattle.stock_model.specs.declared.answers.Answer.TheVariants.{Told}
use Rattle.stock_model.specs.declared.deeds.Deed.{Deed}
use Rattle.stock_model.specs.declared.read_faults.ReadFault.{ReadFault}
use Rattle.stock_model.specs.declared.read_faults.ReadFault.TheVariants as read_fault
use Rattle.stock_model.specs.declared.replies.Reply.TheVariants.{Accepted, StoreFailed, Bad, MemoryFailed}
use Rattle.stock_model.specs.declared.requests.Request.{Request}
use Rattle.stock_model.specs.PostReplies.{TellsStoreFailed}
use Rattle.session_laws.proofs.AnswerCases.{KeepsOne, KeepsNothing, answer-cases, store_failed-post, fault_answer-accepts_none, fault_answer-fails_none}
use Rattle.session_laws.proofs.Order.{begin_since, AllPairs-in_order}
use Rattle.session_laws.specs.Answers.{IsAnswered, IsReply, IsExchange, LacksMemory, fault_answer}
use Rattle.session_laws.specs.Exchanges.{Exchange, IsBefore}
use Rattle.session_laws.specs.Sentences.{IsToRequest, AcceptsNone, AsksToPost, IsAcceptedAs, IsAnsweredOn}
use Rattle.session_laws.specs.Sessions.{Served}

-- a body that is no request is told so, or that memory was wanting
fault_answer-cases : (f : ReadFault) → (fault_answer f ≡ Told (Bad f) []) ⊎ (fault_answer f ≡ Told MemoryFailed [])
fault_answer-cases read_fault.BadJson = inl refl
fault_answer-cases (read_fault.BadField name line) = inl refl
fault_answer-cases (read_fault.Limit name line) = inl refl
fault_answer-cases read_fault.NoMemory = inr refl

module _ (desk : ℕ) (first final : List Deed) (exchanges : List Exchange) (t : Exchange)
    (served : Served desk first final exchanges) (within : Contains exchanges t) where
  exchange-is : IsExchange desk final t
  exchange-is = All-contains (IsExchange desk final) exchanges t served.answers within

  stop-since : (stop : ℕ) → t.stop ≡ Some stop → length first ≤ stop
  stop-since stop own =
      subst (λ (it : Option ℕ). IfSome it (λ (n : ℕ). length first ≤ n)) own
      (All-contains (λ (u : Exchange). IfSome u.stop (λ (n : ℕ). length first ≤ n)) exchanges t
      (begin_since (length first) exchanges served.in_order) within)

  -- of an answer that tells neither a body that is no request nor want of memory
  answered-by : (asked : Result Request ReadFault) → t.asked ≡ asked → IsReply desk final asked t
      → IsToRequest t.answer → IsAnsweredOn desk first final t
  answered-by (Err f) asked reply to_request =
      absurd (⊎_elim (λ (bad : fault_answer f ≡ Told (Bad f) []). to_request.not_bad f (reply.0 ∙ bad))
      (λ (lacks : fault_answer f ≡ Told MemoryFailed []). to_request.had_memory (reply.0 ∙ lacks)) (fault_answer-cases f))
  answered-by (Ok request) asked reply to_request =
      ⊎_elim (λ (lacks : LacksMemory t.answer t.kept). absurd (to_request.had_memory lacks.0))
      (λ (a : IsAnswered desk final request t). record {
        request = request;
        asked = asked;
        stop = a.stop;
        own = a.own;
        since = stop-since a.stop a.own;
        answer = a.answer;
      }) reply

  pub answered-on : IsToRequest t.answer → IsAnsweredOn desk first final t
  answered-on to_request = answered-by t.asked refl exchange-is.reply to_request

  -- the record of an accepted post is where the stop says
  accepted-at : (request : Request) (n : RecordNo) → t.asked ≡ Ok request → t.answer ≡ Told (Accepted n) []
      → (a : IsAnswered desk final request t)
      → KeepsOne desk (take a.stop final) request t.answer t.kept → IsAcceptedAs desk first final t n
  accepted-at request n asked told a one =
      record {
        item = one.item;
        of_desk = one.of_desk;
        asked = asked ∙ ap Ok one.asked;
        stop = a.stop;
        own = a.own;
        since = stop-since a.stop a.own;
        sound = one.sound;
        number = let both = one.told in cc;
        kept = one.one;
        place = subst (λ (z : List Deed). take (a.stop + length z) final ≡ take a.stop final ++ z) one.one a.place;
      }

  accepted-by : (asked : Result Request ReadFault) (n : RecordNo) → t.asked ≡ asked → IsReply desk final asked t
      → t.answer ≡ Told (Accepted n) []
      → IsAcceptedAs desk first final t n
  accepted-by (Err f) n asked reply told = absurd (fault_answer-accepts_none f n (sym reply.0 ∙ told))
  accepted-by (Ok request) n asked reply told =
      ⊎_elim
      (λ (lacks : LacksMemory t.answer t.kept). let apart : Told MemoryFailed [] ≡ Told (Accepted n) [] = sym lacks.0 ∙ told in cc)
      (λ (a : IsAnswered desk final request t).
      ⊎_elim (λ (one : KeepsOne desk (take a.stop final) request t.answer t.kept). accepted-at request n asked told a one)
      (λ (none : KeepsNothing t.answer t.kept). absurd (none.other n told))
      (answer-cases desk (take a.stop final) t.answer t.kept request a.answer))
      reply

  pub accepted-as : (n : RecordNo) → t.answer ≡ Told (Accepted n) [] → IsAcceptedAs desk first final t n
  accepted-as n told = accepted-by t.asked n refl exchange-is.reply told

  nothing-by : (asked : Result Request ReadFault) → IsReply desk final asked t → AcceptsNone t.answer → t.kept ≡ []
  nothing-by (Err f) reply other = reply.2
  nothing-by (Ok request) reply other =
      ⊎_elim
      (λ (lacks : LacksMemory t.answer t.kept). lacks.1)
      (λ (a : IsAnswered desk final request t).
      ⊎_elim (λ (one : KeepsOne desk (take a.stop final) request t.answer t.kept). absurd (other _ one.told))
      (λ (none : KeepsNothing t.answer t.kept). none.nothing)
      (answer-cases desk (take a.stop final) t.answer t.kept request a.answer))
      reply

  pub nothing-kept : AcceptsNone t.answer → t.kept ≡ []
  nothing-kept other = nothing-by t.asked exchange-is.reply other

  post-by : (asked : Result Request ReadFault) → t.asked ≡ asked → IsReply desk final asked t → TellsStoreFailed t.answer
      → AsksToPost t
  post-by (Err f) asked reply failed = absurd (fault_answer-fails_none f (sym reply.0 ∙ failed))
  post-by (Ok request) asked reply failed =
      ⊎_elim
      (λ (lacks : LacksMemory t.answer t.kept). let apart : Told MemoryFailed [] ≡ Told StoreFailed [] = sym lacks.0 ∙ failed in cc)
      (λ (a : IsAnswered desk final request t).
      let posted = store_failed-post desk (take a.stop final) t.answer t.kept request a.answer failed in
      (posted.0, asked ∙ ap Ok posted.1))
      reply

  pub failed-post : TellsStoreFailed t.answer → AsksToPost t
  failed-post failed = post-by t.asked refl exchange-is.reply failed

pub turns-in_order : (desk : ℕ) (first final : List Deed) (exchanges : List Exchange)
    → Served desk first final exchanges → AllPairs IsBefore exchanges
turns-in_order desk first final exchanges served = AllPairs-in_order (length first) exchanges served.in_order
