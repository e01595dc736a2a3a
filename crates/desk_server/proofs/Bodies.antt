-- What was read of a body is answered in one exchange.
use Rattle.std.proofs.Common.{◌≡◌, ℕ, ⊎_elim, inl, inr, None, List, [], ◌∷◌, length, refl, sym, ap, subst, arith, length-append, Result, Ok, Err}
use Rattle.std.specs.Prelude.{Bool}
use Rattle.stock_model.specs.declared.deeds.Deed.{Deed}
use Rattle.stock_model.specs.declared.read_faults.ReadFault.{ReadFault}
use Rattle.stock_model.specs.declared.read_faults.ReadFault.TheVariants.{BadJson, BadField, Limit, NoMemory}
use Rattle.stock_model.specs.declared.requests.Request.{Request}
use Rattle.turn_lock.specs.declared.view.View.{View}
use Rattle.session_laws.specs.Answers.{fault_answer}
use Rattle.session_laws.specs.Sessions.{IsAsked}
use Rattle.session_laws.proofs.OneTurn.{Session-turn, Session-quiet}
use Rattle.mirrored_sessions.specs.Steps.{printed_in}
use Rattle.desk_server.specs.Exchanging.{RespondsInTurn, RespondsWithin, IsAskedAs, TellsFault}
use Rattle.desk_server.specs.Responses.{response_to}

printed-fault_answer : (f : ReadFault) → printed_in (fault_answer f) ≡ 0
printed-fault_answer BadJson = refl
printed-fault_answer (BadField name line) = refl
printed-fault_answer (Limit name line) = refl
printed-fault_answer NoMemory = refl

-- what was asked in place of what was read of a body is how the body is read
pub asked-read : (reads : List ℕ → Result Request ReadFault → Type 0) (body : List ℕ) (read asked : Result Request ReadFault)
    → IsAsked reads body read → IsAskedAs read asked → IsAsked reads body asked
asked-read reads body (Ok request) asked reads_so same = subst (IsAsked reads body) (sym same) reads_so
asked-read reads body (Err f) asked reads_so same =
    ⊎_elim
    (λ (it : asked ≡ Err f). subst (IsAsked reads body) (sym it) reads_so)
    (λ (none : asked ≡ Err NoMemory). subst (IsAsked reads body) (sym none) (inl refl))
    same

module _ (desk : ℕ) (close : Bool) (response : List ℕ) (covered : ℕ) where
  -- a request was answered in a turn
  pub responds-turn : (old new : View Deed) (request : Request) → RespondsInTurn desk old new request close response covered
      → RespondsWithin desk old new (IsAskedAs (Ok request)) close response covered
  responds-turn old new request took = record {
    responds = record {
      exchange = took.exchange;
      asked = took.turn.asked;
      session = Session-turn desk old new request took.exchange took.turn;
      one_turn = omega (arith, ap (λ (l : List ℕ). length l) took.turn.stops, length-append old.stops (length took.turn.taken ∷ []));
      response_is = took.response_is;
    };
    covers = took.covers;
  }

  quiet : (pass : View Deed) (read asked : ReadFault) → IsAskedAs (Err read) (Err asked) → response ≡ response_to (fault_answer asked) close
      → RespondsWithin desk pass pass (IsAskedAs (Err read)) close response covered
  quiet pass read asked same is = record {
    responds = record {
      exchange = record { asked = Err asked; answer = fault_answer asked; stop = None; kept = [] };
      asked = same;
      session = Session-quiet desk pass (record { asked = Err asked; answer = fault_answer asked; stop = None; kept = [] })
          (record { stop = refl; kept = refl; answer = refl });
      one_turn = omega arith;
      response_is = is;
    };
    covers = omega (arith, printed-fault_answer asked);
  }

  -- what is no request was told, or that memory was wanting
  pub responds-quiet : (pass : View Deed) (f : ReadFault) → TellsFault f close response
      → RespondsWithin desk pass pass (IsAskedAs (Err f)) close response covered
  responds-quiet pass f told =
      ⊎_elim
      (λ (is : response ≡ response_to (fault_answer f) close). quiet pass f f (inl refl) is)
      (λ (is : response ≡ response_to (fault_answer NoMemory) close). quiet pass f NoMemory (inr refl) is)
      told
