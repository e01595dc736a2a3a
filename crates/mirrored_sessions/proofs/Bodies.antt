-- Bodies and answers of a session, one more at a time: what a desk's loop keeps.
use Rattle.std.proofs.Common.{ℕ, List, [], ◌∷◌, ◌++◌, sym, refl, ap, ◌∙◌, subst}
use Rattle.std.proofs.lemmas.List.{map-append}
use Rattle.std.proofs.lemmas.List.Elements.{All-nil, All-cons, All-append}
use Rattle.std.specs.Prelude.{Result, map}
use Rattle.stock_model.specs.declared.answers.Answer.{Answer}
use Rattle.stock_model.specs.declared.read_faults.ReadFault.{ReadFault}
use Rattle.stock_model.specs.declared.requests.Request.{Request}
use Rattle.session_laws.specs.Sessions.{IsAsked}
use Rattle.mirrored_sessions.specs.Steps.{Step, asked_in, answer_in}
use Rattle.mirrored_sessions.specs.Sessions.{Known, MirroredSession, HasMirroredSession}
use Rattle.mirrored_sessions.proofs.Going.{MirroredSession-none, MirroredSession-on}

module _ (reads : List ℕ → Result Request ReadFault → Type 0) (desk : ℕ) where
  -- what was asked in the step is how the body is read
  abbrev IsAskedIn : List ℕ × Step → Type 0
  IsAskedIn s = IsAsked reads s.0 (asked_in s.1)

  -- at first nothing was asked
  pub HasMirroredSession-none : (known : Known) → HasMirroredSession reads desk known known [] []
  HasMirroredSession-none known =
      record {
        steps = [];
        session = MirroredSession-none desk known;
        asked = All-nil IsAskedIn;
        bodies_are = refl;
        answers_are = refl;
      }

  -- one more step
  pub HasMirroredSession-more : (old mid new : Known) (bodies : List (List ℕ)) (answers : List Answer) (body : List ℕ) (step : Step)
      → HasMirroredSession reads desk old mid bodies answers → IsAsked reads body (asked_in step)
      → MirroredSession desk mid new (step ∷ [])
      → HasMirroredSession reads desk old new (bodies ++ body ∷ []) (answers ++ answer_in step ∷ [])
  HasMirroredSession-more old mid new bodies answers body step has asked more =
      let one : List (List ℕ × Step) = (body, step) ∷ [] in
      record {
        steps = has.steps ++ one;
        session =
            subst (MirroredSession desk old new) (sym (map-append (λ (s : List ℕ × Step). s.1) has.steps one))
            (MirroredSession-on desk old mid new (map (λ s. s.1) has.steps) (step ∷ []) has.session more);
        asked = All-append IsAskedIn has.steps one has.asked (All-cons IsAskedIn (body, step) [] asked (All-nil IsAskedIn));
        bodies_are = ap (λ (z : List (List ℕ)). z ++ body ∷ []) has.bodies_are
            ∙ sym (map-append (λ (s : List ℕ × Step). s.0) has.steps one);
        answers_are = ap (λ (z : List Answer). z ++ answer_in step ∷ []) has.answers_are
            ∙ sym (map-append (λ (s : List ℕ × Step). answer_in s.1) has.steps one);
      }
