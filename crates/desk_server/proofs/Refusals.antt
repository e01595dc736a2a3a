-- Which statuses the rules refuse with.
use Rattle.std.proofs.Common.{◌≡◌, ℕ, ◌-◌, ◌⊎◌, inl, inr, Bool, true, List, [], ◌∷◌, length, refl, sym, subst}
use Rattle.std.specs.List.{list_any}
use Rattle.std.specs.Prelude.{nat_lt, nat_le, not, codes, bytes_eq, ◌==◌, ◌&&◌, ⊤}
use Rattle.std.specs.Str.Parse.{digits_value}
use Rattle.std.proofs.lemmas.Bool.{cond_both, false≢true, or_cases, eqb-true}
use Rattle.httparse.specs.Grammar.{print_request}
use Rattle.desk_wire.specs.declared.wire.Wire.{Wire}
use Rattle.desk_wire.specs.declared.wire.Wire.TheVariants.{Whole, More, Bad}
use Rattle.desk_wire.specs.declared.heard.Stop.{Stop}
use Rattle.desk_wire.specs.declared.heard.Stop.TheVariants as stop
use Rattle.desk_wire.specs.Heads.{Fields, fields_of, values_of, is_length, asks_to_close}
use Rattle.desk_wire.specs.Rules.{body_limit, Reading, Hopeless, Unfinished, Head, body_answer, head_answer, answer, Answers}
use Rattle.desk_wire.specs.Streams.{stop_answer}
use Rattle.desk_server.specs.Responses.{refusal_statuses, IsRefusalStatus}
use Rattle.desk_server.specs.Writing.{MayBeTold}

-- where the answer refuses, its status is one of them
abbrev IsKnown : Wire → Type 0
IsKnown (Whole head body close) = ⊤
IsKnown More = ⊤
IsKnown (Bad status) = IsRefusalStatus status

known-body : (values : List (List ℕ)) (head after : ℕ) (close : Bool) → IsKnown (body_answer values head after close)
known-body [] head after close = refl
known-body (value ∷ []) head after close =
    cond_both (not (is_length value)) _ _ IsKnown (λ _. refl) (λ _.
    cond_both (nat_lt body_limit (digits_value 10 value)) _ _ IsKnown (λ _. refl) (λ _.
    cond_both (nat_lt after (digits_value 10 value)) _ _ IsKnown (λ _. tt) (λ _. tt)))
known-body (value ∷ other ∷ values) head after close = refl

known-head : (minor : ℕ) (method target : List ℕ) (fields : Fields) (head after : ℕ)
    → IsKnown (head_answer minor method target fields head after)
known-head minor method target fields head after =
    cond_both (minor == 1 && not (length (values_of (codes "host") fields) == 1)) _ _ IsKnown (λ _. refl) (λ _.
    cond_both (not (length (values_of (codes "transfer-encoding") fields) == 0)) _ _ IsKnown (λ _. refl) (λ _.
    cond_both (not (bytes_eq method (codes "POST"))) _ _ IsKnown (λ _. refl) (λ _.
    cond_both (not (bytes_eq target (codes "/desk"))) _ _ IsKnown (λ _. refl) (λ _.
    known-body (values_of (codes "content-length") fields) head after (asks_to_close minor fields)))))

known-answer : (reading : Reading) (there : ℕ) → IsKnown (answer reading there)
known-answer Hopeless there = refl
known-answer Unfinished there = cond_both (nat_le 65536 there) _ _ IsKnown (λ _. refl) (λ _. tt)
known-answer (Head head) there =
    known-head head.minor head.method head.target (fields_of head) (length (print_request head)) (there - length (print_request head))

-- so a refusal can be told
pub may_be_told : (bytes : List ℕ) (why : Stop) → Answers bytes (stop_answer why) → MayBeTold why
may_be_told bytes (stop.Refused status) answers = subst IsKnown (sym answers.2) (known-answer answers.0 (length bytes))
may_be_told bytes stop.Ended answers = tt
may_be_told bytes stop.TooMuch answers = tt

-- ---- the last of them

abbrev Each : (ℕ → Type 0) → List ℕ → Type 0
Each P [] = ⊤
Each P (x ∷ xs) = P x × Each P xs

at_known : (P : ℕ → Type 0) (status : ℕ) (known : List ℕ) → Each P known → list_any (λ x. x == status) known ≡ true → P status
at_known P status [] each found = absurd (false≢true found)
at_known P status (x ∷ known) each found =
    by_first (or_cases (x == status) (list_any (λ y. y == status) known) found) (at_known P status known each.1)
  where
    by_first : ((x == status) ≡ true) ⊎ (list_any (λ y. y == status) known ≡ true)
        → (list_any (λ y. y == status) known ≡ true → P status) → P status
    by_first (inl same) later = subst P (eqb-true x status same) each.0
    by_first (inr known) later = later known

abbrev IsElse501 : ℕ → Type 0
IsElse501 status =
    (status ≡ 400 → ⊥) → (status ≡ 404 → ⊥) → (status ≡ 405 → ⊥) → (status ≡ 411 → ⊥) → (status ≡ 413 → ⊥) → status ≡ 501

pub else_501 : (status : ℕ) → IsRefusalStatus status → IsElse501 status
else_501 status known = at_known IsElse501 status refusal_statuses (
  (λ a b c d e. absurd (a refl)),
  (
    (λ a b c d e. absurd (b refl)),
    (
      (λ a b c d e. absurd (c refl)),
      ((λ a b c d e. absurd (d refl)), ((λ a b c d e. absurd (e refl)), ((λ a b c d e. refl), tt))),
    ),
  ),
) known
