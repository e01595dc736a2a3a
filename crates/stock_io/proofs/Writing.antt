-- What some writes one after another do to a sink.
use Rattle.std.proofs.Common.{◌≡◌, ℕ, Option, List, [], ◌∷◌, ◌++◌, length, take, drop, refl, sym, ◌∙◌, ap, subst, append_assoc, append-nil, take-append-drop, ◌-◌}
use Rattle.stock_io.proofs.Slices.{slice-rest}
use Rattle.std.specs.Io.KnownBytes.{Appends, Keeps}
use Rattle.std.proofs.KnownBytes.{Appends-nil, Appends-trans, Appends-kept}
use Rattle.stock_io.specs.Streams.{AppendsFront, Chained, Through}

-- one more step at the end
pub Through-step : {S : Type 0} (step : S → S → Type 0) (old mid new : S) (states : List S)
    → Through step old states mid → step mid new → Through step old (states ++ new ∷ []) new
Through-step step old mid new [] same last = (subst (λ s. step s new) same last, refl)
Through-step step old mid new (state ∷ states) steps last = (steps.0, Through-step step state mid new states steps.1 last)

pub Chained-step : {S : Type 0} (step : S → S → Type 0) (old mid new : S) → Chained step old mid → step mid new → Chained step old new
Chained-step step old mid new steps last = (steps.0 ++ new ∷ [], Through-step step old mid new steps.0 steps.1 last)

-- one chain of steps after another
Through-append : {S : Type 0} (step : S → S → Type 0) (old mid new : S) (states more : List S)
    → Through step old states mid → Through step mid more new → Through step old (states ++ more) new
Through-append step old mid new [] more same later = subst (λ s. Through step s more new) same later
Through-append step old mid new (state ∷ states) more steps later =
    (steps.0, Through-append step state mid new states more steps.1 later)

pub Chained-trans : {S : Type 0} (step : S → S → Type 0) (old mid new : S) → Chained step old mid → Chained step mid new → Chained step old new
Chained-trans step old mid new steps later = (steps.0 ++ later.0, Through-append step old mid new steps.0 later.0 steps.1 later.1)

-- what each step keeps, a chain of steps keeps
pub Through-keeps : {S X : Type 0} (step : S → S → Type 0) (part : S → X) → ((a b : S) → step a b → part b ≡ part a)
    → (old new : S) (states : List S) → Through step old states new → part new ≡ part old
Through-keeps step part keeps old new [] same = ap part same
Through-keeps step part keeps old new (state ∷ states) steps = Through-keeps step part keeps state new states steps.1 ∙ keeps old state steps.0

pub Chained-keeps : {S X : Type 0} (step : S → S → Type 0) (part : S → X) → ((a b : S) → step a b → part b ≡ part a)
    → (old new : S) → Chained step old new → part new ≡ part old
Chained-keeps step part keeps old new steps = Through-keeps step part keeps old new steps.0 steps.1

-- some writes have written a front of the bytes, and the rest is still to be written
pub record HasWritten {S : Type 0} (written : S → Option (List ℕ)) (faults : S → ℕ) (leaves : S → S → Type 0) (old new : S) (bytes rest : List ℕ) : Type 0 where
  pub front : List ℕ
  pub whole : front ++ rest ≡ bytes
  pub appended : Appends (written old) (written new) front
  pub faults_kept : faults new ≡ faults old
  pub frame : Chained leaves old new

module _ {S : Type 0} (written : S → Option (List ℕ)) (faults : S → ℕ) (leaves : S → S → Type 0) where
  pub nothing_written : (old : S) (bytes : List ℕ) → HasWritten written faults leaves old old bytes bytes
  nothing_written old bytes = record {
    front = [];
    whole = refl;
    appended = Appends-nil (written old);
    faults_kept = refl;
    frame = ([], refl);
  }

  pub more_written : (old mid new : S) (bytes rest : List ℕ) (n : ℕ) → HasWritten written faults leaves old mid bytes rest
      → Appends (written mid) (written new) (take n rest) → faults new ≡ faults mid → leaves mid new
      → HasWritten written faults leaves old new bytes (take (length rest - n) (drop n rest))
  more_written old mid new bytes rest n before appended kept frame = rw (slice-rest rest n) record {
    front = before.front ++ take n rest;
    whole = append_assoc before.front (take n rest) (drop n rest) ∙ ap (λ l. before.front ++ l) (take-append-drop n rest) ∙ before.whole;
    appended = Appends-trans (written old) (written mid) (written new) before.front (take n rest) before.appended appended;
    faults_kept = kept ∙ before.faults_kept;
    frame = Chained-step leaves old mid new before.frame frame;
  }

  pub all_written : (old new : S) (bytes rest : List ℕ) → HasWritten written faults leaves old new bytes rest → rest ≡ []
      → Appends (written old) (written new) bytes
  all_written old new bytes rest done none =
      subst (Appends (written old) (written new)) (sym (append-nil done.front) ∙ ap (λ l. done.front ++ l) (sym none) ∙ done.whole) done.appended

  pub front_written : (old mid new : S) (bytes rest : List ℕ) → HasWritten written faults leaves old mid bytes rest
      → Keeps (written mid) (written new) → AppendsFront (written old) (written new) bytes
  front_written old mid new bytes rest done kept =
      (done.front, rest, done.whole, Appends-kept (written old) (written mid) (written new) done.front done.appended kept)
