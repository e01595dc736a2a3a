-- What was taken of a stream so far, and what was heard then.
use Rattle.std.proofs.Common.{◌≡◌, ◌≢◌, ℕ, ◌<◌, Option, Some, None, List, [], ◌∷◌, ◌++◌, length, refl, sym, ap, ◌∙◌, subst, arith, append_assoc, append-nil, length-append, IfSome, IfOk, Result, Ok, Err}
use Rattle.std.specs.Io.KnownBytes.{Consumes, IsAtEnd}
use Rattle.std.proofs.KnownBytes.{Consumes-nil, Consumes-trans, Consumes-whole}
use Rattle.stock_io.specs.Streams.{Chained, Through}
use Rattle.stock_io.proofs.Writing.{Chained-step}
use Rattle.desk_wire.specs.declared.wire.Wire.{Wire}
use Rattle.desk_wire.specs.declared.wire.Wire.TheVariants.{More, Bad}
use Rattle.desk_wire.specs.declared.heard.Heard.{Heard}
use Rattle.desk_wire.specs.declared.heard.Heard.TheVariants.{Next, Last}
use Rattle.desk_wire.specs.declared.heard.Stop.TheVariants.{Refused, Ended, TooMuch}
use Rattle.stock_io.specs.declared.failed.Failed.{Failed}
use Rattle.desk_wire.specs.Waiting.{Waiting}
use Rattle.desk_wire.specs.Streams.{TakesIn, ReadsMore, whole, LiesIn, IfNext, heard_answer, IsOfStream, IsHopeless, IsHeardAs}
use Rattle.desk_wire.specs.Rules.{Answers}
use Rattle.desk_wire.proofs.InboxLemmas.{nothing_new}
use Rattle.desk_wire.proofs.RuleLemmas.{Answers-append, Answers-unique, whole_within, needed_only_if_hopeless}

pub IfSome-any : {A : Type 0} (o : Option A) {P : A → Type 0} → ((a : A) → P a) → IfSome o P
IfSome-any None all = tt
IfSome-any (Some a) all = all a

IfSome-map : {A : Type 0} (o : Option A) {P Q : A → Type 0} → ((a : A) → P a → Q a) → IfSome o P → IfSome o Q
IfSome-map None step some = tt
IfSome-map (Some a) step some = step a some

-- the answer to the bytes that were looked at
pub answers_at : {bytes shown : List ℕ} {wire result : Wire} → shown ≡ bytes → result ≡ wire → Answers shown result → Answers bytes wire
answers_at {bytes} {shown} {wire} {result} same is answers =
    subst (Answers bytes) is (subst (λ (l : List ℕ). Answers l result) same answers)

-- a request that is heard is there
pub result_is_there : (bytes : List ℕ) (r : Result Heard Failed) → IfOk r (λ heard. Answers bytes (heard_answer heard))
    → IfOk r (λ heard. IfNext heard (LiesIn bytes))
result_is_there bytes (Ok (Next request)) answers =
    let within = whole_within bytes (whole request) answers in
    record { some = within.0; head = within.1; body = within.2; within = within.3 }
result_is_there bytes (Ok (Last stop)) answers = tt
result_is_there bytes (Err failed) answers = tt

module _ {S : Type 0} (left : S → Option (List ℕ)) (taken : S → ℕ) where
  nothing_taken : (waits : Waiting) (source : S) → TakesIn left taken waits waits source source
  nothing_taken waits source = record {
    piece = [];
    behind = sym (append-nil waits.bytes);
    spare = omega arith;
    took = Consumes-nil (left source);
    counted = omega arith;
  }

  pub TakesIn-trans : (a b c : Waiting) (x y z : S) → TakesIn left taken a b x y → TakesIn left taken b c y z
      → TakesIn left taken a c x z
  TakesIn-trans a b c x y z p q = record {
    piece = p.piece ++ q.piece;
    behind = q.behind ∙ ap (λ (l : List ℕ). l ++ q.piece) p.behind ∙ append_assoc a.bytes p.piece q.piece;
    spare = omega (arith, p.spare, q.spare, length-append p.piece q.piece);
    took = Consumes-trans (left x) (left y) (left z) p.piece q.piece p.took q.took;
    counted = omega (arith, p.counted, q.counted, length-append p.piece q.piece);
  }

  -- what a source that tells its bytes had left comes behind what waits now
  pub stream_is : (a b : Waiting) (x y : S) (P : List ℕ → Type 0) → TakesIn left taken a b x y
      → ((rest : List ℕ) → P (b.bytes ++ rest)) → IfSome (left x) (λ ahead. P (a.bytes ++ ahead))
  stream_is a b x y P takes_in holds = by_known (left x) (left y) takes_in.took
    where
      by_known : (known known' : Option (List ℕ)) → Consumes known known' takes_in.piece → IfSome known (λ ahead. P (a.bytes ++ ahead))
      by_known None known' took = tt
      by_known (Some ahead) None took = absurd took
      by_known (Some ahead) (Some rest) took =
          let same : b.bytes ++ rest ≡ a.bytes ++ ahead =
          ap (λ (l : List ℕ). l ++ rest) takes_in.behind ∙ append_assoc a.bytes takes_in.piece rest ∙ ap (λ (l : List ℕ). a.bytes ++ l) (sym took) in
          subst P same (holds rest)

  -- all that was left waits now, where a read at the end gave nothing more
  pub all_came : (a b c : Waiting) (x y z : S) → TakesIn left taken a b x y → TakesIn left taken b c y z → length c.bytes ≡ length b.bytes
      → IsAtEnd (left y) → IfSome (left x) (λ ahead. c.bytes ≡ a.bytes ++ ahead)
  all_came a b c x y z takes_in none same end =
      let bytes : c.bytes ≡ a.bytes ++ takes_in.piece = nothing_new left taken b c y z none same ∙ takes_in.behind in
      Consumes-whole (left x) (left y) takes_in.piece (λ ahead. c.bytes ≡ a.bytes ++ ahead) takes_in.took end bytes

  -- what was heard once these bytes were taken
  module _ (a b : Waiting) (x y : S) (takes_in : TakesIn left taken a b x y) where
    of_stream : (heard : Heard) → Answers b.bytes (heard_answer heard)
        → (heard ≡ Last Ended → IfSome (left x) (λ ahead. b.bytes ≡ a.bytes ++ ahead))
        → IfSome (left x) (λ ahead. IsOfStream (a.bytes ++ ahead) heard)
    of_stream (Next request) answers ended =
        stream_is a b x y (λ stream. Answers stream (whole request)) takes_in
        (λ rest. Answers-append b.bytes rest (whole request) answers (λ same. cc))
    of_stream (Last (Refused status)) answers ended =
        stream_is a b x y (λ stream. Answers stream (Bad status)) takes_in
        (λ rest. Answers-append b.bytes rest (Bad status) answers (λ same. cc))
    of_stream (Last Ended) answers ended =
        IfSome-map (left x) (λ ahead same. subst (λ stream. Answers stream More) same answers) (ended refl)
    of_stream (Last TooMuch) answers ended = IfSome-any (left x) (λ ahead. tt)

    heard_as : (heard : Heard) → Answers b.bytes (heard_answer heard)
        → (heard ≡ Last Ended → IfSome (left x) (λ ahead. b.bytes ≡ a.bytes ++ ahead))
        → IfSome (left x) (λ ahead. (wire : Wire) → Answers (a.bytes ++ ahead) wire → wire ≢ More → IsHeardAs (a.bytes ++ ahead) wire heard)
    heard_as (Next request) answers ended =
        stream_is a b x y (λ stream. (wire : Wire) → Answers stream wire → wire ≢ More → whole request ≡ wire) takes_in
        (λ rest wire other settled. Answers-unique (b.bytes ++ rest) (whole request) wire
        (Answers-append b.bytes rest (whole request) answers (λ same. cc)) other (λ same. cc) settled)
    heard_as (Last (Refused status)) answers ended =
        stream_is a b x y (λ stream. (wire : Wire) → Answers stream wire → wire ≢ More → Bad status ≡ wire) takes_in
        (λ rest wire other settled. Answers-unique (b.bytes ++ rest) (Bad status) wire
        (Answers-append b.bytes rest (Bad status) answers (λ same. cc)) other (λ same. cc) settled)
    heard_as (Last Ended) answers ended =
        IfSome-map (left x) (λ ahead same. subst (λ stream. (wire : Wire) → Answers stream wire → wire ≢ More → IsHopeless stream) same
        (λ wire other settled. needed_only_if_hopeless b.bytes wire answers other settled)) (ended refl)
    heard_as (Last TooMuch) answers ended = IfSome-any (left x) (λ ahead wire other settled. tt)

    pub result_of_stream : (r : Result Heard Failed) → IfOk r (λ heard. Answers b.bytes (heard_answer heard))
        → (r ≡ Ok (Last Ended) → IfSome (left x) (λ ahead. b.bytes ≡ a.bytes ++ ahead))
        → IfSome (left x) (λ ahead. IfOk r (IsOfStream (a.bytes ++ ahead)))
    result_of_stream (Ok heard) answers ended = of_stream heard answers (λ same. ended (ap Ok same))
    result_of_stream (Err failed) answers ended = IfSome-any (left x) (λ ahead. tt)

    pub result_heard_as : (r : Result Heard Failed) → IfOk r (λ heard. Answers b.bytes (heard_answer heard))
        → (r ≡ Ok (Last Ended) → IfSome (left x) (λ ahead. b.bytes ≡ a.bytes ++ ahead))
        → IfSome (left x) (λ ahead. (wire : Wire) → Answers (a.bytes ++ ahead) wire → wire ≢ More → IfOk r (IsHeardAs (a.bytes ++ ahead) wire))
    result_heard_as (Ok heard) answers ended = heard_as heard answers (λ same. ended (ap Ok same))
    result_heard_as (Err failed) answers ended = IfSome-any (left x) (λ ahead wire other settled. tt)

-- ---- the reads of a call, one after another

module _ {S : Type 0} (left : S → Option (List ℕ)) (taken : S → ℕ) (leaves : S → S → Type 0) where
  -- one more read, where more bytes were needed and might be taken
  pub one_more_read : (o a b : Waiting) (w x y : S) → Chained (ReadsMore left taken leaves) (o, w) (a, x)
      → Answers a.bytes More → 0 < a.spare → TakesIn left taken a b x y → leaves x y → Chained (ReadsMore left taken leaves) (o, w) (b, y)
  one_more_read o a b w x y reads needed allowed takes_in frame =
      Chained-step (ReadsMore left taken leaves) (o, w) (a, x) (b, y) reads
      (record { needed = needed; allowed = allowed; takes_in = takes_in; frame = frame })

  Through-takes_in : (old new : Waiting × S) (states : List (Waiting × S)) → Through (ReadsMore left taken leaves) old states new
      → TakesIn left taken old.0 new.0 old.1 new.1
  Through-takes_in old new [] same =
      subst (λ (p : Waiting × S). TakesIn left taken old.0 p.0 old.1 p.1) (sym same) (nothing_taken left taken old.0 old.1)
  Through-takes_in old new (state ∷ states) steps =
      TakesIn-trans left taken old.0 state.0 new.0 old.1 state.1 new.1 steps.0.takes_in (Through-takes_in state new states steps.1)

  pub reads_take_in : (a b : Waiting) (x y : S) → Chained (ReadsMore left taken leaves) (a, x) (b, y) → TakesIn left taken a b x y
  reads_take_in a b x y reads = Through-takes_in (a, x) (b, y) reads.0 reads.1

  Through-frame : (old new : Waiting × S) (states : List (Waiting × S)) → Through (ReadsMore left taken leaves) old states new
      → Chained leaves old.1 new.1
  Through-frame old new [] same = subst (λ (p : Waiting × S). Chained leaves old.1 p.1) (sym same) ([], refl)
  Through-frame old new (state ∷ states) steps =
      let later = Through-frame state new states steps.1 in (state.1 ∷ later.0, (steps.0.frame, later.1))

  pub reads_frame : (a b : Waiting) (x y : S) → Chained (ReadsMore left taken leaves) (a, x) (b, y) → Chained leaves x y
  reads_frame a b x y reads = Through-frame (a, x) (b, y) reads.0 reads.1

  -- where no more bytes are needed at first, nothing is read
  Through-ready : (old new : Waiting × S) (states : List (Waiting × S)) → Through (ReadsMore left taken leaves) old states new
      → ¬ Answers old.0.bytes More → new ≡ old
  Through-ready old new [] same ready = same
  Through-ready old new (state ∷ states) steps ready = absurd (ready steps.0.needed)

  pub reads_ready : (a b : Waiting) (x y : S) → Chained (ReadsMore left taken leaves) (a, x) (b, y) → ¬ Answers a.bytes More
      → (b ≡ a) × (y ≡ x)
  reads_ready a b x y reads ready =
      let same = Through-ready (a, x) (b, y) reads.0 reads.1 ready in
      (ap (λ (p : Waiting × S). p.0) same, ap (λ (p : Waiting × S). p.1) same)
