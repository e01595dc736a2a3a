-- The requests of a stream, one after another.
use Rattle.std.proofs.Common.{◌≡◌, ℕ, ◌+◌, ◌≤◌, ◌⊎◌, inl, inr, Option, Some, None, List, [], ◌∷◌, ◌++◌, length, take, drop, refl, sym, ap, ◌∙◌, subst, arith, add_comm, append_assoc, append-nil, length-append, IfSome, IfOk, Result, Ok, Err}
use Rattle.std.specs.Option.{option_map}
use Rattle.std.specs.Io.KnownBytes.{Consumes}
use Rattle.std.proofs.KnownBytes.{Consumes-nil, Consumes-trans}
use Rattle.std.proofs.Math.Seq.{drop-append-le, take-append-add, take-nil}
use Rattle.std.proofs.lemmas.List.{nil_from_length}
use Rattle.stock_io.specs.Streams.{Chained}
use Rattle.stock_io.proofs.Writing.{Chained-trans}
use Rattle.desk_wire.specs.declared.wire.Wire.TheVariants.{More, Bad}
use Rattle.desk_wire.specs.declared.heard.Request.{Request}
use Rattle.desk_wire.specs.declared.heard.Stop.{Stop}
use Rattle.desk_wire.specs.declared.heard.Stop.TheVariants.{Refused, Ended, TooMuch}
use Rattle.desk_wire.specs.declared.heard.Heard.{Heard}
use Rattle.desk_wire.specs.declared.heard.Heard.TheVariants.{Next, Last}
use Rattle.desk_wire.specs.declared.framing.Framing.{Framing}
use Rattle.desk_wire.specs.declared.framing.FramingFault.{FramingFault}
use Rattle.desk_wire.specs.Waiting.{Waiting, after_passing, ahead, in_reach}
use Rattle.desk_wire.specs.Rules.{Answers}
use Rattle.desk_wire.specs.Streams.{TakesIn, whole, size, LiesIn, IfNext, heard_answer, stop_answer, TellsLimit, IsHopeless}
use Rattle.desk_wire.specs.Framings.{Parts, Framed, Follows, AllowsStop, IsSameFraming}
use Rattle.desk_wire.proofs.RuleLemmas.{Answers-append, Answers-unique, whole_is_not_more, needed_only_if_hopeless}

-- one more request
Parts-push : (stream : List ℕ) (requests : List Request) (rest : List ℕ) (request : Request) → Parts stream requests rest
    → Answers rest (whole request) → Parts stream (requests ++ request ∷ []) (drop (size request) rest)
Parts-push stream [] rest request same answers =
    (subst (λ (l : List ℕ). Answers l (whole request)) (sym same) answers, ap (drop (size request)) same)
Parts-push stream (first ∷ requests) rest request parts answers =
    (parts.0, Parts-push (drop (size first) stream) requests rest request parts.1 answers)

-- what a call said of what was heard, once that is known
pub heard_next : {heard : Heard} {request : Request} (bytes : List ℕ) → heard ≡ Next request → Answers bytes (heard_answer heard)
    → IfNext heard (LiesIn bytes) → Answers bytes (whole request) × LiesIn bytes request
heard_next bytes is answers there =
    (subst (λ (h : Heard). Answers bytes (heard_answer h)) is answers, subst (λ (h : Heard). IfNext h (LiesIn bytes)) is there)

pub heard_last : {heard : Heard} {stop : Stop} (waits : Waiting) → heard ≡ Last stop → Answers waits.bytes (heard_answer heard)
    → TellsLimit heard waits → Answers waits.bytes (stop_answer stop) × TellsLimit (Last stop) waits
heard_last waits is answers limit =
    (subst (λ (h : Heard). Answers waits.bytes (heard_answer h)) is answers, subst (λ (h : Heard). TellsLimit h waits) is limit)

-- ---- what is ahead once some bytes came, or were let go

-- the bytes that were taken, and how many more may be
pub record HasSpent {S : Type 0} (left : S → Option (List ℕ)) (taken : S → ℕ) (waits waits' : Waiting) (source source' : S) : Type 0 where
  pub bytes : List ℕ
  pub spare : waits.spare ≡ waits'.spare + length bytes
  pub took : Consumes (left source) (left source') bytes
  pub counted : taken source' ≡ taken source + length bytes

module _ {S : Type 0} (left : S → Option (List ℕ)) (taken : S → ℕ) where
  pub nothing_spent : (waits : Waiting) (source : S) → HasSpent left taken waits waits source source
  nothing_spent waits source = record {
    bytes = [];
    spare = omega arith;
    took = Consumes-nil (left source);
    counted = omega arith;
  }

  pub more_spent : (a b c : Waiting) (x y z : S) → HasSpent left taken a b x y → TakesIn left taken b c y z → HasSpent left taken a c x z
  more_spent a b c x y z spent takes_in = record {
    bytes = spent.bytes ++ takes_in.piece;
    spare = omega (arith, spent.spare, takes_in.spare, length-append spent.bytes takes_in.piece);
    took = Consumes-trans (left x) (left y) (left z) spent.bytes takes_in.piece spent.took takes_in.took;
    counted = omega (arith, spent.counted, takes_in.counted, length-append spent.bytes takes_in.piece);
  }

-- a part of what is ahead that begins with what waits, and changes alone where some of that is let go
pub record IsView (view : Waiting → List ℕ → List ℕ) : Type 0 where
  pub tail : Waiting → List ℕ → List ℕ
  pub begins : (a : Waiting) (rest : List ℕ) → view a rest ≡ a.bytes ++ tail a rest
  pub grown : (a b : Waiting) (piece rest : List ℕ) → b.bytes ≡ a.bytes ++ piece → a.spare ≡ b.spare + length piece
      → view a (piece ++ rest) ≡ view b rest
  pub passed : (a : Waiting) (n : ℕ) (rest : List ℕ) → n ≤ length a.bytes → view (after_passing a n) rest ≡ drop n (view a rest)

-- all of it
abbrev pub all_ahead : Waiting → List ℕ → List ℕ
all_ahead waits rest = waits.bytes ++ rest

pub all_is_view : IsView all_ahead
all_is_view = record {
  tail = λ a rest. rest;
  begins = λ a rest. refl;
  grown = λ a b piece rest behind spare.
      sym (append_assoc a.bytes piece rest) ∙ ap (λ (l : List ℕ). l ++ rest) (sym behind);
  passed = λ a n rest there. sym (drop-append-le n a.bytes rest there);
}

-- what may be heard
pub reach_is_view : IsView in_reach
reach_is_view = record {
  tail = λ a rest. take a.spare rest;
  begins = λ a rest. refl;
  grown = λ a b piece rest behind spare.
      ap (λ k. a.bytes ++ take k (piece ++ rest)) (spare ∙ add_comm b.spare (length piece))
      ∙ ap (λ (l : List ℕ). a.bytes ++ l) (take-append-add piece rest b.spare)
      ∙ sym (append_assoc a.bytes piece (take b.spare rest)) ∙ ap (λ (l : List ℕ). l ++ take b.spare rest) (sym behind);
  passed = λ a n rest there. sym (drop-append-le n a.bytes (take a.spare rest) there);
}

pub follows_none : (ahead : Option (List ℕ)) → Follows ahead [] ahead
follows_none None = tt
follows_none (Some stream) = refl

module _ {S : Type 0} (left : S → Option (List ℕ)) (taken : S → ℕ) (view : Waiting → List ℕ → List ℕ) (is : IsView view) where
  -- a piece came
  pub follows_taken : (first : Option (List ℕ)) (requests : List Request) (a b : Waiting) (x y : S)
      → Follows first requests (option_map (view a) (left x)) → TakesIn left taken a b x y → Follows first requests (option_map (view b) (left y))
  follows_taken first requests a b x y follows takes_in = by_known first (left x) (left y) follows takes_in.took
    where
      by_known : (first known known' : Option (List ℕ)) → Follows first requests (option_map (view a) known)
          → Consumes known known' takes_in.piece → Follows first requests (option_map (view b) known')
      by_known None known known' follows took = tt
      by_known (Some stream) None known' follows took = absurd follows
      by_known (Some stream) (Some ahead) None follows took = absurd took
      by_known (Some stream) (Some ahead) (Some rest) follows took =
          subst (Parts stream requests)
          (ap (view a) took ∙ is.grown a b takes_in.piece rest takes_in.behind takes_in.spare) follows

  -- a request was heard and let go
  pub follows_passed : (first : Option (List ℕ)) (requests : List Request) (request : Request) (a : Waiting) (x : S)
      → Follows first requests (option_map (view a) (left x)) → Answers a.bytes (whole request) → size request ≤ length a.bytes
      → Follows first (requests ++ request ∷ []) (option_map (view (after_passing a (size request))) (left x))
  follows_passed first requests request a x follows answers there = by_known first (left x) follows
    where
      by_known : (first known : Option (List ℕ)) → Follows first requests (option_map (view a) known)
          → Follows first (requests ++ request ∷ []) (option_map (view (after_passing a (size request))) known)
      by_known None known follows = tt
      by_known (Some stream) None follows = absurd follows
      by_known (Some stream) (Some rest) follows =
          let answered : Answers (view a rest) (whole request) =
          subst (λ (l : List ℕ). Answers l (whole request)) (sym (is.begins a rest))
          (Answers-append a.bytes (is.tail a rest) (whole request) answers (λ same. cc)) in
          subst (Parts stream (requests ++ request ∷ [])) (sym (is.passed a (size request) rest there))
          (Parts-push stream requests (view a rest) request follows answered)

-- these requests were heard and let go, of what was ahead and of what might be heard
pub record HasFramed {S : Type 0} (left : S → Option (List ℕ)) (taken faults : S → ℕ) (leaves : S → S → Type 0) (waits waits' : Waiting) (source source' : S) (requests : List Request) : Type 0 where
  pub all : Follows (ahead waits (left source)) requests (ahead waits' (left source'))
  pub reach : Follows (option_map (in_reach waits) (left source)) requests (option_map (in_reach waits') (left source'))
  pub spent : HasSpent left taken waits waits' source source'
  pub faults_kept : faults source' ≡ faults source
  pub frame : Chained leaves source source'

module _ {S : Type 0} (left : S → Option (List ℕ)) (taken faults : S → ℕ) (leaves : S → S → Type 0) where
  pub none_framed : (waits : Waiting) (source : S) → HasFramed left taken faults leaves waits waits source source []
  none_framed waits source = record {
    all = follows_none (ahead waits (left source));
    reach = follows_none (option_map (in_reach waits) (left source));
    spent = nothing_spent left taken waits source;
    faults_kept = refl;
    frame = ([], refl);
  }

  -- one more, of the bytes that waited once a piece came
  pub next_framed : (first a b c : Waiting) (o x y : S) (requests more : List Request) (request : Request)
      → HasFramed left taken faults leaves first a o x requests → TakesIn left taken a b x y → Answers b.bytes (whole request)
      → size request ≤ length b.bytes → faults y ≡ faults x → Chained leaves x y
      → c ≡ after_passing b (size request) → more ≡ requests ++ request ∷ [] → HasFramed left taken faults leaves first c o y more
  next_framed first a b c o x y requests more request before takes_in answers there kept frame passed added =
      let framed : HasFramed left taken faults leaves first (after_passing b (size request)) o y (requests ++ request ∷ []) = record {
        all = follows_passed left taken all_ahead all_is_view (ahead first (left o)) requests request b y
            (follows_taken left taken all_ahead all_is_view (ahead first (left o)) requests a b x y before.all takes_in) answers there;
        reach = follows_passed left taken in_reach reach_is_view (option_map (in_reach first) (left o)) requests request b y
            (follows_taken left taken in_reach reach_is_view (option_map (in_reach first) (left o)) requests a b x y before.reach takes_in) answers there;
        spent = let spent = more_spent left taken first a b o x y before.spent takes_in in
            record { bytes = spent.bytes; spare = spent.spare; took = spent.took; counted = spent.counted };
        faults_kept = kept ∙ before.faults_kept;
        frame = Chained-trans leaves o x y before.frame frame;
      } in
      subst (λ (w : Waiting). HasFramed left taken faults leaves first w o y more) (sym passed)
      (subst (HasFramed left taken faults leaves first (after_passing b (size request)) o y) (sym added) framed)

-- ---- where the requests stop

-- the bytes that may be heard are answered as those that wait, where no more came before the stop
stop_in_reach : (waits : Waiting) (rest : List ℕ) (stop : Stop) → Answers waits.bytes (stop_answer stop) → TellsLimit (Last stop) waits
    → (stop ≡ Ended → rest ≡ []) → Answers (in_reach waits rest) (stop_answer stop)
stop_in_reach waits rest (Refused status) answers limit ended =
    Answers-append waits.bytes (take waits.spare rest) (Bad status) answers (λ same. cc)
stop_in_reach waits rest Ended answers limit ended =
    let none : take waits.spare rest ≡ [] = ap (take waits.spare) (ended refl) ∙ take-nil waits.spare in
    subst (λ (l : List ℕ). Answers l More) (sym (ap (λ (l : List ℕ). waits.bytes ++ l) none ∙ append-nil waits.bytes)) answers
stop_in_reach waits rest TooMuch answers limit ended =
    let none : take waits.spare rest ≡ [] = ap (λ k. take k rest) limit in
    subst (λ (l : List ℕ). Answers l More) (sym (ap (λ (l : List ℕ). waits.bytes ++ l) none ∙ append-nil waits.bytes)) answers

stop_is_allowed : (waits waits' : Waiting) (left bytes rest : List ℕ) (stop : Stop) → left ≡ bytes ++ rest → waits.spare ≡ waits'.spare + length bytes
    → TellsLimit (Last stop) waits' → (stop ≡ Ended → rest ≡ []) → AllowsStop waits.spare (length left) stop
stop_is_allowed waits waits' left bytes rest (Refused status) whole spare limit ended = tt
stop_is_allowed waits waits' left bytes rest Ended whole spare limit ended =
    omega (arith, spare, limit, ap (λ (l : List ℕ). length l) whole, length-append bytes rest, ap (λ (l : List ℕ). length l) (ended refl))
stop_is_allowed waits waits' left bytes rest TooMuch whole spare limit ended =
    omega (arith, spare, limit, ap (λ (l : List ℕ). length l) whole, length-append bytes rest)

-- all that was left came, so that none is left
none_left : (waits waits' : Waiting) (ahead piece rest : List ℕ) → waits'.bytes ≡ waits.bytes ++ piece → ahead ≡ piece ++ rest
    → waits'.bytes ≡ waits.bytes ++ ahead → rest ≡ []
none_left waits waits' ahead piece rest behind whole all =
    let len = λ (l : List ℕ). length l in
    nil_from_length rest (omega (arith, ap len behind, ap len whole, ap len all, length-append waits.bytes piece, length-append waits.bytes ahead, length-append piece rest))

module _ {S : Type 0} (left : S → Option (List ℕ)) (taken : S → ℕ) where
  -- no further request was heard, once these bytes had been taken and then those
  pub framed_last : (first a b : Waiting) (o x y : S) (requests : List Request) (stop : Stop)
      → Follows (option_map (in_reach first) (left o)) requests (option_map (in_reach a) (left x))
      → HasSpent left taken first a o x → TakesIn left taken a b x y → Answers b.bytes (stop_answer stop) → TellsLimit (Last stop) b
      → (stop ≡ Ended → IfSome (left x) (λ ahead. b.bytes ≡ a.bytes ++ ahead))
      → IfSome (left o) (λ ahead. Framed first ahead requests stop)
  framed_last first a b o x y requests stop follows spent takes_in answers limit ended =
      let all = more_spent left taken first a b o x y spent takes_in in
      by_known (left o) (left x) (left y) (follows_taken left taken in_reach reach_is_view _ requests a b x y follows takes_in) spent.took takes_in.took ended
    where
      by_known : (known known' known'' : Option (List ℕ)) → Follows (option_map (in_reach first) known) requests (option_map (in_reach b) known'')
          → Consumes known known' spent.bytes → Consumes known' known'' takes_in.piece
          → (stop ≡ Ended → IfSome known' (λ ahead. b.bytes ≡ a.bytes ++ ahead)) → IfSome known (λ ahead. Framed first ahead requests stop)
      by_known None known' known'' follows took took' ended = tt
      by_known (Some ahead) None known'' follows took took' ended = absurd took
      by_known (Some ahead) (Some now) None follows took took' ended = absurd took'
      by_known (Some ahead) (Some now) (Some rest) follows took took' ended =
          let none : stop ≡ Ended → rest ≡ [] = λ same. none_left a b now takes_in.piece rest takes_in.behind took' (ended same) in
          let bytes = spent.bytes ++ takes_in.piece in
          let whole : ahead ≡ bytes ++ rest =
          took ∙ ap (λ (l : List ℕ). spent.bytes ++ l) took' ∙ sym (append_assoc spent.bytes takes_in.piece rest) in
          let spare : first.spare ≡ b.spare + length bytes = omega (arith, spent.spare, takes_in.spare, length-append spent.bytes takes_in.piece) in
          record {
            rest = in_reach b rest;
            parts = follows;
            answered = stop_in_reach b rest stop answers limit none;
            allowed = stop_is_allowed first b ahead bytes rest stop whole spare limit none;
          }

-- ---- one framing

no_request : (stream : List ℕ) (request : Request) (stop : Stop) → Answers stream (whole request) → Answers stream (stop_answer stop) → ⊥
no_request stream request (Refused status) a b =
    let same : whole request ≡ Bad status = Answers-unique stream (whole request) (Bad status) a b (λ same. cc) (λ same. cc) in cc
no_request stream request Ended a b = whole_is_not_more stream request a b
no_request stream request TooMuch a b = whole_is_not_more stream request a b

same_stop : (spare left : ℕ) (stream : List ℕ) (a b : Stop) → AllowsStop spare left a → AllowsStop spare left b
    → Answers stream (stop_answer a) → Answers stream (stop_answer b) → (a ≡ b) ⊎ IsHopeless stream
same_stop spare left stream (Refused status) (Refused status') p q x y =
    let same : Bad status ≡ Bad status' = Answers-unique stream (Bad status) (Bad status') x y (λ same. cc) (λ same. cc) in
    inl (cc)
same_stop spare left stream (Refused status) Ended p q x y = inr (needed_only_if_hopeless stream (Bad status) y x (λ same. cc))
same_stop spare left stream (Refused status) TooMuch p q x y = inr (needed_only_if_hopeless stream (Bad status) y x (λ same. cc))
same_stop spare left stream Ended (Refused status) p q x y = inr (needed_only_if_hopeless stream (Bad status) x y (λ same. cc))
same_stop spare left stream TooMuch (Refused status) p q x y = inr (needed_only_if_hopeless stream (Bad status) x y (λ same. cc))
same_stop spare left stream Ended Ended p q x y = inl refl
same_stop spare left stream TooMuch TooMuch p q x y = inl refl
same_stop spare left stream Ended TooMuch p q x y = absurd (omega (arith, p, q))
same_stop spare left stream TooMuch Ended p q x y = absurd (omega (arith, p, q))

same_request : (stream : List ℕ) (a b : Request) → Answers stream (whole a) → Answers stream (whole b) → a ≡ b
same_request stream a b x y =
    let same : whole a ≡ whole b = Answers-unique stream (whole a) (whole b) x y (λ same. cc) (λ same. cc) in
    let head : a.head ≡ b.head = cc in
    let body : a.body ≡ b.body = cc in
    let close : a.close ≡ b.close = cc in
    λ i. record { head = head i; body = body i; close = close i }

-- the requests are these, and the stops too, or what is left is hopeless
abbrev Same : List ℕ → List Request → List Request → Stop → Stop → Type 0
Same stream requests requests' stop stop' =
    (requests ≡ requests') × ((stop ≡ stop') ⊎ ((rest : List ℕ) × Parts stream requests rest × IsHopeless rest))

one_more : (stream : List ℕ) (request request' : Request) (requests requests' : List Request) (stop stop' : Stop)
    → Answers stream (whole request) → request ≡ request' → Same (drop (size request) stream) requests requests' stop stop'
    → Same stream (request ∷ requests) (request' ∷ requests') stop stop'
one_more stream request request' requests requests' stop stop' answers same (rest_same, stops) =
    (λ i. same i ∷ rest_same i, elim stops [ inl e ↦ inl e | inr h ↦ inr (h.0, (answers, h.1), h.2) ])

same_framing : (spare left : ℕ) (stream : List ℕ) (requests requests' : List Request) (rest rest' : List ℕ) (stop stop' : Stop)
    → AllowsStop spare left stop → AllowsStop spare left stop' → Parts stream requests rest → Parts stream requests' rest'
    → Answers rest (stop_answer stop) → Answers rest' (stop_answer stop') → Same stream requests requests' stop stop'
same_framing spare left stream [] [] rest rest' stop stop' p q a b x y =
    let x' = subst (λ (l : List ℕ). Answers l (stop_answer stop)) (sym a) x in
    let y' = subst (λ (l : List ℕ). Answers l (stop_answer stop')) (sym b) y in
    (refl, elim (same_stop spare left stream stop stop' p q x' y') [ inl e ↦ inl e | inr h ↦ inr (stream, refl, h) ])
same_framing spare left stream [] (r' ∷ rs') rest rest' stop stop' p q a b x y =
    absurd (no_request stream r' stop b.0 (subst (λ (l : List ℕ). Answers l (stop_answer stop)) (sym a) x))
same_framing spare left stream (r ∷ rs) [] rest rest' stop stop' p q a b x y =
    absurd (no_request stream r stop' a.0 (subst (λ (l : List ℕ). Answers l (stop_answer stop')) (sym b) y))
same_framing spare left stream (r ∷ rs) (r' ∷ rs') rest rest' stop stop' p q a b x y =
    let same : r ≡ r' = same_request stream r r' a.0 b.0 in
    one_more stream r r' rs rs' stop stop' a.0 same
    (same_framing spare left (drop (size r) stream) rs rs' rest rest' stop stop' p q a.1
    (subst (λ (t : Request). Parts (drop (size t) stream) rs' rest') (sym same) b.1) x y)

pub one_framing : (waits : Waiting) (left : List ℕ) (a b : Framing) → Framed waits left a.requests a.stop → Framed waits left b.requests b.stop
    → IsSameFraming (in_reach waits left) a b
one_framing waits left a b x y =
    let same = same_framing waits.spare (length left) (in_reach waits left) a.requests b.requests x.rest y.rest a.stop b.stop
    x.allowed y.allowed x.parts y.parts x.answered y.answered in
    record { requests = same.0; stop = same.1 }

pub one_framing_told : (known : Option (List ℕ)) (waits : Waiting) (r : Result Framing FramingFault)
    → IfSome known (λ left. IfOk r (λ framing. Framed waits left framing.requests framing.stop))
    → IfSome known (λ left. IfOk r (λ framing. (other : Framing) → Framed waits left other.requests other.stop
    → IsSameFraming (in_reach waits left) framing other))
one_framing_told None waits r framed = tt
one_framing_told (Some left) waits (Ok framing) framed = λ other y. one_framing waits left framing other framed y
one_framing_told (Some left) waits (Err fault) framed = tt
