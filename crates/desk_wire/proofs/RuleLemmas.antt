-- What the rules answer to a buffer, and what they answer once more bytes follow.
use Rattle.std.proofs.Common.{◌≡◌, ◌≢◌, ℕ, ◌+◌, ◌-◌, ◌<◌, ◌≤◌, ◌⊎◌, inl, inr, Bool, true, false, if◌then◌else◌, List, [], ◌∷◌, ◌++◌, length, map, take, drop, refl, sym, ap, ◌∙◌, subst, arith, min, append_assoc, length-append, length-take, append-nil}
use Rattle.std.specs.Prelude.{nat_lt, nat_le, not, codes, bytes_eq, ◌==◌, ◌&&◌}
use Rattle.std.specs.Str.Parse.{digits_value}
use Rattle.std.proofs.lemmas.Bool.{cases_Bool, cases_lt, cond-true, cond-false, cond_both, ltb-false, ltb-true, leb-false, le-leb, lt-leb, le-ltb}
use Rattle.std.proofs.lemmas.List.{take_all, take-append-le, length-map}
use Rattle.std.proofs.Math.Seq.{take-append-add}
use Rattle.httparse.specs.declared.spans.HeaderSpan.{HeaderSpan}
use Rattle.httparse.specs.declared.spans.RequestSpans.{RequestSpans}
use Rattle.httparse.specs.Grammar.{RequestHead, print_request, ReadsRequest, HasNoRequest, MayBecomeRequest, Field}
use Rattle.httparse.specs.Spans.{RequestOverflows, IsRequestOf, IsRequestWithin, span_bytes, header_bytes, name_and_value}
use Rattle.httparse.proofs.GrammarLemmas.{request_unique, ReadsRequest-append}
use Rattle.desk_wire.specs.declared.wire.Wire.{Wire}
use Rattle.desk_wire.specs.declared.wire.Wire.TheVariants.{Whole, More, Bad}
use Rattle.desk_wire.specs.Heads.{Fields, fields_of, values_of, is_length, asks_to_close}
use Rattle.desk_wire.specs.declared.heard.Request.{Request}
use Rattle.desk_wire.specs.Streams.{whole}
use Rattle.desk_wire.specs.Rules.{body_limit, head_part, Reading, Hopeless, Unfinished, Head, IsReading, body_answer, head_answer, answer, Answers, IfWhole}

-- the head part of a buffer, as the code takes it
pub head_part_is : (buffer : List ℕ) (n : ℕ) → n ≡ min (length buffer) 65536 → take n buffer ≡ head_part buffer
head_part_is buffer n is = by_size (cases_lt (length buffer) 65536)
  where
    by_size : (length buffer < 65536) ⊎ (65536 ≤ length buffer) → take n buffer ≡ head_part buffer
    by_size (inl small) =
        let whole : n ≡ length buffer = omega arith in
        ap (λ k. take k buffer) whole ∙ take_all (length buffer) buffer (omega arith) ∙ sym (take_all 65536 buffer (omega arith))
    by_size (inr large) = let whole : n ≡ 65536 = omega arith in ap (λ k. take k buffer) whole

-- ---- what was read, as the rules read it

count_is : (f : HeaderSpan → List ℕ × List ℕ) (spans : List HeaderSpan) (fields : List Field)
    → map f spans ≡ map name_and_value fields → length spans ≤ 64 → length fields ≤ 64
count_is f spans fields same few =
    let counts : length (map f spans) ≡ length (map name_and_value fields) = ap (λ (l : Fields). length l) same in
    let a : length (map f spans) ≡ length spans = simp length-map in
    let b : length (map name_and_value fields) ≡ length fields = simp length-map in
    omega arith

module _ (buffer : List ℕ) (n : ℕ) (is : n ≡ min (length buffer) 65536) where
  pub complete_answers : (headers : List HeaderSpan) (spans : RequestSpans) (wire : Wire)
      → IsRequestOf (take n buffer) headers spans → IsRequestWithin (take n buffer) headers spans → length headers ≡ 64
      → wire ≡ head_answer spans.version (span_bytes (take n buffer) spans.method) (span_bytes (take n buffer) spans.path) (map (header_bytes (take n buffer)) (take spans.headers headers)) spans.len (length buffer - spans.len)
      → Answers buffer wire
  complete_answers headers spans wire found within room same =
      let head = found.0 in
      let at = found.1 in
      let few : length head.fields ≤ 64 =
      count_is (header_bytes (take n buffer)) (take spans.headers headers) head.fields at.fields (omega (arith, length-take spans.headers headers)) in (
        Head head,
        (subst (λ (front : List ℕ). (rest : List ℕ) × ReadsRequest front head rest) (head_part_is buffer n is) (drop spans.len (take n buffer), at.reads), few),
        cc (same, at.version, at.method, at.path, at.fields, at.len),
      )

  pub partial_answers : (wire : Wire) → HasNoRequest (take n buffer) → MayBecomeRequest (take n buffer)
      → wire ≡ answer Unfinished (length buffer) → Answers buffer wire
  partial_answers wire none may same =
      (Unfinished, subst (λ front. HasNoRequest front × MayBecomeRequest front) (head_part_is buffer n is) (none, may), same)

  pub refused_answers : (wire : Wire) → RequestOverflows 64 (take n buffer) → wire ≡ Bad 400 → Answers buffer wire
  refused_answers wire over same = (Hopeless, subst (RequestOverflows 64) (head_part_is buffer n is) over, same)

-- ---- more bytes

-- the head part of a buffer is a front of the head part once more bytes follow
head_part-append : (buffer more : List ℕ)
    → (later : List ℕ) × (head_part (buffer ++ more) ≡ head_part buffer ++ later) × (65536 ≤ length buffer → later ≡ [])
head_part-append buffer more = by_size (cases_lt (length buffer) 65536)
  where
    by_size : (length buffer < 65536) ⊎ (65536 ≤ length buffer)
        → (later : List ℕ) × (head_part (buffer ++ more) ≡ head_part buffer ++ later) × (65536 ≤ length buffer → later ≡ [])
    by_size (inl small) = (
      take (65536 - length buffer) more,
      let sum : 65536 ≡ length buffer + (65536 - length buffer) = omega arith in
          ap (λ k. take k (buffer ++ more)) sum ∙ take-append-add buffer more (65536 - length buffer)
          ∙ ap (λ front. front ++ take (65536 - length buffer) more) (sym (take_all 65536 buffer (omega arith))),
      λ large. absurd (omega arith),
    )
    by_size (inr large) = ([], take-append-le 65536 buffer more large ∙ sym (append-nil (head_part buffer)), λ _. refl)

overflows-append : (room : ℕ) (front later : List ℕ) → RequestOverflows room front → RequestOverflows room (front ++ later)
overflows-append room front later over more head rest reads =
    over (later ++ more) head rest (subst (λ bytes. ReadsRequest bytes head rest) (append_assoc front later more) reads)

-- more bytes after a head change its answer only where more were needed
body_answer-more : (values : List (List ℕ)) (head after after' : ℕ) (close : Bool) → after ≤ after'
    → body_answer values head after close ≢ More → body_answer values head after' close ≡ body_answer values head after close
body_answer-more [] head after after' close grows settled = refl
body_answer-more (value ∷ []) head after after' close grows settled =
    by_shape (cases_Bool (is_length value)) (cases_Bool (nat_lt body_limit (digits_value 10 value))) (cases_Bool (nat_lt after (digits_value 10 value)))
  where
    by_shape : (is_length value ≡ true) ⊎ (is_length value ≡ false)
        → (nat_lt body_limit (digits_value 10 value) ≡ true) ⊎ (nat_lt body_limit (digits_value 10 value) ≡ false)
        → (nat_lt after (digits_value 10 value) ≡ true) ⊎ (nat_lt after (digits_value 10 value) ≡ false)
        → body_answer (value ∷ []) head after' close ≡ body_answer (value ∷ []) head after close
    by_shape (inr none) large there = rw none
    by_shape (inl digits) (inl large) there = rw (digits, large)
    by_shape (inl digits) (inr fits) (inl lacking) = absurd (settled (rw (digits, fits, lacking)))
    by_shape (inl digits) (inr fits) (inr there) =
        let there' : nat_lt after' (digits_value 10 value) ≡ false = le-ltb after' (digits_value 10 value) (omega (arith, ltb-false _ _ there)) in
        rw (digits, fits, there, there')
body_answer-more (value ∷ other ∷ values) head after after' close grows settled = refl

head_answer-more : (minor : ℕ) (method target : List ℕ) (fields : Fields) (head after after' : ℕ) → after ≤ after'
    → head_answer minor method target fields head after ≢ More
    → head_answer minor method target fields head after' ≡ head_answer minor method target fields head after
head_answer-more minor method target fields head after after' grows settled =
    by_rules (cases_Bool host) (cases_Bool coded) (cases_Bool other_method) (cases_Bool other_target)
  where
    host : Bool
    host = minor == 1 && not (length (values_of (codes "host") fields) == 1)

    coded : Bool
    coded = not (length (values_of (codes "transfer-encoding") fields) == 0)

    other_method : Bool
    other_method = not (bytes_eq method (codes "POST"))

    other_target : Bool
    other_target = not (bytes_eq target (codes "/desk"))

    by_rules : (host ≡ true) ⊎ (host ≡ false) → (coded ≡ true) ⊎ (coded ≡ false)
        → (other_method ≡ true) ⊎ (other_method ≡ false) → (other_target ≡ true) ⊎ (other_target ≡ false)
        → head_answer minor method target fields head after' ≡ head_answer minor method target fields head after
    by_rules (inl a) b c d = cond-true host _ _ a ∙ sym (cond-true host _ _ a)
    by_rules (inr a) (inl b) c d = (cond-false host _ _ a ∙ cond-true coded _ _ b) ∙ sym (cond-false host _ _ a ∙ cond-true coded _ _ b)
    by_rules (inr a) (inr b) (inl c) d =
        (cond-false host _ _ a ∙ cond-false coded _ _ b ∙ cond-true other_method _ _ c)
        ∙ sym (cond-false host _ _ a ∙ cond-false coded _ _ b ∙ cond-true other_method _ _ c)
    by_rules (inr a) (inr b) (inr c) (inl d) =
        (cond-false host _ _ a ∙ cond-false coded _ _ b ∙ cond-false other_method _ _ c ∙ cond-true other_target _ _ d)
        ∙ sym (cond-false host _ _ a ∙ cond-false coded _ _ b ∙ cond-false other_method _ _ c ∙ cond-true other_target _ _ d)
    by_rules (inr a) (inr b) (inr c) (inr d) =
        let at : (n : ℕ) → head_answer minor method target fields head n
        ≡ body_answer (values_of (codes "content-length") fields) head n (asks_to_close minor fields) =
        λ n. cond-false host _ _ a ∙ cond-false coded _ _ b ∙ cond-false other_method _ _ c ∙ cond-false other_target _ _ d in
        at after' ∙ body_answer-more (values_of (codes "content-length") fields) head after after' (asks_to_close minor fields) grows
        (λ more. settled (at after ∙ more)) ∙ sym (at after)

-- what is answered stays the answer, whatever bytes follow
pub Answers-append : (buffer more : List ℕ) (wire : Wire) → Answers buffer wire → wire ≢ More → Answers (buffer ++ more) wire
Answers-append buffer more wire answers settled = by_reading answers.0 answers.1 answers.2
  where
    grown : (later : List ℕ) × (head_part (buffer ++ more) ≡ head_part buffer ++ later) × (65536 ≤ length buffer → later ≡ [])
    grown = head_part-append buffer more

    by_reading : (reading : Reading) → IsReading (head_part buffer) reading → wire ≡ answer reading (length buffer) → Answers (buffer ++ more) wire
    by_reading Hopeless over same =
        (Hopeless, subst (RequestOverflows 64) (sym grown.1) (overflows-append 64 (head_part buffer) grown.0 over), same)
    by_reading Unfinished reads same = by_size (cases_lt (length buffer) 65536)
      where
        by_size : (length buffer < 65536) ⊎ (65536 ≤ length buffer) → Answers (buffer ++ more) wire
        by_size (inl small) = absurd (settled (same ∙ cond-false _ _ _ (lt-leb 65536 (length buffer) small)))
        by_size (inr large) =
            let front : head_part (buffer ++ more) ≡ head_part buffer =
            grown.1 ∙ ap (λ later. head_part buffer ++ later) (grown.2 large) ∙ append-nil (head_part buffer) in (
              Unfinished,
              subst (λ bytes. HasNoRequest bytes × MayBecomeRequest bytes) (sym front) reads,
              same ∙ cond-true _ _ _ (le-leb 65536 (length buffer) large)
                  ∙ sym (cond-true _ _ _ (le-leb 65536 (length (buffer ++ more)) (omega (arith, length-append buffer more)))),
            )
    by_reading (Head head) reads same =
        let len = length (print_request head) in (
          Head head,
          (
            subst (λ bytes. (rest : List ℕ) × ReadsRequest bytes head rest) (sym grown.1)
                (reads.0.0 ++ grown.0, ReadsRequest-append (head_part buffer) head reads.0.0 grown.0 reads.0.1),
            reads.1,
          ),
          same ∙ sym (head_answer-more head.minor head.method head.target (fields_of head) len (length buffer - len) (length (buffer ++ more) - len)
              (omega (arith, length-append buffer more)) (λ lacking. settled (same ∙ lacking))),
        )

-- ---- one answer

-- whatever bytes follow, they begin no whole head of at most 64 fields
no_head : (buffer : List ℕ) (head : RequestHead) → RequestOverflows 64 (head_part buffer) → IsReading (head_part buffer) (Head head) → ⊥
no_head buffer head over reads =
    let more : 64 < length head.fields =
    over [] head reads.0.0 (subst (λ bytes. ReadsRequest bytes head reads.0.0) (sym (append-nil (head_part buffer))) reads.0.1) in
    omega (arith, more, reads.1)

unless_more : (buffer : List ℕ) → answer Unfinished (length buffer) ≢ More → answer Unfinished (length buffer) ≡ Bad 400
unless_more buffer settled = by_size (cases_Bool (nat_le 65536 (length buffer)))
  where
    by_size : (nat_le 65536 (length buffer) ≡ true) ⊎ (nat_le 65536 (length buffer) ≡ false) → answer Unfinished (length buffer) ≡ Bad 400
    by_size (inl large) = cond-true _ _ _ large
    by_size (inr small) = absurd (settled (cond-false _ _ _ small))

same_reading : (buffer : List ℕ) (a b : Reading) → IsReading (head_part buffer) a → IsReading (head_part buffer) b
    → (answer a (length buffer) ≢ More) → (answer b (length buffer) ≢ More) → answer a (length buffer) ≡ answer b (length buffer)
same_reading buffer Hopeless Hopeless x y p q = refl
same_reading buffer Hopeless Unfinished x y p q = sym (unless_more buffer q)
same_reading buffer Hopeless (Head head) x y p q = absurd (no_head buffer head x y)
same_reading buffer Unfinished Hopeless x y p q = unless_more buffer p
same_reading buffer Unfinished Unfinished x y p q = refl
same_reading buffer Unfinished (Head head) x y p q = absurd (x.0 head y.0.0 y.0.1)
same_reading buffer (Head head) Hopeless x y p q = absurd (no_head buffer head y x)
same_reading buffer (Head head) Unfinished x y p q = absurd (y.0 head x.0.0 x.0.1)
same_reading buffer (Head head) (Head head') x y p q =
    ap (λ h. answer (Head h) (length buffer)) (request_unique (head_part buffer) head head' x.0.0 y.0.0 x.0.1 y.0.1).0

-- the rules give one answer, but for More and a refusal of bytes that can be completed to no head
pub Answers-unique : (buffer : List ℕ) (a b : Wire) → Answers buffer a → Answers buffer b → a ≢ More → b ≢ More → a ≡ b
Answers-unique buffer a b x y p q =
    x.2 ∙ same_reading buffer x.0 y.0 x.1 y.1 (λ more. p (x.2 ∙ more)) (λ more. q (y.2 ∙ more)) ∙ sym y.2

-- what an answer says of the head's length and of the bytes after the head
abbrev Says : Wire → ℕ → ℕ → Type 0
Says (Bad status) head after = Unit {0}
Says More head after = after < 65536
Says (Whole head' body close) head after = (head' ≡ head) × (body ≤ 65536) × (body ≤ after)

body_says : (values : List (List ℕ)) (head after : ℕ) (close : Bool) → Says (body_answer values head after close) head after
body_says [] head after close = tt
body_says (value ∷ []) head after close =
    by_shape (cases_Bool (is_length value)) (cases_Bool (nat_lt body_limit (digits_value 10 value))) (cases_Bool (nat_lt after (digits_value 10 value)))
  where
    by_shape : (is_length value ≡ true) ⊎ (is_length value ≡ false)
        → (nat_lt body_limit (digits_value 10 value) ≡ true) ⊎ (nat_lt body_limit (digits_value 10 value) ≡ false)
        → (nat_lt after (digits_value 10 value) ≡ true) ⊎ (nat_lt after (digits_value 10 value) ≡ false)
        → Says (body_answer (value ∷ []) head after close) head after
    by_shape (inr none) large there = rw none tt
    by_shape (inl digits) (inl large) there = rw (digits, large) tt
    by_shape (inl digits) (inr fits) (inl lacking) =
        rw (digits, fits, lacking) (omega (arith, ltb-false _ _ fits, ltb-true _ _ lacking))
    by_shape (inl digits) (inr fits) (inr there) =
        rw (digits, fits, there) (refl, omega (arith, ltb-false _ _ fits), omega (arith, ltb-false _ _ there))
body_says (value ∷ other ∷ values) head after close = tt

head_says : (minor : ℕ) (method target : List ℕ) (fields : Fields) (head after : ℕ)
    → Says (head_answer minor method target fields head after) head after
head_says minor method target fields head after =
    let P : Wire → Type 0 = λ w. Says w head after in
    let host = minor == 1 && not (length (values_of (codes "host") fields) == 1) in
    let coded = not (length (values_of (codes "transfer-encoding") fields) == 0) in
    let other_method = not (bytes_eq method (codes "POST")) in
    let other_target = not (bytes_eq target (codes "/desk")) in
    let by_body = body_answer (values_of (codes "content-length") fields) head after (asks_to_close minor fields) in
    let by_target = if other_target then Bad 404 else by_body in
    let by_method = if other_method then Bad 405 else by_target in
    let by_coding = if coded then Bad 501 else by_method in
    let bad : (status : ℕ) → P (Bad status) = λ status. tt in
    cond_both host (Bad 400) by_coding P (λ _. bad 400) (λ _.
    cond_both coded (Bad 501) by_method P (λ _. bad 501) (λ _.
    cond_both other_method (Bad 405) by_target P (λ _. bad 405) (λ _.
    cond_both other_target (Bad 404) by_body P (λ _. bad 404) (λ _.
    body_says (values_of (codes "content-length") fields) head after (asks_to_close minor fields)))))

-- what an answer says of the buffer
abbrev pub IsWithinLimits : List ℕ → Wire → Type 0
IsWithinLimits buffer (Bad status) = Unit {0}
IsWithinLimits buffer More = length buffer < 131072
IsWithinLimits buffer (Whole head body close) =
    (0 < head) × (head ≤ 65536) × (body ≤ 65536) × (head + body ≤ length buffer)

head_is_some : (head : RequestHead) → 0 < length (print_request head)
unfolding print_request
head_is_some head = omega (arith, length-append {A = ℕ})

head_fits : (buffer : List ℕ) (head : RequestHead) → IsReading (head_part buffer) (Head head)
    → (length (print_request head) ≤ 65536) × (length (print_request head) ≤ length buffer)
head_fits buffer head reads =
    let whole = ap length reads.0.1.1 in (
      omega (arith, whole, length-append (print_request head) reads.0.0, length-take 65536 buffer),
      omega (arith, whole, length-append (print_request head) reads.0.0, length-take 65536 buffer),
    )

pub Answers-within : (buffer : List ℕ) (wire : Wire) → Answers buffer wire → IsWithinLimits buffer wire
Answers-within buffer wire answers = subst (IsWithinLimits buffer) (sym answers.2) (by_reading answers.0 answers.1)
  where
    by_reading : (reading : Reading) → IsReading (head_part buffer) reading → IsWithinLimits buffer (answer reading (length buffer))
    by_reading Hopeless reads = tt
    by_reading Unfinished reads =
        cond_both (nat_le 65536 (length buffer)) (Bad 400) More (IsWithinLimits buffer) (λ _. tt) (λ small. omega (arith, leb-false _ _ small))
    by_reading (Head head) reads =
        let len = length (print_request head) in
        let fits = head_fits buffer head reads in
        limits (head_answer head.minor head.method head.target (fields_of head) len (length buffer - len)) len
        (head_is_some head) fits.0 fits.1 (head_says head.minor head.method head.target (fields_of head) len (length buffer - len))
      where
        limits : (w : Wire) (len : ℕ) → 0 < len → len ≤ 65536 → len ≤ length buffer → Says w len (length buffer - len) → IsWithinLimits buffer w
        limits (Bad status) len some small there says = tt
        limits More len some small there says = omega arith
        limits (Whole head' body close) len some small there says =
            (omega (arith, says.0), omega (arith, says.0), says.1, omega (arith, says.0, says.2))

pub whole_within : (buffer : List ℕ) (wire : Wire) → Answers buffer wire
    → IfWhole wire (λ head body close. (0 < head) × (head ≤ 65536) × (body ≤ 65536) × (head + body ≤ length buffer))
whole_within buffer wire answers = at wire (Answers-within buffer wire answers)
  where
    at : (w : Wire) → IsWithinLimits buffer w
        → IfWhole w (λ head body close. (0 < head) × (head ≤ 65536) × (body ≤ 65536) × (head + body ≤ length buffer))
    at (Bad status) h = tt
    at More h = tt
    at (Whole head body close) h = h

-- ---- where more bytes are needed

unfinished_is_short : (buffer : List ℕ) → answer Unfinished (length buffer) ≡ More → length buffer < 65536
unfinished_is_short buffer more = by_size (cases_lt (length buffer) 65536)
  where
    by_size : (length buffer < 65536) ⊎ (65536 ≤ length buffer) → length buffer < 65536
    by_size (inl small) = small
    by_size (inr large) =
        let bad : Bad 400 ≡ More = sym (cond-true _ (Bad 400) More (le-leb 65536 (length buffer) large)) ∙ more in cc

unfinished_is_no_request : (buffer : List ℕ) (request : Request) → whole request ≡ answer Unfinished (length buffer) → ⊥
unfinished_is_no_request buffer request same = by_size (cases_Bool (nat_le 65536 (length buffer)))
  where
    by_size : (nat_le 65536 (length buffer) ≡ true) ⊎ (nat_le 65536 (length buffer) ≡ false) → ⊥
    by_size (inl large) = let bad : whole request ≡ Bad 400 = same ∙ cond-true _ (Bad 400) More large in cc
    by_size (inr small) = let more : whole request ≡ More = same ∙ cond-false _ (Bad 400) More small in cc

needed_reading : (buffer : List ℕ) (a b : Reading) → IsReading (head_part buffer) a → IsReading (head_part buffer) b
    → answer a (length buffer) ≡ More → answer b (length buffer) ≢ More
    → (length buffer < 65536) × IsReading (head_part buffer) Hopeless
needed_reading buffer Hopeless b x y p q = absurd (cc)
needed_reading buffer Unfinished Hopeless x y p q = (unfinished_is_short buffer p, y)
needed_reading buffer Unfinished Unfinished x y p q = absurd (q p)
needed_reading buffer Unfinished (Head head) x y p q = absurd (x.0 head y.0.0 y.0.1)
needed_reading buffer (Head head) Hopeless x y p q = absurd (no_head buffer head y x)
needed_reading buffer (Head head) Unfinished x y p q = absurd (y.0 head x.0.0 x.0.1)
needed_reading buffer (Head head) (Head head') x y p q =
    absurd (q (sym (ap (λ h. answer (Head h) (length buffer)) (request_unique (head_part buffer) head head' x.0.0 y.0.0 x.0.1 y.0.1).0) ∙ p))

-- another answer than More to the same bytes is the refusal of a head that can't be completed
pub needed_only_if_hopeless : (buffer : List ℕ) (wire : Wire) → Answers buffer More → Answers buffer wire → wire ≢ More
    → (length buffer < 65536) × IsReading (head_part buffer) Hopeless
needed_only_if_hopeless buffer wire x y settled =
    needed_reading buffer x.0 y.0 x.1 y.1 (sym x.2) (λ more. settled (y.2 ∙ more))

-- a whole request is never one of which more bytes are needed
pub whole_is_not_more : (buffer : List ℕ) (request : Request) → Answers buffer (whole request) → Answers buffer More → ⊥
whole_is_not_more buffer request x y =
    by_reading x.0 x.1 x.2 (needed_only_if_hopeless buffer (whole request) y x (λ same. cc)).1
  where
    by_reading : (reading : Reading) → IsReading (head_part buffer) reading → whole request ≡ answer reading (length buffer)
        → IsReading (head_part buffer) Hopeless → ⊥
    by_reading Hopeless reads same hopeless = cc
    by_reading Unfinished reads same hopeless = unfinished_is_no_request buffer request same
    by_reading (Head head) reads same hopeless = no_head buffer head hopeless reads
