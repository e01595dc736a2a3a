-- How a session ends.
use Rattle.std.proofs.Common.{◌≡◌, ℕ, ◌<◌, ◌⊎◌, ⊎_elim, inl, inr, List, [], ◌++◌, length, refl, sym, ap, ◌∙◌, subst, arith, append_assoc, append-nil, Option, Some, None, IfSome}
use Rattle.std.specs.Prelude.{Bool, true, false}
use Rattle.std.specs.Io.KnownBytes.{Consumes, Appends}
use Rattle.std.proofs.KnownBytes.{Appends-trans, Appends-nil, Consumes-nil}
use Rattle.std.proofs.lemmas.List.{append_cancel_left, nil_from_length}
use Rattle.stock_io.specs.Counts.{Rose}
use Rattle.stock_io.specs.Streams.{AppendsFront}
use Rattle.stock_model.specs.declared.deeds.Deed.{Deed}
use Rattle.turn_lock.specs.declared.view.View.{View}
use Rattle.desk_wire.specs.declared.heard.Heard.TheVariants.{Last}
use Rattle.desk_wire.specs.declared.heard.Request.{Request}
use Rattle.desk_wire.specs.declared.heard.Stop.{Stop}
use Rattle.desk_wire.specs.declared.heard.Stop.TheVariants as stop
use Rattle.desk_wire.specs.Rules.{Answers}
use Rattle.desk_wire.specs.Streams.{TakesIn, LiesIn, whole, size, stop_answer, TellsLimit}
use Rattle.desk_wire.specs.Waiting.{Waiting, after_passing}
use Rattle.desk_server.specs.Exchanging.{LeavesRest}
use Rattle.desk_server.specs.Responses.{responses, last_response, refusal_response}
use Rattle.desk_server.specs.Served.{Taken, body_of, StayOpen, LastCloses, PeerEnded, HasCause, IsWritten, ServesIn}
use Rattle.desk_server.specs.Writing.{Written, WritesAll, WritesFront, Ended, AnswersNext}
use Rattle.desk_server.specs.declared.session.End.{End}
use Rattle.desk_server.specs.declared.session.End.TheVariants.{Closed, Cut, Refused, ReadFault, WriteFault, TooMuch, NoMemory}
use Rattle.desk_server.proofs.Steps.{Sessions, AnswersOne, HasAnswered, HasServed, answered-heard, answered-next, wrote-next, text-next, served-next}
use Rattle.desk_server.proofs.Streams.{StayOpen-push, LastCloses-push}

-- a front of more was written behind what was written before
AppendsFront-behind : (a b c : Option (List ℕ)) (before text : List ℕ) → Appends a b before → AppendsFront b c text
    → AppendsFront a c (before ++ text)
AppendsFront-behind a b c before text wrote front = (
  before ++ front.0,
  front.1,
  append_assoc before front.0 front.1 ∙ ap (λ (l : List ℕ). before ++ l) front.2,
  Appends-trans a b c before front.0 wrote front.3,
)

-- all that was left came
pub all-came : (a b : Option (List ℕ)) (stream piece before after : List ℕ) → Consumes a b stream → after ≡ before ++ piece
    → IfSome b (λ l. after ≡ before ++ l) → IfSome a (λ all. stream ++ piece ≡ all)
all-came None b stream piece before after took behind all = tt
all-came (Some xs) None stream piece before after took behind all = absurd took
all-came (Some xs) (Some ys) stream piece before after took behind all =
    ap (λ (l : List ℕ). stream ++ l) (append_cancel_left before piece ys (sym behind ∙ all)) ∙ sym took

module _ {P : Type 0} (left : P → Option (List ℕ)) (taken : P → ℕ) (written : P → Option (List ℕ)) (faults : P → ℕ)
    {K : Type 0} (view : K → View Deed) (sessions : Sessions K) (old : K) (first : P) where
  abbrev bytes_at : {now : K} {link : P} (waits : Waiting) → HasAnswered left taken view sessions old now first link waits → Taken
  bytes_at waits so_far = record { stream = so_far.stream; requests = so_far.requests; rest = waits.bytes }

  serves-at : (now : K) (link : P) (waits : Waiting) (so_far : HasAnswered left taken view sessions old now first link waits)
      (refused : Option ℕ) (end : End)
      → IsWritten end (written first) (written link) (responses so_far.requests so_far.answers ++ last_response refused)
      → HasCause (left first) (bytes_at waits so_far) refused (faults first) (faults link) end
      → ServesIn left taken written faults (sessions old now) first link end
  serves-at now link waits so_far refused end wrote cause = record {
    bytes = bytes_at waits so_far;
    took = so_far.took;
    counted = so_far.counted;
    within = omega (arith, so_far.spare);
    parts = so_far.parts;
    answers = so_far.answers;
    session = so_far.session;
    refused = refused;
    wrote = wrote;
    cause = cause;
  }

  -- memory was wanting for the inbox
  pub serves-none : sessions old old [] [] → ServesIn left taken written faults (sessions old old) first first NoMemory
  serves-none none = record {
    bytes = record { stream = []; requests = []; rest = [] };
    took = Consumes-nil (left first);
    counted = omega arith;
    within = omega arith;
    parts = refl;
    answers = [];
    session = none;
    refused = None;
    wrote = Appends-nil (written first);
    cause = refl;
  }

  -- the link was ended, which changes neither its bytes nor its count
  pub serves-ended : (now : K) (link link' : P) (end : End) → ServesIn left taken written faults (sessions old now) first link end
      → left link' ≡ left link → taken link' ≡ taken link → written link' ≡ written link → faults link' ≡ faults link
      → ServesIn left taken written faults (sessions old now) first link' end
  serves-ended now link link' end serves left_kept taken_kept written_kept faults_kept = record {
    bytes = serves.bytes;
    took = subst (λ (k : Option (List ℕ)). Consumes (left first) k serves.bytes.stream) (sym left_kept) serves.took;
    counted = taken_kept ∙ serves.counted;
    within = serves.within;
    parts = serves.parts;
    answers = serves.answers;
    session = serves.session;
    refused = serves.refused;
    wrote = subst
        (λ (k : Option (List ℕ)). IsWritten end (written first) k (responses serves.bytes.requests serves.answers ++ last_response serves.refused))
        (sym written_kept) serves.wrote;
    cause = subst (λ (n : ℕ). HasCause (left first) serves.bytes serves.refused (faults first) n end) (sym faults_kept) serves.cause;
  }

  rose-since : (link link' : P) → faults link ≡ faults first → Rose (faults link) (faults link') → Rose (faults first) (faults link')
  rose-since link link' no_fault rose = subst (λ (n : ℕ). Rose n (faults link')) no_fault rose

  -- nothing was written but the responses
  wrote-alone : (link : P) (text : List ℕ) → Appends (written first) (written link) text
      → Appends (written first) (written link) (text ++ last_response None)
  wrote-alone link text wrote = subst (Appends (written first) (written link)) (sym (append-nil text)) wrote

  -- a read failed
  pub serves-read_fault : (now : K) (link link' : P) (waits waits' : Waiting)
      → HasServed left taken written faults view sessions old now first link waits → TakesIn left taken waits waits' link link'
      → written link' ≡ written link → Rose (faults link) (faults link') → ServesIn left taken written faults (sessions old now) first link' ReadFault
  serves-read_fault now link link' waits waits' served takes_in kept rose =
      let so_far = answered-heard left taken written faults view sessions old first now link link' waits waits' served.so_far takes_in in
      serves-at now link' waits' so_far None ReadFault
      (wrote-alone link' (responses so_far.requests so_far.answers)
      (subst (λ (k : Option (List ℕ)). Appends (written first) k (responses so_far.requests so_far.answers)) (sym kept) served.wrote))
      (served.stays_open, rose-since link link' served.no_fault rose)

  -- no request follows
  module _ (now : K) (link link' : P) (waits : Waiting) (served : HasServed left taken written faults view sessions old now first link waits)
      (left_kept : left link' ≡ left link) (taken_kept : taken link' ≡ taken link) where
    abbrev so_far : HasAnswered left taken view sessions old now first link waits
    so_far = served.so_far

    abbrev answered-there : HasAnswered left taken view sessions old now first link' waits
    answered-there = record {
      stream = so_far.stream;
      requests = so_far.requests;
      answers = so_far.answers;
      took = subst (λ (k : Option (List ℕ)). Consumes (left first) k so_far.stream) (sym left_kept) so_far.took;
      counted = taken_kept ∙ so_far.counted;
      spare = so_far.spare;
      parts = so_far.parts;
      session = so_far.session;
      each = so_far.each;
      turns = so_far.turns;
      rest = so_far.rest;
    }

    wrote-there : link' ≡ link → Appends (written first) (written link') (responses so_far.requests so_far.answers ++ last_response None)
    wrote-there same =
        wrote-alone link' (responses so_far.requests so_far.answers)
        (subst (λ (p : P). Appends (written first) (written p) (responses so_far.requests so_far.answers)) (sym same) served.wrote)

    pub serves-last : (why : Stop) (end : End) → Answers waits.bytes (stop_answer why) → TellsLimit (Last why) waits
        → (why ≡ stop.Ended → IfSome (left first) (λ all. so_far.stream ≡ all)) → Ended written faults link link' why (length waits.bytes) end
        → ServesIn left taken written faults (sessions old now) first link' end
    serves-last (stop.Refused status) end answers limit all ended =
        ⊎_elim
        (λ (w : (end ≡ Refused status) × WritesAll written faults link link' (refusal_response status)).
        subst (ServesIn left taken written faults (sessions old now) first link') (sym w.0)
        (serves-at now link' waits answered-there (Some status) (Refused status)
        (Appends-trans (written first) (written link) (written link') (responses so_far.requests so_far.answers) (refusal_response status)
        served.wrote w.1.appends) (refl, served.stays_open, answers)))
        (λ (w : (end ≡ WriteFault) × WritesFront written faults link link' (refusal_response status)).
        subst (ServesIn left taken written faults (sessions old now) first link') (sym w.0)
        (serves-at now link' waits answered-there (Some status) WriteFault
        (AppendsFront-behind (written first) (written link) (written link') (responses so_far.requests so_far.answers) (refusal_response status)
        served.wrote w.1.front) (served.stays_open, answers, rose-since link link' served.no_fault w.1.fault)))
        ended
    serves-last stop.Ended end answers limit all ended =
        let peer : PeerEnded (left first) (bytes_at waits answered-there) =
        record { stays_open = served.stays_open; needs = answers; in_reach = omega (arith, so_far.spare, limit); all = all refl } in
        ⊎_elim
        (λ (w : (length waits.bytes ≡ 0) × (end ≡ Closed)).
        subst (ServesIn left taken written faults (sessions old now) first link') (sym w.1)
        (serves-at now link' waits answered-there None Closed (wrote-there ended.0) (inr (nil_from_length waits.bytes w.0, peer))))
        (λ (w : (0 < length waits.bytes) × (end ≡ Cut (length waits.bytes))).
        subst (ServesIn left taken written faults (sessions old now) first link') (sym w.1)
        (serves-at now link' waits answered-there None (Cut (length waits.bytes)) (wrote-there ended.0) (w.0, refl, peer)))
        ended.1
    serves-last stop.TooMuch end answers limit all ended =
        subst (ServesIn left taken written faults (sessions old now) first link') (sym ended.1)
        (serves-at now link' waits answered-there None TooMuch (wrote-there ended.0)
        (served.stays_open, answers, omega (arith, so_far.spare, limit)))

  -- one more request was answered
  module _ (now new : K) (link link' : P) (waits : Waiting) (request : Request)
      (served : HasServed left taken written faults view sessions old now first link waits) (answers : Answers waits.bytes (whole request))
      (lies : LiesIn waits.bytes request) (leaves : LeavesRest (view now) (view new))
      (left_kept : left link' ≡ left link) (taken_kept : taken link' ≡ taken link) (end : Option End)
      (next : AnswersNext written faults (AnswersOne view sessions now new (body_of waits.bytes request) request.close) request.close link link' end) where
    abbrev answered : HasAnswered left taken view sessions old new first link' (after_passing waits (size request))
    answered = answered-next left taken written faults view sessions old first now new link link' waits request next.response served answers lies
        next.answered leaves left_kept taken_kept

    wrote-answered : Appends (written link) (written link') next.response
        → Appends (written first) (written link') (responses answered.requests answered.answers)
    wrote-answered = wrote-next left taken written faults view sessions old first now new link link' waits request next.response served answers lies
        next.answered leaves left_kept taken_kept

    pub goes-on : end ≡ None → HasServed left taken written faults view sessions old new first link' (after_passing waits (size request))
    goes-on none =
        let w = subst (Written written faults link link' next.response request.close) none next.wrote in
        served-next left taken written faults view sessions old first now new link link' waits request next.response served answers lies
        next.answered leaves left_kept taken_kept w.0 w.1.appends w.1.no_fault

    open-or-closes : StayOpen answered.requests ⊎ LastCloses answered.requests
    open-or-closes = by_close request.close refl
      where
        by_close : (close : Bool) → request.close ≡ close → StayOpen answered.requests ⊎ LastCloses answered.requests
        by_close true is = inr (LastCloses-push served.so_far.requests request served.stays_open is)
        by_close false is = inl (StayOpen-push served.so_far.requests request served.stays_open is)

    ends-so : (e : End) → Written written faults link link' next.response request.close (Some e)
        → ServesIn left taken written faults (sessions old new) first link' e
    ends-so Closed w =
        serves-at new link' (after_passing waits (size request)) answered None Closed
        (wrote-alone link' (responses answered.requests answered.answers) (wrote-answered w.1.appends))
        (inl (LastCloses-push served.so_far.requests request served.stays_open w.0))
    ends-so WriteFault w =
        serves-at new link' (after_passing waits (size request)) answered None WriteFault
        (subst (AppendsFront (written first) (written link'))
        (sym (append-nil (responses answered.requests answered.answers)
        ∙ text-next left taken written faults view sessions old first now new link link' waits request next.response served answers lies next.answered
        leaves left_kept taken_kept))
        (AppendsFront-behind (written first) (written link) (written link') (responses served.so_far.requests served.so_far.answers)
        next.response served.wrote w.front))
        (open-or-closes, rose-since link link' served.no_fault w.fault)
    ends-so (Cut n) w = absurd w
    ends-so (Refused status) w = absurd w
    ends-so ReadFault w = absurd w
    ends-so TooMuch w = absurd w
    ends-so NoMemory w = absurd w

    pub serves-answered : (e : End) → end ≡ Some e → ServesIn left taken written faults (sessions old new) first link' e
    serves-answered e is = ends-so e (subst (Written written faults link link' next.response request.close) is next.wrote)
