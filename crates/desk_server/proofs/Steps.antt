-- What a session has done for its peer, as it goes on and as it ends. What is known in it, at first and then, is of any kind that has in it
-- what the pass knows; and which sessions lead from one to the other is a relation that the steps keep.
use Rattle.std.proofs.Common.{◌≡◌, ℕ, ◌+◌, ◌≤◌, List, [], ◌∷◌, ◌++◌, length, refl, sym, ap, ◌∙◌, subst, arith, append_assoc, append-nil, length-append, Option}
use Rattle.std.specs.Prelude.{Bool, false}
use Rattle.std.specs.Io.KnownBytes.{Consumes, Appends}
use Rattle.std.proofs.KnownBytes.{Consumes-nil, Consumes-trans, Appends-nil, Appends-trans}
use Rattle.std.proofs.lemmas.List.{length-drop}
use Rattle.stock_model.specs.declared.answers.Answer.{Answer}
use Rattle.stock_model.specs.declared.deeds.Deed.{Deed}
use Rattle.turn_lock.specs.declared.view.View.{View}
use Rattle.desk_wire.specs.declared.heard.Request.{Request}
use Rattle.desk_wire.specs.Framings.{Parts}
use Rattle.desk_wire.specs.Rules.{Answers}
use Rattle.desk_wire.specs.Streams.{TakesIn, LiesIn, whole, size}
use Rattle.desk_wire.specs.Waiting.{Waiting, nothing_waits, after_passing}
use Rattle.desk_server.specs.Exchanging.{LeavesRest}
use Rattle.desk_server.specs.Responses.{responses, response_to}
use Rattle.desk_server.specs.Served.{byte_limit, body_of, bodies, StayOpen}
use Rattle.desk_server.proofs.Streams.{Parts-push, Parts-behind, bodies-push, bodies-behind, StayOpen-push}

-- a relation of what is known at first and then: the bodies were answered so in a session between
abbrev pub Sessions : Type 0 → Type 1
Sessions K = K → K → List (List ℕ) → List Answer → Type 0

-- one more body was answered, with a turn of the pass or without one, this is the response, and every session goes on so
pub record AnswersOne {K : Type 0} (view : K → View Deed) (sessions : Sessions K) (now new : K) (body : List ℕ) (close : Bool)
    (response : List ℕ) : Type 0 where
  pub answer : Answer
  pub goes_on : (old : K) (bodies : List (List ℕ)) (answers : List Answer) → sessions old now bodies answers
      → sessions old new (bodies ++ body ∷ []) (answers ++ answer ∷ [])
  pub one_turn : length (view new).stops ≤ length (view now).stops + 1
  pub response_is : response ≡ response_to answer close

-- the requests so far were answered, in order, whether or not the last one asks to close
pub record HasAnswered {P : Type 0} (left : P → Option (List ℕ)) (taken : P → ℕ) {K : Type 0} (view : K → View Deed)
    (sessions : Sessions K) (old now : K) (first link : P) (waits : Waiting) : Type 0 where
  pub stream : List ℕ
  pub requests : List Request
  pub answers : List Answer
  pub took : Consumes (left first) (left link) stream
  pub counted : taken link ≡ taken first + length stream
  pub spare : byte_limit ≡ waits.spare + length stream
  pub parts : Parts stream requests waits.bytes
  pub session : sessions old now (bodies stream requests) answers
  pub each : length requests ≡ length answers
  pub turns : length (view now).stops + waits.spare + length waits.bytes ≤ length (view old).stops + byte_limit
  pub rest : LeavesRest (view old) (view now)

-- no request asked to close, and all responses were written with no fault
pub record HasServed {P : Type 0} (left : P → Option (List ℕ)) (taken : P → ℕ) (written : P → Option (List ℕ)) (faults : P → ℕ)
    {K : Type 0} (view : K → View Deed) (sessions : Sessions K) (old now : K) (first link : P) (waits : Waiting) : Type 0 where
  pub so_far : HasAnswered left taken view sessions old now first link waits
  pub stays_open : StayOpen so_far.requests
  pub wrote : Appends (written first) (written link) (responses so_far.requests so_far.answers)
  pub no_fault : faults link ≡ faults first

pub responses-push : (requests : List Request) (answers : List Answer) (request : Request) (answer : Answer) → length requests ≡ length answers
    → responses (requests ++ request ∷ []) (answers ++ answer ∷ []) ≡ responses requests answers ++ response_to answer request.close
responses-push [] [] request answer same = append-nil (response_to answer request.close)
responses-push [] (a ∷ answers) request answer same = absurd (omega (arith, same))
responses-push (r ∷ requests) [] request answer same = absurd (omega (arith, same))
responses-push (r ∷ requests) (a ∷ answers) request answer same =
    ap (λ (l : List ℕ). response_to a r.close ++ l) (responses-push requests answers request answer (omega (arith, same)))
    ∙ sym (append_assoc (response_to a r.close) (responses requests answers) (response_to answer request.close))

pub LeavesRest-trans : (a b c : View Deed) → LeavesRest a b → LeavesRest b c → LeavesRest a c
LeavesRest-trans a b c one other =
    other
    ∙ ap (λ (v : View Deed). record v { seen = c.seen; seen_faults = c.seen_faults; made = c.made; stops = c.stops; faults = c.faults }) one

module _ {P : Type 0} (left : P → Option (List ℕ)) (taken : P → ℕ) (written : P → Option (List ℕ)) (faults : P → ℕ)
    {K : Type 0} (view : K → View Deed) (sessions : Sessions K) (old : K) (first : P) where
  pub served-none : (waits : Waiting) → waits ≡ nothing_waits byte_limit → sessions old old [] []
      → HasServed left taken written faults view sessions old old first first waits
  served-none waits is none = subst (HasServed left taken written faults view sessions old old first first) (sym is) (record {
    so_far = record {
      stream = [];
      requests = [];
      answers = [];
      took = Consumes-nil (left first);
      counted = omega arith;
      spare = omega arith;
      parts = refl;
      session = none;
      each = refl;
      turns = omega arith;
      rest = refl;
    };
    stays_open = tt;
    wrote = Appends-nil (written first);
    no_fault = refl;
  })

  -- a piece came
  abbrev pub answered-heard : (now : K) (link link' : P) (waits waits' : Waiting) → HasAnswered left taken view sessions old now first link waits
      → TakesIn left taken waits waits' link link' → HasAnswered left taken view sessions old now first link' waits'
  answered-heard now link link' waits waits' so_far takes_in =
      let longer = length-append so_far.stream takes_in.piece in
      record {
        stream = so_far.stream ++ takes_in.piece;
        requests = so_far.requests;
        answers = so_far.answers;
        took = Consumes-trans (left first) (left link) (left link') so_far.stream takes_in.piece so_far.took takes_in.took;
        counted = omega (arith, so_far.counted, takes_in.counted, longer);
        spare = omega (arith, so_far.spare, takes_in.spare, longer);
        parts = subst (Parts (so_far.stream ++ takes_in.piece) so_far.requests) (sym takes_in.behind)
            (Parts-behind so_far.stream takes_in.piece so_far.requests waits.bytes so_far.parts);
        session = subst (λ (b : List (List ℕ)). sessions old now b so_far.answers)
            (sym (bodies-behind so_far.stream takes_in.piece so_far.requests waits.bytes so_far.parts)) so_far.session;
        each = so_far.each;
        turns = omega (
          arith,
          so_far.turns,
          takes_in.spare,
          ap (λ (l : List ℕ). length l) takes_in.behind,
          length-append waits.bytes takes_in.piece,
        );
        rest = so_far.rest;
      }

  abbrev pub served-heard : (now : K) (link link' : P) (waits waits' : Waiting) → HasServed left taken written faults view sessions old now first link waits
      → TakesIn left taken waits waits' link link' → written link' ≡ written link → faults link' ≡ faults link
      → HasServed left taken written faults view sessions old now first link' waits'
  served-heard now link link' waits waits' served takes_in kept no_fault =
      let so_far = served.so_far in
      record {
        so_far = answered-heard now link link' waits waits' so_far takes_in;
        stays_open = served.stays_open;
        wrote = subst (λ (k : Option (List ℕ)). Appends (written first) k (responses so_far.requests so_far.answers)) (sym kept) served.wrote;
        no_fault = no_fault ∙ served.no_fault;
      }

  module _ (now new : K) (link link' : P) (waits : Waiting) (request : Request) (response : List ℕ)
      (served : HasServed left taken written faults view sessions old now first link waits) (answers : Answers waits.bytes (whole request))
      (lies : LiesIn waits.bytes request)
      (one : AnswersOne view sessions now new (body_of waits.bytes request) request.close response) (leaves : LeavesRest (view now) (view new))
      (left_kept : left link' ≡ left link) (taken_kept : taken link' ≡ taken link) where
    abbrev so_far : HasAnswered left taken view sessions old now first link waits
    so_far = served.so_far

    -- the request that waited was answered, and let go
    abbrev pub answered-next : HasAnswered left taken view sessions old new first link' (after_passing waits (size request))
    answered-next = record {
      stream = so_far.stream;
      requests = so_far.requests ++ request ∷ [];
      answers = so_far.answers ++ one.answer ∷ [];
      took = subst (λ (k : Option (List ℕ)). Consumes (left first) k so_far.stream) (sym left_kept) so_far.took;
      counted = taken_kept ∙ so_far.counted;
      spare = so_far.spare;
      parts = Parts-push so_far.stream so_far.requests waits.bytes request so_far.parts answers;
      session = subst (λ (b : List (List ℕ)). sessions old new b (so_far.answers ++ one.answer ∷ []))
          (sym (bodies-push so_far.stream so_far.requests waits.bytes request so_far.parts))
          (one.goes_on old (bodies so_far.stream so_far.requests) so_far.answers so_far.session);
      each = omega (arith, so_far.each, length-append so_far.requests (request ∷ []), length-append so_far.answers (one.answer ∷ []));
      turns = omega (arith, so_far.turns, one.one_turn, lies.some, lies.within, length-drop (size request) waits.bytes);
      rest = LeavesRest-trans (view old) (view now) (view new) so_far.rest leaves;
    }

    -- the responses are one more
    pub text-next : responses answered-next.requests answered-next.answers ≡ responses so_far.requests so_far.answers ++ response
    text-next =
        responses-push so_far.requests so_far.answers request one.answer so_far.each
        ∙ ap (λ (l : List ℕ). responses so_far.requests so_far.answers ++ l) (sym one.response_is)

    pub wrote-next : Appends (written link) (written link') response
        → Appends (written first) (written link') (responses answered-next.requests answered-next.answers)
    wrote-next wrote =
        subst (Appends (written first) (written link')) (sym text-next)
        (Appends-trans (written first) (written link) (written link') (responses so_far.requests so_far.answers) response served.wrote wrote)

    -- and the session goes on
    pub served-next : request.close ≡ false → Appends (written link) (written link') response → faults link' ≡ faults link
        → HasServed left taken written faults view sessions old new first link' (after_passing waits (size request))
    served-next close wrote no_fault = record {
      so_far = answered-next;
      stays_open = StayOpen-push so_far.requests request served.stays_open close;
      wrote = wrote-next wrote;
      no_fault = no_fault ∙ served.no_fault;
    }
