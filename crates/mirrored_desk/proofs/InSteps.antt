-- A body is answered in one step of a session: from the mirror, through the lock, or without either.
use Rattle.std.proofs.Common.{◌≡◌, ℕ, ◌+◌, ◌≤◌, max, true, Option, None, List, [], length, refl, ap, ◌∙◌, arith, Result, Ok}
use Rattle.std.specs.Prelude.{Bool}
use Rattle.turn_lock.proofs.Lists.{begins_self, begins_through}
use Rattle.turn_lock.specs.Histories.{BeginsWith}
use Rattle.turn_lock.specs.declared.view.View.{View}
use Rattle.stock_model.specs.Reports.{need_of}
use Rattle.stock_model.specs.declared.answers.Answer.TheVariants.{Told, Shown}
use Rattle.stock_model.specs.declared.deeds.Deed.{Deed}
use Rattle.stock_model.specs.declared.queries.Query.{Query}
use Rattle.stock_model.specs.declared.queries.Selected.{Selected}
use Rattle.stock_model.specs.declared.read_faults.ReadFault.{ReadFault}
use Rattle.stock_model.specs.declared.records.Record.{Record}
use Rattle.stock_model.specs.declared.replies.Reply.TheVariants.{MemoryFailed}
use Rattle.stock_model.specs.declared.requests.Request.{Request}
use Rattle.stock_model.specs.declared.requests.Request.TheVariants as request
use Rattle.voucher_json.specs.Requests.{IsReadAs}
use Rattle.session_laws.specs.Exchanges.{Exchange}
use Rattle.session_laws.specs.Sessions.{IsAsked}
use Rattle.session_laws.proofs.OneTurn.{Session-quiet}
use Rattle.mirrored_sessions.specs.Sessions.{Known, HasMirroredSession}
use Rattle.mirrored_sessions.specs.Steps.{asked_in, answer_in, printed_in, turned_step, reading_step}
use Rattle.mirrored_sessions.proofs.Bodies.{HasMirroredSession-more}
use Rattle.mirrored_sessions.proofs.Going.{MirroredSession-turned, MirroredSession-read}
use Rattle.report_mirror.specs.Mirrored.{IsMirrored}
use Rattle.report_mirror.specs.declared.reader.Mirrored.TheVariants.{Report}
use Rattle.desk_server.specs.Exchanging.{RespondsWithin, IsAskedAs}
use Rattle.desk_server.specs.Responses.{response_to}
use Rattle.desk_server.specs.Writing.{AnswersNext}
use Rattle.desk_server.specs.declared.session.End.{End}
use Rattle.desk_server.proofs.Bodies.{asked-read}
use Rattle.desk_server.proofs.Steps.{AnswersOne}
use Rattle.mirrored_desk.specs.Exchanging.{known, RespondsInStep}

module _ (desk : ℕ) (close : Bool) (response : List ℕ) where
  -- through the lock, and nothing was read
  pub responds-locked : (old new : View Deed) (read : List Record) (printed covered printed' : ℕ) (is_asked : Result Request ReadFault → Type 0)
      → RespondsWithin desk old new is_asked close response covered → max printed covered ≤ printed'
      → RespondsInStep desk (known old read printed) (known new read printed') is_asked close response
  responds-locked old new read printed covered printed' is_asked within most =
      let it = within.responds in
      let most_now : max printed (printed_in within.responds.exchange.answer) ≤ printed' = omega (arith, within.covers, most) in
      record {
        step = turned_step it.exchange;
        asked = it.asked;
        session = MirroredSession-turned desk (known old read printed) (known new read printed') it.exchange it.session (begins_self read)
            most_now;
        one_turn = it.one_turn;
        response_is = it.response_is;
      }

  module _ (view : View Deed) (read : List Record) (printed : ℕ) (query : Query) (chosen : Selected)
      (found : IsMirrored read query printed (Report chosen)) where
    enough : max (need_of query).0 printed ≤ length read
    enough = found.0

    covers-all : chosen.covered.0 ≡ length read
    covers-all = ap (λ (s : Selected). s.covered.0) found.1

    no-turn : length view.stops ≤ length view.stops + 1
    no-turn = omega arith

    -- from the mirror
    pub responds-shown : response ≡ response_to (Shown query chosen) close
        → RespondsInStep desk (known view read printed) (known view read chosen.covered.0) (IsAskedAs (Ok (request.Report query))) close response
    responds-shown is =
        let needed : (need_of query).0 ≤ length read = omega (arith, enough) in
        let least : printed ≤ length read = omega (arith, enough) in
        record {
          step = reading_step query read;
          asked = refl;
          session = MirroredSession-read desk (known view read printed) (known view read chosen.covered.0) query refl (begins_self read)
              needed least covers-all;
          one_turn = no-turn;
          response_is = is ∙ ap (λ (s : Selected). response_to (Shown query s) close) found.1;
        }

    -- memory was wanting for what was read
    pub responds-untold : response ≡ response_to (Told MemoryFailed []) close
        → RespondsInStep desk (known view read printed) (known view read chosen.covered.0) (IsAskedAs (Ok (request.Report query))) close response
    responds-untold is =
        let lacking : Exchange = record { asked = Ok (request.Report query); answer = Told MemoryFailed []; stop = None; kept = [] } in
        let least : max printed 0 ≤ chosen.covered.0 = omega (arith, enough, covers-all) in
        record {
          step = turned_step lacking;
          asked = refl;
          session = MirroredSession-turned desk (known view read printed) (known view read chosen.covered.0) lacking
              (Session-quiet desk view lacking (record { stop = refl; kept = refl; answer = refl })) (begins_self read)
              least;
          one_turn = no-turn;
          response_is = is;
        }

  -- the mirror was asked before
  pub responds-since : (view : View Deed) (read read' : List Record) (printed : ℕ) (new : Known) (is_asked : Result Request ReadFault → Type 0)
      → BeginsWith read' read → RespondsInStep desk (known view read' printed) new is_asked close response
      → RespondsInStep desk (known view read printed) new is_asked close response
  responds-since view read read' printed new is_asked grows it =
      record {
        step = it.step;
        asked = it.asked;
        session = record {
          session = it.session.session;
          grows = begins_through read read' new.read grows it.session.grows;
          readings = it.session.readings;
          no_fewer = it.session.no_fewer;
          printed = it.session.printed;
        };
        one_turn = it.one_turn;
        response_is = it.response_is;
      }

  -- what was read of a body was answered, and so the body was
  pub responds-body : (reads : List ℕ → Result Request ReadFault → Type 0) (body : List ℕ) (read : Result Request ReadFault) (old new : Known)
      → IsAsked reads body read → RespondsInStep desk old new (IsAskedAs read) close response
      → RespondsInStep desk old new (IsAsked reads body) close response
  responds-body reads body read old new reads_so it =
      record {
        step = it.step;
        asked = asked-read reads body read (asked_in it.step) reads_so it.asked;
        session = it.session;
        one_turn = it.one_turn;
        response_is = it.response_is;
      }

-- a body was answered at a desk, its response was written, and so every session of the desk goes on
pub one-answered : (desk : ℕ) {P : Type 0} (written : P → Option (List ℕ)) (faults : P → ℕ) (now new : Known) (body : List ℕ) (close : Bool)
    (link link' : P) (end : Option End)
    → AnswersNext written faults (RespondsInStep desk now new (IsAsked (IsReadAs true) body) close) close link link' end
    → AnswersNext written faults (AnswersOne (λ (k : Known). k.view) (HasMirroredSession (IsReadAs true) desk) now new body close) close
    link link' end
one-answered desk written faults now new body close link link' end next =
    let it = next.answered in
    record {
      response = next.response;
      answered = record {
        answer = answer_in it.step;
        goes_on = λ old bodies answers has.
            HasMirroredSession-more (IsReadAs true) desk old now new bodies answers body it.step has it.asked it.session;
        one_turn = it.one_turn;
        response_is = it.response_is;
      };
      wrote = next.wrote;
    }
