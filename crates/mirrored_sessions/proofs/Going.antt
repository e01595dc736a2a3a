-- How a session begins, and goes on by a step or by another session.
use Rattle.std.proofs.Common.{◌≡◌, ℕ, ◌≤◌, max, List, [], ◌∷◌, ◌++◌, length, sym, subst, arith}
use Rattle.std.proofs.lemmas.List.Elements.{All-nil, All-cons, All-append}
use Rattle.turn_lock.proofs.Lists.{begins_self, begins_through}
use Rattle.turn_lock.specs.Histories.{BeginsWith}
use Rattle.turn_lock.specs.declared.view.View.{View}
use Rattle.stock_model.specs.Reports.{need_of}
use Rattle.stock_model.specs.declared.deeds.Deed.{Deed}
use Rattle.stock_model.specs.declared.queries.Query.{Query}
use Rattle.session_laws.specs.Exchanges.{Exchange}
use Rattle.session_laws.specs.Sessions.{Session}
use Rattle.session_laws.proofs.Going.{Session-none, Session-on}
use Rattle.mirrored_sessions.specs.Steps.{Step, turned_step, reading_step, turned_in, printed_in, printed_after, IsReading}
use Rattle.mirrored_sessions.specs.Sessions.{Known, MirroredSession}
use Rattle.mirrored_sessions.proofs.StepLemmas.{turned_in-append, printed_after-append, printed_after-more, AreNoFewer-append, All-longer}

module _ (desk : ℕ) where
  -- with no step
  pub MirroredSession-none : (known : Known) → MirroredSession desk known known []
  MirroredSession-none known =
      record {
        session = Session-none desk known.view;
        grows = begins_self known.read;
        readings = All-nil (IsReading known.read);
        no_fewer = tt;
        printed = omega arith;
      }

  -- one session and then another
  pub MirroredSession-on : (old mid new : Known) (a b : List Step) → MirroredSession desk old mid a → MirroredSession desk mid new b
      → MirroredSession desk old new (a ++ b)
  MirroredSession-on old mid new a b front rest =
      record {
        session =
            subst (λ (z : List Exchange). Session desk old.view new.view z) (sym (turned_in-append a b))
            (Session-on desk old.view mid.view new.view (turned_in a) (turned_in b) front.session rest.session);
        grows = begins_through old.read mid.read new.read front.grows rest.grows;
        readings =
            All-append (IsReading new.read) a b (All-longer new.read mid.read a rest.grows front.readings) rest.readings;
        no_fewer = AreNoFewer-append old.printed mid.printed a b front.no_fewer front.printed rest.no_fewer;
        printed =
            omega (
              arith,
              printed_after-append old.printed a b,
              printed_after-more (printed_after old.printed a) mid.printed b front.printed,
              rest.printed,
            );
      }

  -- an exchange as without a mirror
  pub MirroredSession-turned : (old new : Known) (exchange : Exchange) → Session desk old.view new.view (exchange ∷ [])
      → BeginsWith new.read old.read → max old.printed (printed_in exchange.answer) ≤ new.printed
      → MirroredSession desk old new (turned_step exchange ∷ [])
  MirroredSession-turned old new exchange session grows printed =
      record {
        session = session;
        grows = grows;
        readings = All-cons (IsReading new.read) (turned_step exchange) [] tt (All-nil (IsReading new.read));
        no_fewer = tt;
        printed = printed;
      }

  -- a report that was read from the mirror
  pub MirroredSession-read : (old new : Known) (query : Query) → new.view ≡ old.view → BeginsWith new.read old.read
      → (need_of query).0 ≤ length new.read → old.printed ≤ length new.read → new.printed ≡ length new.read
      → MirroredSession desk old new (reading_step query new.read ∷ [])
  MirroredSession-read old new query same begins needed least printed =
      record {
        session = subst (λ (view : View Deed). Session desk old.view view []) (sym same) (Session-none desk old.view);
        grows = begins;
        readings =
            All-cons (IsReading new.read) (reading_step query new.read) [] (begins_self new.read, needed) (All-nil (IsReading new.read));
        no_fewer = (least, tt);
        printed = omega (arith, least, printed);
      }
