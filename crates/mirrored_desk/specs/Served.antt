-- What a session with a mirror did for its peer.
use Rattle.std.specs.Prelude.{ℕ, true, Option, List}
use Rattle.stock_model.specs.declared.deeds.Deed.{Deed}
use Rattle.stock_model.specs.declared.records.Record.{Record}
use Rattle.turn_lock.specs.declared.view.View.{View}
use Rattle.voucher_json.specs.Requests.{IsReadAs}
use Rattle.mirrored_sessions.specs.Sessions.{HasMirroredSession}
use Rattle.desk_server.specs.Served.{ServesIn}
use Rattle.desk_server.specs.declared.session.End.{End}
use Rattle.mirrored_desk.specs.Exchanging.{known}

-- The peer was served in a session of this desk at the lock and the mirror, in which nothing was said to be covered before. So many
-- records the answers said at most to be covered.
pub record ServesMirrored {P : Type 0} (left : P → Option (List ℕ)) (taken : P → ℕ) (written : P → Option (List ℕ)) (faults : P → ℕ)
    (desk : ℕ) (old new : View Deed) (read read' : List Record) (link link' : P) (end : End) : Type 0 where
  pub printed : ℕ
  pub served : ServesIn left taken written faults
      (HasMirroredSession (IsReadAs true) desk (known old read 0) (known new read' printed)) link link' end
