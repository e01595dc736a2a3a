-- Desks that begin and end, one more before the rest.
use Rattle.std.proofs.Common.{◌≡◌, ℕ, zero, suc, ◌+◌, ◌<◌, ◌≤◌, List, [], ◌∷◌, ◌++◌, length, refl, sym, ap, ◌∙◌, subst, length-append, take, arith, Option, Some, None}
use Rattle.std.proofs.lemmas.List.{map-append, length-map}
use Rattle.std.specs.Prelude.{Bool, true, false}
use Rattle.atomic_table.specs.Seated.{TableId}
use Rattle.turn_lock.specs.Passes.{PassView}
use Rattle.turn_lock.specs.declared.view.View.{View}
use Rattle.stock_model.specs.declared.deeds.Deed.{Deed}
use Rattle.stock_model.specs.declared.records.Record.{Record}
use Rattle.shared_listener.specs.Steps.{comes, hangs, has_ended, NotesCame, NotesEnded}
use Rattle.shared_listener.specs.declared.step.Step.{Step}
use Rattle.desk_connections.specs.Desks.{HasServed, ServesOne}
use Rattle.desk_server.specs.Exchanging.{LeavesRest}
use Rattle.desk_connections.specs.Visits.{Learnt, learnt, Visit, IsVisit}
use Rattle.desk_connections.specs.Ways.{IsWay, LeavesWay, Finds}
use Rattle.desk_connections.proofs.AtDesk.{has-first, then-none, ended-none, was-told, one-came}
use Rattle.desk_connections.proofs.WayTurns.{rest-through}
use Rattle.desk_service.specs.Desks.{Work, AreAttended, IsFirst, IsBegun}
use Rattle.desk_service.specs.Passes.{fresh}
use Rattle.desk_service.specs.Serving.{Serving}

-- what was promised of equal inputs
pub as_promised : {V R W : Type 0} (attends : ℕ → V → R → W → Type 0) (n m : ℕ) (a b : V) (r s : R) (v w : W)
    → (m ≡ n) × (b ≡ a) × (s ≡ r) × (w ≡ v) → attends m b s w → attends n a r v
as_promised {V} {R} {W} attends n m a b r s v w same done =
    subst (λ (z : ℕ × V × R × W). attends z.0 z.1 z.2 z.3) (λ i. (same.0 i, same.1 i, same.2 i, same.3 i)) done

none_at_once : (L P : Type 0) (n : ℕ) → length (comes {L = L} {P = P} (take n [])) ≤ length (hangs {L = L} {P = P} (take n [])) + 1
none_at_once L P zero = omega arith
none_at_once L P (suc n) = omega arith

module _ {L P : Type 0} (is_visit : Visit P → Type 0) (number : ℕ) where
  none_served : (known : Learnt) → HasServed {L = L} is_visit known known []
  none_served known = record { visits = []; lead = refl; came = refl; went = refl; one_at_a_time = λ n. none_at_once L P n }

  -- the first peer that came was served and handed back
  pub first_served : (known new : Learnt) (made made' : List (ℕ × Step L P)) (peer : P) → NotesCame number peer [] made
      → ServesOne is_visit number known new made made' peer → HasServed is_visit known new made'
  first_served known new made made' peer noted one =
      let came : comes made ≡ peer ∷ [] = ap comes noted.1 ∙ ap (λ (p : P). p ∷ []) noted.2 in
      then-none is_visit number known known new made made' peer (has-first is_visit known made peer came (ap hangs noted.1)) one

  -- none came
  pub none_came : (known : Learnt) (made : List (ℕ × Step L P)) → NotesEnded number [] made → HasServed is_visit known known made
  none_came known made ended = ended-none is_visit number known known [] made (none_served known) ended

  -- the first peer is at the desk
  pub is_there : (made : List (ℕ × Step L P)) (peer : P) → NotesCame number peer [] made → length (hangs made) < length (comes made)
  is_there made peer noted =
      let counts = one-came number peer [] made noted in
      omega (arith, counts.0, counts.1)

  -- a desk that has served its peers has none
  pub all_back : (known new : Learnt) (made : List (ℕ × Step L P)) → HasServed is_visit known new made
      → length (hangs made) ≡ length (comes made)
  all_back known new made has =
      omega (
        arith,
        ap length has.came,
        ap length has.went,
        length-map has.visits (λ (v : Visit P). v.peer),
        length-map has.visits (λ (v : Visit P). v.peer_then),
      )

-- a pass that was split off a way is one
pub IsWay-fresh : {L P : Type 0} (known : View (Step L P)) (number : ℕ) (way : PassView (Step L P)) (lock : TableId) → IsWay known
    → way ≡ record { lock = lock; view = fresh known number } → IsWay way.view
IsWay-fresh known number way lock is same =
    subst (λ w. IsWay w.view) (sym same) (record { opening = is.opening; opened = is.opened; begins = is.begins })

-- what a way that had done nothing found
pub IsFirst-found : {L P : Type 0} (number : ℕ) (next : Option P) (old new : View (Step L P)) → old.made ≡ [] → Finds number old next new
    → IsFirst number next new.made
IsFirst-found number (Some peer) old new none found = subst (λ z. NotesCame number peer z new.made) none found
IsFirst-found number None old new none found = subst (λ z. NotesEnded number z new.made) none found

module _ {L P : Type 0} (left : P → Option (List ℕ)) (taken : P → ℕ) (written : P → Option (List ℕ)) (faults : P → ℕ) (ended : P → Bool) where
  -- the desk's way had found its first peer before
  pub IsBegun-found : (desk : ℕ) (pass pass' : PassView Deed) (read read' : List Record) (way mid way' : PassView (Step L P)) (is_over : Bool)
      → way.view.number ≡ desk → mid.lock ≡ way.lock → LeavesWay way.view mid.view
      → IsBegun left taken written faults ended desk pass pass' read read' mid way' is_over
      → IsBegun left taken written faults ended desk pass pass' read read' way way' is_over
  IsBegun-found desk pass pass' read read' way mid way' is_over number lock rest begun = record {
    number = begun.number;
    way_number = number;
    same_lock = begun.same_lock;
    same_way_lock = begun.same_way_lock ∙ lock;
    rest = begun.rest;
    way_rest = rest-through way.view mid.view way'.view rest begun.way_rest;
    is_way = begun.is_way;
    served = begun.served;
    told = begun.told;
  }

  -- its first peer was served
  pub IsBegun-first : (desk : ℕ) (pass mid : PassView Deed) (read read_mid : List Record) (way way_mid : PassView (Step L P)) (peer : P)
      → pass.view.number ≡ desk → way.view.number ≡ desk → mid.lock ≡ pass.lock → way_mid.lock ≡ way.lock
      → LeavesRest pass.view mid.view → LeavesWay way.view way_mid.view → IsWay way_mid.view → NotesCame desk peer [] way.view.made
      → ServesOne (IsVisit left taken written faults ended desk) desk (learnt pass.view read) (learnt mid.view read_mid) way.view.made
      way_mid.view.made peer
      → IsBegun left taken written faults ended desk pass mid read read_mid way way_mid false
  IsBegun-first desk pass mid read read_mid way way_mid peer number way_number lock way_lock rest way_rest is_way came one = record {
    number = number;
    way_number = way_number;
    same_lock = lock;
    same_way_lock = way_lock;
    rest = rest;
    way_rest = way_rest;
    is_way = is_way;
    served =
        first_served (IsVisit left taken written faults ended desk) desk (learnt pass.view read) (learnt mid.view read_mid) way.view.made
        way_mid.view.made peer came one;
    told = λ over. absurd (cc);
  }

  -- then it went further, until it was told the end
  pub IsBegun-on : (desk : ℕ) (pass mid new : PassView Deed) (read read_mid read_new : List Record) (way way_mid way_new : PassView (Step L P))
      (is_over : Bool) → IsBegun left taken written faults ended desk pass mid read read_mid way way_mid is_over
      → new.lock ≡ mid.lock → way_new.lock ≡ way_mid.lock → LeavesRest mid.view new.view → LeavesWay way_mid.view way_new.view → IsWay way_new.view
      → has_ended way_new.view.made ≡ true
      → ((before : Learnt) → HasServed (IsVisit left taken written faults ended desk) before (learnt mid.view read_mid) way_mid.view.made
      → HasServed (IsVisit left taken written faults ended desk) before (learnt new.view read_new) way_new.view.made)
      → IsBegun left taken written faults ended desk pass new read read_new way way_new true
  IsBegun-on desk pass mid new read read_mid read_new way way_mid way_new is_over begun lock way_lock rest way_rest is_way told goes = record {
    number = begun.number;
    way_number = begun.way_number;
    same_lock = lock ∙ begun.same_lock;
    same_way_lock = way_lock ∙ begun.same_way_lock;
    rest = rest-through pass.view mid.view new.view begun.rest rest;
    way_rest = rest-through way.view way_mid.view way_new.view begun.way_rest way_rest;
    is_way = is_way;
    served = goes (learnt pass.view read) begun.served;
    told = λ over. told;
  }

  -- no peer came
  pub IsBegun-none : (desk : ℕ) (pass : PassView Deed) (read : List Record) (way : PassView (Step L P)) → pass.view.number ≡ desk → way.view.number ≡ desk
      → IsWay way.view → NotesEnded desk [] way.view.made → IsBegun left taken written faults ended desk pass pass read read way way true
  IsBegun-none desk pass read way number way_number is_way ended_is = record {
    number = number;
    way_number = way_number;
    same_lock = refl;
    same_way_lock = refl;
    rest = refl;
    way_rest = refl;
    is_way = is_way;
    served = none_came (IsVisit left taken written faults ended desk) desk (learnt pass.view read) way.view.made ended_is;
    told = λ over. was-told desk [] way.view.made ended_is;
  }

module _ {L P : Type 0} (attends : ℕ → Work L P → Type 0) (number : ℕ) where
  pub Serving-none : (passes : List (PassView Deed)) (reads : List (List Record)) (ways : List (PassView (Step L P)))
      → passes ≡ [] → reads ≡ [] → ways ≡ [] → Serving attends number passes passes reads reads ways ways
  Serving-none passes reads ways none no_read no_way = record {
    works = [];
    attended = tt;
    before = none;
    after = none;
    reads_before = no_read;
    reads_after = no_read;
    ways_before = no_way;
    ways_after = no_way;
  }

  attended-more : (work : Work L P) (works : List (Work L P)) → attends number work
      → AreAttended attends (number + 1) works → AreAttended attends number (works ++ work ∷ [])
  attended-more work [] first all = (subst (λ (n : ℕ). attends n work) (omega arith) first, tt)
  attended-more work (last ∷ works) first all =
      let n : number + 1 + length works ≡ number + length (works ++ work ∷ []) = omega (arith, length-append works (work ∷ [])) in
      (subst (λ (n : ℕ). attends n last) n all.0, attended-more work works first all.1)

  pub Serving-more : (work : Work L P) (rest rest' passes passes' : List (PassView Deed)) (read read' reads reads' : List (List Record))
      (other other' ways ways' : List (PassView (Step L P))) → attends number work
      → passes ≡ rest ++ work.pass ∷ [] → passes' ≡ rest' ++ work.pass_then ∷ []
      → reads ≡ read ++ work.read ∷ [] → reads' ≡ read' ++ work.read_then ∷ []
      → ways ≡ other ++ work.way ∷ [] → ways' ≡ other' ++ work.way_then ∷ []
      → Serving attends (number + 1) rest rest' read read' other other' → Serving attends number passes passes' reads reads' ways ways'
  Serving-more work rest rest' passes passes' read read' reads reads' other other' ways ways' attended before after reads_before reads_after
      ways_before ways_after s = record {
        works = s.works ++ work ∷ [];
        attended = attended-more work s.works attended s.attended;
        before = before ∙ ap (λ (z : List (PassView Deed)). z ++ work.pass ∷ []) s.before ∙ sym (map-append (λ (w : Work L P). w.pass) s.works (work ∷ []));
        after = after ∙ ap (λ (z : List (PassView Deed)). z ++ work.pass_then ∷ []) s.after ∙ sym (map-append (λ (w : Work L P). w.pass_then) s.works (work ∷ []));
        reads_before =
            reads_before ∙ ap (λ (z : List (List Record)). z ++ work.read ∷ []) s.reads_before
            ∙ sym (map-append (λ (w : Work L P). w.read) s.works (work ∷ []));
        reads_after =
            reads_after ∙ ap (λ (z : List (List Record)). z ++ work.read_then ∷ []) s.reads_after
            ∙ sym (map-append (λ (w : Work L P). w.read_then) s.works (work ∷ []));
        ways_before =
            ways_before ∙ ap (λ (z : List (PassView (Step L P))). z ++ work.way ∷ []) s.ways_before
            ∙ sym (map-append (λ (w : Work L P). w.way) s.works (work ∷ []));
        ways_after =
            ways_after ∙ ap (λ (z : List (PassView (Step L P))). z ++ work.way_then ∷ []) s.ways_after
            ∙ sym (map-append (λ (w : Work L P). w.way_then) s.works (work ∷ []));
      }
