-- A session that goes on.
use Rattle.std.proofs.Common.{◌≡◌, ℕ, ◌+◌, ◌≤◌, List, [], ◌++◌, length, sym, ap, ◌∙◌, subst, arith, append_assoc}
use Rattle.std.proofs.lemmas.Grind.{flat_map-append}
use Rattle.std.proofs.lemmas.List.{append-nil}
use Rattle.std.proofs.lemmas.List.Elements.{All-nil, All-append, All-weaker, filter_map-append}
use Rattle.std.proofs.lemmas.List.Sums.{sum_by-append}
use Rattle.std.specs.Prelude.{All}
use Rattle.turn_lock.proofs.Lists.{begins_self, begins_through, begins_no_longer}
use Rattle.turn_lock.specs.declared.view.View.{View}
use Rattle.stock_model.specs.declared.deeds.Deed.{Deed}
use Rattle.session_laws.proofs.Longer.{IsExchange-longer}
use Rattle.session_laws.proofs.MakersOf.{with_makers-append, length-without_makers, without_makers-begins}
use Rattle.session_laws.proofs.Order.{AreInOrder-append}
use Rattle.session_laws.specs.Answers.{IsExchange}
use Rattle.session_laws.specs.Exchanges.{Exchange, stops_of, kept_in, store_failures, failures, known_after, AreInOrder}
use Rattle.session_laws.specs.Makers.{with_makers, without_makers}
use Rattle.session_laws.specs.Sessions.{Session}

pub stops_of-append : (a b : List Exchange) → stops_of (a ++ b) ≡ stops_of a ++ stops_of b
stops_of-append a b = filter_map-append (λ (t : Exchange). t.stop) a b

pub kept_in-append : (a b : List Exchange) → kept_in (a ++ b) ≡ kept_in a ++ kept_in b
kept_in-append a b = flat_map-append (λ (t : Exchange). t.kept) a b

pub failures-append : (a b : List Exchange) → failures (a ++ b) ≡ failures a + failures b
failures-append a b = sum_by-append (λ (t : Exchange). store_failures t.answer) a b

-- with no exchange
pub Session-none : (desk : ℕ) (pass : View Deed) → Session desk pass pass []
Session-none desk pass =
    record {
      grows = begins_self pass.seen;
      stops = sym (append-nil pass.stops);
      in_order = tt;
      answers = All-nil (IsExchange desk (without_makers pass.seen));
      made = sym (append-nil pass.made);
      no_fewer_faults = omega arith;
      failed = λ _. omega arith;
    }

module _ (desk : ℕ) (old mid new : View Deed) (a b : List Exchange)
    (front : Session desk old mid a) (rest : Session desk mid new b) where
  in_order-both : AreInOrder (length old.seen) (a ++ b)
  in_order-both =
      let within : All (λ (t : Exchange). known_after 0 t ≤ length mid.seen) a =
      All-weaker (IsExchange desk (without_makers mid.seen)) (λ (t : Exchange). known_after 0 t ≤ length mid.seen)
      (λ (t : Exchange) (is : IsExchange desk (without_makers mid.seen) t).
      subst (λ (n : ℕ). known_after 0 t ≤ n) (length-without_makers mid.seen) is.within)
      a front.answers
      in
      AreInOrder-append (length old.seen) (length mid.seen) a b (begins_no_longer mid.seen old.seen front.grows)
      front.in_order within rest.in_order

  answers-both : All (IsExchange desk (without_makers new.seen)) (a ++ b)
  answers-both =
      All-append (IsExchange desk (without_makers new.seen)) a b
      (All-weaker (IsExchange desk (without_makers mid.seen)) (IsExchange desk (without_makers new.seen))
      (IsExchange-longer desk (without_makers new.seen) (without_makers mid.seen)
      (without_makers-begins new.seen mid.seen rest.grows))
      a front.answers) rest.answers

  made-both : new.made ≡ old.made ++ with_makers (kept_in (a ++ b))
  made-both =
      rest.made
      ∙ ap (λ (z : List (ℕ × Deed)). z ++ with_makers (kept_in b)) front.made
      ∙ append_assoc old.made (with_makers (kept_in a)) (with_makers (kept_in b))
      ∙ ap (λ (z : List (ℕ × Deed)). old.made ++ z)
      (sym (ap with_makers (kept_in-append a b) ∙ with_makers-append (kept_in a) (kept_in b)))

  stops-both : new.stops ≡ old.stops ++ stops_of (a ++ b)
  stops-both =
      rest.stops
      ∙ ap (λ (z : List ℕ). z ++ stops_of b) front.stops
      ∙ append_assoc old.stops (stops_of a) (stops_of b)
      ∙ ap (λ (z : List ℕ). old.stops ++ z) (sym (stops_of-append a b))

  -- one session and then another of the same desk
  pub Session-on : Session desk old new (a ++ b)
  Session-on =
      record {
        grows = begins_through old.seen mid.seen new.seen front.grows rest.grows;
        stops = stops-both;
        in_order = in_order-both;
        answers = answers-both;
        made = made-both;
        no_fewer_faults = omega (arith, front.no_fewer_faults, rest.no_fewer_faults);
        failed = λ counts.
            omega (arith, failures-append a b, front.failed (omega (arith, counts, rest.no_fewer_faults)), rest.failed counts);
      }
