-- What a session means over the whole history.
use Rattle.std.proofs.Common.{◌≡◌, ℕ, ◌≤◌, List, ◌++◌, length, sym, ap, ◌∙◌, subst}
use Rattle.std.proofs.lemmas.List.{append_cancel_left}
use Rattle.std.proofs.lemmas.List.Elements.{All-weaker}
use Rattle.turn_lock.proofs.Lists.{begins_through, begins_no_longer}
use Rattle.turn_lock.specs.Histories.{BeginsWith, past, made_by}
use Rattle.turn_lock.specs.declared.view.View.{View}
use Rattle.stock_model.specs.declared.deeds.Deed.{Deed}
use Rattle.session_laws.proofs.Longer.{IsExchange-longer}
use Rattle.session_laws.proofs.MakersOf.{without_makers-with_makers, without_makers-begins, length-with_makers, past-with_makers, made_by-with_makers}
use Rattle.session_laws.proofs.Order.{AreInOrder-less}
use Rattle.session_laws.specs.Answers.{IsExchange}
use Rattle.session_laws.specs.Exchanges.{Exchange, kept_in}
use Rattle.session_laws.specs.Makers.{with_makers, without_makers, deeds_by}
use Rattle.session_laws.specs.Sessions.{Session, Served}

module _ (desk : ℕ) (first final : List Deed) (old new : View Deed) (exchanges : List Exchange)
    (session : Session desk old new exchanges)
    (begins : BeginsWith old.seen (with_makers first)) (ends : BeginsWith (with_makers final) new.seen)
    (made : new.made ≡ old.made ++ made_by desk (past (with_makers first) (with_makers final))) where
  final-longer : BeginsWith final (without_makers new.seen)
  final-longer =
      subst (λ (z : List Deed). BeginsWith z (without_makers new.seen)) (without_makers-with_makers final)
      (without_makers-begins (with_makers final) new.seen ends)

  final-begins : BeginsWith final first
  final-begins =
      let whole : BeginsWith (with_makers final) (with_makers first) =
      begins_through (with_makers first) new.seen (with_makers final)
      (begins_through (with_makers first) old.seen new.seen begins session.grows) ends
      in
      subst (λ (z : List Deed × List Deed). BeginsWith z.0 z.1)
      (λ i. (without_makers-with_makers final i, without_makers-with_makers first i))
      (without_makers-begins (with_makers final) (with_makers first) whole)

  first-shorter : length first ≤ length old.seen
  first-shorter = subst (λ (n : ℕ). n ≤ length old.seen) (length-with_makers first)
      (begins_no_longer old.seen (with_makers first) begins)

  kept-is : deeds_by desk (past first final) ≡ kept_in exchanges
  kept-is =
      let same : with_makers (kept_in exchanges) ≡ made_by desk (past (with_makers first) (with_makers final)) =
      append_cancel_left old.made (with_makers (kept_in exchanges)) (made_by desk (past (with_makers first) (with_makers final)))
      (sym session.made ∙ made)
      in
      sym (sym (without_makers-with_makers (kept_in exchanges))
      ∙ ap without_makers (same ∙ ap (made_by desk) (past-with_makers first final) ∙ made_by-with_makers desk (past first final))
      ∙ without_makers-with_makers (deeds_by desk (past first final)))

  pub Served-by_session : Served desk first final exchanges
  Served-by_session =
      record {
        grows = final-begins;
        in_order = AreInOrder-less (length first) (length old.seen) exchanges first-shorter session.in_order;
        answers = All-weaker (IsExchange desk (without_makers new.seen)) (IsExchange desk final)
            (IsExchange-longer desk final (without_makers new.seen) final-longer) exchanges session.answers;
        kept = kept-is;
      }
