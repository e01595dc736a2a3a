-- One exchange is a session: with a turn at the lock, or without.
use Rattle.std.proofs.Common.{◌≡◌, ℕ, ◌+◌, ◌≤◌, ⊎_elim, inl, inr, List, [], ◌∷◌, ◌++◌, length, take, sym, refl, ap, ◌∙◌, subst, arith, length-append}
use Rattle.std.proofs.lemmas.List.{append-nil, take_all, take_at}
use Rattle.std.proofs.lemmas.List.Elements.{All-nil, All-cons}
use Rattle.std.specs.List.{cons_option}
use Rattle.std.specs.Option.{option_map_or}
use Rattle.std.specs.Prelude.{IfSome, Option, Result, Ok, Err}
use Rattle.turn_lock.proofs.Lists.{begins_more, begins_self, begins_through, begins_no_longer, past_more}
use Rattle.turn_lock.specs.Histories.{BeginsWith, past}
use Rattle.turn_lock.specs.declared.view.View.{View}
use Rattle.stock_model.specs.declared.deeds.Deed.{Deed}
use Rattle.stock_model.specs.declared.read_faults.ReadFault.{ReadFault}
use Rattle.stock_model.specs.declared.read_faults.ReadFault.TheVariants.{BadJson, BadField, Limit, NoMemory}
use Rattle.stock_model.specs.declared.requests.Request.{Request}
use Rattle.session_laws.proofs.MakersOf.{length-without_makers, without_makers-with_makers, without_makers-append}
use Rattle.session_laws.specs.Answers.{IsAnswer, IsReply, IsExchange, LacksMemory}
use Rattle.session_laws.specs.Exchanges.{Exchange, kept_in, store_failures, known_after, AreInOrder}
use Rattle.session_laws.specs.Makers.{with_makers, without_makers}
use Rattle.session_laws.specs.Sessions.{Session}
use Rattle.session_laws.specs.Turns.{IsTurn, IsQuiet, quiet_answer}

module _ (desk : ℕ) (old new : View Deed) (request : Request) (t : Exchange) (turn : IsTurn desk old new request t) where
  history-is : without_makers new.seen ≡ without_makers turn.taken ++ t.kept
  history-is =
      ap without_makers turn.seen
      ∙ without_makers-append turn.taken (with_makers t.kept)
      ∙ ap (λ (z : List Deed). without_makers turn.taken ++ z) (without_makers-with_makers t.kept)

  size-is : length (without_makers new.seen) ≡ length turn.taken + length t.kept
  size-is =
      ap length history-is
      ∙ length-append (without_makers turn.taken) t.kept
      ∙ ap (λ (n : ℕ). n + length t.kept) (length-without_makers turn.taken)

  front-is : take (length turn.taken) (without_makers new.seen) ≡ without_makers turn.taken
  front-is =
      ap (take (length turn.taken)) history-is
      ∙ take_at (without_makers turn.taken) t.kept (length turn.taken) (length-without_makers turn.taken)

  known-is : (known : ℕ) → known_after known t ≡ length turn.taken + length t.kept
  known-is known = ap (λ (stop : Option ℕ). option_map_or (λ (n : ℕ). n + length t.kept) stop known) turn.stop

  place-is : take (length turn.taken + length t.kept) (without_makers new.seen)
      ≡ take (length turn.taken) (without_makers new.seen) ++ t.kept
  place-is =
      take_all (length turn.taken + length t.kept) (without_makers new.seen) (omega (arith, size-is))
      ∙ history-is
      ∙ ap (λ (z : List Deed). z ++ t.kept) (sym front-is)

  reply-is : IsReply desk (without_makers new.seen) t.asked t
  reply-is =
      subst (λ (asked : Result Request ReadFault). IsReply desk (without_makers new.seen) asked t) (sym turn.asked)
      (⊎_elim (λ (lacks : LacksMemory t.answer t.kept). inl lacks)
      (λ (answer : IsAnswer desk (without_makers turn.taken) request t.answer t.kept). inr (record {
        stop = length turn.taken;
        own = turn.stop;
        place = place-is;
        answer = subst (λ (z : List Deed). IsAnswer desk z request t.answer t.kept) (sym front-is) answer;
      })) turn.answer)

  exchange-is : IsExchange desk (without_makers new.seen) t
  exchange-is =
      record { within = omega (arith, known-is 0, size-is); reply = reply-is }

  in_order-is : AreInOrder (length old.seen) (t ∷ [])
  in_order-is = (
    subst (λ (stop : Option ℕ). IfSome stop (λ (n : ℕ). length old.seen ≤ n)) (sym turn.stop)
        (begins_no_longer turn.taken old.seen turn.begins),
    tt,
  )

  grows-is : BeginsWith new.seen old.seen
  grows-is =
      begins_through old.seen turn.taken new.seen turn.begins
      (subst (λ (z : List (ℕ × Deed)). BeginsWith z turn.taken) (sym turn.seen) (begins_more turn.taken (with_makers t.kept)))

  added-is : past turn.taken new.seen ≡ with_makers (kept_in (t ∷ []))
  added-is =
      ap (past turn.taken) turn.seen
      ∙ past_more turn.taken (with_makers t.kept)
      ∙ ap with_makers (sym (append-nil t.kept))

  pub Session-turn : Session desk old new (t ∷ [])
  Session-turn =
      record {
        grows = grows-is;
        stops = turn.stops ∙ ap (λ (stop : Option ℕ). old.stops ++ cons_option stop []) (sym turn.stop);
        in_order = in_order-is;
        answers = All-cons (IsExchange desk (without_makers new.seen)) t [] exchange-is
            (All-nil (IsExchange desk (without_makers new.seen)));
        made = turn.made ∙ ap (λ (z : List (ℕ × Deed)). old.made ++ z) added-is;
        no_fewer_faults = turn.no_fewer_faults;
        failed = λ counts. omega (arith, turn.failed counts);
      }

store_failures-quiet_answer : (asked : Result Request ReadFault) → store_failures (quiet_answer asked) ≡ 0
store_failures-quiet_answer (Ok request) = refl
store_failures-quiet_answer (Err BadJson) = refl
store_failures-quiet_answer (Err (BadField name line)) = refl
store_failures-quiet_answer (Err (Limit name line)) = refl
store_failures-quiet_answer (Err NoMemory) = refl

module _ (desk : ℕ) (pass : View Deed) (t : Exchange) (quiet : IsQuiet t) where
  quiet-reply : (asked : Result Request ReadFault) → t.answer ≡ quiet_answer asked → IsReply desk (without_makers pass.seen) asked t
  quiet-reply (Err f) answer = (answer, quiet.stop, quiet.kept)
  quiet-reply (Ok request) answer = inl (answer, quiet.kept)

  quiet-exchange : IsExchange desk (without_makers pass.seen) t
  quiet-exchange =
      let none : known_after 0 t ≡ 0 = ap (λ (stop : Option ℕ). option_map_or (λ (n : ℕ). n + length t.kept) stop 0) quiet.stop in
      record { within = omega arith; reply = quiet-reply t.asked quiet.answer }

  no-failure : store_failures t.answer ≡ 0
  no-failure = ap store_failures quiet.answer ∙ store_failures-quiet_answer t.asked

  pub Session-quiet : Session desk pass pass (t ∷ [])
  Session-quiet =
      record {
        grows = begins_self pass.seen;
        stops = sym (ap (λ (stop : Option ℕ). pass.stops ++ cons_option stop []) quiet.stop ∙ append-nil pass.stops);
        in_order = (subst (λ (stop : Option ℕ). IfSome stop (λ (n : ℕ). length pass.seen ≤ n)) (sym quiet.stop) tt, tt);
        answers = All-cons (IsExchange desk (without_makers pass.seen)) t [] quiet-exchange
            (All-nil (IsExchange desk (without_makers pass.seen)));
        made = sym (ap (λ (kept : List Deed). pass.made ++ with_makers (kept ++ [])) quiet.kept ∙ append-nil pass.made);
        no_fewer_faults = omega arith;
        failed = λ _. omega (arith, no-failure);
      }
