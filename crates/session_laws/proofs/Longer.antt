-- What was answered by a history is answered by every longer one.
use Rattle.std.proofs.Common.{◌≡◌, ℕ, ◌+◌, ◌≤◌, ⊎_elim, inl, inr, List, ◌++◌, length, take, sym, ap, ◌∙◌, subst, arith}
use Rattle.std.proofs.lemmas.List.{take-take}
use Rattle.std.specs.Option.{option_map_or}
use Rattle.std.specs.Prelude.{Option, Some, Result, Ok, Err}
use Rattle.turn_lock.specs.Histories.{BeginsWith}
use Rattle.turn_lock.proofs.Lists.{begins_no_longer}
use Rattle.stock_model.specs.declared.deeds.Deed.{Deed}
use Rattle.stock_model.specs.declared.read_faults.ReadFault.{ReadFault}
use Rattle.stock_model.specs.declared.requests.Request.{Request}
use Rattle.session_laws.specs.Answers.{IsAnswer, IsAnswered, IsReply, IsExchange, LacksMemory}
use Rattle.session_laws.specs.Exchanges.{Exchange, known_after}

-- the longer history has the same beginning
pub same_front : {A : Type 0} (final seen : List A) (n : ℕ) → BeginsWith final seen → n ≤ length seen → take n seen ≡ take n final
same_front final seen n begins within = ap (take n) (sym begins) ∙ take-take n (length seen) final within

-- a turn's stop, and what it added, are within what is known after it
pub ends_within : (t : Exchange) (stop size : ℕ) → t.stop ≡ Some stop → known_after 0 t ≤ size → stop + length t.kept ≤ size
ends_within t stop size own within = subst (λ (it : Option ℕ). option_map_or (λ (n : ℕ). n + length t.kept) it 0 ≤ size) own within

module _ (desk : ℕ) (final seen : List Deed) (begins : BeginsWith final seen)
    (t : Exchange) (within : known_after 0 t ≤ length seen) where
  IsAnswered-longer : (request : Request) → IsAnswered desk seen request t → IsAnswered desk final request t
  IsAnswered-longer request a =
      let ends : a.stop + length t.kept ≤ length seen = ends_within t a.stop (length seen) a.own within in
      let front : take a.stop seen ≡ take a.stop final = same_front final seen a.stop begins (omega arith) in
      record {
        stop = a.stop;
        own = a.own;
        place = sym (same_front final seen (a.stop + length t.kept) begins ends)
            ∙ a.place
            ∙ ap (λ (z : List Deed). z ++ t.kept) front;
        answer = subst (λ (z : List Deed). IsAnswer desk z request t.answer t.kept) front a.answer;
      }

  IsReply-longer : (asked : Result Request ReadFault) → IsReply desk seen asked t → IsReply desk final asked t
  IsReply-longer (Err f) reply = reply
  IsReply-longer (Ok request) reply =
      ⊎_elim (λ (lacks : LacksMemory t.answer t.kept). inl lacks)
      (λ (a : IsAnswered desk seen request t). inr (IsAnswered-longer request a)) reply

pub IsExchange-longer : (desk : ℕ) (final seen : List Deed) → BeginsWith final seen → (t : Exchange)
    → IsExchange desk seen t → IsExchange desk final t
IsExchange-longer desk final seen begins t is =
    record {
      within = omega (arith, is.within, begins_no_longer final seen begins);
      reply = IsReply-longer desk final seen begins t is.within t.asked is.reply;
    }
