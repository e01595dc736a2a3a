-- A turn at the lock, by the clauses of its `take` and `give`, for a book whose history is that of deeds with their makers.
use Rattle.std.proofs.Common.{◌≡◌, ℕ, ◌+◌, ◌-◌, ◌^◌, ◌<◌, ◌≤◌, ◌⊎◌, ⊎_elim, List, [], ◌∷◌, ◌++◌, length, sym, refl, ap, ◌∙◌, subst, arith}
use Rattle.std.proofs.lemmas.List.Elements.{All-nil}
use Rattle.std.specs.Prelude.{All, Some, Ok}
use Rattle.turn_lock.proofs.Lists.{begins_more, past_more}
use Rattle.turn_lock.specs.Histories.{BeginsWith, past}
use Rattle.turn_lock.specs.declared.view.View.{View}
use Rattle.stock_model.specs.declared.answers.Answer.{Answer}
use Rattle.stock_model.specs.declared.deeds.Deed.{Deed}
use Rattle.stock_model.specs.declared.requests.Request.{Request}
use Rattle.session_laws.proofs.AnswerCases.{IsMadeBy, own-deeds}
use Rattle.session_laws.proofs.MakersOf.{without_makers-with_makers, with_makers-append}
use Rattle.session_laws.specs.Answers.{IsAnswer, LacksMemory}
use Rattle.session_laws.specs.Exchanges.{store_failures}
use Rattle.session_laws.specs.Makers.{with_makers, without_makers}
use Rattle.session_laws.specs.Turns.{IsTurn}

-- the turn took the history before, added the deeds that were kept, and gave back the history after
module _ (before after kept : List Deed) (taken : List (ℕ × Deed))
    (took : with_makers before ≡ taken) (adds : after ≡ before ++ kept) where
  given-is : with_makers after ≡ taken ++ with_makers kept
  given-is = ap with_makers adds ∙ with_makers-append before kept ∙ ap (λ (z : List (ℕ × Deed)). z ++ with_makers kept) took

  -- what `give` requires as `grown`
  pub grown-from_lock : BeginsWith (with_makers after) taken
  grown-from_lock = subst (λ (z : List (ℕ × Deed)). BeginsWith z taken) (sym given-is) (begins_more taken (with_makers kept))

  past-from_lock : past taken (with_makers after) ≡ with_makers kept
  past-from_lock = ap (past taken) given-is ∙ past_more taken (with_makers kept)

  module _ (desk : ℕ) (request : Request) (answer : Answer)
      (answered : LacksMemory answer kept ⊎ IsAnswer desk before request answer kept) where
    -- what `give` requires as `own`
    pub own-from_lock : All (IsMadeBy desk) (past taken (with_makers after))
    own-from_lock =
        subst (All (IsMadeBy desk)) (sym past-from_lock)
        (⊎_elim
        (λ (lacks : LacksMemory answer kept).
        subst (λ (z : List Deed). All (IsMadeBy desk) (with_makers z)) (sym lacks.1) (All-nil (IsMadeBy desk)))
        (λ (is : IsAnswer desk before request answer kept). own-deeds desk before answer kept request is) answered)

-- A turn at the lock, by the clauses of its `take` and `give` for a book whose history is that of these deeds. The pass took the
-- history before, answered by it, added these deeds and gave the history back.
pub IsTurn-from_lock : (desk : ℕ) (old new : View Deed) (request : Request) (answer : Answer) (before after kept : List Deed)
    (taken : List (ℕ × Deed)) (taken_faults given_faults : ℕ)
    → BeginsWith taken old.seen → with_makers before ≡ taken
    → after ≡ before ++ kept → LacksMemory answer kept ⊎ IsAnswer desk before request answer kept
    → (given_faults < 2 ^ 64 - 1 → store_failures answer + taken_faults ≤ given_faults)
    → old.seen_faults ≤ taken_faults → taken_faults ≤ given_faults → new.seen_faults ≡ given_faults
    → new.seen ≡ with_makers after → new.made ≡ old.made ++ past taken (with_makers after)
    → new.stops ≡ old.stops ++ length taken ∷ [] → new.faults ≡ old.faults + (given_faults - taken_faults)
    → IsTurn desk old new request (record { asked = Ok request; answer = answer; stop = Some (length taken); kept = kept })
IsTurn-from_lock desk old new request answer before after kept taken taken_faults given_faults
    begins took adds answered failed later no_fewer seen_faults seen made stops faults =
    record {
      taken = taken;
      begins = begins;
      asked = refl;
      stop = refl;
      answer = subst (λ (z : List Deed). LacksMemory answer kept ⊎ IsAnswer desk z request answer kept)
          (sym (ap without_makers (sym took) ∙ without_makers-with_makers before)) answered;
      seen = seen ∙ ap with_makers adds ∙ with_makers-append before kept ∙ ap (λ (z : List (ℕ × Deed)). z ++ with_makers kept) took;
      stops = stops;
      made = made ∙ ap (λ (z : List (ℕ × Deed)). old.made ++ past taken z) (sym seen);
      no_fewer_faults = omega arith;
      failed = λ counts. omega (arith, failed (omega (arith, counts, seen_faults)));
    }
