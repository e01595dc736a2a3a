-- The rule holds as a lock is made.
use Rattle.std.proofs.Common.{◌≡◌, ℕ, zero, suc, List, [], ◌∷◌, length, sym, refl, ap, ◌∙◌, subst, arith}
use Rattle.std.specs.Prelude.{Option, Some}
use mathlib.Core.Option.{some, some-injective, some-ne-none}
use lib.ListN.{get_elem?}
use Rattle.atomic_table.specs.Table.{opening}
use Rattle.turn_lock.specs.declared.view.Start.{Start}
use Rattle.turn_lock.specs.declared.view.View.{View}
use Rattle.turn_lock.specs.Histories.{made_by}
use Rattle.turn_lock.specs.Views.{spent, opened}
use Rattle.turn_lock.specs.Rule.{FitsPass, FitsZero, TakesTurns}
use Rattle.turn_lock.proofs.Lists.{begins_self, past_self}

-- the one element
pub one_of : {A : Type 0} (a b : A) (j : ℕ) → get_elem? (a ∷ []) j ≡ some b → (j ≡ 0) × (a ≡ b)
one_of a b zero e = (refl, some-injective a b e)
one_of a b (suc j) e = absurd (some-ne-none b (sym e))

module _ {B E : Type 0} (history : B → List (ℕ × E)) (faults : B → ℕ) (start : B → Start) (follows : Start → B → Type 0) (about : B) where
  pub opens : (bells : List ℕ) → follows (start about) about → TakesTurns history faults start follows about (opening (0 ∷ 0 ∷ bells) (Some about ∷ []) (opened (history about) (faults about) (start about)))
  opens bells kept = let log : List (ℕ × E) = history about in let v : View E = opened log (faults about) (start about) in
      let each : (P : ℕ → View E → Type 0) → P 0 v → (j : ℕ) (u : View E) → get_elem? (v ∷ []) j ≡ some u → P j u = λ P here j u at. let o = one_of v u j at in subst (λ (x : View E). P j x) o.1 (subst (λ (k : ℕ). P k v) (sym o.0) here) in
      record {
        log = log;
        count = faults about;
        ticket = 0;
        serving = 0;
        bells = bells;
        home = some (Some about);
        words = refl;
        slot = refl;
        few = omega arith;
        fits = λ j u at live. each (λ (k : ℕ) (x : View E). FitsPass log (faults about) (start about) log (faults about) 0 0 k x)
            record { numbered = refl; began = refl; began_faults = refl; began_start = refl; from_first = begins_self log; has_seen = begins_self log; no_more = omega arith; own = ap (made_by 0) (past_self log); none_past = ap (made_by 0) (past_self log); few_turns = omega arith; few_joined = omega arith; in_turn = tt; counts = refl; only_zero = λ ne. absurd (ne refl) } j u at;
        joined_is_spent = λ j u at none. each (λ (k : ℕ) (x : View E). x.passes ≡ 0 → x ≡ spent) (λ z. absurd (omega arith)) j u at none;
        zero_fits = λ u at. each (λ (k : ℕ) (x : View E). FitsZero log (v ∷ []) x)
            record { lives = omega arith; split_off = refl; saw_both = λ k d lt. absurd (omega arith); counted_both = λ k d lt. absurd (omega arith); are_spent = λ k d lt. absurd (omega arith); keeps_made = λ k x at' none. absurd (each (λ (j : ℕ) (y : View E). ¬ (y.passes ≡ 0)) (λ z. absurd (omega arith)) k x at' none); keeps_others = λ k le. refl } 0 u at;
        apart = λ i j u x t at_i at_j _ _. (one_of v u i at_i).0 ∙ sym (one_of v x j at_j).0;
        later = λ i j u x at_i at_j _ _ less. let same = ap (λ (y : View E). length y.seen) (sym (one_of v u i at_i).1 ∙ (one_of v x j at_j).1) in absurd (omega arith);
        latest = (0, v, refl, omega arith, refl, refl);
        at_home = λ _. (about, refl, refl, refl, kept);
        none_unmade = λ k le. ap (made_by k) (past_self log);
        all_passes_are = refl;
        all_turns_are = refl;
        all_tickets_are = refl;
        all_faults_are = omega arith;
      }

pub opens_with : {B E : Type 0} (history : B → List (ℕ × E)) (faults : B → ℕ) (start : B → Start) (follows : Start → B → Type 0) (about book : B) (words bells : List ℕ) (items : List (Option B)) → words ≡ 0 ∷ 0 ∷ bells → items ≡ Some book ∷ [] → about ≡ book → follows (start about) about
    → TakesTurns history faults start follows about (opening words items (opened (history about) (faults about) (start about)))
opens_with {B} {E} history faults start follows about book words bells items are is same kept =
    subst (λ (ws : List ℕ). TakesTurns history faults start follows about (opening ws items (opened (history about) (faults about) (start about)))) (sym are)
    (subst (λ (xs : List (Option B)). TakesTurns history faults start follows about (opening (0 ∷ 0 ∷ bells) xs (opened (history about) (faults about) (start about)))) (sym (is ∙ ap (λ (b : B). Some b ∷ []) (sym same)))
    (opens history faults start follows about bells kept))
