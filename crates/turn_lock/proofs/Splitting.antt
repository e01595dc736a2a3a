-- The rule stays where a pass is split off.
use Rattle.std.proofs.Common.{◌≡◌, ◌≢◌, ℕ, ◌+◌, ◌<◌, ◌≤◌, List, [], ◌∷◌, ◌++◌, length, set, sym, refl, ap, ◌∙◌, subst, ⊎_elim, arith, length-set, length-append}
use Rattle.std.proofs.lemmas.List.Sums.{sum_by_push}
use Rattle.std.specs.Prelude.{sum_by, Option}
use mathlib.Core.Option.{some}
use mathlib.Core.Logic.{dite}
use native.Mathlib.Decide.{ℕ_discrete}
use lib.ListN.{get_elem?}
use Rattle.atomic_table.specs.Table.{State, Splits}
use Rattle.atomic_table.proofs.Lists.{set_here, set_else, at_longer}
use Rattle.turn_lock.specs.declared.view.Start.{Start}
use Rattle.turn_lock.specs.declared.view.View.{View}
use Rattle.turn_lock.specs.Histories.{past, made_by}
use Rattle.turn_lock.specs.Views.{HasTicket, IsServed, tickets, all_turns, all_faults, joined_made, spent, split_left, split_right}
use Rattle.turn_lock.specs.Rule.{FitsPass, FitsZero, TakesTurns}
use Rattle.turn_lock.proofs.Lists.{at_below, at_one, at_either, sum_set, none_in_parts}
use Rattle.turn_lock.proofs.Turning.{each_set, still_spent}

module _ {E : Type 0} where
  -- what holds of the two passes, and of each other
  each_split : (P : ℕ → View E → Type 0) (views : List (View E)) (v : View E) → P 0 (split_left v) → P (length views) (split_right v) → ((j : ℕ) (u : View E) → j ≢ 0 → get_elem? views j ≡ some u → P j u)
      → (j : ℕ) (u : View E) → get_elem? (set views 0 (split_left v) ++ split_right v ∷ []) j ≡ some u → P j u
  each_split P views v left right other j u at = ⊎_elim
      (λ (e : (j < length (set views 0 (split_left v))) × (get_elem? (set views 0 (split_left v)) j ≡ some u)). each_set P views 0 (split_left v) left other j u e.1)
      (λ (e : (j ≡ length (set views 0 (split_left v))) × (split_right v ≡ u)). subst (λ (x : View E). P j x) e.1 (subst (λ (k : ℕ). P k (split_right v)) (sym (e.0 ∙ length-set views 0 (split_left v))) right))
      (at_either (set views 0 (split_left v)) (split_right v) u j at)

module _ {B E : Type 0} (history : B → List (ℕ × E)) (faults : B → ℕ) (start : B → Start) (follows : Start → B → Type 0) (about : B) where
  pub with_split : (s : State (Option B) (View E)) (r : TakesTurns history faults start follows about s) (v : View E) → get_elem? s.views 0 ≡ some v → 0 < v.passes → v.split + 1 < 17
      → TakesTurns history faults start follows about record { words = s.words; homes = s.homes; views = set s.views 0 (split_left v) ++ split_right v ∷ [] }
  with_split s r v at lives room =
      let left : View E = split_left v in let right : View E = split_right v in
      let n : ℕ = length s.views in
      let first : List (ℕ × E) = history about in
      let f = r.fits 0 v at lives in
      let q = r.zero_fits v at in
      let here : 0 < n = at_below s.views 0 v at in
      let long : length (set s.views 0 left ++ right ∷ []) ≡ n + 1 = length-append (set s.views 0 left) (right ∷ []) ∙ ap (λ (k : ℕ). k + 1) (length-set s.views 0 left) in
      let still : (j : ℕ) (u : View E) → get_elem? (set s.views 0 left) j ≡ some u → get_elem? (set s.views 0 left ++ right ∷ []) j ≡ some u = λ j u e. at_longer (set s.views 0 left) (right ∷ []) j u e in
      let left_at : get_elem? (set s.views 0 left ++ right ∷ []) 0 ≡ some left = still 0 left (set_here s.views 0 left here) in
      let old_at : (j : ℕ) (u : View E) → j ≢ 0 → get_elem? s.views j ≡ some u → get_elem? (set s.views 0 left ++ right ∷ []) j ≡ some u = λ j u ne e. still j u (set_else s.views 0 j left ne ∙ e) in
      let unmade = none_in_parts n first v.seen r.log f.from_first f.has_seen (r.none_unmade n (omega arith)) in
      let sums : (g : View E → ℕ) → sum_by g (set s.views 0 left ++ right ∷ []) + g v ≡ sum_by g s.views + g left + g right = λ g. omega (arith, sum_by_push g (set s.views 0 left) right, sum_set g s.views 0 v left at) in
      record {
        log = r.log;
        count = r.count;
        ticket = r.ticket;
        serving = r.serving;
        bells = r.bells;
        home = r.home;
        words = r.words;
        slot = r.slot;
        few = omega (arith, q.split_off);
        fits = λ j u at' live. each_split (λ (k : ℕ) (x : View E). 0 < x.passes → FitsPass first (faults about) (start about) r.log r.count r.ticket r.serving k x) s.views v
            (λ _. record { numbered = f.numbered; began = f.began; began_faults = f.began_faults; began_start = f.began_start; from_first = f.from_first; has_seen = f.has_seen; no_more = f.no_more; own = f.own; none_past = f.none_past; few_turns = f.few_turns; few_joined = f.few_joined; in_turn = f.in_turn; counts = f.counts; only_zero = λ ne. absurd (ne refl) })
            (λ _. record { numbered = q.split_off; began = f.began; began_faults = f.began_faults; began_start = f.began_start; from_first = f.from_first; has_seen = f.has_seen; no_more = f.no_more; own = unmade.0; none_past = unmade.1; few_turns = omega arith; few_joined = omega arith; in_turn = tt; counts = refl; only_zero = λ _. (refl, refl) })
            (λ k x ne at'' live'. r.fits k x at'' live') j u at' live;
        joined_is_spent = λ j u at' none. each_split (λ (k : ℕ) (x : View E). x.passes ≡ 0 → x ≡ spent) s.views v (λ z. let z' : v.passes ≡ 0 = z in absurd (omega arith)) (λ z. absurd (omega arith)) (λ k x ne at'' z. r.joined_is_spent k x at'' z) j u at' none;
        zero_fits = λ u at'. each_split (λ (k : ℕ) (x : View E). k ≡ 0 → FitsZero r.log (set s.views 0 left ++ right ∷ []) x) s.views v
            (λ _. record {
              lives = q.lives;
              split_off = omega (arith, q.split_off);
              saw_both = q.saw_both;
              counted_both = q.counted_both;
              are_spent = λ k d lt. let gone = still_spent s.views 0 v left _ at lives (q.are_spent k d lt) in (gone.0, still _ gone.0 gone.1, gone.2);
              keeps_made = λ k x at'' none. each_split (λ (i : ℕ) (y : View E). y.passes ≡ 0 → (made_by i (past v.first v.seen) ≡ joined_made i v.joined) × (made_by i (past v.seen r.log) ≡ [])) s.views v
                  (λ z. let z' : v.passes ≡ 0 = z in absurd (omega arith)) (λ z. absurd (omega arith)) (λ i y ne at3 z. q.keeps_made i y at3 z) k x at'' none;
              keeps_others = λ k le. q.keeps_others k (omega arith);
            })
            (λ z. absurd (omega arith)) (λ k x ne at'' z. absurd (ne z)) 0 u at' refl;
        apart = λ i j u x t at_i at_j. each_split (λ (k : ℕ) (y : View E). HasTicket y.turn t → HasTicket x.turn t → k ≡ j) s.views v
            (each_split (λ (l : ℕ) (z : View E). HasTicket v.turn t → HasTicket z.turn t → 0 ≡ l) s.views v (λ _ _. refl) (λ _ b. absurd b) (λ l z ne at2 a b. r.apart 0 l v z t at at2 a b) j x at_j)
            (λ a _. absurd a)
            (λ k y ne at1. each_split (λ (l : ℕ) (z : View E). HasTicket y.turn t → HasTicket z.turn t → k ≡ l) s.views v (λ a b. r.apart k 0 y v t at1 at a b) (λ _ b. absurd b) (λ l z ne' at2 a b. r.apart k l y z t at1 at2 a b) j x at_j) i u at_i;
        later = λ i j u x at_i at_j. each_split (λ (k : ℕ) (y : View E). 0 < y.passes → 0 < x.passes → length y.seen < length x.seen → y.seen_faults ≤ x.seen_faults) s.views v
            (each_split (λ (l : ℕ) (z : View E). 0 < v.passes → 0 < z.passes → length v.seen < length z.seen → v.seen_faults ≤ z.seen_faults) s.views v (λ _ _ less. absurd (omega arith)) (λ _ _ less. absurd (omega arith)) (λ l z ne at2 a b less. r.later 0 l v z at at2 a b less) j x at_j)
            (λ _. each_split (λ (l : ℕ) (z : View E). 0 < z.passes → length v.seen < length z.seen → v.seen_faults ≤ z.seen_faults) s.views v (λ _ less. absurd (omega arith)) (λ _ less. absurd (omega arith)) (λ l z ne at2 b less. r.later 0 l v z at at2 lives b less) j x at_j)
            (λ k y ne at1. each_split (λ (l : ℕ) (z : View E). 0 < y.passes → 0 < z.passes → length y.seen < length z.seen → y.seen_faults ≤ z.seen_faults) s.views v (λ a b less. r.later k 0 y v at1 at a b less) (λ a b less. r.later k 0 y v at1 at a lives less) (λ l z ne' at2 a b less. r.later k l y z at1 at2 a b less) j x at_j) i u at_i;
        latest = let l = r.latest in dite (ℕ_discrete l.0 0)
            (λ e. let same = at_one s.views 0 v l.1 at (subst (λ (k : ℕ). get_elem? s.views k ≡ some l.1) e l.2) in (0, left, left_at, lives, ap (λ (x : View E). x.seen) same ∙ l.4, ap (λ (x : View E). x.seen_faults) same ∙ l.5))
            (λ ne. (l.0, l.1, old_at l.0 l.1 ne l.2, l.3, l.4, l.5));
        at_home = λ not_served. r.at_home (λ j u at_j is. dite (ℕ_discrete j 0)
            (λ e. let same = at_one s.views 0 u v (subst (λ (k : ℕ). get_elem? s.views k ≡ some u) e at_j) at in not_served 0 left left_at (subst (λ (x : View E). IsServed x.turn) same is))
            (λ ne. not_served j u (old_at j u ne at_j) is));
        none_unmade = λ k le. r.none_unmade k (omega arith);
        all_passes_are = let e = sums (λ (x : View E). x.passes) in omega (arith, e, r.all_passes_are);
        all_turns_are = let e = sums all_turns in omega (arith, e, r.all_turns_are);
        all_tickets_are = let e = sums (λ (x : View E). tickets x.turn) in omega (arith, e, r.all_tickets_are);
        all_faults_are = let e = sums all_faults in omega (arith, e, r.all_faults_are);
      }

  pub splits : (id : ℕ) (v : View E) → v.number ≡ 0 → 0 < v.passes → v.split + 1 < 17 → Splits (TakesTurns history faults start follows about) id v (split_left v) (split_right v)
  splits id v is_zero lives room s r at = let f = r.fits id v at lives in let e : id ≡ 0 = sym f.numbered ∙ is_zero in
      subst (λ (k : ℕ). TakesTurns history faults start follows about record { words = s.words; homes = s.homes; views = set s.views k (split_left v) ++ split_right v ∷ [] }) (sym e)
      (with_split s r v (subst (λ (k : ℕ). get_elem? s.views k ≡ some v) e at) lives room)
