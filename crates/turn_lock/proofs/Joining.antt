-- The rule stays where a pass is joined into pass 0.
use Rattle.std.proofs.Common.{◌≡◌, ◌≢◌, ℕ, ◌+◌, ◌<◌, ◌≤◌, List, [], ◌∷◌, length, set, max, sym, refl, ap, ◌∙◌, subst, arith, lt-ltb, le-ltb, eq-eqb, ne_eqb, length-set}
use Rattle.std.proofs.lemmas.List.Elements.{All-cons}
use Rattle.std.proofs.lemmas.List.Sums.{sum_by-cons}
use Rattle.std.specs.Prelude.{sum_by, slice_index_or, Option}
use mathlib.Core.Option.{some}
use mathlib.Core.Logic.{dite}
use native.Mathlib.Decide.{ℕ_discrete, dec_le}
use lib.ListN.{get_elem?}
use Rattle.atomic_table.specs.Table.{State, Joins}
use Rattle.atomic_table.proofs.Lists.{set_here, set_else}
use Rattle.turn_lock.specs.declared.view.Start.{Start}
use Rattle.turn_lock.specs.declared.view.View.{View}
use Rattle.turn_lock.specs.declared.view.Joined.{Joined}
use Rattle.turn_lock.specs.declared.view.Turn.TheVariants.{Rest}
use Rattle.turn_lock.specs.Histories.{BeginsWith, past, made_by}
use Rattle.turn_lock.specs.Views.{HasTicket, IsServed, tickets, all_turns, all_faults, joined_made, spent, longer_seen, longer_faults, kept_of, joined_view}
use Rattle.turn_lock.specs.Rule.{FitsPass, FitsZero, TakesTurns}
use Rattle.turn_lock.proofs.Lists.{at_below, at_one, sum_set, begins_self, begins_same, begins_between, begins_through, begins_no_longer, made_in_first, none_in_parts}
use Rattle.turn_lock.proofs.Turning.{each_set}

module _ {E : Type 0} where
  -- what holds of the longer history in each of three cases holds of it
  pub by_longer : (P : List (ℕ × E) → ℕ → Type 0) (v w : View E) → (length v.seen < length w.seen → P w.seen w.seen_faults) → (length w.seen < length v.seen → P v.seen v.seen_faults)
      → (length v.seen ≡ length w.seen → P v.seen (max v.seen_faults w.seen_faults)) → P (longer_seen v w) (longer_faults v w)
  by_longer P v w second first same = dite (dec_le (length w.seen) (length v.seen))
      (λ le. rw (le-ltb (length v.seen) (length w.seen) le) (dite (dec_le (length v.seen) (length w.seen))
      (λ ge. rw (le-ltb (length w.seen) (length v.seen) ge) (same (omega arith)))
      (λ lt. rw (lt-ltb (length w.seen) (length v.seen) (omega arith)) (first (omega arith)))))
      (λ lt. rw (lt-ltb (length v.seen) (length w.seen) (omega arith)) (second (omega arith)))

  -- what both had seen is the beginning of the longer history, which is the beginning of the whole one
  pub longer_begins : (v w : View E) (log : List (ℕ × E)) → BeginsWith log v.seen → BeginsWith log w.seen → BeginsWith log (longer_seen v w) × BeginsWith (longer_seen v w) v.seen × BeginsWith (longer_seen v w) w.seen
  longer_begins v w log a b = by_longer (λ seen _. BeginsWith log seen × BeginsWith seen v.seen × BeginsWith seen w.seen) v w
      (λ lt. (b, begins_between v.seen w.seen log a b (omega arith), begins_self w.seen)) (λ lt. (a, begins_self v.seen, begins_between w.seen v.seen log b a (omega arith)))
      (λ e. (a, begins_self v.seen, begins_between w.seen v.seen log b a (omega arith)))

  -- where who has seen less has counted no more, neither of both has counted more than who has seen the longer history
  pub longer_counts : (v w : View E) → (length v.seen < length w.seen → v.seen_faults ≤ w.seen_faults) → (length w.seen < length v.seen → w.seen_faults ≤ v.seen_faults)
      → (v.seen_faults ≤ longer_faults v w) × (w.seen_faults ≤ longer_faults v w)
  longer_counts v w first second = by_longer (λ _ n. (v.seen_faults ≤ n) × (w.seen_faults ≤ n)) v w
      (λ less. (first less, omega arith)) (λ less. (omega arith, second less)) (λ _. (omega arith, omega arith))

  not_spent : (v u : View E) → u ≡ v → 0 < v.passes → ¬ (u.passes ≡ 0)
  not_spent v u same lives none = let e = ap (λ (x : View E). x.passes) same in omega arith

  -- what holds of pass 0, of the spent seat, and of each other
  each_joined : (P : ℕ → View E → Type 0) (views : List (View E)) (o : ℕ) (both : View E) → o ≢ 0 → P 0 both → P o spent → ((j : ℕ) (u : View E) → j ≢ 0 → j ≢ o → get_elem? views j ≡ some u → P j u)
      → (j : ℕ) (u : View E) → get_elem? (set (set views 0 both) o spent) j ≡ some u → P j u
  each_joined P views o both apart here gone other j u at = each_set P (set views 0 both) o spent gone
      (λ k x ne at'. each_set (λ (i : ℕ) (y : View E). i ≢ o → P i y) views 0 both (λ _. here) (λ i y ne' at2 not_o. other i y ne' not_o at2) k x at' ne) j u at

module _ {B E : Type 0} (history : B → List (ℕ × E)) (faults : B → ℕ) (start : B → Start) (follows : Start → B → Type 0) (about : B) where
  pub with_join : (s : State (Option B) (View E)) (r : TakesTurns history faults start follows about s) (v w : View E) (o : ℕ) → get_elem? s.views 0 ≡ some v → get_elem? s.views o ≡ some w → o ≢ 0
      → 0 < v.passes → 0 < w.passes → v.turn ≡ Rest → w.turn ≡ Rest
      → TakesTurns history faults start follows about record { words = s.words; homes = s.homes; views = set (set s.views 0 (joined_view v w)) o spent }
  with_join s r v w o at at_w apart lives lives_w rests rests_w =
      let both : View E = joined_view v w in
      let seen : List (ℕ × E) = longer_seen v w in
      let n : ℕ = length s.views in
      let first : List (ℕ × E) = history about in
      let f = r.fits 0 v at lives in
      let g = r.fits o w at_w lives_w in
      let q = r.zero_fits v at in
      let alone = g.only_zero apart in
      let one : w.passes ≡ 1 = g.counts ∙ ap (λ (l : List (Joined E)). 1 + length l) alone.0 in
      let longer = longer_begins v w r.log f.has_seen g.has_seen in
      let counts = longer_counts v w (r.later 0 o v w at at_w lives lives_w) (r.later o 0 w v at_w at lives_w lives) in
      let mine = none_in_parts 0 v.seen seen r.log longer.1 longer.0 f.none_past in
      let theirs = none_in_parts o w.seen seen r.log longer.2 longer.0 g.none_past in
      let here : 0 < n = at_below s.views 0 v at in
      let there : o < n = at_below s.views o w at_w in
      let at_w' : get_elem? (set s.views 0 both) o ≡ some w = set_else s.views 0 o both apart ∙ at_w in
      let long : length (set (set s.views 0 both) o spent) ≡ n = length-set (set s.views 0 both) o spent ∙ length-set s.views 0 both in
      let near : o < length (set s.views 0 both) = let e = length-set s.views 0 both in omega arith in
      let spent_at : get_elem? (set (set s.views 0 both) o spent) o ≡ some spent = set_here (set s.views 0 both) o spent near in
      let both_at : get_elem? (set (set s.views 0 both) o spent) 0 ≡ some both = set_else (set s.views 0 both) o 0 spent (λ e. apart (sym e)) ∙ set_here s.views 0 both here in
      let old_at : (j : ℕ) (u : View E) → j ≢ 0 → j ≢ o → get_elem? s.views j ≡ some u → get_elem? (set (set s.views 0 both) o spent) j ≡ some u = λ j u ne not_o e. set_else (set s.views 0 both) o j spent not_o ∙ (set_else s.views 0 j both ne ∙ e) in
      let first_seen : BeginsWith v.seen v.first = subst (λ (z : List (ℕ × E)). BeginsWith v.seen z) (sym f.began) f.from_first in
      let first_w : BeginsWith w.seen v.first = subst (λ (z : List (ℕ × E)). BeginsWith w.seen z) (sym f.began) g.from_first in
      let gives_kept : sum_by (λ (j : Joined E). j.gives) both.joined ≡ length w.stops + sum_by (λ (j : Joined E). j.gives) v.joined = sum_by-cons (λ (j : Joined E). j.gives) (kept_of v w) v.joined in
      let faults_kept : sum_by (λ (j : Joined E). j.faults) both.joined ≡ w.faults + sum_by (λ (j : Joined E). j.faults) v.joined = sum_by-cons (λ (j : Joined E). j.faults) (kept_of v w) v.joined in
      let gives_none : sum_by (λ (j : Joined E). j.gives) w.joined ≡ 0 = ap (sum_by (λ (j : Joined E). j.gives)) alone.0 in
      let faults_none : sum_by (λ (j : Joined E). j.faults) w.joined ≡ 0 = ap (sum_by (λ (j : Joined E). j.faults)) alone.0 in
      let sums : (h : View E → ℕ) → sum_by h (set (set s.views 0 both) o spent) + h w + h v ≡ sum_by h s.views + h both + h spent = λ h. omega (arith, sum_set h (set s.views 0 both) o w spent at_w', sum_set h s.views 0 v both at) in
      record {
        log = r.log;
        count = r.count;
        ticket = r.ticket;
        serving = r.serving;
        bells = r.bells;
        home = r.home;
        words = r.words;
        slot = r.slot;
        few = omega (arith, r.few);
        fits = λ j u at' live. each_joined (λ (k : ℕ) (x : View E). 0 < x.passes → FitsPass first (faults about) (start about) r.log r.count r.ticket r.serving k x) s.views o both apart
            (λ _. record {
              numbered = f.numbered;
              began = f.began;
              began_faults = f.began_faults;
              began_start = f.began_start;
              from_first = begins_through first v.seen seen f.from_first longer.1;
              has_seen = longer.0;
              no_more = by_longer (λ _ k. k ≤ r.count) v w (λ _. g.no_more) (λ _. f.no_more) (λ _. omega (arith, f.no_more, g.no_more));
              own = made_in_first 0 first v.seen seen f.from_first longer.1 mine.0 ∙ f.own;
              none_past = mine.1;
              few_turns = f.few_turns;
              few_joined = omega (arith, f.few_joined, g.few_turns);
              in_turn = f.in_turn;
              counts = omega (arith, f.counts);
              only_zero = λ ne. absurd (ne refl);
            })
            (λ live'. absurd (omega arith))
            (λ k x ne not_o at'' live'. r.fits k x at'' live') j u at' live;
        joined_is_spent = λ j u at' none. each_joined (λ (k : ℕ) (x : View E). x.passes ≡ 0 → x ≡ spent) s.views o both apart (λ z. let z' : v.passes + w.passes ≡ 0 = z in absurd (omega arith)) (λ _. refl) (λ k x ne not_o at'' z. r.joined_is_spent k x at'' z) j u at' none;
        zero_fits = λ u at'. each_joined (λ (k : ℕ) (x : View E). k ≡ 0 → FitsZero r.log (set (set s.views 0 both) o spent) x) s.views o both apart
            (λ _. record {
              lives = omega arith;
              split_off = q.split_off ∙ sym long;
              saw_both = All-cons (λ (j : Joined E). BeginsWith seen j.kept_seen × BeginsWith seen j.other_seen) (kept_of v w) v.joined (longer.1, longer.2)
                  (λ k d lt. let b = q.saw_both k d lt in let j : Joined E = slice_index_or v.joined k d in (begins_through j.kept_seen v.seen seen b.0 longer.1, begins_through j.other_seen v.seen seen b.1 longer.1));
              counted_both = All-cons (λ (j : Joined E). (j.kept_seen_faults ≤ longer_faults v w) × (j.other_seen_faults ≤ longer_faults v w)) (kept_of v w) v.joined counts
                  (λ k d lt. let b = q.counted_both k d lt in (omega (arith, b.0, counts.0), omega (arith, b.1, counts.0)));
              are_spent = All-cons (λ (j : Joined E). (u : View E) × (get_elem? (set (set s.views 0 both) o spent) j.number ≡ some u) × (u.passes ≡ 0)) (kept_of v w) v.joined
                  (spent, subst (λ (k : ℕ). get_elem? (set (set s.views 0 both) o spent) k ≡ some spent) (sym g.numbered) spent_at, refl)
                  (λ k d lt. let gone = q.are_spent k d lt in let m : ℕ = (slice_index_or v.joined k d).number in (
                    gone.0,
                    old_at m gone.0
                        (λ e. not_spent v gone.0 (at_one s.views 0 gone.0 v (subst (λ (i : ℕ). get_elem? s.views i ≡ some gone.0) e gone.1) at) lives gone.2)
                        (λ e. not_spent w gone.0 (at_one s.views o gone.0 w (subst (λ (i : ℕ). get_elem? s.views i ≡ some gone.0) e gone.1) at_w) lives_w gone.2) gone.1,
                    gone.2,
                  ));
              keeps_made = λ k x at'' none. each_joined (λ (i : ℕ) (y : View E). y.passes ≡ 0 → (made_by i (past v.first seen) ≡ joined_made i (kept_of v w ∷ v.joined)) × (made_by i (past seen r.log) ≡ [])) s.views o both apart
                  (λ z. let z' : v.passes + w.passes ≡ 0 = z in absurd (omega arith))
                  (λ _. (
                    rw (eq-eqb w.number o g.numbered) (made_in_first o v.first w.seen seen first_w longer.2 theirs.0 ∙ ap (λ (z : List (ℕ × E)). made_by o (past z w.seen)) f.began ∙ g.own),
                    theirs.1,
                  ))
                  (λ i y ne not_o at3 z. let old = q.keeps_made i y at3 z in let parts = none_in_parts i v.seen seen r.log longer.1 longer.0 old.1 in (
                    rw (ne_eqb w.number i (λ e. not_o (sym e ∙ g.numbered))) (made_in_first i v.first v.seen seen first_seen longer.1 parts.0 ∙ old.0),
                    parts.1,
                  )) k x at'' none;
              keeps_others = λ k le. rw (ne_eqb w.number k (λ e. let h = g.numbered in omega arith)) (q.keeps_others k (omega arith));
            })
            (λ z. absurd (apart z)) (λ k x ne not_o at'' z. absurd (ne z)) 0 u at' refl;
        apart = λ i j u x t at_i at_j. each_joined (λ (k : ℕ) (y : View E). HasTicket y.turn t → HasTicket x.turn t → k ≡ j) s.views o both apart
            (λ a _. absurd (subst (λ z. HasTicket z t) rests a)) (λ a _. absurd a)
            (λ k y ne not_o at1. each_joined (λ (l : ℕ) (z : View E). HasTicket y.turn t → HasTicket z.turn t → k ≡ l) s.views o both apart (λ _ b. absurd (subst (λ z. HasTicket z t) rests b)) (λ _ b. absurd b) (λ l z ne' not_o' at2 a b. r.apart k l y z t at1 at2 a b) j x at_j) i u at_i;
        later = λ i j u x at_i at_j. each_joined (λ (k : ℕ) (y : View E). 0 < y.passes → 0 < x.passes → length y.seen < length x.seen → y.seen_faults ≤ x.seen_faults) s.views o both apart
            (each_joined (λ (l : ℕ) (z : View E). 0 < both.passes → 0 < z.passes → length seen < length z.seen → both.seen_faults ≤ z.seen_faults) s.views o both apart (λ _ _ less. absurd (omega arith)) (λ _ b. absurd (omega arith))
            (λ l z ne not_o at2 a b less. by_longer (λ sn fs. length sn < length z.seen → fs ≤ z.seen_faults) v w (λ _ less'. r.later o l w z at_w at2 lives_w b less') (λ _ less'. r.later 0 l v z at at2 lives b less')
            (λ e less'. let h = r.later 0 l v z at at2 lives b less' in let h' = r.later o l w z at_w at2 lives_w b (omega arith) in omega arith) less) j x at_j)
            (λ a. absurd (omega arith))
            (λ k y ne not_o at1. each_joined (λ (l : ℕ) (z : View E). 0 < y.passes → 0 < z.passes → length y.seen < length z.seen → y.seen_faults ≤ z.seen_faults) s.views o both apart
            (λ a _ less. by_longer (λ sn fs. length y.seen < length sn → y.seen_faults ≤ fs) v w (λ _ less'. r.later k o y w at1 at_w a lives_w less') (λ _ less'. r.later k 0 y v at1 at a lives less')
            (λ e less'. let h = r.later k 0 y v at1 at a lives less' in omega arith) less)
            (λ _ b. absurd (omega arith)) (λ l z ne' not_o' at2 a b less. r.later k l y z at1 at2 a b less) j x at_j) i u at_i;
        latest = let l = r.latest in dite (ℕ_discrete l.0 0)
            (λ e. let same = at_one s.views 0 v l.1 at (subst (λ (k : ℕ). get_elem? s.views k ≡ some l.1) e l.2) in
            let is : v.seen ≡ r.log = ap (λ (x : View E). x.seen) same ∙ l.4 in let count : v.seen_faults ≡ r.count = ap (λ (x : View E). x.seen_faults) same ∙ l.5 in let long_as = ap length is in
            let it = by_longer (λ sn fs. (sn ≡ r.log) × (fs ≡ r.count)) v w (λ lt. let h = begins_no_longer r.log w.seen g.has_seen in absurd (omega arith)) (λ _. (is, count)) (λ _. (is, omega (arith, g.no_more))) in
            (0, both, both_at, omega arith, it.0, it.1))
            (λ ne. dite (ℕ_discrete l.0 o)
            (λ e. let same = at_one s.views o w l.1 at_w (subst (λ (k : ℕ). get_elem? s.views k ≡ some l.1) e l.2) in
            let is : w.seen ≡ r.log = ap (λ (x : View E). x.seen) same ∙ l.4 in let count : w.seen_faults ≡ r.count = ap (λ (x : View E). x.seen_faults) same ∙ l.5 in let long_as = ap length is in
            let it = by_longer (λ sn fs. (sn ≡ r.log) × (fs ≡ r.count)) v w (λ _. (is, count)) (λ lt. let h = begins_no_longer r.log v.seen f.has_seen in absurd (omega arith)) (λ e'. (begins_same v.seen w.seen r.log f.has_seen g.has_seen e' ∙ is, omega (arith, f.no_more))) in
            (0, both, both_at, omega arith, it.0, it.1))
            (λ not_o. (l.0, l.1, old_at l.0 l.1 ne not_o l.2, l.3, l.4, l.5)));
        at_home = λ not_served. r.at_home (λ j u at_j is. dite (ℕ_discrete j 0)
            (λ e. let same = at_one s.views 0 u v (subst (λ (k : ℕ). get_elem? s.views k ≡ some u) e at_j) at in subst IsServed (ap (λ (x : View E). x.turn) same ∙ rests) is)
            (λ ne. dite (ℕ_discrete j o)
            (λ e. let same = at_one s.views o u w (subst (λ (k : ℕ). get_elem? s.views k ≡ some u) e at_j) at_w in subst IsServed (ap (λ (x : View E). x.turn) same ∙ rests_w) is)
            (λ not_o. not_served j u (old_at j u ne not_o at_j) is)));
        none_unmade = λ k le. r.none_unmade k (omega arith);
        all_passes_are = let e = sums (λ (x : View E). x.passes) in omega (arith, e, r.all_passes_are);
        all_turns_are = let e = sums all_turns in omega (arith, e, r.all_turns_are);
        all_tickets_are = let e = sums (λ (x : View E). tickets x.turn) in let t : tickets w.turn ≡ 0 = ap tickets rests_w in omega (arith, e, r.all_tickets_are);
        all_faults_are = let e = sums all_faults in omega (arith, e, r.all_faults_are);
      }

  pub joins : (id other : ℕ) (v w : View E) → v.number ≡ 0 → 0 < v.passes → 0 < w.passes → v.turn ≡ Rest → w.turn ≡ Rest → Joins (TakesTurns history faults start follows about) id v other w (joined_view v w) spent
  joins id other v w is_zero lives lives_w rests rests_w s r at apart at_w = let f = r.fits id v at lives in let e : id ≡ 0 = sym f.numbered ∙ is_zero in
      let ne : other ≢ 0 = λ z. apart (z ∙ sym e) in
      let at_w' : get_elem? s.views other ≡ some w = sym (set_else s.views id other (joined_view v w) apart) ∙ at_w in
      subst (λ (k : ℕ). TakesTurns history faults start follows about record { words = s.words; homes = s.homes; views = set (set s.views k (joined_view v w)) other spent }) (sym e)
      (with_join s r v w other (subst (λ (k : ℕ). get_elem? s.views k ≡ some v) e at) at_w' ne lives lives_w rests rests_w)
