-- The rule stays where only the turn of one pass changes.
use Rattle.std.proofs.Common.{◌≡◌, ◌≢◌, ℕ, ◌+◌, ◌^◌, ◌<◌, ◌≤◌, List, [], ◌∷◌, length, set, sym, refl, ap, ◌∙◌, subst, ⊎_elim, arith, length-set}
use Rattle.std.specs.Prelude.{Option, Some}
use mathlib.Core.Option.{some, some-injective, some-ne-none}
use mathlib.Core.Option as maybe
use native.Mathlib.Decide.{ℕ_discrete}
use mathlib.Core.Logic.{dite}
use lib.ListN.{get_elem?}
use Rattle.atomic_table.specs.Table.{State}
use Rattle.atomic_table.proofs.Lists.{at_set, set_here, set_else}
use Rattle.turn_lock.specs.declared.view.Start.{Start}
use Rattle.turn_lock.specs.declared.view.View.{View}
use Rattle.turn_lock.specs.declared.view.Turn.{Turn}
use Rattle.turn_lock.specs.declared.view.Turn.TheVariants.{Rest, Drawn, Served}
use Rattle.turn_lock.specs.Histories.{past, made_by}
use Rattle.turn_lock.specs.Views.{HasTicket, IsServed, tickets, all_turns, all_faults, joined_made, spent}
use Rattle.turn_lock.specs.Rule.{InTurn, FitsPass, FitsZero, TakesTurns}
use Rattle.turn_lock.proofs.Lists.{at_below, at_one, sum_set}

module _ {E : Type 0} where
  pub in_turn_more : (log : List (ℕ × E)) (count ticket ticket' serving : ℕ) (turn : Turn E) → ticket ≤ ticket' → InTurn log count ticket serving turn → InTurn log count ticket' serving turn
  in_turn_more log count ticket ticket' serving Rest le h = tt
  in_turn_more log count ticket ticket' serving (Drawn t) le h = (h.0, omega arith)
  in_turn_more log count ticket ticket' serving (Served t l c) le h = (h.0, omega arith, h.2, h.3)

  -- a change of the view of one pass which keeps what the others' facts speak of
  pub each_set : (P : ℕ → View E → Type 0) (views : List (View E)) (id : ℕ) (w : View E) → P id w → ((j : ℕ) (u : View E) → j ≢ id → get_elem? views j ≡ some u → P j u) → (j : ℕ) (u : View E) → get_elem? (set views id w) j ≡ some u → P j u
  each_set P views id w here other j u at = ⊎_elim
      (λ (e : (j ≡ id) × (w ≡ u)). subst (λ (x : View E). P j x) e.1 (subst (λ (k : ℕ). P k w) (sym e.0) here))
      (λ (e : (j ≢ id) × (get_elem? views j ≡ some u)). other j u e.0 e.1) (at_set views id j w u at)

  -- a seat whose pass was joined keeps its view where that of a live pass changes
  pub still_spent : (views : List (View E)) (id : ℕ) (v w : View E) (k : ℕ) → get_elem? views id ≡ some v → 0 < v.passes → (u : View E) × (get_elem? views k ≡ some u) × (u.passes ≡ 0) → (u : View E) × (get_elem? (set views id w) k ≡ some u) × (u.passes ≡ 0)
  still_spent views id v w k at lives gone = dite (ℕ_discrete k id)
      (λ e. let same = ap (λ (x : View E). x.passes) (at_one views id gone.0 v (subst (λ (j : ℕ). get_elem? views j ≡ some gone.0) e gone.1) at) in let none : gone.0.passes ≡ 0 = gone.2 in absurd (omega arith))
      (λ ne. (gone.0, set_else views id k w ne ∙ gone.1, gone.2))

  -- the same of each two passes
  pub each_two : (R : ℕ → View E → ℕ → View E → Type 0) (views : List (View E)) (id : ℕ) (w : View E) → R id w id w → ((j : ℕ) (u : View E) → j ≢ id → get_elem? views j ≡ some u → R id w j u)
      → ((j : ℕ) (u : View E) → j ≢ id → get_elem? views j ≡ some u → R j u id w) → ((i j : ℕ) (u x : View E) → i ≢ id → j ≢ id → get_elem? views i ≡ some u → get_elem? views j ≡ some x → R i u j x)
      → (i j : ℕ) (u x : View E) → get_elem? (set views id w) i ≡ some u → get_elem? (set views id w) j ≡ some x → R i u j x
  each_two R views id w both first second neither i j u x at_i at_j =
      each_set (λ (k : ℕ) (y : View E). R k y j x) views id w
      (each_set (λ (k : ℕ) (y : View E). R id w k y) views id w both first j x at_j)
      (λ k y ne at. each_set (λ (l : ℕ) (z : View E). R k y l z) views id w (second k y ne at) (λ l z ne' at'. neither k l y z ne ne' at at') j x at_j) i u at_i

module _ {B E : Type 0} (history : B → List (ℕ × E)) (faults : B → ℕ) (start : B → Start) (follows : Start → B → Type 0) (about : B) where
  pub with_turn : (s : State (Option B) (View E)) (r : TakesTurns history faults start follows about s) (id : ℕ) (v : View E) (t' : Turn E) (ticket' : ℕ) (home' : maybe.Option (Option B)) (words' : List ℕ) (homes' : List (maybe.Option (Option B)))
      → get_elem? s.views id ≡ some v → 0 < v.passes → words' ≡ ticket' ∷ r.serving ∷ r.bells → homes' ≡ home' ∷ []
      → r.ticket ≤ ticket' → ticket' + tickets v.turn ≡ r.ticket + tickets t' → length v.stops + tickets t' ≤ 2 ^ 57 → InTurn r.log r.count ticket' r.serving t'
      → ((t : ℕ) → HasTicket t' t → (j : ℕ) (u : View E) → j ≢ id → get_elem? s.views j ≡ some u → ¬ HasTicket u.turn t)
      → (((j : ℕ) (u : View E) → get_elem? (set s.views id (record v { turn = t' })) j ≡ some u → ¬ IsServed u.turn) → (b : B) × (home' ≡ some (Some b)) × (history b ≡ r.log) × (faults b ≡ r.count) × follows (start about) b)
      → TakesTurns history faults start follows about record { words = words'; homes = homes'; views = set s.views id (record v { turn = t' }) }
  with_turn s r id v t' ticket' home' words' homes' at lives words slot more counted few turn fresh home =
      let w : View E = record v { turn = t' } in
      let f = r.fits id v at lives in
      let long : length (set s.views id w) ≡ length s.views = length-set s.views id w in
      record {
        log = r.log;
        count = r.count;
        ticket = ticket';
        serving = r.serving;
        bells = r.bells;
        home = home';
        words = words;
        slot = slot;
        few = omega (arith, r.few);
        fits = λ j u at' live. each_set (λ (k : ℕ) (x : View E). 0 < x.passes → FitsPass (history about) (faults about) (start about) r.log r.count ticket' r.serving k x) s.views id w
            (λ _. record { numbered = f.numbered; began = f.began; began_faults = f.began_faults; began_start = f.began_start; from_first = f.from_first; has_seen = f.has_seen; no_more = f.no_more; own = f.own; none_past = f.none_past; few_turns = few; few_joined = f.few_joined; in_turn = turn; counts = f.counts; only_zero = f.only_zero })
            (λ k x ne at'' live'. let g = r.fits k x at'' live' in record { numbered = g.numbered; began = g.began; began_faults = g.began_faults; began_start = g.began_start; from_first = g.from_first; has_seen = g.has_seen; no_more = g.no_more; own = g.own; none_past = g.none_past; few_turns = g.few_turns; few_joined = g.few_joined; in_turn = in_turn_more r.log r.count r.ticket ticket' r.serving x.turn more g.in_turn; counts = g.counts; only_zero = g.only_zero }) j u at' live;
        joined_is_spent = λ j u at' none. each_set (λ (k : ℕ) (x : View E). x.passes ≡ 0 → x ≡ spent) s.views id w (λ z. let z' : v.passes ≡ 0 = z in absurd (omega arith)) (λ k x ne at'' z. r.joined_is_spent k x at'' z) j u at' none;
        zero_fits = λ u at'. each_set (λ (k : ℕ) (x : View E). k ≡ 0 → FitsZero r.log (set s.views id w) x) s.views id w
            (λ z. let q = r.zero_fits v (subst (λ (k : ℕ). get_elem? s.views k ≡ some v) z at) in record {
              lives = q.lives;
              split_off = q.split_off ∙ sym long;
              saw_both = q.saw_both;
              counted_both = q.counted_both;
              are_spent = λ k d lt. still_spent s.views id v w _ at lives (q.are_spent k d lt);
              keeps_made = λ k x at'' none. each_set (λ (k : ℕ) (x : View E). x.passes ≡ 0 → (made_by k (past v.first v.seen) ≡ joined_made k v.joined) × (made_by k (past v.seen r.log) ≡ [])) s.views id w (λ z. let z' : v.passes ≡ 0 = z in absurd (omega arith)) (λ i y ne at3 n. q.keeps_made i y at3 n) k x at'' none;
              keeps_others = λ k le. q.keeps_others k (omega arith);
            })
            (λ i y ne at2 z. let q = r.zero_fits y (subst (λ (k : ℕ). get_elem? s.views k ≡ some y) z at2) in record {
              lives = q.lives;
              split_off = q.split_off ∙ sym long;
              saw_both = q.saw_both;
              counted_both = q.counted_both;
              are_spent = λ k d lt. still_spent s.views id v w _ at lives (q.are_spent k d lt);
              keeps_made = λ k x at'' none. each_set (λ (k : ℕ) (x : View E). x.passes ≡ 0 → (made_by k (past y.first y.seen) ≡ joined_made k y.joined) × (made_by k (past y.seen r.log) ≡ [])) s.views id w (λ z. let z' : v.passes ≡ 0 = z in absurd (omega arith)) (λ i y ne at3 n. q.keeps_made i y at3 n) k x at'' none;
              keeps_others = λ k le. q.keeps_others k (omega arith);
            }) 0 u at' refl;
        apart = λ i j u x t at_i at_j. each_two (λ k y l z. HasTicket y.turn t → HasTicket z.turn t → k ≡ l) s.views id w (λ _ _. refl)
            (λ k y ne at'' a b. absurd (fresh t a k y ne at'' b)) (λ k y ne at'' a b. absurd (fresh t b k y ne at'' a)) (λ k l y z _ _ at1 at2 a b. r.apart k l y z t at1 at2 a b) i j u x at_i at_j;
        later = λ i j u x at_i at_j. each_two (λ k y l z. 0 < y.passes → 0 < z.passes → length y.seen < length z.seen → y.seen_faults ≤ z.seen_faults) s.views id w (λ _ _ less. absurd (omega arith))
            (λ k y ne at'' a b less. r.later id k v y at at'' lives b less) (λ k y ne at'' a b less. r.later k id y v at'' at a lives less) (λ k l y z _ _ at1 at2 a b less. r.later k l y z at1 at2 a b less) i j u x at_i at_j;
        latest = let l = r.latest in dite (ℕ_discrete l.0 id)
            (λ here. let same = at_one s.views id v l.1 at (subst (λ (k : ℕ). get_elem? s.views k ≡ some l.1) here l.2) in
            (id, w, set_here s.views id w (at_below s.views id v at), lives, ap (λ (x : View E). x.seen) same ∙ l.4, ap (λ (x : View E). x.seen_faults) same ∙ l.5))
            (λ ne. (l.0, l.1, set_else s.views id l.0 w ne ∙ l.2, l.3, l.4, l.5));
        at_home = home;
        none_unmade = λ k le. r.none_unmade k (omega arith);
        all_passes_are = let e = sum_set (λ (x : View E). x.passes) s.views id v w at in omega (arith, e, r.all_passes_are);
        all_turns_are = let e = sum_set all_turns s.views id v w at in omega (arith, e, r.all_turns_are);
        all_tickets_are = let e = sum_set (λ (x : View E). tickets x.turn) s.views id v w at in omega (arith, e, r.all_tickets_are);
        all_faults_are = let e = sum_set all_faults s.views id v w at in omega (arith, e, r.all_faults_are);
      }
