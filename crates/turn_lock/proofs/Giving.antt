-- The rule stays where a served pass ends its turn.
use Rattle.std.proofs.Common.{◌≡◌, ◌≢◌, ℕ, ◌+◌, ◌<◌, ◌≤◌, List, [], ◌∷◌, ◌++◌, length, set, sym, refl, ap, ◌∙◌, subst, arith, length-set, length-append}
use Rattle.std.specs.Prelude.{slice_index_or, Option, Some}
use mathlib.Core.Option.{some}
use mathlib.Core.Option as maybe
use lib.ListN.{get_elem?}
use Rattle.atomic_table.specs.Table.{State}
use Rattle.atomic_table.proofs.Lists.{set_here}
use Rattle.turn_lock.specs.declared.view.Start.{Start}
use Rattle.turn_lock.specs.declared.view.View.{View}
use Rattle.turn_lock.specs.declared.view.Joined.{Joined}
use Rattle.turn_lock.specs.declared.view.Turn.{Turn}
use Rattle.turn_lock.specs.declared.view.Turn.TheVariants.{Rest, Drawn, Served}
use Rattle.turn_lock.specs.Histories.{BeginsWith, past, made_by}
use Rattle.turn_lock.specs.Views.{HasTicket, tickets, all_turns, all_faults, joined_made, spent}
use Rattle.turn_lock.specs.Rule.{InTurn, FitsPass, FitsZero, TakesTurns}
use Rattle.turn_lock.proofs.Lists.{at_below, sum_set, begins_through, begins_self, begins_no_longer, past_self, made_through_two, none_of_others, none_in_two, made_in_first}
use Rattle.turn_lock.proofs.Turning.{each_set, each_two, still_spent}

module _ {E : Type 0} where
  -- a pass whose ticket is not the one that was served stands as before
  in_turn_raised : (log log' : List (ℕ × E)) (count count' ticket serving : ℕ) (turn : Turn E) → ¬ HasTicket turn serving → InTurn log count ticket serving turn → InTurn log' count' ticket (serving + 1) turn
  in_turn_raised log log' count count' ticket serving Rest other h = tt
  in_turn_raised log log' count count' ticket serving (Drawn t) other h = let ne : t ≢ serving = other in (omega arith, h.1)
  in_turn_raised log log' count count' ticket serving (Served t l c) other h = absurd (other h.0)

module _ {B E : Type 0} (history : B → List (ℕ × E)) (faults : B → ℕ) (start : B → Start) (follows : Start → B → Type 0) (about : B) where
  pub with_give : (s : State (Option B) (View E)) (r : TakesTurns history faults start follows about s) (id : ℕ) (v : View E) (b : B) (more : List (ℕ × E)) (stop rise : ℕ) (words' : List ℕ) (homes' : List (maybe.Option (Option B)))
      → get_elem? s.views id ≡ some v → 0 < v.passes → HasTicket v.turn r.serving → tickets v.turn ≡ 1
      → words' ≡ r.ticket ∷ (r.serving + 1) ∷ r.bells → homes' ≡ some (Some b) ∷ []
      → BeginsWith (history b) r.log → more ≡ past r.log (history b) → made_by id more ≡ more → rise + r.count ≡ faults b → follows (start about) b
      → TakesTurns history faults start follows about record { words = words'; homes = homes'; views = set s.views id (record v { seen = history b; seen_faults = faults b; made = v.made ++ more; stops = v.stops ++ stop ∷ []; faults = v.faults + rise; turn = Rest }) }
  with_give s r id v b more stop rise words' homes' at lives has one words slot grown is_more own_more rises kept =
      let new : List (ℕ × E) = history b in
      let w : View E = record v { seen = new; seen_faults = faults b; made = v.made ++ more; stops = v.stops ++ stop ∷ []; faults = v.faults + rise; turn = Rest } in
      let first : List (ℕ × E) = history about in
      let f = r.fits id v at lives in
      let long : length (set s.views id w) ≡ length s.views = length-set s.views id w in
      let near : id < length s.views = at_below s.views id v at in
      let first_log : BeginsWith r.log first = begins_through first v.seen r.log f.from_first f.has_seen in
      let first_new : BeginsWith new first = begins_through first r.log new first_log grown in
      let seen_new : BeginsWith new v.seen = begins_through v.seen r.log new f.has_seen grown in
      let mine : made_by id (past r.log new) ≡ more = ap (made_by id) (sym is_more) ∙ own_more in
      let others : (k : ℕ) → k ≢ id → made_by k (past r.log new) ≡ [] = λ k ne. none_of_others k id (past r.log new) ne (mine ∙ is_more) in
      let longer : length (v.stops ++ stop ∷ []) ≡ length v.stops + 1 = length-append v.stops (stop ∷ []) in
      record {
        log = new;
        count = faults b;
        ticket = r.ticket;
        serving = r.serving + 1;
        bells = r.bells;
        home = some (Some b);
        words = words;
        slot = slot;
        few = omega (arith, r.few);
        fits = λ j u at' live. each_set (λ (k : ℕ) (x : View E). 0 < x.passes → FitsPass first (faults about) (start about) new (faults b) r.ticket (r.serving + 1) k x) s.views id w
            (λ _. record {
              numbered = f.numbered;
              began = f.began;
              began_faults = f.began_faults;
              began_start = f.began_start;
              from_first = first_new;
              has_seen = begins_self new;
              no_more = omega arith;
              own = made_through_two id first v.seen new f.from_first seen_new ∙ (λ i. f.own i ++ (made_through_two id v.seen r.log new f.has_seen grown ∙ (λ k. f.none_past k ++ mine k)) i);
              none_past = ap (made_by id) (past_self new);
              few_turns = omega (arith, f.few_turns);
              few_joined = f.few_joined;
              in_turn = tt;
              counts = f.counts;
              only_zero = f.only_zero;
            })
            (λ k x ne at'' live'. let g = r.fits k x at'' live' in record {
              numbered = g.numbered;
              began = g.began;
              began_faults = g.began_faults;
              began_start = g.began_start;
              from_first = g.from_first;
              has_seen = begins_through x.seen r.log new g.has_seen grown;
              no_more = omega (arith, g.no_more);
              own = g.own;
              none_past = none_in_two k x.seen r.log new g.has_seen grown g.none_past (others k ne);
              few_turns = g.few_turns;
              few_joined = g.few_joined;
              in_turn = in_turn_raised r.log new r.count (faults b) r.ticket r.serving x.turn (λ h. ne (r.apart k id x v r.serving at'' at h has)) g.in_turn;
              counts = g.counts;
              only_zero = g.only_zero;
            }) j u at' live;
        joined_is_spent = λ j u at' none. each_set (λ (k : ℕ) (x : View E). x.passes ≡ 0 → x ≡ spent) s.views id w (λ z. let z' : v.passes ≡ 0 = z in absurd (omega arith)) (λ k x ne at'' z. r.joined_is_spent k x at'' z) j u at' none;
        zero_fits = λ u at'. each_set (λ (k : ℕ) (x : View E). k ≡ 0 → FitsZero new (set s.views id w) x) s.views id w
            (λ z. let q = r.zero_fits v (subst (λ (k : ℕ). get_elem? s.views k ≡ some v) z at) in record {
              lives = q.lives;
              split_off = q.split_off ∙ sym long;
              saw_both = λ k d lt. let both = q.saw_both k d lt in let j : Joined E = slice_index_or v.joined k d in (begins_through j.kept_seen v.seen new both.0 seen_new, begins_through j.other_seen v.seen new both.1 seen_new);
              counted_both = λ k d lt. let both = q.counted_both k d lt in (omega (arith, both.0, f.no_more, rises), omega (arith, both.1, f.no_more, rises));
              are_spent = λ k d lt. still_spent s.views id v w _ at lives (q.are_spent k d lt);
              keeps_made = λ k x at'' none. each_set (λ (k : ℕ) (x : View E). x.passes ≡ 0 → (made_by k (past v.first new) ≡ joined_made k v.joined) × (made_by k (past new new) ≡ [])) s.views id w
                  (λ z. let z' : v.passes ≡ 0 = z in absurd (omega arith))
                  (λ i y ne at3 n. let old = q.keeps_made i y at3 n in (
                    made_in_first i v.first v.seen new (subst (λ (x : List (ℕ × E)). BeginsWith v.seen x) (sym f.began) f.from_first) seen_new (none_in_two i v.seen r.log new f.has_seen grown old.1 (others i ne)) ∙ old.0,
                    ap (made_by i) (past_self new),
                  )) k x at'' none;
              keeps_others = λ k le. q.keeps_others k (omega arith);
            })
            (λ i y ne at2 z. let at_zero = subst (λ (k : ℕ). get_elem? s.views k ≡ some y) z at2 in let q = r.zero_fits y at_zero in let g = r.fits 0 y at_zero q.lives in record {
              lives = q.lives;
              split_off = q.split_off ∙ sym long;
              saw_both = q.saw_both;
              counted_both = q.counted_both;
              are_spent = λ k d lt. still_spent s.views id v w _ at lives (q.are_spent k d lt);
              keeps_made = λ k x at'' none. each_set (λ (k : ℕ) (x : View E). x.passes ≡ 0 → (made_by k (past y.first y.seen) ≡ joined_made k y.joined) × (made_by k (past y.seen new) ≡ [])) s.views id w
                  (λ z. let z' : v.passes ≡ 0 = z in absurd (omega arith))
                  (λ i x ne at3 n. let old = q.keeps_made i x at3 n in (old.0, none_in_two i y.seen r.log new g.has_seen grown old.1 (others i ne))) k x at'' none;
              keeps_others = λ k le. q.keeps_others k (omega arith);
            }) 0 u at' refl;
        apart = λ i j u x t at_i at_j. each_two (λ k y l z. HasTicket y.turn t → HasTicket z.turn t → k ≡ l) s.views id w (λ _ _. refl)
            (λ k y ne at'' a b. absurd a) (λ k y ne at'' a b. absurd b) (λ k l y z _ _ at1 at2 a b. r.apart k l y z t at1 at2 a b) i j u x at_i at_j;
        later = λ i j u x at_i at_j. each_two (λ k y l z. 0 < y.passes → 0 < z.passes → length y.seen < length z.seen → y.seen_faults ≤ z.seen_faults) s.views id w (λ _ _ less. absurd (omega arith))
            (λ k y ne at'' a b less. let g = r.fits k y at'' b in let short = begins_no_longer new y.seen (begins_through y.seen r.log new g.has_seen grown) in absurd (omega arith))
            (λ k y ne at'' a b less. let g = r.fits k y at'' a in omega (arith, g.no_more)) (λ k l y z _ _ at1 at2 a b less. r.later k l y z at1 at2 a b less) i j u x at_i at_j;
        latest = (id, w, set_here s.views id w near, lives, refl, refl);
        at_home = λ _. (b, refl, refl, refl, kept);
        none_unmade = λ k le. none_in_two k first r.log new first_log grown (r.none_unmade k (omega arith)) (others k (λ e. omega arith));
        all_passes_are = let e = sum_set (λ (x : View E). x.passes) s.views id v w at in omega (arith, e, r.all_passes_are);
        all_turns_are = let e = sum_set all_turns s.views id v w at in omega (arith, e, r.all_turns_are);
        all_tickets_are = let e = sum_set (λ (x : View E). tickets x.turn) s.views id v w at in omega (arith, e, r.all_tickets_are);
        all_faults_are = let e = sum_set all_faults s.views id v w at in omega (arith, e, r.all_faults_are);
      }
