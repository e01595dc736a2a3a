-- What the rule says of a lock that is closed: one pass is left, and it has seen everything.
use Rattle.std.proofs.Common.{◌≡◌, ◌≢◌, ℕ, ◌+◌, ◌<◌, List, length, sym, ap, ◌∙◌, subst, arith, eq-eqb, ne_eqb}
use Rattle.std.specs.Prelude.{sum_by, Option, Some, None}
use mathlib.Core.Option.{some, some-injective}
use mathlib.Core.Option as maybe
use mathlib.Core.Logic.{dite}
use native.Mathlib.Decide.{ℕ_discrete, dec_le}
use lib.ListN.{get_elem?}
use Rattle.atomic_table.specs.Table.{State, Final, Seen}
use Rattle.turn_lock.specs.declared.view.Start.{Start}
use Rattle.turn_lock.specs.declared.view.View.{View}
use Rattle.turn_lock.specs.declared.view.Turn.TheVariants.{Rest}
use Rattle.turn_lock.specs.Histories.{BeginsWith, past, made_by}
use Rattle.turn_lock.specs.Views.{IsServed, all_faults, made_through}
use Rattle.turn_lock.specs.Rule.{TakesTurns}
use Rattle.turn_lock.proofs.Lists.{at_one, at_some, sum_of_one, sum_of_two}

module _ {B E : Type 0} (history : B → List (ℕ × E)) (faults : B → ℕ) (start : B → Start) (follows : Start → B → Type 0) (about : B) where
  -- the value that pass 0 is handed when it is the last
  pub record IsLast (v : View E) (b : B) : Type 0 where
    pub seen : history b ≡ v.seen
    pub counted : faults b ≡ v.seen_faults
    pub begins : BeginsWith v.seen v.first
    pub made : (k : ℕ) → made_by k (past v.first v.seen) ≡ made_through k v
    pub rose : v.first_faults + all_faults v ≡ v.seen_faults
    pub followed : follows v.start b

  closes_at : (s : State (Option B) (View E)) (r : TakesTurns history faults start follows about s) (v : View E) → get_elem? s.views 0 ≡ some v → 0 < v.passes → v.turn ≡ Rest → length v.joined ≡ v.split
      → (b : B) × (get_elem? s.homes 0 ≡ some (some (Some b))) × IsLast v b
  closes_at s r v at lives rests all_joined =
      let f = r.fits 0 v at lives in
      let q = r.zero_fits v at in
      let whole : v.passes ≡ length s.views = omega (arith, f.counts, q.split_off) in
      let spent_else : (j : ℕ) (u : View E) → j ≢ 0 → get_elem? s.views j ≡ some u → u.passes ≡ 0 = λ j u ne at_j. omega (arith, sum_of_two (λ (x : View E). x.passes) s.views j 0 u v ne at_j at, r.all_passes_are) in
      let book = r.at_home (λ j u at_j is. dite (ℕ_discrete j 0)
      (λ e. let same = at_one s.views 0 u v (subst (λ (k : ℕ). get_elem? s.views k ≡ some u) e at_j) at in subst IsServed (ap (λ (x : View E). x.turn) same ∙ rests) is)
      (λ ne. let same = r.joined_is_spent j u at_j (spent_else j u ne at_j) in subst IsServed (ap (λ (x : View E). x.turn) same) is)) in
      let b : B = book.0 in
      let l = r.latest in
      let last : (v.seen ≡ r.log) × (v.seen_faults ≡ r.count) = dite (ℕ_discrete l.0 0)
      (λ e. let same = at_one s.views 0 v l.1 at (subst (λ (k : ℕ). get_elem? s.views k ≡ some l.1) e l.2) in
      let is : v.seen ≡ r.log = ap (λ (x : View E). x.seen) same ∙ l.4 in let count : v.seen_faults ≡ r.count = ap (λ (x : View E). x.seen_faults) same ∙ l.5 in (is, count))
      (λ ne. let none = spent_else l.0 l.1 ne l.2 in let some_passes = l.3 in absurd (omega arith)) in
      let all_of : sum_by all_faults s.views ≡ all_faults v = sum_of_one all_faults s.views v at (λ j u ne at_j. ap all_faults (r.joined_is_spent j u at_j (spent_else j u ne at_j))) in (
        b,
        ap (λ (hs : List (maybe.Option (Option B))). get_elem? hs 0) r.slot ∙ ap some book.1,
        record {
          seen = book.2 ∙ sym last.0;
          counted = book.3 ∙ sym last.1;
          begins = subst (λ (z : List (ℕ × E)). BeginsWith v.seen z) (sym f.began) f.from_first;
          made = λ k. dite (ℕ_discrete k 0)
              (λ e. subst (λ (i : ℕ). made_by i (past v.first v.seen) ≡ made_through i v) (sym e) (rw (eq-eqb v.number 0 f.numbered) (ap (λ (z : List (ℕ × E)). made_by 0 (past z v.seen)) f.began ∙ f.own)))
              (λ ne. rw (ne_eqb v.number k (λ e. ne (sym e ∙ f.numbered))) (dite (dec_le (length s.views) k)
              (λ le. ap (made_by k) (λ i. past (f.began i) (last.0 i)) ∙ r.none_unmade k le ∙ sym (q.keeps_others k le))
              (λ lt. let u = at_some s.views k (omega arith) in (q.keeps_made k u.0 u.1 (spent_else k u.0 ne u.1)).0)));
          rose = let d = f.began_faults in let e = r.all_faults_are in let c = last.1 in omega arith;
          followed = subst (λ (z : Start). follows z b) (sym f.began_start) book.4;
        },
      )

  pub closes : (id : ℕ) (v : View E) (words : List ℕ) (slots : List (Option B)) → v.number ≡ 0 → 0 < v.passes → v.turn ≡ Rest → length v.joined ≡ v.split
      → Final (Seen (TakesTurns history faults start follows about) id v) words slots → (b : B) × (get_elem? slots 0 ≡ some (Some b)) × IsLast v b
  closes id v words slots is_zero lives rests all_joined final =
      let s = final.0 in let r = final.1.0 in let at = final.1.1 in
      let e : id ≡ 0 = sym (r.fits id v at lives).numbered ∙ is_zero in
      let it = closes_at s r v (subst (λ (k : ℕ). get_elem? s.views k ≡ some v) e at) lives rests all_joined in
      (it.0, final.4 0 (Some it.0) it.1, it.2)

-- two values in one place are one
pub one_value : {B : Type 0} (b c : B) (slots : List (Option B)) (found : Option B) → get_elem? slots 0 ≡ some (Some b) → get_elem? slots 0 ≡ some found → found ≡ Some c → b ≡ c
one_value b c slots found e f is = let same : Some b ≡ Some c = some-injective (Some b) found (sym e ∙ f) ∙ is in cc

-- a slot that has a value is not empty
pub some_value : {B : Type 0} (b : B) (slots : List (Option B)) (found : Option B) → get_elem? slots 0 ≡ some (Some b) → get_elem? slots 0 ≡ some found → ¬ (found ≡ None)
some_value b slots found e f is = let same : Some b ≡ None = some-injective (Some b) found (sym e ∙ f) ∙ is in cc

-- what is said of a closed lock, of the pass and of the value as contracts see them
pub record IsClosed {B E : Type 0} (history : B → List (ℕ × E)) (faults : B → ℕ) (follows : Start → B → Type 0) (v : View E) (b : B) : Type 0 where
  pub seen : history b ≡ v.seen
  pub counted : faults b ≡ v.seen_faults
  pub begins : BeginsWith (history b) v.first
  pub made : (k : ℕ) → made_by k (past v.first (history b)) ≡ made_through k v
  pub rose : v.first_faults + all_faults v ≡ faults b
  pub followed : follows v.start b

pub closed : {B E : Type 0} (history : B → List (ℕ × E)) (faults : B → ℕ) (start : B → Start) (follows : Start → B → Type 0) (about : B) (v w : View E) (b c : B) → v ≡ w → b ≡ c → IsLast history faults start follows about v b → IsClosed history faults follows w c
closed {B} {E} history faults start follows about v w b c same_view same last = subst (λ (x : View E × B). IsClosed history faults follows x.0 x.1) (λ i. (same_view i, same i)) record {
  seen = last.seen;
  counted = last.counted;
  begins = subst (λ (z : List (ℕ × E)). BeginsWith z v.first) (sym last.seen) last.begins;
  made = λ k. ap (λ (z : List (ℕ × E)). made_by k (past v.first z)) last.seen ∙ last.made k;
  rose = last.rose ∙ sym last.counted;
  followed = last.followed;
}
