-- What desks did, each found by its number.
use Rattle.std.proofs.Common.{◌≡◌, ℕ, ◌+◌, ◌<◌, ◌≤◌, List, [], ◌∷◌, length, map, refl, sym, ap, ◌∙◌, arith, eq-eqb, ne_eqb}
use mathlib.Core.Logic.{dite}
use native.Mathlib.Decide.{ℕ_discrete}
use Rattle.std.specs.Prelude.{All, Bool, true, Option, ◌==◌, if◌then◌else◌}
use Rattle.std.proofs.lemmas.List.Elements.{All-nil, All-cons, All-head, All-tail}
use Rattle.atomic_table.specs.Seated.{TableId}
use Rattle.turn_lock.specs.Passes.{PassView}
use Rattle.turn_lock.specs.declared.view.View.{View}
use Rattle.stock_model.specs.declared.deeds.Deed.{Deed}
use Rattle.shared_listener.specs.Steps.{comes, hangs}
use Rattle.shared_listener.specs.declared.step.Step.{Step}
use Rattle.desk_connections.specs.Visits.{Visit}
use Rattle.desk_service.specs.Desks.{Work, AreAttended, IsBegun}
use Rattle.desk_service.proofs.Gathering.{IsDown, numbers, made_in, count_in}

pub All-unmap : {A B : Type 0} (f : A → B) (Q : B → Type 0) (xs : List A) → All Q (map f xs) → All (λ x. Q (f x)) xs
All-unmap f Q [] all = All-nil (λ x. Q (f x))
All-unmap f Q (x ∷ xs) all =
    All-cons (λ y. Q (f y)) x xs (All-head Q (f x) (map f xs) all) (All-unmap f Q xs (All-tail Q (f x) (map f xs) all))

-- each of a list has what all of two lists have
pub All-two : {A : Type 0} (P Q : A → Type 0) (xs : List A) → All P xs → All Q xs → All (λ x. P x × Q x) xs
All-two P Q [] ps qs = All-nil (λ x. P x × Q x)
All-two P Q (x ∷ xs) ps qs =
    All-cons (λ y. P y × Q y) x xs (All-head P x xs ps, All-head Q x xs qs) (All-two P Q xs (All-tail P x xs ps) (All-tail Q x xs qs))

module _ {L P : Type 0} (left : P → Option (List ℕ)) (taken : P → ℕ) (written : P → Option (List ℕ)) (faults : P → ℕ) (ended : P → Bool) where
  abbrev pub attends : ℕ → Work L P → Type 0
  attends = λ desk work.
      IsBegun left taken written faults ended desk work.pass work.pass_then work.read work.read_then work.way work.way_then true

  pass_is : (n : ℕ) (work : Work L P) → attends n work → work.pass_then.view.number ≡ n
  pass_is n work did = ap (λ (v : View Deed). v.number) did.rest ∙ did.number

  way_is : (n : ℕ) (work : Work L P) → attends n work → work.way_then.view.number ≡ n
  way_is n work did = ap (λ (v : View (Step L P)). v.number) did.way_rest ∙ did.way_number

  module _ (number : ℕ) where
    pub passes_down : (works : List (Work L P)) → AreAttended attends number works
        → IsDown number (length works) (numbers (map (λ work. work.pass_then) works))
    passes_down [] all = tt
    passes_down (work ∷ works) all = (pass_is (number + length works) work all.0, passes_down works all.1)

    pub ways_down : (works : List (Work L P)) → AreAttended attends number works
        → IsDown number (length works) (numbers (map (λ work. work.way_then) works))
    ways_down [] all = tt
    ways_down (work ∷ works) all = (way_is (number + length works) work all.0, ways_down works all.1)

    pub passes_of_lock : (lock : TableId) (works : List (Work L P)) → AreAttended attends number works
        → All (λ work. work.pass.lock ≡ lock) works → All (λ pass. pass.lock ≡ lock) (map (λ work. work.pass_then) works)
    passes_of_lock lock [] all before = All-nil (λ (p : PassView Deed). p.lock ≡ lock)
    passes_of_lock lock (work ∷ works) all before =
        All-cons (λ (p : PassView Deed). p.lock ≡ lock) work.pass_then (map (λ (w : Work L P). w.pass_then) works)
        (all.0.same_lock ∙ All-head (λ (w : Work L P). w.pass.lock ≡ lock) work works before)
        (passes_of_lock lock works all.1 (All-tail (λ (w : Work L P). w.pass.lock ≡ lock) work works before))

    pub ways_of_lock : (lock : TableId) (works : List (Work L P)) → AreAttended attends number works
        → All (λ work. work.way.lock ≡ lock) works → All (λ way. way.lock ≡ lock) (map (λ work. work.way_then) works)
    ways_of_lock lock [] all before = All-nil (λ (p : PassView (Step L P)). p.lock ≡ lock)
    ways_of_lock lock (work ∷ works) all before =
        All-cons (λ (p : PassView (Step L P)). p.lock ≡ lock) work.way_then (map (λ (w : Work L P). w.way_then) works)
        (all.0.same_way_lock ∙ All-head (λ (w : Work L P). w.way.lock ≡ lock) work works before)
        (ways_of_lock lock works all.1 (All-tail (λ (w : Work L P). w.way.lock ≡ lock) work works before))

    -- the visits to the desk with this number
    abbrev pub visits_at : ℕ → (works : List (Work L P)) → AreAttended attends number works → List (Visit P)
    visits_at k [] all = []
    visits_at k (work ∷ works) all = if number + length works == k then all.0.served.visits else visits_at k works all.1

    pub comes_at : (k : ℕ) (works : List (Work L P)) (all : AreAttended attends number works)
        → comes (made_in k (map (λ work. work.way_then) works)) ≡ map (λ visit. visit.peer) (visits_at k works all)
    comes_at k [] all = refl
    comes_at k (work ∷ works) all =
        let is = way_is (number + length works) work all.0 in
        let rest = comes_at k works all.1 in
        dite (ℕ_discrete (number + length works) k)
        (λ same. rw (eq-eqb work.way_then.view.number k (is ∙ same)) (rw (eq-eqb (number + length works) k same) all.0.served.came))
        (λ other. rw (ne_eqb work.way_then.view.number k (λ same. other (sym is ∙ same))) (rw (ne_eqb (number + length works) k other) rest))

    pub hangs_at : (k : ℕ) (works : List (Work L P)) (all : AreAttended attends number works)
        → hangs (made_in k (map (λ work. work.way_then) works)) ≡ map (λ visit. visit.peer_then) (visits_at k works all)
    hangs_at k [] all = refl
    hangs_at k (work ∷ works) all =
        let is = way_is (number + length works) work all.0 in
        let rest = hangs_at k works all.1 in
        dite (ℕ_discrete (number + length works) k)
        (λ same. rw (eq-eqb work.way_then.view.number k (is ∙ same)) (rw (eq-eqb (number + length works) k same) all.0.served.went))
        (λ other. rw (ne_eqb work.way_then.view.number k (λ same. other (sym is ∙ same))) (rw (ne_eqb (number + length works) k other) rest))

    -- the desk with this number
    pub record At (Facts : Work L P → Type 0) (k : ℕ) (works : List (Work L P)) (all : AreAttended attends number works) : Type 0 where
      pub work : Work L P
      pub desk : ℕ
      pub desk_is : desk ≡ k
      pub did : attends desk work
      pub facts : Facts work
      pub visits_are : visits_at k works all ≡ did.served.visits
      pub made : made_in k (map (λ w. w.pass_then) works) ≡ work.pass_then.view.made
      pub way_made : made_in k (map (λ w. w.way_then) works) ≡ work.way_then.view.made
      pub count : count_in k (map (λ w. w.pass_then) works) ≡ work.pass_then.view.faults

    module _ (Facts : Work L P → Type 0) where
      pub at : (k : ℕ) (works : List (Work L P)) (all : AreAttended attends number works) → All Facts works → number ≤ k
          → k < number + length works → At Facts k works all
      at k [] all facts low high = absurd (omega arith)
      at k (work ∷ works) all facts low high =
          let n = number + length works in
          let is = pass_is n work all.0 in
          let is_way = way_is n work all.0 in
          dite (ℕ_discrete n k)
          (λ same. record {
            work = work;
            desk = n;
            desk_is = same;
            did = all.0;
            facts = All-head Facts work works facts;
            visits_are = rw (eq-eqb n k same) refl;
            made = rw (eq-eqb work.pass_then.view.number k (is ∙ same)) refl;
            way_made = rw (eq-eqb work.way_then.view.number k (is_way ∙ same)) refl;
            count = rw (eq-eqb work.pass_then.view.number k (is ∙ same)) refl;
          })
          (λ other.
          let r = at k works all.1 (All-tail Facts work works facts) low (omega (arith, high)) in
          record {
            work = r.work;
            desk = r.desk;
            desk_is = r.desk_is;
            did = r.did;
            facts = r.facts;
            visits_are = rw (ne_eqb n k other) r.visits_are;
            made = rw (ne_eqb work.pass_then.view.number k (λ same. other (sym is ∙ same))) r.made;
            way_made = rw (ne_eqb work.way_then.view.number k (λ same. other (sym is_way ∙ same))) r.way_made;
            count = rw (ne_eqb work.pass_then.view.number k (λ same. other (sym is ∙ same))) r.count;
          })
