-- Passes that are split off and joined, one after another.
use Rattle.std.proofs.Common.{◌≡◌, ℕ, zero, suc, ◌+◌, List, [], ◌∷◌, ◌++◌, length, reverse, refl, sym, ap, ◌∙◌, length-append, arith}
use Rattle.std.specs.Prelude.{All}
use Rattle.std.proofs.lemmas.List.{reverse-append, reverse-reverse}
use Rattle.std.proofs.lemmas.List.Elements.{All-nil, All-cons, All-head, All-tail}
use Rattle.atomic_table.specs.Seated.{TableId}
use Rattle.turn_lock.specs.Passes.{PassView}
use Rattle.turn_lock.specs.Views.{opened, split_left, split_right, joined_view}
use Rattle.turn_lock.specs.declared.view.Start.{Start}
use Rattle.turn_lock.specs.declared.view.View.{View}
use Rattle.desk_service.specs.Passes.{fresh, passes_from, joined_all}

module _ {E : Type 0} where
  -- the last of them is joined first
  pub joined_all-last : (view : View E) (rest : List (PassView E)) (last : PassView E)
      → joined_all view (rest ++ last ∷ []) ≡ joined_all (joined_view view last.view) rest
  joined_all-last view [] last = refl
  joined_all-last view (pass ∷ rest) last =
      ap (λ (v : View E). joined_view v pass.view) (joined_all-last view rest last)

  pub passes_from-length : (lock : TableId) (known : View E) (number count : ℕ) → length (passes_from lock known number count) ≡ count
  passes_from-length lock known number zero = refl
  passes_from-length lock known number (suc count) =
      omega (
        arith,
        length-append (passes_from lock known (number + 1) count) (record { lock = lock; view = fresh known number } ∷ []),
        passes_from-length lock known (number + 1) count,
      )

  -- a split leaves what later passes have seen
  passes_from-left : (lock : TableId) (view : View E) (number count : ℕ)
      → passes_from lock (split_left view) number count ≡ passes_from lock view number count
  passes_from-left lock view number zero = refl
  passes_from-left lock view number (suc count) =
      ap (λ (rest : List (PassView E)). rest ++ record { lock = lock; view = fresh view number } ∷ [])
      (passes_from-left lock view (number + 1) count)

  -- one more is split off before the rest
  module _ (lock : TableId) (view : View E) (desks less : ℕ) (pass first : PassView E) (rest all : List (PassView E)) where
    pub split-one : suc less ≡ desks → pass.lock ≡ lock → pass.view ≡ split_left view → first.lock ≡ lock → first.view ≡ split_right view
        → rest ≡ passes_from pass.lock pass.view (pass.view.split + 1) less → all ≡ rest ++ first ∷ []
        → all ≡ passes_from lock view (view.split + 1) desks
    split-one more same left own right others is =
        let from_left : rest ≡ passes_from lock (split_left view) (view.split + 1 + 1) less =
        others ∙ (λ i. passes_from (same i) (left i) ((left i).split + 1) less)
        in
        let one : first ≡ record { lock = lock; view = fresh view (view.split + 1) } = λ i. record { lock = own i; view = right i } in
        is ∙ (λ i. (from_left ∙ passes_from-left lock view (view.split + 1 + 1) less) i ++ one i ∷ [])
        ∙ ap (passes_from lock view (view.split + 1)) more

-- of a list and one more each has what all of the list and the last have
pub All-last : {A : Type 0} (P : A → Type 0) (xs : List A) (x : A) → All P xs → P x → All P (xs ++ x ∷ [])
All-last P [] x all last = All-cons P x [] last (All-nil P)
All-last P (y ∷ ys) x all last =
    All-cons P y (ys ++ x ∷ []) (All-head P y ys all) (All-last P ys x (All-tail P y ys all) last)

pub All-front : {A : Type 0} (P : A → Type 0) (xs : List A) (x : A) → All P (xs ++ x ∷ []) → All P xs × P x
All-front P [] x all = (All-nil P, All-head P x [] all)
All-front P (y ∷ ys) x all =
    let rest = All-front P ys x (All-tail P y (ys ++ x ∷ []) all) in
    (All-cons P y ys (All-head P y (ys ++ x ∷ []) all) rest.0, rest.1)

-- two lists with one more at the end
same_last : {A : Type 0} (xs ys : List A) (x y : A) → xs ++ x ∷ [] ≡ ys ++ y ∷ [] → (xs ≡ ys) × (x ≡ y)
same_last xs ys x y same =
    let turned : x ∷ reverse xs ≡ y ∷ reverse ys = sym (reverse-append xs (x ∷ [])) ∙ ap reverse same ∙ reverse-append ys (y ∷ []) in
    let rest : reverse xs ≡ reverse ys = cc in
    (sym (reverse-reverse xs) ∙ ap reverse rest ∙ reverse-reverse ys, cc)

-- the last of passes from this number on, and the others
pub record Popped {E : Type 0} (lock : TableId) (known : View E) (number : ℕ) (rest : List (PassView E)) (pass : PassView E) : Type 0 where
  pub rest_is : rest ≡ passes_from lock known (number + 1) (length rest)
  pub pass_is : pass ≡ record { lock = lock; view = fresh known number }

pub popped : {E : Type 0} (lock : TableId) (known : View E) (number : ℕ) (all rest : List (PassView E)) (pass : PassView E)
    → all ≡ passes_from lock known number (length all) → all ≡ rest ++ pass ∷ [] → Popped lock known number rest pass
popped lock known number all rest pass from parts =
    let longer : length all ≡ suc (length rest) = omega (arith, ap length parts, length-append rest (pass ∷ [])) in
    let both = same_last rest (passes_from lock known (number + 1) (length rest)) pass (record { lock = lock; view = fresh known number })
    (sym parts ∙ from ∙ ap (passes_from lock known number) longer)
    in
    record { rest_is = both.0; pass_is = both.1 }

-- what is split off a pass that was just opened, and what it knows then
module _ {E : Type 0} where
  pub opened-passes : (lock other : TableId) (log : List (ℕ × E)) (faults count : ℕ) (noted : Start) (view : View E) (passes : List (PassView E)) → lock ≡ other
      → view ≡ opened log faults noted → passes ≡ passes_from other view (view.split + 1) count → passes ≡ passes_from lock (opened log faults noted) 1 count
  opened-passes lock other log faults count noted view passes same is are =
      are ∙ (λ i. passes_from (sym same i) (is i) ((is i).split + 1) count)

  pub opened-split : (log : List (ℕ × E)) (faults count : ℕ) (noted : Start) (view after : View E) → view ≡ opened log faults noted
      → after ≡ record view { split = view.split + count } → after ≡ record (opened log faults noted) { split = count }
  opened-split log faults count noted view after is split =
      let whole : 0 + count ≡ count = omega arith in
      split ∙ ap (λ (v : View E). record v { split = v.split + count }) is
      ∙ ap (λ (n : ℕ). record (opened log faults noted) { split = n }) whole
