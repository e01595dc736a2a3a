-- The movements up to a moment are the first ones of the posting line.
use Rattle.std.proofs.Common.{◌≡◌, ℕ, suc, Bool, true, false, cond, Option, Some, None, List, [], ◌∷◌, take, map, filter, refl, sym, ap, ◌∙◌, subst, arith}
use Rattle.std.proofs.lemmas.Bool.Decides.{nat_tests}
use Rattle.stock_nums.specs.declared.entry.Entry.{Entry}
use Rattle.stock_nums.specs.declared.entry.Row.{Row}
use Rattle.stock_nums.specs.declared.moment.Moment.{Moment}
use Rattle.stock_model.specs.declared.records.Record.{Record}
use Rattle.stock_nums.specs.Places.{is_later}
use Rattle.stock_model.specs.Reports.{is_until}
use Rattle.stock_model.specs.InOrder.{IsBefore}
use Rattle.stock_model.specs.PostingOrder.{posting_line}
use Rattle.stock_model.specs.Replay.{rows_of, replay}
use Rattle.stock_model.specs.Sums.{row_entry}
use Rattle.stock_model.proofs.Pairwise.{Precedes, Pairwise, Pairwise-from_AllPairs}
use Rattle.stock_laws.proofs.PostingLine.{IsInPostingOrder-posting_line}
use Rattle.stock_laws.proofs.CostedRows.{map-value_all}

-- where one fails the test, each later one does
abbrev pub FailsOn : {X : Type 0} → (X → Bool) → X → X → Type 0
FailsOn p a b = p a ≡ false → p b ≡ false

none_pass : {X : Type 0} (p : X → Bool) (x : X) (xs : List X) → p x ≡ false → Precedes (FailsOn p) x xs → filter p xs ≡ []
none_pass p x [] fails later = refl
none_pass p x (y ∷ ys) fails later =
    ap (λ (b : Bool). cond b (y ∷ filter p ys) (filter p ys)) (later.0 fails) ∙ none_pass p x ys fails later.1

-- then those that pass are the first ones
pub filter-front : {X : Type 0} (p : X → Bool) (xs : List X) → Pairwise (FailsOn p) xs → (k : ℕ) × (filter p xs ≡ take k xs)
filter-front p [] order = (0, refl)
filter-front p (x ∷ xs) order =
    let step : (b : Bool) → p x ≡ b → (k : ℕ) × (cond b (x ∷ filter p xs) (filter p xs) ≡ take k (x ∷ xs)) =
    λ b. elim b as (λ v. p x ≡ v → (k : ℕ) × (cond v (x ∷ filter p xs) (filter p xs) ≡ take k (x ∷ xs))) [
      | true ↦ λ is. let rest = filter-front p xs order.1 in (suc rest.0, ap (λ ys. x ∷ ys) rest.1)
      | false ↦ λ is. (0, none_pass p x xs is order.0)
    ] in
    step (p x) refl

Precedes-map : {X Y : Type 0} (f : X → Y) (R : Y → Y → Type 0) (S : X → X → Type 0) → ((a b : X) → R (f a) (f b) → S a b) → (x : X) (xs : List X) → Precedes R (f x) (map f xs) → Precedes S x xs
Precedes-map f R S to x [] h = tt
Precedes-map f R S to x (y ∷ ys) h = (to x y h.0, Precedes-map f R S to x ys h.1)

Pairwise-map : {X Y : Type 0} (f : X → Y) (R : Y → Y → Type 0) (S : X → X → Type 0) → ((a b : X) → R (f a) (f b) → S a b) → (xs : List X) → Pairwise R (map f xs) → Pairwise S xs
Pairwise-map f R S to [] h = tt
Pairwise-map f R S to (x ∷ xs) h = (Precedes-map f R S to x xs h.0, Pairwise-map f R S to xs h.1)

-- what comes after a later movement is later
is_later-IsBefore : (a b : Entry) (until : Moment) → IsBefore a b → is_later a.place.moment until ≡ true → is_later b.place.moment until ≡ true
is_later-IsBefore a b until before later = grind (arith, nat_tests)

not_until : (until : Option Moment) (a b : Row) → IsBefore a.entry b.entry → is_until until a ≡ false → is_until until b ≡ false
not_until None a b before fails = fails
not_until (Some until) a b before fails =
    let later : is_later a.entry.place.moment until ≡ true = grind arith in
    let after = is_later-IsBefore a.entry b.entry until before later in
    grind arith

-- so once a movement of a replay is later than a moment, all after it are
pub until-order : (journal : List Record) (until : Option Moment) → Pairwise (FailsOn (is_until until)) (replay journal)
unfolding replay
until-order journal until =
    let line = posting_line journal in
    let order = subst (λ (es : List Entry). Pairwise IsBefore es) (sym (map-value_all journal [] line)) (Pairwise-from_AllPairs IsBefore line (IsInPostingOrder-posting_line journal)) in
    Pairwise-map row_entry IsBefore (FailsOn (is_until until)) (not_until until) (rows_of journal line) order
