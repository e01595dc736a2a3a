-- How many turns there are: after each turn one more movement of the line is passed.
use Rattle.std.proofs.Common.{mul-le-mul, ◌≡◌, ◌≢◌, ℕ, ◌+◌, ◌*◌, ◌≤◌, Bool, true, false, cond, not, List, [], ◌∷◌, length, filter, Option, Some, None, inl, inr, refl, sym, ap, ◌∙◌, arith, Contains, ◌⊎◌}
use Rattle.std.proofs.lemmas.Bool.{false≢true}
use Rattle.stock_nums.specs.Places.{is_before}
use Rattle.stock_nums.specs.declared.cause.Target.{Target}
use Rattle.stock_nums.specs.declared.entry.Entry.{Entry}
use Rattle.stock_nums.specs.declared.place.Place.{Place}
use Rattle.stock_nums.proofs.PlaceOrder.{is_before-irreflexive, is_before-transitive, is_before-total}
use Rattle.stock_model.proofs.Pairwise.{Contains-cases}
use Rattle.repost_laws.specs.Builds.{Suspects, IsClean, IsTurn, is_ahead, AreAhead, is_passed, passed, AreFew}
use Rattle.repost_laws.specs.Touched.{IsMarked}
use Rattle.repost_laws.specs.Valuations.{Valued, Found, valuation}
use Rattle.repost_laws.proofs.Spreading.{spread-before}

-- what is marked lies later
pub marked-before : (line : List Entry) (found : Found) (place : Place) (now : Valued) (f : Entry)
    → IsMarked line found place now f
    → is_before place f.place ≡ true
marked-before line found place now f (inl (starts, changed)) = spread-before line place f (inl starts)
marked-before line found place now f (inr (takes, changed)) = spread-before line place f (inr takes)

-- a place that is not before another and is not that one comes after it
after-from : (p q : Place) → is_before p q ≡ false → p ≢ q → is_before q p ≡ true
after-from p q not_before other =
    elim (is_before-total p q) [
      | inl before ↦ absurd (false≢true (sym not_before ∙ before))
      | inr h ↦ elim h [
        | inl after ↦ after
        | inr same ↦ absurd (other same)
      ]
    ]

pub AreAhead-turn : (charged : Target → ℕ) (line : List Entry) (found : Found) (suspects : Suspects) (e : Entry)
    (new_found : Found) (new_suspects : Suspects)
    → IsTurn charged line found suspects e new_found new_suspects → AreAhead line new_suspects (Some e.place)
AreAhead-turn charged line found suspects e new_found new_suspects turn f held suspect =
    elim ((turn.marked f held).0 suspect) [
      | inl old ↦ after-from f.place e.place (turn.first.first f held old.0) old.1
      | inr marked ↦ marked-before line found e.place (valuation charged found line e) f marked
    ]

module _ {X : Type 0} (p q : X → Bool) where
  -- no fewer pass a weaker test
  length-weaker : ((x : X) → p x ≡ true → q x ≡ true) → (xs : List X) → length (filter p xs) ≤ length (filter q xs)
  length-weaker weaker [] = omega arith
  length-weaker weaker (x ∷ xs) = by_cases (p x) (q x) refl refl (length-weaker weaker xs)
    where
      by_cases : (b c : Bool) → p x ≡ b → q x ≡ c → length (filter p xs) ≤ length (filter q xs)
          → length (cond b (x ∷ filter p xs) (filter p xs)) ≤ length (cond c (x ∷ filter q xs) (filter q xs))
      by_cases true true is has rest = omega (arith, rest)
      by_cases true false is has rest = absurd (false≢true (sym has ∙ weaker x is))
      by_cases false true is has rest = omega (arith, rest)
      by_cases false false is has rest = rest

  -- and one more, where one passes it alone
  length-more : ((x : X) → p x ≡ true → q x ≡ true) → (xs : List X) (x : X) → Contains xs x → p x ≡ false → q x ≡ true
      → length (filter p xs) + 1 ≤ length (filter q xs)
  length-more weaker [] x held fails passes = absurd (omega (arith, held.1))
  length-more weaker (y ∷ xs) x held fails passes =
      by_cases (p y) (q y) refl refl (length-weaker weaker xs) (λ later. length-more weaker xs x later fails passes)
      (Contains-cases y xs x held)
    where
      by_cases : (b c : Bool) → p y ≡ b → q y ≡ c → length (filter p xs) ≤ length (filter q xs)
          → (Contains xs x → length (filter p xs) + 1 ≤ length (filter q xs)) → (y ≡ x) ⊎ Contains xs x
          → length (cond b (y ∷ filter p xs) (filter p xs)) + 1 ≤ length (cond c (y ∷ filter q xs) (filter q xs))
      by_cases true c is has all rest (inl same) = absurd (false≢true (sym fails ∙ ap p (sym same) ∙ is))
      by_cases false true is has all rest (inl same) = omega (arith, all)
      by_cases false false is has all rest (inl same) = absurd (false≢true (sym has ∙ ap q same ∙ passes))
      by_cases true true is has all rest (inr later) = omega (arith, rest later)
      by_cases true false is has all rest (inr later) = absurd (false≢true (sym has ∙ weaker y is))
      by_cases false true is has all rest (inr later) = omega (arith, rest later)
      by_cases false false is has all rest (inr later) = rest later

length-filter-le : {X : Type 0} (p : X → Bool) (xs : List X) → length (filter p xs) ≤ length xs
length-filter-le p [] = omega arith
length-filter-le p (x ∷ xs) =
    elim (p x) as (λ b. length (cond b (x ∷ filter p xs) (filter p xs)) ≤ length (x ∷ xs)) [
      | true ↦ omega (arith, length-filter-le p xs)
      | false ↦ omega (arith, length-filter-le p xs)
    ]

-- what was passed before the movement is passed with it
passed-stays : (last : Option Place) (place : Place) (f : Entry) → is_ahead last place ≡ true → is_passed last f ≡ true
    → is_passed (Some place) f ≡ true
passed-stays None place f ahead passes = absurd (false≢true passes)
passed-stays (Some before) place f ahead passes = by_cases (is_before place f.place) refl
  where
    by_cases : (b : Bool) → is_before place f.place ≡ b → not b ≡ true
    by_cases false is = refl
    by_cases true is = absurd (false≢true (sym (ap not (is_before-transitive before place f.place ahead is)) ∙ passes))

-- a turn passes one more
passed-more : (line : List Entry) (last : Option Place) (e : Entry) → Contains line e → is_ahead last e.place ≡ true
    → passed line last + 1 ≤ passed line (Some e.place)
passed-more line last e held ahead =
    length-more (is_passed last) (is_passed (Some e.place)) (λ f passes. passed-stays last e.place f ahead passes) line e held
    (ap not ahead) (ap not (is_before-irreflexive e.place))

-- the counts of one turn
counted : (most turns entries was is long : ℕ) → turns + entries ≤ most + was → was + 1 ≤ is → is ≤ long → long ≤ entries
    → (turns + 1 ≤ most) × ((turns + 1) + entries ≤ most + is)
counted most turns entries was is long before more within fits = (omega arith, omega arith)

pub AreFew-turn : (charged : Target → ℕ) (line : List Entry) (found : Found) (suspects : Suspects) (e : Entry)
    (new_found : Found) (new_suspects : Suspects) (last : Option Place) (entries fetches turns : ℕ)
    → IsTurn charged line found suspects e new_found new_suspects → AreAhead line suspects last
    → AreFew line suspects last entries fetches turns
    → AreFew line new_suspects (Some e.place) entries fetches (turns + 1)
AreFew-turn charged line found suspects e new_found new_suspects last entries fetches turns turn ahead few =
    let counts = counted (fetches * (entries + 1)) turns entries (passed line last) (passed line (Some e.place)) (length line)
    (few.since e turn.first.held turn.suspect)
    (passed-more line last e turn.first.held (ahead e turn.first.held turn.suspect))
    (length-filter-le (is_passed (Some e.place)) line) few.fits in
    record { fits = few.fits; bound = counts.0; since = λ f held suspect. counts.1 }

pub AreFew-start : (line : List Entry) (suspects : Suspects) (last : Option Place) (entries : ℕ) → length line ≤ entries
    → IsClean line suspects → AreFew line suspects last entries 0 0
AreFew-start line suspects last entries fits clean =
    record { fits = fits; bound = omega arith; since = λ e held suspect. absurd (false≢true (sym (clean e held) ∙ suspect)) }

-- the counts of one fetch
fetched : (turns fetches entries more was : ℕ) → turns ≤ fetches * (entries + 1) → entries ≤ more
    → (turns + 1 ≤ (fetches + 1) * (more + 1)) × ((turns + 1) + more ≤ (fetches + 1) * (more + 1) + was)
fetched turns fetches entries more was bound grown =
    let wider : fetches * (entries + 1) ≤ fetches * (more + 1) = mul-le-mul (omega arith) (omega arith) in
    let parts : (fetches + 1) * (more + 1) ≡ fetches * (more + 1) + (more + 1) = omega arith in
    (omega (arith, wider, parts), omega (arith, wider, parts))

pub AreFew-fetch : (line new_line : List Entry) (suspects new_suspects : Suspects) (last : Option Place)
    (entries new_entries fetches turns : ℕ) → entries ≤ new_entries → length new_line ≤ new_entries
    → AreFew line suspects last entries fetches turns → AreFew new_line new_suspects None new_entries (fetches + 1) (turns + 1)
AreFew-fetch line new_line suspects new_suspects last entries new_entries fetches turns grown fits few =
    let counts = fetched turns fetches entries new_entries (passed new_line None) few.bound grown in
    record { fits = fits; bound = counts.0; since = λ f held suspect. counts.1 }
