-- What stands at a spot of worths, also once another is put in.
use Rattle.std.proofs.Common.{◌≡◌, Bool, true, false, cond, List, [], ◌∷◌, fold, Some, None, inl, inr, refl, sym, ap, ◌∙◌, subst, arith}
use Rattle.std.specs.List.{find}
use Rattle.std.specs.Option.{option_map}
use Rattle.std.proofs.lemmas.Bool.{false≢true}
use Rattle.std.proofs.lemmas.Bool.Decides.{nat_tests}
use Rattle.stock_nums.specs.declared.place.Spot.{Spot}
use Rattle.stock_model.proofs.Pairwise.{Precedes, Pairwise, Each, Each-weaker, Each-from_Precedes, AllPairs-from_Pairwise}
use Rattle.stock_keeper.specs.Worths.{is_spot_before, is_same_spot, IsBefore, AreInOrder, put}
use Rattle.stock_keeper.specs.declared.changes.SpotWorth.{SpotWorth}
use Rattle.stock_keeper.proofs.Putting.{AreInOrder-put}
use Rattle.stock_keeper.proofs.SpotOrder.{irreflexive, transitive, total, same-from_test, same-from_neither, neither-from_test}
use Rattle.kept_tables.specs.Differences.{worth_in, is_at, worth_at}

-- what cannot be true is false
pub fails : (b : Bool) → (b ≡ true → ⊥) → b ≡ false
fails true never = absurd (never refl)
fails false never = refl

-- a spot is the same as itself
pub test-refl : (a : Spot) → is_same_spot a a ≡ true
test-refl a = grind (arith, nat_tests)

-- a spot that comes before another is not that one
other-from_after : (a b : Spot) → is_spot_before a b ≡ true → is_same_spot b a ≡ false
other-from_after a b before = fails (is_same_spot b a) (λ same. false≢true (sym (neither-from_test b a same).1 ∙ before))

-- nor are both of them a third
never_both : (a b s : Spot) → is_spot_before a b ≡ true → is_same_spot a s ≡ true → is_same_spot b s ≡ true → ⊥
never_both a b s before first second =
    let same : a ≡ b = same-from_test a s first ∙ sym (same-from_test b s second) in
    false≢true (sym (irreflexive b) ∙ subst (λ (t : Spot). is_spot_before t b ≡ true) same before)

-- what stands at a spot where one more stands in front
pub worth_at-cons : (w : SpotWorth) (ws : List SpotWorth) (s : Spot)
    → worth_at (w ∷ ws) s ≡ cond (is_same_spot w.spot s) (Some w.worth) (worth_at ws s)
worth_at-cons w ws s =
    elim (is_same_spot w.spot s) as (λ b. option_map worth_in (cond b (Some w) (find (is_at s) ws))
    ≡ cond b (Some w.worth) (worth_at ws s)) [
      | true ↦ refl
      | false ↦ refl
    ]

pub worth_at-first : (w : SpotWorth) (ws : List SpotWorth) → worth_at (w ∷ ws) w.spot ≡ Some w.worth
worth_at-first w ws = worth_at-cons w ws w.spot ∙ ap (λ (b : Bool). cond b (Some w.worth) (worth_at ws w.spot)) (test-refl w.spot)

pub worth_at-other : (w : SpotWorth) (ws : List SpotWorth) (s : Spot) → is_same_spot w.spot s ≡ false
    → worth_at (w ∷ ws) s ≡ worth_at ws s
worth_at-other w ws s other = worth_at-cons w ws s ∙ ap (λ (b : Bool). cond b (Some w.worth) (worth_at ws s)) other

-- the worth stands behind the spot
abbrev pub IsBehind : Spot → SpotWorth → Type 0
IsBehind s w = is_spot_before s w.spot ≡ true

-- where all stand behind a spot, none stands there
pub worth_at-none : (s : Spot) (ws : List SpotWorth) → Each (IsBehind s) ws → worth_at ws s ≡ None
worth_at-none s [] behind = refl
worth_at-none s (w ∷ ws) behind = worth_at-other w ws s (other-from_after s w.spot behind.0) ∙ worth_at-none s ws behind.1

-- what stands behind a spot stands behind each earlier one
pub behind-before : (s t : Spot) (ws : List SpotWorth) → is_spot_before s t ≡ true → Each (IsBehind t) ws
    → Each (IsBehind s) ws
behind-before s t ws before behind = Each-weaker (IsBehind t) (IsBehind s) (λ w next. transitive s t w.spot before next) ws behind

-- in order, all after the first stand behind it
pub behind-first : (w : SpotWorth) (ws : List SpotWorth) → Precedes IsBefore w ws → Each (IsBehind w.spot) ws
behind-first w ws order = Each-from_Precedes IsBefore w ws order

-- and so the first and all after it stand behind what comes before the first
pub all_behind : (s : Spot) (w : SpotWorth) (ws : List SpotWorth) → is_spot_before s w.spot ≡ true
    → Precedes IsBefore w ws → Each (IsBehind s) (w ∷ ws)
all_behind s w ws before order = (before, behind-before s w.spot ws before (behind-first w ws order))

cond-swap : {X : Type 0} (p q : Bool) (x y z : X) → (p ≡ true → q ≡ true → ⊥) → cond p x (cond q y z) ≡ cond q y (cond p x z)
cond-swap true true x y z never = absurd (never refl refl)
cond-swap true false x y z never = refl
cond-swap false q x y z never = refl

cond-again : {X : Type 0} (p : Bool) (x y z : X) → cond p x (cond p y z) ≡ cond p x z
cond-again true x y z = refl
cond-again false x y z = refl

-- what is put in stands at its spot, and at others what stood there
pub worth_at-put : (ws : List SpotWorth) (w : SpotWorth) (s : Spot)
    → worth_at (put ws w) s ≡ cond (is_same_spot w.spot s) (Some w.worth) (worth_at ws s)
worth_at-put [] w s = worth_at-cons w [] s
worth_at-put (v ∷ vs) w s = by_first (is_spot_before v.spot w.spot) refl (worth_at-put vs w s)
  where
    by_second : (b : Bool) → is_spot_before w.spot v.spot ≡ b → is_spot_before v.spot w.spot ≡ false
        → worth_at (cond b (w ∷ v ∷ vs) (w ∷ vs)) s ≡ cond (is_same_spot w.spot s) (Some w.worth) (worth_at (v ∷ vs) s)
    by_second true is not_before = worth_at-cons w (v ∷ vs) s
    by_second false is not_before =
        let one : v.spot ≡ w.spot = same-from_neither v.spot w.spot not_before is in
        worth_at-cons w vs s
        ∙ sym (cond-again (is_same_spot w.spot s) (Some w.worth) (Some v.worth) (worth_at vs s))
        ∙ ap (λ (t : Spot). cond (is_same_spot w.spot s) (Some w.worth) (cond (is_same_spot t s) (Some v.worth) (worth_at vs s)))
        (sym one)
        ∙ ap (cond (is_same_spot w.spot s) (Some w.worth)) (sym (worth_at-cons v vs s))

    by_first : (b : Bool) → is_spot_before v.spot w.spot ≡ b
        → worth_at (put vs w) s ≡ cond (is_same_spot w.spot s) (Some w.worth) (worth_at vs s)
        → worth_at (cond b (v ∷ put vs w) (cond (is_spot_before w.spot v.spot) (w ∷ v ∷ vs) (w ∷ vs))) s
        ≡ cond (is_same_spot w.spot s) (Some w.worth) (worth_at (v ∷ vs) s)
    by_first true is rest =
        worth_at-cons v (put vs w) s
        ∙ ap (cond (is_same_spot v.spot s) (Some v.worth)) rest
        ∙ cond-swap (is_same_spot v.spot s) (is_same_spot w.spot s) (Some v.worth) (Some w.worth) (worth_at vs s)
        (never_both v.spot w.spot s is)
        ∙ ap (cond (is_same_spot w.spot s) (Some w.worth)) (sym (worth_at-cons v vs s))
    by_first false is rest = by_second (is_spot_before w.spot v.spot) refl is

-- worths of one spot that are worth the same are one
pub one_worth : (x y : SpotWorth) → x.spot ≡ y.spot → x.worth ≡ y.worth → x ≡ y
one_worth x y spots worths = λ i. record { spot = spots i; worth = worths i }

-- after firsts of one spot, the same stands at each spot where the same stood with them
rest-same : (x y : SpotWorth) (xs ys : List SpotWorth) → Precedes IsBefore x xs → Precedes IsBefore y ys → x.spot ≡ y.spot
    → ((s : Spot) → worth_at (x ∷ xs) s ≡ worth_at (y ∷ ys) s) → (s : Spot) → worth_at xs s ≡ worth_at ys s
rest-same x y xs ys first second one same s = by_test (is_same_spot x.spot s) refl
  where
    by_test : (b : Bool) → is_same_spot x.spot s ≡ b → worth_at xs s ≡ worth_at ys s
    by_test true is =
        let at : x.spot ≡ s = same-from_test x.spot s is in
        ap (worth_at xs) (sym at) ∙ worth_at-none x.spot xs (behind-first x xs first)
        ∙ sym (worth_at-none y.spot ys (behind-first y ys second)) ∙ ap (worth_at ys) (sym one ∙ at)
    by_test false is =
        sym (worth_at-other x xs s is) ∙ same s
        ∙ worth_at-other y ys s (subst (λ (t : Spot). is_same_spot t s ≡ false) one is)

-- something stands at the spot of the first, and nothing where all stand behind
not_behind : (x : SpotWorth) (xs ys : List SpotWorth) → Each (IsBehind x.spot) ys
    → worth_at (x ∷ xs) x.spot ≡ worth_at ys x.spot → ⊥
not_behind x xs ys behind same =
    let none : Some x.worth ≡ None = sym (worth_at-first x xs) ∙ same ∙ worth_at-none x.spot ys behind in cc

-- worths in order are one list where the same stands at each spot
pub same-from_spots : (xs ys : List SpotWorth) → Pairwise IsBefore xs → Pairwise IsBefore ys
    → ((s : Spot) → worth_at xs s ≡ worth_at ys s) → xs ≡ ys
same-from_spots [] [] h k same = refl
same-from_spots [] (y ∷ ys) h k same = absurd (not_behind y ys [] tt (sym (same y.spot)))
same-from_spots (x ∷ xs) [] h k same = absurd (not_behind x xs [] tt (same x.spot))
same-from_spots (x ∷ xs) (y ∷ ys) h k same =
    elim (total x.spot y.spot) [
      | inl before ↦ absurd (not_behind x xs (y ∷ ys) (all_behind x.spot y ys before k.0) (same x.spot))
      | inr rest ↦ elim rest [
        | inl after ↦ absurd (not_behind y ys (x ∷ xs) (all_behind y.spot x xs after h.0) (sym (same y.spot)))
        | inr one ↦
            let worths : Some x.worth ≡ Some y.worth =
            sym (worth_at-first x xs) ∙ same x.spot ∙ ap (worth_at (y ∷ ys)) one ∙ worth_at-first y ys in
            let first : x ≡ y = one_worth x y one cc in
            ap (λ (z : SpotWorth). z ∷ xs) first
            ∙ ap (λ (zs : List SpotWorth). y ∷ zs) (same-from_spots xs ys h.1 k.1 (rest-same x y xs ys h.0 k.0 one same))
      ]
    ]

-- with more put in, worths in order are in order still
pub AreInOrder-fold : (ws more : List SpotWorth) → AreInOrder ws → AreInOrder (fold put ws more)
AreInOrder-fold ws [] order = order
AreInOrder-fold ws (w ∷ more) order = AreInOrder-fold (put ws w) more (AreInOrder-put ws w order)

pub AreInOrder-nil : AreInOrder []
AreInOrder-nil = AllPairs-from_Pairwise IsBefore [] tt
