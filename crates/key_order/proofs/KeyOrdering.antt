-- Changes by item and warehouse, and then in posting order: a strict order, and the tests that hold back along it.
use Rattle.std.proofs.Common.{◌≡◌, ◌⊎◌, inl, inr, Bool, true, false, ◌&&◌, ◌||◌, not, List, Option, Some, None, get_or, refl, sym, ap, ◌∙◌, subst, arith}
use Rattle.std.specs.List.Sorted.{IsPartitionedBy}
use Rattle.std.proofs.lemmas.Bool.{false≢true, cases_lt}
use Rattle.std.proofs.lemmas.Bool.Decides.{nat_tests}
use Rattle.stock_nums.specs.Places.{is_before}
use Rattle.stock_nums.specs.declared.entry.Key.{Key}
use Rattle.stock_nums.specs.declared.place.Place.{Place}
use Rattle.stock_nums.proofs.PlaceOrder.{is_before-irreflexive, is_before-transitive, is_before-total}
use Rattle.stock_model.specs.Enough.{is_same_key}
use Rattle.stock_model.specs.Sheets.{is_key_before}
use Rattle.stock_laws.proofs.Enough.{is_same_key-true, is_same_key-refl}
use Rattle.key_order.specs.declared.change.Change.{Change}
use Rattle.key_order.specs.KeyOrders.{precedes, AreInKeyOrder}
use Rattle.key_order.specs.KeyBounds.{is_before_key, is_up_to_key, is_before_place, is_up_to_place, is_up_to_start_of}

-- the first of two tests is enough
pub or-first : (a b : Bool) → a ≡ true → (a || b) ≡ true
or-first true b h = refl
or-first false b h = absurd (false≢true h)

-- and so is the second
pub or-second : (a b : Bool) → b ≡ true → (a || b) ≡ true
or-second true b h = refl
or-second false b h = h

-- where one of two is passed, it is the first or the second
pub either-of : (a b : Bool) → (a || b) ≡ true → (a ≡ true) ⊎ (b ≡ true)
either-of true b h = inl refl
either-of false b h = inr h

-- two are failed together
pub or-fails : (a b : Bool) → a ≡ false → b ≡ false → (a || b) ≡ false
or-fails true b h k = absurd (false≢true (sym h))
or-fails false b h k = k

-- and each of them where both are
pub or-fails_first : (a b : Bool) → (a || b) ≡ false → a ≡ false
or-fails_first true b h = h
or-fails_first false b h = refl

pub or-fails_second : (a b : Bool) → (a || b) ≡ false → b ≡ false
or-fails_second true b h = absurd (false≢true (sym h))
or-fails_second false b h = h

-- two are passed together
pub and-both : (a b : Bool) → a ≡ true → b ≡ true → (a && b) ≡ true
and-both true b h k = k
and-both false b h k = absurd (false≢true h)

-- and each of them where both are
pub and-first : (a b : Bool) → (a && b) ≡ true → a ≡ true
and-first true b h = refl
and-first false b h = h

pub and-second : (a b : Bool) → (a && b) ≡ true → b ≡ true
and-second true b h = h
and-second false b h = absurd (false≢true h)

-- one that is failed is enough for both to be
pub and-fails_first : (a b : Bool) → a ≡ false → (a && b) ≡ false
and-fails_first true b h = absurd (false≢true (sym h))
and-fails_first false b h = refl

pub and-fails_second : (a b : Bool) → b ≡ false → (a && b) ≡ false
and-fails_second true b h = h
and-fails_second false b h = refl

-- where the first is passed both are the second
pub and-rest : (a b : Bool) → a ≡ true → (a && b) ≡ false → b ≡ false
and-rest true b h k = k
and-rest false b h k = absurd (false≢true h)

-- what does not fail is passed
pub true-unless : (b : Bool) → (b ≡ false → ⊥) → b ≡ true
true-unless true h = refl
true-unless false h = absurd (h refl)

-- what is not passed fails
pub false-unless : (b : Bool) → (b ≡ true → ⊥) → b ≡ false
false-unless true h = absurd (h refl)
false-unless false h = refl

-- passed or failed
pub passed-or : (b : Bool) → (b ≡ true) ⊎ (b ≡ false)
passed-or true = inl refl
passed-or false = inr refl

-- what is not passed is failed, and back
pub not-true : (b : Bool) → not b ≡ true → b ≡ false
not-true true h = absurd (false≢true h)
not-true false h = refl

-- a key does not come before itself
pub key-irreflexive : (a : Key) → is_key_before a a ≡ false
key-irreflexive a = grind (arith, nat_tests)

-- a key that comes before a second, which comes before a third, comes before the third
pub key-transitive : (a b c : Key) → is_key_before a b ≡ true → is_key_before b c ≡ true → is_key_before a c ≡ true
key-transitive a b c h k = grind (arith, nat_tests)

-- of two keys that are not the same one comes before the other
pub key-other : (a b : Key) → is_same_key a b ≡ false → is_key_before a b ≡ false → is_key_before b a ≡ true
key-other a b h k = grind (arith, nat_tests)

-- a key that comes before another is not the same
pub key-before_differs : (a b : Key) → is_key_before a b ≡ true → is_same_key a b ≡ false
key-before_differs a b h =
    false-unless (is_same_key a b)
    (λ same. false≢true
    (sym (key-irreflexive b) ∙ subst (λ (k : Key). is_key_before k b ≡ true) (is_same_key-true a b same) h))

-- and neither is one that comes after it
pub key-after_differs : (a b : Key) → is_key_before b a ≡ true → is_same_key a b ≡ false
key-after_differs a b h =
    false-unless (is_same_key a b)
    (λ same. false≢true
    (sym (key-irreflexive a) ∙ subst (λ (k : Key). is_key_before k a ≡ true) (sym (is_same_key-true a b same)) h))

-- of two keys at most one comes before the other
pub key-asymmetric : (a b : Key) → is_key_before a b ≡ true → is_key_before b a ≡ false
key-asymmetric a b h =
    false-unless (is_key_before b a) (λ k. false≢true (sym (key-irreflexive a) ∙ key-transitive a b a h k))

-- an earlier key, or the same one and what else is asked
pub bound-cases : (a b : Key) (r : Bool) → (is_key_before a b || (is_same_key a b && r)) ≡ true
    → (is_key_before a b ≡ true) ⊎ ((a ≡ b) × (r ≡ true))
bound-cases a b r h =
    elim (either-of (is_key_before a b) (is_same_key a b && r) h) [
      | inl k ↦ inl k
      | inr k ↦ inr (is_same_key-true a b (and-first (is_same_key a b) r k), and-second (is_same_key a b) r k)
    ]

-- by an earlier key
pub bound-earlier : (a b : Key) (r : Bool) → is_key_before a b ≡ true → (is_key_before a b || (is_same_key a b && r)) ≡ true
bound-earlier a b r h = or-first (is_key_before a b) (is_same_key a b && r) h

-- by the same key
pub bound-same : (a b : Key) (r : Bool) → a ≡ b → r ≡ true → (is_key_before a b || (is_same_key a b && r)) ≡ true
bound-same a b r same h =
    or-second (is_key_before a b) (is_same_key a b && r)
    (and-both (is_same_key a b) r (subst (λ (k : Key). is_same_key a k ≡ true) same (is_same_key-refl a)) h)

-- neither by a later key
pub bound-later : (a b : Key) (r : Bool) → is_key_before b a ≡ true → (is_key_before a b || (is_same_key a b && r)) ≡ false
bound-later a b r h =
    or-fails (is_key_before a b) (is_same_key a b && r) (key-asymmetric b a h)
    (and-fails_first (is_same_key a b) r (key-after_differs a b h))

-- nor by the same one where what else is asked fails
pub bound-same_fails : (a b : Key) (r : Bool) → a ≡ b → r ≡ false → (is_key_before a b || (is_same_key a b && r)) ≡ false
bound-same_fails a b r same h =
    or-fails (is_key_before a b) (is_same_key a b && r) (subst (λ (k : Key). is_key_before a k ≡ false) same (key-irreflexive a))
    (and-fails_second (is_same_key a b) r h)

-- the first change comes before the second
abbrev pub Before : Change → Change → Type 0
Before a b = precedes a b ≡ true

-- what passes the test passes it with all before it
abbrev pub HoldsBack : (Change → Bool) → Type 0
HoldsBack p = (a b : Change) → precedes a b ≡ true → p b ≡ true → p a ≡ true

-- a test of the key and then of the place holds back where that of the place does
pub bound-back : (key : Key) (q : Place → Bool) → ((p r : Place) → is_before p r ≡ true → q r ≡ true → q p ≡ true)
    → HoldsBack (λ c. is_key_before c.key key || (is_same_key c.key key && q c.place))
bound-back key q back a b before passes =
    elim (bound-cases a.key b.key (is_before a.place b.place) before) [
      | inl earlier ↦ bound-earlier a.key key (q a.place)
          (elim (bound-cases b.key key (q b.place) passes) [
            | inl k ↦ key-transitive a.key b.key key earlier k
            | inr k ↦ subst (λ (x : Key). is_key_before a.key x ≡ true) k.0 earlier
          ])
      | inr same ↦ elim (bound-cases b.key key (q b.place) passes) [
        | inl k ↦ bound-earlier a.key key (q a.place) (subst (λ (x : Key). is_key_before x key ≡ true) (sym same.0) k)
        | inr k ↦ bound-same a.key key (q a.place) (same.0 ∙ k.0) (back a.place b.place same.1 k.1)
      ]
    ]

pub is_before_place-back : (key : Key) (place : Place) → HoldsBack (is_before_place key place)
is_before_place-back key place = bound-back key (λ p. is_before p place) (λ p r. is_before-transitive p r place)

pub is_up_to_place-back : (key : Key) (place : Place) → HoldsBack (is_up_to_place key place)
is_up_to_place-back key place =
    bound-back key (λ p. not (is_before place p))
    (λ p r before passes. ap not
    (false-unless (is_before place p)
    (λ after. false≢true (sym (not-true (is_before place r) passes) ∙ is_before-transitive place p r after before))))

pub is_before_key-back : (key : Key) → HoldsBack (is_before_key key)
is_before_key-back key a b before passes =
    elim (bound-cases a.key b.key (is_before a.place b.place) before) [
      | inl earlier ↦ key-transitive a.key b.key key earlier passes
      | inr same ↦ subst (λ (x : Key). is_key_before x key ≡ true) (sym same.0) passes
    ]

pub is_up_to_key-back : (key : Key) → HoldsBack (is_up_to_key key)
is_up_to_key-back key a b before passes =
    elim (bound-cases a.key b.key (is_before a.place b.place) before) [
      | inl earlier ↦ or-first (is_key_before a.key key) (is_same_key a.key key)
          (elim (either-of (is_key_before b.key key) (is_same_key b.key key) passes) [
            | inl k ↦ key-transitive a.key b.key key earlier k
            | inr k ↦ subst (λ (x : Key). is_key_before a.key x ≡ true) (is_same_key-true b.key key k) earlier
          ])
      | inr same ↦ subst (λ (x : Key). (is_key_before x key || is_same_key x key) ≡ true) (sym same.0) passes
    ]

pub is_up_to_start_of-back : (key : Key) (from : Option Place) → HoldsBack (is_up_to_start_of key from)
is_up_to_start_of-back key None = is_before_key-back key
is_up_to_start_of-back key (Some start) = is_up_to_place-back key start

-- a change that comes before a second, which comes before a third, comes before the third
pub precedes-transitive : (a b c : Change) → precedes a b ≡ true → precedes b c ≡ true → precedes a c ≡ true
precedes-transitive a b c before = is_before_place-back c.key c.place a b before

-- no change comes before itself
pub precedes-irreflexive : (a : Change) → precedes a a ≡ false
precedes-irreflexive a = bound-same_fails a.key a.key (is_before a.place a.place) refl (is_before-irreflexive a.place)

-- of two changes at most one comes before the other
pub precedes-asymmetric : (a b : Change) → precedes a b ≡ true → precedes b a ≡ false
precedes-asymmetric a b h =
    false-unless (precedes b a) (λ k. false≢true (sym (precedes-irreflexive a) ∙ precedes-transitive a b a h k))

-- of two changes that are not of one key at one place one comes before the other
pub precedes-other : (a b : Change) → precedes a b ≡ false → (a.key ≡ b.key → a.place ≡ b.place → ⊥) → precedes b a ≡ true
precedes-other a b fails apart =
    let not_earlier : is_key_before a.key b.key ≡ false = or-fails_first (is_key_before a.key b.key)
    (is_same_key a.key b.key && is_before a.place b.place) fails in
    let rest : (is_same_key a.key b.key && is_before a.place b.place) ≡ false = or-fails_second (is_key_before a.key b.key)
    (is_same_key a.key b.key && is_before a.place b.place) fails in
    elim (passed-or (is_same_key a.key b.key)) [
      | inr differ ↦ bound-earlier b.key a.key (is_before b.place a.place) (key-other a.key b.key differ not_earlier)
      | inl same ↦
          let one : a.key ≡ b.key = is_same_key-true a.key b.key same in
          bound-same b.key a.key (is_before b.place a.place) (sym one)
          (elim (is_before-total a.place b.place) [
            | inl h ↦ absurd (false≢true (sym (and-rest (is_same_key a.key b.key) (is_before a.place b.place) same rest) ∙ h))
            | inr h ↦ elim h [
              | inl k ↦ k
              | inr there ↦ absurd (apart one there)
            ]
          ])
    ]

-- a test that holds back parts changes in key order
pub IsPartitionedBy-back : (p : Change → Bool) → HoldsBack p → (cs : List Change) → AreInKeyOrder cs → IsPartitionedBy p cs
IsPartitionedBy-back p back cs order i j d le within passes =
    elim (cases_lt i j) [
      | inl less ↦ back (get_or cs i d) (get_or cs j d) (order i j d less within) passes
      | inr more ↦ let same : j ≡ i = omega arith in subst (λ k. p (get_or cs k d) ≡ true) same passes
    ]
