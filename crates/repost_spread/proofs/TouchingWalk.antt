-- A walk over the movements of an item in a warehouse that come after one that passes a test, up to the next that does.
use Rattle.std.proofs.Common.{◌≡◌, ℕ, ◌<◌, ◌≤◌, Bool, true, false, cond, ◌&&◌, List, [], ◌∷◌, length, filter, Some, None, Contains, ◌⊎◌, inl, inr, refl, sym, ap, ◌∙◌, subst, arith}
use Rattle.std.specs.List.{find}
use Rattle.std.specs.Option.{option_map}
use Rattle.std.proofs.lemmas.Bool.{false≢true}
use Rattle.std.proofs.lemmas.Option.{none-some}
use Rattle.stock_nums.specs.Places.{is_before}
use Rattle.stock_nums.specs.declared.entry.Entry.{Entry}
use Rattle.stock_nums.specs.declared.entry.Key.{Key}
use Rattle.stock_nums.specs.declared.place.Place.{Place}
use Rattle.stock_nums.proofs.PlaceOrder.{is_before-irreflexive, is_before-transitive}
use Rattle.stock_model.specs.Enough.{entry_key, is_of_key}
use Rattle.stock_model.specs.InOrder.{IsBefore, IsInPostingOrder}
use Rattle.stock_model.proofs.Pairwise.{Pairwise, Pairwise-from_AllPairs, Precedes-Contains, Contains-cases}
use Rattle.stock_laws.proofs.CostedRows.{both}
use Rattle.stock_laws.proofs.Enough.{is_same_key-true, is_same_key-refl}
use Rattle.cost_links.specs.Sources.{entry_place}
use Rattle.repost_laws.proofs.Turns.{both-true, false-from}
use Rattle.repost_spread.specs.Movements.{line_of}
use Rattle.repost_spread.specs.Marks.{AreMarked}
use Rattle.repost_spread.specs.Touches.{LeavesFirstIn, LeavesNext}
use Rattle.repost_spread.specs.declared.movements.Movements.{Movements}
use Rattle.repost_spread.proofs.TouchingLines.{FoundAt, found-at, found-none, one-at}
use Rattle.repost_spread.proofs.TouchingMarks.{marked-as, marked-then}

-- the movement is of the key and comes after the place
abbrev pub comes_after : Key → Place → Entry → Bool
comes_after key place f = is_of_key key f && is_before place f.place

-- how many movements come after the place
abbrev pub behind : List Entry → Place → ℕ
behind line place = length (filter (λ f. is_before place f.place) line)

-- the place is the movement's or a later one, and none of its item in its warehouse that passes comes after it up to there
pub record IsWalked (test : Entry → Bool) (line : List Entry) (e : Entry) (last : Place) : Type 0 where
  pub onward : (last ≡ e.place) ⊎ (is_before e.place last ≡ true)
  pub old : (h : Entry) → Contains line h → test h ≡ true → is_of_key (entry_key e) h ≡ true → is_before e.place h.place ≡ true
      → is_before last h.place ≡ false → ⊥

-- the movement leaves first in, first out after that one, and not after the place
abbrev pub IsPassed : Entry → Place → Entry → Type 0
IsPassed e last f =
    LeavesFirstIn f × (is_of_key (entry_key e) f ≡ true) × (is_before e.place f.place ≡ true) × (is_before last f.place ≡ false)

-- what passes comes after the first that does
find-first : (p : Entry → Bool) (xs : List Entry) (x : Entry) → Pairwise IsBefore xs → find p xs ≡ Some x → (f : Entry) → Contains xs f
    → p f ≡ true → (f ≡ x) ⊎ (is_before x.place f.place ≡ true)
find-first p [] x ordered found f held own = absurd (omega (arith, held.1))
find-first p (y ∷ ys) x ordered found f held own = by_cases (p y) refl found (find-first p ys x ordered.1)
  where
    by_cases : (b : Bool) → p y ≡ b → cond b (Some y) (find p ys) ≡ Some x
        → (find p ys ≡ Some x → (g : Entry) → Contains ys g → p g ≡ true → (g ≡ x) ⊎ (is_before x.place g.place ≡ true))
        → (f ≡ x) ⊎ (is_before x.place f.place ≡ true)
    by_cases true is h rest =
        let same : y ≡ x = cc in
        elim (Contains-cases y ys f held) [
          | inl here ↦ inl (sym here ∙ same)
          | inr later ↦ inr (subst (λ (z : Entry). is_before z.place f.place ≡ true) same (Precedes-Contains IsBefore y ys f ordered.0 later))
        ]
    by_cases false is h rest =
        elim (Contains-cases y ys f held) [
          | inl here ↦ absurd (false≢true (sym is ∙ ap p here ∙ own))
          | inr later ↦ rest h f later own
        ]

none-passes : (p : Entry → Bool) (xs : List Entry) → find p xs ≡ None → (f : Entry) → Contains xs f → p f ≡ true → ⊥
none-passes p [] none f held own = omega (arith, held.1)
none-passes p (y ∷ ys) none f held own = by_cases (p y) refl none (none-passes p ys)
  where
    by_cases : (b : Bool) → p y ≡ b → cond b (Some y) (find p ys) ≡ None
        → (find p ys ≡ None → (g : Entry) → Contains ys g → p g ≡ true → ⊥) → ⊥
    by_cases true is h rest = none-some y (sym h)
    by_cases false is h rest =
        elim (Contains-cases y ys f held) [
          | inl here ↦ false≢true (sym is ∙ ap p here ∙ own)
          | inr later ↦ rest h f later own
        ]

-- fewer pass a stricter test
fewer : (p q : Entry → Bool) → ((f : Entry) → p f ≡ true → q f ≡ true) → (xs : List Entry) → length (filter p xs) ≤ length (filter q xs)
fewer p q stricter [] = omega arith
fewer p q stricter (y ∷ ys) = by_cases (p y) (q y) (stricter y) (fewer p q stricter ys)
  where
    by_cases : (a b : Bool) → (a ≡ true → b ≡ true) → length (filter p ys) ≤ length (filter q ys)
        → length (cond a (y ∷ filter p ys) (filter p ys)) ≤ length (cond b (y ∷ filter q ys) (filter q ys))
    by_cases true true i h = omega (arith, h)
    by_cases true false i h = absurd (false≢true (i refl))
    by_cases false true i h = omega (arith, h)
    by_cases false false i h = h

less : (p q : Entry → Bool) → ((f : Entry) → p f ≡ true → q f ≡ true) → (xs : List Entry) (x : Entry) → Contains xs x → p x ≡ false
    → q x ≡ true → length (filter p xs) < length (filter q xs)
less p q stricter [] x held never does = absurd (omega (arith, held.1))
less p q stricter (y ∷ ys) x held never does =
    elim (Contains-cases y ys x held) [
      | inl here ↦ own (p y) (q y) (ap p here ∙ never) (ap q here ∙ does) (fewer p q stricter ys)
      | inr later ↦ by_cases (p y) (q y) (stricter y) (less p q stricter ys x later never does)
    ]
  where
    own : (a b : Bool) → a ≡ false → b ≡ true → length (filter p ys) ≤ length (filter q ys)
        → length (cond a (y ∷ filter p ys) (filter p ys)) < length (cond b (y ∷ filter q ys) (filter q ys))
    own true b i j h = absurd (false≢true (sym i))
    own false true i j h = omega (arith, h)
    own false false i j h = absurd (false≢true j)

    by_cases : (a b : Bool) → (a ≡ true → b ≡ true) → length (filter p ys) < length (filter q ys)
        → length (cond a (y ∷ filter p ys) (filter p ys)) < length (cond b (y ∷ filter q ys) (filter q ys))
    by_cases true true i h = omega (arith, h)
    by_cases true false i h = absurd (false≢true (i refl))
    by_cases false true i h = omega (arith, h)
    by_cases false false i h = h

-- what is of one key with a movement is of one key with each other of that key
key-same : (e f h : Entry) → is_of_key (entry_key f) e ≡ true → is_of_key (entry_key f) h ≡ true → is_of_key (entry_key e) h ≡ true
key-same e f h one other =
    subst (λ (k : Key). is_of_key k h ≡ true) (sym (is_same_key-true (entry_key e) (entry_key f) one)) other

key-swap : (e f : Entry) → is_of_key (entry_key f) e ≡ true → is_of_key (entry_key e) f ≡ true
key-swap e f one = key-same e f f one (is_same_key-refl (entry_key f))

-- the walk begins
pub walk-begins : (test : Entry → Bool) (line : List Entry) (e : Entry) → IsWalked test line e e.place
walk-begins test line e = record { onward = inl refl; old = λ h held new own before not_after. false≢true (sym not_after ∙ before) }

pub none-passed : (e f : Entry) → IsPassed e e.place f → ⊥
none-passed e f is = false≢true (sym is.3 ∙ is.2)

-- a step of it, to the first movement of the key that comes after the place
module _ (test : Entry → Bool) (line : List Entry) (e : Entry) (last place : Place) (in_order : IsInPostingOrder line) (walked : IsWalked test line e last)
    (next : FoundAt (comes_after (entry_key e) last) line place) where
  x-after : is_before last next.e.place ≡ true
  x-after = (both-true (is_of_key (entry_key e) next.e) (is_before last next.e.place) next.passes).1

  x-of : is_of_key (entry_key e) next.e ≡ true
  x-of = (both-true (is_of_key (entry_key e) next.e) (is_before last next.e.place) next.passes).0

  after-last : is_before last place ≡ true
  after-last = subst (λ (p : Place). is_before last p ≡ true) next.at x-after

  after-own : is_before e.place place ≡ true
  after-own =
      elim walked.onward [
        | inl same ↦ subst (λ (p : Place). is_before p place ≡ true) same after-last
        | inr before ↦ is_before-transitive e.place last place before after-last
      ]

  -- those of the key after the place are it or come after it
  on-or-after : (f : Entry) → Contains line f → is_of_key (entry_key e) f ≡ true → is_before last f.place ≡ true
      → (f ≡ next.e) ⊎ (is_before place f.place ≡ true)
  on-or-after f held own after =
      elim (find-first (comes_after (entry_key e) last) line next.e (Pairwise-from_AllPairs IsBefore line in_order) next.is f held (both own after)) [
        | inl same ↦ inl same
        | inr later ↦ inr (subst (λ (p : Place). is_before p f.place ≡ true) next.at later)
      ]

  at-next : (f : Entry) → f ≡ next.e → f.place ≡ place
  at-next f same = ap (λ (g : Entry). g.place) same ∙ next.at

  pub passed-more : (f : Entry) → Contains line f → IsPassed e place f → IsPassed e last f ⊎ (f.place ≡ place)
  passed-more f held is = by_cases (is_before last f.place) refl
    where
      by_cases : (b : Bool) → is_before last f.place ≡ b → IsPassed e last f ⊎ (f.place ≡ place)
      by_cases false after = inl (is.0, is.1, is.2, after)
      by_cases true after =
          elim (on-or-after f held is.1 after) [
            | inl same ↦ inr (at-next f same)
            | inr later ↦ absurd (false≢true (sym is.3 ∙ later))
          ]

  pub passed-before : (f : Entry) → IsPassed e last f → IsPassed e place f
  passed-before f is = (
    is.0,
    is.1,
    is.2,
    false-from (is_before place f.place)
        (λ later. false≢true (sym is.3 ∙ is_before-transitive last place f.place after-last later)),
  )

  pub passed-next : (f : Entry) → Contains line f → LeavesFirstIn f → f.place ≡ place → IsPassed e place f
  passed-next f held leaves at =
      let same = one-at line next.e f in_order next.held held (at ∙ sym next.at) in (
        leaves,
        subst (λ (g : Entry). is_of_key (entry_key e) g ≡ true) (sym same) x-of,
        subst (λ (p : Place). is_before e.place p ≡ true) (sym at) after-own,
        subst (λ (p : Place). is_before place p ≡ false) (sym at) (is_before-irreflexive place),
      )

  pub walk-goes_on : test next.e ≡ false → IsWalked test line e place
  walk-goes_on is_old = record { onward = inr after-own; old = old }
    where
      old : (h : Entry) → Contains line h → test h ≡ true → is_of_key (entry_key e) h ≡ true → is_before e.place h.place ≡ true
          → is_before place h.place ≡ false → ⊥
      old h held new own before not_after = by_cases (is_before last h.place) refl
        where
          by_cases : (b : Bool) → is_before last h.place ≡ b → ⊥
          by_cases false after = walked.old h held new own before after
          by_cases true after =
              elim (on-or-after h held own after) [
                | inl same ↦ false≢true (sym is_old ∙ ap (test) (sym same) ∙ new)
                | inr later ↦ false≢true (sym not_after ∙ later)
              ]

  pub behind-less : behind line place < behind line last
  behind-less =
      less (λ f. is_before place f.place) (λ f. is_before last f.place)
      (λ f later. is_before-transitive last place f.place after-last later) line next.e next.held
      (subst (λ (p : Place). is_before place p ≡ false) (sym next.at) (is_before-irreflexive place)) x-after

  -- it ends at one that passes
  pub ends-next : (f : Entry) → Contains line e → test e ≡ true → IsPassed e place f → LeavesNext test line e f
  ends-next f own_held own_new is =
      (is.0.0, is.0.1, record { held = own_held; new = own_new; of_key = key-swap f e is.1; before = is.2; none_between = between })
    where
      between : (h : Entry) → Contains line h → test h ≡ true → is_of_key (entry_key f) h ≡ true → is_before e.place h.place ≡ true
          → is_before h.place f.place ≡ true → ⊥
      between h held new own after before = by_cases (is_before last h.place) refl
        where
          own_e : is_of_key (entry_key e) h ≡ true
          own_e = key-same e f h (key-swap f e is.1) own

          by_cases : (b : Bool) → is_before last h.place ≡ b → ⊥
          by_cases false passed = walked.old h held new own_e after passed
          by_cases true later =
              elim (on-or-after h held own_e later) [
                | inl same ↦ false≢true (sym is.3 ∙ subst (λ (p : Place). is_before p f.place ≡ true) (at-next h same) before)
                | inr more ↦ false≢true (sym is.3 ∙ is_before-transitive place h.place f.place more before)
              ]

  pub next-ends : (f : Entry) → test next.e ≡ true → LeavesNext test line e f → IsPassed e place f
  next-ends f new is = (
    (is.0, is.1),
    key-swap e f is.2.of_key,
    is.2.before,
    false-from (is_before place f.place) (λ later.
        is.2.none_between next.e next.held new
        (key-same f e next.e (key-swap e f is.2.of_key) x-of)
        (subst (λ (p : Place). is_before e.place p ≡ true) (sym next.at) after-own)
        (subst (λ (p : Place). is_before p f.place ≡ true) (sym next.at) later)),
  )

-- it ends where no more of the key come
pub ends-none : (test : Entry → Bool) (line : List Entry) (e : Entry) (last : Place) (f : Entry) → IsWalked test line e last → Contains line e → test e ≡ true
    → IsPassed e last f → LeavesNext test line e f
ends-none test line e last f walked own_held own_new is = (
  is.0.0,
  is.0.1,
  record {
    held = own_held;
    new = own_new;
    of_key = key-swap f e is.1;
    before = is.2;
    none_between = λ h held new own after before. walked.old h held new (key-same e f h (key-swap f e is.1) own) after
        (false-from (is_before last h.place) (λ later. false≢true (sym is.3 ∙ is_before-transitive last h.place f.place later before)));
  },
)

pub none-ends : (test : Entry → Bool) (line : List Entry) (e : Entry) (last : Place) (f : Entry) → find (comes_after (entry_key e) last) line ≡ None
    → Contains line f → LeavesNext test line e f → IsPassed e last f
none-ends test line e last f none held is = (
  (is.0, is.1),
  key-swap e f is.2.of_key,
  is.2.before,
  false-from (is_before last f.place) (λ later.
      none-passes (comes_after (entry_key e) last) line none f held (both (key-swap e f is.2.of_key) later)),
)

-- what a step marks, where what is found leaves and where it stays
module _ (test : Entry → Bool) (line : List Entry) (e : Entry) (last place : Place) (in_order : IsInPostingOrder line) (walked : IsWalked test line e last)
    (next : FoundAt (comes_after (entry_key e) last) line place) (old mid : Movements) (same : line_of old ≡ line)
    (were : AreMarked old mid (IsPassed e last)) where
  pub step-leaving : (new : Movements) → AreMarked mid new (λ f. f.place ≡ place)
      → ((f : Entry) → Contains line f → f.place ≡ place → LeavesFirstIn f) → AreMarked old new (IsPassed e place)
  step-leaving new are leaves =
      marked-as old new (λ f. IsPassed e last f ⊎ (f.place ≡ place)) (IsPassed e place)
      (λ f held either. elim either [
        | inl before ↦ passed-before test line e last place in_order walked next f before
        | inr at ↦ let own = subst (λ (l : List Entry). Contains l f) same held in
            passed-next test line e last place in_order walked next f own (leaves f own at) at
      ])
      (λ f held is. passed-more test line e last place in_order walked next f (subst (λ (l : List Entry). Contains l f) same held) is)
      (marked-then old mid new (IsPassed e last) (λ f. f.place ≡ place) were are)

  pub step-staying : ((f : Entry) → Contains line f → f.place ≡ place → LeavesFirstIn f → ⊥) → AreMarked old mid (IsPassed e place)
  step-staying stays =
      marked-as old mid (IsPassed e last) (IsPassed e place) (λ f held is. passed-before test line e last place in_order walked next f is)
      (λ f held is. let own = subst (λ (l : List Entry). Contains l f) same held in
      elim (passed-more test line e last place in_order walked next f own is) [
        | inl before ↦ before
        | inr at ↦ absurd (stays f own at is.0)
      ])
      were

-- the next of the key, found under what is the key
pub step-to : (line : List Entry) (e : Entry) (last place : Place) (key : Key) → key ≡ entry_key e
    → Some place ≡ option_map entry_place (find (comes_after key last) line) → FoundAt (comes_after (entry_key e) last) line place
step-to line e last place key own is =
    subst (λ (k : Key). FoundAt (comes_after k last) line place) own (found-at (comes_after key last) line place is)

pub step-none : (line : List Entry) (e : Entry) (last : Place) (key : Key) → key ≡ entry_key e
    → None ≡ option_map entry_place (find (comes_after key last) line) → find (comes_after (entry_key e) last) line ≡ None
step-none line e last key own is = subst (λ (k : Key). find (comes_after k last) line ≡ None) own (found-none (comes_after key last) line is)
