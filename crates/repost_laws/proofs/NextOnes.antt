-- The last movement before another, and the next one after it.
use Rattle.std.proofs.Common.{◌≡◌, Bool, true, false, cond, List, [], ◌∷◌, reverse, Option, Some, None, inl, inr, refl, sym, ap, ◌∙◌, subst, arith, Contains, ◌⊎◌, ◌↔◌}
use Rattle.std.specs.List.{find}
use Rattle.std.specs.Option.{option_or}
use Rattle.std.proofs.lemmas.Bool.{false≢true}
use Rattle.std.proofs.lemmas.List.{reverse-append}
use Rattle.std.proofs.lemmas.List.Folds.{find-append}
use Rattle.std.proofs.lemmas.List.Kept.{AllPairs-filter}
use Rattle.stock_nums.specs.Places.{is_before}
use Rattle.stock_nums.specs.declared.entry.Entry.{Entry}
use Rattle.stock_nums.proofs.PlaceOrder.{is_before-total}
use Rattle.stock_model.specs.Enough.{entry_key, is_same_key, is_of_key}
use Rattle.stock_model.specs.InOrder.{IsBefore, IsInPostingOrder}
use Rattle.stock_model.proofs.Pairwise.{Pairwise, Precedes-Contains, Pairwise-from_AllPairs, Contains-cases, Contains-first, Contains-later}
use Rattle.stock_laws.proofs.CostedRows.{both}
use Rattle.stock_laws.proofs.Enough.{is_same_key-true, is_same_key-refl}
use Rattle.cost_links.specs.Sources.{comes_before}
use Rattle.repost_laws.specs.Touched.{follows_in_key, next_of_key}
use Rattle.repost_laws.specs.Valuations.{earlier, last_of_key}
use Rattle.repost_laws.proofs.EarlierOnes.{never_both, never_itself}
use Rattle.repost_laws.proofs.Filtered.{Contains-filtered, Contains-filter}
use Rattle.repost_laws.proofs.Turns.{both-true, false-from, one_place}

module _ (p : Entry → Bool) where
  -- the first of those that pass
  record IsFirstOf (xs : List Entry) (x : Entry) : Type 0 where
    held : Contains xs x
    passes : p x ≡ true
    first : (f : Entry) → Contains xs f → p f ≡ true → (f ≡ x) ⊎ IsBefore x f

  -- and the last
  pub record IsLastOf (xs : List Entry) (x : Entry) : Type 0 where
    pub held : Contains xs x
    pub passes : p x ≡ true
    pub last : (f : Entry) → Contains xs f → p f ≡ true → (f ≡ x) ⊎ IsBefore f x

  found-first : (xs : List Entry) (x : Entry) → Pairwise IsBefore xs → find p xs ≡ Some x → IsFirstOf xs x
  found-first [] x ordered is = cc
  found-first (y ∷ xs) x ordered is = by_cases (p y) refl is (found-first xs x ordered.1)
    where
      by_cases : (b : Bool) → p y ≡ b → cond b (Some y) (find p xs) ≡ Some x → (find p xs ≡ Some x → IsFirstOf xs x)
          → IsFirstOf (y ∷ xs) x
      by_cases true passes h rest =
          let same : y ≡ x = cc in
          record {
            held = subst (Contains (y ∷ xs)) same (Contains-first y xs);
            passes = ap p (sym same) ∙ passes;
            first = λ f held own. elim (Contains-cases y xs f held) [
              | inl here ↦ inl (sym here ∙ same)
              | inr later ↦ inr (subst (λ (z : Entry). IsBefore z f) same (Precedes-Contains IsBefore y xs f ordered.0 later))
            ];
          }
      by_cases false fails h rest =
          let others = rest h in
          record {
            held = Contains-later y xs x others.held;
            passes = others.passes;
            first = λ f held own. elim (Contains-cases y xs f held) [
              | inl here ↦ absurd (false≢true (sym fails ∙ ap p here ∙ own))
              | inr later ↦ others.first f later own
            ];
          }

  first-found : (xs : List Entry) (x : Entry) → Pairwise IsBefore xs → IsFirstOf xs x → find p xs ≡ Some x
  first-found [] x ordered is = absurd (omega (arith, is.held.1))
  first-found (y ∷ xs) x ordered is = by_cases (p y) refl (first-found xs x ordered.1)
    where
      by_cases : (b : Bool) → p y ≡ b → (IsFirstOf xs x → find p xs ≡ Some x) → cond b (Some y) (find p xs) ≡ Some x
      by_cases true passes rest = elim (is.first y (Contains-first y xs) passes) [
        | inl same ↦ ap Some same
        | inr before ↦ elim (Contains-cases y xs x is.held) [
          | inl here ↦ ap Some here
          | inr later ↦ absurd (never_both x y before (Precedes-Contains IsBefore y xs x ordered.0 later))
        ]
      ]
      by_cases false fails rest = rest (record {
        held = elim (Contains-cases y xs x is.held) [
          | inl here ↦ absurd (false≢true (sym fails ∙ ap p here ∙ is.passes))
          | inr later ↦ later
        ];
        passes = is.passes;
        first = λ f held own. is.first f (Contains-later y xs f held) own;
      })

  -- the last, with one in front
  last-cons : (y : Entry) (xs : List Entry) → find p (reverse (y ∷ xs))
      ≡ option_or (find p (reverse xs)) (cond (p y) (Some y) None)
  last-cons y xs = ap (find p) (reverse-append (y ∷ []) xs) ∙ find-append p (reverse xs) (y ∷ [])

  pub none-last : (xs : List Entry) → find p (reverse xs) ≡ None → (f : Entry) → Contains xs f → p f ≡ false
  none-last [] none f held = absurd (omega (arith, held.1))
  none-last (y ∷ xs) none f held = by_cases (find p (reverse xs)) refl (p y) refl (sym (last-cons y xs) ∙ none) (none-last xs)
    where
      by_cases : (o : Option Entry) → find p (reverse xs) ≡ o → (b : Bool) → p y ≡ b → option_or o (cond b (Some y) None) ≡ None
          → (find p (reverse xs) ≡ None → (g : Entry) → Contains xs g → p g ≡ false) → p f ≡ false
      by_cases (Some z) found b is h rest = cc
      by_cases None found true is h rest = cc
      by_cases None found false is h rest = elim (Contains-cases y xs f held) [
        | inl here ↦ ap p (sym here) ∙ is
        | inr later ↦ rest found f later
      ]

  last-none : (xs : List Entry) → ((f : Entry) → Contains xs f → p f ≡ false) → find p (reverse xs) ≡ None
  last-none [] none = refl
  last-none (y ∷ xs) none =
      last-cons y xs ∙ ap (λ (o : Option Entry). option_or o (cond (p y) (Some y) None))
      (last-none xs (λ f held. none f (Contains-later y xs f held)))
      ∙ ap (λ (b : Bool). cond b (Some y) None) (none y (Contains-first y xs))

  pub found-last : (xs : List Entry) (x : Entry) → Pairwise IsBefore xs → find p (reverse xs) ≡ Some x → IsLastOf xs x
  found-last [] x ordered is = cc
  found-last (y ∷ xs) x ordered is = by_cases (find p (reverse xs)) refl (p y) refl (sym (last-cons y xs) ∙ is)
      (found-last xs x ordered.1)
    where
      by_cases : (o : Option Entry) → find p (reverse xs) ≡ o → (b : Bool) → p y ≡ b → option_or o (cond b (Some y) None) ≡ Some x
          → (find p (reverse xs) ≡ Some x → IsLastOf xs x) → IsLastOf (y ∷ xs) x
      by_cases (Some z) found b passes h rest =
          let same : z ≡ x = cc in
          let others = rest (found ∙ ap Some same) in
          record {
            held = Contains-later y xs x others.held;
            passes = others.passes;
            last = λ f held own. elim (Contains-cases y xs f held) [
              | inl here ↦ inr (subst (λ (w : Entry). IsBefore w x) here
                  (Precedes-Contains IsBefore y xs x ordered.0 others.held))
              | inr later ↦ others.last f later own
            ];
          }
      by_cases None found true passes h rest =
          let same : y ≡ x = cc in
          record {
            held = subst (Contains (y ∷ xs)) same (Contains-first y xs);
            passes = ap p (sym same) ∙ passes;
            last = λ f held own. elim (Contains-cases y xs f held) [
              | inl here ↦ inl (sym here ∙ same)
              | inr later ↦ absurd (false≢true (sym (none-last xs found f later) ∙ own))
            ];
          }
      by_cases None found false passes h rest = cc

  last-found : (xs : List Entry) (x : Entry) → Pairwise IsBefore xs → IsLastOf xs x → find p (reverse xs) ≡ Some x
  last-found [] x ordered is = absurd (omega (arith, is.held.1))
  last-found (y ∷ xs) x ordered is =
      elim (Contains-cases y xs x is.held) [
        | inr later ↦
            let rest : find p (reverse xs) ≡ Some x = last-found xs x ordered.1 (record {
              held = later;
              passes = is.passes;
              last = λ f held own. is.last f (Contains-later y xs f held) own;
            }) in
            last-cons y xs ∙ ap (λ (o : Option Entry). option_or o (cond (p y) (Some y) None)) rest
        | inl here ↦
            let after : (f : Entry) → Contains xs f → IsBefore x f = λ f held. subst (λ (w : Entry). IsBefore w f) here
            (Precedes-Contains IsBefore y xs f ordered.0 held) in
            let none : find p (reverse xs) ≡ None = last-none xs
            (λ f held. fails f (after f held) (is.last f (Contains-later y xs f held))) in
            last-cons y xs ∙ ap (λ (o : Option Entry). option_or o (cond (p y) (Some y) None)) none
            ∙ ap (λ (b : Bool). cond b (Some y) None) (ap p here ∙ is.passes) ∙ ap Some here
      ]
    where
      fails : (f : Entry) → IsBefore x f → (p f ≡ true → (f ≡ x) ⊎ IsBefore f x) → p f ≡ false
      fails f after only = false-from (p f) (λ own. elim (only own) [
        | inl same ↦ never_itself x (subst (IsBefore x) same after)
        | inr before ↦ never_both x f after before
      ])

-- what is before or after a movement of the line, or is it
pub place_of : (line : List Entry) (f e : Entry) → Pairwise IsBefore line → Contains line f → Contains line e → (f ≡ e)
    ⊎ (IsBefore f e ⊎ IsBefore e f)
place_of line f e ordered held other =
    elim (is_before-total f.place e.place) [
      | inl before ↦ inr (inl before)
      | inr h ↦ elim h [
        | inl after ↦ inr (inr after)
        | inr same ↦ inl (one_place line e f ordered other held same)
      ]
    ]

pub next-last : (line : List Entry) (e g : Entry) → IsInPostingOrder line → Contains line e → Contains line g
    → (last_of_key (earlier line e) (entry_key e) ≡ Some g) ↔ (next_of_key line g ≡ Some e)
next-last line e g in_order held other = (to, from)
  where
    ordered : Pairwise IsBefore line
    ordered = Pairwise-from_AllPairs IsBefore line in_order

    before_ordered : Pairwise IsBefore (earlier line e)
    before_ordered = Pairwise-from_AllPairs IsBefore (earlier line e)
        (AllPairs-filter IsBefore (comes_before e.place) line in_order)

    to : last_of_key (earlier line e) (entry_key e) ≡ Some g → next_of_key line g ≡ Some e
    to is =
        let last = found-last (is_of_key (entry_key e)) (earlier line e) g before_ordered is in
        let before : IsBefore g e = (Contains-filtered (comes_before e.place) line g last.held).1 in
        let key : entry_key g ≡ entry_key e = is_same_key-true (entry_key g) (entry_key e) last.passes in
        first-found (follows_in_key g) line e ordered (record {
          held = held;
          passes = both (ap (is_same_key (entry_key e)) key ∙ is_same_key-refl (entry_key e)) before;
          first = λ f in_line own.
              let parts = both-true (is_of_key (entry_key g) f) (is_before g.place f.place) own in
              elim (place_of line f e ordered in_line held) [
                | inl same ↦ inl same
                | inr h ↦ elim h [
                  | inr after ↦ inr after
                  | inl earlier_one ↦
                      elim (last.last f (Contains-filter (comes_before e.place) line f in_line earlier_one)
                      (ap (is_same_key (entry_key f)) (sym key) ∙ parts.0)) [
                        | inl same ↦ absurd (never_itself g (subst (IsBefore g) same parts.1))
                        | inr before_g ↦ absurd (never_both g f parts.1 before_g)
                      ]
                ]
              ];
        })

    from : next_of_key line g ≡ Some e → last_of_key (earlier line e) (entry_key e) ≡ Some g
    from is =
        let next = found-first (follows_in_key g) line e ordered is in
        let parts = both-true (is_of_key (entry_key g) e) (is_before g.place e.place) next.passes in
        let key : entry_key e ≡ entry_key g = is_same_key-true (entry_key e) (entry_key g) parts.0 in
        last-found (is_of_key (entry_key e)) (earlier line e) g before_ordered (record {
          held = Contains-filter (comes_before e.place) line g other parts.1;
          passes = ap (is_same_key (entry_key g)) key ∙ is_same_key-refl (entry_key g);
          last = λ f in_past own.
              let in_line = Contains-filtered (comes_before e.place) line f in_past in
              elim (place_of line f g ordered in_line.0 other) [
                | inl same ↦ inl same
                | inr h ↦ elim h [
                  | inl before ↦ inr before
                  | inr after ↦
                      elim (next.first f in_line.0 (both (ap (is_same_key (entry_key f)) (sym key) ∙ own) after)) [
                        | inl same ↦ absurd (never_itself e (subst (λ (w : Entry). IsBefore w e) same in_line.1))
                        | inr later ↦ absurd (never_both e f later in_line.1)
                      ]
                ]
              ];
        })
