-- What many movements that come or go, and many charges, touch together.
use Rattle.std.proofs.Common.{◌≡◌, ℕ, suc, ◌+◌, ◌<◌, ◌≤◌, Bool, true, ◌||◌, List, [], ◌∷◌, ◌++◌, length, get_or, take, Contains, ◌⊎◌, inl, inr, refl, sym, ap, ◌∙◌, subst, arith}
use Rattle.std.specs.List.{list_any}
use Rattle.std.proofs.Math.Seq.{take-suc}
use Rattle.std.proofs.lemmas.Bool.{false≢true, or_cases, or_left, or_right}
use Rattle.std.proofs.lemmas.List.{take_all}
use Rattle.std.proofs.lemmas.List.Elements.{Contains-append_cases, Contains-append_left, Contains-append_right}
use Rattle.std.proofs.lemmas.List.Folds.{list_any-append}
use Rattle.stock_nums.specs.declared.cause.Target.{Target}
use Rattle.stock_nums.specs.declared.entry.Entry.{Entry}
use Rattle.stock_model.specs.InOrder.{IsInPostingOrder}
use Rattle.stock_model.specs.LandedCost.{is_charge_of}
use Rattle.stock_model.specs.Values.{own_line}
use Rattle.stock_model.proofs.Pairwise.{Contains-cases, Contains-first, Contains-later}
use Rattle.stock_laws.proofs.Linked.{is_same_target-true, is_same_target-refl}
use Rattle.cost_links.specs.Charged.{charge_pair, charge_pairs}
use Rattle.cost_links.specs.declared.charges.Charge.{Charge}
use Rattle.repost_laws.specs.Fetches.{AreNew, is_charged_in}
use Rattle.repost_laws.specs.Touched.{is_new, is_changed, is_touched_by}
use Rattle.repost_laws.proofs.LooksTouched.{touched_by-looks}
use Rattle.repost_spread.specs.Marks.{AreMarked}
use Rattle.repost_spread.specs.Movements.{AreKept, line_of}
use Rattle.repost_spread.specs.Touches.{ComesAfter, ComesAfterOne, IsAtOne, IsChargedByOne, AreOfRecords, has_record}
use Rattle.repost_spread.specs.declared.movements.Movements.{Movements}
use Rattle.repost_spread.proofs.RecordsAmong.{has-own}
use Rattle.repost_spread.proofs.TouchingLines.{one-at}
use Rattle.repost_spread.proofs.TouchingMarks.{marked-as, marked-then, unmarked}

module _ {X : Type 0} (xs : List X) (i : ℕ) (x : X) (within : i < length xs) (is : x ≡ get_or xs i x) where
  one-more : take (i + 1) xs ≡ take i xs ++ x ∷ []
  one-more =
      let next : i + 1 ≡ suc i = omega arith in
      ap (λ (k : ℕ). take k xs) next ∙ take-suc xs i x within ∙ ap (λ (y : X). take i xs ++ y ∷ []) (sym is)

  -- an element of the first ones and one more is that one or one of the first ones
  pub more-cases : (y : X) → Contains (take (i + 1) xs) y → Contains (take i xs) y ⊎ (x ≡ y)
  more-cases y held =
      elim (Contains-append_cases (take i xs) (x ∷ []) y (subst (λ (ys : List X). Contains ys y) one-more held)) [
        | inl before ↦ inl before
        | inr last ↦ elim (Contains-cases x [] y last) [ inl own ↦ inr own | inr none ↦ absurd (omega (arith, none.1)) ]
      ]

  pub more-before : (y : X) → Contains (take i xs) y → Contains (take (i + 1) xs) y
  more-before y held = subst (λ (ys : List X). Contains ys y) (sym one-more) (Contains-append_left (take i xs) (x ∷ []) y held)

  pub more-last : Contains (take (i + 1) xs) x
  more-last = subst (λ (ys : List X). Contains ys x) (sym one-more) (Contains-append_right (take i xs) (x ∷ []) x (Contains-first x []))

-- what one of the elements marks
abbrev pub IsMarkedByOne : {X : Type 0} → (X → Entry → Type 0) → List X → Entry → Type 0
IsMarkedByOne {X} marks xs f = (x : X) × Contains xs x × marks x f

-- none of them does so far, one more does, and then all do
module _ {X : Type 0} (marks : X → Entry → Type 0) (xs : List X) where
  pub none-marked : (m : Movements) → AreKept m → AreMarked m m (IsMarkedByOne marks (take 0 xs))
  none-marked m kept = unmarked m (IsMarkedByOne marks (take 0 xs)) kept (λ f held none. omega (arith, none.1.1))

  pub marked-more : (i : ℕ) (x : X) (old mid new : Movements) → i < length xs → x ≡ get_or xs i x
      → AreMarked old mid (IsMarkedByOne marks (take i xs)) → AreMarked mid new (marks x)
      → AreMarked old new (IsMarkedByOne marks (take (i + 1) xs))
  marked-more i x old mid new within is before own =
      marked-as old new (λ f. IsMarkedByOne marks (take i xs) f ⊎ marks x f) (IsMarkedByOne marks (take (i + 1) xs))
      (λ f held by. elim by [
        | inl one ↦ (one.0, more-before xs i x within is one.0 one.1, one.2)
        | inr last ↦ (x, more-last xs i x within is, last)
      ])
      (λ f held by. elim (more-cases xs i x within is by.0 by.1) [
        | inl one ↦ inl (by.0, one, by.2)
        | inr same ↦ inr (subst (λ (y : X). marks y f) (sym same) by.2)
      ])
      (marked-then old mid new (IsMarkedByOne marks (take i xs)) (marks x) before own)

  pub all-marked : (i : ℕ) (old new : Movements) → length xs ≤ i → AreMarked old new (IsMarkedByOne marks (take i xs))
      → AreMarked old new (IsMarkedByOne marks xs)
  all-marked i old new all are =
      subst (λ (ys : List X). AreMarked old new (IsMarkedByOne marks ys)) (take_all i xs all) are

-- one of the charges is to the line
charge-of : (charges : List Charge) (line : Target) → is_charged_in (charge_pairs charges) line ≡ true
    → (charge : Charge) × Contains charges charge × (charge.line ≡ line)
charge-of [] line any = absurd (false≢true any)
charge-of (c ∷ cs) line any =
    elim (or_cases (is_charge_of line (charge_pair c)) (list_any (is_charge_of line) (charge_pairs cs)) any) [
      | inl own ↦ (c, Contains-first c cs, is_same_target-true c.line line own)
      | inr later ↦ let one = charge-of cs line later in (one.0, Contains-later c cs one.0 one.1, one.2)
    ]

charge-in : (charges : List Charge) (charge : Charge) → Contains charges charge → is_charged_in (charge_pairs charges) charge.line ≡ true
charge-in [] charge held = absurd (omega (arith, held.1))
charge-in (c ∷ cs) charge held =
    elim (Contains-cases c cs charge held) [
      | inl same ↦
          or_left (is_charge_of charge.line (charge_pair c)) (list_any (is_charge_of charge.line) (charge_pairs cs))
          (subst (λ (d : Charge). is_charge_of d.line (charge_pair c) ≡ true) same (is_same_target-refl c.line))
      | inr later ↦
          or_right (is_charge_of charge.line (charge_pair c)) (list_any (is_charge_of charge.line) (charge_pairs cs))
          (charge-in cs charge later)
    ]

-- all that they mark, one after another
abbrev pub IsTouchedByAny : (Entry → Bool) → List Entry → List Entry → List Entry → List Charge → List Charge → Entry → Type 0
IsTouchedByAny test line coming gone charges uncharged f =
    IsAtOne coming f
    ⊎ (ComesAfterOne test line coming f ⊎ (ComesAfterOne test line gone f ⊎ (IsChargedByOne charges f ⊎ IsChargedByOne uncharged f)))

module _ (n : ℕ) (line coming gone : List Entry) (charges uncharged : List Charge) (in_order : IsInPostingOrder line)
    (new : AreNew n line coming) (among : (e : Entry) → Contains coming e → Contains line e) (going : AreOfRecords line gone) where
  abbrev pub goes : ℕ → Bool
  goes = has_record gone

  abbrev pub changes : Entry → Bool
  changes = is_changed n (has_record gone)

  abbrev pub charged : Target → Bool
  charged = is_charged_in (charge_pairs charges ++ charge_pairs uncharged)

  -- those that come are new, and come or go, and so are those that go
  is-new : (g : Entry) → Contains coming g → is_new n g ≡ true
  is-new g held = (new g (among g held)).1 held

  pub coming-changes : (g : Entry) → Contains coming g → changes g ≡ true
  coming-changes g held = or_left (is_new n g) (goes g.place.voucher.0) (is-new g held)

  pub gone-changes : (g : Entry) → Contains gone g → changes g ≡ true
  gone-changes g held = or_right (is_new n g) (goes g.place.voucher.0) (has-own gone g held)

  -- what is charged to the line of is charged by one or the other
  charged-parts : (target : Target) → charged target ≡ (is_charged_in (charge_pairs charges) target || is_charged_in (charge_pairs uncharged) target)
  charged-parts target = list_any-append (is_charge_of target) (charge_pairs charges) (charge_pairs uncharged)

  -- they touch what is touched
  after-touched : (g f : Entry) → Contains line g → changes g ≡ true → Contains line f → ComesAfter changes line g f
      → is_touched_by n goes charged line f ≡ true
  after-touched g f own changed held after =
      (touched_by-looks n goes charged line f in_order held).1 (elim after [
        | inl next ↦ inr (inr (inl (next.0, g, changed, own, next.1)))
        | inr others ↦ elim others [
          | inl leaves ↦ inr (inr (inr (inl (leaves.0, leaves.1, g, leaves.2))))
          | inr returns ↦ inr (inr (inr (inr (record {
            target = returns.0;
            returns = returns.2;
            g = g;
            held = own;
            new = changed;
            same = returns.1;
            before = returns.3;
          }))))
        ]
      ])

  charge-touched : (f : Entry) → Contains line f → charged (own_line f) ≡ true → is_touched_by n goes charged line f ≡ true
  charge-touched f held is = (touched_by-looks n goes charged line f in_order held).1 (inr (inl is))

  pub any-touched : (f : Entry) → Contains line f → IsTouchedByAny changes line coming gone charges uncharged f
      → is_touched_by n goes charged line f ≡ true
  any-touched f held (inl at) =
      (touched_by-looks n goes charged line f in_order held).1
      (inl (subst (λ (h : Entry). is_new n h ≡ true) (sym (one-at line at.0 f in_order (among at.0 at.1) held at.2)) (is-new at.0 at.1)))
  any-touched f held (inr (inl after)) =
      after-touched after.0 f (among after.0 after.1) (coming-changes after.0 after.1) held after.2
  any-touched f held (inr (inr (inl after))) =
      after-touched after.0 f (going.held after.0 after.1) (gone-changes after.0 after.1) held after.2
  any-touched f held (inr (inr (inr (inl by)))) =
      charge-touched f held (charged-parts (own_line f)
      ∙ or_left (is_charged_in (charge_pairs charges) (own_line f)) (is_charged_in (charge_pairs uncharged) (own_line f))
      (subst (λ (t : Target). is_charged_in (charge_pairs charges) t ≡ true) (sym by.2) (charge-in charges by.0 by.1)))
  any-touched f held (inr (inr (inr (inr by)))) =
      charge-touched f held (charged-parts (own_line f)
      ∙ or_right (is_charged_in (charge_pairs charges) (own_line f)) (is_charged_in (charge_pairs uncharged) (own_line f))
      (subst (λ (t : Target). is_charged_in (charge_pairs uncharged) t ≡ true) (sym by.2) (charge-in uncharged by.0 by.1)))

  -- and all that is
  touched-after : (g f : Entry) → Contains line g → changes g ≡ true → ComesAfter changes line g f
      → IsTouchedByAny changes line coming gone charges uncharged f
  touched-after g f own changed after =
      elim (or_cases (is_new n g) (goes g.place.voucher.0) changed) [
        | inl comes ↦ inr (inl (g, (new g own).0 comes, after))
        | inr leaves ↦ inr (inr (inl (g, going.whole g own leaves, after)))
      ]

  touched-charge : (f : Entry) → charged (own_line f) ≡ true → IsTouchedByAny changes line coming gone charges uncharged f
  touched-charge f is =
      elim (or_cases (is_charged_in (charge_pairs charges) (own_line f)) (is_charged_in (charge_pairs uncharged) (own_line f))
      (sym (charged-parts (own_line f)) ∙ is)) [
        | inl by ↦ let one = charge-of charges (own_line f) by in inr (inr (inr (inl (one.0, one.1, sym one.2))))
        | inr by ↦ let one = charge-of uncharged (own_line f) by in inr (inr (inr (inr (one.0, one.1, sym one.2))))
      ]

  pub touched-any : (f : Entry) → Contains line f → is_touched_by n goes charged line f ≡ true
      → IsTouchedByAny changes line coming gone charges uncharged f
  touched-any f held touched =
      elim ((touched_by-looks n goes charged line f in_order held).0 touched) [
        | inl own ↦ inl (f, (new f held).0 own, refl)
        | inr rest ↦ elim rest [
          | inl charge ↦ touched-charge f charge
          | inr more ↦ elim more [
            | inl starts ↦ touched-after starts.1 f starts.3 starts.2 (inl (starts.0, starts.4))
            | inr others ↦ elim others [
              | inl leaves ↦ touched-after leaves.2 f leaves.3.held leaves.3.new (inr (inl (leaves.0, leaves.1, leaves.3)))
              | inr returns ↦ touched-after returns.g f returns.held returns.new (inr (inr (returns.target, returns.same, returns.returns, returns.before)))
            ]
          ]
        ]
      ]

-- one part after another
module _ (test : Entry → Bool) (line coming gone : List Entry) (charges uncharged : List Charge) where
  pub marked-by_all : (old a b c d new : Movements) → line_of old ≡ line → AreMarked old a (IsAtOne coming)
      → AreMarked a b (ComesAfterOne test (line_of a) coming) → AreMarked b c (ComesAfterOne test (line_of b) gone)
      → AreMarked c d (IsChargedByOne charges) → AreMarked d new (IsChargedByOne uncharged)
      → AreMarked old new (IsTouchedByAny test line coming gone charges uncharged)
  marked-by_all old a b c d new same at came left charged uncharged_ones =
      let line_a : line_of a ≡ line = at.alike.entries ∙ same in
      let line_b : line_of b ≡ line = came.alike.entries ∙ line_a in
      let second : AreMarked a b (ComesAfterOne test line coming) =
      subst (λ (l : List Entry). AreMarked a b (ComesAfterOne test l coming)) line_a came in
      let third : AreMarked b c (ComesAfterOne test line gone) =
      subst (λ (l : List Entry). AreMarked b c (ComesAfterOne test l gone)) line_b left in
      marked-then old a new (IsAtOne coming)
      (λ f. ComesAfterOne test line coming f ⊎ (ComesAfterOne test line gone f ⊎ (IsChargedByOne charges f ⊎ IsChargedByOne uncharged f))) at
      (marked-then a b new (ComesAfterOne test line coming)
      (λ f. ComesAfterOne test line gone f ⊎ (IsChargedByOne charges f ⊎ IsChargedByOne uncharged f)) second
      (marked-then b c new (ComesAfterOne test line gone) (λ f. IsChargedByOne charges f ⊎ IsChargedByOne uncharged f) third
      (marked-then c d new (IsChargedByOne charges) (IsChargedByOne uncharged) charged uncharged_ones)))
