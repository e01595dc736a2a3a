-- Up to which moment one more record closes the past.
use Rattle.std.proofs.Common.{◌≡◌, Bool, true, false, cond, List, [], ◌∷◌, ◌++◌, Option, Some, None, refl, sym, ap, ◌∙◌, arith}
use Rattle.std.proofs.lemmas.Bool.Decides.{nat_tests}
use Rattle.std.proofs.lemmas.List.Elements.{filter_map-append}
use Rattle.std.specs.List.{filter_map, cons_option}
use Rattle.stock_nums.specs.Places.{is_later}
use Rattle.stock_nums.specs.declared.moment.Moment.{Moment}
use Rattle.stock_model.specs.declared.records.Record.{Record}
use Rattle.stock_model.specs.Freezing.{closed_by, record_closes, later_of, later_if_any, latest, frozen}

-- what is after a later moment is after the earlier one
later-later : (a b c : Moment) → is_later b a ≡ true → is_later c b ≡ true → is_later c a ≡ true
later-later a b c first second = grind (arith, nat_tests)

-- what isn't after a moment that isn't after another isn't after that other
not_later-not_later : (a b c : Moment) → is_later b a ≡ false → is_later c b ≡ false → is_later c a ≡ false
not_later-not_later a b c first second = grind (arith, nat_tests)

-- it makes no difference which two of three moments are compared first
later_of-assoc : (a b c : Moment) → later_of (later_of a b) c ≡ later_of a (later_of b c)
later_of-assoc a b c =
    let step : (v w : Bool) → is_later b a ≡ v → is_later c b ≡ w → later_of (cond v b a) c ≡ later_of a (cond w c b) =
    λ v w. elim v as (λ x. is_later b a ≡ x → is_later c b ≡ w → later_of (cond x b a) c ≡ later_of a (cond w c b)) [
      | true ↦ elim w as (λ y. is_later b a ≡ true → is_later c b ≡ y → later_of b c ≡ later_of a (cond y c b)) [
        | true ↦ λ first second. ap (λ (y : Bool). cond y c b) second ∙ sym (ap (λ (y : Bool). cond y c a) (later-later a b c first second))
        | false ↦ λ first second. ap (λ (y : Bool). cond y c b) second ∙ sym (ap (λ (y : Bool). cond y b a) first)
      ]
      | false ↦ elim w as (λ y. is_later b a ≡ false → is_later c b ≡ y → later_of a c ≡ later_of a (cond y c b)) [
        | true ↦ λ first second. refl
        | false ↦ λ first second. ap (λ (y : Bool). cond y c a) (not_later-not_later a b c first second) ∙ sym (ap (λ (y : Bool). cond y b a) first)
      ]
    ] in
    step (is_later b a) (is_later c b) refl refl

later_if_any-none : (a : Option Moment) → later_if_any a None ≡ a
later_if_any-none None = refl
later_if_any-none (Some a) = refl

later_if_any-assoc : (a b c : Option Moment) → later_if_any (later_if_any a b) c ≡ later_if_any a (later_if_any b c)
later_if_any-assoc None b c = refl
later_if_any-assoc (Some a) None c = refl
later_if_any-assoc (Some a) (Some b) None = refl
later_if_any-assoc (Some a) (Some b) (Some c) = ap Some (later_of-assoc a b c)

-- the latest of some moments and of others is the later of the latest of both
latest-append : (ms ns : List Moment) → latest (ms ++ ns) ≡ later_if_any (latest ms) (latest ns)
latest-append [] ns = refl
latest-append (m ∷ ms) ns = ap (later_if_any (Some m)) (latest-append ms ns) ∙ sym (later_if_any-assoc (Some m) (latest ms) (latest ns))

latest-one : (m : Option Moment) → latest (cons_option m []) ≡ m
latest-one None = refl
latest-one (Some m) = refl

-- with one more record the past is closed up to the later of what was closed, and of what the record closes
pub frozen-snoc : (journal : List Record) (item : Record) → frozen (journal ++ item ∷ []) ≡ later_if_any (frozen journal) (closed_by item.what)
unfolding frozen
frozen-snoc journal item =
    ap latest (filter_map-append record_closes journal (item ∷ []))
    ∙ latest-append (filter_map record_closes journal) (filter_map record_closes (item ∷ []))
    ∙ ap (later_if_any (latest (filter_map record_closes journal))) (latest-one (closed_by item.what))
