-- The tests of spots, as the texts make them.
use Rattle.std.proofs.Common.{◌≡◌, ℤ, Bool, true, false, not, ◌&&◌, Ordering, Less, Equal, Greater, Some, [], ◌∷◌, refl, sym, ap, ◌∙◌, true≢false}
use Rattle.std.specs.Ordering.{is_eq, is_ne, int_cmp}
use Rattle.std.specs.FinMap.{int_cmp-IsAntisymmetric}
use Rattle.std.proofs.lemmas.Bool.{and_parts, and_from}
use Rattle.std.proofs.lemmas.Cmp.{int_cmp_total, tied_itself}
use Rattle.sqlite_value.specs.declared.keys.Collation.TheVariants.{Binary}
use Rattle.sqlite_value.specs.declared.value.Value.{Value}
use Rattle.sqlite_value.specs.declared.value.Value.TheVariants.{Int}
use Rattle.sqlite_value.specs.Order.{Row, column}
use Rattle.sqlite_value.proofs.OrderLemmas.{value_cmp-Int}
use Rattle.sqlite_sql.specs.Ops.{binary, from_truth, is_true}
use Rattle.sqlite_schema.specs.Rules.{equal, differ}
use Rattle.sqlite_tables.specs.Rows.{spot_cells}

pub tied : (o : Ordering) → is_eq o ≡ true → o ≡ Equal
tied Less h = absurd (true≢false (sym h))
tied Equal h = refl
tied Greater h = absurd (true≢false (sym h))

truth-from : (b : Bool) → is_true (from_truth (Some b)) ≡ b
truth-from true = refl
truth-from false = refl

pub equal-Int : (m n : ℤ) → equal Binary (Int m) (Int n) ≡ is_eq (int_cmp m n)
unfolding binary
equal-Int m n = rw (value_cmp-Int m n) (truth-from (is_eq (int_cmp m n)))

is_ne_is : (o : Ordering) → is_ne o ≡ not (is_eq o)
is_ne_is Less = refl
is_ne_is Equal = refl
is_ne_is Greater = refl

pub differ-Int : (m n : ℤ) → differ (Int m) (Int n) ≡ not (is_eq (int_cmp m n))
unfolding binary
differ-Int m n = rw (value_cmp-Int m n) (truth-from (is_ne (int_cmp m n))) ∙ is_ne_is (int_cmp m n)

pub equal_self : (n : ℤ) → equal Binary (Int n) (Int n) ≡ true
equal_self n = equal-Int n n ∙ ap is_eq (tied_itself int_cmp_total n)

-- of integers the test is true of one alone
pub equal_is : (v : Value) (m n : ℤ) → v ≡ Int m → equal Binary v (Int n) ≡ true → v ≡ Int n
equal_is v m n is h = is ∙ ap Int (int_cmp-IsAntisymmetric m n (tied _ (sym (equal-Int m n) ∙ ap (λ x. equal Binary x (Int n)) (sym is) ∙ h)))

-- the three tests of a spot
abbrev pub is_at : Row → ℤ → ℤ → ℤ → Bool
is_at r a b c = equal Binary (column r 1) (Int a) && (equal Binary (column r 2) (Int b) && (equal Binary (column r 3) (Int c) && true))

pub at_from : (r : Row) (a b c : ℤ) → spot_cells r ≡ Int a ∷ Int b ∷ Int c ∷ [] → is_at r a b c ≡ true
at_from r a b c h =
    let first : column r 1 ≡ Int a = cc in
    let second : column r 2 ≡ Int b = cc in
    let third : column r 3 ≡ Int c = cc in
    rw (first, second, third) (and_from _ _ (equal_self a) (and_from _ _ (equal_self b) (and_from _ _ (equal_self c) refl)))

pub at_is : (r : Row) (l m n a b c : ℤ) → spot_cells r ≡ Int l ∷ Int m ∷ Int n ∷ [] → is_at r a b c ≡ true → spot_cells r ≡ Int a ∷ Int b ∷ Int c ∷ []
at_is r l m n a b c cells h =
    let first : column r 1 ≡ Int l = cc in
    let second : column r 2 ≡ Int m = cc in
    let third : column r 3 ≡ Int n = cc in
    let parts = and_parts (equal Binary (column r 1) (Int a)) _ h in
    let more = and_parts (equal Binary (column r 2) (Int b)) _ parts.1 in
    let last = and_parts (equal Binary (column r 3) (Int c)) _ more.1 in
    rw (equal_is _ l a first parts.0, equal_is _ m b second more.0, equal_is _ n c third last.0) refl
