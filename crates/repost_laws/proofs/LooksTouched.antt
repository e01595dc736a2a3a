-- What new records touch, by which movements come before and after which.
use Rattle.std.proofs.Common.{◌≡◌, ℕ, Bool, true, false, ◌&&◌, ◌||◌, not, List, [], ◌∷◌, filter, reverse, Option, Some, None, inl, inr, refl, sym, ap, ◌∙◌, subst, arith, Contains, ◌⊎◌, ◌↔◌}
use Rattle.std.specs.List.{find, list_any}
use Rattle.std.specs.Option.{option_map_or}
use Rattle.std.proofs.lemmas.Bool.{false≢true, not-true, or_cases, or_left, or_right}
use Rattle.std.proofs.lemmas.List.Kept.{AllPairs-filter}
use Rattle.stock_nums.specs.Causes.{is_entering}
use Rattle.stock_nums.specs.Targets.{is_same_target}
use Rattle.stock_nums.specs.declared.cause.Cause.{Cause}
use Rattle.stock_nums.specs.declared.cause.Cause.TheVariants.{Receipt, Issue, TransferLeaves, TransferEnters, CustomerReturn, SupplierReturn}
use Rattle.stock_nums.specs.declared.cause.Method.{Method}
use Rattle.stock_nums.specs.declared.cause.Method.TheVariants.{Fifo, Average}
use Rattle.stock_nums.specs.declared.cause.Target.{Target}
use Rattle.stock_nums.specs.declared.entry.Entry.{Entry}
use Rattle.stock_model.specs.Enough.{entry_key, is_of_key}
use Rattle.stock_model.specs.InOrder.{IsBefore, IsInPostingOrder}
use Rattle.stock_model.specs.Returns.{is_return_of, returns_of}
use Rattle.stock_model.specs.Values.{own_line}
use Rattle.stock_model.proofs.Pairwise.{Pairwise, Pairwise-from_AllPairs, Contains-cases, Contains-first, Contains-later}
use Rattle.stock_laws.proofs.CostedRows.{both}
use Rattle.stock_laws.proofs.Linked.{is_same_target-true, is_same_target-refl}
use Rattle.cost_links.specs.Sources.{comes_before}
use Rattle.repost_laws.specs.Looks.{IsNextAfter, StartsFromOne, LeavesAfterOne, FollowsReturn, StartsFromNew, LeavesAfterNew, FollowsNewReturn}
use Rattle.repost_laws.specs.Touched.{is_new, is_changed, follows_by, follows_return, follows_any, is_touched, is_touched_by}
use Rattle.repost_laws.specs.Valuations.{earlier, last_of_key}
use Rattle.repost_laws.proofs.EarlierOnes.{never_both, never_itself}
use Rattle.repost_laws.proofs.Filtered.{Contains-filtered, Contains-filter}
use Rattle.repost_laws.proofs.NextOnes.{IsLastOf, found-last, none-last, next-last}
use Rattle.repost_laws.proofs.Turns.{both-true}

module _ {X : Type 0} (p : X → Bool) where
  -- one of the list passes
  record Passing (xs : List X) : Type 0 where
    x : X
    held : Contains xs x
    passes : p x ≡ true

  passing : (xs : List X) → list_any p xs ≡ true → Passing xs
  passing [] some = absurd (false≢true some)
  passing (y ∷ xs) some = by_cases (or_cases (p y) (list_any p xs) some) (passing xs)
    where
      by_cases : (p y ≡ true) ⊎ (list_any p xs ≡ true) → (list_any p xs ≡ true → Passing xs) → Passing (y ∷ xs)
      by_cases (inl own) rest = record { x = y; held = Contains-first y xs; passes = own }
      by_cases (inr later) rest =
          let one = rest later in
          record { x = one.x; held = Contains-later y xs one.x one.held; passes = one.passes }

  any-passing : (xs : List X) (x : X) → Contains xs x → p x ≡ true → list_any p xs ≡ true
  any-passing [] x held own = absurd (omega (arith, held.1))
  any-passing (y ∷ xs) x held own =
      elim (Contains-cases y xs x held) [
        | inl same ↦ or_left (p y) (list_any p xs) (ap p same ∙ own)
        | inr later ↦ or_right (p y) (list_any p xs) (any-passing xs x later own)
      ]

before-ordered : (line : List Entry) (f : Entry) → IsInPostingOrder line → Pairwise IsBefore (earlier line f)
before-ordered line f in_order = Pairwise-from_AllPairs IsBefore (earlier line f)
    (AllPairs-filter IsBefore (comes_before f.place) line in_order)

-- at the moving average a movement follows one that passes exactly where it is the next one after it
average-to : (test : Entry → Bool) (line : List Entry) (f : Entry) → IsInPostingOrder line → Contains line f → f.method ≡ Average
    → follows_by Average test (earlier line f) f ≡ true → StartsFromOne test line f
average-to test line f in_order held is follows = by_cases (last_of_key (earlier line f) (entry_key f)) refl follows
  where
    by_cases : (o : Option Entry) → last_of_key (earlier line f) (entry_key f) ≡ o → option_map_or test o false ≡ true
        → StartsFromOne test line f
    by_cases None last new = absurd (false≢true new)
    by_cases (Some g) last new =
        let of = found-last (is_of_key (entry_key f)) (earlier line f) g (before-ordered line f in_order) last in
        let in_line = Contains-filtered (comes_before f.place) line g of.held in
        (is, g, new, in_line.0, (next-last line f g in_order held in_line.0).0 last)

average-from : (test : Entry → Bool) (line : List Entry) (f : Entry) → IsInPostingOrder line → Contains line f → StartsFromOne test line f
    → follows_by f.method test (earlier line f) f ≡ true
average-from test line f in_order held (is, g, new, in_line, next) =
    ap (λ (m : Method). follows_by m test (earlier line f) f) is
    ∙ ap (λ (o : Option Entry). option_map_or test o false) ((next-last line f g in_order held in_line).1 next) ∙ new

-- one that passes, of the item of this one in its warehouse
abbrev is_passing_of : (Entry → Bool) → Entry → Entry → Bool
is_passing_of test f g = is_of_key (entry_key f) g && test g

-- first in, first out one that leaves follows one that passes exactly where some such is the last before it
last-new : (test : Entry → Bool) (line : List Entry) (f g : Entry) → IsLastOf (is_passing_of test f) (earlier line f) g → IsNextAfter test line g f
last-new test line f g of =
    let in_line = Contains-filtered (comes_before f.place) line g of.held in
    let own = both-true (is_of_key (entry_key f) g) (test g) of.passes in
    record {
      held = in_line.0;
      new = own.1;
      of_key = own.0;
      before = in_line.1;
      none_between = λ h other new key after before.
          elim (of.last h (Contains-filter (comes_before f.place) line h other before) (both key new)) [
            | inl same ↦ never_itself g (subst (IsBefore g) same after)
            | inr first ↦ never_both g h after first
          ];
    }

fifo-to : (test : Entry → Bool) (line : List Entry) (f : Entry) → IsInPostingOrder line → f.method ≡ Fifo
    → follows_by Fifo test (earlier line f) f ≡ true → LeavesAfterOne test line f
fifo-to test line f in_order is follows =
    let past = earlier line f in
    let parts = both-true (not (is_entering f.place.side)) (list_any test (filter (is_of_key (entry_key f)) past)) follows in
    let some = passing test (filter (is_of_key (entry_key f)) past) parts.1 in
    let of = Contains-filtered (is_of_key (entry_key f)) past some.x some.held in
    let one = last some.x of.0 (both of.1 some.passes) in
    (is, not-true (is_entering f.place.side) parts.0, one.0, one.1)
  where
    last : (x : Entry) → Contains (earlier line f) x → is_passing_of test f x ≡ true → (g : Entry) × IsNextAfter test line g f
    last x held own = by_cases (find (is_passing_of test f) (reverse (earlier line f))) refl
      where
        by_cases : (o : Option Entry) → find (is_passing_of test f) (reverse (earlier line f)) ≡ o
            → (g : Entry) × IsNextAfter test line g f
        by_cases None none = absurd (false≢true (sym (none-last (is_passing_of test f) (earlier line f) none x held) ∙ own))
        by_cases (Some g) found = (
          g,
          last-new test line f g
              (found-last (is_passing_of test f) (earlier line f) g (before-ordered line f in_order) found),
        )

fifo-from : (test : Entry → Bool) (line : List Entry) (f : Entry) → LeavesAfterOne test line f
    → follows_by f.method test (earlier line f) f ≡ true
fifo-from test line f (is, leaves, g, after) =
    let past = earlier line f in
    let in_past = Contains-filter (comes_before f.place) line g after.held after.before in
    ap (λ (m : Method). follows_by m test past f) is
    ∙ both (ap not leaves) (any-passing test (filter (is_of_key (entry_key f)) past) g
    (Contains-filter (is_of_key (entry_key f)) past g in_past after.of_key) after.new)

-- a return follows one that passes exactly where such a return of its line comes before it
earlier-return : (test : Entry → Bool) (line : List Entry) (f : Entry) (target : Target) → is_return_of target f.cause ≡ true
    → list_any test (filter (returns_of target) (earlier line f)) ≡ true → FollowsReturn test line f
earlier-return test line f target returns some =
    let one = passing test (filter (returns_of target) (earlier line f)) some in
    let of = Contains-filtered (returns_of target) (earlier line f) one.x one.held in
    let in_line = Contains-filtered (comes_before f.place) line one.x of.0 in
    record {
      target = target;
      returns = returns;
      g = one.x;
      held = in_line.0;
      new = one.passes;
      same = of.1;
      before = in_line.1;
    }

return-to : (test : Entry → Bool) (line : List Entry) (f : Entry) (cause : Cause) → f.cause ≡ cause
    → follows_return test (earlier line f) cause ≡ true → FollowsReturn test line f
return-to test line f (CustomerReturn target issued) is follows =
    earlier-return test line f target (ap (is_return_of target) is ∙ is_same_target-refl target) follows
return-to test line f (SupplierReturn target amount received) is follows =
    earlier-return test line f target (ap (is_return_of target) is ∙ is_same_target-refl target) follows
return-to test line f (Receipt amount) is follows = absurd (false≢true follows)
return-to test line f (Issue sold) is follows = absurd (false≢true follows)
return-to test line f TransferLeaves is follows = absurd (false≢true follows)
return-to test line f TransferEnters is follows = absurd (false≢true follows)

any-return : (test : Entry → Bool) (line : List Entry) (f : Entry) (target : Target) → (r : FollowsReturn test line f)
    → is_same_target target r.target ≡ true → list_any test (filter (returns_of target) (earlier line f)) ≡ true
any-return test line f target r is =
    let same : target ≡ r.target = is_same_target-true target r.target is in
    any-passing test (filter (returns_of target) (earlier line f)) r.g
    (Contains-filter (returns_of target) (earlier line f) r.g
    (Contains-filter (comes_before f.place) line r.g r.held r.before)
    (ap (λ (t : Target). returns_of t r.g) same ∙ r.same)) r.new

return-from : (test : Entry → Bool) (line : List Entry) (f : Entry) (cause : Cause) → (r : FollowsReturn test line f)
    → is_return_of r.target cause ≡ true → follows_return test (earlier line f) cause ≡ true
return-from test line f (CustomerReturn target issued) r returns = any-return test line f target r returns
return-from test line f (SupplierReturn target amount received) r returns = any-return test line f target r returns
return-from test line f (Receipt amount) r returns = absurd (false≢true returns)
return-from test line f (Issue sold) r returns = absurd (false≢true returns)
return-from test line f TransferLeaves r returns = absurd (false≢true returns)
return-from test line f TransferEnters r returns = absurd (false≢true returns)

-- why the movement is touched: it comes itself, another sum is charged to its line, or it follows one that passes
abbrev IsTouchedBy : ℕ → (Entry → Bool) → (Target → Bool) → List Entry → Entry → Type 0
IsTouchedBy n test charged line f =
    (is_new n f ≡ true) ⊎ (charged (own_line f) ≡ true) ⊎ StartsFromOne test line f ⊎ LeavesAfterOne test line f
    ⊎ FollowsReturn test line f

abbrev touches : ℕ → (Entry → Bool) → (Target → Bool) → List Entry → Entry → Bool
touches n test charged line f = is_new n f || (charged (own_line f) || follows_any test (earlier line f) f)

touched-to : (n : ℕ) (test : Entry → Bool) (charged : Target → Bool) (line : List Entry) (f : Entry) → IsInPostingOrder line
    → Contains line f → touches n test charged line f ≡ true → IsTouchedBy n test charged line f
touched-to n test charged line f in_order held touched =
    elim (or_cases (is_new n f) (charged (own_line f) || follows_any test past f) touched) [
      | inl new ↦ inl new
      | inr h ↦ elim (or_cases (charged (own_line f)) (follows_any test past f) h) [
        | inl own ↦ inr (inl own)
        | inr k ↦ elim (or_cases (follows_by f.method test past f) (follows_return test past f.cause) k) [
          | inl follows ↦ by_method f.method refl follows
          | inr follows ↦ inr (inr (inr (inr (return-to test line f f.cause refl follows))))
        ]
      ]
    ]
  where
    past : List Entry
    past = earlier line f

    by_method : (m : Method) → f.method ≡ m → follows_by m test (earlier line f) f ≡ true → IsTouchedBy n test charged line f
    by_method Average is follows = inr (inr (inl (average-to test line f in_order held is follows)))
    by_method Fifo is follows = inr (inr (inr (inl (fifo-to test line f in_order is follows))))

touched-from : (n : ℕ) (test : Entry → Bool) (charged : Target → Bool) (line : List Entry) (f : Entry) → IsInPostingOrder line
    → Contains line f → IsTouchedBy n test charged line f → touches n test charged line f ≡ true
touched-from n test charged line f in_order held by = from by
  where
    charge : Bool
    charge = charged (own_line f)

    stock : Bool
    stock = follows_by f.method test (earlier line f) f

    back : Bool
    back = follows_return test (earlier line f) f.cause

    by_stock : stock ≡ true → (is_new n f || (charge || (stock || back))) ≡ true
    by_stock is = or_right (is_new n f) (charge || (stock || back))
        (or_right charge (stock || back) (or_left stock back is))

    from : IsTouchedBy n test charged line f → (is_new n f || (charge || (stock || back))) ≡ true
    from (inl new) = or_left (is_new n f) (charge || (stock || back)) new
    from (inr (inl own)) = or_right (is_new n f) (charge || (stock || back)) (or_left charge (stock || back) own)
    from (inr (inr (inl starts))) = by_stock (average-from test line f in_order held starts)
    from (inr (inr (inr (inl leaves)))) = by_stock (fifo-from test line f leaves)
    from (inr (inr (inr (inr returns)))) =
        or_right (is_new n f) (charge || (stock || back))
        (or_right charge (stock || back)
        (or_right stock back (return-from test line f f.cause returns returns.returns)))

pub touched-looks : (n : ℕ) (charged : Target → Bool) (line : List Entry) (f : Entry) → IsInPostingOrder line → Contains line f
    → (is_touched n charged line f ≡ true)
    ↔ ((is_new n f ≡ true) ⊎ (charged (own_line f) ≡ true) ⊎ StartsFromNew n line f ⊎ LeavesAfterNew n line f
    ⊎ FollowsNewReturn n line f)
touched-looks n charged line f in_order held = (
  touched-to n (is_new n) charged line f in_order held,
  touched-from n (is_new n) charged line f in_order held,
)

-- where movements come and others go
pub touched_by-looks : (n : ℕ) (gone : ℕ → Bool) (charged : Target → Bool) (both : List Entry) (f : Entry) → IsInPostingOrder both
    → Contains both f
    → (is_touched_by n gone charged both f ≡ true)
    ↔ ((is_new n f ≡ true) ⊎ (charged (own_line f) ≡ true) ⊎ StartsFromOne (is_changed n gone) both f
    ⊎ LeavesAfterOne (is_changed n gone) both f ⊎ FollowsReturn (is_changed n gone) both f)
touched_by-looks n gone charged both f in_order held = (
  touched-to n (is_changed n gone) charged both f in_order held,
  touched-from n (is_changed n gone) charged both f in_order held,
)
