-- Running sums over a list, item by item.
use Rattle.std.proofs.Common.{◌≡◌, ℕ, ◌+◌, ◌-◌, ◌<◌, ◌≤◌, ◌++◌, ℤ, pos, ◌+ℤ◌, ◌≤ℤ◌, ◌<ℤ◌, slice_index_or, List, length, take, sym, ap, ◌∙◌, subst, arith, inl, inr}
use Rattle.std.proofs.lemmas.Bool.{cases_lt}
use Rattle.std.proofs.lemmas.Int.{ints}
use Rattle.std.proofs.Math.Seq.{take-append-add}
use Rattle.std.proofs.lemmas.List.{take_all, take-append-le}
use Rattle.block_list.specs.Sums.{total, running, IsFirstBelow, HasCome}
use Rattle.block_list.proofs.Totals.{total-append, total_more}

-- where it begins it is the base
pub running-start : {T : Type 0} (w : T → ℤ) (xs : List T) (from : ℕ) (base : ℤ) → base ≡ running w xs from base from
running-start w xs from base = omega (arith, ints)

pub HasCome-start : {T : Type 0} (w : T → ℤ) (xs : List T) (from end : ℕ) (base : ℤ) → from ≤ end → HasCome w xs from end base from base
HasCome-start w xs from end base ordered =
    record {
      after = omega arith;
      within = ordered;
      is = running-start w xs from base;
      enough = λ k more less. absurd (omega (arith, more, less));
    }

-- with one item more
pub running-more : {T : Type 0} (w : T → ℤ) (xs : List T) (from i : ℕ) (base before : ℤ) (x : T) → i < length xs → x ≡ slice_index_or xs i x
    → before ≡ running w xs from base i → before +ℤ w x ≡ running w xs from base (i + 1)
running-more w xs from i base before x within at is =
    let more = total_more w xs i x within at in
    omega (arith, ints, more, is)

pub HasCome-next : {T : Type 0} (w : T → ℤ) (xs : List T) (from end : ℕ) (base : ℤ) (i : ℕ) (before : ℤ) (x : T) (next : ℤ)
    → HasCome w xs from end base i before → i < end → end ≤ length xs → x ≡ slice_index_or xs i x → next ≡ before +ℤ w x → pos 0 ≤ℤ next
    → HasCome w xs from end base (i + 1) next
HasCome-next w xs from end base i before x next come less within at is enough =
    let sum : next ≡ running w xs from base (i + 1) = is ∙ running-more w xs from i base before x (omega (arith, less, within)) at come.is in
    record {
      after = omega (arith, come.after);
      within = omega (arith, less);
      is = sum;
      enough =
          λ k more upto.
          elim (cases_lt i k) [
            | inl last ↦ let one : i + 1 ≡ k = omega (arith, last, upto) in subst (λ (n : ℕ). pos 0 ≤ℤ running w xs from base n) one (subst (λ (s : ℤ). pos 0 ≤ℤ s) sum enough)
            | inr earlier ↦ come.enough k more earlier
          ];
    }

-- there it falls below 0
pub IsFirstBelow-crossed : {T : Type 0} (w : T → ℤ) (xs : List T) (from end : ℕ) (base : ℤ) (i : ℕ) (before : ℤ) (x : T) (next : ℤ)
    → HasCome w xs from end base i before → i < end → end ≤ length xs → x ≡ slice_index_or xs i x → next ≡ before +ℤ w x → next <ℤ pos 0
    → IsFirstBelow w xs from end base i before
IsFirstBelow-crossed w xs from end base i before x next come less within at is below =
    record {
      after = come.after;
      within = come.within;
      is = come.is;
      enough = come.enough;
      crossed = λ before_end. subst (λ (s : ℤ). s <ℤ pos 0) (is ∙ running-more w xs from i base before x (omega (arith, less, within)) at come.is) below;
    }

-- it does not fall below 0 before the end
pub IsFirstBelow-end : {T : Type 0} (w : T → ℤ) (xs : List T) (from end : ℕ) (base : ℤ) (i : ℕ) (before : ℤ) → HasCome w xs from end base i before → end ≤ i
    → IsFirstBelow w xs from end base i before
IsFirstBelow-end w xs from end base i before come all =
    record {
      after = come.after;
      within = come.within;
      is = come.is;
      enough = come.enough;
      crossed = λ before_end. absurd (omega (arith, before_end, all));
    }

-- a whole list is passed where no front of it takes the sum below 0
pub IsFirstBelow-passed : {T : Type 0} (w : T → ℤ) (xs : List T) (base low sum : ℤ) → ((k : ℕ) → low ≤ℤ total w (take k xs)) → pos 0 ≤ℤ (base +ℤ low) → sum ≡ total w xs
    → (from end : ℕ) (after : ℤ) (index : ℕ) → from ≡ 0 → end ≡ length xs → index ≡ end → after ≡ base +ℤ sum → IsFirstBelow w xs from end base index after
IsFirstBelow-passed w xs base low sum fronts enough is from end after index start all at past =
    let whole : total w (take index xs) ≡ total w xs = ap (total w) (take_all index xs (omega (arith, all, at))) in
    let none : total w (take from xs) ≡ pos 0 = ap (λ (n : ℕ). total w (take n xs)) start in
    record {
      after = omega (arith, start);
      within = omega (arith, at);
      is = omega (arith, ints, whole, none, is, past);
      enough = λ k more upto. let front = fronts k in omega (arith, ints, front, none, enough);
      crossed = λ before_end. absurd (omega (arith, at, before_end));
    }

-- the sums inside a part of a list
total-inside : {T : Type 0} (w : T → ℤ) (front b rest : List T) (k : ℕ) → k ≤ length b
    → total w (take (length front + k) (front ++ (b ++ rest))) ≡ total w front +ℤ total w (take k b)
total-inside w front b rest k inside =
    ap (total w) (take-append-add front (b ++ rest) k ∙ ap (λ xs. front ++ xs) (take-append-le k b rest inside)) ∙ total-append w front (take k b)

running-inside : {T : Type 0} (w : T → ℤ) (front b rest : List T) (from k : ℕ) (base : ℤ) → from ≤ length b → k ≤ length b
    → running w (front ++ (b ++ rest)) (length front + from) base (length front + k) ≡ running w b from base k
running-inside w front b rest from k base first last =
    let one = total-inside w front b rest from first in
    let two = total-inside w front b rest k last in
    omega (arith, ints, one, two)

-- what is first in a part of a list is first there in the list
pub IsFirstBelow-inside : {T : Type 0} (w : T → ℤ) (front b rest : List T) (from end : ℕ) (base : ℤ) (k : ℕ) (v : ℤ) → end ≤ length b
    → IsFirstBelow w b from end base k v → IsFirstBelow w (front ++ (b ++ rest)) (length front + from) (length front + end) base (length front + k) v
IsFirstBelow-inside w front b rest from end base k v inside first =
    let start : from ≤ length b = omega (arith, inside, first.after, first.within) in
    record {
      after = omega (arith, first.after);
      within = omega (arith, first.within);
      is = first.is ∙ sym (running-inside w front b rest from k base start (omega (arith, inside, first.within)));
      enough =
          λ n more upto.
          let m = n - length front in
          let at : length front + m ≡ n = omega (arith, more) in
          let own = first.enough m (omega (arith, more)) (omega (arith, more, upto)) in
          let same = running-inside w front b rest from m base start (omega (arith, upto, first.within, inside)) in
          subst (λ (i : ℕ). pos 0 ≤ℤ running w (front ++ (b ++ rest)) (length front + from) base i) at (subst (λ (s : ℤ). pos 0 ≤ℤ s) (sym same) own);
      crossed =
          λ less.
          let own = first.crossed (omega (arith, less)) in
          let same = running-inside w front b rest from (k + 1) base start (omega (arith, less, inside)) in
          let at : length front + (k + 1) ≡ length front + k + 1 = omega arith in
          subst (λ (i : ℕ). running w (front ++ (b ++ rest)) (length front + from) base i <ℤ pos 0) at (subst (λ (s : ℤ). s <ℤ pos 0) (sym same) own);
    }

-- a running sum goes on from where it has come
running-on : {T : Type 0} (w : T → ℤ) (xs : List T) (from i k : ℕ) (base u : ℤ) → u ≡ running w xs from base i → running w xs i u k ≡ running w xs from base k
running-on w xs from i k base u is = omega (arith, ints, is)

pub HasCome-further : {T : Type 0} (w : T → ℤ) (xs : List T) (from end : ℕ) (base : ℤ) (i : ℕ) (u : ℤ) (limit j : ℕ) (v : ℤ)
    → HasCome w xs from end base i u → IsFirstBelow w xs i limit u j v → limit ≤ end → HasCome w xs from end base j v
HasCome-further w xs from end base i u limit j v come first within =
    record {
      after = omega (arith, come.after, first.after);
      within = omega (arith, first.within, within);
      is = first.is ∙ running-on w xs from i j base u come.is;
      enough =
          λ k more upto.
          elim (cases_lt i k) [
            | inl later ↦ subst (λ (s : ℤ). pos 0 ≤ℤ s) (running-on w xs from i k base u come.is) (first.enough k later upto)
            | inr earlier ↦ come.enough k more earlier
          ];
    }

pub IsFirstBelow-further : {T : Type 0} (w : T → ℤ) (xs : List T) (from end : ℕ) (base : ℤ) (i : ℕ) (u : ℤ) (limit j : ℕ) (v : ℤ)
    → HasCome w xs from end base i u → IsFirstBelow w xs i limit u j v → limit ≤ end → (j < end → j < limit) → IsFirstBelow w xs from end base j v
IsFirstBelow-further w xs from end base i u limit j v come first within last =
    let further = HasCome-further w xs from end base i u limit j v come first within in
    record {
      after = further.after;
      within = further.within;
      is = further.is;
      enough = further.enough;
      crossed = λ less. subst (λ (s : ℤ). s <ℤ pos 0) (running-on w xs from i (j + 1) base u come.is) (first.crossed (last less));
    }

-- it stays where it is
pub IsFirstBelow-still : {T : Type 0} (w : T → ℤ) (xs : List T) (i end : ℕ) (u : ℤ) → end ≡ i → IsFirstBelow w xs i end u i u
IsFirstBelow-still w xs i end u is =
    record {
      after = omega arith;
      within = omega (arith, is);
      is = running-start w xs i u;
      enough = λ k more upto. absurd (omega (arith, more, upto));
      crossed = λ less. absurd (omega (arith, less, is));
    }

-- the same by the indices in the list
pub IsFirstBelow-placed : {T : Type 0} (w : T → ℤ) (front b rest : List T) (from end : ℕ) (base : ℤ) (k : ℕ) (v : ℤ) → end ≤ length b
    → IsFirstBelow w b from end base k v → (from_at end_at k_at : ℕ) → length front + from ≡ from_at → length front + end ≡ end_at → length front + k ≡ k_at
    → IsFirstBelow w (front ++ (b ++ rest)) from_at end_at base k_at v
IsFirstBelow-placed w front b rest from end base k v inside first from_at end_at k_at one two three =
    let xs = front ++ (b ++ rest) in
    subst (λ (i : ℕ). IsFirstBelow w xs from_at end_at base i v) three
    (subst (λ (i : ℕ). IsFirstBelow w xs from_at i base (length front + k) v) two
    (subst (λ (i : ℕ). IsFirstBelow w xs i (length front + end) base (length front + k) v) one (IsFirstBelow-inside w front b rest from end base k v inside first)))
