-- The earliest shortage of all stretches is the first of the line once some movements come and others go.
use Rattle.std.proofs.Common.{◌≡◌, ℕ, ◌+◌, ◌<◌, ℤ, pos, ◌+ℤ◌, ◌-ℤ◌, int_lt, Bool, true, false, cond, ◌&&◌, not, List, [], ◌∷◌, ◌++◌, Option, Some, None, Contains, length, get_or, drop, inl, inr, refl, sym, ap, ◌∙◌, subst, arith}
use Rattle.std.specs.List.{All, find}
use Rattle.std.specs.Option.{option_map}
use Rattle.std.proofs.lemmas.Bool.{false≢true}
use Rattle.std.proofs.lemmas.Int.{ints}
use Rattle.stock_nums.specs.Places.{is_before}
use Rattle.stock_nums.specs.declared.entry.Entry.{Entry}
use Rattle.stock_nums.specs.declared.entry.Key.{Key}
use Rattle.stock_nums.specs.declared.place.Place.{Place}
use Rattle.stock_nums.proofs.PlaceOrder.{is_before-irreflexive, is_before-transitive, is_before-asymmetric}
use Rattle.stock_model.specs.Enough.{entry_key, is_same_key, is_of_key, IsEnough, shortage}
use Rattle.stock_model.specs.InOrder.{IsBefore, IsInPostingOrder}
use Rattle.stock_model.specs.PostingOrder.{put_all}
use Rattle.stock_model.specs.declared.shortages.Shortage.{Shortage}
use Rattle.stock_model.proofs.Pairwise.{Pairwise, Across, Each, Each-all, Each-weaker, Each-from_Precedes, Pairwise-from_AllPairs}
use Rattle.stock_laws.proofs.Enough.{is_same_key-true, is_same_key-refl}
use Rattle.stock_laws.proofs.TestedSums.{Each-from_All}
use Rattle.key_order.specs.Changes.{change_of, changes_of, held_with, is_before_end, lacks_within, lack_at}
use Rattle.key_order.specs.declared.change.Lack.{Lack}
use Rattle.posting_order.proofs.Parting.{Pairwise-weaker}
use Rattle.quantity_check.specs.ChangedLines.{line_without, changed_line}
use Rattle.quantity_check.specs.OwnPlaces.{StandApart, HaveOwnPlaces}
use Rattle.quantity_check.specs.Stretches.{is_until_of, is_later_of, shortage_with_held, shortage_by_lack, units_more, end_of_stretch, held_with_new, lacks_itself, lack_after, shortage_after, shortage_in_stretch, earlier, earliest, shortage_by_adds, shortage_by_gone}
use Rattle.quantity_check.proofs.FirstLacks.{found_among-some, found_among-first, LacksThere}
use Rattle.quantity_check.proofs.FirstShorts.{lacks, told, shortage-find, find-first, find-never, never_lacks}
use Rattle.quantity_check.proofs.HeldSums.{held_with-put_all, held_before-apart, held_with-none}
use Rattle.quantity_check.proofs.Members.{AnyOf, AnyOf-some, AnyOf-parts, AnyOf-from_in, IsIn, IsIn-Contains, Each-in, Each-parts, Each-from_in, Each-put_all, AnyOf-put_all_line, AnyOf-put_all_new}
use Rattle.quantity_check.proofs.OwnPlaceLemmas.{StandApart-before, drop-next, Pairwise-Across, Across-head, Across-tail, IsInPostingOrder-put_all}
use Rattle.quantity_check.proofs.PlaceSteps.{false_from_never, true_from_never, before_not_after, before_apart}
use Rattle.quantity_check.proofs.SplitLines.{IsSplit, line_without-split, IsInPostingOrder-line_without, HaveOwnPlaces-line_without}
use Rattle.quantity_check.proofs.StretchEnds.{AreBeyond, AreBeyond-stretch, before_end-stretch, held_with-along, IsLatest, latest}

-- a shortage that is found is that of a movement that lacks
abbrev pub IsTrueOf : List Entry → Option Shortage → Type 0
IsTrueOf all found = (s : Shortage) → found ≡ Some s → AnyOf (λ m. (lacks all m ≡ true) × (s ≡ told all m)) all

-- a shortage is found, and not after the place
abbrev pub IsFoundBy : Option Shortage → Place → Type 0
IsFoundBy found q = (s : Shortage) × (found ≡ Some s) × (is_before q s.place ≡ false)

-- of two that are found the earlier is one of both
earlier-true : (all : List Entry) (a b : Option Shortage) → IsTrueOf all a → IsTrueOf all b → IsTrueOf all (earlier a b)
earlier-true all None b h k = k
earlier-true all (Some a) None h k = h
earlier-true all (Some a) (Some b) h k =
    elim (is_before b.place a.place) as (λ v. IsTrueOf all (cond v (Some b) (Some a))) [ true ↦ k | false ↦ h ]

-- and not after the first
earlier-first : (a b : Option Shortage) (q : Place) → IsFoundBy a q → IsFoundBy (earlier a b) q
earlier-first None b q h = let never : None ≡ Some h.0 = h.1 in cc
earlier-first (Some a) None q h = h
earlier-first (Some a) (Some b) q h = by_place (is_before b.place a.place) refl
  where
    not_before : is_before q a.place ≡ false
    not_before = let same : h.0 ≡ a = cc (h.1) in subst (λ (s : Shortage). is_before q s.place ≡ false) same h.2

    by_place : (v : Bool) → is_before b.place a.place ≡ v → IsFoundBy (cond v (Some b) (Some a)) q
    by_place true is =
        (b, refl, false_from_never (is_before q b.place) (λ k. false≢true (sym not_before ∙ is_before-transitive q b.place a.place k is)))
    by_place false is = (a, refl, not_before)

-- and not after the second
earlier-second : (a b : Option Shortage) (q : Place) → IsFoundBy b q → IsFoundBy (earlier a b) q
earlier-second None b q h = h
earlier-second (Some a) None q h = let never : None ≡ Some h.0 = h.1 in cc
earlier-second (Some a) (Some b) q h = by_place (is_before b.place a.place) refl
  where
    not_before : is_before q b.place ≡ false
    not_before = let same : h.0 ≡ b = cc (h.1) in subst (λ (s : Shortage). is_before q s.place ≡ false) same h.2

    by_place : (v : Bool) → is_before b.place a.place ≡ v → IsFoundBy (cond v (Some b) (Some a)) q
    by_place true is = (b, refl, not_before)
    by_place false is =
        (a, refl, false_from_never (is_before q a.place) (λ k. false≢true (sym not_before ∙ before_not_after q a.place b.place k is)))

-- what is told first of several movements is told of one of them
earliest-true : (all es : List Entry) (by : Entry → Option Shortage) (first : Option Shortage) → IsTrueOf all first → Each (λ e. IsTrueOf all (by e)) es → IsTrueOf all (earliest first by es)
earliest-true all [] by first h k = h
earliest-true all (e ∷ es) by first h k =
    earliest-true all es by (earlier first (by e)) (earlier-true all first (by e) h k.0) k.1

-- not after what was found before
earliest-before : (by : Entry → Option Shortage) (es : List Entry) (first : Option Shortage) (q : Place) → IsFoundBy first q → IsFoundBy (earliest first by es) q
earliest-before by [] first q h = h
earliest-before by (e ∷ es) first q h = earliest-before by es (earlier first (by e)) q (earlier-first first (by e) q h)

-- and not after what is told of any of them
earliest-found : (by : Entry → Option Shortage) (es : List Entry) (first : Option Shortage) (q : Place) → AnyOf (λ e. IsFoundBy (by e) q) es → IsFoundBy (earliest first by es) q
earliest-found by [] first q h = absurd h
earliest-found by (e ∷ es) first q h =
    elim h [
      | inl here ↦ earliest-before by es (earlier first (by e)) q (earlier-second first (by e) q here)
      | inr later ↦ earliest-found by es (earlier first (by e)) q later
    ]

-- what is told of the next one is looked at before what is told of the rest
pub earliest-step : (by : Entry → Option Shortage) (es : List Entry) (i : ℕ) (e : Entry) (first next all : Option Shortage) → i < length es → e ≡ get_or es i e
    → next ≡ earlier first (by e) → earliest first by (drop i es) ≡ all → earliest next by (drop (i + 1) es) ≡ all
earliest-step by es i e first next all within is found so_far =
    ap (λ (o : Option Shortage). earliest o by (drop (i + 1) es)) found ∙ sym (ap (earliest first by) (drop-next es i e within is)) ∙ so_far

-- nothing that is found is no movement's
none_true : (all : List Entry) → IsTrueOf all None
none_true all s h = cc

-- each movement that comes stands apart from the line
abbrev pub IsApart : List Entry → Entry → Type 0
IsApart line e = Each (λ f. f.place ≡ e.place → ⊥) line

Each-apart : (line es : List Entry) → Across StandApart line es → Each (IsApart line) es
Each-apart line [] h = tt
Each-apart line (e ∷ es) h =
    (Across-head StandApart line e es h, Each-apart line es (Across-tail StandApart line e es h))

-- each movement of the line stands apart from those that come
Each-line_apart : (line es : List Entry) → Across StandApart line es → Each (λ m. Each (λ e. m.place ≡ e.place → ⊥) es) line
Each-line_apart [] es h = tt
Each-line_apart (m ∷ line) es h = (Each-from_Precedes StandApart m es h.0, Each-line_apart line es h.1)

-- both parts of a test are true
both_true : (a b : Bool) → (a && b) ≡ true → (a ≡ true) × (b ≡ true)
both_true true true h = (refl, refl)
both_true true false h = absurd (false≢true h)
both_true false b h = absurd (false≢true h)

-- and back, of two and of three parts
and_true : (a b : Bool) → a ≡ true → b ≡ true → (a && b) ≡ true
and_true a b h k = rw (h, k) refl

all_true : (a b c : Bool) → a ≡ true → b ≡ true → c ≡ true → ((a && b) && c) ≡ true
all_true a b c h k l = rw (h, k, l) refl

-- what is false where its opposite is true
not_true : (b : Bool) → not b ≡ true → b ≡ false
not_true true h = absurd (false≢true h)
not_true false h = refl

-- a value that is made of an option is made of what is in it
map_some : {X Y : Type 0} (f : X → Y) (o : Option X) (y : Y) → option_map f o ≡ Some y → (x : X) × (o ≡ Some x) × (y ≡ f x)
map_some f None y h = cc
map_some f (Some x) y h = let same : f x ≡ y = cc in (x, refl, sym same)

-- the last movement of a key up to a place is that of the stretch in which the place lies
before_end-latest : (adds gone : List Entry) (q : Place) (e : Entry) → IsLatest (adds ++ gone) (entry_key e) q e → is_before_end (end_of_stretch adds gone e) q ≡ true
before_end-latest adds gone q e best =
    let parts = Each-parts (λ f. is_until_of (entry_key e) q f ≡ true → is_before e.place f.place ≡ false) adds gone best.last in
    before_end-stretch adds gone e q (beyond adds parts.0) (beyond gone parts.1)
  where
    until : (f : Entry) → is_of_key (entry_key e) f ≡ true → is_before q f.place ≡ false → is_until_of (entry_key e) q f ≡ true
    until f of_key not_after = rw (of_key, not_after) refl

    after : (f : Entry) → (is_until_of (entry_key e) q f ≡ true → is_before e.place f.place ≡ false) → is_later_of (entry_key e) e.place f ≡ true → is_before q f.place ≡ true
    after f last later =
        let tests = both_true (is_of_key (entry_key e) f) (is_before e.place f.place) later in
        true_from_never (is_before q f.place) (λ not_after. false≢true (sym (last (until f tests.0 not_after)) ∙ tests.1))

    beyond : (es : List Entry) → Each (λ f. is_until_of (entry_key e) q f ≡ true → is_before e.place f.place ≡ false) es → AreBeyond (entry_key e) e.place q es
    beyond es last =
        Each-weaker (λ f. is_until_of (entry_key e) q f ≡ true → is_before e.place f.place ≡ false) (λ f. is_later_of (entry_key e) e.place f ≡ true → is_before q f.place ≡ true) after es last

-- a movement is of the key of one that comes or goes, and stands after it and before the end of its stretch
record IsInStretch (adds gone : List Entry) (e m : Entry) : Type 0 where
  of_key : is_of_key (entry_key e) m ≡ true
  after : is_before e.place m.place ≡ true
  within : is_before_end (end_of_stretch adds gone e) m.place ≡ true

module _ (line left adds gone : List Entry) (split : IsSplit line left gone) where
  -- the line once all come and go
  abbrev all : List Entry
  all = put_all left adds

  -- what is held in it
  held_with-changed : (key : Key) (place : Place)
      → held_with (changes_of all) key place ≡ held_with (changes_of line) key place +ℤ (held_with (changes_of adds) key place -ℤ held_with (changes_of gone) key place)
  held_with-changed key place = omega (arith, ints, held_with-put_all left adds key place, split.held key place)

  -- with a movement that comes
  held_with-new : (e : Entry) → IsApart line e → held_with (changes_of all) (entry_key e) e.place ≡ held_with_new line adds gone e
  held_with-new e apart =
      held_with-changed (entry_key e) e.place
      ∙ ap (λ (z : ℤ). z +ℤ units_more adds gone e) (sym (held_before-apart line (entry_key e) e.place apart))

  -- with a movement of the line in the stretch of one that comes or goes
  held_with-old : (e : Entry) (q : Place) → is_before q e.place ≡ false → is_before_end (end_of_stretch adds gone e) q ≡ true
      → units_more adds gone e +ℤ held_with (changes_of line) (entry_key e) q ≡ held_with (changes_of all) (entry_key e) q
  held_with-old e q not_before within =
      let beyond = AreBeyond-stretch adds gone e q within in
      let by_adds = held_with-along adds (entry_key e) e.place q not_before beyond.0 in
      let by_gone = held_with-along gone (entry_key e) e.place q not_before beyond.1 in
      omega (arith, ints, by_adds, by_gone, held_with-changed (entry_key e) q)

  -- the movement lacks within the stretch
  abbrev LacksInStretch : Entry → Entry → Type 0
  LacksInStretch e m = LacksThere (changes_of line) (entry_key e) (Some e.place) (end_of_stretch adds gone e) (units_more adds gone e) m

  -- so it is in it, and fewer than none are held with it
  stretch-of : (e m : Entry) → LacksInStretch e m → IsInStretch adds gone e m × (int_lt (units_more adds gone e +ℤ held_with (changes_of line) (entry_key e) m.place) (pos 0) ≡ true)
  stretch-of e m there =
      let tests = both_true (is_before e.place m.place && is_before_end (end_of_stretch adds gone e) m.place) (int_lt (units_more adds gone e +ℤ held_with (changes_of line) (entry_key e) m.place) (pos 0)) there.1 in
      let sides = both_true (is_before e.place m.place) (is_before_end (end_of_stretch adds gone e) m.place) tests.0 in
      (record { of_key = there.0; after = sides.0; within = sides.1 }, tests.1)

  -- what is held with a movement in a stretch
  held_in_stretch : (e m : Entry) → IsInStretch adds gone e m → units_more adds gone e +ℤ held_with (changes_of line) (entry_key e) m.place ≡ held_with (changes_of all) (entry_key m) m.place
  held_in_stretch e m in_stretch =
      let same : entry_key m ≡ entry_key e = is_same_key-true (entry_key m) (entry_key e) in_stretch.of_key in
      held_with-old e m.place (is_before-asymmetric e.place m.place in_stretch.after) in_stretch.within ∙ ap (λ (k : Key). held_with (changes_of all) k m.place) (sym same)

  -- a movement in a stretch is none that goes
  stays-in_stretch : (e m : Entry) → IsInStretch adds gone e m → IsIn m line → IsIn m left
  stays-in_stretch e m in_stretch here =
      elim (split.either m here) [
        | inl stays ↦ stays
        | inr goes ↦
            let beyond = (AreBeyond-stretch adds gone e m.place in_stretch.within).1 in
            let later : is_later_of (entry_key e) e.place m ≡ true = and_true (is_of_key (entry_key e) m) (is_before e.place m.place) in_stretch.of_key in_stretch.after in
            let itself : is_before m.place m.place ≡ true = Each-in (λ f. is_later_of (entry_key e) e.place f ≡ true → is_before m.place f.place ≡ true) m gone beyond goes later in
            absurd (false≢true (sym (is_before-irreflexive m.place) ∙ itself))
      ]

  -- the lack of a movement of the line in a stretch is its shortage
  lack-told : (e m : Entry) (lack : Lack) → LacksInStretch e m → lack ≡ lack_at (changes_of line) (entry_key e) (units_more adds gone e) (change_of m)
      → (lacks all m ≡ true) × (shortage_by_lack (entry_key e) lack ≡ told all m)
  lack-told e m lack there is =
      let same : entry_key m ≡ entry_key e = is_same_key-true (entry_key m) (entry_key e) there.0 in
      let parts = stretch-of e m there in
      let held = held_in_stretch e m parts.0 in (
        sym (ap (λ (z : ℤ). int_lt z (pos 0)) held) ∙ parts.1,
        ap (shortage_by_lack (entry_key e)) is
            ∙ ap (λ (k : Key). shortage_by_lack k (lack_at (changes_of line) (entry_key e) (units_more adds gone e) (change_of m))) (sym same)
            ∙ ap (shortage_with_held m) held,
      )

  -- the first lack in a stretch is that of a movement that stays
  shortage_after-true : (e : Entry) → IsTrueOf all (shortage_after line adds gone e)
  shortage_after-true e s is =
      let found = map_some (shortage_by_lack (entry_key e)) (lack_after line adds gone e) s is in
      let lacking : Entry → Type 0 = λ m. LacksInStretch e m × (found.0 ≡ lack_at (changes_of line) (entry_key e) (units_more adds gone e) (change_of m)) in
      let one = AnyOf-some lacking line
      (found_among-some (changes_of line) (entry_key e) (Some e.place) (end_of_stretch adds gone e) (units_more adds gone e) line found.0 found.1) in
      let both = lack-told e one.0 found.0 one.2.0 one.2.1 in
      let stays = stays-in_stretch e one.0 (stretch-of e one.0 one.2.0).0 one.1 in
      AnyOf-put_all_line (λ m. (lacks all m ≡ true) × (s ≡ told all m)) left adds
      (AnyOf-from_in (λ m. (lacks all m ≡ true) × (s ≡ told all m)) one.0 left stays (both.0, found.2 ∙ both.1))

  -- what is found from a movement that comes on is the shortage of a movement
  shortage_in_stretch-true : (e : Entry) → IsIn e adds → IsApart line e → IsTrueOf all (shortage_in_stretch line adds gone e)
  shortage_in_stretch-true e here apart s is = by_test (lacks_itself line adds gone e) refl is
    where
      by_test : (b : Bool) → lacks_itself line adds gone e ≡ b → cond b (Some (shortage_with_held e (held_with_new line adds gone e))) (shortage_after line adds gone e) ≡ Some s
          → AnyOf (λ m. (lacks all m ≡ true) × (s ≡ told all m)) all
      by_test true short h =
          let same : shortage_with_held e (held_with_new line adds gone e) ≡ s = cc in
          let held = held_with-new e apart in
          let lacks_here : lacks all e ≡ true = ap (λ (z : ℤ). int_lt z (pos 0)) held ∙ short in
          let told_here : s ≡ told all e = sym same ∙ ap (shortage_with_held e) (sym held) in
          AnyOf-put_all_new (λ m. (lacks all m ≡ true) × (s ≡ told all m)) left adds
          (AnyOf-from_in (λ m. (lacks all m ≡ true) × (s ≡ told all m)) e adds here (lacks_here, told_here))
      by_test false short h = shortage_after-true e s h

  -- a movement that comes and lacks is found in its own stretch
  found-new : (e : Entry) → IsApart line e → lacks all e ≡ true → IsFoundBy (shortage_in_stretch line adds gone e) e.place
  found-new e apart short =
      let test : lacks_itself line adds gone e ≡ true = sym (ap (λ (z : ℤ). int_lt z (pos 0)) (held_with-new e apart)) ∙ short in (
        shortage_with_held e (held_with_new line adds gone e),
        ap (λ (b : Bool). cond b (Some (shortage_with_held e (held_with_new line adds gone e))) (shortage_after line adds gone e)) test,
        is_before-irreflexive e.place,
      )

  -- a movement of the line that lacks is found in the stretch that it is in
  found-after : (e m : Entry) → Pairwise IsBefore line → IsIn m line → IsInStretch adds gone e m → lacks all m ≡ true → IsFoundBy (shortage_after line adds gone e) m.place
  found-after e m order here in_stretch short =
      let held = held_in_stretch e m in_stretch in
      let lacks_there : lacks_within (changes_of line) (entry_key e) (Some e.place) (end_of_stretch adds gone e) (units_more adds gone e) (change_of m) ≡ true =
      all_true (is_before e.place m.place) (is_before_end (end_of_stretch adds gone e) m.place)
      (int_lt (units_more adds gone e +ℤ held_with (changes_of line) (entry_key e) m.place) (pos 0)) in_stretch.after in_stretch.within
      (ap (λ (z : ℤ). int_lt z (pos 0)) held ∙ short) in
      let found = found_among-first (changes_of line) (entry_key e) (Some e.place) (end_of_stretch adds gone e) (units_more adds gone e) line m.place order
      (AnyOf-from_in (λ n. LacksInStretch e n × (n.place ≡ m.place)) m line here ((in_stretch.of_key, lacks_there), refl)) in
      (shortage_by_lack (entry_key e) found.0, ap (option_map (shortage_by_lack (entry_key e))) found.1, found.2)

  -- the same from a movement that comes on
  found-in_stretch : (e m : Entry) → Pairwise IsBefore line → IsIn m line → IsInStretch adds gone e m → lacks all m ≡ true → IsFoundBy (shortage_in_stretch line adds gone e) m.place
  found-in_stretch e m order here in_stretch short = by_test (lacks_itself line adds gone e)
    where
      by_test : (b : Bool) → IsFoundBy (cond b (Some (shortage_with_held e (held_with_new line adds gone e))) (shortage_after line adds gone e)) m.place
      by_test true =
          (shortage_with_held e (held_with_new line adds gone e), refl, is_before-asymmetric e.place m.place in_stretch.after)
      by_test false = found-after e m order here in_stretch short

  -- the last movement that comes or goes up to one of the line is that in whose stretch this one is
  latest-stretch : (e m : Entry) → IsLatest (adds ++ gone) (entry_key m) m.place e → (m.place ≡ e.place → ⊥) → IsInStretch adds gone e m
  latest-stretch e m best apart =
      let parts = both_true (is_of_key (entry_key m) e) (not (is_before m.place e.place)) best.until in
      let same : entry_key e ≡ entry_key m = is_same_key-true (entry_key e) (entry_key m) parts.0 in
      record {
        of_key = ap (is_same_key (entry_key m)) same ∙ is_same_key-refl (entry_key m);
        after = before_apart e.place m.place (not_true (is_before m.place e.place) parts.1) (λ at. apart (sym at));
        within = before_end-latest adds gone m.place e (subst (λ (k : Key). IsLatest (adds ++ gone) k m.place e) (sym same) best);
      }

  -- what is found first of all
  abbrev found_first : Option Shortage
  found_first = earlier (shortage_by_adds line adds gone) (shortage_by_gone line adds gone)

  -- in a stretch of one that comes, or of one that goes
  found-by_adds : (q : Place) → AnyOf (λ e. IsFoundBy (shortage_in_stretch line adds gone e) q) adds → IsFoundBy found_first q
  found-by_adds q some =
      earlier-first (shortage_by_adds line adds gone) (shortage_by_gone line adds gone) q (earliest-found (shortage_in_stretch line adds gone) adds None q some)

  found-by_gone : (q : Place) → AnyOf (λ e. IsFoundBy (shortage_after line adds gone e) q) gone → IsFoundBy found_first q
  found-by_gone q some =
      earlier-second (shortage_by_adds line adds gone) (shortage_by_gone line adds gone) q (earliest-found (shortage_after line adds gone) gone None q some)

  -- each movement that stays and lacks is found, or an earlier one
  found-line : (m : Entry) → Pairwise IsBefore line → IsIn m left → lacks line m ≡ false → Each (λ e. m.place ≡ e.place → ⊥) adds → lacks all m ≡ true → IsFoundBy found_first m.place
  found-line m order stays enough apart short =
      elim (latest (entry_key m) m.place (adds ++ gone)) [
        | inl none ↦
            let parts = Each-parts (λ f. is_until_of (entry_key m) m.place f ≡ false) adds gone none in
            let held : held_with (changes_of all) (entry_key m) m.place ≡ held_with (changes_of line) (entry_key m) m.place =
            omega (arith, ints, held_with-changed (entry_key m) m.place, held_with-none adds (entry_key m) m.place parts.0, held_with-none gone (entry_key m) m.place parts.1) in
            absurd (false≢true (sym enough ∙ sym (ap (λ (z : ℤ). int_lt z (pos 0)) held) ∙ short))
        | inr some ↦
            let e = some.0 in
            let here = split.within m stays in
            elim (AnyOf-parts (λ f. f ≡ e) adds gone some.1) [
              | inl comes ↦
                  let in_stretch = latest-stretch e m some.2 (Each-in (λ f. m.place ≡ f.place → ⊥) e adds apart comes) in
                  found-by_adds m.place
                  (AnyOf-from_in (λ f. IsFoundBy (shortage_in_stretch line adds gone f) m.place) e adds comes (found-in_stretch e m order here in_stretch short))
              | inr goes ↦
                  let in_stretch = latest-stretch e m some.2 (Each-in (λ f. m.place ≡ f.place → ⊥) e gone (split.apart m stays) goes) in
                  found-by_gone m.place
                  (AnyOf-from_in (λ f. IsFoundBy (shortage_after line adds gone f) m.place) e gone goes (found-after e m order here in_stretch short))
            ]
      ]

  -- each that lacks is found, or an earlier one
  each_found : Pairwise IsBefore line → Each (λ m. lacks line m ≡ false) line → Across StandApart line adds → Each (λ m. lacks all m ≡ true → IsFoundBy found_first m.place) all
  each_found order enough across =
      let stays : Each (λ m. lacks all m ≡ true → IsFoundBy found_first m.place) left =
      Each-from_in (λ m. lacks all m ≡ true → IsFoundBy found_first m.place) left
      (λ m there. found-line m order there (Each-in (λ f. lacks line f ≡ false) m line enough (split.within m there))
      (Each-in (λ f. Each (λ e. f.place ≡ e.place → ⊥) adds) m line (Each-line_apart line adds across) (split.within m there))) in
      let comes : Each (λ m. lacks all m ≡ true → IsFoundBy found_first m.place) adds =
      Each-from_in (λ m. lacks all m ≡ true → IsFoundBy found_first m.place) adds
      (λ m there short. found-by_adds m.place
      (AnyOf-from_in (λ e. IsFoundBy (shortage_in_stretch line adds gone e) m.place) m adds there
      (found-new m (Each-in (IsApart line) m adds (Each-apart line adds across) there) short))) in
      Each-put_all (λ m. lacks all m ≡ true → IsFoundBy found_first m.place) left adds stays comes

  -- and what is found is the shortage of a movement
  found-true : Across StandApart line adds → IsTrueOf all found_first
  found-true across =
      let by_adds : IsTrueOf all (shortage_by_adds line adds gone) =
      earliest-true all adds (shortage_in_stretch line adds gone) None (none_true all)
      (Each-from_in (λ e. IsTrueOf all (shortage_in_stretch line adds gone e)) adds
      (λ e here. shortage_in_stretch-true e here (Each-in (IsApart line) e adds (Each-apart line adds across) here))) in
      let by_gone : IsTrueOf all (shortage_by_gone line adds gone) =
      earliest-true all gone (shortage_after line adds gone) None (none_true all) (Each-all (λ e. IsTrueOf all (shortage_after line adds gone e)) shortage_after-true gone) in
      earlier-true all (shortage_by_adds line adds gone) (shortage_by_gone line adds gone) by_adds by_gone

-- what is found is the first shortage, where it is a movement's and where each that lacks is found
shortage-found : (all : List Entry) (found : Option Shortage) → Pairwise IsBefore all → IsTrueOf all found → Each (λ m. lacks all m ≡ true → IsFoundBy found m.place) all → found ≡ shortage all
shortage-found all None order is_true each =
    let never : find (lacks all) all ≡ None =
    find-never all all (Each-weaker (λ m. lacks all m ≡ true → IsFoundBy None m.place) (λ m. lacks all m ≡ true → ⊥) (λ m h short. not_found (h short).0 (h short).1) all each) in
    sym (shortage-find all order ∙ ap (option_map (told all)) never)
  where
    not_found : (s : Shortage) → None ≡ Some s → ⊥
    not_found s h = cc
shortage-found all (Some s) order is_true each =
    sym (shortage-find all order
    ∙ find-first all all s order (is_true s refl)
    (Each-weaker (λ m. lacks all m ≡ true → IsFoundBy (Some s) m.place) (λ m. lacks all m ≡ true → is_before m.place s.place ≡ false)
    (λ m h short. same_place (h short).0 m.place (h short).1 (h short).2) all each))
  where
    same_place : (t : Shortage) (p : Place) → Some s ≡ Some t → is_before p t.place ≡ false → is_before p s.place ≡ false
    same_place t p h k = let same : t ≡ s = cc in subst (λ (x : Shortage). is_before p x.place ≡ false) same k

-- the movements that go are in the line, each named once
pub gone-split : (line gone : List Entry) → IsInPostingOrder line → All (Contains line) gone → HaveOwnPlaces gone → IsSplit line (line_without line gone) gone
gone-split line gone order held once =
    let apart : Pairwise StandApart line = Pairwise-weaker IsBefore StandApart StandApart-before line (Pairwise-from_AllPairs IsBefore line order) in
    line_without-split line gone apart
    (Each-weaker (Contains line) (λ e. IsIn e line) (λ e there. IsIn-Contains e line there) gone (Each-from_All (Contains line) gone held))
    (Pairwise-from_AllPairs StandApart gone once)

-- the earliest shortage of all stretches is the first one of the line once all come and go
pub first_of_stretches-shortage : (line adds gone : List Entry) → IsInPostingOrder line → IsEnough line → HaveOwnPlaces (line ++ adds) → All (Contains line) gone → HaveOwnPlaces gone
    → earlier (shortage_by_adds line adds gone) (shortage_by_gone line adds gone) ≡ shortage (changed_line line adds gone)
first_of_stretches-shortage line adds gone order enough apart held once =
    let left = line_without line gone in
    let split = gone-split line gone order held once in
    let in_order : Pairwise IsBefore line = Pairwise-from_AllPairs IsBefore line order in
    let across : Across StandApart line adds = Pairwise-Across StandApart line adds (Pairwise-from_AllPairs StandApart (line ++ adds) apart) in
    let all_in_order : IsInPostingOrder (put_all left adds) =
    IsInPostingOrder-put_all left adds (IsInPostingOrder-line_without line gone order) (HaveOwnPlaces-line_without line gone adds apart) in
    shortage-found (put_all left adds) (earlier (shortage_by_adds line adds gone) (shortage_by_gone line adds gone))
    (Pairwise-from_AllPairs IsBefore (put_all left adds) all_in_order) (found-true line left adds gone split across)
    (each_found line left adds gone split in_order (never_lacks line in_order enough) across)
