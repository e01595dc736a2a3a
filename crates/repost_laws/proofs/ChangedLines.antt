-- A movement that is not touched by what comes and goes has the value that it had.
use Rattle.std.proofs.Common.{◌≡◌, ℕ, ◌+◌, Bool, true, false, cond, ◌&&◌, ◌||◌, ◌==◌, not, nat_lt, List, [], ◌∷◌, map, filter, reverse, sum_by, Some, refl, sym, ap, ◌∙◌, subst, arith, Option, None, unsigned_abs, Contains}
use Rattle.std.specs.List.{find, list_any}
use Rattle.std.specs.Option.{option_map_or}
use Rattle.std.proofs.lemmas.Bool.{false≢true}
use Rattle.std.proofs.lemmas.Bool.Decides.{nat_tests}
use Rattle.stock_nums.specs.Causes.{has_side, is_entering}
use Rattle.stock_nums.specs.Part.{part}
use Rattle.stock_nums.specs.declared.cause.Cause.{Cause}
use Rattle.stock_nums.specs.declared.cause.Cause.TheVariants.{Receipt, Issue, TransferLeaves, TransferEnters, CustomerReturn, SupplierReturn}
use Rattle.stock_nums.specs.declared.cause.Method.{Method}
use Rattle.stock_nums.specs.declared.cause.Method.TheVariants.{Fifo, Average}
use Rattle.stock_nums.specs.declared.cause.Target.{Target}
use Rattle.stock_nums.specs.declared.entry.Entry.{Entry}
use Rattle.stock_model.specs.Enough.{entry_key, is_of_key, enters_under, leaves_under, departed, entry_units}
use Rattle.stock_model.specs.Returns.{returns_of}
use Rattle.stock_model.specs.Values.{own_line}
use Rattle.stock_model.proofs.Pairwise.{Each, Contains-first, Contains-later}
use Rattle.stock_laws.proofs.Conserving.{side-is}
use Rattle.cost_links.specs.Sources.{comes_before}
use Rattle.cost_links.specs.Tables.{Held}
use Rattle.repost_laws.specs.Builds.{Suspects, IsBuilt, IsOfOldLine, IsOfKeptLine, IsFetch, IsChange}
use Rattle.repost_laws.specs.Pieces.{Piece, pieces, whole, has_units, piece_value}
use Rattle.repost_laws.specs.Touched.{is_new, is_old, is_gone, is_left, is_changed, follows_by, follows_return, follows_any, is_touched, is_touched_by}
use Rattle.repost_laws.specs.Valuations.{Valued, Found, empty, no_worth, worth_of, after_of, found_value, earlier, last_of_key, held_then, held_before_by, pieces_taken_by, is_leaving_by, left_by, sources_by, sources, taken_over, back_by, valued_with, valuation}
use Rattle.repost_laws.proofs.Filtered.{filter-both, filter-swap, filter-untouched, filter-reverse, find-untouched, or_false, Contains-filter, Contains-filtered}
use Rattle.repost_laws.proofs.Spreading.{Each-Contains, Each-reverse, Each-filter, Each-find, Each-sources}
use Rattle.repost_laws.proofs.Turns.{sum_by-agree, false-from}

-- the movements that fail the test
abbrev others : (Entry → Bool) → List Entry → List Entry
others test es = filter (λ x. not (test x)) es

-- what is held before the movement
held-kept : (method : Method) (test : Entry → Bool) (found : Found) (past : List Entry) (e : Entry)
    → follows_by method test past e ≡ false
    → held_before_by method found (others test past) e ≡ held_before_by method found past e
held-kept Fifo test found past e none = refl
held-kept Average test found past e none =
    let key = entry_key e in
    ap (held_then found) (ap (find (is_of_key key)) (filter-reverse (λ x. not (test x)) past)
    ∙ find-untouched test (is_of_key key) (reverse past) none)

-- how many units were returned
back-kept : (test : Entry → Bool) (past : List Entry) (cause : Cause) → follows_return test past cause ≡ false
    → back_by (others test past) cause ≡ back_by past cause
back-kept test past (Receipt amount) none = refl
back-kept test past (Issue sold) none = refl
back-kept test past TransferLeaves none = refl
back-kept test past TransferEnters none = refl
back-kept test past (CustomerReturn target issued) none = ap (sum_by entry_units)
    (filter-untouched test (returns_of target) past none)
back-kept test past (SupplierReturn target amount received) none = ap (sum_by entry_units)
    (filter-untouched test (returns_of target) past none)

-- which pieces are taken, where the movement leaves
pieces-kept : (method : Method) (test : Entry → Bool) (past : List Entry) (e : Entry) → is_entering e.place.side ≡ false
    → follows_by method test past e ≡ false
    → pieces_taken_by method (others test past) e ≡ pieces_taken_by method past e
pieces-kept Average test past e leaves none = refl
pieces-kept Fifo test past e leaves none =
    let key = entry_key e in
    let of_key : List Entry → List Entry = λ es. filter (is_of_key key) es in
    let missing : list_any test (of_key past) ≡ false = sym (ap (λ (b : Bool). not b && list_any test (of_key past)) leaves)
    ∙ none in
    let same : of_key (others test past) ≡ of_key past = filter-untouched test (is_of_key key) past missing in
    let enters : Entry → Bool = λ f. is_entering f.place.side in
    let leaving : Entry → Bool = λ f. not (is_entering f.place.side) in
    let ins : filter (enters_under key) (others test past) ≡ filter (enters_under key) past =
    filter-both (is_of_key key) enters (others test past) ∙ ap (filter enters) same
    ∙ sym (filter-both (is_of_key key) enters past) in
    let outs : filter (leaves_under key) (others test past) ≡ filter (leaves_under key) past =
    filter-both (is_of_key key) leaving (others test past) ∙ ap (filter leaving) same
    ∙ sym (filter-both (is_of_key key) leaving past) in
    let taken : List Entry → ℕ → List (Piece Entry) = λ es out. filter has_units (pieces entry_units es out (out + e.qty.0)) in
    ap (λ (es : List Entry). taken es (departed (others test past) key)) ins
    ∙ ap (λ (es : List Entry). taken (filter (enters_under key) past) (sum_by entry_units es)) outs

-- the first of three tests that all pass
first-true : (a b c : Bool) → ((a && b) && c) ≡ true → a ≡ true
first-true true b c h = refl
first-true false b c h = absurd (false≢true h)

-- what left by a line of a record that stays is none that goes
left-none : (gone : ℕ → Bool) (line : Target) (past : List Entry) → gone line.voucher.0 ≡ false
    → list_any (is_gone gone) (filter (is_leaving_by line) past) ≡ false
left-none gone line [] stays = refl
left-none gone line (f ∷ past) stays = by_cases (is_leaving_by line f) refl (left-none gone line past stays)
  where
    by_cases : (b : Bool) → is_leaving_by line f ≡ b → list_any (is_gone gone) (filter (is_leaving_by line) past) ≡ false
        → list_any (is_gone gone) (cond b (f ∷ filter (is_leaving_by line) past) (filter (is_leaving_by line) past)) ≡ false
    by_cases false is rest = rest
    by_cases true is rest =
        let one_record : (f.place.voucher.0 == line.voucher.0)
        ≡ true = first-true (f.place.voucher.0 == line.voucher.0) (f.place.line == line.line)
        (not (is_entering f.place.side)) is in
        let same : f.place.voucher.0 ≡ line.voucher.0 = grind (arith, nat_tests) in
        let fails : is_gone gone f ≡ false = ap gone same ∙ stays in
        ap (λ (b : Bool). b || list_any (is_gone gone) (filter (is_leaving_by line) past)) fails ∙ rest

left-kept : (gone : ℕ → Bool) (line : Target) (past : List Entry) → gone line.voucher.0 ≡ false
    → left_by (others (is_gone gone) past) line ≡ left_by past line
left-kept gone line past stays = ap (map (whole entry_units)) (filter-untouched (is_gone gone) (is_leaving_by line) past
    (left-none gone line past stays))

-- where the cause is a customer's return, it is of a line of a record that stays
abbrev KeepsLine : (ℕ → Bool) → Cause → Type 0
KeepsLine gone (CustomerReturn target issued) = gone target.voucher.0 ≡ false
KeepsLine gone _ = Unit {0}

-- from where value is taken over
sources-kept : (gone : ℕ → Bool) (past : List Entry) (e : Entry) (cause : Cause) → has_side cause e.place.side ≡ true
    → is_gone gone e ≡ false → KeepsLine gone cause → follows_by e.method (is_gone gone) past e ≡ false
    → sources_by (others (is_gone gone) past) e cause ≡ sources_by past e cause
sources-kept gone past e (Receipt amount) side own stays none = refl
sources-kept gone past e (Issue sold) side own stays none = pieces-kept e.method (is_gone gone) past e
    (side-is false e.place.side side) none
sources-kept gone past e TransferLeaves side own stays none = pieces-kept e.method (is_gone gone) past e
    (side-is false e.place.side side) none
sources-kept gone past e TransferEnters side own stays none = left-kept gone (own_line e) past own
sources-kept gone past e (CustomerReturn target issued) side own stays none = left-kept gone target past stays
sources-kept gone past e (SupplierReturn target amount received) side own stays none = pieces-kept e.method (is_gone gone) past e
    (side-is false e.place.side side) none

-- and so the value, whether those that go are there or not
pub valuation-kept : (gone : ℕ → Bool) (charged new_charged : Target → ℕ) (found : Found) (line both : List Entry) (e : Entry)
    → filter (is_left gone) both ≡ line → is_gone gone e ≡ false → KeepsLine gone e.cause
    → new_charged (own_line e) ≡ charged (own_line e) → follows_any (is_gone gone) (earlier both e) e ≡ false
    → valuation new_charged found both e ≡ valuation charged found line e
valuation-kept gone charged new_charged found line both e is_line own stays charges none =
    let past = earlier both e in
    let test = is_gone gone in
    let parts = or_false (follows_by e.method test past e) (follows_return test past e.cause) none in
    let front : earlier line e ≡ others test past =
    ap (filter (comes_before e.place)) (sym is_line) ∙ filter-swap (comes_before e.place) (λ x. not (test x)) both in
    let of : ℕ → ℕ → Held → List (Piece Entry) → Valued = λ c b h s. valued_with
    (record { charged = c; back = b; held = h; linked = taken_over found s }) e in
    let rest : List Entry → ℕ → Valued = λ es c. of c (back_by es e.cause) (held_before_by e.method found es e) (sources es e) in
    ap (rest past) charges
    ∙ sym (ap (λ (es : List Entry). rest es (charged (own_line e))) front
    ∙ ap (λ (b : ℕ). of (charged (own_line e)) b (held_before_by e.method found (others test past) e)
    (sources (others test past) e)) (back-kept test past e.cause parts.1)
    ∙ ap (λ (h : Held). of (charged (own_line e)) (back_by past e.cause) h (sources (others test past) e))
    (held-kept e.method test found past e parts.0)
    ∙ ap (of (charged (own_line e)) (back_by past e.cause) (held_before_by e.method found past e))
    (sources-kept gone past e e.cause e.sides own stays parts.0))

-- what is of a line of an old record stays where new records go
keeps-old : (n : ℕ) (cause : Cause) → IsOfOldLine n cause → KeepsLine (nat_lt n) cause
keeps-old n (Receipt amount) old = tt
keeps-old n (Issue sold) old = tt
keeps-old n TransferLeaves old = tt
keeps-old n TransferEnters old = tt
keeps-old n (CustomerReturn target issued) old = grind (arith, nat_tests)
keeps-old n (SupplierReturn target amount received) old = tt

-- where a movement that passes a test passes a wider one, none changed what this one takes over where none of the wider did
none-wider : (a b : Bool) → (a ≡ true → b ≡ true) → b ≡ false → a ≡ false
none-wider true b wider none = absurd (false≢true (sym none ∙ wider refl))
none-wider false b wider none = refl

module _ (p q : Entry → Bool) (wider : (e : Entry) → p e ≡ true → q e ≡ true) where
  any-wider : (es : List Entry) → list_any q es ≡ false → list_any p es ≡ false
  any-wider [] none = refl
  any-wider (e ∷ es) none =
      let parts = or_false (q e) (list_any q es) none in
      ap (λ (b : Bool). b || list_any p es) (none-wider (p e) (q e) (wider e) parts.0) ∙ any-wider es parts.1

  last-wider : (last : Option Entry) → option_map_or q last false ≡ false → option_map_or p last false ≡ false
  last-wider None none = refl
  last-wider (Some e) none = none-wider (p e) (q e) (wider e) none

  follows_by-wider : (method : Method) (past : List Entry) (e : Entry) → follows_by method q past e ≡ false → follows_by method p past e ≡ false
  follows_by-wider Average past e none = last-wider (last_of_key past (entry_key e)) none
  follows_by-wider Fifo past e none =
      let es = filter (is_of_key (entry_key e)) past in
      (elim (is_entering e.place.side) as (λ b. (not b && list_any q es) ≡ false → (not b && list_any p es) ≡ false) [
        | true ↦ λ h. refl
        | false ↦ λ h. any-wider es h
      ]) none

  follows_return-wider : (past : List Entry) (cause : Cause) → follows_return q past cause ≡ false → follows_return p past cause ≡ false
  follows_return-wider past (Receipt amount) none = refl
  follows_return-wider past (Issue sold) none = refl
  follows_return-wider past TransferLeaves none = refl
  follows_return-wider past TransferEnters none = refl
  follows_return-wider past (CustomerReturn target issued) none = any-wider (filter (returns_of target) past) none
  follows_return-wider past (SupplierReturn target amount received) none = any-wider (filter (returns_of target) past) none

  follows_any-wider : (past : List Entry) (e : Entry) → follows_any q past e ≡ false → follows_any p past e ≡ false
  follows_any-wider past e none =
      let parts = or_false (follows_by e.method q past e) (follows_return q past e.cause) none in
      ap (λ (b : Bool). b || follows_return p past e.cause) (follows_by-wider e.method past e parts.0)
      ∙ follows_return-wider past e.cause parts.1

-- by what is found alike of the movements of a line, each is valued alike
module _ (found new_found : Found) where
  abbrev IsFoundAlike : Entry → Type 0
  IsFoundAlike f = new_found f.place ≡ found f.place

  held-alike : (method : Method) (past : List Entry) (e : Entry) → Each IsFoundAlike past
      → held_before_by method new_found past e ≡ held_before_by method found past e
  held-alike Fifo past e all = refl
  held-alike Average past e all = by_cases (last_of_key past (entry_key e)) refl
    where
      by_cases : (o : Option Entry) → last_of_key past (entry_key e) ≡ o → held_then new_found o ≡ held_then found o
      by_cases None is = refl
      by_cases (Some f) is =
          ap (λ (o : Option Valued). option_map_or after_of o empty)
          (Each-find IsFoundAlike (is_of_key (entry_key e)) (reverse past) f (Each-reverse IsFoundAlike past all) is)

  taken-alike : (past : List Entry) (e : Entry) → Each IsFoundAlike past → taken_over new_found (sources past e) ≡ taken_over found (sources past e)
  taken-alike past e all =
      sum_by-agree (piece_value entry_units (found_value new_found)) (piece_value entry_units (found_value found)) (sources past e)
      (λ piece held. ap (λ (o : Option Valued). part (unsigned_abs (option_map_or worth_of o no_worth).value.0) piece.before piece.among (entry_units piece.giver))
      (Each-Contains (λ (one : Piece Entry). IsFoundAlike one.giver) (sources past e) piece (Each-sources IsFoundAlike past e e.cause all) held))

  each-alike : (es : List Entry) → ((f : Entry) → Contains es f → IsFoundAlike f) → Each IsFoundAlike es
  each-alike [] all = tt
  each-alike (e ∷ es) all = (all e (Contains-first e es), each-alike es (λ f held. all f (Contains-later e es f held)))

  pub valuation-alike : (charged : Target → ℕ) (line : List Entry) (e : Entry) → ((f : Entry) → Contains line f → IsFoundAlike f)
      → valuation charged new_found line e ≡ valuation charged found line e
  valuation-alike charged line e alike =
      let past = earlier line e in
      let all = Each-filter IsFoundAlike (comes_before e.place) line (each-alike line alike) in
      let of : Held → ℕ → Valued = λ h linked. valued_with
      (record { charged = charged (own_line e); back = back_by past e.cause; held = h; linked = linked }) e in
      ap (λ (h : Held). of h (taken_over new_found (sources past e))) (held-alike e.method past e all)
      ∙ ap (of (held_before_by e.method found past e)) (taken-alike past e all)

-- a fetch keeps that what is not suspect is what it is valued at
pub IsBuilt-fetch : (n : ℕ) (is_charged : Target → Bool) (charged : Target → ℕ) (line : List Entry) (suspects : Suspects)
    (new_charged : Target → ℕ) (new_line : List Entry) (new_suspects : Suspects) (found : Found)
    → IsFetch n is_charged charged line suspects new_charged new_line new_suspects → IsBuilt charged line found suspects
    → IsBuilt new_charged new_line found new_suspects
IsBuilt-fetch n is_charged charged line suspects new_charged new_line new_suspects found fetch built e held clear =
    let touched = or_false (suspects e.place) (is_touched n is_charged new_line e) (sym (fetch.marked e held) ∙ clear) in
    let own = or_false (is_new n e) (is_charged (own_line e) || follows_any (is_new n) (earlier new_line e) e) touched.1 in
    let charge = or_false (is_charged (own_line e)) (follows_any (is_new n) (earlier new_line e) e) own.1 in
    let is_old_one : is_old n e ≡ true = ap not own.0 in
    let before : Contains line e = subst (λ (es : List Entry). Contains es e) fetch.old
    (Contains-filter (is_old n) new_line e held is_old_one) in
    built e before touched.0
    ∙ ap Some (sym (valuation-kept (nat_lt n) charged new_charged found line new_line e fetch.old own.0
    (keeps-old n e.cause (fetch.returned e held is_old_one)) (fetch.others (own_line e) charge.0) charge.1))

-- what a kept line says of the records that come, and of those that go
kept-old : (n : ℕ) (gone : ℕ → Bool) (cause : Cause) → IsOfKeptLine n gone cause → KeepsLine (nat_lt n) cause × KeepsLine gone cause
kept-old n gone (Receipt amount) kept = (tt, tt)
kept-old n gone (Issue sold) kept = (tt, tt)
kept-old n gone TransferLeaves kept = (tt, tt)
kept-old n gone TransferEnters kept = (tt, tt)
kept-old n gone (CustomerReturn target issued) kept = (keeps-old n (CustomerReturn target issued) kept.0, kept.1)
kept-old n gone (SupplierReturn target amount received) kept = (tt, tt)

-- a change keeps that what is not suspect is what it is valued at
pub IsBuilt-change : (n : ℕ) (gone : ℕ → Bool) (is_charged : Target → Bool) (both : List Entry) (charged : Target → ℕ)
    (line : List Entry) (found : Found) (suspects : Suspects) (new_charged : Target → ℕ) (new_line : List Entry)
    (new_found : Found) (new_suspects : Suspects)
    → IsChange n gone is_charged both charged line found suspects new_charged new_line new_found new_suspects
    → IsBuilt charged line found suspects → IsBuilt new_charged new_line new_found new_suspects
IsBuilt-change n gone is_charged both charged line found suspects new_charged new_line new_found new_suspects change built e held clear =
    let past = earlier both e in
    let touched = or_false (suspects e.place) (is_touched_by n gone is_charged both e) (sym (change.marked e held) ∙ clear) in
    let own = or_false (is_new n e) (is_charged (own_line e) || follows_any (is_changed n gone) past e) touched.1 in
    let charge = or_false (is_charged (own_line e)) (follows_any (is_changed n gone) past e) own.1 in
    let is_old_one : is_old n e ≡ true = ap not own.0 in
    let among = Contains-filtered (is_left gone) both e (subst (λ (es : List Entry). Contains es e) (sym change.left) held) in
    let stays : is_gone gone e ≡ false = false-from (is_gone gone e) (λ goes. false≢true (ap not (sym goes) ∙ among.1)) in
    let before : Contains line e = subst (λ (es : List Entry). Contains es e) change.old
    (Contains-filter (is_old n) both e among.0 is_old_one) in
    let kept = kept-old n gone e.cause (change.returned e held is_old_one) in
    let none_new = follows_any-wider (is_new n) (is_changed n gone)
    (λ f new. ap (λ (b : Bool). b || is_gone gone f) new) past e charge.1 in
    let none_gone = follows_any-wider (is_gone gone) (is_changed n gone)
    (λ f goes. elim (is_new n f) as (λ b. (b || is_gone gone f) ≡ true) [ true ↦ refl | false ↦ goes ]) past e charge.1 in
    change.found_stays e held ∙ built e before touched.0
    ∙ ap Some (sym (valuation-kept (nat_lt n) charged new_charged found line both e change.old own.0 kept.0
    (change.others (own_line e) charge.0) none_new)
    ∙ valuation-kept gone new_charged new_charged found new_line both e change.left stays kept.1 refl none_gone
    ∙ sym (valuation-alike found new_found new_charged new_line e change.found_stays))
