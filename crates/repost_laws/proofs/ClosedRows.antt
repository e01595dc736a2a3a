-- What further records leave of a replay: the rows up to a moment that is closed.
use Rattle.std.proofs.Common.{◌≡◌, ℕ, zero, suc, ℤ, ◌+◌, ◌<◌, ◌≤◌, inl, inr, Bool, true, false, cond, ◌||◌, List, [], ◌∷◌, ◌++◌, length, filter, fold, Option, Some, None, pos, refl, sym, ap, ◌∙◌, subst, arith, append_assoc, Contains}
use Rattle.std.specs.List.{list_any, enumerate_from}
use Rattle.std.specs.Option.{option_map, option_map_or, option_and_then}
use Rattle.std.specs.Prelude.{◌+ℤ◌, ◌&&◌, not, nat_eq, nat_lt, slice_get}
use Rattle.std.proofs.lemmas.Bool.{cases_lt, false≢true}
use Rattle.std.proofs.lemmas.Bool.Decides.{nat_tests}
use Rattle.std.proofs.lemmas.List.{append-nil}
use Rattle.std.proofs.lemmas.List.Elements.{filter-append}
use Rattle.stock_nums.specs.Places.{is_later, is_before}
use Rattle.stock_nums.specs.Targets.{is_same_target}
use Rattle.stock_nums.specs.declared.cause.Cause.{Cause}
use Rattle.stock_nums.specs.declared.cause.Cause.TheVariants as cause
use Rattle.stock_nums.specs.declared.cause.Target.{Target}
use Rattle.stock_nums.specs.declared.entry.Entry.{Entry}
use Rattle.stock_nums.specs.declared.entry.Row.{Row}
use Rattle.stock_nums.specs.declared.entry.Worth.{Worth}
use Rattle.stock_nums.specs.declared.moment.Moment.{Moment}
use Rattle.stock_model.specs.declared.faults.PostFault.TheVariants.{Frozen}
use Rattle.stock_model.specs.declared.records.Record.{Record}
use Rattle.stock_model.specs.declared.vouchers.What.{What}
use Rattle.stock_model.specs.declared.vouchers.What.TheVariants.{Item, Store, Receipt, Issue, Transfer, CustomerReturn, SupplierReturn, Landed, Freeze, Cancel}
use Rattle.stock_model.specs.Entries.{cancels, takes_back, is_live, is_spared, entries}
use Rattle.stock_model.specs.Faults.{was_closed, says_closed, record_says_closed, cancels_closed, changes_closed, frozen_by, voucher_fault}
use Rattle.stock_model.specs.Freezing.{closed_by, later_if_any, frozen, is_closed}
use Rattle.stock_model.specs.InOrder.{IsBefore}
use Rattle.stock_model.specs.Journals.{AreSoundAfter, AreSound, AreLegal}
use Rattle.stock_model.specs.LandedCost.{added}
use Rattle.stock_model.specs.Masters.{record_at}
use Rattle.stock_model.specs.PostingOrder.{put, put_all, posting_line}
use Rattle.stock_model.specs.Replay.{valued, value_next, rows_of, replay}
use Rattle.stock_model.specs.Reports.{is_until}
use Rattle.stock_model.specs.TargetLines.{record_moment, target_moment}
use Rattle.stock_model.specs.Values.{own_line, value_by, share_by}
use Rattle.stock_model.specs.VoucherLines.{moment_of, moves_of, charged_targets}
use Rattle.stock_model.proofs.Freezes.{frozen-snoc}
use Rattle.stock_model.proofs.NoFaults.{NoFaults, NoFaults-from}
use Rattle.stock_model.proofs.Numbered.{Fails}
use Rattle.stock_model.proofs.Pairwise.{Precedes, Pairwise, Pairwise-from_AllPairs, Each, Each-all, Each-weaker, Each-from_Precedes, Contains-first, Contains-later}
use Rattle.stock_laws.proofs.Legality.{AreSound-from}
use Rattle.stock_laws.proofs.LineEntries.{HoldsOf, movements-each}
use Rattle.stock_laws.proofs.LiveEntries.{is_live-older}
use Rattle.stock_laws.proofs.LiveLines.{posting_line-step}
use Rattle.stock_laws.proofs.Linked.{is_same_target-true}
use Rattle.stock_laws.proofs.PostingLine.{IsInPostingOrder-posting_line}
use Rattle.stock_laws.proofs.RecordsAt.{said_by}
use Rattle.repost_laws.specs.Changes.{recharges, is_recharged}
use Rattle.repost_laws.specs.Touched.{is_the_line, charges_to}
use Rattle.repost_laws.proofs.Filtered.{or_false}
use Rattle.repost_laws.proofs.JournalFronts.{AreSoundAfter-first}
use Rattle.repost_laws.proofs.ChangedCharges.{added-change}
use Rattle.repost_laws.proofs.MoreRecords.{known-in_line}
use Rattle.repost_laws.proofs.SincePublished.{filter-implied}

-- the movement is not after the moment
abbrev is_early : Moment → Entry → Bool
is_early until e = is_closed until e.place.moment

-- the past is closed at least up to the moment
record IsClosedTo (journal : List Record) (until : Moment) : Type 0 where
  last : Moment
  is : frozen journal ≡ Some last
  reaches : is_later until last ≡ false

-- what isn't closed is after every closed moment, and what is closed stays within what is closed
after_both : (until last at : Moment) → is_later until last ≡ false → is_later at last ≡ true → is_later at until ≡ true
after_both until last at reaches after = grind (arith, nat_tests)

after_none : (until last at : Moment) → is_later until last ≡ false → is_later at until ≡ false → is_later at last ≡ false
after_none until last at reaches within = grind (arith, nat_tests)

later-than_closed : (until last at : Moment) → is_later until last ≡ false → is_closed last at ≡ false → is_closed until at ≡ false
later-than_closed until last at reaches late =
    let after : is_later at last ≡ true = grind arith in
    let later = after_both until last at reaches after in
    grind arith

closed_within : (until last at : Moment) → is_later until last ≡ false → is_closed until at ≡ true → is_closed last at ≡ true
closed_within until last at reaches early =
    let within : is_later at until ≡ false = grind arith in
    let before = after_none until last at reaches within in
    grind arith

reaches_further : (until last next : Moment) → is_later until last ≡ false → is_later next last ≡ true → is_later until next ≡ false
reaches_further until last next reaches later = grind (arith, nat_tests)

-- where the past is closed up to a moment, it stays so
IsClosedTo-snoc : (journal : List Record) (item : Record) (until : Moment) → IsClosedTo journal until → IsClosedTo (journal ++ item ∷ []) until
IsClosedTo-snoc journal item until closed =
    let grown : frozen (journal ++ item ∷ []) ≡ later_if_any (Some closed.last) (closed_by item.what) =
    frozen-snoc journal item ∙ ap (λ (before : Option Moment). later_if_any before (closed_by item.what)) closed.is in
    (elim (closed_by item.what) as (λ o. frozen (journal ++ item ∷ []) ≡ later_if_any (Some closed.last) o → IsClosedTo (journal ++ item ∷ []) until) [
      | None ↦ λ is. record { last = closed.last; is = is; reaches = closed.reaches }
      | Some next ↦
          let step : (b : Bool) → is_later next closed.last ≡ b → frozen (journal ++ item ∷ []) ≡ Some (cond b next closed.last) → IsClosedTo (journal ++ item ∷ []) until =
          λ b. elim b as (λ v. is_later next closed.last ≡ v → frozen (journal ++ item ∷ []) ≡ Some (cond v next closed.last) → IsClosedTo (journal ++ item ∷ []) until) [
            | true ↦ λ later is. record { last = next; is = is; reaches = reaches_further until closed.last next closed.reaches later }
            | false ↦ λ later is. record { last = closed.last; is = is; reaches = closed.reaches }
          ] in
          step (is_later next closed.last) refl
    ]) grown

-- of a record without the fault nothing is closed
none-closed : (b : Bool) (last : Moment) → cond b (Some (Frozen last)) None ≡ None → b ≡ false
none-closed true last none = cc
none-closed false last none = refl

changes_none : (journal : List Record) (what : What) (last : Moment) → NoFaults journal what → frozen journal ≡ Some last → changes_closed journal what last ≡ false
changes_none journal what last sound is =
    none-closed (changes_closed journal what last) last (ap (option_and_then (frozen_by journal what)) (sym is) ∙ sound.unclosed)

-- neither itself nor by what it takes back
changes-parts : (journal : List Record) (what : What) (last : Moment) → NoFaults journal what → frozen journal ≡ Some last
    → (says_closed journal last what ≡ false) × (cancels_closed journal last what ≡ false)
changes-parts journal what last sound is =
    or_false (says_closed journal last what) (cancels_closed journal last what) (changes_none journal what last sound is)

-- so its own movements are later
entries-late : (journal : List Record) (item : Record) (until : Moment) → NoFaults journal item.what → IsClosedTo journal until
    → Each (Fails (is_early until)) (entries journal item)
entries-late journal item until sound closed =
    let none = or_false (option_map_or (is_closed closed.last) (moment_of item.what) false) (list_any (was_closed journal closed.last) (charged_targets item.what)) (changes-parts journal item.what closed.last sound closed.is).0 in
    movements-each journal (length journal + 1) item.what (Fails (is_early until))
    (λ at timed i line is found found_is code named.
    let late : is_closed closed.last at ≡ false = ap (λ (o : Option Moment). option_map_or (is_closed closed.last) o false) (sym timed) ∙ none.0 in
    Each-all (HoldsOf (length journal + 1) at (1 + i) line code (Fails (is_early until)))
    (λ move store. later-than_closed until closed.last at closed.reaches late) (moves_of item.what line found))

-- and what it charges is of later receipts
targets-late : (journal : List Record) (last : Moment) (line : Target) (at : Moment) (targets : List Target) → target_moment journal line ≡ Some at → is_closed last at ≡ true
    → list_any (was_closed journal last) targets ≡ false → list_any (is_the_line line) targets ≡ false
targets-late journal last line at [] timed closed none = refl
targets-late journal last line at (target ∷ targets) timed closed none =
    let each = or_false (was_closed journal last target) (list_any (was_closed journal last) targets) none in
    let step : (b : Bool) → is_same_target target line ≡ b → b ≡ false =
    λ b. elim b as (λ v. is_same_target target line ≡ v → v ≡ false) [
      | true ↦ λ same.
          let one : target_moment journal target ≡ Some at = ap (target_moment journal) (is_same_target-true target line same) ∙ timed in
          let was : was_closed journal last target ≡ true = ap (λ (o : Option Moment). option_map_or (is_closed last) o false) one ∙ closed in
          sym was ∙ each.0
      | false ↦ λ same. refl
    ] in
    ap (λ (b : Bool). b || list_any (is_the_line line) targets) (step (is_same_target target line) refl)
    ∙ targets-late journal last line at targets timed closed each.1

-- the moment of a movement is that of its record
moment-at : (o : Option Record) (what : What) (at : Moment) → option_map said_by o ≡ Some what → moment_of what ≡ Some at → option_and_then record_moment o ≡ Some at
moment-at None what at held timed = cc
moment-at (Some r) what at held timed =
    let same : said_by r ≡ what = cc in
    ap moment_of same ∙ timed

-- what holds of each that a list has holds of each of it
each-held : {X : Type 0} (P : X → Type 0) (xs : List X) → ((x : X) → Contains xs x → P x) → Each P xs
each-held P [] holds = tt
each-held P (x ∷ xs) holds = (holds x (Contains-first x xs), each-held P xs (λ y held. holds y (Contains-later x xs y held)))

-- what holds of each that passes a test holds of those that are left by it
each-passing : {X : Type 0} (P : X → Type 0) (p : X → Bool) (xs : List X) → Each (λ x. p x ≡ true → P x) xs → Each P (filter p xs)
each-passing P p [] all = tt
each-passing P p (x ∷ xs) all =
    let step : (b : Bool) → p x ≡ b → Each P (cond b (x ∷ filter p xs) (filter p xs)) =
    λ b. elim b as (λ v. p x ≡ v → Each P (cond v (x ∷ filter p xs) (filter p xs))) [
      | true ↦ λ is. (all.0 is, each-passing P p xs all.1)
      | false ↦ λ is. each-passing P p xs all.1
    ] in
    step (p x) refl

-- the sum of what is charged to the movement's line is the same
abbrev AddsSame : List Record → List Record → Entry → Type 0
AddsSame journal new e = added new (own_line e) ≡ added journal (own_line e)

one-number : (a b : ℕ) → nat_eq a b ≡ true → a ≡ b
one-number a b same = grind (arith, nat_tests)

-- the record of a movement at a closed moment says so
said-closed : (journal : List Record) (last : Moment) (o : Option Record) (what : What) (at : Moment) → option_map said_by o ≡ Some what → moment_of what ≡ Some at → is_closed last at ≡ true
    → option_map_or (record_says_closed journal last) o false ≡ true
said-closed journal last None what at held timed closed = cc
said-closed journal last (Some r) what at held timed closed =
    let same : said_by r ≡ what = cc in
    ap (λ (m : Option Moment). option_map_or (is_closed last) m false || list_any (was_closed journal last) (charged_targets r.what)) (ap moment_of same ∙ timed)
    ∙ ap (λ (b : Bool). b || list_any (was_closed journal last) (charged_targets r.what)) closed

-- what is said at a closed moment is taken back by no record
cancels-says : (journal : List Record) (last : Moment) (what : What) (n : ℕ) → cancels n what ≡ true
    → cancels_closed journal last what ≡ option_map_or (record_says_closed journal last) (record_at journal n) false
unfolding cancels
cancels-says journal last (Item code method) n takes = cc
cancels-says journal last (Store code account) n takes = cc
cancels-says journal last (Receipt at lines) n takes = cc
cancels-says journal last (Issue at purpose lines) n takes = cc
cancels-says journal last (Transfer at lines) n takes = cc
cancels-says journal last (CustomerReturn at lines) n takes = cc
cancels-says journal last (SupplierReturn at lines) n takes = cc
cancels-says journal last (Landed charge basis targets) n takes = cc
cancels-says journal last (Freeze until) n takes = cc
cancels-says journal last (Cancel cancelled) n takes =
    ap (λ (k : ℕ). option_map_or (record_says_closed journal last) (record_at journal k) false) (one-number cancelled.0 n takes)

-- so a movement at a closed moment stays
spared-early : (journal : List Record) (item : Record) (until : Moment) (e : Entry) → AreSound journal → NoFaults journal item.what → IsClosedTo journal until
    → Contains (posting_line journal) e → is_early until e ≡ true → is_spared item e ≡ true
spared-early journal item until e sound none closed held early =
    let n = e.place.voucher.0 in
    let own = known-in_line journal e sound held in
    let parts = changes-parts journal item.what closed.last none closed.is in
    let within = closed_within until closed.last e.place.moment closed.reaches early in
    let says : option_map_or (record_says_closed journal closed.last) (record_at journal n) false ≡ true =
    said-closed journal closed.last (record_at journal n) own.what e.place.moment own.held own.timed within in
    let step : (b : Bool) → takes_back n item ≡ b → not b ≡ true =
    λ b. elim b as (λ v. takes_back n item ≡ v → not v ≡ true) [
      | true ↦ λ takes. absurd (false≢true (sym parts.1 ∙ cancels-says journal closed.last item.what n takes ∙ says))
      | false ↦ λ takes. refl
    ] in
    ap not refl ∙ step (takes_back n item) refl

-- one more record charges nothing to what was received up to a closed moment, and takes no charge of it back
get-front : {X : Type 0} (xs ys : List X) (i : ℕ) → i < length xs → slice_get (xs ++ ys) i ≡ slice_get xs i
get-front [] ys i within = absurd (omega (arith, within))
get-front (x ∷ xs) ys zero within = refl
get-front (x ∷ xs) ys (suc i) within = get-front xs ys i (omega (arith, within))

get-last : {X : Type 0} (xs : List X) (x : X) (i : ℕ) (found : X) → length xs ≤ i → slice_get (xs ++ x ∷ []) i ≡ Some found → x ≡ found
get-last [] x zero found beyond is = cc
get-last [] x (suc i) found beyond is = cc
get-last (y ∷ xs) x zero found beyond is = absurd (omega (arith, beyond))
get-last (y ∷ xs) x (suc i) found beyond is = get-last xs x i found (omega (arith, beyond)) is

none-numbered : {X : Type 0} (test : ℕ × X → Bool) (k : ℕ) (xs : List X) → ((i : ℕ) (x : X) → slice_get xs i ≡ Some x → test (k + i, x) ≡ false) → list_any test (enumerate_from k xs) ≡ false
none-numbered test k [] fails = refl
none-numbered test k (x ∷ xs) fails =
    let at : k + 0 ≡ k = omega arith in
    ap (λ (b : Bool). b || list_any test (enumerate_from (k + 1) xs)) (ap (λ (n : ℕ). test (n, x)) (sym at) ∙ fails zero x refl)
    ∙ none-numbered test (k + 1) xs (λ i y is.
    let later : k + suc i ≡ (k + 1) + i = omega arith in
    ap (λ (n : ℕ). test (n, y)) (sym later) ∙ fails (suc i) y is)

unrecharged-and : (a l c : Bool) → a ≡ false → ((a || (l && not l)) && c) ≡ false
unrecharged-and true l c none = cc
unrecharged-and false true c none = refl
unrecharged-and false false c none = refl

uncharged-and : (a c : Bool) → c ≡ false → (a && c) ≡ false
uncharged-and true c none = none
uncharged-and false c none = refl

module _ (journal : List Record) (item : Record) (last at : Moment) (line : Target) (timed : target_moment journal line ≡ Some at) (closed : is_closed last at ≡ true)
    (says : says_closed journal last item.what ≡ false) (takes : cancels_closed journal last item.what ≡ false) where
  -- what charges nothing at a closed moment charges nothing to the line
  unsaid : (what : What) → says_closed journal last what ≡ false → list_any (is_the_line line) (charged_targets what) ≡ false
  unsaid what none =
      targets-late journal last line at (charged_targets what) timed closed
      (or_false (option_map_or (is_closed last) (moment_of what) false) (list_any (was_closed journal last) (charged_targets what)) none).1

  older-none : (i : ℕ) (r : Record) → i < length journal → record_at journal (1 + i) ≡ Some r
      → recharges (length journal) (is_live journal) (is_live (journal ++ item ∷ [])) line (1 + i, r) ≡ false
  older-none i r within held =
      let n = length journal in
      let m = 1 + i in
      let live = is_live-older journal item m (omega (arith, within)) in
      let not_new : nat_lt n m ≡ false = old-test n m (omega (arith, within)) in
      let step : (b : Bool) → takes_back m item ≡ b → ((nat_lt n m || (is_live journal m && not (is_live journal m && not b))) && charges_to line r) ≡ false =
      λ b. elim b as (λ v. takes_back m item ≡ v → ((nat_lt n m || (is_live journal m && not (is_live journal m && not v))) && charges_to line r) ≡ false) [
        | true ↦ λ goes.
            let said : record_says_closed journal last r ≡ false =
            sym (ap (λ (o : Option Record). option_map_or (record_says_closed journal last) o false) held) ∙ sym (cancels-says journal last item.what m goes) ∙ takes in
            uncharged-and (nat_lt n m || (is_live journal m && not (is_live journal m && false))) (charges_to line r) (unsaid r.what said)
        | false ↦ λ stays.
            ap (λ (l : Bool). (nat_lt n m || (is_live journal m && not l)) && charges_to line r) (and-true (is_live journal m))
            ∙ unrecharged-and (nat_lt n m) (is_live journal m) (charges_to line r) not_new
      ] in
      ap (λ (l : Bool). (nat_lt n m || (is_live journal m && not l)) && charges_to line r) live ∙ step (takes_back m item) refl
    where
      and-true : (b : Bool) → (b && true) ≡ b
      and-true true = refl
      and-true false = refl

      old-test : (n m : ℕ) → m ≤ n → nat_lt n m ≡ false
      old-test n m few = grind (arith, nat_tests)

  none-recharged : is_recharged journal (item ∷ []) line ≡ false
  none-recharged =
      none-numbered (recharges (length journal) (is_live journal) (is_live (journal ++ item ∷ [])) line) 1 (journal ++ item ∷ []) (λ i r is.
      elim (cases_lt i (length journal)) [
        | inl within ↦ older-none i r within (numbered i (sym (get-front journal (item ∷ []) i within) ∙ is))
        | inr beyond ↦
            let same : item ≡ r = get-last journal item i r beyond is in
            uncharged-and (nat_lt (length journal) (1 + i) || (is_live journal (1 + i) && not (is_live (journal ++ item ∷ []) (1 + i)))) (charges_to line r)
            (subst (λ (one : Record). charges_to line one ≡ false) same (unsaid item.what says))
      ])
    where
      numbered : {r : Record} (i : ℕ) → slice_get journal i ≡ Some r → record_at journal (1 + i) ≡ Some r
      numbered {r} i is = let next : suc i ≡ 1 + i = omega arith in subst (λ (k : ℕ). record_at journal k ≡ Some r) next is

adds-same : (journal : List Record) (item : Record) (until : Moment) → AreSound journal → NoFaults journal item.what → IsClosedTo journal until
    → Each (AddsSame journal (journal ++ item ∷ [])) (filter (is_early until) (posting_line journal))
adds-same journal item until sound none closed =
    let new = journal ++ item ∷ [] in
    let line = posting_line journal in
    let parts = changes-parts journal item.what closed.last none closed.is in
    each-passing (AddsSame journal new) (is_early until) line
    (each-held (λ e. is_early until e ≡ true → AddsSame journal new e) line
    (λ e held early.
    let own = known-in_line journal e sound held in
    let timed : target_moment journal (own_line e) ≡ Some e.place.moment = moment-at (record_at journal e.place.voucher.0) own.what e.place.moment own.held own.timed in
    added-change journal (item ∷ []) (own_line e) sound
    (none-recharged journal item closed.last e.place.moment (own_line e) timed (closed_within until closed.last e.place.moment closed.reaches early) parts.0 parts.1)))

-- the worth of a movement by its cause, and that of a receipt by its charges
abbrev worth_by : List Record → List Row → Entry → Cause → Worth
worth_by journal before e c = record { value = record { 0 = value_by journal before e c }; share = record { 0 = share_by journal before e c } }

abbrev received_worth : ℤ → ℕ → Worth
received_worth amount charges = record { value = record { 0 = amount +ℤ pos charges }; share = record { 0 = pos charges } }

abbrev row_with : Entry → Worth → Row
row_with e worth = record { entry = e; worth = worth }

-- movements of which the charges are the same are worth the same
worth-same : (journal new : List Record) (before : List Row) (e : Entry) (c : Cause) → AddsSame journal new e → worth_by new before e c ≡ worth_by journal before e c
worth-same journal new before e (cause.Receipt amount) same = ap (received_worth amount.0) same
worth-same journal new before e (cause.Issue sold) same = refl
worth-same journal new before e cause.TransferLeaves same = refl
worth-same journal new before e cause.TransferEnters same = refl
worth-same journal new before e (cause.CustomerReturn target issued) same = refl
worth-same journal new before e (cause.SupplierReturn target amount received) same = refl

rows-same : (journal new : List Record) (before : List Row) (es : List Entry) → Each (AddsSame journal new) es → fold (value_next new) before es ≡ fold (value_next journal) before es
rows-same journal new before [] all = refl
rows-same journal new before (e ∷ es) all =
    rows-same journal new (value_next new before e) es all.1
    ∙ ap (λ (worth : Worth). fold (value_next journal) (before ++ row_with e worth ∷ []) es) (worth-same journal new before e e.cause all.0)

-- what is put among others and fails a test changes nothing of what passes it
filter-put : (p : Entry → Bool) (line : List Entry) (e : Entry) → p e ≡ false → filter p (put line e) ≡ filter p line
filter-put p [] e fails = ap (λ (b : Bool). cond b (e ∷ []) []) fails
filter-put p (f ∷ fs) e fails =
    elim (is_before e.place f.place) as (λ b. filter p (cond b (e ∷ f ∷ fs) (f ∷ put fs e)) ≡ filter p (f ∷ fs)) [
      | true ↦ ap (λ (b : Bool). cond b (e ∷ filter p (f ∷ fs)) (filter p (f ∷ fs))) fails
      | false ↦ ap (λ (rest : List Entry). cond (p f) (f ∷ rest) rest) (filter-put p fs e fails)
    ]

filter-put_all : (p : Entry → Bool) (line es : List Entry) → Each (Fails p) es → filter p (put_all line es) ≡ filter p line
filter-put_all p line [] all = refl
filter-put_all p line (e ∷ es) all = filter-put_all p (put line e) es all.1 ∙ filter-put p line e all.0

filter-none : (p : Entry → Bool) (es : List Entry) → Each (Fails p) es → filter p es ≡ []
filter-none p [] all = refl
filter-none p (e ∷ es) all = ap (λ (b : Bool). cond b (e ∷ filter p es) (filter p es)) all.0 ∙ filter-none p es all.1

-- the rows up to a moment, with one row more
filter-row : (until : Moment) (journal : List Record) (before : List Row) (e : Entry) (b : Bool) → is_early until e ≡ b
    → filter (is_until (Some until)) (value_next journal before e) ≡ filter (is_until (Some until)) before ++ cond b (valued journal before e ∷ []) []
filter-row until journal before e b is =
    filter-append (is_until (Some until)) before (valued journal before e ∷ [])
    ∙ ap (λ (v : Bool). filter (is_until (Some until)) before ++ cond v (valued journal before e ∷ []) []) is

-- the rows of later movements are none up to the moment
rows-late : (until : Moment) (journal : List Record) (before : List Row) (es : List Entry) → Each (Fails (is_early until)) es
    → filter (is_until (Some until)) (fold (value_next journal) before es) ≡ filter (is_until (Some until)) before
rows-late until journal before [] all = refl
rows-late until journal before (e ∷ es) all =
    rows-late until journal (value_next journal before e) es all.1 ∙ filter-row until journal before e false all.0
    ∙ append-nil (filter (is_until (Some until)) before)

-- once a movement is later than the moment, each after it is
abbrev StaysLate : Moment → Entry → Entry → Type 0
StaysLate until a b = is_early until a ≡ false → is_early until b ≡ false

-- so the rows up to a moment are those of the movements up to it
rows-front : (until : Moment) (journal : List Record) (before : List Row) (es : List Entry) → Pairwise (StaysLate until) es → filter (is_until (Some until)) before ≡ before
    → filter (is_until (Some until)) (fold (value_next journal) before es) ≡ fold (value_next journal) before (filter (is_early until) es)
rows-front until journal before [] order all = all
rows-front until journal before (e ∷ es) order all =
    let p = is_early until in
    let shown = filter (is_until (Some until)) in
    let step : (b : Bool) → p e ≡ b → shown (fold (value_next journal) (value_next journal before e) es) ≡ fold (value_next journal) before (cond b (e ∷ filter p es) (filter p es)) =
    λ b. elim b as (λ v. p e ≡ v → shown (fold (value_next journal) (value_next journal before e) es) ≡ fold (value_next journal) before (cond v (e ∷ filter p es) (filter p es))) [
      | true ↦ λ early.
          rows-front until journal (value_next journal before e) es order.1
          (filter-row until journal before e true early ∙ ap (λ (rows : List Row). rows ++ valued journal before e ∷ []) all)
      | false ↦ λ late.
          let later : Each (Fails p) es = Each-weaker (StaysLate until e) (Fails p) (λ f stays. stays late) es (Each-from_Precedes (StaysLate until) e es order.0) in
          rows-late until journal before (e ∷ es) (late, later) ∙ all
          ∙ sym (ap (fold (value_next journal) before) (filter-none p es later))
    ] in
    step (p e) refl

later_after : (a b : Entry) (until : Moment) → IsBefore a b → is_later a.place.moment until ≡ true → is_later b.place.moment until ≡ true
later_after a b until before later = grind (arith, nat_tests)

stays_late : (until : Moment) (a b : Entry) → IsBefore a b → StaysLate until a b
stays_late until a b before late =
    let later : is_later a.place.moment until ≡ true = grind arith in
    let after = later_after a b until before later in
    grind arith

-- what holds of two wherever one comes before the other
Precedes-weaker : {X : Type 0} (R S : X → X → Type 0) → ((a b : X) → R a b → S a b) → (x : X) (xs : List X) → Precedes R x xs → Precedes S x xs
Precedes-weaker R S to x [] all = tt
Precedes-weaker R S to x (y ∷ ys) all = (to x y all.0, Precedes-weaker R S to x ys all.1)

Pairwise-weaker : {X : Type 0} (R S : X → X → Type 0) → ((a b : X) → R a b → S a b) → (xs : List X) → Pairwise R xs → Pairwise S xs
Pairwise-weaker R S to [] all = tt
Pairwise-weaker R S to (x ∷ xs) all = (Precedes-weaker R S to x xs all.0, Pairwise-weaker R S to xs all.1)

line-order : (journal : List Record) (until : Moment) → Pairwise (StaysLate until) (posting_line journal)
line-order journal until =
    Pairwise-weaker IsBefore (StaysLate until) (stays_late until) (posting_line journal)
    (Pairwise-from_AllPairs IsBefore (posting_line journal) (IsInPostingOrder-posting_line journal))

-- one more record leaves the rows up to a closed moment
rows-stay_one : (journal : List Record) (item : Record) (until : Moment) → AreSound journal → NoFaults journal item.what → IsClosedTo journal until
    → filter (is_until (Some until)) (replay (journal ++ item ∷ [])) ≡ filter (is_until (Some until)) (replay journal)
unfolding replay
rows-stay_one journal item until sound none closed =
    let new = journal ++ item ∷ [] in
    let p = is_early until in
    let line = posting_line journal in
    rows-front until new [] (posting_line new) (line-order new until) refl
    ∙ ap (rows_of new)
    (ap (filter p) (posting_line-step journal item)
    ∙ filter-put_all p (filter (is_spared item) line) (entries journal item) (entries-late journal item until none closed)
    ∙ filter-implied p (is_spared item) line (λ e held early. spared-early journal item until e sound none closed held early))
    ∙ rows-same journal new [] (filter p line) (adds-same journal item until sound none closed)
    ∙ sym (rows-front until journal [] line (line-order journal until) refl)

-- a record of a sound journal has no fault in the journal before it
fault-here : (done front : List Record) (item : Record) (rest : List Record) → AreSoundAfter done (front ++ item ∷ rest) → voucher_fault (done ++ front) item.what ≡ None
fault-here done [] item rest sound = subst (λ (journal : List Record). voucher_fault journal item.what ≡ None) (sym (append-nil done)) sound.0
fault-here done (r ∷ front) item rest sound =
    subst (λ (journal : List Record). voucher_fault journal item.what ≡ None) (append_assoc done (r ∷ []) front)
    (fault-here (done ++ r ∷ []) front item rest sound.1)

rows-stay : (journal more : List Record) (until : Moment) → AreSound (journal ++ more) → IsClosedTo journal until
    → filter (is_until (Some until)) (replay (journal ++ more)) ≡ filter (is_until (Some until)) (replay journal)
rows-stay journal [] until sound closed = ap (λ (all : List Record). filter (is_until (Some until)) (replay all)) (append-nil journal)
rows-stay journal (item ∷ more) until sound closed =
    let next = journal ++ item ∷ [] in
    let parts : next ++ more ≡ journal ++ item ∷ more = append_assoc journal (item ∷ []) more in
    let none = NoFaults-from journal item.what (fault-here [] journal item more sound) in
    ap (λ (all : List Record). filter (is_until (Some until)) (replay all)) (sym parts)
    ∙ rows-stay next more until (subst AreSound (sym parts) sound) (IsClosedTo-snoc journal item until closed)
    ∙ rows-stay_one journal item until (AreSoundAfter-first [] journal (item ∷ more) sound) none closed

not_after_itself : (until : Moment) → is_later until until ≡ false
not_after_itself until = grind (arith, nat_tests)

-- further records leave the rows up to the moment up to which the past is closed
pub closed_rows-stay : (journal more : List Record) (until : Moment) → AreLegal (journal ++ more) → frozen journal ≡ Some until
    → filter (is_until (Some until)) (replay (journal ++ more)) ≡ filter (is_until (Some until)) (replay journal)
closed_rows-stay journal more until legal is =
    rows-stay journal more until (AreSound-from (journal ++ more) legal) (record { last = until; is = is; reaches = not_after_itself until })
