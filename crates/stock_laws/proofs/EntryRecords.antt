-- What each movement of a journal has to do with the record that makes it, and a return with the line that it names.
use Rattle.std.proofs.Common.{◌≡◌, ℕ, zero, suc, ◌+◌, ◌<◌, Bool, true, false, List, [], ◌∷◌, ◌++◌, length, map, Option, Some, None, refl, sym, ap, ◌∙◌, subst, arith}
use Rattle.std.specs.Prelude.{nat_eq, slice_get, ◌||◌}
use Rattle.std.specs.Option.{option_map, option_map_or, option_and_then}
use Rattle.std.specs.List.{list_any}
use Rattle.std.proofs.lemmas.Bool.Decides.{nat_tests}
use Rattle.stock_nums.specs.declared.cause.Cause.{Cause}
use Rattle.stock_nums.specs.declared.cause.Cause.TheVariants as cause
use Rattle.stock_nums.specs.declared.cause.Method.{Method}
use Rattle.stock_nums.specs.declared.cause.Target.{Target}
use Rattle.stock_nums.specs.declared.entry.Entry.{Entry}
use Rattle.stock_nums.specs.declared.moment.Moment.{Moment}
use Rattle.stock_nums.specs.declared.numbers.ItemNo.{ItemNo}
use Rattle.stock_nums.specs.Places.{is_later}
use Rattle.stock_model.specs.declared.records.Record.{Record}
use Rattle.stock_model.specs.declared.targets.NamedTarget.{NamedTarget}
use Rattle.stock_model.specs.declared.targets.TargetKind.{TargetKind}
use Rattle.stock_model.specs.declared.targets.TargetKind.TheVariants.{OfSale, OfReceipt}
use Rattle.stock_model.specs.declared.vouchers.What.{What}
use Rattle.stock_model.specs.declared.vouchers.What.TheVariants.{Item, Store, Receipt, Issue, Transfer, CustomerReturn, SupplierReturn, Landed, Freeze, Cancel}
use Rattle.stock_model.specs.declared.vouchers.ReturnLine.{ReturnLine}
use Rattle.stock_model.specs.Cancelling.{is_line_of, names_line_of}
use Rattle.stock_model.specs.Conservation.{is_receipt, is_sent, is_arrived, is_customer_return, is_supplier_return}
use Rattle.stock_model.specs.Entries.{movements}
use Rattle.stock_model.specs.Faults.{is_after, comes_later, first_later}
use Rattle.stock_model.specs.Masters.{record_at}
use Rattle.stock_model.specs.TargetLines.{line_found, record_moment, target_line}
use Rattle.stock_model.specs.VoucherLines.{VoucherLine, lines_of, moves_of, moment_of, targets_of, return_target, return_line, is_sold}
use Rattle.stock_laws.proofs.LineEntries.{HoldsOf, movements-each}
use Rattle.stock_model.proofs.NoFaults.{NoFaults}
use Rattle.stock_model.proofs.Numbered.{Fails, first_line-none}
use Rattle.stock_model.proofs.Pairwise.{Each, Each-at}
use Rattle.stock_laws.proofs.RecordsAt.{said_by, slice_get-map, slice_get-mapped, what_at, what_at-once, what_at-append, target_line-append, target-what, target-within}

-- a movement by this cause is one of such a voucher
abbrev pub Fits : What → Cause → Type 0
Fits (Receipt at lines) c = is_receipt c ≡ true
Fits (Issue at purpose lines) c = c ≡ cause.Issue (is_sold purpose)
Fits (Transfer at lines) c = (is_sent c || is_arrived c) ≡ true
Fits (CustomerReturn at lines) c = is_customer_return c ≡ true
Fits (SupplierReturn at lines) c = is_supplier_return c ≡ true
Fits _ c = ⊥

abbrev pub to_target : TargetKind → Target → NamedTarget
to_target kind target = record { kind = kind; target = target }

-- the target is a line of a voucher of its kind, of a record before the movement's, and of no later moment
pub record IsReturnOf (journal : List Record) (e : Entry) (kind : TargetKind) (target : Target) (units : ℕ) : Type 0 where
  pub found : VoucherLine
  pub is : target_line journal (to_target kind target) ≡ Some found
  pub of_units : units ≡ found.qty.0
  pub earlier : target.voucher.0 < e.place.voucher.0
  pub not_later : (what : What) → what_at journal target.voucher.0 ≡ Some what → (at : Moment) → moment_of what ≡ Some at → is_later at e.place.moment ≡ false

abbrev pub KnowsTarget : List Record → Entry → Cause → Type 0
KnowsTarget journal e (cause.CustomerReturn target issued) = IsReturnOf journal e OfSale target issued.0
KnowsTarget journal e (cause.SupplierReturn target amount received) = IsReturnOf journal e OfReceipt target received.0
KnowsTarget journal e _ = Unit {0}

-- where the movement is a return, the voucher names a line of its target's record
abbrev pub NamesTarget : What → Cause → Type 0
NamesTarget what (cause.CustomerReturn target issued) = names_line_of target.voucher.0 what ≡ true
NamesTarget what (cause.SupplierReturn target amount received) = names_line_of target.voucher.0 what ≡ true
NamesTarget what _ = Unit {0}

-- the record with the movement's number says so, at its moment, and a return's target is known
pub record IsOfRecord (journal : List Record) (e : Entry) : Type 0 where
  pub what : What
  pub held : what_at journal e.place.voucher.0 ≡ Some what
  pub timed : moment_of what ≡ Some e.place.moment
  pub fits : Fits what e.cause
  pub target : KnowsTarget journal e e.cause
  pub names : NamesTarget what e.cause

-- so it stays
IsReturnOf-append : (journal more : List Record) (e : Entry) (kind : TargetKind) (target : Target) (units : ℕ) → IsReturnOf journal e kind target units → IsReturnOf (journal ++ more) e kind target units
IsReturnOf-append journal more e kind target units own =
    let line = target-what journal (to_target kind target) own.found own.is in
    record {
      found = own.found;
      is = target_line-append journal more (to_target kind target) own.found own.is;
      of_units = own.of_units;
      earlier = own.earlier;
      not_later = λ what held at timed.
          let same : what ≡ line.0 = what_at-once (journal ++ more) target.voucher.0 what line.0 held (what_at-append journal more target.voucher.0 line.0 line.1) in
          own.not_later line.0 line.1 at (ap moment_of (sym same) ∙ timed);
    }

KnowsTarget-append : (journal more : List Record) (e : Entry) (c : Cause) → KnowsTarget journal e c → KnowsTarget (journal ++ more) e c
KnowsTarget-append journal more e (cause.Receipt amount) own = tt
KnowsTarget-append journal more e (cause.Issue sold) own = tt
KnowsTarget-append journal more e cause.TransferLeaves own = tt
KnowsTarget-append journal more e cause.TransferEnters own = tt
KnowsTarget-append journal more e (cause.CustomerReturn target issued) own = IsReturnOf-append journal more e OfSale target issued.0 own
KnowsTarget-append journal more e (cause.SupplierReturn target amount received) own = IsReturnOf-append journal more e OfReceipt target received.0 own

pub IsOfRecord-append : (journal more : List Record) (e : Entry) → IsOfRecord journal e → IsOfRecord (journal ++ more) e
IsOfRecord-append journal more e own =
    record {
      what = own.what;
      held = what_at-append journal more e.place.voucher.0 own.what own.held;
      timed = own.timed;
      fits = own.fits;
      target = KnowsTarget-append journal more e e.cause own.target;
      names = own.names;
    }

abbrev option_said : Option Record → Option What
option_said o = option_map said_by o

-- a target that does not come later than a moment
target-not_later : (journal : List Record) (at : Moment) (named : NamedTarget) → comes_later journal at named ≡ false
    → (what : What) → what_at journal named.target.voucher.0 ≡ Some what → (m : Moment) → moment_of what ≡ Some m → is_later m at ≡ false
target-not_later journal at named =
    let step : (o : Option Record) → option_map_or (is_after at) (option_and_then record_moment o) false ≡ false
    → (what : What) → option_said o ≡ Some what → (m : Moment) → moment_of what ≡ Some m → is_later m at ≡ false =
    λ o. elim o as (λ v. option_map_or (is_after at) (option_and_then record_moment v) false ≡ false
    → (what : What) → option_said v ≡ Some what → (m : Moment) → moment_of what ≡ Some m → is_later m at ≡ false) [
      | None ↦ λ h what is m timed. cc
      | Some item ↦ λ h what is m timed.
          let same : item.what ≡ what = cc in
          let own : moment_of item.what ≡ Some m = ap moment_of same ∙ timed in
          sym (ap (λ (t : Option Moment). option_map_or (is_after at) t false) own) ∙ h
    ] in
    step (record_at journal named.target.voucher.0)

-- where no target comes later, each does not
earlier-each : (journal : List Record) (what : What) (at : Moment) → moment_of what ≡ Some at → option_and_then (first_later journal what) (moment_of what) ≡ None
    → Each (Fails (comes_later journal at)) (targets_of what)
earlier-each journal what at timed none =
    first_line-none (comes_later journal at) 1 (targets_of what) (sym (ap (option_and_then (first_later journal what)) timed) ∙ none)

-- what a line of a return knows of its target
return-knows : (journal more : List Record) (kind : TargetKind) (lines : List ReturnLine) (at : Moment) (i : ℕ) (l : ReturnLine) (found : VoucherLine) (e : Entry)
    → Each (Fails (comes_later journal at)) (map (return_target kind) lines) → slice_get lines i ≡ Some l → target_line journal (return_target kind l) ≡ Some found
    → e.place.voucher.0 ≡ length journal + 1 → e.place.moment ≡ at → IsReturnOf (journal ++ more) e kind l.target found.qty.0
return-knows journal more kind lines at i l found e none here is number timed =
    let named = return_target kind l in
    let fails : comes_later journal at named ≡ false = Each-at (Fails (comes_later journal at)) (map (return_target kind) lines) i named none (slice_get-mapped (return_target kind) lines i l here) in
    let within = target-within journal named found is in
    IsReturnOf-append journal more e kind l.target found.qty.0
    (record {
      found = found;
      is = is;
      of_units = refl;
      earlier = omega (arith, within, number);
      not_later = λ what held m said. subst (λ (t : Moment). is_later m t ≡ false) (sym timed) (target-not_later journal at named fails what held m said);
    })

-- and the voucher names it
return-names : (kind : TargetKind) (lines : List ReturnLine) (i : ℕ) (l : ReturnLine) → slice_get lines i ≡ Some l → list_any (is_line_of l.target.voucher.0) (map (return_target kind) lines) ≡ true
return-names kind [] zero l here = cc
return-names kind [] (suc i) l here = cc
return-names kind (line ∷ lines) zero l here =
    let same : line ≡ l = cc in
    let own : nat_eq line.target.voucher.0 l.target.voucher.0 ≡ true = ap (λ (one : ReturnLine). nat_eq one.target.voucher.0 l.target.voucher.0) same ∙ itself l.target.voucher.0 in
    ap (λ (b : Bool). b || list_any (is_line_of l.target.voucher.0) (map (return_target kind) lines)) own
  where
    itself : (n : ℕ) → nat_eq n n ≡ true
    itself n = grind (arith, nat_tests)
return-names kind (line ∷ lines) (suc i) l here =
    either (nat_eq line.target.voucher.0 l.target.voucher.0) (list_any (is_line_of l.target.voucher.0) (map (return_target kind) lines)) (return-names kind lines i l here)
  where
    either : (a b : Bool) → b ≡ true → (a || b) ≡ true
    either true b h = refl
    either false b h = h

-- the moves of a line of a voucher without faults
moves-known : (journal more : List Record) (what : What) → NoFaults journal what → what_at (journal ++ more) (length journal + 1) ≡ Some what
    → (at : Moment) → moment_of what ≡ Some at → (i : ℕ) (line : VoucherLine) → slice_get (lines_of what) i ≡ Some line
    → (found : VoucherLine) → line_found journal line ≡ Some found → (item : ItemNo × Method)
    → Each (HoldsOf (length journal + 1) at (1 + i) line item (IsOfRecord (journal ++ more))) (moves_of what line found)
moves-known journal more (Item code method) sound held at timed i line is found found_is item = tt
moves-known journal more (Store code account) sound held at timed i line is found found_is item = tt
moves-known journal more (Receipt m lines) sound held at timed i line is found found_is item =
    ((λ store. record { what = Receipt m lines; held = held; timed = timed; fits = refl; target = tt; names = tt }), tt)
moves-known journal more (Issue m purpose lines) sound held at timed i line is found found_is item =
    ((λ store. record { what = Issue m purpose lines; held = held; timed = timed; fits = refl; target = tt; names = tt }), tt)
moves-known journal more (Transfer m lines) sound held at timed i line is found found_is item = (
  (λ store. record { what = Transfer m lines; held = held; timed = timed; fits = refl; target = tt; names = tt }),
  ((λ store. record { what = Transfer m lines; held = held; timed = timed; fits = refl; target = tt; names = tt }), tt),
)
moves-known journal more (CustomerReturn m lines) sound held at timed i line is found found_is item =
    let n = length journal + 1 in
    let own = slice_get-map (return_line OfSale) lines i line is in
    let l = own.0 in
    let none = earlier-each journal (CustomerReturn m lines) at timed sound.earlier in
    let P : VoucherLine → Type 0 =
    λ line. line_found journal line ≡ Some found → Each (HoldsOf n at (1 + i) line item (IsOfRecord (journal ++ more))) (moves_of (CustomerReturn m lines) line found) in
    let of_line : P (return_line OfSale l) = λ known. (
      (λ store. record {
        what = CustomerReturn m lines;
        held = held;
        timed = timed;
        fits = refl;
        target = return-knows journal more OfSale lines at i l found _ none own.1 known refl refl;
        names = return-names OfSale lines i l own.1;
      }),
      tt,
    ) in
    subst P own.2 of_line found_is
moves-known journal more (SupplierReturn m lines) sound held at timed i line is found found_is item =
    let n = length journal + 1 in
    let own = slice_get-map (return_line OfReceipt) lines i line is in
    let l = own.0 in
    let none = earlier-each journal (SupplierReturn m lines) at timed sound.earlier in
    let P : VoucherLine → Type 0 =
    λ line. line_found journal line ≡ Some found → Each (HoldsOf n at (1 + i) line item (IsOfRecord (journal ++ more))) (moves_of (SupplierReturn m lines) line found) in
    let of_line : P (return_line OfReceipt l) = λ known. (
      (λ store. record {
        what = SupplierReturn m lines;
        held = held;
        timed = timed;
        fits = refl;
        target = return-knows journal more OfReceipt lines at i l found _ none own.1 known refl refl;
        names = return-names OfReceipt lines i l own.1;
      }),
      tt,
    ) in
    subst P own.2 of_line found_is
moves-known journal more (Landed charge basis targets) sound held at timed i line is found found_is item = tt
moves-known journal more (Freeze until) sound held at timed i line is found found_is item = tt
moves-known journal more (Cancel cancelled) sound held at timed i line is found found_is item = tt

-- each movement of a record without faults is known
pub movements-known : (journal more : List Record) (what : What) → NoFaults journal what → what_at (journal ++ more) (length journal + 1) ≡ Some what
    → Each (IsOfRecord (journal ++ more)) (movements journal (length journal + 1) what)
movements-known journal more what sound held =
    movements-each journal (length journal + 1) what (IsOfRecord (journal ++ more))
    (λ at timed i line is found found_is item named. moves-known journal more what sound held at timed i line is found found_is item)
