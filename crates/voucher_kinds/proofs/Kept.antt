-- The items and warehouses of a journal with one more record, and with one less.
use Rattle.std.proofs.Common.{◌≡◌, ℕ, ◌+◌, ◌-◌, zero, suc, ◌<◌, ◌≤◌, Bool, true, false, cond, inl, inr, List, [], ◌∷◌, ◌++◌, length, take, Option, None, Some, refl, sym, ap, ◌∙◌, subst, arith, append_assoc}
use Rattle.std.specs.Prelude.{is_some, IfSome}
use Rattle.std.specs.Option.{option_to_list, option_or, option_map_or}
use Rattle.std.specs.List.{filter_map, enumerate_from}
use Rattle.std.proofs.lemmas.List.{length-append, append-nil}
use Rattle.std.proofs.lemmas.List.Elements.{filter_map-append}
use Rattle.std.proofs.Math.Seq.{take-append_seam}
use Rattle.item_master.specs.State.{MasterState}
use Rattle.item_master.specs.declared.faults.MasterFault.TheVariants.{CodeTaken, CodeShape, AccountRange}
use Rattle.stock_model.specs.declared.faults.PostFault.{PostFault}
use Rattle.stock_model.specs.declared.faults.PostFault.TheVariants as post
use Rattle.stock_model.specs.declared.records.Record.{Record}
use Rattle.stock_model.specs.declared.vouchers.What.{What}
use Rattle.stock_model.specs.declared.vouchers.What.TheVariants.{Item, Store, Receipt, Issue, Transfer, CustomerReturn, SupplierReturn, Landed, Freeze, Cancel}
use Rattle.stock_nums.specs.declared.limits.TheConstants.{MAX_RECORDS}
use Rattle.stock_nums.specs.LineSums.{number_of}
use Rattle.stock_nums.specs.declared.cause.Target.{Target}
use Rattle.stock_nums.specs.declared.line_sums.LineSums.{LineSums}
use Rattle.stock_nums.specs.declared.moment.Moment.{Moment}
use Rattle.stock_nums.specs.declared.numbers.RecordNo.{RecordNo}
use Rattle.stock_model.specs.Cancelling.{record_units, units_gone}
use Rattle.stock_model.specs.Entries.{is_live, all_entries}
use Rattle.stock_nums.specs.Accounts.{is_store_account}
use Rattle.stock_nums.specs.Codes.{is_code}
use Rattle.stock_model.specs.Faults.{voucher_fault, master_fault, account_range}
use Rattle.stock_model.specs.Freezing.{closed_by, later_if_any, frozen}
use Rattle.stock_model.specs.Journals.{AreSound, AreSoundAfter}
use Rattle.stock_model.specs.Masters.{item_numbered, store_numbered, item_with, store_with, record_at}
use Rattle.stock_model.specs.Returns.{returned, units_named}
use Rattle.stock_model.specs.VoucherLines.{lines_of}
use Rattle.stock_model.proofs.Freezes.{frozen-snoc}
use Rattle.stock_model.proofs.NoFaults.{NoFaults, NoFaults-from}
use Rattle.stock_laws.proofs.LiveTargets.{record_at-snoc}
use Rattle.stock_laws.proofs.ReturnedUnits.{in-force, held-live, record_at-append, returned-snoc, units_gone-le, returned-within, units_at-le, AreSound-snoc}
use Rattle.voucher_kinds.specs.Heads.{made_by, made_fault, with_made, without_last}
use Rattle.voucher_kinds.specs.Journals.{master_of, IsJournal, AreTakers, is_later, taker, noted_with, HasNote}
use Rattle.voucher_kinds.specs.ReturnedUnits.{KeepsRoom, HasRoom, has_room_at}
use Rattle.voucher_kinds.proofs.Noted.{within, takers-push, takers-pop}
use Rattle.voucher_kinds.proofs.UnitsNamed.{room_at-kept}

-- one more element has the next number
enumerate_from-push : {X : Type 0} (n : ℕ) (xs : List X) (x : X) → enumerate_from n (xs ++ x ∷ []) ≡ enumerate_from n xs ++ (n + length xs, x) ∷ []
enumerate_from-push n [] x = let at : n ≡ n + 0 = omega arith in ap (λ (k : ℕ). (k, x) ∷ []) at
enumerate_from-push n (y ∷ ys) x =
    let at : n + 1 + length ys ≡ n + length (y ∷ ys) = omega arith in
    ap (λ es. (n, y) ∷ es) (enumerate_from-push (n + 1) ys x ∙ ap (λ (k : ℕ). enumerate_from (n + 1) ys ++ (k, x) ∷ []) at)

-- what is made of one element
filter_map-one : {X Y : Type 0} (h : X → Option Y) (x : X) (o : Option Y) → h x ≡ o → filter_map h (x ∷ []) ≡ option_to_list (h x)
filter_map-one h x None is = rw is refl
filter_map-one h x (Some y) is = rw is refl

-- what is made of the numbered elements with one more
filter_map-push : {X Y : Type 0} (h : ℕ × X → Option Y) (n : ℕ) (xs : List X) (x : X)
    → filter_map h (enumerate_from n (xs ++ x ∷ [])) ≡ filter_map h (enumerate_from n xs) ++ option_to_list (h (n + length xs, x))
filter_map-push h n xs x =
    ap (filter_map h) (enumerate_from-push n xs x) ∙ filter_map-append h (enumerate_from n xs) ((n + length xs, x) ∷ [])
    ∙ ap (λ made. filter_map h (enumerate_from n xs) ++ made) (filter_map-one h (n + length xs, x) _ refl)

-- with one more record come the item or the warehouse that it makes
pub master_of-push : (journal : List Record) (item : Record) → master_of (journal ++ item ∷ []) ≡ with_made (master_of journal) (length journal + 1) item.what
master_of-push journal item =
    let at : 1 + length journal ≡ length journal + 1 = omega arith in
    rw (filter_map-push item_numbered 1 journal item, filter_map-push store_numbered 1 journal item, at) refl

-- a list without the element that was put at its end
take-push : {X : Type 0} (xs : List X) (x : X) → take (length (xs ++ x ∷ []) - 1) (xs ++ x ∷ []) ≡ xs
take-push xs x =
    let count : length (xs ++ x ∷ []) - 1 ≡ length xs = omega (arith, length-append xs (x ∷ [])) in
    rw count (take-append_seam xs (x ∷ []))

-- with no item and no warehouse more
with-none : (master same : MasterState) → same ≡ record { items = master.items ++ []; stores = master.stores ++ [] } → same ≡ master
with-none master same is = is ∙ rw (append-nil master.items, append-nil master.stores) refl

-- what a record made in the master, taken away again
pub without_last-with_made : (master : MasterState) (n : ℕ) (what : What) → without_last (with_made master n what) (made_by what) ≡ master
without_last-with_made master n (Item code method) = rw (take-push master.items (record { number = n; code = code; method = method }), append-nil master.stores) refl
without_last-with_made master n (Store code account) = rw (take-push master.stores (record { number = n; code = code; account = account.0 }), append-nil master.items) refl
without_last-with_made master n (Receipt at lines) = with-none master _ refl
without_last-with_made master n (Issue at purpose lines) = with-none master _ refl
without_last-with_made master n (Transfer at lines) = with-none master _ refl
without_last-with_made master n (CustomerReturn at lines) = with-none master _ refl
without_last-with_made master n (SupplierReturn at lines) = with-none master _ refl
without_last-with_made master n (Landed charge basis targets) = with-none master _ refl
without_last-with_made master n (Freeze until) = with-none master _ refl
without_last-with_made master n (Cancel cancelled) = with-none master _ refl

-- a new code that the ledger takes is one that the master takes
item-none : (taken shape : Bool) (rest : Option PostFault) → option_or (cond taken (Some post.CodeTaken) None) (option_or (cond shape None (Some post.CodeShape)) rest) ≡ None
    → cond taken (Some CodeTaken) (cond shape None (Some CodeShape)) ≡ None
item-none true shape rest none = cc
item-none false true rest none = refl
item-none false false rest none = cc

store-none : (taken shape range : Bool) (rest : Option PostFault)
    → option_or (cond taken (Some post.CodeTaken) None) (option_or (cond shape None (Some post.CodeShape)) (option_or (cond range None (Some post.AccountRange)) rest)) ≡ None
    → cond taken (Some CodeTaken) (cond shape (cond range None (Some AccountRange)) (Some CodeShape)) ≡ None
store-none true shape range rest none = cc
store-none false true true rest none = refl
store-none false true false rest none = cc
store-none false false range rest none = cc

made-none_by : (journal : List Record) (what : What) → master_fault journal what ≡ None → made_fault (master_of journal) what ≡ None
made-none_by journal (Item code method) none = item-none (is_some (item_with journal code)) (is_code code) (option_or (account_range (Item code method)) None) none
made-none_by journal (Store code account) none = store-none (is_some (store_with journal code)) (is_code code) (is_store_account account.0) None none
made-none_by journal (Receipt at lines) none = refl
made-none_by journal (Issue at purpose lines) none = refl
made-none_by journal (Transfer at lines) none = refl
made-none_by journal (CustomerReturn at lines) none = refl
made-none_by journal (SupplierReturn at lines) none = refl
made-none_by journal (Landed charge basis targets) none = refl
made-none_by journal (Freeze until) none = refl
made-none_by journal (Cancel cancelled) none = refl

-- so what a record without a fault makes has none in the master
pub made-none : (journal : List Record) (master : MasterState) (what : What) → master ≡ master_of journal → voucher_fault journal what ≡ None → made_fault master what ≡ None
made-none journal master what is none =
    subst (λ (m : MasterState). made_fault m what ≡ None) (sym is) (made-none_by journal what (NoFaults-from journal what none).masters)

-- a sound journal is so without its last record, which had no fault in it
sound_after-front : (journal records : List Record) (last : Record) → AreSoundAfter journal (records ++ last ∷ [])
    → AreSoundAfter journal records × (voucher_fault (journal ++ records) last.what ≡ None)
sound_after-front journal [] last sound = (tt, subst (λ (held : List Record). voucher_fault held last.what ≡ None) (sym (append-nil journal)) sound.0)
sound_after-front journal (r ∷ records) last sound =
    let rest = sound_after-front (journal ++ r ∷ []) records last sound.1 in
    ((sound.0, rest.0), subst (λ (held : List Record). voucher_fault held last.what ≡ None) (append_assoc journal (r ∷ []) records) rest.1)

-- the empty journal
pub IsJournal-start : (records : List Record) (master : MasterState) (units : LineSums) (takers : List (Option RecordNo)) → records ≡ [] → master ≡ record { items = []; stores = [] }
    → ((target : Target) → number_of units target ≡ 0) → takers ≡ [] → IsJournal records master units takers None
unfolding frozen all_entries
IsJournal-start records master units takers none empty nothing unnoted =
    let start : IsJournal [] (record { items = []; stores = [] }) units [] None =
    record {
      few = omega arith;
      master_is = refl;
      sound = tt;
      counted = λ target. nothing target;
      room = λ n item held. no-record n item held;
      takers_are = record { notes = refl; in_force = λ n k first. unnoted-live n k; within = λ n. unnoted-within n };
      closed_is = refl;
    } in
    subst (λ (journal : List Record). IsJournal journal master units takers None) (sym none)
    (subst (λ (m : MasterState). IsJournal [] m units takers None) (sym empty) (subst (λ (notes : List (Option RecordNo)). IsJournal [] (record { items = []; stores = [] }) units notes None) (sym unnoted) start))
  where
    no-record : (n : ℕ) (item : Record) → record_at [] n ≡ Some item → (index : ℕ) → has_room_at units (lines_of item.what) index ≡ true
    no-record zero item held = cc
    no-record (suc n) item held = cc

    unnoted-live : (n k : ℕ) → is_live (take k []) n ≡ is_later k (taker [] n)
    unnoted-live zero zero = refl
    unnoted-live zero (suc k) = refl
    unnoted-live (suc n) zero = refl
    unnoted-live (suc n) (suc k) = refl

    unnoted-within : (n : ℕ) → IfSome (taker [] n) (λ by. by.0 ≤ 0)
    unnoted-within zero = tt
    unnoted-within (suc n) = tt

-- a journal that was kept anew and says the same
pub IsJournal-same : (journal new : List Record) (master new_master : MasterState) (units new_units : LineSums) (takers new_takers : List (Option RecordNo)) (closed : Option Moment) → IsJournal journal master units takers closed
    → new ≡ journal → new_master ≡ master → ((target : Target) → number_of new_units target ≡ number_of units target) → KeepsRoom units new_units → new_takers ≡ takers → IsJournal new new_master new_units new_takers closed
IsJournal-same journal new master new_master units new_units takers new_takers closed is stays master_stays units_stay keeps takers_stay = record {
  few = rw stays is.few;
  master_is = rw (stays, master_stays) is.master_is;
  sound = rw stays is.sound;
  counted = λ target. units_stay target ∙ is.counted target ∙ ap (λ (all : List Record). returned (all_entries all) target) (sym stays);
  room = λ n item held index.
      room_at-kept units new_units (lines_of item.what) index keeps (is.room n item (ap (λ (all : List Record). record_at all n) (sym stays) ∙ held) index);
  takers_are = subst (λ (all : List Record). AreTakers all new_takers) (sym stays) (subst (AreTakers journal) (sym takers_stay) is.takers_are);
  closed_is = is.closed_is ∙ ap frozen (sym stays);
}

-- what goes with a record that has no fault is found also where that record was added
pub gone-append : (journal more : List Record) (what : What) (target : Target) → NoFaults journal what → units_gone (journal ++ more) what target ≡ units_gone journal what target
gone-append journal more (Item code method) target none = refl
gone-append journal more (Store code account) target none = refl
gone-append journal more (Receipt at lines) target none = refl
gone-append journal more (Issue at purpose lines) target none = refl
gone-append journal more (Transfer at lines) target none = refl
gone-append journal more (CustomerReturn at lines) target none = refl
gone-append journal more (SupplierReturn at lines) target none = refl
gone-append journal more (Landed charge basis targets) target none = refl
gone-append journal more (Freeze until) target none = refl
gone-append journal more (Cancel cancelled) target none =
    let found = held-live journal cancelled.0 (in-force journal cancelled none.live) in
    ap (λ (o : Option Record). option_map_or (record_units target) o 0) (record_at-append journal more cancelled.0 found.0.0 found.0.1 ∙ sym found.0.1)

-- there is a note of what is taken back
pub HasNote-held : (journal : List Record) (takers : List (Option RecordNo)) (what : What) → NoFaults journal what → length journal ≤ length takers → HasNote takers what
HasNote-held journal takers (Item code method) none count = tt
HasNote-held journal takers (Store code account) none count = tt
HasNote-held journal takers (Receipt at lines) none count = tt
HasNote-held journal takers (Issue at purpose lines) none count = tt
HasNote-held journal takers (Transfer at lines) none count = tt
HasNote-held journal takers (CustomerReturn at lines) none count = tt
HasNote-held journal takers (SupplierReturn at lines) none count = tt
HasNote-held journal takers (Landed charge basis targets) none count = tt
HasNote-held journal takers (Freeze until) none count = tt
HasNote-held journal takers (Cancel cancelled) none count =
    let found = held-live journal cancelled.0 (in-force journal cancelled none.live) in
    let held = within journal cancelled.0 found.0.0 found.0.1 in
    (held.0, omega (arith, held.1, count))

-- where each record has room and the new one has too, all have
pub HasRoom-push : (journal : List Record) (item : Record) (units : LineSums) → HasRoom journal units → ((index : ℕ) → has_room_at units (lines_of item.what) index ≡ true) → HasRoom (journal ++ item ∷ []) units
HasRoom-push journal item units room own n found held index =
    elim (record_at-snoc journal item n found held) [
      | inl old ↦ room n found old index
      | inr same ↦ ap (λ (r : Record). has_room_at units (lines_of r.what) index) (sym same) ∙ own index
    ]

pub HasRoom-kept : (journal : List Record) (units new_units : LineSums) → KeepsRoom units new_units → HasRoom journal units → HasRoom journal new_units
HasRoom-kept journal units new_units keeps room n item held index = room_at-kept units new_units (lines_of item.what) index keeps (room n item held index)

-- a journal with one more record
pub IsJournal-push : (journal new : List Record) (master with_it : MasterState) (units with_units : LineSums) (takers with_takers : List (Option RecordNo)) (closed with_closed : Option Moment) (item : Record) (by : RecordNo)
    → IsJournal journal master units takers closed → length journal < MAX_RECORDS → by.0 ≡ length journal + 1 → new ≡ journal ++ item ∷ [] → with_it ≡ with_made master by.0 item.what
    → voucher_fault journal item.what ≡ None
    → ((target : Target) → number_of with_units target + units_gone journal item.what target ≡ number_of units target + units_named (lines_of item.what) target)
    → HasRoom (journal ++ item ∷ []) with_units → with_takers ≡ noted_with (takers ++ None ∷ []) item.what (Some by)
    → with_closed ≡ later_if_any closed (closed_by item.what) → IsJournal new with_it with_units with_takers with_closed
IsJournal-push journal new master with_it units with_units takers with_takers closed with_closed item by is room number grows adds none more rooms notes closes =
    let own = NoFaults-from journal item.what none in record {
      few = rw (grows, length-append journal (item ∷ [])) (omega (arith, room));
      master_is = rw (grows, adds, number, is.master_is) (sym (master_of-push journal item));
      sound = subst AreSound (sym grows) (AreSound-snoc journal item is.sound none);
      counted = λ target.
          let same = ap (λ (all : List Record). returned (all_entries all) target) grows in
          omega (arith, more target, is.counted target, returned-snoc journal item target is.sound none, same);
      room = subst (λ (all : List Record). HasRoom all with_units) (sym grows) rooms;
      takers_are =
          subst (λ (all : List Record). AreTakers all with_takers) (sym grows)
          (subst (AreTakers (journal ++ item ∷ [])) (sym notes) (takers-push journal item takers by own number is.takers_are));
      closed_is =
          closes ∙ ap (λ (before : Option Moment). later_if_any before (closed_by item.what)) is.closed_is ∙ sym (frozen-snoc journal item)
          ∙ ap frozen (sym grows);
    }

-- what its last record returns is counted, beside those of the records before it that it does not take back
last-counted : (front : List Record) (last : Record) (master : MasterState) (units : LineSums) (takers : List (Option RecordNo)) (closed : Option Moment) (target : Target) → IsJournal (front ++ last ∷ []) master units takers closed
    → number_of units target + units_gone front last.what target ≡ returned (all_entries front) target + units_named (lines_of last.what) target
last-counted front last master units takers closed target is =
    let parts = sound_after-front [] front last is.sound in
    omega (arith, is.counted target, returned-snoc front last target parts.0 parts.1)

-- with what a record without a fault returns, the units of a line fit
units-fit-front : (journal : List Record) (item : Record) (target : Target) → AreSound journal → voucher_fault journal item.what ≡ None
    → returned (all_entries journal) target + units_named (lines_of item.what) target ≤ 2_000_000_000
units-fit-front journal item target sound none =
    omega (
      arith,
      returned-snoc journal item target sound none,
      returned-within (journal ++ item ∷ []) target (AreSound-snoc journal item sound none),
      units_at-le (journal ++ item ∷ []) target,
      units_gone-le journal item target sound none,
      returned-within journal target sound,
      units_at-le journal target,
    )

-- with those that it took back the units fit, and its own are among them
pub last-fits : (journal front : List Record) (last : Record) (master : MasterState) (units : LineSums) (takers : List (Option RecordNo)) (closed : Option Moment) (target : Target) → journal ≡ front ++ last ∷ []
    → IsJournal journal master units takers closed
    → (number_of units target + units_gone journal last.what target ≤ 2_000_000_000) × (units_named (lines_of last.what) target ≤ number_of units target + units_gone journal last.what target)
last-fits journal front last master units takers closed target ends is_journal =
    let is = subst (λ (records : List Record). IsJournal records master units takers closed) ends is_journal in
    let parts = sound_after-front [] front last is.sound in
    let gone = gone-append front (last ∷ []) last.what target (NoFaults-from front last.what parts.1) in
    let same = ap (λ (records : List Record). units_gone records last.what target) ends in
    let counted = last-counted front last master units takers closed target is in
    let fits = units-fit-front front last target parts.0 parts.1 in
    (omega (arith, counted, gone, same, fits), omega (arith, counted, gone, same))

-- a journal closes the past up to the later of what the records before its last one close, and of what that one closes
pub last-closes : (journal front : List Record) (last : Record) (master : MasterState) (units : LineSums) (takers : List (Option RecordNo)) (closed : Option Moment) → journal ≡ front ++ last ∷ []
    → IsJournal journal master units takers closed → closed ≡ later_if_any (frozen front) (closed_by last.what)
last-closes journal front last master units takers closed ends is = is.closed_is ∙ ap frozen ends ∙ frozen-snoc front last

-- there is a note of what it took back
pub last-noted : (journal front : List Record) (last : Record) (master : MasterState) (units : LineSums) (takers : List (Option RecordNo)) (closed : Option Moment) → journal ≡ front ++ last ∷ []
    → IsJournal journal master units takers closed → HasNote takers last.what
last-noted journal front last master units takers closed ends is =
    let parts = sound_after-front [] front last (subst AreSound ends is.sound) in
    HasNote-held front takers last.what (NoFaults-from front last.what parts.1)
    (omega (arith, is.takers_are.notes, ap (λ (records : List Record). length records) ends, length-append front (last ∷ [])))

-- a journal without its last record
pub IsJournal-pop : (journal front : List Record) (last : Record) (master without_it : MasterState) (units less_units : LineSums) (takers less_takers : List (Option RecordNo)) (closed less_closed : Option Moment)
    → journal ≡ front ++ last ∷ [] → IsJournal journal master units takers closed → without_it ≡ without_last master (made_by last.what)
    → ((target : Target) → number_of less_units target + units_named (lines_of last.what) target ≡ number_of units target + units_gone journal last.what target)
    → KeepsRoom units less_units → less_takers ≡ take (length front) (noted_with takers last.what None) → less_closed ≡ frozen front
    → IsJournal front without_it less_units less_takers less_closed
IsJournal-pop journal front last master without_it units less_units takers less_takers closed less_closed ends journal_is takes less keeps notes less_is =
    let is : IsJournal (front ++ last ∷ []) master units takers closed = subst (λ (records : List Record). IsJournal records master units takers closed) ends journal_is in
    let parts = sound_after-front [] front last is.sound in
    let own = NoFaults-from front last.what parts.1 in
    let longer = length-append front (last ∷ []) in record {
      few = omega (arith, is.few, longer);
      master_is =
          takes ∙ ap (λ (m : MasterState). without_last m (made_by last.what)) (is.master_is ∙ master_of-push front last)
          ∙ without_last-with_made (master_of front) (length front + 1) last.what;
      sound = parts.0;
      counted = λ target.
          omega (
            arith,
            less target,
            last-counted front last master units takers closed target is,
            gone-append front (last ∷ []) last.what target own,
            ap (λ (records : List Record). units_gone records last.what target) ends,
          );
      room = λ n item held index. room_at-kept units less_units (lines_of item.what) index keeps (is.room n item (record_at-append front (last ∷ []) n item held) index);
      takers_are = subst (AreTakers front) (sym notes) (takers-pop front last takers own is.takers_are);
      closed_is = less_is;
    }

-- the units that a journal returns of a line fit
pub returned-fits : (journal : List Record) (master : MasterState) (units : LineSums) (takers : List (Option RecordNo)) (closed : Option Moment) (target : Target) → IsJournal journal master units takers closed
    → number_of units target ≤ 1_000_000_000
returned-fits journal master units takers closed target is =
    omega (arith, is.counted target, returned-within journal target is.sound, units_at-le journal target)

-- and so do they with those of a record that has no fault; those that it takes back are among them
pub units-fit : (journal : List Record) (master : MasterState) (units : LineSums) (takers : List (Option RecordNo)) (closed : Option Moment) (item : Record) (target : Target) → IsJournal journal master units takers closed
    → voucher_fault journal item.what ≡ None
    → (number_of units target + units_named (lines_of item.what) target ≤ 2_000_000_000) × (units_gone (journal ++ item ∷ []) item.what target ≤ number_of units target)
units-fit journal master units takers closed item target is none =
    let fits = units-fit-front journal item target is.sound none in
    let gone = gone-append journal (item ∷ []) item.what target (NoFaults-from journal item.what none) in
    (omega (arith, is.counted target, fits), omega (arith, is.counted target, gone, units_gone-le journal item target is.sound none))
