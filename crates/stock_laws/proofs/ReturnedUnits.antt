-- A sound journal returns of each line no more units than it has.
use Rattle.std.proofs.Common.{◌≡◌, ℕ, zero, suc, ◌+◌, ◌*◌, ◌≤◌, Bool, true, false, cond, List, [], ◌∷◌, ◌++◌, length, map, filter, sum_by, Option, Some, None, refl, sym, ap, ◌∙◌, subst, arith, append_assoc}
use Rattle.std.proofs.lemmas.Bool.{false≢true}
use Rattle.std.proofs.lemmas.Bool.Decides.{nat_tests}
use Rattle.std.proofs.lemmas.List.{append-nil}
use Rattle.std.proofs.lemmas.List.Elements.{filter-append}
use Rattle.std.proofs.lemmas.List.Sums.{sum_by-append, sum_by-cons}
use Rattle.std.specs.Prelude.{slice_get, is_none, not, nat_eq, ◌||◌, ◌&&◌}
use Rattle.std.specs.Option.{option_map, option_map_or, option_and_then, option_to_list}
use Rattle.std.specs.List.{filter_map, flat_map, enumerate_from, cons_option, zip, list_any}
use Rattle.stock_nums.specs.Targets.{is_same_target}
use Rattle.stock_nums.specs.declared.cause.Method.{Method}
use Rattle.stock_nums.specs.declared.cause.Target.{Target}
use Rattle.stock_nums.specs.declared.entry.Entry.{Entry}
use Rattle.stock_nums.specs.declared.moment.Moment.{Moment}
use Rattle.stock_nums.specs.declared.numbers.ItemNo.{ItemNo}
use Rattle.stock_nums.specs.declared.numbers.RecordNo.{RecordNo}
use Rattle.stock_model.specs.declared.faults.PostFault.TheVariants.{NotLive}
use Rattle.stock_model.specs.declared.records.Record.{Record}
use Rattle.stock_model.specs.declared.seen.Move.{Move}
use Rattle.stock_model.specs.declared.targets.NamedTarget.{NamedTarget}
use Rattle.stock_model.specs.declared.targets.TargetKind.{TargetKind}
use Rattle.stock_model.specs.declared.targets.TargetKind.TheVariants.{OfSale, OfReceipt}
use Rattle.stock_model.specs.declared.vouchers.ReturnLine.{ReturnLine}
use Rattle.stock_model.specs.declared.vouchers.What.{What}
use Rattle.stock_model.specs.declared.vouchers.What.TheVariants.{Item, Store, Receipt, Issue, Transfer, CustomerReturn, SupplierReturn, Landed, Freeze, Cancel}
use Rattle.stock_model.specs.Enough.{entry_units}
use Rattle.stock_model.specs.Entries.{moved, move_made, moves_made, found_made, line_made, lines_made, movements, entries, cancels, takes_back, is_live, is_spared, is_of_record, all_entries, entries_of}
use Rattle.stock_model.specs.Cancelling.{record_is_voucher, is_voucher, is_voucher_in_force, record_units, units_gone}
use Rattle.stock_model.specs.Faults.{is_unknown_store, not_live, asks_more, is_less, left_to_return, first_repeated, is_among, name_one_line, voucher_fault}
use Rattle.stock_model.specs.Journals.{AreSound, AreSoundAfter}
use Rattle.stock_model.specs.Masters.{record_at, store_with}
use Rattle.stock_model.specs.Returns.{is_return_of, returns_of, returned, returns_line, line_units, units_named}
use Rattle.stock_model.specs.TargetLines.{line_numbered, target_line, coded_item}
use Rattle.stock_model.specs.VoucherLines.{VoucherLine, lines_of, moves_of, receipt_line, issue_line, transfer_line, return_line, return_target}
use Rattle.stock_laws.proofs.LiveEntries.{all_entries-step}
use Rattle.stock_laws.proofs.GoneEntries.{IsAt-from, sound-parts, entries_of-at, own-live}
use Rattle.stock_model.proofs.MovementCount.{IsMade, lines-IsMade}
use Rattle.stock_model.proofs.NoFaults.{NoFaults, NoFaults-from}
use Rattle.stock_model.proofs.Numbered.{Fails, first_line-none}
use Rattle.stock_model.proofs.Pairwise.{Each, Each-map}
use Rattle.stock_model.proofs.TargetItems.{IsTargetLine-from}

-- of two lists of movements the units are those of the first and those of the second
pub returned-append : (es fs : List Entry) (target : Target) → returned (es ++ fs) target ≡ returned es target + returned fs target
returned-append es fs target =
    ap (sum_by entry_units) (filter-append (returns_of target) es fs) ∙ sum_by-append entry_units (filter (returns_of target) es) (filter (returns_of target) fs)

returned-cons : (e : Entry) (es : List Entry) (target : Target) → returned (e ∷ es) target ≡ cond (returns_of target e) e.qty.0 0 + returned es target
returned-cons e es target =
    elim (returns_of target e) as (λ b. sum_by entry_units (cond b (e ∷ filter (returns_of target) es) (filter (returns_of target) es)) ≡ cond b e.qty.0 0 + returned es target) [
      | true ↦ sum_by-cons entry_units e (filter (returns_of target) es)
      | false ↦ omega arith
    ]

-- fewer movements return no more units
returned-filter-le : (p : Entry → Bool) (es : List Entry) (target : Target) → returned (filter p es) target ≤ returned es target
returned-filter-le p [] target = omega arith
returned-filter-le p (e ∷ es) target =
    let rest = returned-filter-le p es target in
    let own = returned-cons e es target in
    elim (p e) as (λ b. returned (cond b (e ∷ filter p es) (filter p es)) target ≤ returned (e ∷ es) target) [
      | true ↦ omega (arith, returned-cons e (filter p es) target, own, rest)
      | false ↦ omega (arith, own, rest)
    ]

pub units_named-cons : (line : VoucherLine) (lines : List VoucherLine) (target : Target) → units_named (line ∷ lines) target ≡ cond (returns_line target line) line.qty.0 0 + units_named lines target
units_named-cons line lines target =
    elim (returns_line target line) as (λ b. sum_by line_units (cond b (line ∷ filter (returns_line target) lines) (filter (returns_line target) lines)) ≡ cond b line.qty.0 0 + units_named lines target) [
      | true ↦ sum_by-cons line_units line (filter (returns_line target) lines)
      | false ↦ omega arith
    ]

-- a move is a return of the target where this says so
abbrev ReturnsAs : Target → Bool → Move → Type 0
ReturnsAs target b move = is_return_of target move.cause ≡ b

any-none : {X : Type 0} (test : X → Bool) (x : X) (xs : List X) → list_any test (x ∷ xs) ≡ false → (test x ≡ false) × (list_any test xs ≡ false)
any-none test x xs = elim (test x) as (λ b. (b || list_any test xs) ≡ false → (b ≡ false) × (list_any test xs ≡ false)) [ true ↦ λ h. cc | false ↦ λ h. (refl, h) ]

-- moves into or out of warehouses that are found return the line's units each, or none
moves-returned : (journal : List Record) (n : ℕ) (at : Moment) (number : ℕ) (line : VoucherLine) (item : ItemNo × Method) (target : Target) (b : Bool) (moves : List Move) (stores : List (List ℕ))
    → length moves ≡ length stores → list_any (is_unknown_store journal) stores ≡ false → Each (ReturnsAs target b) moves
    → returned (filter_map (move_made journal n at number line item) (zip moves stores)) target ≡ cond b (length stores * line.qty.0) 0
moves-returned journal n at number line item target true [] [] same known all = omega arith
moves-returned journal n at number line item target false [] [] same known all = refl
moves-returned journal n at number line item target b [] (code ∷ stores) same known all = absurd (omega (arith, same))
moves-returned journal n at number line item target b (move ∷ moves) [] same known all = absurd (omega (arith, same))
moves-returned journal n at number line item target b (move ∷ moves) (code ∷ stores) same known all =
    let each = any-none (is_unknown_store journal) code stores known in
    let made = filter_map (move_made journal n at number line item) (zip moves stores) in
    let rest = moves-returned journal n at number line item target b moves stores (omega (arith, same)) each.1 all.1 in
    let one : returned (cons_option (option_map (moved n at number line item move) (store_with journal code)) made) target ≡ cond b line.qty.0 0 + returned made target =
    (elim (store_with journal code) as (λ o. is_none o ≡ false → returned (cons_option (option_map (moved n at number line item move) o) made) target ≡ cond b line.qty.0 0 + returned made target) [
      | None ↦ λ h. cc
      | Some store ↦ λ h. returned-cons (moved n at number line item move store) made target ∙ ap (λ (v : Bool). cond v line.qty.0 0 + returned made target) all.0
    ]) each.0 in
    one ∙ ap (λ (x : ℕ). cond b line.qty.0 0 + x) rest ∙ together b
  where
    together : (v : Bool) → cond v line.qty.0 0 + cond v (length stores * line.qty.0) 0 ≡ cond v (length (code ∷ stores) * line.qty.0) 0
    together true = omega arith
    together false = refl

-- what a line of a kind moves returns what it names, once
record ReturnsWhatItNames (what : What) (target : Target) (line : VoucherLine) : Type 0 where
  moves : (found : VoucherLine) → Each (ReturnsAs target (returns_line target line)) (moves_of what line found)
  once : cond (returns_line target line) (length line.stores * line.qty.0) 0 ≡ cond (returns_line target line) line.qty.0 0

single : (b : Bool) (q : ℕ) → cond b (1 * q) 0 ≡ cond b q 0
single true q = omega arith
single false q = refl

lines-return : (what : What) (target : Target) → Each (ReturnsWhatItNames what target) (lines_of what)
lines-return (Item code method) target = tt
lines-return (Store code account) target = tt
lines-return (Receipt at lines) target = Each-map (ReturnsWhatItNames (Receipt at lines) target) receipt_line (λ line. record { moves = λ found. (refl, tt); once = refl }) lines
lines-return (Issue at purpose lines) target = Each-map (ReturnsWhatItNames (Issue at purpose lines) target) issue_line (λ line. record { moves = λ found. (refl, tt); once = refl }) lines
lines-return (Transfer at lines) target = Each-map (ReturnsWhatItNames (Transfer at lines) target) transfer_line (λ line. record { moves = λ found. (refl, (refl, tt)); once = refl }) lines
lines-return (CustomerReturn at lines) target =
    Each-map (ReturnsWhatItNames (CustomerReturn at lines) target) (return_line OfSale)
    (λ line. record { moves = λ found. (refl, tt); once = single (is_same_target line.target target) line.qty.0 }) lines
lines-return (SupplierReturn at lines) target =
    Each-map (ReturnsWhatItNames (SupplierReturn at lines) target) (return_line OfReceipt)
    (λ line. record { moves = λ found. (refl, tt); once = single (is_same_target line.target target) line.qty.0 }) lines
lines-return (Landed charge basis targets) target = tt
lines-return (Freeze until) target = tt
lines-return (Cancel cancelled) target = tt

line-returned : (journal : List Record) (n : ℕ) (at : Moment) (what : What) (number : ℕ) (line : VoucherLine) (target : Target) → IsMade journal what line → ReturnsWhatItNames what target line
    → returned (line_made journal n at what (number, line)) target ≡ cond (returns_line target line) line.qty.0 0
line-returned journal n at what number line target made names =
    let found = made.known.0 in
    let item = made.known.2 in
    let own : returned (moves_made journal n at what number line found item) target ≡ cond (returns_line target line) line.qty.0 0 =
    moves-returned journal n at number line item target (returns_line target line) (moves_of what line found) line.stores (made.each found) made.stores (names.moves found) ∙ names.once in
    let by_item : returned (flat_map (moves_made journal n at what number line found) (option_to_list (coded_item journal found.item))) target ≡ cond (returns_line target line) line.qty.0 0 =
    subst (λ (o : Option (ItemNo × Method)). returned (flat_map (moves_made journal n at what number line found) (option_to_list o)) target ≡ cond (returns_line target line) line.qty.0 0) (sym made.known.3)
    (rw append-nil own) in
    subst (λ (o : Option VoucherLine). returned (flat_map (found_made journal n at what number line) (option_to_list o)) target ≡ cond (returns_line target line) line.qty.0 0) (sym made.known.1)
    (rw append-nil by_item)

lines-returned : (journal : List Record) (n : ℕ) (at : Moment) (what : What) (k : ℕ) (lines : List VoucherLine) (target : Target) → Each (IsMade journal what) lines → Each (ReturnsWhatItNames what target) lines
    → returned (flat_map (line_made journal n at what) (enumerate_from k lines)) target ≡ units_named lines target
lines-returned journal n at what k [] target made names = refl
lines-returned journal n at what k (line ∷ lines) target made names =
    returned-append (line_made journal n at what (k, line)) (flat_map (line_made journal n at what) (enumerate_from (k + 1) lines)) target
    ∙ ap (λ (x : ℕ). x + returned (flat_map (line_made journal n at what) (enumerate_from (k + 1) lines)) target) (line-returned journal n at what k line target made.0 names.0)
    ∙ ap (λ (x : ℕ). cond (returns_line target line) line.qty.0 0 + x) (lines-returned journal n at what (k + 1) lines target made.1 names.1)
    ∙ sym (units_named-cons line lines target)

timed-returned : (journal : List Record) (n : ℕ) (at : Moment) (what : What) (target : Target) → Each (IsMade journal what) (lines_of what) → returned (lines_made journal n what at ++ []) target ≡ units_named (lines_of what) target
timed-returned journal n at what target made = rw append-nil (lines-returned journal n at what 1 (lines_of what) target made (lines-return what target))

-- the movements of a record without a fault of its own return the units that its lines name
pub movements-returned : (journal : List Record) (n : ℕ) (what : What) (target : Target) → AreSound journal → NoFaults journal what → returned (movements journal n what) target ≡ units_named (lines_of what) target
movements-returned journal n (Item code method) target sound none = refl
movements-returned journal n (Store code account) target sound none = refl
movements-returned journal n (Receipt at lines) target sound none = timed-returned journal n at (Receipt at lines) target (lines-IsMade journal (Receipt at lines) sound none)
movements-returned journal n (Issue at purpose lines) target sound none = timed-returned journal n at (Issue at purpose lines) target (lines-IsMade journal (Issue at purpose lines) sound none)
movements-returned journal n (Transfer at lines) target sound none = timed-returned journal n at (Transfer at lines) target (lines-IsMade journal (Transfer at lines) sound none)
movements-returned journal n (CustomerReturn at lines) target sound none = timed-returned journal n at (CustomerReturn at lines) target (lines-IsMade journal (CustomerReturn at lines) sound none)
movements-returned journal n (SupplierReturn at lines) target sound none = timed-returned journal n at (SupplierReturn at lines) target (lines-IsMade journal (SupplierReturn at lines) sound none)
movements-returned journal n (Landed charge basis targets) target sound none = refl
movements-returned journal n (Freeze until) target sound none = refl
movements-returned journal n (Cancel cancelled) target sound none = refl

-- the units of the movements that are kept, and of those that are not
returned-parts : (p : Entry → Bool) (es : List Entry) (target : Target) → returned es target ≡ returned (filter p es) target + returned (filter (λ e. not (p e)) es) target
returned-parts p [] target = omega arith
returned-parts p (e ∷ es) target =
    let rest = returned-parts p es target in
    let own = returned-cons e es target in
    let q : Entry → Bool = λ f. not (p f) in
    (elim (p e) as (λ b. returned (e ∷ es) target ≡ returned (cond b (e ∷ filter p es) (filter p es)) target + returned (cond (not b) (e ∷ filter q es) (filter q es)) target) [
      | true ↦ omega (arith, own, rest, returned-cons e (filter p es) target)
      | false ↦ omega (arith, own, rest, returned-cons e (filter q es) target)
    ])

-- where nothing is taken back nothing goes
spared-all : (item : Record) (es : List Entry) → ((n : ℕ) → takes_back n item ≡ false) → filter (λ e. not (is_spared item e)) es ≡ []
spared-all item [] none = refl
spared-all item (e ∷ es) none =
    ap (λ (b : Bool). cond (not (not b)) (e ∷ filter (λ f. not (is_spared item f)) es) (filter (λ f. not (is_spared item f)) es)) (none e.place.voucher.0)
    ∙ spared-all item es none

gone-none : (journal : List Record) (item : Record) (target : Target) → ((n : ℕ) → takes_back n item ≡ false)
    → returned (filter (λ e. not (is_spared item e)) (all_entries journal)) target ≡ 0
gone-none journal item target none = ap (λ (es : List Entry). returned es target) (spared-all item (all_entries journal) none)

-- what goes with a cancel are the movements of the record that it names
spared-none : (item : Record) (n : ℕ) (es : List Entry) → ((k : ℕ) → takes_back k item ≡ nat_eq n k) → filter (λ e. not (is_spared item e)) es ≡ filter (is_of_record n) es
spared-none item n [] only = refl
spared-none item n (e ∷ es) only =
    ap (λ (b : Bool). cond (not (not b)) (e ∷ filter (λ f. not (is_spared item f)) es) (filter (λ f. not (is_spared item f)) es)) (only e.place.voucher.0)
    ∙ ap (λ (b : Bool). cond b (e ∷ filter (λ f. not (is_spared item f)) es) (filter (λ f. not (is_spared item f)) es)) (twice (nat_eq n e.place.voucher.0))
    ∙ ap (λ (fs : List Entry). cond (nat_eq n e.place.voucher.0) (e ∷ fs) fs) (spared-none item n es only)
  where
    twice : (b : Bool) → not (not b) ≡ b
    twice true = refl
    twice false = refl

-- a record of a sound journal that is in force returns the units that its lines name
own-returned : (journal : List Record) (n : ℕ) (item : Record) (target : Target) → AreSound journal → record_at journal n ≡ Some item → is_live journal n ≡ true
    → returned (filter (is_of_record n) (all_entries journal)) target ≡ units_named (lines_of item.what) target
own-returned journal n item target sound held live =
    let at = IsAt-from journal n item held in
    let parts = sound-parts [] at.front item at.rest (subst AreSound at.parts sound) in
    let made : entries_of journal n ≡ entries at.front item =
    ap (λ (records : List Record). entries_of records n) at.parts ∙ ap (entries_of (at.front ++ item ∷ at.rest)) at.count ∙ entries_of-at at.front item at.rest in
    ap (λ (es : List Entry). returned es target) (own-live journal n item held live ∙ made)
    ∙ movements-returned at.front (length at.front + 1) item.what target parts.0 (NoFaults-from at.front item.what parts.1)

-- a cancel that has no fault names a record that is held and in force
pub in-force : (journal : List Record) (cancelled : RecordNo) → not_live journal (Cancel cancelled) ≡ None → is_voucher_in_force journal cancelled.0 ≡ true
in-force journal cancelled none =
    (elim (is_voucher_in_force journal cancelled.0) as (λ b. cond b None (Some (NotLive cancelled)) ≡ None → b ≡ true) [ true ↦ λ h. refl | false ↦ λ h. cc ]) none

pub held-live : (journal : List Record) (n : ℕ) → is_voucher_in_force journal n ≡ true → ((item : Record) × (record_at journal n ≡ Some item)) × (is_live journal n ≡ true)
held-live journal n =
    elim (record_at journal n) as (λ o. (option_map_or record_is_voucher o false && is_live journal n) ≡ true → ((item : Record) × (o ≡ Some item)) × (is_live journal n ≡ true)) [
      | None ↦ λ h. cc
      | Some item ↦ λ h. ((item, refl), second (is_voucher item.what) (is_live journal n) h)
    ]
  where
    second : (a b : Bool) → (a && b) ≡ true → b ≡ true
    second true b h = h
    second false b h = cc

-- so the units that go with it are those of the record that it names
gone-by : (journal : List Record) (item : Record) (target : Target) (what : What) → AreSound journal → item.what ≡ what → NoFaults journal what
    → returned (filter (λ e. not (is_spared item e)) (all_entries journal)) target ≡ units_gone journal what target
unfolding cancels
gone-by journal item target (Item code method) sound says none = gone-none journal item target (λ n. ap (cancels n) says)
gone-by journal item target (Store code account) sound says none = gone-none journal item target (λ n. ap (cancels n) says)
gone-by journal item target (Receipt at lines) sound says none = gone-none journal item target (λ n. ap (cancels n) says)
gone-by journal item target (Issue at purpose lines) sound says none = gone-none journal item target (λ n. ap (cancels n) says)
gone-by journal item target (Transfer at lines) sound says none = gone-none journal item target (λ n. ap (cancels n) says)
gone-by journal item target (CustomerReturn at lines) sound says none = gone-none journal item target (λ n. ap (cancels n) says)
gone-by journal item target (SupplierReturn at lines) sound says none = gone-none journal item target (λ n. ap (cancels n) says)
gone-by journal item target (Landed charge basis targets) sound says none = gone-none journal item target (λ n. ap (cancels n) says)
gone-by journal item target (Freeze until) sound says none = gone-none journal item target (λ n. ap (cancels n) says)
gone-by journal item target (Cancel cancelled) sound says none =
    let found = held-live journal cancelled.0 (in-force journal cancelled none.live) in
    ap (λ (es : List Entry). returned es target) (spared-none item cancelled.0 (all_entries journal) (λ k. ap (cancels k) says))
    ∙ own-returned journal cancelled.0 found.0.0 target sound found.0.1 found.1
    ∙ sym (ap (λ (o : Option Record). option_map_or (record_units target) o 0) found.0.1)

-- they are no more than were counted
pub units_gone-le : (journal : List Record) (item : Record) (target : Target) → AreSound journal → voucher_fault journal item.what ≡ None → units_gone journal item.what target ≤ returned (all_entries journal) target
units_gone-le journal item target sound none =
    omega (arith, returned-parts (is_spared item) (all_entries journal) target, gone-by journal item target item.what sound refl (NoFaults-from journal item.what none))

-- the units that are returned with one more record
pub returned-snoc : (journal : List Record) (item : Record) (target : Target) → AreSound journal → voucher_fault journal item.what ≡ None
    → returned (all_entries (journal ++ item ∷ [])) target + units_gone journal item.what target ≡ returned (all_entries journal) target + units_named (lines_of item.what) target
returned-snoc journal item target sound none =
    let own = NoFaults-from journal item.what none in
    omega (
      arith,
      ap (λ (es : List Entry). returned es target) (all_entries-step journal item),
      returned-append (filter (is_spared item) (all_entries journal)) (entries journal item) target,
      returned-parts (is_spared item) (all_entries journal) target,
      gone-by journal item target item.what sound refl own,
      movements-returned journal (length journal + 1) item.what target sound own,
    )

-- they are no more than those of before and those that it names
pub returned-step : (journal : List Record) (item : Record) (target : Target) → AreSound journal → voucher_fault journal item.what ≡ None
    → returned (all_entries (journal ++ item ∷ [])) target ≤ returned (all_entries journal) target + units_named (lines_of item.what) target
returned-step journal item target sound none =
    let spared = filter (is_spared item) (all_entries journal) in
    omega (
      arith,
      ap (λ (es : List Entry). returned es target) (all_entries-step journal item),
      returned-append spared (entries journal item) target,
      returned-filter-le (is_spared item) (all_entries journal) target,
      movements-returned journal (length journal + 1) item.what target sound (NoFaults-from journal item.what none),
    )

-- the line of a record with the target's number
abbrev pub line_of_record : Target → Record → Option VoucherLine
line_of_record target item = line_numbered (lines_of item.what) target.line

abbrev pub line_at : List Record → Target → Option VoucherLine
line_at journal target = option_and_then (line_of_record target) (record_at journal target.voucher.0)

-- how many units the line moves, whatever its voucher's kind
abbrev pub units_at : List Record → Target → ℕ
units_at journal target = option_map_or line_units (line_at journal target) 0

same_target : (a b : Target) → is_same_target a b ≡ true → a ≡ b
same_target a b same =
    let vouchers : a.voucher.0 ≡ b.voucher.0 = grind (arith, nat_tests) in
    let lines : a.line ≡ b.line = grind (arith, nat_tests) in
    λ i. record { voucher = record { 0 = vouchers i }; line = lines i }

same_target-sym : (a b : Target) → is_same_target a b ≡ is_same_target b a
same_target-sym a b =
    elim (is_same_target b a) as (λ v. is_same_target b a ≡ v → is_same_target a b ≡ v) [
      | true ↦ λ h. grind (arith, nat_tests)
      | false ↦ λ h. grind (arith, nat_tests)
    ] refl

-- a target that is found has the units of its line
pub target_line-units : (journal : List Record) (named : NamedTarget) → option_map_or line_units (target_line journal named) 0 ≤ units_at journal named.target
target_line-units journal named =
    let step : (o : Option VoucherLine) → target_line journal named ≡ o → option_map_or line_units o 0 ≤ units_at journal named.target =
    λ o. elim o as (λ v. target_line journal named ≡ v → option_map_or line_units v 0 ≤ units_at journal named.target) [
      | None ↦ λ is. omega arith
      | Some found ↦ λ is.
          let target = IsTargetLine-from journal named found is in
          let own : line_at journal named.target ≡ Some found = ap (option_and_then (line_of_record named.target)) target.held ∙ target.line in
          omega (arith, ap (λ (l : Option VoucherLine). option_map_or line_units l 0) own)
    ] in
    step (target_line journal named) refl

-- the same line by another name of the target
among-same : (earlier : List NamedTarget) (a b : NamedTarget) → a.target ≡ b.target → is_among earlier a ≡ is_among earlier b
among-same [] a b same = refl
among-same (e ∷ es) a b same =
    ap (λ (t : Target). is_same_target t e.target || list_any (name_one_line a) es) same
    ∙ ap (λ (v : Bool). is_same_target b.target e.target || v) (among-same es a b same)

among-append : (earlier : List NamedTarget) (one named : NamedTarget) → is_among (earlier ++ one ∷ []) named ≡ (is_among earlier named || name_one_line named one)
among-append [] one named = elim (name_one_line named one) as (λ b. (b || false) ≡ b) [ true ↦ refl | false ↦ refl ]
among-append (e ∷ es) one named =
    ap (λ (v : Bool). name_one_line named e || v) (among-append es one named)
    ∙ elim (name_one_line named e) as (λ b. (b || (is_among es named || name_one_line named one)) ≡ ((b || is_among es named) || name_one_line named one)) [ true ↦ refl | false ↦ refl ]

-- lines that return units of a target
record NamesWithin (journal : List Record) (kind : TargetKind) (earlier : List NamedTarget) (lines : List ReturnLine) (target : Target) : Type 0 where
  none : is_among earlier (record { kind = kind; target = target }) ≡ true → units_named (map (return_line kind) lines) target ≡ 0
  within : units_named (map (return_line kind) lines) target ≤ left_to_return journal (record { kind = kind; target = target })

not_more : (asked left : ℕ) → is_less asked left ≡ false → asked ≤ left
not_more asked left h = grind (arith, nat_tests)

repeats_none : (earlier : List NamedTarget) (k : ℕ) (named : NamedTarget) (rest : List NamedTarget) → first_repeated earlier k (named ∷ rest) ≡ None
    → (is_among earlier named ≡ false) × (first_repeated (earlier ++ named ∷ []) (k + 1) rest ≡ None)
repeats_none earlier k named rest =
    elim (is_among earlier named) as (λ b. cond b (Some k) (first_repeated (earlier ++ named ∷ []) (k + 1) rest) ≡ None → (b ≡ false) × (first_repeated (earlier ++ named ∷ []) (k + 1) rest ≡ None)) [
      | true ↦ λ h. cc
      | false ↦ λ h. (refl, h)
    ]

names-within : (journal : List Record) (kind : TargetKind) (earlier : List NamedTarget) (k : ℕ) (lines : List ReturnLine) (target : Target)
    → first_repeated earlier k (map (return_target kind) lines) ≡ None → Each (Fails (asks_more journal)) (map (return_line kind) lines) → NamesWithin journal kind earlier lines target
names-within journal kind earlier k [] target once left = record { none = λ h. refl; within = omega arith }
names-within journal kind earlier k (line ∷ lines) target once left =
    let wanted : NamedTarget = record { kind = kind; target = target } in
    let own : NamedTarget = return_target kind line in
    let split = repeats_none earlier k own (map (return_target kind) lines) once in
    let rest = names-within journal kind (earlier ++ own ∷ []) (k + 1) lines target split.1 left.1 in
    let units = units_named-cons (return_line kind line) (map (return_line kind) lines) target in
    let step : (b : Bool) → is_same_target line.target target ≡ b → NamesWithin journal kind earlier (line ∷ lines) target =
    λ b. elim b as (λ v. is_same_target line.target target ≡ v → NamesWithin journal kind earlier (line ∷ lines) target) [
      | true ↦ λ is.
          let same : line.target ≡ target = same_target line.target target is in
          let later : is_among (earlier ++ own ∷ []) wanted ≡ true =
          among-append earlier own wanted ∙ ap (λ (v : Bool). is_among earlier wanted || v) (same_target-sym target line.target ∙ is) ∙ or_true (is_among earlier wanted) in
          let only : units_named (map (return_line kind) (line ∷ lines)) target ≡ line.qty.0 + 0 =
          units ∙ ap (λ (v : Bool). cond v line.qty.0 0 + units_named (map (return_line kind) lines) target) is ∙ ap (λ (x : ℕ). line.qty.0 + x) (rest.none later) in
          record {
            none = λ h. absurd (false≢true (sym split.0 ∙ among-same earlier own wanted same ∙ h));
            within =
                let asked : line.qty.0 ≤ left_to_return journal own = not_more line.qty.0 (left_to_return journal own) left.0 in
                let left_same : left_to_return journal own ≡ left_to_return journal wanted = ap (λ (t : Target). left_to_return journal (record { kind = kind; target = t })) same in
                omega (arith, only, asked, left_same);
          }
      | false ↦ λ is.
          let same : units_named (map (return_line kind) (line ∷ lines)) target ≡ 0 + units_named (map (return_line kind) lines) target =
          units ∙ ap (λ (v : Bool). cond v line.qty.0 0 + units_named (map (return_line kind) lines) target) is in
          record {
            none = λ h.
                let later : is_among (earlier ++ own ∷ []) wanted ≡ true = among-append earlier own wanted ∙ ap (λ (v : Bool). v || name_one_line wanted own) h in
                omega (arith, same, rest.none later);
            within = omega (arith, same, rest.within);
          }
    ] in
    step (is_same_target line.target target) refl
  where
    or_true : (b : Bool) → (b || true) ≡ true
    or_true true = refl
    or_true false = refl

-- lines without a target return nothing
abbrev Returnless : Target → VoucherLine → Type 0
Returnless target line = returns_line target line ≡ false

units_named-none : (lines : List VoucherLine) (target : Target) → Each (Returnless target) lines → units_named lines target ≡ 0
units_named-none [] target all = refl
units_named-none (line ∷ lines) target all =
    omega (arith, units_named-cons line lines target ∙ ap (λ (v : Bool). cond v line.qty.0 0 + units_named lines target) all.0, units_named-none lines target all.1)

-- with what a record without a fault of its own returns of a line no more is returned than it has
units-within : (journal : List Record) (what : What) (target : Target) → NoFaults journal what → returned (all_entries journal) target ≤ units_at journal target
    → returned (all_entries journal) target + units_named (lines_of what) target ≤ units_at journal target
units-within journal (Item code method) target none held = omega (arith, held)
units-within journal (Store code account) target none held = omega (arith, held)
units-within journal (Receipt at lines) target none held = omega (arith, held, units_named-none (map receipt_line lines) target (Each-map (Returnless target) receipt_line (λ line. refl) lines))
units-within journal (Issue at purpose lines) target none held = omega (arith, held, units_named-none (map issue_line lines) target (Each-map (Returnless target) issue_line (λ line. refl) lines))
units-within journal (Transfer at lines) target none held = omega (arith, held, units_named-none (map transfer_line lines) target (Each-map (Returnless target) transfer_line (λ line. refl) lines))
units-within journal (CustomerReturn at lines) target none held =
    let few = names-within journal OfSale [] 1 lines target none.once (first_line-none (asks_more journal) 1 (map (return_line OfSale) lines) none.left) in
    omega (arith, held, few.within, target_line-units journal (record { kind = OfSale; target = target }))
units-within journal (SupplierReturn at lines) target none held =
    let few = names-within journal OfReceipt [] 1 lines target none.once (first_line-none (asks_more journal) 1 (map (return_line OfReceipt) lines) none.left) in
    omega (arith, held, few.within, target_line-units journal (record { kind = OfReceipt; target = target }))
units-within journal (Landed charge basis targets) target none held = omega (arith, held)
units-within journal (Freeze until) target none held = omega (arith, held)
units-within journal (Cancel cancelled) target none held = omega (arith, held)

-- one more record leaves the lines of those before
slice_get-append : {X : Type 0} (xs ys : List X) (i : ℕ) (x : X) → slice_get xs i ≡ Some x → slice_get (xs ++ ys) i ≡ Some x
slice_get-append [] ys zero x is = cc
slice_get-append [] ys (suc i) x is = cc
slice_get-append (z ∷ xs) ys zero x is = is
slice_get-append (z ∷ xs) ys (suc i) x is = slice_get-append xs ys i x is

pub record_at-append : (journal more : List Record) (n : ℕ) (item : Record) → record_at journal n ≡ Some item → record_at (journal ++ more) n ≡ Some item
record_at-append journal more zero item is = cc
record_at-append journal more (suc n) item is = slice_get-append journal more n item is

pub units_at-append : (journal more : List Record) (target : Target) → units_at journal target ≤ units_at (journal ++ more) target
units_at-append journal more target =
    let step : (o : Option Record) → record_at journal target.voucher.0 ≡ o → option_map_or line_units (option_and_then (line_of_record target) o) 0 ≤ units_at (journal ++ more) target =
    λ o. elim o as (λ v. record_at journal target.voucher.0 ≡ v → option_map_or line_units (option_and_then (line_of_record target) v) 0 ≤ units_at (journal ++ more) target) [
      | None ↦ λ is. omega arith
      | Some item ↦ λ is.
          omega (arith, ap (λ (r : Option Record). option_map_or line_units (option_and_then (line_of_record target) r) 0) (record_at-append journal more target.voucher.0 item is))
    ] in
    step (record_at journal target.voucher.0) refl

-- a sound journal with further records, each sound in the journal before it
AreSoundAfter-within : (journal rest : List Record) (target : Target) → AreSound journal → AreSoundAfter journal rest → returned (all_entries journal) target ≤ units_at journal target
    → (sound_snoc : (done : List Record) (item : Record) → AreSound done → voucher_fault done item.what ≡ None → AreSound (done ++ item ∷ []))
    → returned (all_entries (journal ++ rest)) target ≤ units_at (journal ++ rest) target
AreSoundAfter-within journal [] target sound after held snoc = rw append-nil held
AreSoundAfter-within journal (item ∷ rest) target sound after held snoc =
    let none = NoFaults-from journal item.what after.0 in
    let more = returned-step journal item target sound after.0 in
    let within = units-within journal item.what target none held in
    let grown = units_at-append journal (item ∷ []) target in
    subst (λ (all : List Record). returned (all_entries all) target ≤ units_at all target) (append_assoc journal (item ∷ []) rest)
    (AreSoundAfter-within (journal ++ item ∷ []) rest target (snoc journal item sound after.0) after.1 (omega (arith, more, within, grown)) snoc)

-- a sound journal stays so with a record that has no fault of its own
sound_after-snoc : (journal records : List Record) (item : Record) → AreSoundAfter journal records → voucher_fault (journal ++ records) item.what ≡ None → AreSoundAfter journal (records ++ item ∷ [])
sound_after-snoc journal [] item sound none = (subst (λ (held : List Record). voucher_fault held item.what ≡ None) (append-nil journal) none, tt)
sound_after-snoc journal (r ∷ records) item sound none =
    (sound.0, sound_after-snoc (journal ++ r ∷ []) records item sound.1 (subst (λ (held : List Record). voucher_fault held item.what ≡ None) (sym (append_assoc journal (r ∷ []) records)) none))

pub AreSound-snoc : (journal : List Record) (item : Record) → AreSound journal → voucher_fault journal item.what ≡ None → AreSound (journal ++ item ∷ [])
AreSound-snoc journal item sound none = sound_after-snoc [] journal item sound none

-- of each line no more units are returned than it has
pub returned-within : (journal : List Record) (target : Target) → AreSound journal → returned (all_entries journal) target ≤ units_at journal target
unfolding all_entries
returned-within journal target sound = AreSoundAfter-within [] journal target tt sound (omega arith) AreSound-snoc

-- and no more than a line can have
pub units_at-le : (journal : List Record) (target : Target) → units_at journal target ≤ 1_000_000_000
units_at-le journal target =
    elim (line_at journal target) as (λ o. option_map_or line_units o 0 ≤ 1_000_000_000) [
      | None ↦ omega arith
      | Some line ↦ line.quantity.1
    ]
