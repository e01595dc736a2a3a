-- The posting line of a legal journal is linked: each transfer's arrival and each return to what left or came before it.
use Rattle.std.proofs.Common.{◌≡◌, ℕ, ◌+◌, ◌<◌, ◌≤◌, Bool, true, false, ◌&&◌, not, List, [], ◌∷◌, ◌++◌, sum_by, Some, refl, sym, ap, ◌∙◌, subst, arith, nat_lt}
use Rattle.std.specs.Prelude.{◌||◌}
use Rattle.std.proofs.lemmas.Bool.{false≢true}
use Rattle.std.proofs.lemmas.Bool.Decides.{nat_tests}
use Rattle.std.proofs.lemmas.List.Sorted.{All-permutation, sum_by-IsPermutation}
use Rattle.std.proofs.lemmas.List.Sums.{sum_by-cons}
use Rattle.stock_nums.specs.Causes.{enters_by, is_entering}
use Rattle.stock_nums.specs.Places.{first_by, is_later, side_rank, is_before}
use Rattle.stock_nums.specs.Targets.{is_same_target}
use Rattle.stock_nums.specs.declared.cause.Cause.{Cause}
use Rattle.stock_nums.specs.declared.cause.Cause.TheVariants as cause
use Rattle.stock_nums.specs.declared.cause.Target.{Target}
use Rattle.stock_nums.specs.declared.entry.Entry.{Entry}
use Rattle.stock_nums.specs.declared.moment.Moment.{Moment}
use Rattle.stock_nums.specs.declared.place.Side.{Side}
use Rattle.stock_nums.specs.declared.place.Side.TheVariants.{Leaves, Enters}
use Rattle.stock_model.specs.declared.records.Record.{Record}
use Rattle.stock_model.specs.declared.targets.TargetKind.{TargetKind}
use Rattle.stock_model.specs.declared.targets.TargetKind.TheVariants.{OfSale, OfReceipt}
use Rattle.stock_model.specs.declared.vouchers.What.{What}
use Rattle.stock_model.specs.declared.vouchers.What.TheVariants.{Item, Store, Receipt, Issue, Transfer, CustomerReturn, SupplierReturn, Landed, Freeze, Cancel}
use Rattle.stock_model.specs.Conservation.{is_receipt, is_sale, is_sent, is_arrived, is_customer_return}
use Rattle.stock_model.specs.Enough.{entry_units}
use Rattle.stock_model.specs.Entries.{all_entries}
use Rattle.stock_model.specs.InOrder.{IsBefore}
use Rattle.stock_model.specs.Journals.{AreSound, AreLegal}
use Rattle.stock_model.specs.PostingOrder.{posting_line}
use Rattle.stock_model.specs.Returns.{is_return_of, returns_of, returned}
use Rattle.stock_model.specs.Values.{own_line}
use Rattle.stock_model.specs.VoucherLines.{VoucherLine, is_of_kind, moment_of}
use Rattle.stock_laws.proofs.Conserving.{side-is}
use Rattle.stock_laws.proofs.EntryRecords.{Fits, to_target, IsReturnOf, KnowsTarget, IsOfRecord}
use Rattle.stock_laws.proofs.KnownEntries.{entries-known}
use Rattle.stock_laws.proofs.Legality.{AreSound-from}
use Rattle.stock_laws.proofs.Linked.{is_same_target-true, is_same_target-refl, line_by, IsNone, IsNoneLeaving, LeavesBy, IsIssuedBy, IsIssuedSo, IsLinkedBy, IsLinked, AreLinkedAfter, AreLinkedAfter-from}
use Rattle.stock_model.proofs.Pairwise.{Each, Precedes, Pairwise, Pairwise-from_AllPairs}
use Rattle.stock_laws.proofs.PostingLine.{IsInPostingOrder-posting_line, IsPermutation-posting_line}
use Rattle.stock_laws.proofs.RecordsAt.{what_at, what_at-once, target-units, target-what, target-kind, target_line-once}
use Rattle.stock_laws.proofs.ReturnedUnits.{returned-append, returned-within}
use Rattle.stock_laws.proofs.TestedSums.{All-from_Each, Each-from_All, counted, tested-cons, Each-front, Each-both}

not_both : (a b : Bool) → (a ≡ true → b ≡ true → ⊥) → (a && b) ≡ false
not_both true true h = absurd (h refl refl)
not_both true false h = refl
not_both false b h = refl

-- of two places of one moment, record and line the one that comes first leaves, and the other enters
first_by-same : (x y : ℕ) (rest : Bool) → x ≡ y → first_by x y rest ≡ true → rest ≡ true
first_by-same x y rest same h = grind (arith, nat_tests)

sides-ordered : (a b : Side) → nat_lt (side_rank a) (side_rank b) ≡ true → (is_entering a ≡ false) × (is_entering b ≡ true)
sides-ordered Leaves Leaves h = cc
sides-ordered Leaves Enters h = (refl, refl)
sides-ordered Enters Leaves h = cc
sides-ordered Enters Enters h = cc

one_line-ordered : (a b : Entry) → a.place.moment ≡ b.place.moment → a.place.voucher.0 ≡ b.place.voucher.0 → a.place.line ≡ b.place.line → IsBefore a b
    → (is_entering a.place.side ≡ false) × (is_entering b.place.side ≡ true)
one_line-ordered a b moment voucher line before =
    let p = a.place in
    let q = b.place in
    let last = first_by p.line q.line (nat_lt (side_rank p.side) (side_rank q.side)) in
    let third = first_by p.voucher.0 q.voucher.0 last in
    let second = first_by p.moment.second q.moment.second third in
    let h = first_by-same p.moment.date q.moment.date second (ap (λ (m : Moment). m.date) moment) before in
    let k = first_by-same p.moment.second q.moment.second third (ap (λ (m : Moment). m.second) moment) h in
    let l = first_by-same p.voucher.0 q.voucher.0 last voucher k in
    sides-ordered p.side q.side (first_by-same p.line q.line (nat_lt (side_rank p.side) (side_rank q.side)) line l)

-- what is of no earlier moment, and of a later record, does not come before
later-not_before : (ad as_ av bd bs bv : ℕ) (rest : Bool) → first_by ad bd (nat_lt as_ bs) ≡ false → bv < av → first_by ad bd (first_by as_ bs (first_by av bv rest)) ≡ false
later-not_before ad as_ av bd bs bv rest h k = grind (arith, nat_tests)

-- the movement comes before this one
abbrev ComesBefore : Entry → Entry → Type 0
ComesBefore e x = IsBefore x e

-- what is known of an earlier movement
record IsEarlier (journal : List Record) (e : Entry) (x : Entry) : Type 0 where
  of_record : IsOfRecord journal x
  before : IsBefore x e

-- movements of one record have one voucher and moment
one_voucher : (journal : List Record) (x e : Entry) → IsOfRecord journal x → (what : What) → what_at journal e.place.voucher.0 ≡ Some what → own_line x ≡ own_line e → (h : IsOfRecord journal x) → h.what ≡ what
one_voucher journal x e first what held same own =
    what_at-once journal x.place.voucher.0 own.what what own.held (ap (λ (t : Target). what_at journal t.voucher.0) same ∙ held)

one_moment : (journal : List Record) (x e : Entry) → IsOfRecord journal x → IsOfRecord journal e → own_line x ≡ own_line e → x.place.moment ≡ e.place.moment
one_moment journal x e own other same =
    let whats = one_voucher journal x e own other.what other.held same own in
    let both : Some x.place.moment ≡ Some e.place.moment = sym own.timed ∙ ap moment_of whats ∙ other.timed in
    cc

-- of two movements of one line the first leaves, and the second enters
first-leaves : (journal : List Record) (x e : Entry) → IsEarlier journal e x → IsOfRecord journal e → is_same_target (own_line x) (own_line e) ≡ true → (is_entering x.place.side ≡ false) × (is_entering e.place.side ≡ true)
first-leaves journal x e earlier own same =
    let lines = is_same_target-true (own_line x) (own_line e) same in
    one_line-ordered x e (one_moment journal x e earlier.of_record own lines) (ap (λ (t : Target). t.voucher.0) lines) (ap (λ (t : Target). t.line) lines) earlier.before

entry-side : (e : Entry) → is_entering e.place.side ≡ enters_by e.cause
entry-side e = side-is (enters_by e.cause) e.place.side e.sides

-- a kind of cause by which goods of the movement's own line enter
abbrev IsEntering : (Cause → Bool) → Type 0
IsEntering kind = (c : Cause) → kind c ≡ true → (enters_by c ≡ true) × ((e : Entry) → line_by e c ≡ own_line e)

receipt-enters : IsEntering is_receipt
receipt-enters (cause.Receipt amount) h = (refl, λ e. refl)
receipt-enters (cause.Issue sold) h = cc
receipt-enters cause.TransferLeaves h = cc
receipt-enters cause.TransferEnters h = cc
receipt-enters (cause.CustomerReturn target issued) h = cc
receipt-enters (cause.SupplierReturn target amount got) h = cc

arrived-enters : IsEntering is_arrived
arrived-enters (cause.Receipt amount) h = cc
arrived-enters (cause.Issue sold) h = cc
arrived-enters cause.TransferLeaves h = cc
arrived-enters cause.TransferEnters h = (refl, λ e. refl)
arrived-enters (cause.CustomerReturn target issued) h = cc
arrived-enters (cause.SupplierReturn target amount got) h = cc

-- nothing entered by the line before
none-entered : (journal : List Record) (kind : Cause → Bool) → IsEntering kind → (e : Entry) → IsOfRecord journal e → (x : Entry) → IsEarlier journal e x → IsNone kind (own_line e) x
none-entered journal kind entering e own x earlier =
    not_both (kind x.cause) (is_same_target (line_by x x.cause) (own_line e))
    (λ is same.
    let of_kind = entering x.cause is in
    let lines : is_same_target (own_line x) (own_line e) ≡ true = ap (λ (t : Target). is_same_target t (own_line e)) (sym (of_kind.1 x)) ∙ same in
    let sides = first-leaves journal x e earlier own lines in
    false≢true (sym sides.0 ∙ entry-side x ∙ of_kind.0))

-- nothing left by the line before
none-left : (journal : List Record) (e : Entry) → IsOfRecord journal e → is_entering e.place.side ≡ false → (x : Entry) → IsEarlier journal e x → IsNoneLeaving (own_line e) x
none-left journal e own leaves x earlier =
    not_both (is_same_target (own_line x) (own_line e)) (not (is_entering x.place.side))
    (λ same not_entering. false≢true (sym leaves ∙ (first-leaves journal x e earlier own same).1))

-- a return of the line by a customer comes after the line
returned-later : (journal : List Record) (e : Entry) → IsOfRecord journal e → (x : Entry) (c : Cause) → KnowsTarget journal x c → is_customer_return c ≡ true → is_same_target (line_by x c) (own_line e) ≡ true
    → (e.place.voucher.0 < x.place.voucher.0) × (is_later e.place.moment x.place.moment ≡ false)
returned-later journal e own x (cause.Receipt amount) knows is same = cc
returned-later journal e own x (cause.Issue sold) knows is same = cc
returned-later journal e own x cause.TransferLeaves knows is same = cc
returned-later journal e own x cause.TransferEnters knows is same = cc
returned-later journal e own x (cause.CustomerReturn target issued) knows is same =
    let line : target ≡ own_line e = is_same_target-true target (own_line e) same in (
      subst (λ (t : Target). t.voucher.0 < x.place.voucher.0) line knows.earlier,
      knows.not_later own.what (ap (λ (t : Target). what_at journal t.voucher.0) line ∙ own.held) e.place.moment own.timed,
    )
returned-later journal e own x (cause.SupplierReturn target amount got) knows is same = cc

none-returned : (journal : List Record) (e : Entry) → IsOfRecord journal e → (x : Entry) → IsEarlier journal e x → IsNone is_customer_return (own_line e) x
none-returned journal e own x earlier =
    not_both (is_customer_return x.cause) (is_same_target (line_by x x.cause) (own_line e))
    (λ is same.
    let later = returned-later journal e own x x.cause earlier.of_record.target is same in
    let p = x.place in
    let q = e.place in
    let never : is_before p q ≡ false =
    later-not_before p.moment.date p.moment.second p.voucher.0 q.moment.date q.moment.second q.voucher.0 (first_by p.line q.line (nat_lt (side_rank p.side) (side_rank q.side))) later.1 later.0 in
    false≢true (sym never ∙ earlier.before))

-- what leaves by a transfer's line is sent
sent-by : (c : Cause) → (is_sent c || is_arrived c) ≡ true → enters_by c ≡ false → is_sent c ≡ true
sent-by (cause.Receipt amount) h leaves = cc
sent-by (cause.Issue sold) h leaves = cc
sent-by cause.TransferLeaves h leaves = refl
sent-by cause.TransferEnters h leaves = cc
sent-by (cause.CustomerReturn target issued) h leaves = cc
sent-by (cause.SupplierReturn target amount got) h leaves = cc

transfer-sends : (what : What) (c : Cause) → Fits what cause.TransferEnters → Fits what c → enters_by c ≡ false → is_sent c ≡ true
transfer-sends (Item code method) c h k leaves = absurd h
transfer-sends (Store code account) c h k leaves = absurd h
transfer-sends (Receipt at lines) c h k leaves = cc
transfer-sends (Issue at purpose lines) c h k leaves = cc
transfer-sends (Transfer at lines) c h k leaves = sent-by c k leaves
transfer-sends (CustomerReturn at lines) c h k leaves = cc
transfer-sends (SupplierReturn at lines) c h k leaves = cc
transfer-sends (Landed charge basis targets) c h k leaves = absurd h
transfer-sends (Freeze until) c h k leaves = absurd h
transfer-sends (Cancel cancelled) c h k leaves = absurd h

-- what leaves by a sale's line is sold
sale-sells : (what : What) (c : Cause) → is_of_kind OfSale what ≡ true → Fits what c → is_sale c ≡ true
sale-sells (Item code method) c h k = cc
sale-sells (Store code account) c h k = cc
sale-sells (Receipt at lines) c h k = cc
sale-sells (Issue at purpose lines) c h k = ap is_sale k ∙ h
sale-sells (Transfer at lines) c h k = cc
sale-sells (CustomerReturn at lines) c h k = cc
sale-sells (SupplierReturn at lines) c h k = cc
sale-sells (Landed charge basis targets) c h k = cc
sale-sells (Freeze until) c h k = cc
sale-sells (Cancel cancelled) c h k = cc

sent-only : (journal : List Record) (e : Entry) → IsOfRecord journal e → e.cause ≡ cause.TransferEnters → (x : Entry) → IsEarlier journal e x → LeavesBy is_sent (own_line e) x
sent-only journal e own is x earlier same leaves =
    let lines = is_same_target-true (own_line x) (own_line e) same in
    let whats = one_voucher journal x e earlier.of_record own.what own.held lines earlier.of_record in
    transfer-sends own.what x.cause (subst (Fits own.what) is own.fits) (subst (λ (w : What). Fits w x.cause) whats earlier.of_record.fits) (sym (entry-side x) ∙ leaves)

sold-only : (journal : List Record) (e : Entry) (target : Target) (units : ℕ) → IsReturnOf journal e OfSale target units → (x : Entry) → IsEarlier journal e x → LeavesBy is_sale target x
sold-only journal e target units own x earlier same leaves =
    let line : own_line x ≡ target = is_same_target-true (own_line x) target same in
    let sale = target-what journal (to_target OfSale target) own.found own.is in
    let whats : earlier.of_record.what ≡ sale.0 =
    what_at-once journal x.place.voucher.0 earlier.of_record.what sale.0 earlier.of_record.held (ap (λ (t : Target). what_at journal t.voucher.0) line ∙ sale.1) in
    sale-sells sale.0 x.cause sale.2 (subst (λ (w : What). Fits w x.cause) whats earlier.of_record.fits)

other_kinds : OfReceipt ≡ OfSale → ⊥
other_kinds same = cc

-- all returns of a sale's line are by customers, and say how many units it had
issued-by : (journal : List Record) (e : Entry) (target : Target) (units : ℕ) → IsReturnOf journal e OfSale target units → (x : Entry) (c : Cause) → KnowsTarget journal x c → IsIssuedBy target units c
issued-by journal e target units own x (cause.Receipt amount) knows = tt
issued-by journal e target units own x (cause.Issue sold) knows = tt
issued-by journal e target units own x cause.TransferLeaves knows = tt
issued-by journal e target units own x cause.TransferEnters knows = tt
issued-by journal e target units own x (cause.CustomerReturn t issued) knows =
    λ same.
    let lines : t ≡ target = is_same_target-true t target same in
    let one = target_line-once journal (to_target OfSale t) (to_target OfSale target) knows.found own.found lines knows.is own.is in
    knows.of_units ∙ ap (λ (l : VoucherLine). l.qty.0) one ∙ sym own.of_units
issued-by journal e target units own x (cause.SupplierReturn t amount got) knows =
    let step : (b : Bool) → is_same_target t target ≡ b → b ≡ false =
    λ b. elim b as (λ v. is_same_target t target ≡ v → v ≡ false) [
      | true ↦ λ same. absurd (other_kinds (target-kind journal (to_target OfReceipt t) (to_target OfSale target) knows.found own.found (is_same_target-true t target same) knows.is own.is))
      | false ↦ λ same. refl
    ] in
    step (is_same_target t target) refl

-- a property of each earlier movement
each-earlier : (journal : List Record) (e : Entry) (P : Entry → Type 0) → ((x : Entry) → IsEarlier journal e x → P x) → (past : List Entry) → Each (IsEarlier journal e) past → Each P past
each-earlier journal e P f [] h = tt
each-earlier journal e P f (x ∷ past) h = (f x h.0, each-earlier journal e P f past h.1)

-- a movement is linked to those before it, by its cause
linked-by : (journal : List Record) (past : List Entry) (e : Entry) (c : Cause) → e.cause ≡ c → IsOfRecord journal e → KnowsTarget journal e c → Each (IsEarlier journal e) past
    → ((kind : TargetKind) (target : Target) (units : ℕ) → IsReturnOf journal e kind target units → is_return_of target c ≡ true → returned past target + e.qty.0 ≤ units)
    → IsLinkedBy past e c
linked-by journal past e (cause.Receipt amount) is own knows earlier within =
    each-earlier journal e (IsNone is_receipt (own_line e)) (none-entered journal is_receipt receipt-enters e own) past earlier
linked-by journal past e (cause.Issue sold) is own knows earlier within =
    each-earlier journal e (IsNone is_customer_return (own_line e)) (none-returned journal e own) past earlier
linked-by journal past e cause.TransferLeaves is own knows earlier within =
    each-earlier journal e (IsNone is_customer_return (own_line e)) (none-returned journal e own) past earlier
linked-by journal past e cause.TransferEnters is own knows earlier within = (
  each-earlier journal e (IsNone is_arrived (own_line e)) (none-entered journal is_arrived arrived-enters e own) past earlier,
  each-earlier journal e (LeavesBy is_sent (own_line e)) (sent-only journal e own is) past earlier,
)
linked-by journal past e (cause.CustomerReturn target issued) is own knows earlier within = (
  each-earlier journal e (IsIssuedSo target issued.0) (λ x h. issued-by journal e target issued.0 knows x x.cause h.of_record.target) past earlier,
  each-earlier journal e (LeavesBy is_sale target) (sold-only journal e target issued.0 knows) past earlier,
  within OfSale target issued.0 knows (is_same_target-refl target),
)
linked-by journal past e (cause.SupplierReturn target amount got) is own knows earlier within = (
  each-earlier journal e (IsNone is_customer_return (own_line e)) (none-returned journal e own) past earlier,
  within OfReceipt target got.0 knows (is_same_target-refl target),
)

-- the units that a movement returns of a line
abbrev returned_units : Target → Entry → ℕ
returned_units t e = counted (returns_of t e) (entry_units e)

returned-sum : (es : List Entry) (t : Target) → returned es t ≡ sum_by (returned_units t) es
returned-sum [] t = refl
returned-sum (e ∷ es) t = omega (arith, tested-cons entry_units (returns_of t) e es, sum_by-cons (returned_units t) e es, returned-sum es t)

-- the posting line returns what the journal's movements return
returned-posting_line : (journal : List Record) (t : Target) → returned (posting_line journal) t ≡ returned (all_entries journal) t
returned-posting_line journal t =
    returned-sum (posting_line journal) t
    ∙ sum_by-IsPermutation (returned_units t) (all_entries journal) (posting_line journal) (IsPermutation-posting_line journal)
    ∙ sym (returned-sum (all_entries journal) t)

-- each movement of the posting line is known
posting_line-known : (journal : List Record) → AreSound journal → Each (IsOfRecord journal) (posting_line journal)
posting_line-known journal sound =
    Each-from_All (IsOfRecord journal) (posting_line journal)
    (All-permutation (IsOfRecord journal) (all_entries journal) (posting_line journal) (IsPermutation-posting_line journal)
    (All-from_Each (IsOfRecord journal) (all_entries journal) (entries-known journal sound)))

-- those before one of a line in order come before it
Precedes-one : (x : Entry) (past : List Entry) (e : Entry) (rest : List Entry) → Precedes IsBefore x (past ++ e ∷ rest) → IsBefore x e
Precedes-one x [] e rest h = h.0
Precedes-one x (y ∷ past) e rest h = Precedes-one x past e rest h.1

before-each : (past : List Entry) (e : Entry) (rest : List Entry) → Pairwise IsBefore (past ++ e ∷ rest) → Each (ComesBefore e) past
before-each [] e rest h = tt
before-each (x ∷ past) e rest h = (Precedes-one x past e rest h.0, before-each past e rest h.1)

Each-at_split : (P : Entry → Type 0) (past : List Entry) (e : Entry) (rest : List Entry) → Each P (past ++ e ∷ rest) → P e
Each-at_split P [] e rest all = all.0
Each-at_split P (x ∷ past) e rest all = Each-at_split P past e rest all.1

linked-at : (journal : List Record) → AreSound journal → (past : List Entry) (e : Entry) (rest : List Entry) → past ++ e ∷ rest ≡ posting_line journal → IsLinked past e
linked-at journal sound past e rest parts =
    let all : Each (IsOfRecord journal) (past ++ e ∷ rest) = subst (Each (IsOfRecord journal)) (sym parts) (posting_line-known journal sound) in
    let own : IsOfRecord journal e = Each-at_split (IsOfRecord journal) past e rest all in
    let order : Pairwise IsBefore (past ++ e ∷ rest) =
    subst (Pairwise IsBefore) (sym parts) (Pairwise-from_AllPairs IsBefore (posting_line journal) (IsInPostingOrder-posting_line journal)) in
    let earlier : Each (IsEarlier journal e) past =
    Each-both (IsOfRecord journal) (ComesBefore e) (IsEarlier journal e) (λ x h k. record { of_record = h; before = k }) past
    (Each-front (IsOfRecord journal) past (e ∷ rest) all) (before-each past e rest order) in
    let units : (target : Target) → is_return_of target e.cause ≡ true → returned past target + e.qty.0 ≤ returned (all_entries journal) target =
    λ target returns.
    omega (
      arith,
      returned-append past (e ∷ rest) target,
      tested-cons entry_units (returns_of target) e rest,
      ap (λ (b : Bool). counted b (entry_units e)) returns,
      ap (λ (es : List Entry). returned es target) parts,
      returned-posting_line journal target,
    ) in (
      linked-by journal past e e.cause refl own own.target earlier
          (λ kind target n one returns. omega (arith, units target returns, returned-within journal target sound, target-units journal (to_target kind target) one.found one.is, one.of_units)),
      (λ leaves. each-earlier journal e (IsNoneLeaving (own_line e)) (none-left journal e own leaves) past earlier),
    )

-- the posting line of a legal journal is linked
pub AreLinked-posting_line : (journal : List Record) → AreLegal journal → AreLinkedAfter [] (posting_line journal)
AreLinked-posting_line journal legal =
    AreLinkedAfter-from [] (posting_line journal) (λ past e rest parts. linked-at journal (AreSound-from journal legal) past e rest parts)
