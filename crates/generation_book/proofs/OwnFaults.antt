-- A record's own fault is neither that its keeper failed nor want of memory.
use Rattle.std.proofs.Common.{◌≡◌, ◌⊎◌, ℕ, Bool, true, false, List, [], ◌∷◌, ◌++◌, Option, Some, None, IfSome, inl, inr, refl, sym, subst}
use Rattle.std.specs.Prelude.{if◌then◌else◌, is_some}
use Rattle.std.specs.Option.{option_map, option_or, option_and_then}
use Rattle.stock_nums.specs.Accounts.{is_store_account}
use Rattle.stock_nums.specs.Codes.{is_code}
use Rattle.stock_nums.specs.declared.moment.Moment.{Moment}
use Rattle.stock_io.specs.Counts.{raised}
use Rattle.stock_model.specs.Cancelling.{is_voucher_in_force, first_link}
use Rattle.stock_model.specs.Faults.{fault, fault_but_short, full, short, short_of, voucher_fault, master_fault, lines_fault, targets_fault, changes_closed, frozen_by, frozen_fault, first_fault, code_taken, code_shape, account_range, unknown_item, unknown_store, same_store, unknown_target, not_live, linked, linked_by, link_later, repeated_target, over_return, no_basis, over_return_at}
use Rattle.stock_model.specs.Freezing.{frozen}
use Rattle.stock_model.specs.Masters.{item_with, store_with}
use Rattle.stock_model.specs.declared.deeds.Deed.{Deed}
use Rattle.stock_model.specs.declared.faults.PostFault.{PostFault}
use Rattle.stock_model.specs.declared.faults.PostFault.TheVariants.{CodeTaken, CodeShape, AccountRange, UnknownItem, UnknownStore, SameStore, UnknownTarget, NotLive, Linked, LinkLater, RepeatedTarget, OverReturn, NoBasis, Frozen, Full, Short, KeeperFailed, NoMemory}
use Rattle.stock_model.specs.VoucherLines.{lines_of}
use Rattle.stock_model.specs.declared.records.Record.{Record}
use Rattle.stock_model.specs.declared.vouchers.What.{What}
use Rattle.stock_model.specs.declared.vouchers.What.TheVariants.{Item, Store, Receipt, Issue, Transfer, CustomerReturn, SupplierReturn, Landed, Freeze, Cancel}
use Rattle.stock_keeper.specs.Calls.{KeeperState}
use Rattle.stock_keeper.specs.declared.fault.KeepFault.{KeepFault}
use Rattle.stock_keeper.specs.declared.fault.KeepFault.TheVariants as keep
use Rattle.generation_book.specs.Refusals.{refusal_of, IsRefusalOf, IsAfterRefusal, HasTried, HasTriedFor, HasAsked, HasAskedFor}
use Rattle.generation_book.proofs.Books.{at_once-none}

abbrev pub IsOwn : PostFault → Type 0
IsOwn KeeperFailed = ⊥
IsOwn NoMemory = ⊥
IsOwn f = Unit {0}

abbrev AreOwn : List (Option PostFault) → Type 0
AreOwn [] = Unit {0}
AreOwn (f ∷ fs) = IfSome f IsOwn × AreOwn fs

own-or : (a b : Option PostFault) → IfSome a IsOwn → IfSome b IsOwn → IfSome (option_or a b) IsOwn
own-or None b first second = second
own-or (Some f) b first second = first

own-first : (faults : List (Option PostFault)) → AreOwn faults → IfSome (first_fault faults) IsOwn
own-first [] own = tt
own-first (f ∷ fs) own = own-or f (first_fault fs) own.0 (own-first fs own.1)

own-map : {X : Type 0} (make : X → PostFault) → ((x : X) → IsOwn (make x)) → (o : Option X) → IfSome (option_map make o) IsOwn
own-map make own None = tt
own-map make own (Some x) = own x

own-if : (b : Bool) (f : PostFault) → IsOwn f → IfSome (if b then Some f else None) IsOwn
own-if true f own = own
own-if false f own = tt

own-unless : (b : Bool) (f : PostFault) → IsOwn f → IfSome (if b then None else Some f) IsOwn
own-unless true f own = tt
own-unless false f own = own

own-taken : (journal : List Record) (what : What) → IfSome (code_taken journal what) IsOwn
own-taken journal (Item code method) = own-if (is_some (item_with journal code)) CodeTaken tt
own-taken journal (Store code account) = own-if (is_some (store_with journal code)) CodeTaken tt
own-taken journal (Receipt at lines) = tt
own-taken journal (Issue at purpose lines) = tt
own-taken journal (Transfer at lines) = tt
own-taken journal (CustomerReturn at lines) = tt
own-taken journal (SupplierReturn at lines) = tt
own-taken journal (Landed charge basis targets) = tt
own-taken journal (Freeze until) = tt
own-taken journal (Cancel cancelled) = tt

own-shape : (what : What) → IfSome (code_shape what) IsOwn
own-shape (Item code method) = own-unless (is_code code) CodeShape tt
own-shape (Store code account) = own-unless (is_code code) CodeShape tt
own-shape (Receipt at lines) = tt
own-shape (Issue at purpose lines) = tt
own-shape (Transfer at lines) = tt
own-shape (CustomerReturn at lines) = tt
own-shape (SupplierReturn at lines) = tt
own-shape (Landed charge basis targets) = tt
own-shape (Freeze until) = tt
own-shape (Cancel cancelled) = tt

own-account : (what : What) → IfSome (account_range what) IsOwn
own-account (Item code method) = tt
own-account (Store code account) = own-unless (is_store_account account.0) AccountRange tt
own-account (Receipt at lines) = tt
own-account (Issue at purpose lines) = tt
own-account (Transfer at lines) = tt
own-account (CustomerReturn at lines) = tt
own-account (SupplierReturn at lines) = tt
own-account (Landed charge basis targets) = tt
own-account (Freeze until) = tt
own-account (Cancel cancelled) = tt

own-not_live : (journal : List Record) (what : What) → IfSome (not_live journal what) IsOwn
own-not_live journal (Item code method) = tt
own-not_live journal (Store code account) = tt
own-not_live journal (Receipt at lines) = tt
own-not_live journal (Issue at purpose lines) = tt
own-not_live journal (Transfer at lines) = tt
own-not_live journal (CustomerReturn at lines) = tt
own-not_live journal (SupplierReturn at lines) = tt
own-not_live journal (Landed charge basis targets) = tt
own-not_live journal (Freeze until) = tt
own-not_live journal (Cancel cancelled) = own-unless (is_voucher_in_force journal cancelled.0) (NotLive cancelled) tt

own-linked : (journal : List Record) (what : What) → IfSome (linked journal what) IsOwn
own-linked journal (Item code method) = tt
own-linked journal (Store code account) = tt
own-linked journal (Receipt at lines) = tt
own-linked journal (Issue at purpose lines) = tt
own-linked journal (Transfer at lines) = tt
own-linked journal (CustomerReturn at lines) = tt
own-linked journal (SupplierReturn at lines) = tt
own-linked journal (Landed charge basis targets) = tt
own-linked journal (Freeze until) = tt
own-linked journal (Cancel cancelled) = own-map linked_by (λ found. tt) (first_link journal cancelled.0)

own-frozen : (journal : List Record) (what : What) (until : Option Moment) → IfSome (option_and_then (frozen_by journal what) until) IsOwn
own-frozen journal what None = tt
own-frozen journal what (Some until) = own-if (changes_closed journal what until) (Frozen until) tt

own-voucher : (journal : List Record) (what : What) → IfSome (voucher_fault journal what) IsOwn
own-voucher journal what =
    let masters =
    own-first (code_taken journal what ∷ code_shape what ∷ account_range what ∷ [])
    (own-taken journal what, (own-shape what, (own-account what, tt))) in
    let lines =
    own-first (unknown_item journal what ∷ unknown_store journal what ∷ same_store what ∷ [])
    (own-map UnknownItem (λ n. tt) _, (own-map UnknownStore (λ n. tt) _, (own-map SameStore (λ n. tt) _, tt))) in
    let targets =
    own-first
    (unknown_target journal what ∷ not_live journal what ∷ linked journal what ∷ link_later journal what ∷ repeated_target what ∷ over_return journal what ∷ no_basis journal what ∷ []) (
      own-map UnknownTarget (λ n. tt) _,
      (
        own-not_live journal what,
        (
          own-linked journal what,
          (
            own-map LinkLater (λ n. tt) _,
            (
              own-map RepeatedTarget (λ n. tt) _,
              (own-map (over_return_at journal (lines_of what)) (λ n. tt) _, (own-if _ NoBasis tt, tt)),
            ),
          ),
        ),
      ),
    ) in
    own-first (master_fault journal what ∷ lines_fault journal what ∷ targets_fault journal what ∷ frozen_fault journal what ∷ [])
    (masters, (lines, (targets, (own-frozen journal what (frozen journal), tt))))

own-fault : (journal : List Record) (item : Record) → IfSome (fault journal item) IsOwn
unfolding fault
own-fault journal item =
    own-or (fault_but_short journal item) (short journal item)
    (own-or (voucher_fault journal item.what) (full journal item) (own-voucher journal item.what) (own-if _ (Full _ _) tt))
    (own-map short_of (λ s. tt) _)

by_fault : (journal : List Record) (item : Record) (f : PostFault) → IsOwn f → fault journal item ≡ Some f → IsRefusalOf journal item f
by_fault journal item CodeTaken own is = is
by_fault journal item CodeShape own is = is
by_fault journal item AccountRange own is = is
by_fault journal item (UnknownItem n) own is = is
by_fault journal item (UnknownStore n) own is = is
by_fault journal item (SameStore n) own is = is
by_fault journal item (UnknownTarget n) own is = is
by_fault journal item (NotLive target) own is = is
by_fault journal item (Linked by) own is = is
by_fault journal item (LinkLater n) own is = is
by_fault journal item (RepeatedTarget n) own is = is
by_fault journal item (OverReturn n asked left) own is = is
by_fault journal item NoBasis own is = is
by_fault journal item (Frozen until) own is = is
by_fault journal item (Full records entries) own is = is
by_fault journal item (Short place item' store lacking) own is = is
by_fault journal item KeeperFailed own is = absurd own
by_fault journal item NoMemory own is = absurd own

uncalled : (f : PostFault) (keeper : KeeperState) → IsOwn f → IsAfterRefusal f keeper keeper
uncalled CodeTaken keeper own = refl
uncalled CodeShape keeper own = refl
uncalled AccountRange keeper own = refl
uncalled (UnknownItem n) keeper own = refl
uncalled (UnknownStore n) keeper own = refl
uncalled (SameStore n) keeper own = refl
uncalled (UnknownTarget n) keeper own = refl
uncalled (NotLive target) keeper own = refl
uncalled (Linked by) keeper own = refl
uncalled (LinkLater n) keeper own = refl
uncalled (RepeatedTarget n) keeper own = refl
uncalled (OverReturn n asked left) keeper own = refl
uncalled NoBasis keeper own = refl
uncalled (Frozen until) keeper own = refl
uncalled (Full records entries) keeper own = refl
uncalled (Short place item store lacking) keeper own = refl
uncalled KeeperFailed keeper own = absurd own
uncalled NoMemory keeper own = absurd own

own-is : (journal : List Record) (item : Record) (f : PostFault) → fault journal item ≡ Some f → IsOwn f
own-is journal item f is = subst (λ (o : Option PostFault). IfSome o IsOwn) is (own-fault journal item)

-- the first fault is the refusal's, or memory was wanting; and the keeper was not called
pub refused-for : (journal : List Record) (item : Record) (f : PostFault)
    → ((f ≡ NoMemory) × (fault_but_short journal item ≡ None)) ⊎ (fault journal item ≡ Some f) → IsRefusalOf journal item f
refused-for journal item f (inl memory) = subst (IsRefusalOf journal item) (sym memory.0) memory.1
refused-for journal item f (inr is) = by_fault journal item f (own-is journal item f is) is

pub refused-uncalled : (journal : List Record) (item : Record) (f : PostFault) (keeper : KeeperState)
    → ((f ≡ NoMemory) × (fault_but_short journal item ≡ None)) ⊎ (fault journal item ≡ Some f) → IsAfterRefusal f keeper keeper
refused-uncalled journal item f keeper (inl memory) = subst (λ (x : PostFault). IsAfterRefusal x keeper keeper) (sym memory.0) (inl refl)
refused-uncalled journal item f keeper (inr is) = uncalled f keeper (own-is journal item f is)

-- a record without a fault is refused for its keeper, or for want of memory
pub refused-by : (journal : List Record) (item : Record) (f : KeepFault) → fault journal item ≡ None → IsRefusalOf journal item (refusal_of f)
refused-by journal item keep.Failed none = none
refused-by journal item keep.NoMemory none = at_once-none journal item none

untried : (f : PostFault) (event : Deed) (tried : List Deed) → IsOwn f → HasTriedFor f event tried tried
untried CodeTaken event tried own = refl
untried CodeShape event tried own = refl
untried AccountRange event tried own = refl
untried (UnknownItem n) event tried own = refl
untried (UnknownStore n) event tried own = refl
untried (SameStore n) event tried own = refl
untried (UnknownTarget n) event tried own = refl
untried (NotLive target) event tried own = refl
untried (Linked by) event tried own = refl
untried (LinkLater n) event tried own = refl
untried (RepeatedTarget n) event tried own = refl
untried (OverReturn n asked left) event tried own = refl
untried NoBasis event tried own = refl
untried (Frozen until) event tried own = refl
untried (Full records entries) event tried own = refl
untried (Short place item store lacking) event tried own = refl
untried KeeperFailed event tried own = absurd own
untried NoMemory event tried own = absurd own

-- what was tried stays where a record is refused for its own fault, or for want of memory before the keeper was called
pub tried-uncalled : (journal : List Record) (item : Record) (f : PostFault) (event : Deed) (tried : List Deed)
    → ((f ≡ NoMemory) × (fault_but_short journal item ≡ None)) ⊎ (fault journal item ≡ Some f) → HasTriedFor f event tried tried
tried-uncalled journal item f event tried (inl memory) =
    subst (λ (x : PostFault). HasTriedFor x event tried tried) (sym memory.0) (inl refl)
tried-uncalled journal item f event tried (inr is) = untried f event tried (own-is journal item f is)

-- and one more was tried where the keeper refused it
pub tried-more : (f : KeepFault) (event : Deed) (old new : List Deed) → new ≡ old ++ event ∷ [] → HasTried f event old new
tried-more keep.Failed event old new is = is
tried-more keep.NoMemory event old new is = inr is

pub tried-by : (f : KeepFault) (event : Deed) (old new : List Deed) → new ≡ old ++ event ∷ [] → HasTriedFor (refusal_of f) event old new
tried-by keep.Failed event old new is = is
tried-by keep.NoMemory event old new is = inr is

unasked : (f : PostFault) (calls : ℕ) → IsOwn f → HasAskedFor f calls calls
unasked CodeTaken calls own = refl
unasked CodeShape calls own = refl
unasked AccountRange calls own = refl
unasked (UnknownItem n) calls own = refl
unasked (UnknownStore n) calls own = refl
unasked (SameStore n) calls own = refl
unasked (UnknownTarget n) calls own = refl
unasked (NotLive target) calls own = refl
unasked (Linked by) calls own = refl
unasked (LinkLater n) calls own = refl
unasked (RepeatedTarget n) calls own = refl
unasked (OverReturn n asked left) calls own = refl
unasked NoBasis calls own = refl
unasked (Frozen until) calls own = refl
unasked (Full records entries) calls own = refl
unasked (Short place item store lacking) calls own = refl
unasked KeeperFailed calls own = absurd own
unasked NoMemory calls own = absurd own

-- no call was made where a record is refused for its own fault, or for want of memory before
pub asked-uncalled : (journal : List Record) (item : Record) (f : PostFault) (calls : ℕ)
    → ((f ≡ NoMemory) × (fault_but_short journal item ≡ None)) ⊎ (fault journal item ≡ Some f) → HasAskedFor f calls calls
asked-uncalled journal item f calls (inl memory) = subst (λ (x : PostFault). HasAskedFor x calls calls) (sym memory.0) (inl refl)
asked-uncalled journal item f calls (inr is) = unasked f calls (own-is journal item f is)

-- and one more where the keeper refused it
pub asked-more : (f : KeepFault) (old new : ℕ) → new ≡ raised old → HasAsked f old new
asked-more keep.Failed old new is = is
asked-more keep.NoMemory old new is = inr is

pub asked-by : (f : KeepFault) (old new : ℕ) → new ≡ raised old → HasAskedFor (refusal_of f) old new
asked-by keep.Failed old new is = is
asked-by keep.NoMemory old new is = inr is
