-- What a movement starts from, and by which causes goods leave.
use Rattle.std.proofs.Common.{◌≡◌, true, false, List, Option, Some, None, inl, inr, refl, sym, ap, ◌∙◌, Contains, ◌↔◌}
use Rattle.std.specs.Option.{option_map}
use Rattle.std.proofs.lemmas.Bool.{false≢true}
use Rattle.std.proofs.lemmas.List.Kept.{AllPairs-filter}
use Rattle.stock_nums.specs.Causes.{has_side, is_entering}
use Rattle.stock_nums.specs.declared.cause.Cause.{Cause}
use Rattle.stock_nums.specs.declared.cause.Cause.TheVariants.{Receipt, Issue, TransferLeaves, TransferEnters, CustomerReturn, SupplierReturn}
use Rattle.stock_nums.specs.declared.cause.Method.TheVariants.{Average}
use Rattle.stock_nums.specs.declared.entry.Entry.{Entry}
use Rattle.stock_model.specs.Enough.{entry_key, is_of_key}
use Rattle.stock_model.specs.InOrder.{IsBefore, IsInPostingOrder}
use Rattle.stock_model.proofs.Pairwise.{Pairwise-from_AllPairs}
use Rattle.stock_laws.proofs.Conserving.{side-is}
use Rattle.cost_links.specs.Sources.{comes_before, entry_place}
use Rattle.repost_laws.specs.Looks.{GoesOut}
use Rattle.repost_laws.specs.Touched.{StartsFrom, next_of_key}
use Rattle.repost_laws.specs.Valuations.{earlier, last_of_key, pieces_taken_by, sources}
use Rattle.repost_laws.proofs.Filtered.{Contains-filtered}
use Rattle.repost_laws.proofs.NextOnes.{found-last, next-last}
use Rattle.repost_laws.proofs.RangePieces.{sources-leaving}
use Rattle.repost_laws.proofs.Turns.{one_place}

-- the last one of the key is that which stands at the place
last-at : (line : List Entry) (g f : Entry) → IsInPostingOrder line → Contains line g
    → option_map entry_place (last_of_key (earlier line f) (entry_key f)) ≡ Some g.place
    → last_of_key (earlier line f) (entry_key f) ≡ Some g
last-at line g f in_order held at = by_cases (last_of_key (earlier line f) (entry_key f)) refl at
  where
    by_cases : (o : Option Entry) → last_of_key (earlier line f) (entry_key f) ≡ o → option_map entry_place o ≡ Some g.place
        → o ≡ Some g
    by_cases None last h = cc
    by_cases (Some h) last k =
        let place : h.place ≡ g.place = cc in
        let of = found-last (is_of_key (entry_key f)) (earlier line f) h
        (Pairwise-from_AllPairs IsBefore (earlier line f) (AllPairs-filter IsBefore (comes_before f.place) line in_order)) last in
        ap Some (one_place line g h (Pairwise-from_AllPairs IsBefore line in_order) held
        (Contains-filtered (comes_before f.place) line h of.held).0 place)

pub starts-looks : (line : List Entry) (g f : Entry) → IsInPostingOrder line → Contains line g → Contains line f
    → StartsFrom line g.place f ↔ ((f.method ≡ Average) × (next_of_key line g ≡ Some f))
starts-looks line g f in_order held other = (to, from)
  where
    to : StartsFrom line g.place f → (f.method ≡ Average) × (next_of_key line g ≡ Some f)
    to (is, at) = (is, (next-last line f g in_order other held).0 (last-at line g f in_order held at))

    from : (f.method ≡ Average) × (next_of_key line g ≡ Some f) → StartsFrom line g.place f
    from (is, next) = (is, ap (option_map entry_place) ((next-last line f g in_order other held).1 next))

goes-out_by : (e : Entry) (cause : Cause) → e.cause ≡ cause → has_side cause e.place.side ≡ true
    → is_entering e.place.side ≡ false → GoesOut e
goes-out_by e (Receipt amount) is side leaves = absurd (false≢true (sym leaves ∙ side-is true e.place.side side))
goes-out_by e (Issue sold) is side leaves = inl (sold, is)
goes-out_by e TransferLeaves is side leaves = inr (inl is)
goes-out_by e TransferEnters is side leaves = absurd (false≢true (sym leaves ∙ side-is true e.place.side side))
goes-out_by e (CustomerReturn target issued) is side leaves =
    absurd (false≢true (sym leaves ∙ side-is true e.place.side side))
goes-out_by e (SupplierReturn target amount received) is side leaves = inr (inr (target, amount, received, is))

pub goes-out : (e : Entry) → is_entering e.place.side ≡ false → GoesOut e
goes-out e leaves = goes-out_by e e.cause refl e.sides leaves

pub sources-out : (past : List Entry) (e : Entry) → is_entering e.place.side ≡ false
    → sources past e ≡ pieces_taken_by e.method past e
sources-out past e leaves = sources-leaving past e e.cause e.sides leaves
