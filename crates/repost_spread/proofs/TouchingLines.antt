-- Which movement of a line stands at a place, and which is of a line of a voucher on a side.
use Rattle.std.proofs.Common.{◌≡◌, ℕ, Bool, true, false, List, Option, Some, None, Contains, ◌⊎◌, ◌↔◌, inl, inr, refl, sym, ap, ◌∙◌}
use Rattle.std.specs.List.{find}
use Rattle.std.specs.Option.{option_map}
use Rattle.std.proofs.lemmas.Bool.{false≢true}
use Rattle.std.proofs.lemmas.Option.{none-some}
use Rattle.stock_nums.specs.Causes.{is_entering}
use Rattle.stock_nums.specs.contracts.cause.Method.{the_type}
use Rattle.stock_nums.specs.contracts.place.Side.{the_type as side_type}
use Rattle.stock_nums.specs.declared.cause.Method.{Method}
use Rattle.stock_nums.specs.declared.cause.Method.TheVariants.{Fifo, Average}
use denote.Enum.Bare.{sameb}
use Rattle.stock_nums.specs.declared.cause.Target.{Target}
use Rattle.stock_nums.specs.declared.entry.Entry.{Entry}
use Rattle.stock_nums.specs.declared.numbers.RecordNo.{RecordNo}
use Rattle.stock_nums.specs.declared.place.Place.{Place}
use Rattle.stock_nums.specs.declared.place.Side.{Side}
use Rattle.stock_nums.specs.declared.place.Side.TheVariants.{Leaves, Enters}
use Rattle.stock_model.specs.InOrder.{IsBefore, IsInPostingOrder}
use Rattle.stock_model.proofs.Pairwise.{Pairwise-from_AllPairs}
use Rattle.cost_links.specs.Sources.{entry_place}
use Rattle.repost_frontier.specs.Slots.{slot_at}
use Rattle.repost_frontier.specs.declared.slot.Slot.{Slot}
use Rattle.repost_frontier.proofs.OnePasses.{find-found}
use Rattle.repost_frontier.proofs.SlotReadings.{entry-found}
use Rattle.repost_index.specs.Moments.{IsPlaceOf}
use Rattle.repost_laws.proofs.Turns.{one_place}
use Rattle.repost_spread.specs.Movements.{entries_of}
use Rattle.repost_spread.specs.Touches.{IsOfLine, IsOfSide}

-- at one place stands one movement
pub one-at : (line : List Entry) (e f : Entry) → IsInPostingOrder line → Contains line e → Contains line f → f.place ≡ e.place → f ≡ e
one-at line e f in_order held other same = one_place line e f (Pairwise-from_AllPairs IsBefore line in_order) held other same

-- what is in both is one
pub some-one : {X : Type 0} (x y : X) → Some x ≡ Some y → x ≡ y
some-one x y h = cc

-- what is read at a place is the movement there
pub read-is : (slots : List Slot) (place : Place) (s : Slot) (f : Entry) → IsInPostingOrder (entries_of slots)
    → Some s ≡ slot_at slots place → Contains (entries_of slots) f → f.place ≡ place → s.entry ≡ f
read-is slots place s f in_order read held at =
    let there = entry-found slots f in_order held in
    let same : there.0 ≡ s = cc in
    ap (λ (t : Slot). t.entry) (sym same) ∙ there.2

-- where nothing is read there is none
pub read-none : (slots : List Slot) (place : Place) (f : Entry) → IsInPostingOrder (entries_of slots)
    → None ≡ slot_at slots place → Contains (entries_of slots) f → f.place ≡ place → ⊥
read-none slots place f in_order read held at =
    let there = entry-found slots f in_order held in
    none-some there.0 (read ∙ ap (slot_at slots) (sym at) ∙ there.1)

-- what stands at a place of the line on the side is of both
pub of-side : (own : Target) (side : Side) (place : Place) (f : Entry) → IsPlaceOf own side place → f.place ≡ place → IsOfSide own side f
of-side own side place f is at = (
  ap (λ (v : RecordNo). record { voucher = v; line = f.place.line }) (ap (λ (p : Place). p.voucher) at ∙ is.voucher)
      ∙ ap (λ (n : ℕ). record { voucher = own.voucher; line = n }) (ap (λ (p : Place). p.line) at ∙ is.line),
  ap (λ (p : Place). p.side) at ∙ is.side,
)

-- a movement of the line is on one of the sides
pub of-line : (own : Target) (f : Entry) → IsOfLine own f → IsOfSide own Leaves f ⊎ IsOfSide own Enters f
of-line own f is = by_side f.place.side refl
  where
    by_side : (s : Side) → f.place.side ≡ s → IsOfSide own Leaves f ⊎ IsOfSide own Enters f
    by_side Leaves at = inl (is, at)
    by_side Enters at = inr (is, at)

-- a movement that is found at a place is of the list and passes
pub record FoundAt (p : Entry → Bool) (line : List Entry) (place : Place) : Type 0 where
  pub e : Entry
  pub is : find p line ≡ Some e
  pub held : Contains line e
  pub passes : p e ≡ true
  pub at : e.place ≡ place

pub found-at : (p : Entry → Bool) (line : List Entry) (place : Place) → Some place ≡ option_map entry_place (find p line)
    → FoundAt p line place
found-at p line place is = by_cases (find p line) refl is
  where
    by_cases : (o : Option Entry) → find p line ≡ o → Some place ≡ option_map entry_place o → FoundAt p line place
    by_cases None found h = absurd (none-some place (sym h))
    by_cases (Some e) found h =
        let more = find-found p line e found in
        record { e = e; is = found; held = more.1; passes = more.0; at = cc }

pub found-none : (p : Entry → Bool) (line : List Entry) → None ≡ option_map entry_place (find p line) → find p line ≡ None
found-none p line is = by_cases (find p line) is
  where
    by_cases : (o : Option Entry) → None ≡ option_map entry_place o → o ≡ None
    by_cases None h = refl
    by_cases (Some e) h = absurd (none-some (entry_place e) h)

-- how a comparison with a formula ends
pub is-average : (m : Method) (b : Bool) → b ≡ sameb the_type m Average → (b ≡ true) ↔ (m ≡ Average)
is-average Fifo b is = (λ h. absurd (false≢true (sym is ∙ h)), λ h. cc)
is-average Average b is = (λ _. refl, λ _. is)

pub is-fifo : (m : Method) (b : Bool) → b ≡ sameb the_type m Fifo → (b ≡ true) ↔ (m ≡ Fifo)
is-fifo Fifo b is = (λ _. refl, λ _. is)
is-fifo Average b is = (λ h. absurd (false≢true (sym is ∙ h)), λ h. cc)

pub is-leaving : (s : Side) (b : Bool) → b ≡ sameb side_type s Leaves → (b ≡ true) ↔ (is_entering s ≡ false)
is-leaving Leaves b is = (λ _. refl, λ _. is)
is-leaving Enters b is = (λ h. absurd (false≢true (sym is ∙ h)), λ h. absurd (false≢true (sym h)))
