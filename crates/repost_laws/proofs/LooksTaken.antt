-- What a movement takes over from which others, by what the others are.
use Rattle.std.proofs.Common.{◌≡◌, Bool, true, false, not, List, [], ◌∷◌, map, filter, inl, inr, refl, sym, ap, ◌∙◌, subst, arith, Contains, ◌⊎◌, ◌↔◌}
use Rattle.std.proofs.lemmas.Bool.{false≢true, not-true}
use Rattle.stock_nums.specs.Causes.{has_side, is_entering}
use Rattle.stock_nums.specs.Places.{is_before}
use Rattle.stock_nums.specs.Targets.{is_same_target}
use Rattle.stock_nums.specs.declared.cause.Cause.{Cause}
use Rattle.stock_nums.specs.declared.cause.Cause.TheVariants.{Receipt, Issue, TransferLeaves, TransferEnters, CustomerReturn, SupplierReturn}
use Rattle.stock_nums.specs.declared.cause.Method.{Method}
use Rattle.stock_nums.specs.declared.cause.Method.TheVariants.{Fifo, Average}
use Rattle.stock_nums.specs.declared.cause.Target.{Target}
use Rattle.stock_nums.specs.declared.entry.Entry.{Entry}
use Rattle.stock_model.specs.Enough.{entry_units, IsEnough}
use Rattle.stock_model.specs.InOrder.{IsBefore, IsInPostingOrder}
use Rattle.stock_model.specs.Values.{own_line}
use Rattle.stock_model.proofs.Pairwise.{Pairwise-from_AllPairs, Contains-cases, Contains-first, Contains-later}
use Rattle.stock_laws.proofs.Conserving.{side-is}
use Rattle.stock_laws.proofs.CostedRows.{both}
use Rattle.stock_laws.proofs.Linked.{is_same_target-true, is_same_target-refl}
use Rattle.cost_links.specs.Sources.{comes_before}
use Rattle.repost_laws.specs.Looks.{IsLinkedTo, TakesUnits}
use Rattle.repost_laws.specs.Pieces.{Piece, whole}
use Rattle.repost_laws.specs.Ranges.{RangesMeet}
use Rattle.repost_laws.specs.Touched.{TakesFrom}
use Rattle.repost_laws.specs.Valuations.{earlier, pieces_taken_by, is_leaving_by, left_by, sources_by, sources}
use Rattle.repost_laws.proofs.Filtered.{Contains-filtered, Contains-filter}
use Rattle.repost_laws.proofs.RangePieces.{sources-leaving, ranges-meet}
use Rattle.repost_laws.proofs.Turns.{both-true, one_place}

-- each whole piece is that of an element
record IsWholeOf (es : List Entry) (piece : Piece Entry) : Type 0 where
  held : Contains es piece.giver
  is : piece ≡ whole entry_units piece.giver

whole-is : (es : List Entry) (piece : Piece Entry) → Contains (map (whole entry_units) es) piece → IsWholeOf es piece
whole-is [] piece held = absurd (omega (arith, held.1))
whole-is (e ∷ es) piece held =
    elim (Contains-cases (whole entry_units e) (map (whole entry_units) es) piece held) [
      | inl same ↦ subst (IsWholeOf (e ∷ es)) same (record { held = Contains-first e es; is = refl })
      | inr later ↦
          let rest = whole-is es piece later in
          record { held = Contains-later e es piece.giver rest.held; is = rest.is }
    ]

whole-in : (es : List Entry) (e : Entry) → Contains es e → Contains (map (whole entry_units) es) (whole entry_units e)
whole-in [] e held = absurd (omega (arith, held.1))
whole-in (f ∷ es) e held =
    elim (Contains-cases f es e held) [
      | inl same ↦ subst (λ (g : Entry). Contains (map (whole entry_units) (f ∷ es)) (whole entry_units g)) same
          (Contains-first (whole entry_units f) (map (whole entry_units) es))
      | inr later ↦ Contains-later (whole entry_units f) (map (whole entry_units) es) (whole entry_units e)
          (whole-in es e later)
    ]

-- a movement leaves by the line
pub record LeavesBy (target : Target) (e : Entry) : Type 0 where
  pub line : own_line e ≡ target
  pub leaves : is_entering e.place.side ≡ false

pub leaves-by : (target : Target) (e : Entry) → is_leaving_by target e ≡ true → LeavesBy target e
leaves-by target e is =
    let parts = both-true (is_same_target (own_line e) target) (not (is_entering e.place.side)) is in
    record { line = is_same_target-true (own_line e) target parts.0; leaves = not-true (is_entering e.place.side) parts.1 }

pub leaves-by_from : (target : Target) (e : Entry) → own_line e ≡ target → is_entering e.place.side ≡ false
    → is_leaving_by target e ≡ true
leaves-by_from target e line leaves =
    both (ap (λ (t : Target). is_same_target t target) line ∙ is_same_target-refl target) (ap not leaves)

-- the piece that leaves by a line before a movement, and from which movement
record HasLeft (target : Target) (e f : Entry) : Type 0 where
  by : LeavesBy target e
  before : is_before e.place f.place ≡ true

left-to : (line : List Entry) (target : Target) (e f : Entry) (piece : Piece Entry) → IsInPostingOrder line → Contains line e
    → Contains (left_by (earlier line f) target) piece → piece.giver.place ≡ e.place → HasLeft target e f
left-to line target e f piece in_order held taken same =
    let of = whole-is (filter (is_leaving_by target) (earlier line f)) piece taken in
    let leaving = Contains-filtered (is_leaving_by target) (earlier line f) piece.giver of.held in
    let in_line = Contains-filtered (comes_before f.place) line piece.giver leaving.0 in
    subst (λ (g : Entry). HasLeft target g f)
    (one_place line e piece.giver (Pairwise-from_AllPairs IsBefore line in_order) held in_line.0 same)
    (record { by = leaves-by target piece.giver leaving.1; before = in_line.1 })

left-from : (line : List Entry) (target : Target) (e f : Entry) → Contains line e → own_line e ≡ target
    → is_entering e.place.side ≡ false → is_before e.place f.place ≡ true
    → Contains (left_by (earlier line f) target) (whole entry_units e)
left-from line target e f held own leaves before =
    whole-in (filter (is_leaving_by target) (earlier line f)) e
    (Contains-filter (is_leaving_by target) (earlier line f) e (Contains-filter (comes_before f.place) line e held before)
    (leaves-by_from target e own leaves))

-- the side of a movement with this cause
cause-side : (f : Entry) (cause : Cause) → f.cause ≡ cause → has_side cause f.place.side ≡ true
cause-side f cause is = subst (λ (c : Cause). has_side c f.place.side ≡ true) is f.sides

-- what is linked to another enters
linked-enters : (e f : Entry) → IsLinkedTo e f → is_entering f.place.side ≡ true
linked-enters e f (leaves, before, inl (is, same)) = side-is true f.place.side (cause-side f TransferEnters is)
linked-enters e f (leaves, before, inr (target, issued, is, same)) =
    side-is true f.place.side (cause-side f (CustomerReturn target issued) is)

-- from what a movement takes over, where its cause is this one
abbrev TakesBy : List Entry → Entry → Entry → Cause → Type 0
TakesBy line e f cause =
    (piece : Piece Entry) × Contains (sources_by (earlier line f) f cause) piece × (piece.giver.place ≡ e.place)

-- at the moving average it takes nothing over that leaves
takes-none : (line : List Entry) (e f : Entry) → f.method ≡ Average → is_entering f.place.side ≡ false
    → TakesFrom line e.place f → ⊥
takes-none line e f is leaves (piece, held, same) =
    let none : sources (earlier line f) f ≡ [] = sources-leaving (earlier line f) f f.cause f.sides leaves
    ∙ ap (λ (m : Method). pieces_taken_by m (earlier line f) f) is in
    let never : Contains [] piece = subst (λ (ps : List (Piece Entry)). Contains ps piece) none held in
    omega (arith, never.1)

takes-leaving : (line : List Entry) (e f : Entry) (method : Method) → f.method ≡ method → IsInPostingOrder line
    → IsEnough line → Contains line e → Contains line f → is_entering f.place.side ≡ false
    → TakesFrom line e.place f ↔ (IsLinkedTo e f ⊎ TakesUnits line e f)
takes-leaving line e f method is in_order enough held other leaves = (to method is, from)
  where
    meet : f.method ≡ Fifo → TakesFrom line e.place f ↔ RangesMeet line e f
    meet fifo = ranges-meet line f e in_order enough other held leaves fifo

    to : (m : Method) → f.method ≡ m → TakesFrom line e.place f → IsLinkedTo e f ⊎ TakesUnits line e f
    to Fifo fifo takes = inr (fifo, leaves, (meet fifo).0 takes)
    to Average average takes = absurd (takes-none line e f average leaves takes)

    from : IsLinkedTo e f ⊎ TakesUnits line e f → TakesFrom line e.place f
    from (inl linked) = absurd (false≢true (sym leaves ∙ linked-enters e f linked))
    from (inr (fifo, side, units)) = (meet fifo).1 units

-- what enters by a line takes over what left by it
takes-left : (line : List Entry) (target : Target) (e f : Entry) → IsInPostingOrder line → Contains line e
    → ((piece : Piece Entry) × Contains (left_by (earlier line f) target) piece × (piece.giver.place ≡ e.place))
    ↔ HasLeft target e f
takes-left line target e f in_order held = (to, from)
  where
    to : (piece : Piece Entry) × Contains (left_by (earlier line f) target) piece × (piece.giver.place ≡ e.place)
        → HasLeft target e f
    to (piece, taken, same) = left-to line target e f piece in_order held taken same

    from : HasLeft target e f
        → (piece : Piece Entry) × Contains (left_by (earlier line f) target) piece × (piece.giver.place ≡ e.place)
    from left = (
      whole entry_units e,
      left-from line target e f held left.by.line left.by.leaves left.before,
      refl,
    )

-- so what is linked to another takes over from it
linked-takes : (line : List Entry) (e f : Entry) → IsInPostingOrder line → Contains line e → IsLinkedTo e f
    → TakesBy line e f f.cause
linked-takes line e f in_order held (leaves, before, inl (is, same)) =
    subst (TakesBy line e f) (sym is)
    ((takes-left line (own_line f) e f in_order held).1
    (record { by = record { line = sym same; leaves = leaves }; before = before }))
linked-takes line e f in_order held (leaves, before, inr (target, issued, is, same)) =
    subst (TakesBy line e f) (sym is)
    ((takes-left line target e f in_order held).1
    (record { by = record { line = sym same; leaves = leaves }; before = before }))

-- and what enters takes over from nothing else
takes-linked : (line : List Entry) (e f : Entry) (cause : Cause) → f.cause ≡ cause → IsInPostingOrder line
    → Contains line e → is_entering f.place.side ≡ true → has_side cause f.place.side ≡ true → TakesBy line e f cause
    → IsLinkedTo e f
takes-linked line e f (Receipt amount) is in_order held enters side (piece, taken, same) = absurd (omega (arith, taken.1))
takes-linked line e f (Issue sold) is in_order held enters side takes =
    absurd (false≢true (sym (not-true (is_entering f.place.side) side) ∙ enters))
takes-linked line e f TransferLeaves is in_order held enters side takes =
    absurd (false≢true (sym (not-true (is_entering f.place.side) side) ∙ enters))
takes-linked line e f TransferEnters is in_order held enters side takes =
    let left = (takes-left line (own_line f) e f in_order held).0 takes in
    (left.by.leaves, left.before, inl (is, sym left.by.line))
takes-linked line e f (CustomerReturn target issued) is in_order held enters side takes =
    let left = (takes-left line target e f in_order held).0 takes in
    (left.by.leaves, left.before, inr (target, issued, is, sym left.by.line))
takes-linked line e f (SupplierReturn target amount received) is in_order held enters side takes =
    absurd (false≢true (sym (not-true (is_entering f.place.side) side) ∙ enters))

takes-entering : (line : List Entry) (e f : Entry) → IsInPostingOrder line → Contains line e
    → is_entering f.place.side ≡ true → TakesFrom line e.place f ↔ (IsLinkedTo e f ⊎ TakesUnits line e f)
takes-entering line e f in_order held enters = (to, from)
  where
    to : TakesFrom line e.place f → IsLinkedTo e f ⊎ TakesUnits line e f
    to takes = inl (takes-linked line e f f.cause refl in_order held enters f.sides takes)

    from : IsLinkedTo e f ⊎ TakesUnits line e f → TakesFrom line e.place f
    from (inl linked) = linked-takes line e f in_order held linked
    from (inr (fifo, leaves, units)) = absurd (false≢true (sym leaves ∙ enters))

pub takes-looks : (line : List Entry) (e f : Entry) → IsInPostingOrder line → IsEnough line → Contains line e → Contains line f
    → TakesFrom line e.place f ↔ (IsLinkedTo e f ⊎ TakesUnits line e f)
takes-looks line e f in_order enough held other = by_side (is_entering f.place.side) refl
  where
    by_side : (b : Bool) → is_entering f.place.side ≡ b → TakesFrom line e.place f ↔ (IsLinkedTo e f ⊎ TakesUnits line e f)
    by_side false leaves = takes-leaving line e f f.method refl in_order enough held other leaves
    by_side true enters = takes-entering line e f in_order held enters
