-- Which units a movement takes, by their numbers.
use Rattle.std.proofs.Common.{◌≡◌, ℕ, ◌+◌, ◌-◌, ◌<◌, ◌≤◌, Bool, true, false, cond, not, min, nat_lt, List, [], ◌∷◌, ◌++◌, length, filter, sum_by, inl, inr, refl, sym, ap, ◌∙◌, subst, arith, Contains, ◌↔◌}
use Rattle.std.proofs.lemmas.Bool.{false≢true}
use Rattle.std.proofs.lemmas.Bool.Decides.{nat_tests}
use Rattle.std.proofs.lemmas.List.{append-nil}
use Rattle.std.proofs.lemmas.List.Elements.{filter-append}
use Rattle.std.proofs.lemmas.List.Kept.{AllPairs-filter}
use Rattle.std.proofs.lemmas.List.Sums.{sum_by-cons}
use Rattle.stock_nums.specs.Causes.{has_side, is_entering}
use Rattle.stock_nums.specs.Places.{is_before}
use Rattle.stock_nums.specs.declared.cause.Cause.{Cause}
use Rattle.stock_nums.specs.declared.cause.Cause.TheVariants.{Receipt, Issue, TransferLeaves, TransferEnters, CustomerReturn, SupplierReturn}
use Rattle.stock_nums.specs.declared.cause.Method.{Method}
use Rattle.stock_nums.specs.declared.cause.Method.TheVariants.{Fifo}
use Rattle.stock_nums.specs.declared.entry.Entry.{Entry}
use Rattle.stock_nums.specs.declared.entry.Key.{Key}
use Rattle.stock_nums.proofs.PlaceOrder.{is_before-irreflexive, is_before-asymmetric, is_before-transitive}
use Rattle.stock_model.specs.Enough.{entry_key, is_of_key, enters_under, entered, departed, entry_units, IsEnough}
use Rattle.stock_model.specs.InOrder.{IsBefore, IsInPostingOrder}
use Rattle.stock_model.proofs.Pairwise.{Precedes, Pairwise, Precedes-Contains, Pairwise-from_AllPairs, Contains-cases, Contains-first, Contains-later}
use Rattle.stock_laws.proofs.Conserving.{side-is}
use Rattle.stock_laws.proofs.Enough.{is_same_key-true, entered-own, departed-own}
use Rattle.cost_links.specs.Sources.{comes_before}
use Rattle.repost_laws.specs.Pieces.{Piece, pieces, has_units}
use Rattle.repost_laws.specs.Ranges.{units_in_before, units_out_before, RangesMeet}
use Rattle.repost_laws.specs.Touched.{TakesFrom}
use Rattle.repost_laws.specs.Valuations.{earlier, pieces_taken, pieces_taken_by, sources_by, sources}
use Rattle.repost_laws.proofs.EarlierOnes.{earlier-is_past}
use Rattle.repost_laws.proofs.Filtered.{filter-swap, Contains-filtered, Contains-filter}
use Rattle.repost_laws.proofs.FirstSuspect.{split-at}
use Rattle.repost_laws.proofs.LocalRows.{take-next}
use Rattle.repost_laws.proofs.NextOnes.{place_of}
use Rattle.repost_laws.proofs.SincePublished.{filter-implied}
use Rattle.repost_laws.proofs.Turns.{both-true, one_place}

-- none less
minus-none : (n : ℕ) → n ≡ n - 0
minus-none n = omega arith

-- the pieces of two lists
pieces-append : (xs ys : List Entry) (from until : ℕ)
    → pieces entry_units (xs ++ ys) from until ≡ pieces entry_units xs from until ++ pieces entry_units ys
    (from - sum_by entry_units xs) (until - sum_by entry_units xs)
pieces-append [] ys from until = ap (λ (n : ℕ). pieces entry_units ys n until) (minus-none from)
    ∙ ap (pieces entry_units ys (from - 0)) (minus-none until)
pieces-append (x ∷ xs) ys from until =
    let sum = sum_by-cons entry_units x xs in
    let shift : (n : ℕ) → (n - entry_units x) - sum_by entry_units xs
    ≡ n - sum_by entry_units (x ∷ xs) = λ n. omega (arith, sum) in
    let piece : Piece Entry = record {
      giver = x;
      before = min (entry_units x) from;
      among = min (entry_units x) until - min
          (entry_units x) from;
    } in
    let front = pieces entry_units xs (from - entry_units x) (until - entry_units x) in
    ap (λ (rest : List (Piece Entry)). piece ∷ rest) (pieces-append xs ys (from - entry_units x) (until - entry_units x))
    ∙ ap (λ (n : ℕ). piece ∷ (front ++ pieces entry_units ys n ((until - entry_units x) - sum_by entry_units xs))) (shift from)
    ∙ ap (λ (n : ℕ). piece ∷ (front ++ pieces entry_units ys (from - sum_by entry_units (x ∷ xs)) n)) (shift until)

-- no units are taken until the first
pieces-none : (ys : List Entry) (from until : ℕ) → until ≡ 0 → filter has_units (pieces entry_units ys from until) ≡ []
pieces-none [] from until none = refl
pieces-none (y ∷ ys) from until none =
    let empty : nat_lt 0 (min (entry_units y) until - min (entry_units y) from) ≡ false = grind (arith, nat_tests) in
    let rest = filter has_units (pieces entry_units ys (from - entry_units y) (until - entry_units y)) in
    let piece : Piece Entry = record {
      giver = y;
      before = min (entry_units y) from;
      among = min (entry_units y) until - min
          (entry_units y) from;
    } in
    ap (λ (b : Bool). cond b (piece ∷ rest) rest) empty ∙ pieces-none ys (from - entry_units y) (until - entry_units y)
    (omega (arith, none))

-- what leaves has its source in what entered
pub sources-leaving : (past : List Entry) (e : Entry) (cause : Cause) → has_side cause e.place.side ≡ true
    → is_entering e.place.side ≡ false → sources_by past e cause ≡ pieces_taken_by e.method past e
sources-leaving past e (Receipt amount) side leaves = absurd (false≢true (sym leaves ∙ side-is true e.place.side side))
sources-leaving past e (Issue sold) side leaves = refl
sources-leaving past e TransferLeaves side leaves = refl
sources-leaving past e TransferEnters side leaves = absurd (false≢true (sym leaves ∙ side-is true e.place.side side))
sources-leaving past e (CustomerReturn target issued) side leaves = absurd
    (false≢true (sym leaves ∙ side-is true e.place.side side))
sources-leaving past e (SupplierReturn target amount received) side leaves = refl

sources-taken : (past : List Entry) (e : Entry) → is_entering e.place.side ≡ false → e.method ≡ Fifo → sources past e
    ≡ pieces_taken past e
sources-taken past e leaves method = sources-leaving past e e.cause e.sides leaves
    ∙ ap (λ (m : Method). pieces_taken_by m past e) method

-- where there is enough, what leaves finds its units among what entered before it
enough-before : (past : List Entry) (e : Entry) (rest : List Entry) → IsEnough (past ++ e ∷ rest) → is_entering e.place.side
    ≡ false
    → departed past (entry_key e) + e.qty.0 ≤ entered past (entry_key e)
enough-before past e rest enough leaves =
    let key = entry_key e in
    let covered : departed (past ++ e ∷ []) key ≤ entered (past ++ e ∷ []) key =
    subst (λ (es : List Entry). departed es key ≤ entered es key) (take-next past e rest)
    (enough (length (past ++ e ∷ [])) key) in
    let out : departed (past ++ e ∷ []) key ≡ departed past key + e.qty.0 = departed-own past e
    ∙ ap (λ (b : Bool). departed past key + cond (not b) e.qty.0 0) leaves in
    let in_ : entered (past ++ e ∷ []) key ≡ entered past key + 0 = entered-own past e
    ∙ ap (λ (b : Bool). entered past key + cond b e.qty.0 0) leaves in
    omega (arith, covered, out, in_)

pub sources-all : (line : List Entry) (e : Entry) → IsInPostingOrder line → IsEnough line → Contains line e
    → is_entering e.place.side ≡ false → e.method ≡ Fifo
    → sources (earlier line e) e ≡ filter has_units (pieces entry_units (filter (enters_under (entry_key e)) line)
    (units_out_before line e) (units_out_before line e + e.qty.0))
sources-all line e ordered enough held leaves method =
    let split = split-at line e held in
    let past = split.past in
    let key = entry_key e in
    let here : earlier line e ≡ past = ap (λ (es : List Entry). earlier es e) (sym split.parts)
    ∙ earlier-is_past past e split.rest (subst IsInPostingOrder (sym split.parts) ordered) in
    let fits = enough-before past e split.rest (subst IsEnough (sym split.parts) enough) leaves in
    let out = departed past key in
    let ins = filter (enters_under key) past in
    let more = filter (enters_under key) (e ∷ split.rest) in
    let all : filter (enters_under key) line ≡ ins ++ more = ap (filter (enters_under key)) (sym split.parts)
    ∙ filter-append (enters_under key) past (e ∷ split.rest) in
    let whole : filter has_units (pieces entry_units (filter (enters_under key) line) out (out + e.qty.0)) ≡ pieces_taken past e =
    ap (λ (es : List Entry). filter has_units (pieces entry_units es out (out + e.qty.0))) all
    ∙ ap (filter has_units) (pieces-append ins more out (out + e.qty.0))
    ∙ filter-append has_units (pieces entry_units ins out (out + e.qty.0))
    (pieces entry_units more (out - sum_by entry_units ins) ((out + e.qty.0) - sum_by entry_units ins))
    ∙ ap (λ (rest : List (Piece Entry)). pieces_taken past e ++ rest)
    (pieces-none more (out - sum_by entry_units ins) ((out + e.qty.0) - sum_by entry_units ins) (omega (arith, fits)))
    ∙ append-nil (pieces_taken past e) in
    ap (λ (es : List Entry). sources es e) here ∙ sources-taken past e leaves method ∙ sym whole
    ∙ ap (λ (es : List Entry). filter has_units (pieces entry_units (filter (enters_under key) line) (departed es key)
    (departed es key + e.qty.0))) (sym here)

-- how many units those of a list have that come before a movement
abbrev pub units_ahead : List Entry → Entry → ℕ
units_ahead es g = sum_by entry_units (filter (comes_before g.place) es)

-- the piece of a movement, where so many units come before its own
abbrev piece_at : Entry → ℕ → ℕ → Piece Entry
piece_at g from until = record {
  giver = g;
  before = min (entry_units g) from;
  among = min (entry_units g) until - min
      (entry_units g) from;
}

abbrev piece_after : ℕ → Entry → ℕ → ℕ → Piece Entry
piece_after ahead g from until = piece_at g (from - ahead) (until - ahead)

-- before the first of a list in order none of it comes
pub ahead-first : (x : Entry) (xs : List Entry) → Precedes IsBefore x xs → units_ahead (x ∷ xs) x ≡ 0
ahead-first x xs after =
    ap (λ (b : Bool). sum_by entry_units (cond b (x ∷ filter (comes_before x.place) xs) (filter (comes_before x.place) xs)))
    (is_before-irreflexive x.place)
    ∙ ap (sum_by entry_units) (none x xs after)
  where
    none : (y : Entry) (ys : List Entry) → Precedes IsBefore y ys → filter (comes_before y.place) ys ≡ []
    none y [] h = refl
    none y (z ∷ ys) h =
        ap (λ (b : Bool). cond b (z ∷ filter (comes_before y.place) ys) (filter (comes_before y.place) ys))
        (is_before-asymmetric y.place z.place h.0) ∙ none y ys h.1

pub ahead-later : (x : Entry) (xs : List Entry) (g : Entry) → IsBefore x g → units_ahead (x ∷ xs) g ≡ entry_units x + units_ahead xs g
ahead-later x xs g before =
    ap (λ (b : Bool). sum_by entry_units (cond b (x ∷ filter (comes_before g.place) xs)
    (filter (comes_before g.place) xs))) before
    ∙ sum_by-cons entry_units x (filter (comes_before g.place) xs)

-- where the units of the first are ahead too
piece-later : (x : Entry) (xs : List Entry) (g : Entry) (from until : ℕ) → IsBefore x g
    → piece_after (units_ahead xs g) g (from - entry_units x) (until - entry_units x)
    ≡ piece_after (units_ahead (x ∷ xs) g) g from until
piece-later x xs g from until before =
    let sum = ahead-later x xs g before in
    let shift : (n : ℕ) → (n - entry_units x) - units_ahead xs g ≡ n - units_ahead (x ∷ xs) g = λ n. omega (arith, sum) in
    ap (λ (n : ℕ). piece_at g n ((until - entry_units x) - units_ahead xs g)) (shift from)
    ∙ ap (piece_at g (from - units_ahead (x ∷ xs) g)) (shift until)

piece-first : (x : Entry) (xs : List Entry) (from until : ℕ) → Precedes IsBefore x xs → piece_at x from until
    ≡ piece_after (units_ahead (x ∷ xs) x) x from until
piece-first x xs from until after =
    ap (λ (n : ℕ). piece_at x n until) (minus-none from) ∙ ap (piece_at x (from - 0)) (minus-none until)
    ∙ ap (λ (n : ℕ). piece_after n x from until) (sym (ahead-first x xs after))

-- each piece is that of a movement of the list
record IsPieceOf (es : List Entry) (from until : ℕ) (piece : Piece Entry) : Type 0 where
  held : Contains es piece.giver
  is : piece ≡ piece_after (units_ahead es piece.giver) piece.giver from until

piece-is : (es : List Entry) (from until : ℕ) (piece : Piece Entry) → Pairwise IsBefore es
    → Contains (pieces entry_units es from until) piece → IsPieceOf es from until piece
piece-is [] from until piece ordered held = absurd (omega (arith, held.1))
piece-is (x ∷ xs) from until piece ordered held =
    elim (Contains-cases (piece_at x from until) (pieces entry_units xs (from - entry_units x)
    (until - entry_units x)) piece held) [
      | inl same ↦
          let first : piece_at x from until ≡ piece_after (units_ahead
          (x ∷ xs) x) x from until = piece-first x xs from until ordered.0 in
          subst (IsPieceOf (x ∷ xs) from until) same (record { held = Contains-first x xs; is = first })
      | inr later ↦
          let rest = piece-is xs (from - entry_units x) (until - entry_units x) piece ordered.1 later in
          let before : IsBefore x piece.giver = Precedes-Contains IsBefore x xs piece.giver ordered.0 rest.held in
          record {
            held = Contains-later x xs piece.giver rest.held;
            is = rest.is
                ∙ piece-later x xs piece.giver from until before;
          }
    ]

piece-in : (es : List Entry) (from until : ℕ) (g : Entry) → Pairwise IsBefore es → Contains es g
    → Contains (pieces entry_units es from until) (piece_after (units_ahead es g) g from until)
piece-in [] from until g ordered held = absurd (omega (arith, held.1))
piece-in (x ∷ xs) from until g ordered held =
    let rest = pieces entry_units xs (from - entry_units x) (until - entry_units x) in
    elim (Contains-cases x xs g held) [
      | inl same ↦
          let first : piece_at x from until ≡ piece_after (units_ahead
          (x ∷ xs) x) x from until = piece-first x xs from until ordered.0 in
          subst (λ (f : Entry). Contains (piece_at x from until ∷ rest) (piece_after (units_ahead (x ∷ xs) f) f from until)) same
          (subst (Contains (piece_at x from until ∷ rest)) first (Contains-first (piece_at x from until) rest))
      | inr later ↦
          subst (Contains (piece_at x from until ∷ rest)) (piece-later x xs g from until
          (Precedes-Contains IsBefore x xs g ordered.0 later))
          (Contains-later (piece_at x from until) rest (piece_after (units_ahead xs g) g (from - entry_units x)
          (until - entry_units x)) (piece-in xs (from - entry_units x) (until - entry_units x) g ordered.1 later))
    ]

-- what entered before a movement, seen from a later one
ahead-is : (line : List Entry) (key : Key) (e g : Entry) → is_before g.place e.place ≡ true
    → units_ahead (filter (enters_under key) (earlier line e)) g ≡ entered (earlier line g) key
ahead-is line key e g before =
    ap (sum_by entry_units) (filter-swap (comes_before g.place) (enters_under key) (earlier line e))
    ∙ ap (λ (es : List Entry). entered es key)
    (filter-implied (comes_before g.place) (comes_before e.place) line
    (λ f held is. is_before-transitive f.place g.place e.place is before))

-- the piece has units exactly where the ranges meet
meets-from : (ahead units from q : ℕ) → nat_lt 0 (min units ((from + q) - ahead) - min units (from - ahead)) ≡ true
    → (ahead < from + q) × (from < ahead + units)
meets-from ahead units from q is = (grind (arith, nat_tests), grind (arith, nat_tests))

meets-to : (ahead units from q : ℕ) → 0 < q → 0 < units → ahead < from + q → from < ahead + units
    → nat_lt 0 (min units ((from + q) - ahead) - min units (from - ahead)) ≡ true
meets-to ahead units from q some brought begins ends =
    let more : 0 < min units ((from + q) - ahead) - min units (from - ahead) = omega arith in
    grind (arith, nat_tests)

-- no more units enter among fewer movements
pub sum_where-le : (p : Entry → Bool) (es : List Entry) → sum_by entry_units (filter p es) ≤ sum_by entry_units es
sum_where-le p [] = omega arith
sum_where-le p (e ∷ es) = by_cases (p e) (sum_where-le p es)
  where
    by_cases : (b : Bool) → sum_by entry_units (filter p es) ≤ sum_by entry_units es
        → sum_by entry_units (cond b (e ∷ filter p es) (filter p es)) ≤ sum_by entry_units (e ∷ es)
    by_cases true rest = omega (arith, rest, sum_by-cons entry_units e (filter p es), sum_by-cons entry_units e es)
    by_cases false rest = omega (arith, rest, sum_by-cons entry_units e es)

pub entered-le : (line : List Entry) (key : Key) (e g : Entry) → is_before e.place g.place ≡ true → entered (earlier line e) key
    ≤ entered (earlier line g) key
entered-le line key e g before =
    let fewer : filter (enters_under key) (earlier line e) ≡ filter (comes_before e.place)
    (filter (enters_under key) (earlier line g)) =
    ap (filter (enters_under key)) (sym (filter-implied (comes_before e.place) (comes_before g.place) line
    (λ f held is. is_before-transitive f.place e.place g.place is before)))
    ∙ filter-swap (enters_under key) (comes_before e.place) (earlier line g) in
    subst (λ (n : ℕ). n ≤ entered (earlier line g) key) (ap (sum_by entry_units) (sym fewer))
    (sum_where-le (comes_before e.place) (filter (enters_under key) (earlier line g)))

pub ranges-meet : (line : List Entry) (e g : Entry) → IsInPostingOrder line → IsEnough line → Contains line e → Contains line g
    → is_entering e.place.side ≡ false → e.method ≡ Fifo
    → TakesFrom line g.place e ↔ RangesMeet line g e
ranges-meet line e g in_order enough held other leaves method = (to, from)
  where
    ordered : Pairwise IsBefore line
    ordered = Pairwise-from_AllPairs IsBefore line in_order

    ins_ordered : Pairwise IsBefore (filter (enters_under (entry_key e)) (earlier line e))
    ins_ordered =
        Pairwise-from_AllPairs IsBefore (filter (enters_under (entry_key e)) (earlier line e))
        (AllPairs-filter IsBefore (enters_under (entry_key e)) (earlier line e)
        (AllPairs-filter IsBefore (comes_before e.place) line in_order))

    own_key : (f : Entry) → enters_under (entry_key e) f ≡ true → entry_key f ≡ entry_key e
    own_key f is = is_same_key-true (entry_key f) (entry_key e)
        (both-true (is_of_key (entry_key e) f) (is_entering f.place.side) is).0

    same_in : (f : Entry) → enters_under (entry_key e) f ≡ true → is_before f.place e.place ≡ true
        → units_ahead (filter (enters_under (entry_key e)) (earlier line e)) f ≡ units_in_before line f
    same_in f is before = ahead-is line (entry_key e) e f before ∙ ap (entered (earlier line f)) (sym (own_key f is))

    to : TakesFrom line g.place e → RangesMeet line g e
    to (piece, taken, same) =
        let out = units_out_before line e in
        let ins = filter (enters_under (entry_key e)) (earlier line e) in
        let parts = Contains-filtered has_units (pieces entry_units ins out (out + e.qty.0)) piece
        (subst (λ (ps : List (Piece Entry)). Contains ps piece) (sources-taken (earlier line e) e leaves method) taken) in
        let of = piece-is ins out (out + e.qty.0) piece ins_ordered parts.0 in
        let f = piece.giver in
        let in_past = Contains-filtered (enters_under (entry_key e)) (earlier line e) f of.held in
        let in_line = Contains-filtered (comes_before e.place) line f in_past.0 in
        let some : has_units (piece_after (units_ahead ins f) f out (out + e.qty.0)) ≡ true = ap has_units (sym of.is)
        ∙ parts.1 in
        let meets = meets-from (units_ahead ins f) (entry_units f) out e.qty.0 some in
        let ahead = same_in f in_past.1 in_line.1 in
        subst (λ (h : Entry). RangesMeet line h e) (one_place line g f ordered other in_line.0 same)
        (record { enters = in_past.1; begins = omega (arith, meets.0, ahead); ends = omega (arith, meets.1, ahead) })

    from : RangesMeet line g e → TakesFrom line g.place e
    from meet =
        let sides = both-true (is_of_key (entry_key e) g) (is_entering g.place.side) meet.enters in
        let out = units_out_before line e in
        let ins = filter (enters_under (entry_key e)) (earlier line e) in
        elim (place_of line g e ordered other held) [
          | inl same ↦ absurd (false≢true (sym leaves ∙ ap (λ (h : Entry). is_entering h.place.side) (sym same) ∙ sides.1))
          | inr h ↦ elim h [
            | inr after ↦
                let split = split-at line e held in
                let here : earlier line e ≡ split.past =
                ap (λ (es : List Entry). earlier es e) (sym split.parts)
                ∙ earlier-is_past split.past e split.rest (subst IsInPostingOrder (sym split.parts) in_order) in
                let fits = enough-before split.past e split.rest (subst IsEnough (sym split.parts) enough) leaves in
                let fits_here : units_out_before line e + e.qty.0 ≤ entered (earlier line e) (entry_key e) =
                subst (λ (es : List Entry). departed es (entry_key e) + e.qty.0 ≤ entered es (entry_key e)) (sym here) fits in
                let more = entered-le line (entry_key e) e g after in
                let own : entered (earlier line g) (entry_key e)
                ≡ units_in_before line g = ap (entered (earlier line g)) (sym (own_key g meet.enters)) in
                absurd (omega (arith, fits_here, more, own, meet.begins))
            | inl before ↦
                let in_ins = Contains-filter (enters_under (entry_key e)) (earlier line e) g
                (Contains-filter (comes_before e.place) line g other before) meet.enters in
                let ahead = same_in g meet.enters before in
                let piece = piece_after (units_ahead ins g) g out (out + e.qty.0) in
                let some : has_units piece ≡ true =
                meets-to (units_ahead ins g) (entry_units g) out e.qty.0 e.quantity.0 g.quantity.0
                (omega (arith, ahead, meet.begins)) (omega (arith, ahead, meet.ends)) in (
                  piece,
                  subst (λ (ps : List (Piece Entry)). Contains ps piece)
                      (sym (sources-taken (earlier line e) e leaves method))
                      (Contains-filter has_units (pieces entry_units ins out (out + e.qty.0)) piece
                      (piece-in ins out (out + e.qty.0) g ins_ordered in_ins) some),
                  refl,
                )
          ]
        ]
