-- Exchanges in order: where their turns began, and what the desk knew after each.
use Rattle.std.proofs.Common.{ℕ, ◌+◌, ◌≤◌, List, [], ◌∷◌, ◌++◌, length, subst, arith}
use Rattle.std.proofs.lemmas.List.Elements.{All-nil, All-cons, All-head, All-tail, All-weaker}
use Rattle.std.proofs.lemmas.List.Kept.{AllPairs-cons}
use Rattle.std.specs.Option.{option_map_or}
use Rattle.std.specs.Prelude.{All, AllPairs, IfSome, Option, Some, None}
use Rattle.session_laws.specs.Exchanges.{Exchange, known_after, AreInOrder, IsBefore}

-- of one exchange, by the stop of its turn and how much the turn added
no_less_after : (added low high : ℕ) (stop : Option ℕ) → low ≤ high
    → option_map_or (λ n. n + added) stop low ≤ option_map_or (λ n. n + added) stop high
no_less_after added low high None le = le
no_less_after added low high (Some n) le = omega arith

begins_no_earlier : (low high : ℕ) (stop : Option ℕ) → low ≤ high → IfSome stop (λ n. high ≤ n) → IfSome stop (λ n. low ≤ n)
begins_no_earlier low high None le begins = tt
begins_no_earlier low high (Some n) le begins = let later : high ≤ n = begins in omega arith

knows_no_less : (added known : ℕ) (stop : Option ℕ) → IfSome stop (λ n. known ≤ n)
    → known ≤ option_map_or (λ n. n + added) stop known
knows_no_less added known None begins = omega arith
knows_no_less added known (Some n) begins = let later : known ≤ n = begins in omega arith

stays_within : (added low mid : ℕ) (stop : Option ℕ) → low ≤ mid → option_map_or (λ n. n + added) stop 0 ≤ mid
    → option_map_or (λ n. n + added) stop low ≤ mid
stays_within added low mid None le within = le
stays_within added low mid (Some n) le within = within

-- whoever knew less is served in order too
pub AreInOrder-less : (low high : ℕ) (exchanges : List Exchange) → low ≤ high → AreInOrder high exchanges → AreInOrder low exchanges
AreInOrder-less low high [] le ordered = tt
AreInOrder-less low high (t ∷ exchanges) le ordered = (
  begins_no_earlier low high t.stop le ordered.0,
  AreInOrder-less (known_after low t) (known_after high t) exchanges (no_less_after (length t.kept) low high t.stop le) ordered.1,
)

-- exchanges within so much of the history, and then others that begin with that much
pub AreInOrder-append : (low mid : ℕ) (a b : List Exchange) → low ≤ mid → AreInOrder low a → All (λ t. known_after 0 t ≤ mid) a
    → AreInOrder mid b → AreInOrder low (a ++ b)
AreInOrder-append low mid [] b le ordered within after = AreInOrder-less low mid b le after
AreInOrder-append low mid (t ∷ a) b le ordered within after = (
  ordered.0,
  AreInOrder-append (known_after low t) mid a b
      (stays_within (length t.kept) low mid t.stop le (All-head (λ (u : Exchange). known_after 0 u ≤ mid) t a within)) ordered.1
      (All-tail (λ (u : Exchange). known_after 0 u ≤ mid) t a within) after,
)

-- each turn begins with what the desk knew at first
pub begin_since : (known : ℕ) (exchanges : List Exchange) → AreInOrder known exchanges
    → All (λ t. IfSome t.stop (λ n. known ≤ n)) exchanges
begin_since known [] ordered = All-nil (λ (t : Exchange). IfSome t.stop (λ n. known ≤ n))
begin_since known (t ∷ exchanges) ordered =
    All-cons (λ (u : Exchange). IfSome u.stop (λ n. known ≤ n)) t exchanges ordered.0
    (begin_since known exchanges (AreInOrder-less known (known_after known t) exchanges
    (knows_no_less (length t.kept) known t.stop ordered.0) ordered.1))

is_before : (known : ℕ) (t u : Exchange) → IfSome u.stop (λ n. known_after known t ≤ n) → IsBefore t u
is_before known t u begins m n own other =
    let later : known_after known t ≤ n = subst (λ (stop : Option ℕ). IfSome stop (λ n. known_after known t ≤ n)) other begins in
    subst (λ (stop : Option ℕ). option_map_or (λ (k : ℕ). k + length t.kept) stop known ≤ n) own later

-- of two exchanges the turn of the earlier is over before that of the later begins
pub AllPairs-in_order : (known : ℕ) (exchanges : List Exchange) → AreInOrder known exchanges → AllPairs IsBefore exchanges
AllPairs-in_order known [] ordered = λ i j d before within. absurd (omega arith)
AllPairs-in_order known (t ∷ exchanges) ordered =
    AllPairs-cons IsBefore t exchanges
    (All-weaker (λ (u : Exchange). IfSome u.stop (λ n. known_after known t ≤ n)) (IsBefore t) (is_before known t) exchanges
    (begin_since (known_after known t) exchanges ordered.1))
    (AllPairs-in_order (known_after known t) exchanges ordered.1)
