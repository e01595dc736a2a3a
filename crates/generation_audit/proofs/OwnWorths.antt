-- Worths each of which stands at the spot of a movement of its own.
use Rattle.std.proofs.Common.{◌≡◌, Bool, true, false, cond, not, ◌&&◌, ◌||◌, List, [], ◌∷◌, ◌++◌, Option, Some, None, inl, inr, refl, sym, ap, ◌∙◌, subst, append_assoc, arith, Contains}
use Rattle.std.specs.List.{find, list_any, AllPairs}
use Rattle.std.specs.Option.{option_map, option_or}
use Rattle.std.proofs.lemmas.Bool.{false≢true}
use Rattle.std.proofs.lemmas.List.Elements.{Contains-append_left, Contains-append_right}
use Rattle.std.proofs.lemmas.List.Folds.{find-append}
use Rattle.stock_nums.specs.declared.entry.Entry.{Entry}
use Rattle.stock_nums.specs.declared.place.Spot.{Spot}
use Rattle.stock_model.proofs.Pairwise.{Precedes, Pairwise, Contains-cases, Contains-first, AllPairs-from_Pairwise}
use Rattle.stock_keeper.specs.declared.changes.SpotWorth.{SpotWorth}
use Rattle.kept_tables.specs.Differences.{worth_in, is_at, worth_at}
use Rattle.kept_tables.proofs.WorthsAt.{worth_at-first}
use Rattle.generation_audit.specs.RightRows.{stands_at, AreOwnAfter, AreOwn}
use Rattle.generation_audit.specs.Sound.{StandApart}

pub both : (a b : Bool) → (a && b) ≡ true → (a ≡ true) × (b ≡ true)
both true b h = (refl, h)
both false b h = absurd (false≢true h)

turned : (b : Bool) → not b ≡ true → b ≡ false
turned true h = absurd (false≢true h)
turned false h = refl

-- an element that passes is found, or none passes
pub found-one : {X : Type 0} (p : X → Bool) (xs : List X) → list_any p xs ≡ true → (x : X) × Contains xs x × (p x ≡ true)
found-one p [] any = absurd (false≢true any)
found-one {X = X} p (y ∷ xs) any = by_test (p y) refl any (found-one p xs)
  where
    by_test : (b : Bool) → p y ≡ b → (b || list_any p xs) ≡ true → (list_any p xs ≡ true → (x : X) × Contains xs x × (p x ≡ true)) → (x : X) × Contains (y ∷ xs) x × (p x ≡ true)
    by_test true is any later = (y, Contains-first y xs, is)
    by_test false is any later =
        let rest = later any in
        (rest.0, Contains-append_right (y ∷ []) xs rest.0 rest.1, rest.2)

none-first : (a b : Bool) → (a || b) ≡ false → (a ≡ false) × (b ≡ false)
none-first true b h = absurd (false≢true (sym h))
none-first false b h = (refl, h)

pub none-passes : {X : Type 0} (p : X → Bool) (xs : List X) (x : X) → list_any p xs ≡ false → Contains xs x → p x ≡ false
none-passes p [] x none held = absurd (omega (arith, held.1))
none-passes p (y ∷ xs) x none held =
    let parts = none-first (p y) (list_any p xs) none in
    elim (Contains-cases y xs x held) [
      | inl same ↦ ap p (sym same) ∙ parts.0
      | inr later ↦ none-passes p xs x parts.1 later
    ]

pub none-found : {X : Type 0} (p : X → Bool) (xs : List X) → list_any p xs ≡ false → find p xs ≡ None
none-found p [] none = refl
none-found p (y ∷ xs) none =
    let parts = none-first (p y) (list_any p xs) none in
    ap (λ (b : Bool). cond b (Some y) (find p xs)) parts.0 ∙ none-found p xs parts.1

-- behind worths of other spots the same stands at a spot
pub worth_at-behind : (before ws : List SpotWorth) (spot : Spot) → list_any (is_at spot) before ≡ false → worth_at (before ++ ws) spot ≡ worth_at ws spot
worth_at-behind before ws spot none =
    ap (option_map worth_in) (find-append (is_at spot) before ws)
    ∙ ap (λ (o : Option SpotWorth). option_map worth_in (option_or o (find (is_at spot) ws))) (none-found (is_at spot) before none)

-- each stands at the spot of a movement, the first there
pub first-own : (line : List Entry) (before ws : List SpotWorth) (w : SpotWorth) → AreOwnAfter line before ws → Contains ws w
    → (list_any (stands_at w.spot) line ≡ true) × (worth_at (before ++ ws) w.spot ≡ Some w.worth)
first-own line before [] w own held = absurd (omega (arith, held.1))
first-own line before (v ∷ ws) w own held =
    elim (Contains-cases v ws w held) [
      | inl same ↦
          let parts = both (list_any (stands_at v.spot) line) (not (list_any (is_at v.spot) before)) own.0 in
          subst (λ (u : SpotWorth). (list_any (stands_at u.spot) line ≡ true) × (worth_at (before ++ v ∷ ws) u.spot ≡ Some u.worth)) same
          (parts.0, worth_at-behind before (v ∷ ws) v.spot (turned (list_any (is_at v.spot) before) parts.1) ∙ worth_at-first v ws)
      | inr later ↦
          let rest = first-own line (before ++ v ∷ []) ws w own.1 later in
          (rest.0, ap (λ (us : List SpotWorth). worth_at us w.spot) (sym (append_assoc before (v ∷ []) ws)) ∙ rest.1)
    ]

-- one before them stands apart from each
later-apart : (line : List Entry) (before ws : List SpotWorth) (b : SpotWorth) → AreOwnAfter line before ws → Contains before b → Precedes StandApart b ws
later-apart line before [] b own held = tt
later-apart line before (v ∷ ws) b own held =
    let parts = both (list_any (stands_at v.spot) line) (not (list_any (is_at v.spot) before)) own.0 in (
      none-passes (is_at v.spot) before b (turned (list_any (is_at v.spot) before) parts.1) held,
      later-apart line (before ++ v ∷ []) ws b own.1 (Contains-append_left before (v ∷ []) b held),
    )

apart-after : (line : List Entry) (before ws : List SpotWorth) → AreOwnAfter line before ws → Pairwise StandApart ws
apart-after line before [] own = tt
apart-after line before (v ∷ ws) own = (
  later-apart line (before ++ v ∷ []) ws v own.1 (Contains-append_right before (v ∷ []) v (Contains-first v [])),
  apart-after line (before ++ v ∷ []) ws own.1,
)

pub stand-apart : (line : List Entry) (worths : List SpotWorth) → AreOwn line worths → AllPairs StandApart worths
stand-apart line worths own = AllPairs-from_Pairwise StandApart worths (apart-after line [] worths own)
