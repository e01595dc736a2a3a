-- What stands at a spot, and whether one is free, with one more worth or movement at the end.
use Rattle.std.proofs.Common.{◌≡◌, ℕ, ◌+◌, ◌<◌, Bool, true, false, cond, not, ◌&&◌, ◌||◌, List, [], ◌∷◌, ◌++◌, length, get_or, take, Option, Some, None, refl, sym, ap, ◌∙◌}
use Rattle.std.specs.List.{find, list_any}
use Rattle.std.specs.Option.{option_map, option_or}
use Rattle.std.proofs.lemmas.List.{take_more}
use Rattle.std.proofs.lemmas.List.Folds.{find-append, list_any-append}
use Rattle.stock_nums.specs.declared.entry.Entry.{Entry}
use Rattle.stock_nums.specs.declared.place.Spot.{Spot}
use Rattle.stock_keeper.specs.Worths.{is_same_spot}
use Rattle.stock_keeper.specs.declared.changes.SpotWorth.{SpotWorth}
use Rattle.kept_tables.specs.Differences.{worth_in, is_at, worth_at}
use Rattle.generation_audit.specs.RightRows.{entry_spot, stands_at, is_free}

-- one more element of a list
pub one_more : {X : Type 0} (xs : List X) (i : ℕ) (x : X) → i < length xs → x ≡ get_or xs i x → take (i + 1) xs ≡ take i xs ++ x ∷ []
one_more xs i x within is = take_more xs i x within ∙ ap (λ y. take i xs ++ y ∷ []) (sym is)

or-map : (a b : Option SpotWorth) → option_map worth_in (option_or a b) ≡ option_or (option_map worth_in a) (option_map worth_in b)
or-map None b = refl
or-map (Some a) b = refl

one_at : (w : SpotWorth) (spot : Spot) (b : Bool) → option_map worth_in (cond b (Some w) None) ≡ cond b (Some w.worth) None
one_at w spot true = refl
one_at w spot false = refl

-- what stands at a spot, with one more worth
pub worth_at-next : (ws : List SpotWorth) (w : SpotWorth) (spot : Spot)
    → worth_at (ws ++ w ∷ []) spot ≡ option_or (worth_at ws spot) (cond (is_same_spot w.spot spot) (Some w.worth) None)
worth_at-next ws w spot =
    ap (option_map worth_in) (find-append (is_at spot) ws (w ∷ []))
    ∙ or-map (find (is_at spot) ws) (find (is_at spot) (w ∷ []))
    ∙ ap (option_or (worth_at ws spot)) (one_at w spot (is_same_spot w.spot spot))

any-last : (b : Bool) → (b || false) ≡ b
any-last true = refl
any-last false = refl

-- whether one stands there, with one more
pub any-next : {X : Type 0} (p : X → Bool) (xs : List X) (x : X) → list_any p (xs ++ x ∷ []) ≡ (list_any p xs || p x)
any-next p xs x = list_any-append p xs (x ∷ []) ∙ ap (λ (b : Bool). list_any p xs || b) (any-last (p x))

marked : (old here : Bool) → cond here true old ≡ (old || here)
marked true true = refl
marked true false = refl
marked false true = refl
marked false false = refl

pub mark-next : (es : List Entry) (e : Entry) (spot : Spot) (old new : Bool) → old ≡ list_any (stands_at spot) es
    → new ≡ cond (is_same_spot (entry_spot e) spot) true old → new ≡ list_any (stands_at spot) (es ++ e ∷ [])
mark-next es e spot old new so_far is =
    is ∙ marked old (is_same_spot (entry_spot e) spot) ∙ ap (λ (b : Bool). b || is_same_spot (entry_spot e) spot) so_far ∙ sym (any-next (stands_at spot) es e)

split : (line before here : Bool) → ((line && not before) && not here) ≡ (line && not (before || here))
split true true here = refl
split true false here = refl
split false before here = refl

-- a spot that is free stays so, unless one more worth stands there
pub free-next : (line : List Entry) (ws : List SpotWorth) (w : SpotWorth) (spot : Spot) (old new : Bool) → old ≡ is_free line ws spot
    → new ≡ (old && not (is_same_spot w.spot spot)) → new ≡ is_free line (ws ++ w ∷ []) spot
free-next line ws w spot old new so_far is =
    is ∙ ap (λ (b : Bool). b && not (is_same_spot w.spot spot)) so_far
    ∙ split (list_any (stands_at spot) line) (list_any (is_at spot) ws) (is_same_spot w.spot spot)
    ∙ ap (λ (b : Bool). list_any (stands_at spot) line && not b) (sym (any-next (is_at spot) ws w))
