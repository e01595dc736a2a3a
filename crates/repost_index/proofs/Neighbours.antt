-- The last movement before another and the first one after a place, found among changes by item and warehouse.
use Rattle.std.proofs.Common.{◌≡◌, Bool, true, false, cond, ◌&&◌, List, [], ◌∷◌, filter, reverse, Some, refl, sym, ap, ◌∙◌}
use Rattle.std.specs.List.{find}
use Rattle.std.specs.Option.{option_map}
use Rattle.stock_nums.specs.Places.{is_before}
use Rattle.stock_nums.specs.declared.entry.Entry.{Entry}
use Rattle.stock_nums.specs.declared.entry.Key.{Key}
use Rattle.stock_nums.specs.declared.place.Place.{Place}
use Rattle.stock_model.specs.Enough.{entry_key, is_of_key}
use Rattle.key_order.specs.Changes.{previous_change}
use Rattle.key_order.specs.declared.change.Change.{Change}
use Rattle.posting_order.specs.KeyLines.{AreOf}
use Rattle.posting_order.proofs.KeyQueries.{previous_place-change}
use Rattle.cost_links.specs.Sources.{entry_place, comes_before}
use Rattle.repost_laws.specs.Touched.{next_of_key}
use Rattle.repost_laws.specs.Valuations.{earlier, last_of_key}
use Rattle.repost_laws.proofs.Filtered.{filter-reverse}

-- what passes both tests is found among what passes the second
find-kept : (p q : Entry → Bool) (es : List Entry) → find (λ e. p e && q e) es ≡ find p (filter q es)
find-kept p q [] = refl
find-kept p q (e ∷ es) = by_cases (p e) (q e) refl refl (find-kept p q es)
  where
    by_cases : (a b : Bool) → p e ≡ a → q e ≡ b → find (λ f. p f && q f) es ≡ find p (filter q es)
        → cond (a && b) (Some e) (find (λ f. p f && q f) es) ≡ find p (cond b (e ∷ filter q es) (filter q es))
    by_cases true true own kept rest = rw own refl
    by_cases true false own kept rest = rest
    by_cases false true own kept rest = rw own rest
    by_cases false false own kept rest = rest

-- the change before a movement is that of the last one of its key that is earlier
pub previous-last : (line : List Entry) (cs : List Change) (e : Entry) → AreOf line cs
    → previous_change cs (entry_key e) e.place ≡ option_map entry_place (last_of_key (earlier line e) (entry_key e))
previous-last line cs e are =
    previous_place-change line cs (entry_key e) e.place are
    ∙ ap (option_map entry_place) (find-kept (is_of_key (entry_key e)) (comes_before e.place) (reverse line))
    ∙ ap (λ (es : List Entry). option_map entry_place (find (is_of_key (entry_key e)) es))
    (sym (filter-reverse (comes_before e.place) line))

-- the first movement of a key after a place is the next one of a movement of that key at that place
pub next-at : (line : List Entry) (key : Key) (place : Place) (g : Entry) → entry_key g ≡ key → g.place ≡ place
    → find (λ f. is_of_key key f && is_before place f.place) line ≡ next_of_key line g
next-at line key place g own at =
    ap (λ (k : Key). find (λ f. is_of_key k f && is_before place f.place) line) (sym own)
    ∙ ap (λ (p : Place). find (λ f. is_of_key (entry_key g) f && is_before p f.place) line) (sym at)
