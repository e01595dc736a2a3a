-- Statements of one transaction, one after another, and what they make of the tables together.
use Rattle.std.proofs.Common.{◌≡◌, ℕ, ◌+◌, ◌<◌, Bool, true, false, not, ◌||◌, cond, List, [], ◌∷◌, ◌++◌, length, take, get_or, fold, refl, sym, ap, ◌∙◌, subst, arith}
use Rattle.std.specs.Prelude.{⊤}
use Rattle.std.specs.List.{list_any}
use Rattle.std.proofs.lemmas.List.{take_more}
use Rattle.std.proofs.lemmas.List.Sums.{fold_push}
use Rattle.sqlite_trees.specs.declared.store.Store.{Ghosts}
use Rattle.sqlite.specs.State.{Survives}
use Rattle.sqlite.specs.Held.{Held, state}
use Rattle.sqlite.proofs.InsideLemmas.{keeps_then}
use Rattle.sqlite.proofs.StateLemmas.{survives_then}
use Rattle.stock_nums.specs.declared.numbers.RecordNo.{RecordNo}
use Rattle.stock_nums.specs.declared.place.Spot.{Spot}
use Rattle.stock_keeper.specs.Changed.{published}
use Rattle.stock_keeper.specs.declared.changes.Changes.{Changes}
use Rattle.stock_keeper.specs.declared.changes.SpotWorth.{SpotWorth}
use Rattle.stock_keeper.specs.Worths.{is_same_spot, is_among, put, without}
use Rattle.stock_keeper.specs.declared.tables.Tables.{Tables}
use Rattle.sqlite_tables.specs.Standing.{StandsFor}
use Rattle.sqlite_tables.specs.Turning.{HasTurned, HasGone, HasKept, with_worth, with_worths, without_spot, without_spots, with_covered}

-- so far the statements of a loop have made this change
pub record HasLooped {S N : Type 0} (store : Ghosts S) (change : Tables → Tables) (before after : N) (old new : Held S) : Type 0 where
  pub same_reference : after ≡ before
  pub gone : HasGone store change old new
  pub survives : Survives (state store old) (state store new) (λ _. ⊥)

module _ {S : Type 0} (store : Ghosts S) where
  -- nothing ran yet
  pub gone_none : (change : Tables → Tables) (old : Held S) → ((t : Tables) → change t ≡ t) → HasGone store change old old
  gone_none change old none clean inside =
      record { was_open = λ h. h; committed = refl; mode = inside; stands = λ t stands. subst (StandsFor (state store old).now) (sym (none t)) stands }

  -- one more statement
  pub gone_then : (first next both : Tables → Tables) (old mid new : Held S) → ((t : Tables) → both t ≡ next (first t)) → HasGone store first old mid
      → Survives (state store mid) (state store new) (λ _. ⊥) → HasTurned store (λ _. ⊤) next mid new → HasGone store both old new
  gone_then first next both old mid new is so_far survives turned clean inside =
      let before = so_far (omega (arith, survives.clean, clean)) inside in
      let one = turned clean before.mode in
      record {
        was_open = λ _. before.was_open one.shows.was_open;
        committed = one.shows.committed_is ∙ before.committed;
        mode = one.shows.mode;
        stands = λ t stands. subst (StandsFor (state store new).now) (sym (is t)) (one.stands (first t) (before.stands t stands) tt);
      }

  -- what went on has committed nothing, and neither has what follows
  pub kept_then : (change : Tables → Tables) (old mid new : Held S) → HasGone store change old mid → Survives (state store mid) (state store new) (λ _. ⊥)
      → HasKept store mid new → HasKept store old new
  kept_then change old mid new so_far survives kept clean inside =
      let before = so_far (omega (arith, survives.clean, clean)) inside in
      keeps_then (state store old) (state store mid) (state store new) (record { was_open = before.was_open; committed = λ _. before.committed }) (kept clean before.mode)

  pub survives_next : (old mid new : Held S) → Survives (state store old) (state store mid) (λ _. ⊥) → Survives (state store mid) (state store new) (λ _. ⊥)
      → Survives (state store old) (state store new) (λ _. ⊥)
  survives_next old mid new = survives_then (state store old) (state store mid) (state store new) _ _ _ (λ _ db none. none) (λ _ db none. none)

  -- the worths that are new, those that are gone, and the head last, are a publication
  pub published_then : (covered : RecordNo) (changes : Changes) (old put removed new : Held S) → HasGone store (with_worths changes.rows) old put
      → Survives (state store put) (state store removed) (λ _. ⊥) → HasGone store (without_spots changes.gone) put removed
      → Survives (state store removed) (state store new) (λ _. ⊥) → HasTurned store (λ _. ⊤) (with_covered covered) removed new
      → HasTurned store (λ _. ⊤) (published covered changes) old new
  published_then covered changes old put removed new puts first removes second covers clean inside =
      let two = puts (omega (arith, first.clean, second.clean, clean)) inside in
      let one = removes (omega (arith, second.clean, clean)) two.mode in
      let last = covers clean one.mode in
      record {
        shows = record {
          was_open = two.was_open (one.was_open last.shows.was_open);
          is_open = last.shows.is_open;
          now_is = refl;
          committed_is = last.shows.committed_is ∙ one.committed ∙ two.committed;
          mode = last.shows.mode;
        };
        stands = λ t stands _. last.stands _ (one.stands _ (two.stands t stands)) tt;
      }

-- ---- the changes, one after another

pub with_more : (rows : List SpotWorth) (i : ℕ) (d : SpotWorth) → i < length rows → (t : Tables) → with_worths (take (i + 1) rows) t ≡ with_worth (get_or rows i d) (with_worths (take i rows) t)
with_more rows i d within t = ap (λ (ws : List SpotWorth). record t { worths = ws }) (ap (fold put t.worths) (take_more rows i d within) ∙ fold_push put t.worths (take i rows) (get_or rows i d))

pub without_none : (ws : List SpotWorth) → without [] ws ≡ ws
without_none [] = refl
without_none (w ∷ ws) = ap (λ l. w ∷ l) (without_none ws)

any-append : (p : Spot → Bool) (xs : List Spot) (x : Spot) → list_any p (xs ++ x ∷ []) ≡ (list_any p xs || (p x || false))
any-append p [] x = refl
any-append p (y ∷ xs) x = elim (p y) as (λ b. (b || list_any p (xs ++ x ∷ [])) ≡ ((b || list_any p xs) || (p x || false))) [ true ↦ refl | false ↦ any-append p xs x ]

without_push : (spots : List Spot) (s : Spot) (ws : List SpotWorth) → without (spots ++ s ∷ []) ws ≡ without (s ∷ []) (without spots ws)
without_push spots s [] = refl
without_push spots s (w ∷ ws) = rw (any-append (λ x. is_same_spot x w.spot) spots s) (go (is_among spots w.spot) (is_same_spot s w.spot || false) refl (without_push spots s ws))
  where
    go : (a b : Bool) → (is_same_spot s w.spot || false) ≡ b → without (spots ++ s ∷ []) ws ≡ without (s ∷ []) (without spots ws)
        → cond (not (a || b)) (w ∷ without (spots ++ s ∷ []) ws) (without (spots ++ s ∷ []) ws) ≡ without (s ∷ []) (cond (not a) (w ∷ without spots ws) (without spots ws))
    go true b is later = later
    go false true is later = rw is later
    go false false is later = rw is (ap (λ l. w ∷ l) later)

pub without_more : (spots : List Spot) (i : ℕ) (d : Spot) → i < length spots → (t : Tables)
    → without_spots (take (i + 1) spots) t ≡ without_spot (get_or spots i d) (without_spots (take i spots) t)
without_more spots i d within t =
    ap (λ (ws : List SpotWorth). record t { worths = ws }) (ap (λ l. without l t.worths) (take_more spots i d within) ∙ without_push (take i spots) (get_or spots i d) t.worths)
