-- To which movements a change spreads, by what they start from and what they take over.
use Rattle.std.proofs.Common.{◌≡◌, Bool, true, false, ◌&&◌, List, Some, Contains, ◌⊎◌, inl, inr, refl, sym, ap, ◌∙◌}
use Rattle.std.proofs.lemmas.Bool.{false≢true}
use Rattle.stock_nums.specs.Places.{is_before}
use Rattle.stock_nums.specs.declared.entry.Entry.{Entry}
use Rattle.stock_model.specs.Enough.{entry_key, is_of_key, IsEnough}
use Rattle.stock_model.specs.InOrder.{IsInPostingOrder}
use Rattle.stock_laws.proofs.CostedRows.{both}
use Rattle.stock_laws.proofs.Enough.{is_same_key-true}
use Rattle.repost_frontier.proofs.OnePasses.{find-found}
use Rattle.repost_laws.specs.Fetches.{HaveOneMethod}
use Rattle.repost_laws.specs.Looks.{IsLinkedTo, TakesUnits}
use Rattle.repost_laws.specs.Touched.{follows_in_key, next_of_key, had_after, had_value, IsMarked}
use Rattle.repost_laws.specs.Valuations.{Valued, Found}
use Rattle.repost_laws.proofs.LooksStarted.{starts-looks}
use Rattle.repost_laws.proofs.LooksTaken.{takes-looks}
use Rattle.repost_laws.proofs.Turns.{both-true}
use Rattle.repost_spread.specs.Touches.{ComesNext}

-- the next one is costed as the movement before it
pub next-method : (line : List Entry) (e f : Entry) → HaveOneMethod line → Contains line e → next_of_key line e ≡ Some f
    → f.method ≡ e.method
next-method line e f one_method held next =
    let found = find-found (follows_in_key e) line f next in
    one_method f e found.1 held (is_same_key-true (entry_key f) (entry_key e)
    (both-true (is_of_key (entry_key e) f) (is_before e.place f.place) found.0).0)

and-false : (a b : Bool) → b ≡ false → (a && b) ≡ false
and-false true b h = h
and-false false b h = refl

-- what spreads, where the movement is one of the line
module _ (line : List Entry) (found : Found) (e : Entry) (now : Valued) (in_order : IsInPostingOrder line) (enough : IsEnough line)
    (held : Contains line e) where
  -- nothing where all is as before
  pub marks-none : (f : Entry) → had_after found e.place now ≡ true → had_value found e.place now ≡ true
      → IsMarked line found e.place now f → ⊥
  marks-none f after value (inl starts) = false≢true (sym starts.1 ∙ both after value)
  marks-none f after value (inr takes) = false≢true (sym takes.1 ∙ value)

  -- only what comes next where what is held after it alone changed
  pub next-marks : (f : Entry) → Contains line f → had_after found e.place now ≡ false → ComesNext line e f
      → IsMarked line found e.place now f
  next-marks f other after next =
      inl (
        (starts-looks line e f in_order held other).1 next,
        ap (λ (b : Bool). b && had_value found e.place now) after,
      )

  pub marks-next : (f : Entry) → Contains line f → had_value found e.place now ≡ true → IsMarked line found e.place now f
      → ComesNext line e f
  marks-next f other value (inl starts) = (starts-looks line e f in_order held other).0 starts.0
  marks-next f other value (inr takes) = absurd (false≢true (sym takes.1 ∙ value))

  -- and what takes the value over too where that changed
  pub all-marks : (f : Entry) → Contains line f → had_value found e.place now ≡ false
      → ComesNext line e f ⊎ (IsLinkedTo e f ⊎ TakesUnits line e f) → IsMarked line found e.place now f
  all-marks f other value (inl next) =
      inl (
        (starts-looks line e f in_order held other).1 next,
        and-false (had_after found e.place now) (had_value found e.place now) value,
      )
  all-marks f other value (inr takes) = inr ((takes-looks line e f in_order enough held other).1 takes, value)

  pub marks-all : (f : Entry) → Contains line f → IsMarked line found e.place now f
      → ComesNext line e f ⊎ (IsLinkedTo e f ⊎ TakesUnits line e f)
  marks-all f other (inl starts) = inl ((starts-looks line e f in_order held other).0 starts.0)
  marks-all f other (inr takes) = inr ((takes-looks line e f in_order enough held other).0 takes.0)
