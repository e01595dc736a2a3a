-- What is stored of the movements, one by one, while it is right, and the worths that stand once.
use Rattle.std.proofs.Common.{◌≡◌, ℕ, ◌+◌, ◌<◌, Bool, true, false, ◌&&◌, List, [], ◌∷◌, ◌++◌, length, get_or, take, drop, Option, Some, refl, sym, ap, ◌∙◌, subst, append-nil, append_assoc}
use Rattle.std.specs.List.{filter_map}
use Rattle.std.specs.Option.{option_map}
use Rattle.std.proofs.lemmas.List.{take-append-drop}
use Rattle.std.proofs.lemmas.List.Elements.{filter_map-append}
use Rattle.std.proofs.lemmas.List.Sums.{fold-append}
use Rattle.stock_nums.specs.declared.entry.Entry.{Entry}
use Rattle.stock_nums.specs.declared.entry.Row.{Row}
use Rattle.stock_model.specs.Replay.{valued, value_next, rows_of}
use Rattle.stock_model.specs.declared.records.Record.{Record}
use Rattle.stock_keeper.specs.declared.changes.SpotWorth.{SpotWorth}
use Rattle.generation_audit.specs.RightRows.{row_with, stored_row, stored_rows, IsRight, AreRightAfter, AreRight, is_free, AreOwnAfter, AreOwn}
use Rattle.generation_audit.proofs.MarkedSpots.{one_more}
use Rattle.generation_audit.proofs.MovedRows.{rest_is}

-- what is found of one element
one_found : {X Y : Type 0} (h : X → Option Y) (x : X) (y : Y) → h x ≡ Some y → filter_map h (x ∷ []) ≡ y ∷ []
one_found h x y is = rw is refl

-- the row that is stored of one more movement, where it is right
stored-next : (journal : List Record) (worths : List SpotWorth) (past : List Entry) (e : Entry) → IsRight journal worths past e
    → stored_rows worths (past ++ e ∷ []) ≡ value_next journal (stored_rows worths past) e
stored-next journal worths past e right =
    filter_map-append (stored_row worths) past (e ∷ [])
    ∙ ap (λ (rows : List Row). stored_rows worths past ++ rows)
    (one_found (stored_row worths) e (valued journal (stored_rows worths past) e) (ap (option_map (row_with e)) right))

-- where what is stored of movements is right, the stored rows are the replay's
rows-after : (journal : List Record) (worths : List SpotWorth) (past es : List Entry) → stored_rows worths past ≡ rows_of journal past → AreRightAfter journal worths past es
    → stored_rows worths (past ++ es) ≡ rows_of journal (past ++ es)
rows-after journal worths past [] so_far right =
    ap (stored_rows worths) (append-nil past) ∙ so_far ∙ ap (rows_of journal) (sym (append-nil past))
rows-after journal worths past (e ∷ es) so_far right =
    let next : stored_rows worths (past ++ e ∷ []) ≡ rows_of journal (past ++ e ∷ []) =
    stored-next journal worths past e right.0 ∙ ap (λ (rows : List Row). value_next journal rows e) so_far
    ∙ sym (fold-append (value_next journal) [] past (e ∷ [])) in
    ap (stored_rows worths) (sym (append_assoc past (e ∷ []) es))
    ∙ rows-after journal worths (past ++ e ∷ []) es next right.1
    ∙ ap (rows_of journal) (append_assoc past (e ∷ []) es)

pub rows-right : (journal : List Record) (worths : List SpotWorth) (es : List Entry) → AreRight journal worths es → stored_rows worths es ≡ rows_of journal es
rows-right journal worths es right = rows-after journal worths [] es refl right

-- one more movement of which what is stored is right
right-after : (journal : List Record) (worths : List SpotWorth) (past es : List Entry) (e : Entry) → AreRightAfter journal worths past es
    → IsRight journal worths (past ++ es) e → AreRightAfter journal worths past (es ++ e ∷ [])
right-after journal worths past [] e right own = (subst (λ (front : List Entry). IsRight journal worths front e) (append-nil past) own, tt)
right-after journal worths past (f ∷ es) e right own = (
  right.0,
  right-after journal worths (past ++ f ∷ []) es e right.1
      (subst (λ (front : List Entry). IsRight journal worths front e) (sym (append_assoc past (f ∷ []) es)) own),
)

pub right-next : (journal : List Record) (worths : List SpotWorth) (line : List Entry) (i : ℕ) (e : Entry) → i < length line → e ≡ get_or line i e
    → AreRight journal worths (take i line) → IsRight journal worths (take i line) e → AreRight journal worths (take (i + 1) line)
right-next journal worths line i e within is right own =
    subst (AreRight journal worths) (sym (one_more line i e within is)) (right-after journal worths [] (take i line) e right own)

-- the rows with one more
pub rows-next : (journal : List Record) (line : List Entry) (i : ℕ) (e : Entry) → i < length line → e ≡ get_or line i e
    → rows_of journal (take (i + 1) line) ≡ value_next journal (rows_of journal (take i line)) e
rows-next journal line i e within is =
    ap (rows_of journal) (one_more line i e within is) ∙ fold-append (value_next journal) [] (take i line) (e ∷ [])

-- a list is parted before one of its elements
pub parted : {X : Type 0} (xs : List X) (i : ℕ) (x : X) → i < length xs → x ≡ get_or xs i x → xs ≡ take i xs ++ x ∷ drop (i + 1) xs
parted xs i x within is = sym (take-append-drop i xs) ∙ ap (λ ys. take i xs ++ ys) (rest_is xs i x within is)

-- one more worth that stands at a free spot
own-after : (line : List Entry) (before ws : List SpotWorth) (w : SpotWorth) → AreOwnAfter line before ws
    → is_free line (before ++ ws) w.spot ≡ true → AreOwnAfter line before (ws ++ w ∷ [])
own-after line before [] w own free = (subst (λ (front : List SpotWorth). is_free line front w.spot ≡ true) (append-nil before) free, tt)
own-after line before (v ∷ ws) w own free = (
  own.0,
  own-after line (before ++ v ∷ []) ws w own.1
      (subst (λ (front : List SpotWorth). is_free line front w.spot ≡ true) (sym (append_assoc before (v ∷ []) ws)) free),
)

pub own-next : (line : List Entry) (ws : List SpotWorth) (i : ℕ) (w : SpotWorth) → i < length ws → w ≡ get_or ws i w
    → AreOwn line (take i ws) → is_free line (take i ws) w.spot ≡ true → AreOwn line (take (i + 1) ws)
own-next line ws i w within is own free =
    subst (AreOwn line) (sym (one_more ws i w within is)) (own-after line [] (take i ws) w own free)

pub before-all : (b : Bool) → (b && true) ≡ b
before-all true = refl
before-all false = refl
