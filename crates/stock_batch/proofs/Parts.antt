-- An input in parts: its lines, as the whole lines and the rest make them.
use Rattle.std.proofs.Common.{◌≡◌, ℕ, zero, suc, ◌<◌, take, get_or, arith, Bool, true, false, not, ◌&&◌, eqb, List, [], ◌∷◌, ◌++◌, refl, sym, ap, ◌∙◌, append_assoc}
use Rattle.std.specs.Prelude.{filter}
use Rattle.std.specs.List.{list_all, flat_map}
use Rattle.std.proofs.lemmas.Bool.{false≢true}
use Rattle.std.proofs.lemmas.List.{append-nil}
use Rattle.std.proofs.lemmas.List.Folds.{list_all-append}
use Rattle.std.proofs.lemmas.List.Elements.{filter-append}
use Rattle.std.proofs.lemmas.Grind.{flat_map-append}
use Rattle.stock_model.specs.InputLines.{lines_of, whole_lines_of, onto_first, onto_whole, is_asked}
use Rattle.stock_batch.specs.InputParts.{is_no_feed, HasNoFeed, HaveNoFeed, with_feed, Parted}

split-not-and : (x y : Bool) → (not x && y) ≡ true → (x ≡ false) × (y ≡ true)
split-not-and true y h = absurd (false≢true h)
split-not-and false y h = (refl, h)

-- bytes without a line feed: the first is none, and the others have none
pub HasNoFeed-cons : (b : ℕ) (bytes : List ℕ) → HasNoFeed (b ∷ bytes) → (eqb b 10 ≡ false) × HasNoFeed bytes
HasNoFeed-cons b bytes h = split-not-and (eqb b 10) (list_all is_no_feed bytes) h

pub HasNoFeed-append : (a b : List ℕ) → HasNoFeed a → HasNoFeed b → HasNoFeed (a ++ b)
HasNoFeed-append a b p q = list_all-append is_no_feed a b ∙ rw (p, q) refl

not_true-false : (x : Bool) → (x ≡ true → ⊥) → x ≡ false
not_true-false true h = absurd (h refl)
not_true-false false h = refl

-- where no byte below n is a line feed, the first n bytes have none
pub HasNoFeed-below : (bytes : List ℕ) (n : ℕ) → ((k : ℕ) → k < n → eqb (get_or bytes k 0) 10 ≡ true → ⊥) → HasNoFeed (take n bytes)
HasNoFeed-below [] zero h = refl
HasNoFeed-below [] (suc n) h = refl
HasNoFeed-below (b ∷ bytes) zero h = refl
HasNoFeed-below (b ∷ bytes) (suc n) h =
    rw (not_true-false (eqb b 10) (h 0 (omega arith)))
    (HasNoFeed-below bytes n (λ k below. h (suc k) (omega arith)))

-- a line that ends with its line feed is the first line
pub lines_of-line : (line more : List ℕ) → HasNoFeed line → lines_of (line ++ 10 ∷ more) ≡ line ∷ lines_of more
lines_of-line [] more h = refl
lines_of-line (b ∷ line) more h =
    let parts = HasNoFeed-cons b line h in
    rw parts.0 (ap (onto_first b) (lines_of-line line more parts.1))

whole_lines_of-line : (line more : List ℕ) → HasNoFeed line → whole_lines_of (line ++ 10 ∷ more) ≡ line ∷ whole_lines_of more
whole_lines_of-line [] more h = refl
whole_lines_of-line (b ∷ line) more h =
    let parts = HasNoFeed-cons b line h in
    rw parts.0 (ap (onto_whole b) (whole_lines_of-line line more parts.1))

-- a last part that isn't empty is a line
unfoldable pub last_part : List ℕ → List (List ℕ)
last_part [] = []
last_part (b ∷ bytes) = (b ∷ bytes) ∷ []

onto_last : (b : ℕ) (rest : List ℕ) → onto_first b (last_part rest) ≡ (b ∷ rest) ∷ []
unfolding last_part
onto_last b [] = refl
onto_last b (c ∷ rest) = refl

lines_of-rest : (rest : List ℕ) → HasNoFeed rest → lines_of rest ≡ last_part rest
unfolding last_part
lines_of-rest [] h = refl
lines_of-rest (b ∷ rest) h =
    let parts = HasNoFeed-cons b rest h in
    rw parts.0 (ap (onto_first b) (lines_of-rest rest parts.1) ∙ onto_last b rest)

whole_lines_of-rest : (rest : List ℕ) → HasNoFeed rest → whole_lines_of rest ≡ []
whole_lines_of-rest [] h = refl
whole_lines_of-rest (b ∷ rest) h =
    let parts = HasNoFeed-cons b rest h in
    rw parts.0 (ap (onto_whole b) (whole_lines_of-rest rest parts.1))

lines_of-flat : (whole : List (List ℕ)) (more : List ℕ) → HaveNoFeed whole → lines_of (flat_map with_feed whole ++ more) ≡ whole ++ lines_of more
lines_of-flat [] more lines = refl
lines_of-flat (line ∷ whole) more lines =
    ap lines_of (append_assoc (line ++ 10 ∷ []) (flat_map with_feed whole) more ∙ append_assoc line (10 ∷ []) (flat_map with_feed whole ++ more))
    ∙ lines_of-line line (flat_map with_feed whole ++ more) lines.0
    ∙ ap (λ (ls : List (List ℕ)). line ∷ ls) (lines_of-flat whole more lines.1)

whole_lines_of-flat : (whole : List (List ℕ)) (rest : List ℕ) → HaveNoFeed whole → HasNoFeed rest → whole_lines_of (flat_map with_feed whole ++ rest) ≡ whole
whole_lines_of-flat [] rest lines last = whole_lines_of-rest rest last
whole_lines_of-flat (line ∷ whole) rest lines last =
    ap whole_lines_of (append_assoc (line ++ 10 ∷ []) (flat_map with_feed whole) rest ∙ append_assoc line (10 ∷ []) (flat_map with_feed whole ++ rest))
    ∙ whole_lines_of-line line (flat_map with_feed whole ++ rest) lines.0
    ∙ ap (λ (ls : List (List ℕ)). line ∷ ls) (whole_lines_of-flat whole rest lines.1 last)

-- the lines of an input that has come in part, if it ended now
pub lines_of-parted : (bytes : List ℕ) (whole : List (List ℕ)) (rest : List ℕ) → Parted bytes whole rest → lines_of bytes ≡ whole ++ last_part rest
lines_of-parted bytes whole rest parted =
    ap lines_of parted.is ∙ lines_of-flat whole rest parted.lines
    ∙ ap (λ (ls : List (List ℕ)). whole ++ ls) (lines_of-rest rest parted.open_line)

-- and once more bytes have come
pub lines_of-more : (bytes : List ℕ) (whole : List (List ℕ)) (rest more : List ℕ) → Parted bytes whole rest → lines_of (bytes ++ more) ≡ whole ++ lines_of (rest ++ more)
lines_of-more bytes whole rest more parted =
    ap (λ (bs : List ℕ). lines_of (bs ++ more)) parted.is ∙ ap lines_of (append_assoc (flat_map with_feed whole) rest more)
    ∙ lines_of-flat whole (rest ++ more) parted.lines

-- and its whole lines
pub whole_lines_of-parted : (bytes : List ℕ) (whole : List (List ℕ)) (rest : List ℕ) → Parted bytes whole rest → whole_lines_of bytes ≡ whole
whole_lines_of-parted bytes whole rest parted = ap whole_lines_of parted.is ∙ whole_lines_of-flat whole rest parted.lines parted.open_line

-- a last part is asked exactly where the rest is: an empty one is blank
filter-last_part : (rest : List ℕ) → filter is_asked (last_part rest) ≡ filter is_asked (rest ∷ [])
unfolding last_part
filter-last_part [] = refl
filter-last_part (b ∷ rest) = refl

-- which lines have a reply, if the input ended now
pub asked-parted : (bytes : List ℕ) (whole : List (List ℕ)) (rest : List ℕ) → Parted bytes whole rest → filter is_asked (lines_of bytes) ≡ filter is_asked whole ++ filter is_asked (rest ∷ [])
asked-parted bytes whole rest parted =
    ap (filter is_asked) (lines_of-parted bytes whole rest parted) ∙ filter-append is_asked whole (last_part rest)
    ∙ ap (λ (ls : List (List ℕ)). filter is_asked whole ++ ls) (filter-last_part rest)

-- before the first byte
pub Parted-start : Parted [] [] []
Parted-start = record { is = refl; lines = tt; open_line = refl }

-- more bytes without a line feed
pub Parted-more : (bytes : List ℕ) (whole : List (List ℕ)) (rest piece : List ℕ) → Parted bytes whole rest → HasNoFeed piece → Parted (bytes ++ piece) whole (rest ++ piece)
Parted-more bytes whole rest piece parted h =
    record {
      is = ap (λ (bs : List ℕ). bs ++ piece) parted.is ∙ append_assoc (flat_map with_feed whole) rest piece;
      lines = parted.lines;
      open_line = HasNoFeed-append rest piece parted.open_line h;
    }

HaveNoFeed-append : (whole : List (List ℕ)) (line : List ℕ) → HaveNoFeed whole → HasNoFeed line → HaveNoFeed (whole ++ line ∷ [])
HaveNoFeed-append [] line p h = (h, tt)
HaveNoFeed-append (first ∷ whole) line p h = (p.0, HaveNoFeed-append whole line p.1 h)

-- a line feed
pub Parted-feed : (bytes : List ℕ) (whole : List (List ℕ)) (rest : List ℕ) → Parted bytes whole rest → Parted (bytes ++ 10 ∷ []) (whole ++ rest ∷ []) []
Parted-feed bytes whole rest parted =
    record {
      is =
          ap (λ (bs : List ℕ). bs ++ 10 ∷ []) parted.is ∙ append_assoc (flat_map with_feed whole) rest (10 ∷ [])
          ∙ sym (flat_map-append with_feed whole (rest ∷ []) ∙ ap (λ (bs : List ℕ). flat_map with_feed whole ++ bs) (append-nil (rest ++ 10 ∷ [])))
          ∙ sym (append-nil (flat_map with_feed (whole ++ rest ∷ [])));
      lines = HaveNoFeed-append whole rest parted.lines parted.open_line;
      open_line = refl;
    }
