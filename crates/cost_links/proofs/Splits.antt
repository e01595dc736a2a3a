-- The movements of a line, valued one after another.
use Rattle.std.proofs.Common.{◌≡◌, ℕ, suc, ◌+◌, ◌<◌, List, ◌∷◌, ◌++◌, length, take, drop, get_or, sym, ap, ◌∙◌, drop-cons, arith}
use Rattle.std.proofs.lemmas.List.{take-append-drop}
use Rattle.stock_nums.specs.declared.entry.Entry.{Entry}

-- a line parts at the movement at an index
pub line-parts : (line : List Entry) (i : ℕ) (e : Entry) → i < length line → e ≡ get_or line i e → line ≡ take i line ++ e ∷ drop (i + 1) line
line-parts line i e within is =
    let one_more : suc i ≡ i + 1 = omega arith in
    let rest : drop i line ≡ e ∷ drop (i + 1) line = drop-cons line i e within ∙ ap (λ (f : Entry). f ∷ drop (suc i) line) (sym is) ∙ ap (λ (k : ℕ). e ∷ drop k line) one_more in
    sym (take-append-drop i line) ∙ ap (λ (es : List Entry). take i line ++ es) rest
