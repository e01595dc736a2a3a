-- The returns of a line among movements of which more are put in.
use Rattle.std.proofs.Common.{Bool, true, false, cond, List, [], ◌∷◌, ◌++◌, filter, sym, ap, ◌∙◌, subst, append_assoc}
use Rattle.std.specs.List.Sorted.{IsPermutation}
use Rattle.std.proofs.lemmas.List.{append-nil}
use Rattle.std.proofs.lemmas.List.Elements.{filter-append}
use Rattle.std.proofs.lemmas.List.Sorted.{IsPermutation-refl, IsPermutation-sym, IsPermutation-trans, IsPermutation-cons, IsPermutation-middle}
use Rattle.stock_nums.specs.Places.{is_before}
use Rattle.stock_nums.specs.declared.entry.Entry.{Entry}
use Rattle.stock_model.specs.PostingOrder.{put, put_all}

-- those that pass a test, with one more movement: the one is somewhere among them if it passes
filter-put : (test : Entry → Bool) (line : List Entry) (e : Entry) → IsPermutation (filter test (e ∷ line)) (filter test (put line e))
filter-put test [] e = IsPermutation-refl (filter test (e ∷ []))
filter-put test (f ∷ line) e = by_cases (is_before e.place f.place) (filter-put test line e)
  where
    behind : (a b : Bool) (rest others : List Entry) → IsPermutation (cond a (e ∷ rest) rest) others
        → IsPermutation (cond a (e ∷ cond b (f ∷ rest) rest) (cond b (f ∷ rest) rest)) (cond b (f ∷ others) others)
    behind true true rest others h =
        IsPermutation-trans (e ∷ f ∷ rest) (f ∷ e ∷ rest) (f ∷ others)
        (IsPermutation-sym (f ∷ e ∷ rest) (e ∷ f ∷ rest) (IsPermutation-middle (f ∷ []) e rest))
        (IsPermutation-cons f (e ∷ rest) others h)
    behind true false rest others h = h
    behind false true rest others h = IsPermutation-cons f rest others h
    behind false false rest others h = h

    by_cases : (b : Bool) → IsPermutation (filter test (e ∷ line)) (filter test (put line e))
        → IsPermutation (filter test (e ∷ f ∷ line)) (filter test (cond b (e ∷ f ∷ line) (f ∷ put line e)))
    by_cases true h = IsPermutation-refl (filter test (e ∷ f ∷ line))
    by_cases false h = behind (test e) (test f) (filter test line) (filter test (put line e)) h

-- returns that were added at the end are those among the movements with these put in
pub returns-put_all : (test : Entry → Bool) (line es found : List Entry) → IsPermutation found (filter test line)
    → IsPermutation (found ++ filter test es) (filter test (put_all line es))
returns-put_all test line [] found h = subst (λ (l : List Entry). IsPermutation l (filter test line)) (sym (append-nil found)) h
returns-put_all test line (e ∷ es) found h =
    let next = returns-put_all test (put line e) es (found ++ filter test (e ∷ []))
    (IsPermutation-trans (found ++ filter test (e ∷ [])) (filter test (e ∷ line)) (filter test (put line e)) (one (test e)) (filter-put test line e)) in
    subst (λ (l : List Entry). IsPermutation l (filter test (put_all (put line e) es)))
    (append_assoc found (filter test (e ∷ [])) (filter test es) ∙ ap (λ (l : List Entry). found ++ l) (sym (filter-append test (e ∷ []) es))) next
  where
    one : (b : Bool) → IsPermutation (found ++ cond b (e ∷ []) []) (cond b (e ∷ filter test line) (filter test line))
    one true =
        IsPermutation-trans (found ++ e ∷ []) (e ∷ (found ++ [])) (e ∷ filter test line) (IsPermutation-middle found e [])
        (IsPermutation-cons e (found ++ []) (filter test line) (subst (λ (l : List Entry). IsPermutation l (filter test line)) (sym (append-nil found)) h))
    one false = subst (λ (l : List Entry). IsPermutation l (filter test line)) (sym (append-nil found)) h
