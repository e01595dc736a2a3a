-- What was added to a text piece by piece.
use Rattle.std.proofs.Common.{◌≡◌, ℕ, List, [], ◌++◌, ap, ◌∙◌, append_assoc}
use Rattle.std.proofs.lemmas.List.{append-nil}

-- two pieces with one added to them, after a text
pub added-two : (text front middle back one two : List ℕ) → one ≡ (text ++ front) ++ middle → two ≡ one ++ back
    → two ≡ text ++ ((front ++ middle) ++ back)
added-two text front middle back one two is_one is_two =
    is_two ∙ ap (λ (t : List ℕ). t ++ back) is_one ∙ ap (λ (t : List ℕ). t ++ back) (append_assoc text front middle)
    ∙ append_assoc text (front ++ middle) back

-- the same, one after another
pub added-three : (text front middle back one two three : List ℕ) → one ≡ text ++ front → two ≡ one ++ middle → three ≡ two ++ back
    → three ≡ text ++ ((front ++ middle) ++ back)
added-three text front middle back one two three is_one is_two is_three =
    added-two text front middle back two three (is_two ∙ ap (λ (t : List ℕ). t ++ middle) is_one) is_three

-- a piece after nothing, and what comes then
pub added-first : (text piece more one two : List ℕ) → one ≡ (text ++ []) ++ piece → two ≡ one ++ more → two ≡ text ++ (piece ++ more)
added-first text piece more one two is_one is_two =
    is_two ∙ ap (λ (t : List ℕ). t ++ more) is_one ∙ ap (λ (t : List ℕ). (t ++ piece) ++ more) (append-nil text) ∙ append_assoc text piece more
