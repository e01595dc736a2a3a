-- The lines of answers.
use Rattle.std.specs.Prelude.{ℕ, List, [], ◌∷◌, ◌++◌}
use Rattle.stock_model.specs.declared.answers.Answer.{Answer}
use Rattle.book_answers.specs.Answers.{answer_text}

-- the line of an answer: its text and a line feed
abbrev pub answer_line : Answer → List ℕ
answer_line answer = answer_text answer ++ 10 ∷ []
