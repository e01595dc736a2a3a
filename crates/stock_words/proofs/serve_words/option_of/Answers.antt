-- The word is the option's own.
use Rattle.std.proofs.Common.{◌≡◌, ◌∷◌, ℕ, List, map, string_bytes, sym, ◌∙◌, subst}
use Rattle.std.specs.Prelude.{MatchOption}
use Rattle.std.proofs.lemmas.Slice.Eq.{bytes_eq-Decides}
use Rattle.stock_words.specs.ServeWords.{BeginsWithSetting, IsNotFirst, option_text}
use Rattle.stock_words.proofs.serve_words.option_of.Goals as goal

pub returns-then-eq : goal.returns-then-eq
returns-then-eq c =
    let name = c.args.name in
    let own : c.args.word.now ≡ option_text name =
    (bytes_eq-Decides c.args.word.now c.option_text.result.now).0 (sym c.if-eq.ensures) ∙ c.option_text.ensures
    in
    subst (λ (word : List ℕ). MatchOption c.value_word.result (IsNotFirst (word ∷ map string_bytes c.args.behind.now) name)
    (λ next. (next.name ≡ name)
    × BeginsWithSetting (word ∷ map string_bytes c.args.behind.now) (name, next.value.now) (map string_bytes next.behind.now)))
    (sym own) c.value_word.ensures
