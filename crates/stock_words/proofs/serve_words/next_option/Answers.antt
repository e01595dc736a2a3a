-- The words begin with their first one.
use Rattle.std.proofs.Common.{◌≡◌, ◌∷◌, ℕ, List, map, string_bytes, sym, ap, ◌∙◌, subst}
use Rattle.std.specs.Prelude.{MatchOption}
use Rattle.stock_words.specs.ServeWords.{BeginsWithNone, BeginsWithSetting}
use Rattle.stock_words.proofs.serve_words.next_option.Goals as goal

pub returns : goal.returns
returns c =
    let words : map string_bytes c.args.words.now ≡ c.as_str.result.now ∷ map string_bytes c.in-Some.behind.now =
    ap (map string_bytes) c.in-Some.ensures.cases.0
    ∙ ap (λ (word : List ℕ). word ∷ map string_bytes c.in-Some.behind.now) (sym c.as_str.ensures.value)
    in
    subst (λ (ws : List (List ℕ)). MatchOption c.any_option.result (BeginsWithNone ws)
    (λ next. BeginsWithSetting ws (next.name, next.value.now) (map string_bytes next.behind.now))) (sym words) c.any_option.ensures
