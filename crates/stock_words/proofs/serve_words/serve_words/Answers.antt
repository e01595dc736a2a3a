-- The first of the words is the command.
use Rattle.std.proofs.Common.{◌≡◌, ◌∷◌, ℕ, List, map, string_bytes, sym, ap, ◌∙◌, subst, codes}
use Rattle.std.specs.Prelude.{MatchOption}
use Rattle.stock_words.specs.ServeWords.{SpellsServe, SpellsNoService, service_of}
use Rattle.stock_words.proofs.serve_words.serve_words.Goals as goal

pub returns-in-serve : goal.returns-in-serve
returns-in-serve c =
    let words : map string_bytes c.args.words.now ≡ codes "serve" ∷ map string_bytes c.in-Some.options.now =
    ap (map string_bytes) c.in-Some.ensures.cases.0
    ∙ ap (λ (word : List ℕ). word ∷ map string_bytes c.in-Some.options.now) (sym c.as_str.ensures.value ∙ c.in-serve.is)
    in
    subst (λ (ws : List (List ℕ)). MatchOption c.asked_after.result (SpellsNoService ws)
    (λ asked. SpellsServe ws (service_of asked))) (sym words) c.asked_after.ensures
