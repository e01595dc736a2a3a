-- The words are the command and the words behind it.
use Rattle.std.proofs.Common.{◌≡◌, ◌↔◌, ◌∷◌, ℕ, List, IsTrue, map, string_bytes, sym, ap, ◌∙◌, subst}
use Rattle.stock_words.specs.Words.{SpellsNoServe}
use Rattle.stock_words.proofs.words.is_no_serve.Goals as goal

pub returns : goal.returns
returns c =
    let words : map string_bytes c.args.words.now ≡ c.as_str.result.now ∷ map string_bytes c.in-Some.options.now =
    ap (map string_bytes) c.in-Some.ensures.cases.0
    ∙ ap (λ (word : List ℕ). word ∷ map string_bytes c.in-Some.options.now) (sym c.as_str.ensures.value)
    in
    subst (λ (ws : List (List ℕ)). IsTrue c.is_no_serve_after.result ↔ SpellsNoServe ws) (sym words) c.is_no_serve_after.ensures
