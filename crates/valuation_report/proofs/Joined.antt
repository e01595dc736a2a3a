-- Texts that grow by one piece after another.
use Rattle.std.proofs.Common.{◌≡◌, ℕ, List, ◌++◌, ap, ◌∙◌, append_assoc}
use Rattle.valuation_report.specs.Adding.{Adds}

-- two pieces are one
pub joined : {t u v a b : List ℕ} → Adds t u a → Adds u v b → Adds t v (a ++ b)
joined {t} {u} {v} {a} {b} first second =
    record { is = second.is ∙ ap (λ (text : List ℕ). text ++ b) first.is ∙ append_assoc t a b }

-- a piece by another name
pub renamed : {t u a b : List ℕ} → Adds t u a → a ≡ b → Adds t u b
renamed {t} added is = record { is = added.is ∙ ap (λ (piece : List ℕ). t ++ piece) is }
