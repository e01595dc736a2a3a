-- The command is the word that it was compared with.
use Rattle.std.proofs.Common.{◌↔◌, ℕ, List, ◌∷◌, IsTrue, map, sym, subst, string_bytes}
use Rattle.stock_words.specs.Words.{SpellsNoServe}
use Rattle.stock_words.proofs.words.is_no_serve_after.Goals as goal

pub returns-in-load : goal.returns-in-load
returns-in-load c =
    subst (λ (word : List ℕ). IsTrue c.is_load_count.result ↔ SpellsNoServe (word ∷ map string_bytes c.args.options.now))
    (sym c.in-load.is) c.is_load_count.ensures

pub returns-in-audit : goal.returns-in-audit
returns-in-audit c =
    subst (λ (word : List ℕ). IsTrue c.is_audit_file.result ↔ SpellsNoServe (word ∷ map string_bytes c.args.options.now))
    (sym c.in-audit.is) c.is_audit_file.ensures
