-- The code of a head is a code.
use Rattle.std.proofs.Common.{◌≡◌, ℕ, true, List, [], Option, sym, ap, ◌∙◌, subst}
use Rattle.std.specs.Prelude.{unwrap_or}
use Rattle.std.specs.List.{list_all}
use Rattle.std.specs.Option.{option_map}
use Rattle.stock_nums.specs.Codes.{is_code_byte}
use Rattle.stock_nums.specs.declared.head.Head.{Head}
use Rattle.stock_model.specs.Masters.{head_code}
use Rattle.valuation_report.proofs.HeadSearch.{code_of-plain}
use Rattle.valuation_report.proofs.code_texts.code_text.Goals as goal

pub returns-in-Some-clause-plain : goal.returns-in-Some-clause-plain
returns-in-Some-clause-plain c =
    subst (λ (bytes : List ℕ). list_all is_code_byte bytes ≡ true)
    (sym (c.text.ensures ∙ ap (λ (found : Option Head). unwrap_or (option_map head_code found) []) c.in-Some.ensures))
    (code_of-plain c.args.number c.args.heads.now c.requires.named)
