-- The first number stands after nothing.
use Rattle.std.proofs.Common.{ℤ, List, ◌++◌, sym, ap, ◌∙◌}
use Rattle.std.proofs.lemmas.Result.{on_ok_weaker}
use Rattle.std.specs.Fmt.{signed_decimal}
use Rattle.std.specs.List.{flat_map}
use Rattle.sheet_io.specs.Lines.{further_number, numbers_text}
use Rattle.sheet_io.proofs.Added.{added-first}
use Rattle.sheet_io.proofs.lines.push_numbers.Goals as goal

pub returns : goal.returns
returns c =
    let text = c.args.text.now.items in
    on_ok_weaker c.push_further.result
    (λ e. added-first text (signed_decimal c.in-Some.first.now) (flat_map further_number c.in-Some.rest.now) c.push_difference.new.text.items
    c.push_further.new.text.items c.in_ok-push_difference.ensures e
    ∙ ap (λ (numbers : List ℤ). text ++ numbers_text numbers) (sym c.in-Some.ensures.cases.0)) c.push_further.ensures
