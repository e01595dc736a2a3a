-- The number's word stands in the rows of what was found.
use Rattle.std.proofs.Common.{◌≡◌, Some, sym, ◌∙◌, subst, codes}
use Rattle.clap.specs.Words.{found_of}
use Rattle.clap.proofs.WalkLemmas.{first_value-rows}
use Rattle.stock_words.specs.Words.{IsNoCount}
use Rattle.stock_words.proofs.commands.load_asked.Goals as goal

pub returns-in_err-get_str : goal.returns-in_err-get_str
returns-in_err-get_str c =
    let none = c.in_err-get_str.ensures ∙ first_value-rows (found_of c.args.load.now) (codes "count") in
    rw c.from_residual.ensures (λ word some. absurd (cc (none, some)))

pub returns-in_err-count : goal.returns-in_err-count
returns-in_err-count c =
    let found = c.in_ok-get_str.ensures ∙ first_value-rows (found_of c.args.load.now) (codes "count") in
    let no_count = c.in_err-count.ensures in
    rw c.from_residual-in_err-count.ensures
    (λ word some. let both : Some c.in_ok-get_str.field-0.now ≡ Some word = found ∙ some in
    let is : c.in_ok-get_str.field-0.now ≡ word = cc in subst IsNoCount is no_count)

pub returns : goal.returns
returns c = (
  c.in_ok-get_str.field-0.now,
  sym (c.in_ok-get_str.ensures ∙ first_value-rows (found_of c.args.load.now) (codes "count")),
  c.in_ok-count.ensures,
)
