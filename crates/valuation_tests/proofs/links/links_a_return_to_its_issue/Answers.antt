-- Two movements return few units.
use Rattle.std.proofs.Common.{◌∷◌, [], ◌++◌, length, filter, ap, ◌∙◌, arith, List}
use Rattle.stock_nums.specs.declared.entry.Entry.{Entry}
use Rattle.stock_model.specs.Returns.{returns_of}
use Rattle.cost_links.proofs.ReturnSteps.{back-small, filter-short}
use Rattle.valuation_tests.proofs.links.links_a_return_to_its_issue.Goals as goal

pub returned_before-requires : goal.returned_before-requires
returned_before-requires g c =
    let es : List Entry = c.back.result ∷ c.back-2.result ∷ [] in
    back-small c.add.new.self c.back-3.result (λ line.
    let all = ap (λ (fs : List Entry). length fs) (c.in_ok-add.ensures.returns line ∙ ap (λ (fs : List Entry). fs ++ filter (returns_of line) es) (c.new-links.ensures.returns line)) in
    omega (arith, all, filter-short (returns_of line) es))
