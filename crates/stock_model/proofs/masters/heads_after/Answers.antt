-- What was found is all that the later records make, after what the first ones make.
use Rattle.std.proofs.Common.{◌≡◌, ◌+◌, ◌-◌, ◌++◌, List, [], take, drop, length, ap, sym, ◌∙◌, arith, take-append-drop, length-take}
use Rattle.std.proofs.lemmas.List.{append-nil, drop_all, take_all, length-drop}
use Rattle.stock_nums.specs.declared.head.Head.{Head}
use Rattle.stock_model.specs.declared.records.Record.{Record}
use Rattle.stock_model.specs.Masters.{heads}
use Rattle.stock_model.proofs.HeadCodes.{heads_from, heads_from-append}
use Rattle.stock_model.proofs.masters.heads_after.Goals as goal

pub returns : goal.returns
returns c =
    let records = c.args.records.now in
    let after = c.args.after in
    let later = drop after records in
    let rest = take (length records - after) later in
    let whole : rest ≡ later = take_all (length records - after) later (omega (arith, length-drop after records)) in
    let none : drop c.loop-i.i rest ≡ [] = drop_all c.loop-i.i rest c.loop-i-test.false in
    let found : c.loop-i.found ≡ heads_from (after + 1) later =
    sym (append-nil c.loop-i.found) ∙ ap (λ (left : List Record). c.loop-i.found ++ heads_from (after + c.loop-i.i + 1) left) (sym none)
    ∙ c.loop-i.invariant ∙ ap (heads_from (after + 1)) whole in
    let first : 1 + length (take after records) ≡ after + 1 = omega (arith, length-take after records, c.requires.within) in
    ap (λ (made : List Head). heads (take after records) ++ made) (found ∙ ap (λ k. heads_from k later) (sym first))
    ∙ sym (heads_from-append 1 (take after records) later)
    ∙ ap heads (take-append-drop after records)
