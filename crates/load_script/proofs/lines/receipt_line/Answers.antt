-- Its moment and its item are as they should be.
use Rattle.std.proofs.Common.{◌+◌, ◌%◌, ◌++◌, ◌∙◌, codes}
use Rattle.std.specs.Prelude.{decimal}
use Rattle.std.proofs.lemmas.Result.{IfOk-weaker}
use Rattle.load_script.proofs.lines.receipt_line.Goals as goal

pub returns : goal.returns
returns c =
    IfOk-weaker c.format.result _ _
    (λ text is. is
    ∙ (λ i. codes "{\"do\":\"receipt\",\"at\":\"" ++ (c.in_ok-moment.ensures i ++ (codes "\",\"lines\":[{\"item\":\"" ++ (c.item_of-item.ensures i
    ++ (codes "\",\"store\":\"S1\",\"qty\":1,\"amount\":" ++ (decimal (c.args.number % 100 + 1) ++ codes "}]}\n")))))))
    c.format.ensures.ok
