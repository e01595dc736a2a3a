-- The four lines of the receipt are as they should be.
use Rattle.std.proofs.Common.{◌++◌, ◌∙◌, codes}
use Rattle.std.proofs.lemmas.Result.{IfOk-weaker}
use Rattle.load_script.specs.LoadScript.{first_receipt}
use Rattle.load_script.proofs.lines.first_receipt.Goals as goal

pub returns : goal.returns
unfolding first_receipt
returns c =
    IfOk-weaker c.format.result _ _
    (λ text is. is
    ∙ (λ i. codes "{\"do\":\"receipt\",\"at\":\"2026-01-01T00:00:00\",\"lines\":[" ++ (c.in_ok-a.ensures i ++ (codes ","
    ++ (c.in_ok-b.ensures i ++ (codes "," ++ (c.in_ok-c.ensures i ++ (codes "," ++ (c.in_ok-d.ensures i ++ codes "]}\n")))))))))
    c.format.ensures.ok
