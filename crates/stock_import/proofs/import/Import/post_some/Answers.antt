-- One voucher is all of a list of one.
use Rattle.std.proofs.Common.{Bool, Option, sym, subst}
use Rattle.std.specs.Prelude.{IfOk, option_to_list}
use Rattle.std.proofs.lemmas.Result.{IfOk-weaker}
use Rattle.stock_model.specs.declared.vouchers.What.{What}
use Rattle.stock_import.specs.Steps.{AddsPosts}
use Rattle.stock_import.proofs.Posts.{adds-one}
use Rattle.stock_import.proofs.import.Import.post_some.Goals as goal

pub returns-in-Some-clause-posted : goal.returns-in-Some-clause-posted
returns-in-Some-clause-posted g c =
    let old = c.args.self.now in
    let new = c.post.new.self in
    subst (λ (some : Option What). IfOk c.post.result (λ (accepted : Bool). AddsPosts old.book (option_to_list some) old.waiting.items
    new.waiting.items new.book accepted)) (sym c.in-Some.is)
    (IfOk-weaker c.post.result _ _
    (λ accepted posted. adds-one old.book c.in-Some.what old.waiting.items new.waiting.items new.book accepted posted) c.post.ensures.posted)
