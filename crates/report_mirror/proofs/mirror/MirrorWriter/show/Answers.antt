-- What is pending ends with the new generation, which begins with the one that is shown.
use Rattle.std.proofs.Common.{◌≡◌, List, sym, ap, ◌∙◌, subst}
use Rattle.turn_lock.specs.Histories.{BeginsWith}
use Rattle.stock_model.specs.declared.records.Record.{Record}
use Rattle.report_mirror.proofs.Growing.{meets, fold-last}
use Rattle.report_mirror.proofs.mirror.MirrorWriter.show.Goals as goal

pub publish_as-requires : goal.publish_as-requires
publish_as-requires g c next is =
    let shown = c.append.new.self.desk.shown.value in
    let last : next ≡ c.args.next = is ∙ fold-last _ shown _ _ c.in-Ok.next c.in_default-append.ensures.pending ∙ c.in-Ok.ensures.ok in
    let before : shown ≡ c.args.self = ap (λ desk. desk.shown.value) c.in_default-append.ensures.desk ∙ c.self.view_is in
    meets _ _ shown next
    (subst (λ (z : List Record). BeginsWith z shown) (sym last)
    (subst (λ (z : List Record). BeginsWith c.args.next z) (sym before) c.requires))
