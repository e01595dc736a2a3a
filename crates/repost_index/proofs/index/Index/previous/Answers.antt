-- The change before is that of the last earlier movement.
use Rattle.std.proofs.Common.{ap, ◌∙◌, sym, subst}
use Rattle.stock_nums.specs.declared.entry.Key.{Key}
use Rattle.key_order.specs.Changes.{previous_change}
use Rattle.posting_order.specs.KeyLines.{AreOf}
use Rattle.repost_index.specs.IndexState.{IndexState}
use Rattle.repost_index.proofs.Neighbours.{previous-last}
use Rattle.repost_index.proofs.index.Index.previous.Goals as goal

pub returns : goal.returns
returns g c =
    let e = c.args.entry.now in
    let cs = c.self.inside.keys.changes in
    let are : AreOf g.line cs = subst (λ (s : IndexState). AreOf g.line s.keys) (sym c.self.view_is) c.requires.keys in
    c.previous.ensures ∙ ap (λ (k : Key). previous_change cs k e.place) c.key_of.ensures ∙ previous-last g.line cs e are
