-- The first change of the key after the place is that of its first movement after it.
use Rattle.std.proofs.Common.{ap, ◌∙◌, sym, subst}
use Rattle.std.specs.Option.{option_map}
use Rattle.cost_links.specs.Sources.{entry_place}
use Rattle.posting_order.specs.KeyLines.{AreOf}
use Rattle.posting_order.proofs.KeyQueries.{next_place-change}
use Rattle.repost_index.specs.IndexState.{IndexState}
use Rattle.repost_index.proofs.Neighbours.{next-at}
use Rattle.repost_index.proofs.index.Index.next.Goals as goal

pub returns-clause-first : goal.returns-clause-first
returns-clause-first g c =
    let are : AreOf g.line c.self.inside.keys.changes = subst (λ (s : IndexState). AreOf g.line s.keys) (sym c.self.view_is)
    c.requires.keys in
    c.next.ensures ∙ next_place-change g.line c.self.inside.keys.changes c.args.key c.args.place.now are

pub returns-clause-next : goal.returns-clause-next
returns-clause-next g c f own at =
    returns-clause-first g c ∙ ap (option_map entry_place) (next-at g.line c.args.key c.args.place.now f own at)
