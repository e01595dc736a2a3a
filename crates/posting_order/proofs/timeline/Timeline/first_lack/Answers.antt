-- The changes of the key are those of its movements.
use Rattle.std.proofs.Common.{◌≡◌, Some, ap, ◌∙◌, to_z-of_z, w64}
use Rattle.key_order.specs.Changes.{changes_of, first_lack}
use Rattle.posting_order.specs.State.{TimelineState}
use Rattle.posting_order.proofs.KeyQueries.{first_lack-change}
use Rattle.posting_order.proofs.timeline.Timeline.first_lack.Goals as goal

pub returns : goal.returns
returns c =
    let told : c.self.inside.line.entries ≡ c.args.self.now.entries = ap (λ (s : TimelineState). s.entries) c.self.view_is in
    c.first_lack.ensures
    ∙ ap (first_lack c.self.inside.keys.changes c.args.key (Some c.args.from.now) c.args.end) (to_z-of_z {w = w64} {z = c.args.more} c.ranges.more)
    ∙ first_lack-change c.self.inside.line.entries c.self.inside.keys.changes c.args.key (Some c.args.from.now) c.args.end c.args.more c.self.invariant.same
    ∙ ap (λ es. first_lack (changes_of es) c.args.key (Some c.args.from.now) c.args.end c.args.more) told
