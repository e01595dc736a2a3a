-- The movement goes in after all those that do not come after it.
use Rattle.std.proofs.Common.{◌≡◌, List, None, sym, ap, ◌∙◌, subst}
use Rattle.stock_nums.specs.declared.entry.Entry.{Entry}
use Rattle.stock_model.specs.InOrder.{IsInPostingOrder}
use Rattle.stock_model.specs.PostingOrder.{put}
use Rattle.posting_order.specs.State.{TimelineState}
use Rattle.posting_order.specs.Timelines.{entry_at}
use Rattle.posting_order.proofs.Places.{put-sides, IsInPostingOrder-put}
use Rattle.posting_order.proofs.entry_line.EntryLine.insert.Goals as goal

pub invariant_of-self : goal.invariant_of-self
invariant_of-self c =
    let inside = c.self.inside.list.items in
    let e = c.args.entry in
    let told : inside ≡ c.args.self.now.entries = ap (λ (s : TimelineState). s.entries) c.self.view_is in
    let made = put-sides inside c.insert_before.new.self.items e c.self.invariant c.insert_before.ensures.items in
    let none : entry_at inside e.place ≡ None = ap (λ (es : List Entry). entry_at es e.place) told ∙ c.requires.apart in
    subst IsInPostingOrder (sym made) (IsInPostingOrder-put inside e c.self.invariant none)

pub returns-clause-put : goal.returns-clause-put
returns-clause-put c =
    let inside = c.self.inside.list.items in
    let told : inside ≡ c.args.self.now.entries = ap (λ (s : TimelineState). s.entries) c.self.view_is in
    put-sides inside c.insert_before.new.self.items c.args.entry c.self.invariant c.insert_before.ensures.items ∙ ap (λ (es : List Entry). put es c.args.entry) told

pub returns-clause-in_order : goal.returns-clause-in_order
returns-clause-in_order c = invariant_of-self c
