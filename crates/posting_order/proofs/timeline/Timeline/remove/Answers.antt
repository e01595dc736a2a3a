-- What a movement changed goes out with it.
use Rattle.std.proofs.Common.{◌≡◌, List, Some, None, sym, ap, ◌∙◌, subst}
use Rattle.stock_nums.specs.declared.entry.Entry.{Entry}
use Rattle.stock_model.specs.Enough.{entry_key}
use Rattle.posting_order.specs.KeyLines.{AreOf}
use Rattle.key_order.specs.KeyOrders.{without_change}
use Rattle.posting_order.specs.Timelines.{is_at, entry_at}
use Rattle.key_order.specs.declared.change.Change.{Change}
use Rattle.posting_order.proofs.KeyLines.{AreOf-without}
use Rattle.posting_order.proofs.Parting.{Fails-from_none}
use Rattle.posting_order.proofs.Places.{kept_apart}
use Rattle.posting_order.proofs.timeline.Timeline.remove.Goals as goal

pub invariant_of-self : goal.invariant_of-self
invariant_of-self c =
    let es = c.self.inside.line.entries in
    let cs = c.self.inside.keys.changes in
    let place = c.args.place.now in
    let e = c.in-Some.entry in
    let found : entry_at es place ≡ Some e = sym c.remove-taken.ensures.taken ∙ c.in-Some.is in
    let left : c.remove.new.self.changes ≡ without_change cs (entry_key e) place = c.remove.ensures.rest ∙ ap (λ (d : Change). without_change cs d.key place) c.of.ensures in
    let both = AreOf-without es cs place e c.self.invariant.in_order c.self.invariant.same found in
    record {
      in_order = c.remove-taken.ensures.in_order;
      same = subst (AreOf c.remove-taken.new.self.entries) (sym left) (subst (λ (fs : List Entry). AreOf fs (without_change cs (entry_key e) place)) (sym c.remove-taken.ensures.rest) both);
    }

pub invariant_of-self-in_default : goal.invariant_of-self-in_default
invariant_of-self-in_default c =
    let es = c.self.inside.line.entries in
    let place = c.args.place.now in
    let none : entry_at es place ≡ None = sym c.remove-taken.ensures.taken ∙ c.in_default.is in
    let kept : c.remove-taken.new.self.entries ≡ es = c.remove-taken.ensures.rest ∙ kept_apart place es (Fails-from_none (is_at place) es none) in
    record {
      in_order = c.remove-taken.ensures.in_order;
      same = subst (λ (fs : List Entry). AreOf fs c.self.inside.keys.changes) (sym kept) c.self.invariant.same;
    }
