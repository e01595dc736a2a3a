-- What the movement changes goes in where the movement goes in.
use Rattle.std.proofs.Common.{◌≡◌, List, length, None, sym, ap, ◌∙◌, subst, arith}
use Rattle.stock_nums.specs.declared.entry.Entry.{Entry}
use Rattle.key_order.specs.Changes.{change_of}
use Rattle.posting_order.specs.KeyLines.{AreOf}
use Rattle.key_order.specs.KeyOrders.{HasNoneAt, put_change}
use Rattle.posting_order.specs.State.{TimelineState}
use Rattle.posting_order.specs.Timelines.{entry_at}
use Rattle.key_order.specs.declared.change.Change.{Change}
use Rattle.posting_order.proofs.KeyLines.{AreOf-length, AreOf-put, HasNoneAt-from_none}
use Rattle.posting_order.proofs.timeline.Timeline.insert.Goals as goal

pub insert-requires-clause-few : goal.insert-requires-clause-few
insert-requires-clause-few c =
    let told : c.self.inside.line.entries ≡ c.args.self.now.entries = ap (λ (s : TimelineState). s.entries) c.self.view_is in
    omega (arith, AreOf-length c.self.inside.line.entries c.self.inside.keys.changes c.self.invariant.same, ap length told, c.requires.few)

pub insert-requires-clause-apart : goal.insert-requires-clause-apart
insert-requires-clause-apart c =
    let es = c.self.inside.line.entries in
    let cs = c.self.inside.keys.changes in
    let told : es ≡ c.args.self.now.entries = ap (λ (s : TimelineState). s.entries) c.self.view_is in
    let none : entry_at es c.args.entry.place ≡ None = ap (λ (fs : List Entry). entry_at fs c.args.entry.place) told ∙ c.requires.apart in
    subst (λ (d : Change). HasNoneAt cs d.key d.place) (sym c.of.ensures) (HasNoneAt-from_none es cs c.args.entry c.self.invariant.same none)

pub invariant_of-self : goal.invariant_of-self
invariant_of-self c =
    let es = c.self.inside.line.entries in
    let cs = c.self.inside.keys.changes in
    let put_in : c.insert.new.self.changes ≡ put_change cs (change_of c.args.entry) = c.insert.ensures.put ∙ ap (put_change cs) c.of.ensures in
    let both = AreOf-put es cs c.args.entry c.self.invariant.in_order c.insert.ensures.in_order c.self.invariant.same in
    record {
      in_order = c.insert-2.ensures.in_order;
      same = subst (AreOf c.insert-2.new.self.entries) (sym put_in) (subst (λ (fs : List Entry). AreOf fs (put_change cs (change_of c.args.entry))) (sym c.insert-2.ensures.put) both);
    }
