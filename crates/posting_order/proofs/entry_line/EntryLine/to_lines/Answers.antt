-- Each turn copies those that stand beside the copied ones.
use Rattle.std.proofs.Common.{◌≡◌, ◌<◌, List, length, take, drop, ap, ◌∙◌, subst, arith}
use Rattle.stock_nums.specs.declared.entry.Entry.{Entry}
use Rattle.posting_order.specs.State.{TimelineState}
use Rattle.posting_order.proofs.Places.{copied-more}
use Rattle.posting_order.proofs.entry_line.EntryLine.to_lines.Goals as goal

pub loop-self-preserved : goal.loop-self-preserved
loop-self-preserved c =
    let es = c.args.self.now.entries in
    let all = c.loop-self.all.items in
    let run = c.run_from.result.now in
    let told : c.self.inside.list.items ≡ es = ap (λ (s : TimelineState). s.entries) c.self.view_is in
    let index = c.len-in-loop-self-2.result in
    let beside : run ≡ take (length run) (drop (length all) es) =
    subst (λ (xs : List Entry). run ≡ take (length run) (drop index xs)) told c.run_from.ensures.items ∙ ap (λ n. take (length run) (drop n es)) (c.len-in-loop-self-2.ensures ∙ c.loop-self.all.ok.0) in
    let left : length all < length es = omega (arith, c.loop-self-test.true, c.len.ensures, c.len-in-loop-self.ensures, ap length told) in
    copied-more es all run c.extend_from_slice.new.self.items c.loop-self.invariant.0 left beside c.in_ok-extend_from_slice.ensures.items
