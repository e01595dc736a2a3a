-- The first movements are copied, and fewer and fewer are left.
use Rattle.std.proofs.Common.{◌≡◌, ◌≤◌, ◌-◌, length, take}
use Rattle.posting_order.proofs.entry_line.EntryLine.to_lines.Given as goal

abbrev pub invariant-loop-self : goal.invariant-loop-self
invariant-loop-self l = (l.all.items ≡ take (length l.all.items) l.self.entries) × (length l.all.items ≤ length l.self.entries)

abbrev pub decreases-loop-self : goal.decreases-loop-self
decreases-loop-self l = length l.self.entries - length l.all.items
