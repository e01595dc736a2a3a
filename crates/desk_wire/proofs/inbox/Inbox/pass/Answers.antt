-- The bytes that wait without the first ones.
use Rattle.std.proofs.Common.{◌≡◌, ◌≤◌, ◌-◌, ◌∙◌, ap, List, ℕ, length, drop, slice_range, arith, length-take}
use Rattle.desk_wire.specs.Waiting.{Waiting, after_passing}
use Rattle.desk_wire.proofs.InboxLemmas.{slice_range-later}
use Rattle.desk_wire.proofs.inbox.Inbox.pass.Goals as goal

pub returns : goal.returns
returns c =
    let inside = c.self.inside in
    let shown : length (slice_range inside.buffer.items inside.start inside.end) ≡ length c.args.self.now.bytes =
    ap (λ (waits : Waiting). length waits.bytes) c.self.view_is in
    let within : c.args.count ≤ inside.end - inside.start =
    omega (arith, shown, length-take (inside.end - inside.start) (drop inside.start inside.buffer.items)) in
    let waiting : List ℕ → Waiting = λ bytes. record { bytes = bytes; spare = inside.spare } in
    ap waiting (slice_range-later inside.buffer.items inside.start inside.end c.args.count within)
    ∙ ap (λ (waits : Waiting). after_passing waits c.args.count) c.self.view_is
