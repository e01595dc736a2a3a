-- The bytes that wait are moved to the front, and the piece comes behind them.
use Rattle.std.proofs.Common.{◌≡◌, ℕ, List, length, slice_range, arith, refl, ◌∙◌, ap}
use Rattle.desk_wire.proofs.InboxLemmas.{piece_taken, none_taken, written_again}
use Rattle.desk_wire.proofs.inbox.Inbox.take_piece.Goals as goal

pub returns-clause-takes_in : goal.returns-clause-takes_in
returns-clause-takes_in g c =
    let kept = c.self.invariant in
    let read = c.in_ok-n.ensures in
    let len : length c.move_to_front.new.buffer ≡ c.self.inside.buffer.len = omega (arith, c.as_mut_slice.ensures.len) in
    let again = written_again c.self.inside.buffer.items c.move_to_front.new.buffer c.as_mut_slice-2.result.now c.self.inside.buffer.len len c.as_mut_slice-2.ensures.value in
    let read_len : length c.read_at.new.buffer ≡ c.self.inside.buffer.len = omega (arith, c.as_mut_slice-2.ensures.len) in
    piece_taken g.S.Source.left g.S.Source.taken c.args.self.now c.args.source.now c.read_at.new.source
    c.self.inside.buffer.items c.move_to_front.new.buffer c.as_mut_slice-2.result.now c.read_at.new.buffer _
    c.self.inside.start c.self.inside.end c.in_ok-n.n c.self.inside.spare
    c.self.view_is
    (c.move_to_front.ensures ∙ ap (λ (l : List ℕ). slice_range l c.self.inside.start c.self.inside.end) c.as_mut_slice.ensures.value)
    again read.before (omega (arith, read.bound, c.min-most.ensures)) (omega (arith, read.bound, c.min-most.ensures)) read.bytes read.count
    (written_again _ c.read_at.new.buffer _ c.self.inside.buffer.len read_len refl)

pub returns-in_err-n-clause-takes_in : goal.returns-in_err-n-clause-takes_in
returns-in_err-n-clause-takes_in g c =
    let kept = c.self.invariant in
    let read = c.in_err-n.ensures in
    let len : length c.move_to_front.new.buffer ≡ c.self.inside.buffer.len = omega (arith, c.as_mut_slice.ensures.len) in
    let again = written_again c.self.inside.buffer.items c.move_to_front.new.buffer c.as_mut_slice-2.result.now c.self.inside.buffer.len len c.as_mut_slice-2.ensures.value in
    let read_len : length c.read_at.new.buffer ≡ c.self.inside.buffer.len = omega (arith, c.as_mut_slice-2.ensures.len) in
    none_taken g.S.Source.left g.S.Source.taken c.args.self.now c.args.source.now c.read_at.new.source
    c.self.inside.buffer.items c.move_to_front.new.buffer c.as_mut_slice-2.result.now c.read_at.new.buffer _
    c.self.inside.start c.self.inside.end c.self.inside.spare
    c.self.view_is
    (c.move_to_front.ensures ∙ ap (λ (l : List ℕ). slice_range l c.self.inside.start c.self.inside.end) c.as_mut_slice.ensures.value)
    again read.before read.left_kept read.taken_kept
    (written_again _ c.read_at.new.buffer _ c.self.inside.buffer.len read_len refl)
