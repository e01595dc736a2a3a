-- The movements that come have places of their own, also where some go, and none of those that are left takes more than there is.
use Rattle.std.proofs.Common.{◌≡◌, ◌++◌, List, length, sym, ap, ◌∙◌, subst, arith}
use Rattle.stock_nums.specs.declared.entry.Entry.{Entry}
use Rattle.stock_model.specs.Enough.{IsEnough}
use Rattle.stock_model.specs.InOrder.{IsInPostingOrder}
use Rattle.stock_model.specs.PostingOrder.{put_all}
use Rattle.quantity_check.specs.ChangedLines.{line_without, changed_line}
use Rattle.quantity_check.specs.OwnPlaces.{HaveOwnPlaces}
use Rattle.quantity_check.specs.State.{RunningState}
use Rattle.quantity_check.proofs.OwnPlaceLemmas.{IsInPostingOrder-put_all}
use Rattle.quantity_check.proofs.SplitLines.{IsInPostingOrder-line_without, HaveOwnPlaces-line_without, length-line_without}
use Rattle.quantity_check.proofs.running.Running.change.Goals as goal

pub insert_all-requires-clause-apart : goal.insert_all-requires-clause-apart
insert_all-requires-clause-apart c =
    let told : c.self.inside.line.entries ≡ c.args.self.now.entries = ap (λ (s : RunningState). s.entries) c.self.view_is in
    let adds = c.args.adds.now in
    let apart = subst (λ (line : List Entry). HaveOwnPlaces (line ++ adds)) (sym told) c.requires.apart in
    subst (λ (line : List Entry). HaveOwnPlaces (line ++ adds)) (sym c.remove_all.ensures.left)
    (HaveOwnPlaces-line_without c.self.inside.line.entries c.args.gone.now adds apart)

pub insert_all-requires-clause-few : goal.insert_all-requires-clause-few
insert_all-requires-clause-few c =
    let told : length c.self.inside.line.entries ≡ length c.args.self.now.entries = ap (λ (s : RunningState). length s.entries) c.self.view_is in
    omega (arith, c.requires.few, told, ap length c.remove_all.ensures.left, length-line_without c.self.inside.line.entries c.args.gone.now)

pub invariant_of-self : goal.invariant_of-self
invariant_of-self c =
    let told : c.self.inside.line.entries ≡ c.args.self.now.entries = ap (λ (s : RunningState). s.entries) c.self.view_is in
    let line = c.self.inside.line.entries in
    let adds = c.args.adds.now in
    let gone = c.args.gone.now in
    let changed : c.insert_all.new.line.entries ≡ changed_line line adds gone =
    c.insert_all.ensures.added ∙ ap (λ (left : List Entry). put_all left adds) c.remove_all.ensures.left in
    let apart = subst (λ (l : List Entry). HaveOwnPlaces (l ++ adds)) (sym told) c.requires.apart in
    record {
      in_order = subst IsInPostingOrder (sym changed)
          (IsInPostingOrder-put_all (line_without line gone) adds (IsInPostingOrder-line_without line gone c.self.invariant.in_order) (HaveOwnPlaces-line_without line gone adds apart));
      enough = subst IsEnough (sym changed) (subst (λ (l : List Entry). IsEnough (changed_line l adds gone)) (sym told) c.requires.enough);
    }
