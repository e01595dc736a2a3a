-- The items of the blocks begin with those of the list.
use Rattle.std.proofs.Common.{◌++◌, ap, ◌∙◌}
use Rattle.std.specs.List.{flat_map}
use Rattle.shared_list.proofs.Fronts.{behind_first}
use Rattle.shared_list.proofs.blocks.SharedBlocks.blocks.Goals as goal

pub returns : goal.returns
returns g c =
    let whole = flat_map (λ block. block) c.self.inside.blocks in
    let behind = behind_first c.self.inside.most whole in
    (behind.0, ap (flat_map (λ block. block)) c.as_slice.ensures ∙ behind.1 ∙ ap (λ z. z ++ behind.0) c.self.view_is)
