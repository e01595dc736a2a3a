-- What stands elsewhere is kept.
use Rattle.std.proofs.Common.{◌≡◌, filter, rules}
use Rattle.std.proofs.lemmas.Fn.{filter_same}
use Rattle.std.specs.Vec.{vec_items}
use Rattle.cost_links.specs.Sources.{is_elsewhere}
use Rattle.cost_links.proofs.returns.Returns.take_out.Goals as goal

pub returns-in-Some-clause-own : goal.returns-in-Some-clause-own
returns-in-Some-clause-own c =
    let kept : vec_items c.retain.new.self ≡ filter (is_elsewhere c.args.place.now) (vec_items c.in-Some.entries.now) =
    filter_same _ _ _ (λ x b f' k. search rules) _ _ c.retain.ensures.filtered in
    search rules
