-- What is left is the image at the index, and each image has one.
use Rattle.std.proofs.Common.{◌≡◌, ◌<◌, ◌^◌, length, sym, subst, arith, ap}
use Rattle.std.proofs.lemmas.Grind.{common_steps}
use Rattle.stock_keeper.specs.Memory.{MayLeave, image_at}
use Rattle.stock_keeper.proofs.Images.{MayLeave-image_at, index_of}
use Rattle.stock_keeper.proofs.memory_keeper.MemKeeper.crash.Goals as goal

pub returns-clause-one : goal.returns-clause-one
returns-clause-one c =
    let left : c.of.result.tables ≡ image_at c.args.self c.args.pick = grind (arith, common_steps) in
    subst (MayLeave c.args.self) (sym left) (MayLeave-image_at c.args.self c.args.pick)

pub returns-clause-every : goal.returns-clause-every
returns-clause-every c t may =
    let at = index_of c.args.self t may in
    let few : length c.self.inside.images.items < 2 ^ 63 = omega arith in
    let same : length c.args.self.images ≡ length c.self.inside.images.items = ap length (ap (λ k. k.images) (sym c.self.view_is)) in
    (at.0, omega (arith, at.1, few, same), at.2)
