-- None is suspect exactly where no first one is.
use Rattle.std.proofs.Common.{◌≡◌, ◌↔◌, ◌∙◌, Bool, false, Option, Some, None, Bor, refl, sym, subst}
use Rattle.std.specs.Option.{is_some, option_copied}
use Rattle.stock_model.specs.PostingOrder.{posting_line}
use Rattle.repost_frontier.specs.declared.slot.Slot.{Slot}
use Rattle.repost_laws.specs.Builds.{IsClean}
use Rattle.repost_build.specs.Readings.{suspects_in}
use Rattle.repost_build.proofs.Givens.{first-tells}
use Rattle.repost_build.proofs.build.Build.has_suspect.Goals as goal

-- a copy is there where the first is
copied-some : (o : Option (Bor Slot)) → is_some (option_copied o) ≡ is_some o
copied-some None = refl
copied-some (Some s) = refl

pub returns : goal.returns
returns g c =
    let clean = IsClean (posting_line g.journal) (suspects_in c.args.self.now) in
    subst (λ (b : Bool). (b ≡ false) ↔ clean) (copied-some c.first.result ∙ sym c.is_some.ensures)
    (first-tells g.journal c.args.self.now c.requires (option_copied c.first.result) c.first.ensures.first)
