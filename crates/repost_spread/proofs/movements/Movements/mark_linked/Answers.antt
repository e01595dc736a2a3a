-- What leaves is linked to what enters by its line later, and to what comes back later.
use Rattle.std.proofs.Common.{true, false, inl, inr, refl, sym, ◌∙◌, ◌⊎◌}
use Rattle.std.proofs.lemmas.Bool.{false≢true}
use Rattle.repost_laws.specs.Looks.{IsLinkedTo}
use Rattle.repost_spread.specs.Spreads.{EntersLaterBy, ComesBackLater}
use Rattle.repost_spread.proofs.TouchingLines.{is-leaving}
use Rattle.repost_spread.proofs.TouchingMarks.{unmarked, marked-as, marked-then}
use Rattle.repost_spread.proofs.movements.Movements.mark_linked.Goals as goal

pub returns-then-eq : goal.returns-then-eq
returns-then-eq g c =
    let e = c.args.entry.now in
    let old = c.args.self.now in
    let then = c.mark_entering.new.self in
    let last = c.mark_back.new.self in
    let leaves = (is-leaving e.place.side true (sym c.if-eq.true ∙ c.eq.ensures)).0 refl in
    marked-as old last (λ f. EntersLaterBy e f ⊎ ComesBackLater e f) (IsLinkedTo e)
    (λ f held either. elim either [ inl enters ↦ (leaves, enters.0, inl enters.1) | inr back ↦ (leaves, back.0, inr back.1) ])
    (λ f held is. elim is.2 [ inl enters ↦ inl (is.1, enters) | inr back ↦ inr (is.1, back) ])
    (marked-then old then last (EntersLaterBy e) (ComesBackLater e) c.mark_entering.ensures c.mark_back.ensures)

pub returns-else-eq : goal.returns-else-eq
returns-else-eq g c =
    let e = c.args.entry.now in
    unmarked c.args.self.now (IsLinkedTo e) c.requires.0
    (λ f held is. false≢true ((is-leaving e.place.side false (sym c.if-eq.false ∙ c.eq.ensures)).1 is.0))
