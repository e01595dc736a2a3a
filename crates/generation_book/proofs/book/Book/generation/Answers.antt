-- The rows of the generation are the replay of the covered records, of which those up to a moment come first.
use Rattle.std.proofs.Common.{◌≡◌, filter, ap, ◌∙◌, subst, refl}
use Rattle.generation_book.specs.State.{BookState}
use Rattle.generation_book.specs.Book.{deeds}
use Rattle.stock_model.specs.Reports.{is_until, selected}
use Rattle.stock_model.specs.History.{IsLegal}
use Rattle.generation_book.proofs.Books.{history-records, history-covered}
use Rattle.generation_book.proofs.book.Book.generation.Goals as goal

pub rows_until-requires : goal.rows_until-requires
rows_until-requires g c = (_, c.self.invariant.0.valued)

pub returns-clause-selected : goal.returns-clause-selected
unfolding selected
returns-clause-selected g c query asked =
    let told : deeds c.self.inside.events.items c.self.inside.journal ≡ c.args.self.now.history = ap (λ (b : BookState). b.history) c.self.view_is in
    let held = history-records _ _ _ _ _ c.args.self.now.history c.self.invariant.0 told in
    let covers = history-covered _ _ _ _ _ c.args.self.now.history c.self.invariant.0 told in
    let rows = c.in_ok-rows_until.ensures ∙ ap (filter (is_until c.args.until)) c.self.invariant.0.valued in
    let heads = c.in_ok-share.ensures ∙ c.self.invariant.3 in
    rw (asked, held, covers, rows, heads) refl

pub returns-clause-of_book : goal.returns-clause-of_book
returns-clause-of_book g c query asked =
    let told : deeds c.self.inside.events.items c.self.inside.journal ≡ c.args.self.now.history = ap (λ (b : BookState). b.history) c.self.view_is in
    record {
      history = c.args.self.now.history;
      legal = subst IsLegal told c.self.invariant.0.legal;
      is = returns-clause-selected g c query asked;
    }
