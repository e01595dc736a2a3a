-- The movements and the records are those of the history.
use Rattle.std.proofs.Common.{◌≡◌, ap, ◌∙◌, sym, subst}
use Rattle.std.proofs.lemmas.Result.{IfOk-weaker}
use Rattle.stock_model.specs.Journals.{AreLegal}
use Rattle.stock_model.specs.PostingOrder.{posting_line}
use Rattle.stock_model.specs.Replay.{replay}
use Rattle.generation_book.specs.State.{BookState}
use Rattle.generation_book.specs.Book.{deeds}
use Rattle.generation_book.proofs.Books.{history-records, IsBook-legal}
use Rattle.generation_book.proofs.book.Book.replayed.Goals as goal

pub rows_of-requires-clause-legal : goal.rows_of-requires-clause-legal
rows_of-requires-clause-legal g c = subst AreLegal (sym c.records.ensures.records) (IsBook-legal _ _ _ _ _ c.self.invariant.0)

pub rows_of-requires-clause-line : goal.rows_of-requires-clause-line
rows_of-requires-clause-line g c =
    c.as_slice.ensures ∙ c.in_ok-line.ensures.entries ∙ c.timeline.ensures.entries ∙ c.self.invariant.0.posted ∙ ap posting_line (sym c.records.ensures.records)

pub returns : goal.returns
returns g c =
    let told : deeds c.self.inside.events.items c.self.inside.journal ≡ c.args.self.now.history = ap (λ (b : BookState). b.history) c.self.view_is in
    let held = history-records _ _ _ _ _ c.args.self.now.history c.self.invariant.0 told in
    IfOk-weaker c.rows_of.result _ _ (λ rows is. is ∙ ap replay (c.records.ensures.records ∙ sym held)) c.rows_of.ensures.rows
