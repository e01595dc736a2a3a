-- A record that a book keeps leaves the rows of closed moments.
use Rattle.std.proofs.Common.{◌≡◌, List, [], ◌∷◌, ◌++◌, Some, filter, ap, ◌∙◌, subst}
use Rattle.stock_model.specs.declared.deeds.Deed.{Deed}
use Rattle.stock_model.specs.declared.deeds.Deed.TheVariants.{Kept}
use Rattle.stock_model.specs.declared.records.Record.{Record}
use Rattle.stock_model.specs.History.{records, IsLegal}
use Rattle.stock_model.specs.Journals.{AreLegal}
use Rattle.stock_model.specs.Replay.{replay}
use Rattle.stock_model.specs.Reports.{is_until}
use Rattle.stock_laws.proofs.Histories.{records-append}
use Rattle.stock_laws.proofs.Legality.{AreLegal-history}
use Rattle.repost_laws.proofs.ClosedRows.{closed_rows-stay}
use Rattle.generation_book.specs.ClosedRows.{HasClosedRows}

pub closed-kept : (old new : List Deed) (item : Record) → new ≡ old ++ Kept item ∷ [] → IsLegal new → HasClosedRows old new
closed-kept old new item grows legal until is =
    let held : records new ≡ records old ++ item ∷ [] = ap records grows ∙ records-append old (Kept item ∷ []) in
    ap (λ (all : List Record). filter (is_until (Some until)) (replay all)) held
    ∙ closed_rows-stay (records old) (item ∷ []) until (subst AreLegal held (AreLegal-history new legal)) is
