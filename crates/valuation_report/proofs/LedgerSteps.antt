-- One movement after another is added, with what is held after it.
use Rattle.std.proofs.Common.{◌≡◌, ℕ, ◌+◌, ◌<◌, List, [], ◌∷◌, ◌++◌, length, take, drop, get_or, sym, ap, ◌∙◌, append_assoc}
use Rattle.std.specs.List.{flat_map}
use Rattle.std.proofs.lemmas.List.{take_more, drop_more}
use Rattle.stock_nums.specs.declared.entry.Row.{Row}
use Rattle.stock_model.specs.declared.queries.Format.{Format}
use Rattle.valuation_report.specs.declared.holdings.Holding.{Holding}
use Rattle.valuation_report.specs.declared.ledger_texts.Movement.{Movement}
use Rattle.valuation_report.specs.Adding.{Adds}
use Rattle.valuation_report.specs.GroupRows.{movement_of, movement_row, movements_after}
use Rattle.valuation_report.specs.Holdings.{holding_of}
use Rattle.valuation_report.specs.Pieces.{ledger_piece}

module _ (format : Format) (item store : List ℕ) where
  -- the text of the movements
  abbrev texts : List Row → List Row → List ℕ
  texts before rows = flat_map (ledger_piece format) (movements_after item store before rows)

  -- the text of a movement that comes after those
  abbrev text_after : List Row → Row → List ℕ
  text_after before row = ledger_piece format (movement_row item store (movement_of row (holding_of (before ++ row ∷ []))))

  -- of the rows to come the first is next
  next : (rows : List Row) (i : ℕ) (row : Row) → i < length rows → row ≡ get_or rows i row
      → texts (take i rows) (drop i rows) ≡ ledger_piece format (movement_row item store (movement_of row (holding_of (take (i + 1) rows)))) ++ texts (take (i + 1) rows) (drop (i + 1) rows)
  next rows i row within read =
      let front : take (i + 1) rows ≡ take i rows ++ row ∷ [] = take_more rows i row within ∙ ap (λ (r : Row). take i rows ++ r ∷ []) (sym read) in
      let rest : drop i rows ≡ row ∷ drop (i + 1) rows = drop_more rows i row within ∙ ap (λ (r : Row). r ∷ drop (i + 1) rows) (sym read) in
      ap (texts (take i rows)) rest
      ∙ ap (λ (before : List Row). ledger_piece format (movement_row item store (movement_of row (holding_of before))) ++ texts before (drop (i + 1) rows)) (sym front)

  pub movements-more : (rows : List Row) (i : ℕ) (row : Row) (holding : Holding) (movement : Movement) (old new all : List ℕ) → i < length rows → row ≡ get_or rows i row
      → movement ≡ movement_of row holding → holding ≡ holding_of (take (i + 1) rows) → Adds old new (ledger_piece format (movement_row item store movement))
      → old ++ texts (take i rows) (drop i rows) ≡ all → new ++ texts (take (i + 1) rows) (drop (i + 1) rows) ≡ all
  movements-more rows i row holding movement old new all within read movement_is holding_is added so_far =
      let later = texts (take (i + 1) rows) (drop (i + 1) rows) in
      let piece : ledger_piece format (movement_row item store movement) ≡ ledger_piece format (movement_row item store (movement_of row (holding_of (take (i + 1) rows)))) =
      ap (λ (m : Movement). ledger_piece format (movement_row item store m)) (movement_is ∙ ap (movement_of row) holding_is) in
      ap (λ (text : List ℕ). text ++ later) (added.is ∙ ap (λ (text : List ℕ). old ++ text) piece)
      ∙ append_assoc old (ledger_piece format (movement_row item store (movement_of row (holding_of (take (i + 1) rows))))) later
      ∙ ap (λ (text : List ℕ). old ++ text) (sym (next rows i row within read))
      ∙ so_far
