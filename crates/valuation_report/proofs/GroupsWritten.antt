-- The rows of the groups, one group after another, are the rows of the sheet.
use Rattle.std.proofs.Common.{◌≡◌, ℕ, true, List, [], ◌∷◌, ◌++◌, map, filter, refl, sym, ap, ap₂, ◌∙◌}
use Rattle.std.specs.List.{flat_map}
use Rattle.std.proofs.lemmas.Bool.{false≢true}
use Rattle.std.proofs.lemmas.List.Concat.{flat_map-append}
use Rattle.stock_model.specs.declared.queries.Format.{Format}
use Rattle.stock_model.specs.declared.queries.Format.TheVariants.{Json, Csv}
use Rattle.stock_model.specs.declared.queries.Query.{Query}
use Rattle.stock_model.specs.declared.queries.Selected.{Selected}
use Rattle.stock_model.specs.declared.queries.Sheet.{Sheet}
use Rattle.stock_model.specs.declared.queries.Sheet.TheVariants.{Balance, Layers, Ledger, Accounts, Voucher}
use Rattle.stock_model.specs.Layers.{layer_rows, layers}
use Rattle.stock_model.specs.LedgerSheets.{ledger_rows, ledger}
use Rattle.stock_model.specs.Masters.{code_of}
use Rattle.stock_model.specs.Sums.{is_of}
use Rattle.stock_nums.specs.declared.entry.Key.{Key}
use Rattle.stock_nums.specs.declared.head.Head.{Head}
use Rattle.valuation_report.specs.declared.holdings.Holding.{Holding}
use Rattle.valuation_report.specs.GroupRows.{held_row}
use Rattle.valuation_report.specs.Holdings.{holding_of}
use Rattle.stock_model.specs.Sheets.{balance_row, balance, is_asked_key, keys_of}
use Rattle.valuation_report.specs.Groups.{group_of, groups_of}
use Rattle.valuation_report.specs.Pieces.{balance_piece, layer_piece, ledger_piece}
use Rattle.valuation_report.specs.SheetPieces.{is_grouped, group_pieces, sheet_pieces}
use Rattle.valuation_report.proofs.GroupLists.{holdings_of}
use Rattle.valuation_report.proofs.OwnRows.{held_row-is, own_layers-is, own_movements-are}

-- what is written of each is what is written of what is made of each
flat_map-map : {X Y : Type 0} (f : Y → List ℕ) (g : X → Y) (xs : List X) → flat_map f (map g xs) ≡ flat_map (λ x. f (g x)) xs
flat_map-map f g [] = refl
flat_map-map f g (x ∷ xs) = ap (λ (text : List ℕ). f (g x) ++ text) (flat_map-map f g xs)

flat_map-flat_map : {X Y : Type 0} (f : Y → List ℕ) (g : X → List Y) (xs : List X) → flat_map f (flat_map g xs) ≡ flat_map (λ x. flat_map f (g x)) xs
flat_map-flat_map f g [] = refl
flat_map-flat_map f g (x ∷ xs) = flat_map-append f (g x) (flat_map g xs) ∙ ap (λ (text : List ℕ). flat_map f (g x) ++ text) (flat_map-flat_map f g xs)

flat_map-same : {X : Type 0} (f g : X → List ℕ) → ((x : X) → f x ≡ g x) → (xs : List X) → flat_map f xs ≡ flat_map g xs
flat_map-same f g same [] = refl
flat_map-same f g same (x ∷ xs) = ap₂ (λ (a b : List ℕ). a ++ b) (same x) (flat_map-same f g same xs)

-- the rows of a sheet in each format
balance-pieces : (format : Format) (query : Query) (chosen : Selected) → flat_map (balance_piece format) (balance query chosen) ≡ sheet_pieces format Balance query chosen
balance-pieces Json query chosen = sym (flat_map-map _ _ (balance query chosen))
balance-pieces Csv query chosen = sym (flat_map-map _ _ (balance query chosen))

layers-pieces : (format : Format) (query : Query) (chosen : Selected) → flat_map (layer_piece format) (layers query chosen) ≡ sheet_pieces format Layers query chosen
layers-pieces Json query chosen = sym (flat_map-map _ _ (layers query chosen))
layers-pieces Csv query chosen = sym (flat_map-map _ _ (layers query chosen))

ledger-pieces : (format : Format) (query : Query) (chosen : Selected) → flat_map (ledger_piece format) (ledger query chosen) ≡ sheet_pieces format Ledger query chosen
ledger-pieces Json query chosen = sym (flat_map-map _ _ (ledger query chosen))
ledger-pieces Csv query chosen = sym (flat_map-map _ _ (ledger query chosen))

-- the row of an entry of the map of what is held
abbrev pub entry_piece : Format → List Head → Key × Holding → List ℕ
entry_piece format heads entry = balance_piece format (held_row (code_of heads entry.0.item.0) (code_of heads entry.0.store.0) entry.1)

pub holdings-written : (format : Format) (query : Query) (chosen : Selected)
    → flat_map (entry_piece format chosen.heads) (holdings_of query chosen.heads chosen.rows) ≡ sheet_pieces format Balance query chosen
unfolding balance
holdings-written format query chosen =
    let keys = filter (is_asked_key query chosen.heads) (keys_of chosen.rows) in
    flat_map-map (entry_piece format chosen.heads) (λ key. (key, holding_of (filter (is_of key) chosen.rows))) keys
    ∙ flat_map-same _ _ (λ key. ap (balance_piece format) (held_row-is key chosen.heads chosen.rows)) keys
    ∙ sym (flat_map-map (balance_piece format) (balance_row chosen.heads chosen.rows) keys)
    ∙ balance-pieces format query chosen

pub groups-written : (format : Format) (sheet : Sheet) (query : Query) (chosen : Selected) → is_grouped sheet ≡ true
    → flat_map (group_pieces format sheet chosen.heads) (groups_of query chosen) ≡ sheet_pieces format sheet query chosen
unfolding layers ledger
groups-written format Balance query chosen grouped = absurd (false≢true grouped)
groups-written format Layers query chosen grouped =
    let keys = filter (is_asked_key query chosen.heads) (keys_of chosen.rows) in
    flat_map-map (group_pieces format Layers chosen.heads) (group_of chosen.rows) keys
    ∙ flat_map-same _ _ (λ key. ap (flat_map (layer_piece format)) (own_layers-is key chosen.heads chosen.rows)) keys
    ∙ sym (flat_map-flat_map (layer_piece format) (layer_rows chosen.heads chosen.rows) keys)
    ∙ layers-pieces format query chosen
groups-written format Ledger query chosen grouped =
    let keys = filter (is_asked_key query chosen.heads) (keys_of chosen.rows) in
    flat_map-map (group_pieces format Ledger chosen.heads) (group_of chosen.rows) keys
    ∙ flat_map-same _ _ (λ key. ap (flat_map (ledger_piece format)) (own_movements-are key chosen.heads chosen.rows)) keys
    ∙ sym (flat_map-flat_map (ledger_piece format) (ledger_rows chosen.heads chosen.rows) keys)
    ∙ ledger-pieces format query chosen
groups-written format Accounts query chosen grouped = absurd (false≢true grouped)
groups-written format (Voucher number) query chosen grouped = absurd (false≢true grouped)
