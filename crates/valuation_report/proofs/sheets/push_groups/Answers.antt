-- The rows of each group are held, and they are written as the sheet's.
use Rattle.std.proofs.Common.{ℕ, List, filter, sym, ap, ◌∙◌, subst}
use Rattle.std.specs.List.{flat_map}
use Rattle.std.specs.Prelude.{All}
use Rattle.std.proofs.lemmas.Result.{on_ok_weaker}
use Rattle.stock_model.specs.Sheets.{is_asked_key, keys_of}
use Rattle.valuation_report.specs.declared.grouping.Group.{Group}
use Rattle.stock_nums.specs.declared.head.Head.{Head}
use Rattle.valuation_report.specs.Adding.{Adds}
use Rattle.valuation_report.specs.Groups.{groups_of}
use Rattle.valuation_report.specs.Holdings.{AreHeld}
use Rattle.valuation_report.specs.SheetPieces.{group_pieces, sheet_pieces}
use Rattle.valuation_report.proofs.Joined.{renamed}
use Rattle.valuation_report.proofs.GroupsWritten.{groups-written}
use Rattle.valuation_report.proofs.OwnRows.{AreHeld-each}
use Rattle.valuation_report.proofs.sheets.push_groups.Goals as goal

pub push_each-requires-clause-held : goal.push_each-requires-clause-held
push_each-requires-clause-held c =
    let chosen = c.args.selected.now in
    subst (λ (groups : List Group). All (λ group. AreHeld group.rows) groups) (sym (c.as_slice-shown.ensures ∙ c.in_ok-groups.ensures))
    (AreHeld-each chosen.rows (filter (is_asked_key c.args.query.now chosen.heads) (keys_of chosen.rows)) c.requires.shown.bounded)

pub returns : goal.returns
returns c =
    let query = c.args.query.now in
    let chosen = c.args.selected.now in
    on_ok_weaker c.push_each.result
    (λ added. subst (λ (old : List ℕ). Adds old c.push_each.new.text.items (sheet_pieces query.format query.sheet query chosen)) c.reserve.ensures.items
    (renamed added
    (ap (flat_map (group_pieces query.format query.sheet c.as_slice-heads.result.now)) (c.as_slice-shown.ensures ∙ c.in_ok-groups.ensures)
    ∙ ap (λ (heads : List Head). flat_map (group_pieces query.format query.sheet heads) (groups_of query chosen)) c.as_slice-heads.ensures
    ∙ groups-written query.format query.sheet query chosen c.requires.sheet)))
    c.push_each.ensures
