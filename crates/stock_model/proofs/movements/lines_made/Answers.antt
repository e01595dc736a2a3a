use Rattle.std.proofs.Common.{◌+◌, ◌<◌, ◌++◌, List, length, drop, sym, ap, ◌∙◌, append_assoc, arith}
use Rattle.std.specs.List.{flat_map, enumerate_from}
use Rattle.stock_nums.specs.declared.entry.Entry.{Entry}
use Rattle.stock_model.specs.Entries.{line_made}
use Rattle.stock_model.specs.VoucherLines.{lines_of}
use Rattle.stock_model.proofs.Numbered.{flat_map-drop}
use Rattle.stock_model.proofs.movements.lines_made.Goals as goal

pub loop-index-preserved : goal.loop-index-preserved
loop-index-preserved g c =
    let make = line_made (g.N.Names.journal c.args.names.now) c.args.voucher.0 c.args.at c.args.what.now in
    let lines = lines_of c.args.what.now in
    let i = c.loop-index.index in
    let within : i < length lines = omega (arith, c.line_count-index-end.ensures) in
    let step = flat_map-drop make (i + 1) i lines within in
    let rest : List Entry = flat_map make (enumerate_from (i + 1 + 1) (drop (i + 1) lines)) in
    ap (λ (es : List Entry). es ++ rest) c.in_ok-push_line_at.ensures
    ∙ append_assoc c.loop-index.entries _ rest
    ∙ ap (λ (es : List Entry). c.loop-index.entries ++ es) (sym step)
    ∙ c.loop-index.invariant
