-- The rows under the head, one after another.
use Rattle.std.proofs.Common.{◌≡◌, List, [], ◌∷◌, Err, true, length, inl, sym, ap, subst, ◌∙◌, arith}
use Rattle.std.proofs.lemmas.Bool.{false≢true}
use Rattle.std.proofs.lemmas.Result.{err_from_is_err_and}
use Rattle.csv.specs.Reading.{owned_rows_reader, with_flexible}
use Rattle.csv.specs.Records.{fields_of}
use Rattle.voucher_import.specs.Reading.{IsOpen}
use Rattle.voucher_import.specs.Rows.{Row, head_row, rows_of}
use Rattle.voucher_import.specs.Sheets.{AreVouchers}
use Rattle.voucher_import.proofs.OpenSheets.{of_rows, same_fault}
use Rattle.voucher_import.proofs.TextRecords.{Gives, few_rows, gives_next, gives_none, opens}
use Rattle.voucher_import.proofs.reading.read_sheet.Goals as goal

pub returns-then-not-is_head-clause-outcome : goal.returns-then-not-is_head-clause-outcome
returns-then-not-is_head-clause-outcome c rows whole =
    let fr = c.from_reader-reader.ensures in
    let set = c.flexible.ensures ∙ ap (λ b. with_flexible b true) c.has_headers.ensures in
    let opened = opens c.new.result c.flexible.result.now c.from_reader-reader.result c.args.bytes.now c.new.ensures.config c.new.ensures.trim set fr.config fr.has_headers fr.trim fr.headers fr.state fr.source in
    let gives : Gives (owned_rows_reader c.into_byte_records-rows.result) (rows_of c.args.bytes.now) = rw c.into_byte_records-rows.ensures.rdr opened in
    let s = rw (c.in-Some-Ok.is, c.in-Some-Ok.field-0-is) at ((c.next.ensures.steps c.into_byte_records-rows.ensures.left gives.trims).0 gives.ready) in
    let one = gives_next (owned_rows_reader c.into_byte_records-rows.result) (owned_rows_reader c.next.new.self) (rows_of c.args.bytes.now) (fields_of c.in-Some-Ok.head) gives s.0 (inl s.1) in
    let head : fields_of c.in-Some-Ok.head ≡ head_row = cc (whole, one.1) in
    false≢true (sym c.if-not-is_head.true ∙ c.is_head.ensures.1 head)

pub returns-in-None-clause-outcome : goal.returns-in-None-clause-outcome
returns-in-None-clause-outcome c rows whole =
    let fr = c.from_reader-reader.ensures in
    let set = c.flexible.ensures ∙ ap (λ b. with_flexible b true) c.has_headers.ensures in
    let opened = opens c.new.result c.flexible.result.now c.from_reader-reader.result c.args.bytes.now c.new.ensures.config c.new.ensures.trim set fr.config fr.has_headers fr.trim fr.headers fr.state fr.source in
    let gives : Gives (owned_rows_reader c.into_byte_records-rows.result) (rows_of c.args.bytes.now) = rw c.into_byte_records-rows.ensures.rdr opened in
    let s = rw (c.in-None.is) at ((c.next.ensures.steps c.into_byte_records-rows.ensures.left gives.trims).0 gives.ready) in
    let none = gives_none (owned_rows_reader c.into_byte_records-rows.result) (owned_rows_reader c.next.new.self) (rows_of c.args.bytes.now) gives s in
    cc (whole, none)

pub loop-row-init : goal.loop-row-init
loop-row-init c =
    let fr = c.from_reader-reader.ensures in
    let set = c.flexible.ensures ∙ ap (λ b. with_flexible b true) c.has_headers.ensures in
    let opened = opens c.new.result c.flexible.result.now c.from_reader-reader.result c.args.bytes.now c.new.ensures.config c.new.ensures.trim set fr.config fr.has_headers fr.trim fr.headers fr.state fr.source in
    let gives : Gives (owned_rows_reader c.into_byte_records-rows.result) (rows_of c.args.bytes.now) = rw c.into_byte_records-rows.ensures.rdr opened in
    let s = rw (c.in-Some-Ok.is, c.in-Some-Ok.field-0-is) at ((c.next.ensures.steps c.into_byte_records-rows.ensures.left gives.trims).0 gives.ready) in
    let one = gives_next (owned_rows_reader c.into_byte_records-rows.result) (owned_rows_reader c.next.new.self) (rows_of c.args.bytes.now) (fields_of c.in-Some-Ok.head) gives s.0 (inl s.1) in
    let head : fields_of c.in-Some-Ok.head ≡ head_row = c.is_head.ensures.0 c.if-not-is_head.false in
    let size = ap length one.1 in
    let none = ap length c.new-sheet.ensures.run in
    rw c.into_iter-row-iterator.ensures.into_iter_gives
    (one.0, one.0, one.1 ∙ ap (λ (h : Row). h ∷ one.0) head, one.2, s.2, c.new-sheet.ensures.begun one.0, omega (arith, size, none, c.new-sheet.ensures.before))

pub loop-row-preserved : goal.loop-row-preserved
loop-row-preserved c =
    let inv = c.loop-row.invariant in
    let s = rw (c.in-Some.is, c.in-Ok.is) at ((c.next-in-loop-row.ensures.steps inv.4 inv.3.trims).0 inv.3.ready) in
    let one = gives_next (owned_rows_reader c.loop-row.row-iterator) (owned_rows_reader c.next-in-loop-row.new.self) inv.1 (fields_of c.in-Ok.row) inv.3 s.0 (inl s.1) in
    let before : IsOpen inv.0 (fields_of c.in-Ok.row ∷ one.0) c.loop-row.sheet = subst (λ (rest : List Row). IsOpen inv.0 rest c.loop-row.sheet) one.1 inv.5 in
    let size = ap length one.1 in
    (inv.0, one.0, inv.2, one.2, s.2, c.in_ok-add.ensures.step inv.0 one.0 before, omega (arith, size, inv.6, c.in_ok-add.ensures.count))

pub add-requires : goal.add-requires
add-requires c =
    let inv = c.loop-row.invariant in
    let s = rw (c.in-Some.is, c.in-Ok.is) at ((c.next-in-loop-row.ensures.steps inv.4 inv.3.trims).0 inv.3.ready) in
    let one = gives_next (owned_rows_reader c.loop-row.row-iterator) (owned_rows_reader c.next-in-loop-row.new.self) inv.1 (fields_of c.in-Ok.row) inv.3 s.0 (inl s.1) in
    let size = ap length one.1 in
    omega (arith, size, inv.6, few_rows c.args.bytes.now, c.requires)

pub returns-in_err-add-clause-outcome : goal.returns-in_err-add-clause-outcome
returns-in_err-add-clause-outcome c =
    let inv = c.loop-row.invariant in
    let s = rw (c.in-Some.is, c.in-Ok.is) at ((c.next-in-loop-row.ensures.steps inv.4 inv.3.trims).0 inv.3.ready) in
    let one = gives_next (owned_rows_reader c.loop-row.row-iterator) (owned_rows_reader c.next-in-loop-row.new.self) inv.1 (fields_of c.in-Ok.row) inv.3 s.0 (inl s.1) in
    let before : IsOpen inv.0 (fields_of c.in-Ok.row ∷ one.0) c.loop-row.sheet = subst (λ (rest : List Row). IsOpen inv.0 rest c.loop-row.sheet) one.1 inv.5 in
    let p = err_from_is_err_and c.from_residual.result c.from_residual.ensures.1 in
    rw (p.1, p.2)
    (of_rows (rows_of c.args.bytes.now) inv.0 inv.2 (Err c.in_err-add.field-0.0)
    (same_fault (λ (u : Unit {0}). IsOpen inv.0 one.0 c.add.new.self) (AreVouchers inv.0) inv.0 c.in_err-add.field-0.0 (c.in_err-add.ensures.step inv.0 one.0 before)))

pub finish-requires : goal.finish-requires
finish-requires c =
    let inv = c.loop-row.invariant in
    omega (arith, inv.6, few_rows c.args.bytes.now, c.requires)

pub returns : goal.returns
returns c =
    let inv = c.loop-row.invariant in
    let s = rw c.in-None-row.is at ((c.next-in-loop-row.ensures.steps inv.4 inv.3.trims).0 inv.3.ready) in
    let none = gives_none (owned_rows_reader c.loop-row.row-iterator) (owned_rows_reader c.next-in-loop-row.new.self) inv.1 inv.3 s in
    let all : IsOpen inv.0 [] c.loop-row.sheet = subst (λ (rest : List Row). IsOpen inv.0 rest c.loop-row.sheet) none inv.5 in
    record {
      outcome = of_rows (rows_of c.args.bytes.now) inv.0 inv.2 c.finish.result (c.finish.ensures.outcome inv.0 all);
      limits = c.finish.ensures.limits inv.0 all;
    }
