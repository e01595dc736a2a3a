-- One row after another, until one is wrong.
use Rattle.std.proofs.Common.{◌≡◌, ◌≤◌, ◌+◌, ◌++◌, ℕ, [], ◌∷◌, length, take, get_or, refl, arith}
use borrow.Author.Count.{below_more}
use Rattle.std.specs.List.{AllZip}
use Rattle.std.proofs.lemmas.List.{length-map, length_push, take_all, take_more}
use Rattle.std.proofs.lemmas.Slice.Zip.{AllZip-long, all_zipped_more}
use Rattle.csv.specs.Records.{fields_of}
use Rattle.stock_nums.specs.declared.limits.TheConstants.{MAX_LINES}
use Rattle.voucher_import.specs.Reading.{rows_in}
use Rattle.voucher_import.specs.Sheets.{IsRightAt}
use Rattle.voucher_import.proofs.Faults.{none_wrong}
use Rattle.voucher_import.proofs.vouchers.read_lines.Goals as goal

room_left : (most count : ℕ) → ¬ (most ≤ count) → count + 1 ≤ most
room_left most count h = omega (arith, h)

pub returns-in-Err-Wrong-clause-outcome : goal.returns-in-Err-Wrong-clause-outcome
returns-in-Err-Wrong-clause-outcome g c =
    let size : length (rows_in c.args.run.now) ≡ length c.args.run.now = length-map c.args.run.now fields_of in
    rw (c.in-Err-Wrong.field-0-is) (
      c.loop-place.place,
      record {
        within = omega (arith, size);
        right = c.loop-place.invariant.right;
        wrong = rw c.in-Err-Wrong.field-0-is at c.in-Err-Wrong.ensures;
      },
      refl,
    )

pub loop-place-preserved : goal.loop-place-preserved
loop-place-preserved g c =
    let rows = rows_in c.args.run.now in
    let place = c.loop-place.place in
    let old = c.loop-place.invariant in
    let size : length rows ≡ length c.args.run.now = length-map c.args.run.now fields_of in
    let more : take (place + 1) rows ≡ take place rows ++ get_or rows place [] ∷ [] = take_more rows place [] (omega (arith, size)) in
    let long : length c.loop-place.lines ≡ length (take place rows) = AllZip-long g.L.RowLine.is_line (take place rows) c.loop-place.lines old.are in
    let room = (none_wrong (take place rows) (get_or rows place []) c.in-Ok.ensures.0).many in
    let pushed : length (c.loop-place.lines ++ c.in-Ok.line ∷ []) ≡ length c.loop-place.lines + 1 = length_push c.loop-place.lines c.in-Ok.line in
    rw (c.in_ok-push-in-Ok.ensures.added) (record {
      are = rw more (all_zipped_more g.L.RowLine.is_line (take place rows) c.loop-place.lines (get_or rows place []) c.in-Ok.line old.are c.in-Ok.ensures.1);
      right = below_more (IsRightAt rows) place old.right c.in-Ok.ensures.0;
      few = rw pushed (room_left MAX_LINES (length c.loop-place.lines) (λ full. room (omega (arith, full, long))));
    })

pub returns : goal.returns
returns g c =
    let rows = rows_in c.args.run.now in
    let size : length rows ≡ length c.args.run.now = length-map c.args.run.now fields_of in
    let whole : take c.loop-place.place rows ≡ rows = take_all c.loop-place.place rows (omega (arith, size)) in
    let old = c.loop-place.invariant in
    let are : AllZip g.L.RowLine.is_line rows c.loop-place.lines = rw whole at old.are in
    let long : length c.loop-place.lines ≡ length rows = AllZip-long g.L.RowLine.is_line rows c.loop-place.lines are in
    record {
      outcome = (λ place below. old.right place (omega (arith, size, below)), are);
      count = (omega (arith, long, size, c.requires.some), old.few);
    }
