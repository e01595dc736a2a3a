-- One more field.
use Rattle.std.proofs.Common.{◌+◌, length, take, map, arith, subst, sym, ◌∙◌, ap}
use Rattle.std.proofs.lemmas.List.Elements.{All-get_or}
use Rattle.httparse.specs.Spans.{header_bytes, IsHeaderWithin}
use Rattle.desk_wire.specs.Heads.{values_of}
use Rattle.desk_wire.specs.Spans.{Finds}
use Rattle.desk_wire.proofs.FieldLemmas.{name_test, next_values_yes, next_values_no}
use Rattle.desk_wire.proofs.fields.find_named.Goals as goal
use Rattle.desk_wire.proofs.fields.find_named.Goals.{then-eq_ignore_ascii_case, else-eq_ignore_ascii_case}

pub loop-field-preserved : goal.loop-field-preserved
loop-field-preserved c =
    let front = c.args.front.now in
    let i = c.loop-field.field-index in
    let inside = c.loop-field-test.true in
    let old = c.loop-field.invariant in
    let values = values_of c.args.name.now (map (header_bytes front) (take i c.args.fields.now)) in
    let next = values_of c.args.name.now (map (header_bytes front) (take (i + 1) c.args.fields.now)) in
    elim c.if-eq_ignore_ascii_case.branch [
      | then-eq_ignore_ascii_case w ↦
          let same = name_test front c.args.name.now c.args.fields.now i _ c.of.result.now c.eq_ignore_ascii_case.result c.of.ensures c.eq_ignore_ascii_case.ensures.test in (
            omega (arith, w.with-found.ensures.count, ap (λ f. f.count) w.found-is),
            subst (λ f. Finds front f next) (sym w.found-is)
                (subst (Finds front w.with-found.result) (sym (next_values_yes front c.args.name.now c.args.fields.now i _ inside (sym same ∙ w.if-eq_ignore_ascii_case.true)))
                (w.with-found.ensures.more front values (All-get_or (IsHeaderWithin (length front)) c.args.fields.now i _ inside c.requires.within).1 old.1)),
          )
      | else-eq_ignore_ascii_case w ↦
          let same = name_test front c.args.name.now c.args.fields.now i _ c.of.result.now c.eq_ignore_ascii_case.result c.of.ensures c.eq_ignore_ascii_case.ensures.test in (
            omega (arith, ap (λ f. f.count) w.found-is),
            subst (λ f. Finds front f next) (sym w.found-is)
                (subst (Finds front c.loop-field.found) (sym (next_values_no front c.args.name.now c.args.fields.now i _ inside (sym same ∙ w.if-eq_ignore_ascii_case.false))) old.1),
          )
    ]
