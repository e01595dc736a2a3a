-- One Connection field after another.
use Rattle.std.proofs.Common.{◌≡◌, true, false, map, take, codes, sym, ap, ◌∙◌}
use Rattle.std.specs.List.{list_any}
use Rattle.std.proofs.lemmas.Bool.{or_left, or_right, or_from}
use Rattle.std.proofs.lemmas.List.Folds.{list_any-append}
use Rattle.httparse.specs.Spans.{header_bytes}
use Rattle.desk_wire.specs.Heads.{lists_close, values_of}
use Rattle.desk_wire.proofs.FieldLemmas.{name_test, next_values_yes, next_values_no, some_value_kept}
use Rattle.desk_wire.proofs.close.some_lists_close.Goals as goal
use Rattle.desk_wire.proofs.close.some_lists_close.Goals.{else-eq_ignore_ascii_case-via-then-eq_ignore_ascii_case+else-lists_close, else-eq_ignore_ascii_case-via-else-eq_ignore_ascii_case}

pub returns-then-lists_close : goal.returns-then-lists_close
returns-then-lists_close c =
    let front = c.args.front.now in
    let fields = c.args.fields.now in
    let i = c.loop-field.field-index in
    let name = codes "connection" in
    let inside = c.loop-field-test.true in
    let same = name_test front name fields i _ c.of.result.now c.eq_ignore_ascii_case.result c.of.ensures c.eq_ignore_ascii_case.ensures.test in
    let values = values_of name (map (header_bytes front) (take i fields)) in
    let lists : lists_close c.of-then-eq_ignore_ascii_case.result.now ≡ true = sym c.lists_close.ensures ∙ c.if-lists_close.true in
    let lists' = rw c.of-then-eq_ignore_ascii_case.ensures at lists in
    sym (some_value_kept front name fields i lists_close
    (ap (list_any lists_close) (next_values_yes front name fields i _ inside (sym same ∙ c.if-eq_ignore_ascii_case.true))
    ∙ list_any-append lists_close values _ ∙ or_right (list_any lists_close values) _ (or_left _ false lists')))

pub loop-field-preserved : goal.loop-field-preserved
loop-field-preserved c =
    let front = c.args.front.now in
    let fields = c.args.fields.now in
    let i = c.loop-field.field-index in
    let name = codes "connection" in
    let inside = c.loop-field-test.true in
    let same = name_test front name fields i _ c.of.result.now c.eq_ignore_ascii_case.result c.of.ensures c.eq_ignore_ascii_case.ensures.test in
    let values = values_of name (map (header_bytes front) (take i fields)) in
    elim c.else-eq_ignore_ascii_case.branch [
      | else-eq_ignore_ascii_case-via-then-eq_ignore_ascii_case+else-lists_close w ↦
          let lists : lists_close w.of-then-eq_ignore_ascii_case.result.now ≡ false = sym w.lists_close.ensures ∙ w.if-lists_close.false in
          let lists' = rw w.of-then-eq_ignore_ascii_case.ensures at lists in
          ap (list_any lists_close) (next_values_yes front name fields i _ inside (sym same ∙ w.if-eq_ignore_ascii_case.true))
          ∙ list_any-append lists_close values _ ∙ or_from (list_any lists_close values) _ c.loop-field.invariant (or_from _ false lists' (λ _. false))
      | else-eq_ignore_ascii_case-via-else-eq_ignore_ascii_case w ↦
          ap (list_any lists_close) (next_values_no front name fields i _ inside (sym same ∙ w.if-eq_ignore_ascii_case.false))
          ∙ c.loop-field.invariant
    ]
