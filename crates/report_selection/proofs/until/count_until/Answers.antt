-- The rows before the first later one are those up to the moment.
use Rattle.std.proofs.Common.{◌≡◌, ℕ, ◌+◌, ◌<◌, ◌≤◌, Bool, true, false, not, List, Some, length, get_or, drop, inl, inr, refl, sym, ap, ◌∙◌, subst, rules, arith}
use Rattle.std.specs.List.Sorted.{IsPartitionedBy}
use Rattle.std.proofs.lemmas.Bool.{cases_lt, false≢true}
use Rattle.std.proofs.lemmas.List.{get_or_default}
use Rattle.stock_nums.specs.declared.entry.Row.{Row}
use Rattle.stock_nums.specs.declared.moment.Moment.{Moment}
use Rattle.stock_model.specs.Reports.{is_until}
use Rattle.stock_laws.proofs.Walks.{at_next, at_end}
use Rattle.report_selection.proofs.Filters.{front-passes}
use Rattle.report_selection.proofs.until.count_until.Goals as goal

-- a row that is no later than the moment passes, and with it all so far
passed-next : (rows : List Row) (until : Moment) (count : ℕ) (row : Row) → count < length rows → row ≡ get_or rows count row
    → is_until (Some until) row ≡ true → ((j : ℕ) (d : Row) → j < count → is_until (Some until) (get_or rows j d) ≡ true)
    → (j : ℕ) (d : Row) → j < count + 1 → is_until (Some until) (get_or rows j d) ≡ true
passed-next rows until count row within is passes before j d below =
    elim (cases_lt j count) [
      | inl less ↦ before j d less
      | inr least ↦
          let same : j ≡ count = omega (arith, below, least) in
          ap (λ (k : ℕ). is_until (Some until) (get_or rows k d)) same
          ∙ ap (is_until (Some until)) (get_or_default rows count d row within ∙ sym is)
          ∙ passes
    ]

-- behind a row that is later none passes
fails-from : (rows : List Row) (until : Moment) (count : ℕ) (row : Row) → IsPartitionedBy (is_until (Some until)) rows → count < length rows
    → row ≡ get_or rows count row → is_until (Some until) row ≡ false
    → (j : ℕ) (d : Row) → count ≤ j → j < length rows → is_until (Some until) (get_or rows j d) ≡ false
fails-from rows until count row parted within is fails j d least inside =
    let by : (b : Bool) → is_until (Some until) (get_or rows j d) ≡ b → b ≡ false = λ b. elim b as (λ v. is_until (Some until) (get_or rows j d) ≡ v → v ≡ false) [
      | false ↦ λ passes. refl
      | true ↦ λ passes.
          let early = parted count j d least inside passes in
          let same = ap (is_until (Some until)) (get_or_default rows count d row within ∙ sym is) in
          absurd (false≢true (sym fails ∙ sym same ∙ early))
    ] in
    by (is_until (Some until) (get_or rows j d)) refl

pub loop-row-preserved : goal.loop-row-preserved
loop-row-preserved c =
    let rows = c.args.rows.now in
    let count = c.loop-row.count in
    let row = c.in-Some.row.now in
    let next = at_next rows c.loop-row.row-iterator c.next.new.self count row c.loop-row.invariant.stands c.in-Some.ensures.steps in
    let more : c.in-Some-checked_add.more ≡ count + 1 = search rules in
    let passes : is_until (Some c.args.until) row ≡ true = ap not (sym c.is_later.ensures ∙ c.if-is_later.false) in
    record {
      within = subst (λ (n : ℕ). n ≤ length rows) (sym more) (omega (arith, next.0));
      stands = next.2 ∙ ap (λ (n : ℕ). drop n rows) (sym more);
      passed = subst (λ (n : ℕ). (j : ℕ) (d : Row) → j < n → is_until (Some c.args.until) (get_or rows j d) ≡ true) (sym more)
          (passed-next rows c.args.until count row next.0 next.1 passes c.loop-row.invariant.passed);
    }

pub returns-then-is_later-clause-front : goal.returns-then-is_later-clause-front
returns-then-is_later-clause-front c =
    let rows = c.args.rows.now in
    let count = c.loop-row.count in
    let row = c.in-Some.row.now in
    let next = at_next rows c.loop-row.row-iterator c.next.new.self count row c.loop-row.invariant.stands c.in-Some.ensures.steps in
    let fails : is_until (Some c.args.until) row ≡ false = ap not (sym c.is_later.ensures ∙ c.if-is_later.true) in
    front-passes (is_until (Some c.args.until)) rows count c.loop-row.invariant.within (λ j d zero less. c.loop-row.invariant.passed j d less)
    (fails-from rows c.args.until count row c.requires next.0 next.1 fails)

pub returns-clause-front : goal.returns-clause-front
returns-clause-front c =
    let rows = c.args.rows.now in
    let past = at_end rows c.loop-row.row-iterator c.loop-row.count c.loop-row.invariant.stands c.in-None.ensures.steps.0 in
    front-passes (is_until (Some c.args.until)) rows c.loop-row.count c.loop-row.invariant.within (λ j d zero less. c.loop-row.invariant.passed j d less)
    (λ j d least inside. absurd (omega (arith, past, least, inside)))
