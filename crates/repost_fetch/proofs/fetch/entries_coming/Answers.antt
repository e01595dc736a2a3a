-- One record more is read, and after the last one those in force are all read.
use Rattle.std.proofs.Common.{◌≡◌, ◌+◌, ◌<◌, ◌≤◌, Bool, true, false, List, [], ◌++◌, length, take, drop, filter, refl, sym, ap, ◌∙◌, arith}
use Rattle.std.proofs.lemmas.List.{append-nil, take-append-drop, take_all, drop_all}
use Rattle.stock_nums.specs.declared.entry.Entry.{Entry}
use Rattle.stock_model.specs.Entries.{entries_after, is_live, is_live_entry}
use Rattle.stock_model.specs.declared.records.Record.{Record}
use Rattle.repost_fetch.proofs.FetchSteps.{passed-next, left-out}
use Rattle.repost_fetch.proofs.fetch.entries_coming.Goals as goal
use Rattle.repost_fetch.proofs.fetch.entries_coming.Goals.{then-is_in_force+in_ok-own+in_ok-push_all, else-is_in_force}

pub loop-index-preserved : goal.loop-index-preserved
loop-index-preserved c =
    let journal = c.args.journal.now in
    let n = c.loop-index.index in
    let within : n < length journal = omega (arith, c.loop-index-test.true, c.count.ensures.count) in
    let all : take c.count.result journal ≡ journal = take_all c.count.result journal (omega (arith, c.count.ensures.count)) in
    let live : (b : Bool) → c.is_in_force.result ≡ b → is_live journal (n + 1) ≡ b =
    λ b is. ap (λ (j : List Record). is_live j (n + 1)) (sym all) ∙ sym c.is_in_force.ensures ∙ is in
    elim c.if-is_in_force.branch [
      | then-is_in_force+in_ok-own+in_ok-push_all w ↦
          passed-next (is_live_entry journal) (is_live journal) (λ e. refl) journal n within c.loop-index.entries w.as_slice.result.now
          c.if-is_in_force.entries _ (live true w.if-is_in_force.true) (w.as_slice.ensures ∙ w.in_ok-own.ensures)
          (w.entries-is ∙ w.in_ok-push_all.ensures) c.loop-index.invariant
      | else-is_in_force w ↦
          left-out (is_live_entry journal) (is_live journal) (λ e. refl) journal n within c.if-is_in_force.entries _
          (live false w.if-is_in_force.false)
          (ap (λ (es : List Entry). es ++ filter (is_live_entry journal) (entries_after (take n journal) (drop n journal))) w.entries-is
          ∙ c.loop-index.invariant)
    ]

pub returns : goal.returns
returns c =
    let journal = c.args.journal.now in
    let i = c.loop-index.index in
    let after = c.args.after.0 in
    let live = is_live_entry journal in
    let last : length journal ≤ i = omega (arith, c.loop-index-test.false, c.count.ensures.count) in
    let none : drop i journal ≡ [] = drop_all i journal last in
    let read : c.loop-index.entries ≡ filter live (entries_after (take after journal) (drop after journal)) =
    sym (ap (λ (rest : List Record). c.loop-index.entries ++ filter live (entries_after (take i journal) rest)) none
    ∙ append-nil c.loop-index.entries)
    ∙ c.loop-index.invariant in
    read
    ∙ ap (λ (j : List Record). filter (is_live_entry j) (entries_after (take after journal) (drop after journal)))
    (sym (take-append-drop after journal))
