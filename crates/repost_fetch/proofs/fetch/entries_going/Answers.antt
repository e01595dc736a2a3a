-- One record more is read, and after the last one those that go are all read.
use Rattle.std.proofs.Common.{◌≡◌, ◌+◌, ◌<◌, ◌≤◌, List, [], ◌++◌, length, take, drop, filter, refl, sym, ap, ◌∙◌, arith, length-take}
use Rattle.std.proofs.lemmas.List.{append-nil, drop_all}
use Rattle.stock_nums.specs.declared.entry.Entry.{Entry}
use Rattle.stock_model.specs.Entries.{entries_after}
use Rattle.stock_model.specs.declared.records.Record.{Record}
use Rattle.repost_laws.specs.Touched.{is_gone}
use Rattle.repost_fetch.specs.Fetched.{is_taken}
use Rattle.repost_fetch.proofs.FetchSteps.{passed-next, left-out, entries_of-take}
use Rattle.repost_fetch.proofs.NoCancels.{going-none, none-lent}
use Rattle.repost_fetch.proofs.TakenRecords.{taken-whole}
use Rattle.repost_fetch.proofs.fetch.entries_going.Goals as goal
use Rattle.repost_fetch.proofs.fetch.entries_going.Goals.{then-is_taken+in_ok-own+in_ok-push_all, else-is_taken}

pub returns-then-not-has_cancel : goal.returns-then-not-has_cancel
returns-then-not-has_cancel c =
    let journal = c.args.journal.now in
    let after = c.args.after.0 in
    let none = none-lent c.records.result.now journal after c.records.ensures.records (sym c.has_cancel.ensures ∙ c.if-not-has_cancel.true) in
    c.new.ensures ∙ sym (going-none (take after journal) (drop after journal) none)

pub loop-index-preserved : goal.loop-index-preserved
loop-index-preserved c =
    let journal = c.args.journal.now in
    let after = c.args.after.0 in
    let front = take after journal in
    let taken = is_taken front (drop after journal) in
    let n = c.loop-index.index in
    let before : n < after = c.loop-index-test.true in
    let within : n < length front = omega (arith, before, length-take after journal, c.requires.within) in
    elim c.if-is_taken.branch [
      | then-is_taken+in_ok-own+in_ok-push_all w ↦
          passed-next (is_gone taken) taken (λ e. refl) front n within c.loop-index.entries w.as_slice.result.now
          c.if-is_taken.entries _ (taken-whole journal after (n + 1) ∙ sym c.is_taken.ensures ∙ w.if-is_taken.true)
          (w.as_slice.ensures ∙ w.in_ok-own.ensures ∙ entries_of-take journal after n before c.requires.within)
          (w.entries-is ∙ w.in_ok-push_all.ensures) c.loop-index.invariant
      | else-is_taken w ↦
          left-out (is_gone taken) taken (λ e. refl) front n within c.if-is_taken.entries _
          (taken-whole journal after (n + 1) ∙ sym c.is_taken.ensures ∙ w.if-is_taken.false)
          (ap (λ (es : List Entry). es ++ filter (is_gone taken) (entries_after (take n front) (drop n front))) w.entries-is
          ∙ c.loop-index.invariant)
    ]

pub returns : goal.returns
returns c =
    let journal = c.args.journal.now in
    let after = c.args.after.0 in
    let front = take after journal in
    let taken = is_gone (is_taken front (drop after journal)) in
    let i = c.loop-index.index in
    let last : length front ≤ i = omega (arith, c.loop-index-test.false, length-take after journal) in
    let none : drop i front ≡ [] = drop_all i front last in
    sym (ap (λ (rest : List Record). c.loop-index.entries ++ filter taken (entries_after (take i front) rest)) none
    ∙ append-nil c.loop-index.entries)
    ∙ c.loop-index.invariant
