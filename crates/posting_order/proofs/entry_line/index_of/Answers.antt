-- Posting order leaves one index for the place.
use Rattle.std.proofs.Common.{◌≡◌, Some, None, slice_get, sym, ap, ◌∙◌}
use Rattle.std.specs.Option.{option_copied}
use Rattle.posting_order.proofs.Places.{entry_at-read, entry_at-other, entry_at-end}
use Rattle.posting_order.proofs.entry_line.index_of.Goals as goal

pub returns-then-is_at-clause-found : goal.returns-then-is_at-clause-found
returns-then-is_at-clause-found c =
    let read : slice_get c.args.list.now.items c.count_before-index.result ≡ Some c.in-Some.entry.now = sym c.get.ensures ∙ ap option_copied c.in-Some.is in
    let there = entry_at-read c.args.list.now.items c.args.place.now c.count_before-index.result c.in-Some.entry.now c.requires c.count_before-index.ensures.count read (sym c.is_at.ensures ∙ c.if-is_at.true) in
    (there.0, there.1)

pub returns-then-is_at-clause-rest : goal.returns-then-is_at-clause-rest
returns-then-is_at-clause-rest c =
    let read : slice_get c.args.list.now.items c.count_before-index.result ≡ Some c.in-Some.entry.now = sym c.get.ensures ∙ ap option_copied c.in-Some.is in
    (entry_at-read c.args.list.now.items c.args.place.now c.count_before-index.result c.in-Some.entry.now c.requires c.count_before-index.ensures.count read (sym c.is_at.ensures ∙ c.if-is_at.true)).2

pub returns-else-is_at-clause-found : goal.returns-else-is_at-clause-found
returns-else-is_at-clause-found c =
    let read : slice_get c.args.list.now.items c.count_before-index.result ≡ Some c.in-Some.entry.now = sym c.get.ensures ∙ ap option_copied c.in-Some.is in
    (entry_at-other c.args.list.now.items c.args.place.now c.count_before-index.result c.in-Some.entry.now c.requires c.count_before-index.ensures.count read (sym c.is_at.ensures ∙ c.if-is_at.false)).0

pub returns-else-is_at-clause-rest : goal.returns-else-is_at-clause-rest
returns-else-is_at-clause-rest c =
    let read : slice_get c.args.list.now.items c.count_before-index.result ≡ Some c.in-Some.entry.now = sym c.get.ensures ∙ ap option_copied c.in-Some.is in
    (entry_at-other c.args.list.now.items c.args.place.now c.count_before-index.result c.in-Some.entry.now c.requires c.count_before-index.ensures.count read (sym c.is_at.ensures ∙ c.if-is_at.false)).1

pub returns-in-None-clause-found : goal.returns-in-None-clause-found
returns-in-None-clause-found c =
    let past : slice_get c.args.list.now.items c.count_before-index.result ≡ None = sym c.get.ensures ∙ ap option_copied c.in-None.is in
    (entry_at-end c.args.list.now.items c.args.place.now c.count_before-index.result c.requires c.count_before-index.ensures.count past).0

pub returns-in-None-clause-rest : goal.returns-in-None-clause-rest
returns-in-None-clause-rest c =
    let past : slice_get c.args.list.now.items c.count_before-index.result ≡ None = sym c.get.ensures ∙ ap option_copied c.in-None.is in
    (entry_at-end c.args.list.now.items c.args.place.now c.count_before-index.result c.requires c.count_before-index.ensures.count past).1
