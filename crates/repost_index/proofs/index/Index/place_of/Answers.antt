-- The moment that is kept for the record is that of each of its movements.
use Rattle.std.proofs.Common.{◌≡◌, ◌-◌, List, Some, ap, sym, ◌∙◌, arith}
use Rattle.std.specs.List.{slice_get}
use Rattle.std.proofs.lemmas.Option.{get_or_from_slice_get, slice_get_within}
use Rattle.stock_nums.specs.declared.moment.Moment.{Moment}
use Rattle.repost_index.specs.IndexState.{IndexState}
use Rattle.repost_index.proofs.OwnPlaces.{place_by-own, kept-moment, is-numbered}
use Rattle.repost_index.proofs.index.Index.place_of.Goals as goal

pub returns-then-own-eq0-clause-place : goal.returns-then-own-eq0-clause-place
returns-then-own-eq0-clause-place g c e held own on =
    absurd (omega (arith, is-numbered c.args.self.now.moments c.args.own e (c.requires.moments e held) own, c.if-own-eq0.true))

pub returns-in-Some-clause-place : goal.returns-in-Some-clause-place
returns-in-Some-clause-place g c e held own on =
    let at = c.args.own.voucher.0 - 1 in
    let told : c.deref.result.now ≡ c.args.self.now.moments = c.deref.ensures.value
    ∙ ap (λ (s : IndexState). s.moments) c.self.view_is in
    let kept : slice_get c.deref.result.now at ≡ Some e.place.moment = ap (λ (ms : List Moment). slice_get ms at) told
    ∙ kept-moment c.args.self.now.moments c.args.own e (c.requires.moments e held) own in
    let moment : e.place.moment ≡ c.in-Some.moment.now =
    sym (c.in-Some.ensures.lookup.3.1 e.place.moment
    ∙ get_or_from_slice_get c.deref.result.now at e.place.moment e.place.moment kept) in
    ap Some (place_by-own c.in-Some.moment.now c.args.own c.args.side e moment own on)

pub returns-in-None-clause-place : goal.returns-in-None-clause-place
returns-in-None-clause-place g c e held own on =
    let at = c.args.own.voucher.0 - 1 in
    let told : c.deref.result.now ≡ c.args.self.now.moments = c.deref.ensures.value
    ∙ ap (λ (s : IndexState). s.moments) c.self.view_is in
    let kept : slice_get c.deref.result.now at ≡ Some e.place.moment = ap (λ (ms : List Moment). slice_get ms at) told
    ∙ kept-moment c.args.self.now.moments c.args.own e (c.requires.moments e held) own in
    absurd (omega (arith, slice_get_within c.deref.result.now at e.place.moment kept, c.in-None.ensures.lookup.3))
