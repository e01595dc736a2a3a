-- Where a movement stands, by its line of a voucher, its side, and the moment that is kept for the record.
use Rattle.std.proofs.Common.{◌≡◌, ◌-◌, ◌<◌, List, Some, Contains, sym, ap, ◌∙◌, subst}
use Rattle.std.specs.List.{slice_get}
use Rattle.stock_nums.specs.declared.cause.Target.{Target}
use Rattle.stock_nums.specs.declared.entry.Entry.{Entry}
use Rattle.stock_nums.specs.declared.moment.Moment.{Moment}
use Rattle.stock_nums.specs.declared.place.Place.{Place}
use Rattle.stock_nums.specs.declared.place.Side.{Side}
use Rattle.stock_model.specs.InOrder.{IsBefore}
use Rattle.stock_model.specs.Values.{own_line}
use Rattle.stock_model.proofs.Pairwise.{Pairwise-from_AllPairs}
use Rattle.repost_laws.proofs.Turns.{one_place}
use Rattle.repost_index.specs.IndexState.{IndexState}
use Rattle.repost_index.specs.Indexed.{AreIndexed}
use Rattle.repost_index.specs.Moments.{IsMomentAt}

-- a place by a line of a voucher
abbrev pub place_by : Moment → Target → Side → Place
place_by moment own side = record { moment = moment; voucher = own.voucher; line = own.line; side = side }

-- a movement's own
pub place_by-own : (moment : Moment) (own : Target) (side : Side) (e : Entry) → e.place.moment ≡ moment → own_line e ≡ own
    → e.place.side ≡ side → place_by moment own side ≡ e.place
place_by-own moment own side e at line on =
    sym (ap (λ (m : Moment). place_by m (own_line e) e.place.side) at
    ∙ ap (λ (t : Target). place_by moment t e.place.side) line
    ∙ ap (place_by moment own) on)

-- the moment that is kept for a line's record
pub kept-moment : (moments : List Moment) (own : Target) (e : Entry) → IsMomentAt moments e.place → own_line e ≡ own
    → slice_get moments (own.voucher.0 - 1) ≡ Some e.place.moment
kept-moment moments own e at line =
    ap (λ (t : Target). slice_get moments (t.voucher.0 - 1)) (sym line) ∙ at.kept

-- the record of a line by which something moves has a number
pub is-numbered : (moments : List Moment) (own : Target) (e : Entry) → IsMomentAt moments e.place → own_line e ≡ own
    → 0 < own.voucher.0
is-numbered moments own e at line = subst (λ (t : Target). 0 < t.voucher.0) line at.numbered

some-same : (m n : Moment) → Some m ≡ Some n → m ≡ n
some-same m n h = cc

-- by a line of a voucher one movement goes on each side
pub line-once : (line : List Entry) (index : IndexState) (e f : Entry) → AreIndexed line index → Contains line e
    → Contains line f → own_line e ≡ own_line f → e.place.side ≡ f.place.side → e ≡ f
line-once line index e f indexed held other own on =
    let at = indexed.moments f other in
    let moment : e.place.moment ≡ f.place.moment =
    some-same e.place.moment f.place.moment
    (sym (kept-moment index.moments (own_line f) e (indexed.moments e held) own) ∙ at.kept) in
    sym (one_place line e f (Pairwise-from_AllPairs IsBefore line indexed.in_order) held other
    (place_by-own f.place.moment (own_line f) f.place.side e moment own on))
