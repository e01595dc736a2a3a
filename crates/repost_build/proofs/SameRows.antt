-- Movements, places and moments whose parts are equal are equal: how their ranges are known makes no difference.
use Rattle.std.proofs.Common.{◌≡◌, IsTrue}
use Rattle.stock_nums.specs.Causes.{has_amounts_in_range, has_side}
use Rattle.stock_nums.specs.Quantities.{IsLineQuantity}
use Rattle.stock_nums.specs.declared.entry.Entry.{Entry}
use Rattle.stock_nums.specs.declared.moment.Moment.{Moment}
use Rattle.stock_nums.specs.declared.place.Place.{Place}
use Rattle.stock_nums.proofs.PlaceOrder.{Moment-same}
use mathlib.Core.HLevel.{is_prop→PathP}
use denote.Struct.Props.{props}

pub moment_same : (a b : Moment) → a.date ≡ b.date → a.second ≡ b.second → a ≡ b
moment_same a b date second = Moment-same a b date second

pub place_same : (a b : Place) → a.moment ≡ b.moment → a.voucher ≡ b.voucher → a.line ≡ b.line → a.side ≡ b.side → a ≡ b
place_same a b moment voucher line side = λ i. record { moment = moment i; voucher = voucher i; line = line i; side = side i }

pub entry_same : (a b : Entry) → a.place ≡ b.place → a.item ≡ b.item → a.store ≡ b.store → a.qty ≡ b.qty → a.method ≡ b.method
    → a.cause ≡ b.cause → a ≡ b
entry_same a b place item store qty method cause =
    λ i. record {
      place = place i;
      item = item i;
      store = store i;
      qty = qty i;
      method = method i;
      cause = cause i;
      quantity = is_prop→PathP (λ j. IsLineQuantity (qty j).0) (λ j. hlevel props) a.quantity b.quantity i;
      amounts = is_prop→PathP (λ j. IsTrue (has_amounts_in_range (cause j))) (λ j. hlevel props) a.amounts b.amounts i;
      sides = is_prop→PathP (λ j. IsTrue (has_side (cause j) (place j).side)) (λ j. hlevel props) a.sides b.sides i;
    }
