-- Records, lines and moments whose parts are equal are equal: how their ranges are known makes no difference.
use Rattle.std.proofs.Common.{◌≡◌, ◌≤◌, IsTrue}
use Rattle.stock_nums.specs.Quantities.{IsLineQuantity, is_line_amount}
use Rattle.stock_nums.specs.Targets.{is_target}
use Rattle.stock_nums.specs.declared.limits.TheConstants.{MAX_DESK}
use Rattle.stock_nums.specs.declared.moment.Moment.{Moment}
use Rattle.stock_nums.proofs.PlaceOrder.{Moment-same}
use Rattle.stock_model.specs.Limits.{is_within_limits}
use Rattle.stock_model.specs.declared.records.Record.{Record}
use Rattle.stock_model.specs.declared.vouchers.IssueLine.{IssueLine}
use Rattle.stock_model.specs.declared.vouchers.ReceiptLine.{ReceiptLine}
use Rattle.stock_model.specs.declared.vouchers.ReturnLine.{ReturnLine}
use Rattle.stock_model.specs.declared.vouchers.TransferLine.{TransferLine}
use mathlib.Core.HLevel.{is_prop→PathP}
use denote.Struct.Props.{props}

pub moment_same : (a b : Moment) → a.date ≡ b.date → a.second ≡ b.second → a ≡ b
moment_same a b date second = Moment-same a b date second

pub receipt_line_same : (a b : ReceiptLine) → a.item ≡ b.item → a.store ≡ b.store → a.qty ≡ b.qty → a.amount ≡ b.amount → a ≡ b
receipt_line_same a b item store qty amount =
    λ i. record {
      item = item i;
      store = store i;
      qty = qty i;
      amount = amount i;
      quantity = is_prop→PathP (λ j. IsLineQuantity (qty j).0) (λ j. hlevel props) a.quantity b.quantity i;
      price = is_prop→PathP (λ j. IsTrue (is_line_amount (amount j).0)) (λ j. hlevel props) a.price b.price i;
    }

pub issue_line_same : (a b : IssueLine) → a.item ≡ b.item → a.store ≡ b.store → a.qty ≡ b.qty → a ≡ b
issue_line_same a b item store qty =
    λ i. record {
      item = item i;
      store = store i;
      qty = qty i;
      quantity = is_prop→PathP (λ j. IsLineQuantity (qty j).0) (λ j. hlevel props) a.quantity b.quantity i;
    }

pub transfer_line_same : (a b : TransferLine) → a.item ≡ b.item → a.from ≡ b.from → a.to ≡ b.to → a.qty ≡ b.qty → a ≡ b
transfer_line_same a b item leaves enters qty =
    λ i. record {
      item = item i;
      from = leaves i;
      to = enters i;
      qty = qty i;
      quantity = is_prop→PathP (λ j. IsLineQuantity (qty j).0) (λ j. hlevel props) a.quantity b.quantity i;
    }

pub return_line_same : (a b : ReturnLine) → a.target ≡ b.target → a.store ≡ b.store → a.qty ≡ b.qty → a ≡ b
return_line_same a b target store qty =
    λ i. record {
      target = target i;
      store = store i;
      qty = qty i;
      named = is_prop→PathP (λ j. IsTrue (is_target (target j))) (λ j. hlevel props) a.named b.named i;
      quantity = is_prop→PathP (λ j. IsLineQuantity (qty j).0) (λ j. hlevel props) a.quantity b.quantity i;
    }

pub record_same : (a b : Record) → a.desk ≡ b.desk → a.what ≡ b.what → a ≡ b
record_same a b desk what =
    λ i. record {
      desk = desk i;
      what = what i;
      desks = is_prop→PathP (λ j. (desk j).0 ≤ MAX_DESK) (λ j. hlevel props) a.desks b.desks i;
      limits = is_prop→PathP (λ j. IsTrue (is_within_limits (what j))) (λ j. hlevel props) a.limits b.limits i;
    }
