-- Queries and moments whose parts are equal are equal: how their ranges are known makes no difference.
use Rattle.std.proofs.Common.{◌≡◌}
use Rattle.stock_nums.specs.declared.moment.Moment.{Moment}
use Rattle.stock_nums.proofs.PlaceOrder.{Moment-same}
use Rattle.stock_model.specs.declared.queries.Query.{Query}

pub moment_same : (a b : Moment) → a.date ≡ b.date → a.second ≡ b.second → a ≡ b
moment_same a b date second = Moment-same a b date second

pub query_same : (a b : Query) → a.sheet ≡ b.sheet → a.need ≡ b.need → a.until ≡ b.until → a.item ≡ b.item → a.store ≡ b.store
    → a.format ≡ b.format → a ≡ b
query_same a b sheet need until item store format =
    λ i. record {
      sheet = sheet i;
      need = need i;
      until = until i;
      item = item i;
      store = store i;
      format = format i;
    }
