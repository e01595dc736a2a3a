-- A line as the code sees it.
use Rattle.std.specs.Prelude.{ℕ, List, Option, [], ◌∷◌}
use Rattle.std.specs.Option.{option_map_or, option_copied, option_to_list}
use Rattle.stock_model.specs.declared.seen.LineItem.{LineItem}
use Rattle.stock_model.specs.declared.seen.LineItem.TheVariants as item
use Rattle.stock_model.specs.declared.seen.LineView.{LineView}
use Rattle.stock_model.specs.declared.seen.Move.{Move}
use Rattle.stock_model.specs.declared.seen.Moves.{Moves}
use Rattle.stock_model.specs.declared.seen.Moves.TheVariants as moves
use Rattle.stock_model.specs.VoucherLines.{Subject, Coded, OfTarget, VoucherLine}

-- the item that is seen so
abbrev pub subject : LineItem → Subject
subject (item.Coded code) = Coded code.now
subject (item.OfTarget named) = OfTarget named

-- the line that is seen so
abbrev pub seen : LineView → VoucherLine
seen line =
    record {
      item = subject line.item;
      stores = line.store.now ∷ option_to_list (option_copied line.second);
      qty = line.qty;
      amount = line.amount;
      quantity = line.quantity;
      price = line.price;
    }

-- the moves in their order
abbrev pub moves_seen : Moves → List Move
moves_seen moves.None = []
moves_seen (moves.One first) = first ∷ []
moves_seen (moves.Two first second) = first ∷ second ∷ []

-- what is made of the element with this number, if there is one
abbrev pub made_at : {X Y : Type 0} → (ℕ × X → List Y) → ℕ → Option X → List Y
made_at make number found = option_map_or (λ x. make (number, x)) found []
