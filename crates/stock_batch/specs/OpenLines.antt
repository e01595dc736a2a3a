-- The line under way as it is kept: a line that is too long is not.
use Rattle.std.specs.Prelude.{ℕ, ◌≡◌, false, List, length, nat_lt}
use Rattle.stock_model.specs.InputLines.{is_blank}
use Rattle.stock_model.specs.Run.{max_line}
use Rattle.stock_batch.specs.declared.open_line.OpenLine.{OpenLine}

-- what is kept stands for this line
pub record StandsForLine (kept : OpenLine) (line : List ℕ) : Type 0 where
  pub blank : kept.blank ≡ is_blank line
  pub long : kept.long ≡ nat_lt max_line (length line)
  pub whole : kept.long ≡ false → kept.bytes.items ≡ line
