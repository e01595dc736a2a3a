-- Which records are taken back, told of the whole journal.
use Rattle.std.proofs.Common.{◌≡◌, ℕ, ◌&&◌, not, List, take, drop, ap}
use Rattle.std.proofs.lemmas.List.{take-append-drop}
use Rattle.stock_model.specs.Entries.{is_live}
use Rattle.stock_model.specs.declared.records.Record.{Record}
use Rattle.repost_fetch.specs.Fetched.{is_taken}

pub taken-whole : (journal : List Record) (n k : ℕ) → is_taken (take n journal) (drop n journal) k ≡ (is_live (take n journal) k && not (is_live journal k))
taken-whole journal n k = ap (λ (j : List Record). is_live (take n journal) k && not (is_live j k)) (take-append-drop n journal)
