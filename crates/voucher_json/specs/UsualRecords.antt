-- The parts of the stored text of a receipt or an issue.
use Rattle.std.specs.Prelude.{◌≡◌, ℕ, List, ◌∷◌, ◌++◌, codes, decimal}
use Rattle.json.specs.Print.{quoted}
use Rattle.serde_json.specs.Written.{compact_text}
use Rattle.stock_nums.specs.MomentText.{moment_text}
use Rattle.stock_nums.specs.declared.moment.Moment.{Moment}
use Rattle.stock_model.specs.declared.vouchers.What.{What}
use Rattle.voucher_json.specs.RecordTexts.{what_data}

-- the moment and the desk, the key of the kind, and then the rest
abbrev pub front_text : Moment → ℕ → List ℕ → List ℕ
front_text at desk rest = codes "{\"at\":" ++ (quoted (moment_text at) ++ (codes ",\"desk\":" ++ (decimal desk ++ (codes ",\"do\":" ++ rest))))

-- what a line says of its goods, the brace that closes it, and then the rest
abbrev pub goods_text : List ℕ → ℕ → List ℕ → List ℕ → List ℕ
goods_text item qty store rest = codes "\"item\":" ++ (quoted item ++ (codes ",\"qty\":" ++ (decimal qty ++ (codes ",\"store\":" ++ (quoted store ++ 125 ∷ rest)))))

-- the text is the rest of the stored text of what a voucher says that has this moment, whichever desk posted it
abbrev pub EndsRecord : Moment → List ℕ → What → Type 0
EndsRecord at text what = (desk : ℕ) → front_text at desk text ≡ compact_text (what_data desk what)
