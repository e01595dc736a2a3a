-- What the tokens of a request in the usual form are, where the text is read with no JSON value in between.
use Rattle.std.specs.Prelude.{ℕ, ◌≡◌, ◌≤◌, List, ◌∷◌, codes, length, Bool, Some, Ok}
use Rattle.json.specs.Json.{items, value}
use Rattle.json.specs.Token.{Token, begin_object, end_object, begin_array, key, string, number}
use Rattle.serde_json.specs.Data.{unsigned, Data, Items}
use Rattle.serde_json.specs.Read.{number_of, of_json, of_items, converted, max_depth}
use Rattle.stock_nums.specs.MomentText.{SpellsMoment}
use Rattle.stock_nums.specs.declared.limits.TheConstants.{MAX_QUANTITY}
use Rattle.stock_nums.specs.declared.moment.Moment.{Moment}
use Rattle.stock_model.specs.declared.requests.Request.TheVariants.{Post}
use Rattle.stock_model.specs.declared.vouchers.Purpose.{Purpose}
use Rattle.stock_model.specs.declared.vouchers.What.{What}
use Rattle.voucher_json.specs.Fields.{choose}
use Rattle.voucher_json.specs.Records.{purposes}
use Rattle.voucher_json.specs.Requests.{IsRequest}

-- the first token is this whole number, before the rest
pub record BeginsWithNumber (tokens : List Token) (n : ℕ) (rest : List Token) : Type 0 where
  pub text : List ℕ
  pub first : tokens ≡ number text ∷ rest
  pub reads : number_of text ≡ Some (unsigned n)

-- an object opens with `item`, `store` and `qty`, from 1 to 10^9, before the rest
pub record BeginsWithGoods (tokens : List Token) (item store : List ℕ) (qty : ℕ) (rest : List Token) : Type 0 where
  pub text : List ℕ
  pub first : tokens ≡ begin_object ∷ key (codes "item") ∷ string item ∷ key (codes "store") ∷ string store ∷ key (codes "qty") ∷ number text ∷ rest
  pub reads : number_of text ≡ Some (unsigned qty)
  pub least : 1 ≤ qty
  pub most : qty ≤ MAX_QUANTITY

-- an element of a list of the outer object, which has two levels of nesting around it, is this value, before the rest
pub record BeginsWithElement (tokens : List Token) (element : Data) (rest : List Token) : Type 0 where
  pub reads : converted of_json (value 125 tokens) ≡ Some (element, rest)

-- the elements of a list of the outer object, and the bracket that closes it, come before the rest
pub record BeginsWithElements (tokens : List Token) (elements : Items) (rest : List Token) : Type 0 where
  pub reads : converted of_items (items (value 125) (length tokens) tokens) ≡ Some (elements, rest)

-- the last field, `lines`, has these elements, and the brace that closes the object comes before the rest
pub record EndsWithLines (tokens : List Token) (elements : Items) (rest : List Token) : Type 0 where
  pub list : List Token
  pub first : tokens ≡ key (codes "lines") ∷ begin_array ∷ list
  pub are : BeginsWithElements list elements (end_object ∷ rest)

-- the first value asks, at a desk or not, to post what a record says, before the rest
pub record BeginsWithPost (tokens : List Token) (what : What) (rest : List Token) : Type 0 where
  pub object : Data
  pub reads : converted of_json (value max_depth tokens) ≡ Some (object, rest)
  pub asks : (at_desk : Bool) → IsRequest at_desk object (Ok (Post what))

-- `at` spells this moment, before the rest
pub record BeginsWithMoment (tokens : List Token) (at : Moment) (rest : List Token) : Type 0 where
  pub text : List ℕ
  pub first : tokens ≡ key (codes "at") ∷ string text ∷ rest
  pub spells : SpellsMoment text at

-- `use` names this purpose, before the rest
pub record BeginsWithPurpose (tokens : List Token) (purpose : Purpose) (rest : List Token) : Type 0 where
  pub word : List ℕ
  pub first : tokens ≡ key (codes "use") ∷ string word ∷ rest
  pub names : choose purposes word ≡ Some purpose
