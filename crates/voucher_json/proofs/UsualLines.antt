-- The tokens of lines in the usual form are read as the lines.
use Rattle.std.proofs.Common.{◌≡◌, ℕ, suc, ◌-◌, ◌<◌, ◌≤◌, List, [], ◌∷◌, ◌++◌, map, length, Some, None, ℤ, pos, codes, refl, ap, ◌∙◌, arith}
use Rattle.json.specs.Json as json
use Rattle.json.specs.Json.{after_end_array, items, members, parse_map, value}
use Rattle.json.specs.Token.{Token, begin_object, end_object, begin_array, end_array, key, string, number, boolean, null, bad}
use Rattle.json.proofs.Grammar.{left, skip_value-shorter}
use Rattle.serde_json.specs.Data as spec
use Rattle.serde_json.specs.Data.{unsigned, Data, Items, no_items, item, no_members, member}
use Rattle.serde_json.specs.Find.{of_integer}
use Rattle.serde_json.specs.Read.{number_of, of_json, of_items, converted}
use Rattle.serde_json.specs.View.{items_of}
use Rattle.voucher_json.proofs.Conversions.{converted_some, item_read, items_over}
use Rattle.voucher_json.specs.UsualTexts.{BeginsWithNumber, BeginsWithGoods, BeginsWithElement, BeginsWithElements}

-- a line of a receipt, as tokens
abbrev receipt_line_tokens : List ℕ → List ℕ → List ℕ → List ℕ → List Token → List Token
receipt_line_tokens i s q a rest =
    begin_object ∷ key (codes "item") ∷ string i ∷ key (codes "store") ∷ string s ∷ key (codes "qty") ∷ number q ∷ key (codes "amount") ∷ number a ∷ end_object ∷ rest

-- and of an issue
abbrev issue_line_tokens : List ℕ → List ℕ → List ℕ → List Token → List Token
issue_line_tokens i s q rest = begin_object ∷ key (codes "item") ∷ string i ∷ key (codes "store") ∷ string s ∷ key (codes "qty") ∷ number q ∷ end_object ∷ rest

receipt_line-value : (d : ℕ) (i s q a : List ℕ) (rest : List Token) → value (suc (suc d)) (receipt_line_tokens i s q a rest)
    ≡ Some (json.object (json.member (codes "item") (json.string i) (json.member (codes "store") (json.string s) (json.member (codes "qty") (json.number q) (json.member (codes "amount") (json.number a) json.no_members)))), rest)
unfolding value members
receipt_line-value d i s q a rest = refl

issue_line-value : (d : ℕ) (i s q : List ℕ) (rest : List Token) → value (suc (suc d)) (issue_line_tokens i s q rest)
    ≡ Some (json.object (json.member (codes "item") (json.string i) (json.member (codes "store") (json.string s) (json.member (codes "qty") (json.number q) json.no_members))), rest)
unfolding value members
issue_line-value d i s q rest = refl

receipt_line-converted : (i s q a : List ℕ) (qty amount : ℕ) (rest : List Token) → number_of q ≡ Some (unsigned qty) → number_of a ≡ Some (unsigned amount)
    → converted of_json (value 125 (receipt_line_tokens i s q a rest))
    ≡ Some (spec.object (member (codes "amount") (spec.number (unsigned amount)) (member (codes "item") (spec.string i) (member (codes "qty") (spec.number (unsigned qty)) (member (codes "store") (spec.string s) no_members)))), rest)
receipt_line-converted i s q a qty amount rest of_q of_a = rw (receipt_line-value 123 i s q a rest, of_q, of_a) refl

issue_line-converted : (i s q : List ℕ) (qty : ℕ) (rest : List Token) → number_of q ≡ Some (unsigned qty)
    → converted of_json (value 125 (issue_line_tokens i s q rest))
    ≡ Some (spec.object (member (codes "item") (spec.string i) (member (codes "qty") (spec.number (unsigned qty)) (member (codes "store") (spec.string s) no_members))), rest)
issue_line-converted i s q qty rest of_q = rw (issue_line-value 123 i s q rest, of_q) refl

-- a line of a receipt is read
pub receipt_line_read : (code store : List ℕ) (qty amount : ℕ) (price : ℤ) (tokens goods named numbered rest : List Token) → BeginsWithGoods tokens code store qty goods → goods ≡ key (codes "amount") ∷ named
    → BeginsWithNumber named amount numbered → numbered ≡ end_object ∷ rest → price ≡ pos amount
    → BeginsWithElement tokens
    (spec.object (member (codes "amount") (spec.number (of_integer price)) (member (codes "item") (spec.string code) (member (codes "qty") (spec.number (unsigned qty)) (member (codes "store") (spec.string store) no_members))))) rest
receipt_line_read code store qty amount price tokens goods named numbered rest g is n closed same =
    let all : tokens ≡ receipt_line_tokens code store g.text n.text rest = cc (g.first, n.first) in
    record { reads = rw (all, same) (receipt_line-converted code store g.text n.text qty amount rest g.reads n.reads) }

-- and of an issue
pub issue_line_read : (code store : List ℕ) (qty : ℕ) (tokens goods rest : List Token) → BeginsWithGoods tokens code store qty goods → goods ≡ end_object ∷ rest
    → BeginsWithElement tokens (spec.object (member (codes "item") (spec.string code) (member (codes "qty") (spec.number (unsigned qty)) (member (codes "store") (spec.string store) no_members)))) rest
issue_line_read code store qty tokens goods rest g closed =
    let all : tokens ≡ issue_line_tokens code store g.text rest = cc (g.first) in
    record { reads = rw all (issue_line-converted code store g.text qty rest g.reads) }

-- where an element comes, the list does not end
no_end : (tokens rest : List Token) (d : Data) → converted of_json (value 125 tokens) ≡ Some (d, rest) → after_end_array tokens ≡ None
unfolding value
no_end [] rest d is = refl
no_end (begin_object ∷ ts) rest d is = refl
no_end (end_object ∷ ts) rest d is = refl
no_end (begin_array ∷ ts) rest d is = refl
no_end (end_array ∷ ts) rest d is = absurd (cc)
no_end (key s ∷ ts) rest d is = refl
no_end (string s ∷ ts) rest d is = refl
no_end (number s ∷ ts) rest d is = refl
no_end (boolean b ∷ ts) rest d is = refl
no_end (null ∷ ts) rest d is = refl
no_end (bad ∷ ts) rest d is = refl

-- elements, and then more
abbrev then_items : List Data → Items → Items
then_items [] more = more
then_items (d ∷ ds) more = item d (then_items ds more)

then_items-no_items : (ds : List Data) → then_items ds no_items ≡ items_of ds
then_items-no_items [] = refl
then_items-no_items (d ∷ ds) = ap (item d) (then_items-no_items ds)

module _ {A : Type 0} (data_of : A → Data) where
  then_items-more : (done : List A) (line : A) (more : Items) → then_items (map data_of done) (item (data_of line) more) ≡ then_items (map data_of (done ++ line ∷ [])) more
  then_items-more [] line more = refl
  then_items-more (first ∷ done) line more = ap (item (data_of first)) (then_items-more done line more)

  -- These elements were read of the list, and its rest takes no more than so many turns.
  pub record HasRead (list : List Token) (done : List A) (rest : List Token) : Type 0 where
    pub turns : ℕ
    pub enough : length rest ≤ turns
    pub reads : (more : Items) (after : List Token) → converted of_items (items (value 125) turns rest) ≡ Some (more, after)
        → converted of_items (items (value 125) (length list) list) ≡ Some (then_items (map data_of done) more, after)

  -- none was read yet
  pub HasRead-start : (list : List Token) → HasRead list [] list
  HasRead-start list = record { turns = length list; enough = omega arith; reads = λ more after is. is }

  -- one more is read
  pub HasRead-more : (list : List Token) (done : List A) (rest next : List Token) (line : A) → HasRead list done rest → BeginsWithElement rest (data_of line) next → HasRead list (done ++ line ∷ []) next
  HasRead-more list done rest next line h is =
      let going : after_end_array rest ≡ None = no_end rest next (data_of line) is.reads in
      let found = converted_some of_json (value 125 rest) (data_of line) next is.reads in
      let shorter : length next < length rest = skip_value-shorter 125 rest next (ap left found.1) in
      let enough : length rest ≤ h.turns = h.enough in
      record {
        turns = h.turns - 1;
        enough = omega arith;
        reads = λ more after are.
            h.reads (item (data_of line) more) after (item_read (value 125) h.turns rest next (data_of line) (omega arith) going is.reads ∙ ap (parse_map (item (data_of line))) are)
            ∙ ap (λ all. Some (all, after)) (then_items-more done line more);
      }

  -- all are read
  pub HasRead-over : (list : List Token) (done : List A) (rest after : List Token) → HasRead list done rest → rest ≡ end_array ∷ after → BeginsWithElements list (items_of (map data_of done)) after
  HasRead-over list done rest after h closes =
      let over : after_end_array rest ≡ Some after = ap after_end_array closes in
      record { reads = h.reads no_items after (items_over (value 125) h.turns rest after h.enough over) ∙ ap (λ all. Some (all, after)) (then_items-no_items (map data_of done)) }
