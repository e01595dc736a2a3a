-- The tokens of a receipt or an issue in the usual form are read as the request.
use Rattle.std.proofs.Common.{◌≡◌, ℕ, suc, List, [], ◌∷◌, map, length, Bool, true, false, Some, Ok, IsTrue, IsUtf8, codes, refl, ap, ◌∙◌}
use Rattle.json.specs.Json as json
use Rattle.json.specs.Json.{items, members, value}
use Rattle.json.specs.Token.{Token, begin_object, end_object, begin_array, key, string}
use Rattle.json.specs.Lex.{tokens}
use Rattle.serde_json.specs.Data as spec
use Rattle.serde_json.specs.Data.{Data, Items, no_members, member}
use Rattle.serde_json.specs.Read.{of_json, of_items, converted}
use Rattle.serde_json.specs.View.{items_of}
use Rattle.voucher_json.proofs.Conversions.{converted_some, whole_read}
use Rattle.stock_nums.specs.MomentText.{SpellsMoment}
use Rattle.stock_nums.specs.declared.moment.Moment.{Moment}
use Rattle.stock_model.specs.Limits.{is_within_limits}
use Rattle.stock_model.specs.declared.read_faults.FieldName.TheVariants as field
use Rattle.stock_model.specs.declared.requests.Request.TheVariants.{Post}
use Rattle.stock_model.specs.declared.vouchers.IssueLine.{IssueLine}
use Rattle.stock_model.specs.declared.vouchers.Purpose.{Purpose}
use Rattle.stock_model.specs.declared.vouchers.ReceiptLine.{ReceiptLine}
use Rattle.stock_model.specs.declared.vouchers.What.{What}
use Rattle.stock_model.specs.declared.vouchers.What.TheVariants.{Receipt, Issue}
use Rattle.voucher_json.specs.Fields.{choose, IsWord}
use Rattle.voucher_json.specs.Records.{purposes, receipt_line, issue_line, IsWhat}
use Rattle.voucher_json.specs.Requests.{IsRequest, IsReadAs}
use Rattle.voucher_json.specs.Tables.{line_data}
use Rattle.voucher_json.specs.UsualTexts.{BeginsWithElements, EndsWithLines, BeginsWithPost, BeginsWithMoment, BeginsWithPurpose}
use Rattle.voucher_json.specs.declared.kinds.Kind.TheVariants as kind_of
use Rattle.voucher_json.specs.declared.kinds.RecordKind.TheVariants as record_of
use Rattle.voucher_json.proofs.LineFacts.{always, always-all, receipt_line-facts, issue_line-facts}
use Rattle.voucher_json.proofs.RecordWalks.{list-read}
use Rattle.voucher_json.proofs.Walks.{comes}

-- a receipt whose `at` is this text
abbrev receipt_data : List ℕ → List ReceiptLine → Data
receipt_data at lines =
    spec.object
    (member (codes "at") (spec.string at)
    (member (codes "do") (spec.string (codes "receipt"))
    (member (codes "lines") (spec.array (items_of (map (line_data receipt_line) lines))) no_members)))

-- an issue whose `at` and `use` are these texts
abbrev issue_data : List ℕ → List ℕ → List IssueLine → Data
issue_data at word lines =
    spec.object
    (member (codes "at") (spec.string at)
    (member (codes "do") (spec.string (codes "issue"))
    (member (codes "lines") (spec.array (items_of (map (line_data issue_line) lines)))
    (member (codes "use") (spec.string word) no_members))))

receipt-value : (d : ℕ) (at : List ℕ) (elements rest : List Token) (found : json.Items) → items (value d) (length elements) elements ≡ Some (found, end_object ∷ rest)
    → value (suc (suc d)) (begin_object ∷ key (codes "do") ∷ string (codes "receipt") ∷ key (codes "at") ∷ string at ∷ key (codes "lines") ∷ begin_array ∷ elements)
    ≡ Some (json.object (json.member (codes "do") (json.string (codes "receipt")) (json.member (codes "at") (json.string at) (json.member (codes "lines") (json.array found) json.no_members))), rest)
unfolding value members
receipt-value d at elements rest found are = rw are refl

issue-value : (d : ℕ) (at word : List ℕ) (elements rest : List Token) (found : json.Items) → items (value d) (length elements) elements ≡ Some (found, end_object ∷ rest)
    → value (suc (suc d)) (begin_object ∷ key (codes "do") ∷ string (codes "issue") ∷ key (codes "at") ∷ string at ∷ key (codes "use") ∷ string word ∷ key (codes "lines") ∷ begin_array ∷ elements)
    ≡ Some (json.object (json.member (codes "do") (json.string (codes "issue")) (json.member (codes "at") (json.string at) (json.member (codes "use") (json.string word) (json.member (codes "lines") (json.array found) json.no_members)))), rest)
unfolding value members
issue-value d at word elements rest found are = rw are refl

receipt-converted : (at : List ℕ) (lines : List ReceiptLine) (elements rest : List Token) → BeginsWithElements elements (items_of (map (line_data receipt_line) lines)) (end_object ∷ rest)
    → converted of_json (value 127 (begin_object ∷ key (codes "do") ∷ string (codes "receipt") ∷ key (codes "at") ∷ string at ∷ key (codes "lines") ∷ begin_array ∷ elements)) ≡ Some (receipt_data at lines, rest)
receipt-converted at lines elements rest are =
    let found = converted_some of_items (items (value 125) (length elements) elements) (items_of (map (line_data receipt_line) lines)) (end_object ∷ rest) are.reads in
    rw (receipt-value 125 at elements rest found.0 found.1, found.2) refl

issue-converted : (at word : List ℕ) (lines : List IssueLine) (elements rest : List Token) → BeginsWithElements elements (items_of (map (line_data issue_line) lines)) (end_object ∷ rest)
    → converted of_json (value 127 (begin_object ∷ key (codes "do") ∷ string (codes "issue") ∷ key (codes "at") ∷ string at ∷ key (codes "use") ∷ string word ∷ key (codes "lines") ∷ begin_array ∷ elements))
    ≡ Some (issue_data at word lines, rest)
issue-converted at word lines elements rest are =
    let found = converted_some of_items (items (value 125) (length elements) elements) (items_of (map (line_data issue_line) lines)) (end_object ∷ rest) are.reads in
    rw (issue-value 125 at word elements rest found.0 found.1, found.2) refl

receipt-is : (text : List ℕ) (at : Moment) (lines : List ReceiptLine) → SpellsMoment text at → IsTrue (is_within_limits (Receipt at lines))
    → IsWhat (field.Do ∷ []) record_of.Receipt (receipt_data text lines) (Ok (Receipt at lines))
receipt-is text at lines spells limits =
    comes _ _ (at, lines) _
    (comes _ _ at _ (comes _ _ text _ refl spells) (comes _ _ lines _ (list-read receipt_line always receipt_line-facts field.Lines lines limits (always-all lines)) (comes _ _ tt _ refl refl))) refl

issue-is : (text word : List ℕ) (at : Moment) (purpose : Purpose) (lines : List IssueLine) → SpellsMoment text at → choose purposes word ≡ Some purpose → IsTrue (is_within_limits (Issue at purpose lines))
    → IsWhat (field.Do ∷ []) record_of.Issue (issue_data text word lines) (Ok (Issue at purpose lines))
issue-is text word at purpose lines spells names limits =
    let named : IsWord purposes field.Use 0 (spec.string word) (Ok purpose) = rw names refl in
    comes _ _ at _ (comes _ _ text _ refl spells)
    (comes _ _ purpose _ named (comes _ _ lines _ (list-read issue_line always issue_line-facts field.Lines lines limits (always-all lines)) (comes _ _ tt _ refl refl)))

receipt-asks : (at_desk : Bool) (text : List ℕ) (at : Moment) (lines : List ReceiptLine) → SpellsMoment text at → IsTrue (is_within_limits (Receipt at lines))
    → IsRequest at_desk (receipt_data text lines) (Ok (Post (Receipt at lines)))
receipt-asks true text at lines spells limits = comes _ _ tt _ refl (comes _ _ (kind_of.Post record_of.Receipt) _ refl (comes _ _ (Receipt at lines) _ (receipt-is text at lines spells limits) refl))
receipt-asks false text at lines spells limits = comes _ _ tt _ refl (comes _ _ (kind_of.Post record_of.Receipt) _ refl (comes _ _ (Receipt at lines) _ (receipt-is text at lines spells limits) refl))

issue-asks : (at_desk : Bool) (text word : List ℕ) (at : Moment) (purpose : Purpose) (lines : List IssueLine) → SpellsMoment text at → choose purposes word ≡ Some purpose
    → IsTrue (is_within_limits (Issue at purpose lines)) → IsRequest at_desk (issue_data text word lines) (Ok (Post (Issue at purpose lines)))
issue-asks true text word at purpose lines spells names limits =
    comes _ _ tt _ refl (comes _ _ (kind_of.Post record_of.Issue) _ refl (comes _ _ (Issue at purpose lines) _ (issue-is text word at purpose lines spells names limits) refl))
issue-asks false text word at purpose lines spells names limits =
    comes _ _ tt _ refl (comes _ _ (kind_of.Post record_of.Issue) _ refl (comes _ _ (Issue at purpose lines) _ (issue-is text word at purpose lines spells names limits) refl))

-- a receipt is read
pub receipt_read : (at : Moment) (lines : List ReceiptLine) (first moment rest : List Token) → BeginsWithMoment first at moment → EndsWithLines moment (items_of (map (line_data receipt_line) lines)) rest
    → IsTrue (is_within_limits (Receipt at lines)) → BeginsWithPost (begin_object ∷ key (codes "do") ∷ string (codes "receipt") ∷ first) (Receipt at lines) rest
receipt_read at lines first moment rest m l limits =
    let all : first ≡ key (codes "at") ∷ string m.text ∷ key (codes "lines") ∷ begin_array ∷ l.list = cc (m.first, l.first) in
    record {
      object = receipt_data m.text lines;
      reads = rw all (receipt-converted m.text lines l.list rest l.are);
      asks = λ at_desk. receipt-asks at_desk m.text at lines m.spells limits;
    }

-- an issue is read
pub issue_read : (at : Moment) (purpose : Purpose) (lines : List IssueLine) (first moment used rest : List Token) → BeginsWithMoment first at moment → BeginsWithPurpose moment purpose used
    → EndsWithLines used (items_of (map (line_data issue_line) lines)) rest → IsTrue (is_within_limits (Issue at purpose lines))
    → BeginsWithPost (begin_object ∷ key (codes "do") ∷ string (codes "issue") ∷ first) (Issue at purpose lines) rest
issue_read at purpose lines first moment used rest m p l limits =
    let all : first ≡ key (codes "at") ∷ string m.text ∷ key (codes "use") ∷ string p.word ∷ key (codes "lines") ∷ begin_array ∷ l.list = cc (m.first, p.first, l.first) in
    record {
      object = issue_data m.text p.word lines;
      reads = rw all (issue-converted m.text p.word lines l.list rest l.are);
      asks = λ at_desk. issue-asks at_desk m.text p.word at purpose lines m.spells p.names limits;
    }

-- a text of which nothing is left is read as the request
pub post_read : (text : List ℕ) (what : What) (rest : List Token) → IsUtf8 text → BeginsWithPost (tokens text) what rest → rest ≡ [] → (at_desk : Bool) → IsReadAs at_desk text (Ok (Post what))
post_read text what rest utf8 begins none at_desk =
    comes _ _ begins.object _ (utf8, whole_read (value 127 (tokens text)) begins.object (begins.reads ∙ ap (λ r. Some (begins.object, r)) none)) (begins.asks at_desk)
