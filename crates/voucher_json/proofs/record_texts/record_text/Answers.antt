use Rattle.std.proofs.Common.{Vec, Global, ℕ, List, IsUtf8, sym, ap, ◌∙◌, subst}
use Rattle.std.proofs.lemmas.Str.{IsUtf8-string_bytes}
use Rattle.serde_json.specs.Written.{compact_text}
use Rattle.voucher_json.proofs.StoredRecords.{no_float-record}
use Rattle.voucher_json.proofs.record_texts.record_text.Goals as goal

pub returns-clause-text : goal.returns-clause-text
returns-clause-text c =
    let no_float = no_float-record c.args.item.now in
    let text = c.in_ok-text.ensures.text (rw c.in_ok-record_value.ensures no_float) in
    c.from_vec.ensures ∙ ap (λ (v : Vec ℕ Global). v.items) c.into_bytes.ensures.value ∙ text ∙ ap compact_text c.in_ok-record_value.ensures

pub returns-clause-utf8 : goal.returns-clause-utf8
returns-clause-utf8 c =
    let P : List ℕ → Type 0 = IsUtf8 in
    subst P (sym (c.from_vec.ensures ∙ ap (λ (v : Vec ℕ Global). v.items) c.into_bytes.ensures.value)) (IsUtf8-string_bytes c.in_ok-text.text)
