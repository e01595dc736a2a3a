use Rattle.std.proofs.Common.{◌≡◌, ◌+◌, ◌++◌, ◌∷◌, IsUtf8, length, drop, get_or, refl, sym, ap, ◌∙◌, subst, arith}
use Rattle.std.proofs.lemmas.Bool.Decides.{Decides-eqb}
use Rattle.std.proofs.lemmas.Slice.Eq.{starts_is}
use Rattle.std.specs.Str.{IsCharBoundary}
use Rattle.voucher_json.proofs.PlainTokens.{cut_after, within, key_is}
use Rattle.voucher_json.proofs.text_fronts.after_key.Goals as goal

pub range_from-requires : goal.range_from-requires
range_from-requires c some =
    let opened = c.in_ok-opened.opened.now in
    let n = length c.args.name.now in
    let utf8 : IsUtf8 opened = subst IsUtf8 c.as_bytes.ensures.value c.as_bytes.ensures.utf8 in
    let colon : get_or opened (n + 1) 32 ≡ 58 = omega (arith, c.byte_at-else-byte_at-ne34.ensures, c.if-byte_at-ne58.false) in
    let two : n + 1 + 1 ≡ n + 2 = omega arith in
    subst (IsCharBoundary opened) two (cut_after opened (n + 1) 58 utf8 (within opened (n + 1) 58 colon (λ e. omega (arith, e))) colon (omega arith))

pub returns : goal.returns
returns c =
    let opened = c.in_ok-opened.opened.now in
    let name = c.args.name.now in
    let begins : opened ≡ name ++ drop (length name) opened = (starts_is Decides-eqb opened name _ refl).0 (sym (rw (← c.as_bytes.ensures.value, ← c.as_bytes-2.ensures.value) c.starts_with.ensures.value) ∙ c.if-not-starts_with.false) in
    let quote : get_or opened (length name) 32 ≡ 34 = omega (arith, c.byte_at.ensures, c.if-byte_at-ne34.false) in
    let colon : get_or opened (length name + 1) 32 ≡ 58 = omega (arith, c.byte_at-else-byte_at-ne34.ensures, c.if-byte_at-ne58.false) in
    c.in_ok-opened.ensures ∙ ap (λ t. 34 ∷ t) (key_is opened name begins quote colon ∙ ap (λ t. name ++ 34 ∷ 58 ∷ t) (sym c.range_from.ensures.value))
