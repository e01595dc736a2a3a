use Rattle.std.proofs.Common.{◌≡◌, ◌∙◌}
use Rattle.std.proofs.lemmas.Result.{IfOk-weaker}
use Rattle.std.specs.Str.{IsUtf8}
use Rattle.stock_nums.specs.MomentText.{moment_text}
use Rattle.voucher_json.proofs.Moments.{moment_text-utf8}
use Rattle.voucher_json.proofs.moment_strings.moment_string.Goals as goal

pub returns : goal.returns
returns c =
    let written : c.as_slice.result.now ≡ moment_text c.args.moment = c.as_slice.ensures ∙ c.in-Ok.ensures.text in
    let utf8 : IsUtf8 c.as_slice.result.now = rw written (moment_text-utf8 c.args.moment c.moment_text.ensures.spelled) in
    IfOk-weaker c.from_utf8_lossy.result _ _ (λ text kept. kept utf8 ∙ written) c.from_utf8_lossy.ensures.ok
