use Rattle.std.proofs.Common.{◌≡◌, [], IsUtf8, arith}
use Rattle.json.specs.Lex.{tokens}
use Rattle.voucher_json.specs.UsualTexts.{BeginsWithPost}
use Rattle.voucher_json.proofs.UsualTexts.{post_read}
use Rattle.voucher_json.proofs.usual_requests.read_usual.Goals as goal

pub returns-clause-read : goal.returns-clause-read
returns-clause-read c =
    let same : c.in-Ok.text.now ≡ c.args.bytes.now = c.in-Ok.ensures.cases.0 in
    let utf8 : IsUtf8 c.args.bytes.now = c.in-Ok.ensures.cases.1 in
    let begun : BeginsWithPost c.new-reader.result c.in-Some.what c.read_post.new.reader = rw c.in-Some.is at c.in_ok-what.ensures.read in
    let begins : BeginsWithPost (tokens c.args.bytes.now) c.in-Some.what c.read_post.new.reader = rw (← same, ← c.new-reader.ensures) begun in
    let none : c.read_post.new.reader ≡ [] = grind arith in
    post_read c.args.bytes.now c.in-Some.what c.read_post.new.reader utf8 begins none
