-- Both are the same where the one begins with the other and nothing is left.
use Rattle.std.proofs.Common.{◌≡◌, [], ◌++◌, sym, ap, ◌∙◌}
use Rattle.std.proofs.lemmas.Bool.{false≢true}
use Rattle.std.proofs.lemmas.List.{append-nil}
use Rattle.report_mirror.proofs.Walking.{joined, whole_from_nothing, nothing_from_whole}
use Rattle.report_mirror.proofs.record_blocks.RecordBlocks.is_same.Goals as goal

pub returns-in-Some : goal.returns-in-Some
returns-in-Some c =
    let mine : joined c.as_slice-2.result.now ≡ c.args.self.now = ap joined c.as_slice-2.ensures ∙ c.self.view_is in
    let theirs : c.over.result ≡ c.args.other.now = c.over.ensures ∙ ap joined c.as_slice.ensures ∙ c.other.view_is in
    let begins : c.args.other.now ≡ c.args.self.now ++ c.in-Some.behind = sym theirs ∙ c.in-Some.ensures ∙ ap (λ z. z ++ c.in-Some.behind) mine in (
      (λ ends. whole_from_nothing c.args.self.now c.in-Some.behind c.args.other.now begins (c.is_at_end.ensures.0 ends)),
      (λ same. c.is_at_end.ensures.1 (nothing_from_whole c.args.self.now c.in-Some.behind c.args.other.now begins same)),
    )

pub returns-in-None : goal.returns-in-None
returns-in-None c =
    let mine : joined c.as_slice-2.result.now ≡ c.args.self.now = ap joined c.as_slice-2.ensures ∙ c.self.view_is in
    let theirs : c.over.result ≡ c.args.other.now = c.over.ensures ∙ ap joined c.as_slice.ensures ∙ c.other.view_is in (
      (λ no. absurd (false≢true no)),
      (λ same. absurd (c.in-None.ensures [] (theirs ∙ sym same ∙ sym mine ∙ sym (append-nil (joined c.as_slice-2.result.now))))),
    )
