-- The program with its commands, one after another.
use Rattle.std.proofs.Common.{◌≡◌, true, ap, ◌∙◌, codes}
use Rattle.std.proofs.lemmas.Result.{IfOk-weaker}
use Rattle.clap.specs.Simple.{on_top, app_of_fields, Shape}
use Rattle.clap.specs.Words.{app_of, new_app, with_subcommand}
use Rattle.stock_words.specs.Commands.{file_command}
use Rattle.stock_words.proofs.commands.program.Goals as goal

pub returns : goal.returns
returns c =
    let unnamed = λ (s : Shape). record s { no_binary_name = true } in
    let start : app_of c.no_binary_name-named.result ≡ on_top unnamed (new_app (codes "stockd")) =
    ap app_of_fields c.no_binary_name-named.ensures ∙ ap (on_top unnamed) c.new.ensures.app in
    let batch = (file_command (codes "batch")).top in
    let first : app_of c.in_ok-answering.answering ≡ with_subcommand (on_top unnamed (new_app (codes "stockd"))) batch =
    c.in_ok-answering.ensures.shape c.in_ok-batch.ensures.local ∙ (λ i. with_subcommand (start i) ((c.in_ok-batch.ensures.app i).top)) in
    let import = (file_command (codes "import")).top in
    let second : app_of c.in_ok-importing.importing
    ≡ with_subcommand (with_subcommand (on_top unnamed (new_app (codes "stockd"))) batch) import =
    c.in_ok-importing.ensures.shape c.in_ok-import.ensures.local ∙ (λ i. with_subcommand (first i) ((c.in_ok-import.ensures.app i).top)) in
    let audit = (file_command (codes "audit")).top in
    let third : app_of c.in_ok-auditing.auditing
    ≡ with_subcommand (with_subcommand (with_subcommand (on_top unnamed (new_app (codes "stockd"))) batch) import) audit =
    c.in_ok-auditing.ensures.shape c.in_ok-audit.ensures.local ∙ (λ i. with_subcommand (second i) ((c.in_ok-audit.ensures.app i).top)) in
    IfOk-weaker c.subcommand-4.result _ _
    (λ command added. added.shape c.in_ok-load.ensures.local ∙ (λ i. with_subcommand (third i) ((c.in_ok-load.ensures.app i).top)))
    c.subcommand-4.ensures
