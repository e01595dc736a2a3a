-- What is written of a verdict has no float.
use Rattle.std.proofs.Common.{ap, ◌∙◌}
use Rattle.serde_json.specs.Written.{has_float}
use Rattle.stock_audit.proofs.NoFloats.{no_float-verdict}
use Rattle.stock_audit.proofs.verdict_texts.verdict_text.Goals as goal

pub line_of-requires : goal.line_of-requires
line_of-requires c = ap has_float c.in_ok-value.ensures ∙ no_float-verdict c.args.verdict.now
