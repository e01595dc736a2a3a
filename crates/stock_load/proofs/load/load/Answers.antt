-- The summary is written, or a front of it.
use Rattle.std.proofs.Common.{List, ℕ, subst}
use Rattle.std.specs.Prelude.{string_bytes}
use Rattle.std.specs.Io.KnownBytes.{Appends}
use Rattle.stock_io.specs.Streams.{AppendsFront}
use Rattle.stock_load.proofs.load.load.Goals as goal

pub returns-in-Ok-write_all-clause-loaded : goal.returns-in-Ok-write_all-clause-loaded
returns-in-Ok-write_all-clause-loaded g c =
    record {
      text = string_bytes c.in-Ok.text;
      summary = c.in-Ok.ensures;
      wrote =
          subst (λ (bytes : List ℕ). Appends (g.O.Sink.written c.args.output.now) (g.O.Sink.written c.write_all.new.sink) bytes)
          c.as_bytes.ensures.value c.in-Ok-write_all.ensures.all;
      faults_kept = c.in-Ok-write_all.ensures.faults_kept;
    }

pub returns-clause-loaded : goal.returns-clause-loaded
returns-clause-loaded g c =
    record {
      text = string_bytes c.in-Ok.text;
      summary = c.in-Ok.ensures;
      wrote =
          subst (λ (bytes : List ℕ). AppendsFront (g.O.Sink.written c.args.output.now) (g.O.Sink.written c.write_all.new.sink) bytes)
          c.as_bytes.ensures.value c.in-Err.ensures.front;
      cause = c.in-Err.ensures.cause;
    }
