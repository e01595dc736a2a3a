use Rattle.repost_laws.proofs.LocalRows.{found_rows-replay}
use Rattle.repost_laws.proofs.build_laws.a_clean_build_is_the_replay.Goals as goal

pub returns : goal.returns
returns c = λ journal found suspects legal built clean. found_rows-replay journal found legal
    (λ e held. built e held (clean e held))
