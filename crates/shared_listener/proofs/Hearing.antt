-- Peers that come from a listener and peers that it takes back, one more behind others.
use Rattle.std.proofs.Common.{Option, Some, None, List, [], ◌∷◌, ◌++◌, refl, sym, ap, ◌∙◌, append-nil, append_assoc}
use Rattle.stock_io.specs.Listeners as one
use Rattle.stock_io.specs.Heard.{HandsOutAll, HangsUpAll}

module _ {P : Type 0} where
  pub none_out : (waiting : Option (List P)) → HandsOutAll waiting waiting []
  none_out None = tt
  none_out (Some peers) = refl

  pub later_out : (old mid new : Option (List P)) (peers : List P) (peer : P) → HandsOutAll old mid peers → one.HandsOut mid new peer
      → HandsOutAll old new (peers ++ peer ∷ [])
  later_out None mid new peers peer before last = tt
  later_out (Some a) None new peers peer before last = absurd before
  later_out (Some a) (Some b) None peers peer before last = absurd last
  later_out (Some a) (Some b) (Some c) peers peer before last =
      before ∙ ap (λ (z : List P). peers ++ z) last ∙ sym (append_assoc peers (peer ∷ []) c)

  pub none_up : (hung_up : Option (List P)) → HangsUpAll hung_up hung_up []
  none_up None = tt
  none_up (Some peers) = sym (append-nil peers)

  pub later_up : (old mid new : Option (List P)) (peers : List P) (peer : P) → HangsUpAll old mid peers → one.HangsUp mid new peer
      → HangsUpAll old new (peers ++ peer ∷ [])
  later_up None mid new peers peer before last = tt
  later_up (Some a) None new peers peer before last = absurd before
  later_up (Some a) (Some b) None peers peer before last = absurd last
  later_up (Some a) (Some b) (Some c) peers peer before last =
      last ∙ ap (λ (z : List P). z ++ peer ∷ []) before ∙ append_assoc a peers (peer ∷ [])
