-- Two tests of which each holds where the other does.
use Rattle.std.proofs.Common.{◌≡◌, Bool, true, false, refl, sym}

pub same-truth : (a b : Bool) → (a ≡ true → b ≡ true) → (b ≡ true → a ≡ true) → a ≡ b
same-truth true b to from = sym (to refl)
same-truth false true to from = from refl
same-truth false false to from = refl
