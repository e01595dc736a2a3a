-- What is touched, told by tests that tell the same of the movements of a line.
use Rattle.std.proofs.Common.{◌≡◌, ℕ, Bool, true, ◌||◌, List, Contains, inl, inr, sym, ap, ◌∙◌}
use Rattle.stock_nums.specs.declared.cause.Target.{Target}
use Rattle.stock_nums.specs.declared.entry.Entry.{Entry}
use Rattle.stock_model.specs.InOrder.{IsInPostingOrder}
use Rattle.stock_model.specs.Values.{own_line}
use Rattle.repost_laws.specs.Touched.{is_new, is_changed, is_touched_by}
use Rattle.repost_laws.proofs.LooksTouched.{touched_by-looks}
use Rattle.repost_spread.specs.Touches.{record_of}
use Rattle.repost_build.proofs.Truths.{same-truth}

module _ (n : ℕ) (line : List Entry) (in_order : IsInPostingOrder line) where
  touched-too : (goes other : ℕ → Bool) (charged named : Target → Bool) (f : Entry) → Contains line f
      → ((e : Entry) → Contains line e → goes (record_of e) ≡ other (record_of e)) → charged (own_line f) ≡ named (own_line f)
      → is_touched_by n goes charged line f ≡ true → is_touched_by n other named line f ≡ true
  touched-too goes other charged named f held same charges touched =
      let alike : (e : Entry) → Contains line e → is_changed n goes e ≡ is_changed n other e = λ e there. ap (λ (b : Bool). is_new n e || b) (same e there) in
      (touched_by-looks n other named line f in_order held).1 (elim ((touched_by-looks n goes charged line f in_order held).0 touched) [
        | inl own ↦ inl own
        | inr rest ↦ elim rest [
          | inl charge ↦ inr (inl (sym charges ∙ charge))
          | inr more ↦ elim more [
            | inl starts ↦ inr (inr (inl (starts.0, starts.1, sym (alike starts.1 starts.3) ∙ starts.2, starts.3, starts.4)))
            | inr others ↦ elim others [
              | inl leaves ↦ inr (inr (inr (inl (
                leaves.0,
                leaves.1,
                leaves.2,
                record {
                  held = leaves.3.held;
                  new = sym (alike leaves.2 leaves.3.held) ∙ leaves.3.new;
                  of_key = leaves.3.of_key;
                  before = leaves.3.before;
                  none_between = λ h there changed. leaves.3.none_between h there (alike h there ∙ changed);
                },
              ))))
              | inr returns ↦ inr (inr (inr (inr (record {
                target = returns.target;
                returns = returns.returns;
                g = returns.g;
                held = returns.held;
                new = sym (alike returns.g returns.held) ∙ returns.new;
                same = returns.same;
                before = returns.before;
              }))))
            ]
          ]
        ]
      ])

  pub touched-alike : (goes other : ℕ → Bool) (charged named : Target → Bool) (f : Entry) → Contains line f
      → ((e : Entry) → Contains line e → goes (record_of e) ≡ other (record_of e)) → charged (own_line f) ≡ named (own_line f)
      → is_touched_by n goes charged line f ≡ is_touched_by n other named line f
  touched-alike goes other charged named f held same charges =
      same-truth (is_touched_by n goes charged line f) (is_touched_by n other named line f)
      (touched-too goes other charged named f held same charges)
      (touched-too other goes named charged f held (λ e there. sym (same e there)) (sym charges))
