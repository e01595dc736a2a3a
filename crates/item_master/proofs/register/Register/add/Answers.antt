-- The map has the new value too.
use Rattle.std.proofs.Common.{◌≡◌, string_bytes, Some, ◌∷◌, [], ◌++◌, ap, ◌∙◌}
use Rattle.std.proofs.lemmas.Map.Text.{btree_map_updates_text}
use Rattle.std.proofs.lemmas.Result.{IfOk-at_ok}
use Rattle.item_master.proofs.Registers.{IsRegister-push}
use Rattle.item_master.proofs.register.Register.add.Goals as goal

pub invariant_of-self-2 : goal.invariant_of-self-2
invariant_of-self-2 g c =
    let key : string_bytes c.in_ok-key.key ≡ c.args.code.now = IfOk-at_ok (λ s. string_bytes s ≡ c.text.result.now) c.in_ok-key.was c.from_str.ensures.ok ∙ c.text.ensures in
    let copied : c.in_ok-copy.field-0 ≡ c.args.code.now = IfOk-at_ok (λ code. code ≡ c.args.code.now) c.in_ok-copy.was c.copy.ensures.copy in
    let sets = btree_map_updates_text (string_bytes c.in_ok-key.key) c.self.inside.by_code c.insert.new.self (Some c.args.value) c.in_ok-insert.ensures.updates in
    let items = c.push_reserved.ensures.items ∙ ap (λ es. es ++ (c.in_ok-copy.field-0, c.args.value) ∷ []) c.reserve.ensures.items in
    rw (items, copied) (IsRegister-push c.self.inside.entries.items c.args.code.now c.args.value c.self.invariant (rw c.self.view_is c.requires) (rw key at sets))
