-- How the fields are spelled, in requests and in replies.
use Rattle.std.specs.Prelude.{ℕ, List, codes}
use Rattle.stock_model.specs.declared.read_faults.FieldName.{FieldName}
use Rattle.stock_model.specs.declared.read_faults.FieldName.TheVariants as field

-- the name of a field, and what stands for a desk, for the whole request and for an unknown field
abbrev pub field_text : FieldName → List ℕ
field_text field.Do = codes "do"
field_text field.Code = codes "code"
field_text field.Method = codes "method"
field_text field.Account = codes "account"
field_text field.At = codes "at"
field_text field.Lines = codes "lines"
field_text field.Item = codes "item"
field_text field.Store = codes "store"
field_text field.Qty = codes "qty"
field_text field.Amount = codes "amount"
field_text field.Use = codes "use"
field_text field.From = codes "from"
field_text field.To = codes "to"
field_text field.Record = codes "record"
field_text field.Line = codes "line"
field_text field.Charge = codes "charge"
field_text field.Basis = codes "basis"
field_text field.Targets = codes "targets"
field_text field.Turns = codes "turns"
field_text field.Of = codes "of"
field_text field.Need = codes "need"
field_text field.Until = codes "until"
field_text field.As = codes "as"
field_text field.Desk = codes "desk"
field_text field.Request = codes "request"
field_text field.Other = codes "other"
