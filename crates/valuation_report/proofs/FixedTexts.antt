-- The texts that stand before and after the rows of each sheet.
use Rattle.std.proofs.Common.{◌≡◌, ℕ, List, codes, refl}
use Rattle.csv.specs.Writing.{fields_text, is_blank}
use Rattle.json.specs.Print.{escape_byte}
use Rattle.stock_model.specs.declared.queries.Sheet.{Sheet}
use Rattle.stock_model.specs.declared.queries.Sheet.TheVariants.{Balance, Layers, Ledger, Accounts, Voucher}
use Rattle.valuation_report.specs.Pieces.{column_names, csv_piece}

-- the record with the names of the columns, as the code writes it
abbrev pub names_text : Sheet → List ℕ
names_text Balance = codes "item,store,qty,value\\n"
names_text Layers = codes "item,store,record,line,qty,value\\n"
names_text Ledger = codes "item,store,at,record,line,side,qty,value,stock,worth\\n"
names_text Accounts = codes "account,balance\\n"
names_text (Voucher number) = codes "line,account,debit,credit\\n"

pub names_text-piece : (sheet : Sheet) → names_text sheet ≡ csv_piece (column_names sheet)
unfolding fields_text is_blank escape_byte
names_text-piece Balance = refl
names_text-piece Layers = refl
names_text-piece Ledger = refl
names_text-piece Accounts = refl
names_text-piece (Voucher number) = refl
