-- How a text is read: as the request that it is, or with the first fault of the walk over its fields.
use Rattle.std.specs.Prelude.{ℕ, ◌≤◌, Bool, true, false, None, List, [], ◌∷◌, ◌++◌, map, codes, unwrap_or, Result, IsTrue, ⊤}
use Rattle.serde_json.specs.Data.{Data}
use Rattle.stock_nums.specs.declared.limits.TheConstants.{MAX_TURNS}
use Rattle.stock_model.specs.Limits.{is_within_limits}
use Rattle.stock_model.specs.declared.queries.Format.{Format}
use Rattle.stock_model.specs.declared.queries.Format.TheVariants.{Json, Csv}
use Rattle.stock_model.specs.declared.queries.Query.{Query}
use Rattle.stock_model.specs.declared.queries.Sheet.{Sheet}
use Rattle.stock_model.specs.declared.queries.Sheet.TheVariants.{Balance, Layers, Ledger, Accounts, Voucher}
use Rattle.stock_model.specs.declared.read_faults.FieldName.{FieldName}
use Rattle.stock_model.specs.declared.read_faults.FieldName.TheVariants as field
use Rattle.stock_model.specs.declared.read_faults.ReadFault.{ReadFault}
use Rattle.stock_model.specs.declared.requests.Request.{Request}
use Rattle.stock_model.specs.declared.requests.Request.TheVariants.{Post, Work, Settle, Report}
use Rattle.voucher_json.specs.Walks.{Then, Ends, Field, Optional}
use Rattle.voucher_json.specs.Fields.{IsObject, IsText, IsWord, IsNumber, IsMoment, NoOther}
use Rattle.voucher_json.specs.Records.{record_kinds, IsWhat}
use Rattle.voucher_json.specs.Texts.{IsWalked}
use Rattle.voucher_json.specs.declared.kinds.Kind.{Kind}
use Rattle.voucher_json.specs.declared.kinds.Kind.TheVariants as kind_of
use Rattle.voucher_json.specs.declared.kinds.SheetKind.{SheetKind}
use Rattle.voucher_json.specs.declared.kinds.SheetKind.TheVariants as sheet_of
use Rattle.voucher_json.specs.declared.report_reading.Scope.{Scope}

-- the words of `do`; a desk may neither work nor settle
abbrev pub desk_kinds : List (List ℕ × Kind)
desk_kinds = (codes "report", kind_of.Report) ∷ map (λ kind. (kind.0, kind_of.Post kind.1)) record_kinds

abbrev pub kinds : Bool → List (List ℕ × Kind)
kinds true = desk_kinds
kinds false = (codes "work", kind_of.Work) ∷ (codes "settle", kind_of.Settle) ∷ desk_kinds

-- the words of `of`
abbrev pub sheets : List (List ℕ × SheetKind)
sheets =
    (codes "balance", sheet_of.Balance)
    ∷ (codes "layers", sheet_of.Layers)
    ∷ (codes "ledger", sheet_of.Ledger)
    ∷ (codes "accounts", sheet_of.Accounts)
    ∷ (codes "voucher", sheet_of.Voucher)
    ∷ []

-- the words of `as`
abbrev pub formats : List (List ℕ × Format)
formats = (codes "json", Json) ∷ (codes "csv", Csv) ∷ []

-- a sheet by items and warehouses: `until`, `item` and `store` may be missing, which leaves nothing out
abbrev pub IsByKey : Sheet → Data → Result Scope ReadFault → Type 0
IsByKey sheet value =
    Then (Optional IsMoment field.Until value) (λ until.
    Then (Optional IsText field.Item value) (λ item.
    Then (Optional IsText field.Store value) (λ store.
    Ends (record { sheet = sheet; until = until; item = item; store = store }))))

-- the accounts, where `until` may be missing
abbrev pub IsOfAccounts : Data → Result Scope ReadFault → Type 0
IsOfAccounts value =
    Then (Optional IsMoment field.Until value) (λ until.
    Ends (record { sheet = Accounts; until = until; item = None; store = None }))

-- the lines of one record, whose number is from 1 to 2^32 - 1
abbrev pub IsOfVoucher : Data → Result Scope ReadFault → Type 0
IsOfVoucher value =
    Then (Field (IsNumber 1 4_294_967_295) field.Record 0 value) (λ number.
    Ends (record { sheet = Voucher (record { 0 = number }); until = None; item = None; store = None }))

-- what a sheet of each kind shows
abbrev pub IsScope : SheetKind → Data → Result Scope ReadFault → Type 0
IsScope sheet_of.Balance = IsByKey Balance
IsScope sheet_of.Layers = IsByKey Layers
IsScope sheet_of.Ledger = IsByKey Ledger
IsScope sheet_of.Accounts = IsOfAccounts
IsScope sheet_of.Voucher = IsOfVoucher

-- the fields that a sheet of each kind has of its own
abbrev pub own_fields : SheetKind → List FieldName
own_fields sheet_of.Balance = field.Until ∷ field.Item ∷ field.Store ∷ []
own_fields sheet_of.Layers = field.Until ∷ field.Item ∷ field.Store ∷ []
own_fields sheet_of.Ledger = field.Until ∷ field.Item ∷ field.Store ∷ []
own_fields sheet_of.Accounts = field.Until ∷ []
own_fields sheet_of.Voucher = field.Record ∷ []

-- the fields that a report on a sheet of each kind may have
abbrev pub fields_of : SheetKind → List FieldName
fields_of kind = field.Do ∷ field.Of ∷ field.Need ∷ (own_fields kind ++ field.As ∷ [])

-- `of` says which sheet; a `need` that is missing is 0, and an `as` that is missing is `json`
abbrev pub IsReport : Data → Result Query ReadFault → Type 0
IsReport value =
    Then (Field (IsWord sheets) field.Of 0 value) (λ kind.
    Then (Optional (IsNumber 0 4_294_967_295) field.Need value) (λ need.
    Then (IsScope kind value) (λ scope.
    Then (Optional (IsWord formats) field.As value) (λ format.
    Then (NoOther (fields_of kind) 0 value) (λ none.
    Ends (record {
      sheet = scope.sheet;
      need = record { 0 = unwrap_or need 0 };
      until = scope.until;
      item = scope.item;
      store = scope.store;
      format = unwrap_or format Json;
    }))))))

-- a worker makes at most so many `turns`, from 1 to 10^6
abbrev pub IsWork : Data → Result ℕ ReadFault → Type 0
IsWork value =
    Then (Field (IsNumber 1 MAX_TURNS) field.Turns 0 value) (λ turns.
    Then (NoOther (field.Do ∷ field.Turns ∷ []) 0 value) (λ none.
    Ends turns))

-- a settlement has no field but `do`
abbrev pub IsSettle : Data → Result ⊤ ReadFault → Type 0
IsSettle value = NoOther (field.Do ∷ []) 0 value

-- the fields of each kind
abbrev pub IsOfKind : Kind → Data → Result Request ReadFault → Type 0
IsOfKind (kind_of.Post kind) value = Then (IsWhat (field.Do ∷ []) kind value) (λ what. Ends (Post what))
IsOfKind kind_of.Work value = Then (IsWork value) (λ turns. Ends (Work turns))
IsOfKind kind_of.Settle value = Then (IsSettle value) (λ none. Ends Settle)
IsOfKind kind_of.Report value = Then (IsReport value) (λ query. Ends (Report query))

-- An object, whose `do` says its kind. Of a key that comes again in the text the last value counts.
abbrev pub IsRequest : Bool → Data → Result Request ReadFault → Type 0
IsRequest at_desk value =
    Then (IsObject field.Request 0 value) (λ is_one.
    Then (Field (IsWord (kinds at_desk)) field.Do 0 value) (λ kind.
    IsOfKind kind value))

-- How a text is read at a desk, or else in a batch.
abbrev pub IsReadAs : Bool → List ℕ → Result Request ReadFault → Type 0
IsReadAs at_desk = IsWalked (IsRequest at_desk)

-- What is posted has its numbers of lines and accounts within the limits of a record. A worker makes from 1 to
-- 10^6 turns.
abbrev pub IsWithinLimits : Request → Type 0
IsWithinLimits (Post what) = IsTrue (is_within_limits what)
IsWithinLimits (Work turns) = (1 ≤ turns) × (turns ≤ MAX_TURNS)
IsWithinLimits Settle = Unit {0}
IsWithinLimits (Report query) = Unit {0}
