-- The texts of the replies: JSON objects with no space, their members in byte order of their keys. A shortage
-- is told by the codes of its item and warehouse, which are found among the heads.
use Rattle.std.specs.Prelude.{ℕ, List, [], ◌∷◌, ◌++◌, codes}
use Rattle.json_texts.specs.Members.{text, count, status, object_of}
use Rattle.serde_json.specs.Data.{Data, null}
use Rattle.serde_json.specs.Written.{compact_text}
use Rattle.stock_nums.specs.MomentText.{moment_text}
use Rattle.stock_nums.specs.declared.head.Head.{Head}
use Rattle.stock_nums.specs.declared.moment.Moment.{Moment}
use Rattle.stock_nums.specs.declared.place.Place.{Place}
use Rattle.stock_model.specs.Masters.{code_of}
use Rattle.stock_model.specs.declared.faults.PostFault.{PostFault}
use Rattle.stock_model.specs.declared.faults.PostFault.TheVariants as fault_of
use Rattle.stock_model.specs.declared.read_faults.FieldName.{FieldName}
use Rattle.stock_model.specs.declared.read_faults.ReadFault.{ReadFault}
use Rattle.stock_model.specs.declared.read_faults.ReadFault.TheVariants as unread
use Rattle.stock_model.specs.declared.replies.Reply.{Reply}
use Rattle.stock_model.specs.declared.replies.Reply.TheVariants.{Accepted, Refused, Pending, NoSuchRecord, Worked, Settled, Long, Bad, StoreFailed, MemoryFailed, Http}
use Rattle.voucher_json.specs.FieldNames.{field_text}

-- a fault and the status alone
abbrev pub fault_data : List ℕ → List ℕ → Data
fault_data fault outcome = object_of (text (codes "fault") fault ∷ status outcome ∷ [])

-- a fault of the whole record
abbrev pub record_fault_data : List ℕ → Data
record_fault_data fault = fault_data fault (codes "refused")

-- a fault of a line, from 1
abbrev pub line_fault_data : List ℕ → ℕ → Data
line_fault_data fault line = object_of (text (codes "fault") fault ∷ count (codes "line") line ∷ status (codes "refused") ∷ [])

-- the record with this number is no voucher in force
abbrev pub not_live_data : ℕ → Data
not_live_data target =
    object_of (text (codes "fault") (codes "not-live") ∷ count (codes "record") target ∷ status (codes "refused") ∷ [])

-- the record with this number names a line of what is to be cancelled
abbrev pub linked_data : ℕ → Data
linked_data by = object_of (count (codes "by") by ∷ text (codes "fault") (codes "linked") ∷ status (codes "refused") ∷ [])

-- more was asked to be returned than is left of the target of a line
abbrev pub over_return_data : ℕ → ℕ → ℕ → Data
over_return_data line asked left =
    object_of
    (count (codes "asked") asked ∷ text (codes "fault") (codes "over-return") ∷ count (codes "left") left ∷ count (codes "line") line ∷ status (codes "refused") ∷ [])

-- the past is closed up to this moment
abbrev pub frozen_data : Moment → Data
frozen_data until =
    object_of (text (codes "fault") (codes "frozen") ∷ status (codes "refused") ∷ text (codes "until") (moment_text until) ∷ [])

-- so many records and movements are held
abbrev pub full_data : ℕ → ℕ → Data
full_data records entries =
    object_of (count (codes "entries") entries ∷ text (codes "fault") (codes "full") ∷ count (codes "records") records ∷ status (codes "refused") ∷ [])

-- at this place so many units of the item are lacking in the warehouse
abbrev pub short_data : Place → List ℕ → List ℕ → ℕ → Data
short_data place item store lacking =
    object_of
    (text (codes "at") (moment_text place.moment) ∷ text (codes "fault") (codes "short") ∷ text (codes "item") item
    ∷ count (codes "lacking") lacking ∷ count (codes "line") place.line ∷ count (codes "record") place.voucher.0
    ∷ status (codes "refused") ∷ text (codes "store") store ∷ [])

-- a refusal of a record; a failed keeper and want of memory have none
abbrev pub refusal_data : List Head → PostFault → Data
refusal_data heads fault_of.CodeTaken = record_fault_data (codes "code-taken")
refusal_data heads fault_of.CodeShape = record_fault_data (codes "code-shape")
refusal_data heads fault_of.AccountRange = record_fault_data (codes "account-range")
refusal_data heads (fault_of.UnknownItem line) = line_fault_data (codes "unknown-item") line
refusal_data heads (fault_of.UnknownStore line) = line_fault_data (codes "unknown-store") line
refusal_data heads (fault_of.SameStore line) = line_fault_data (codes "same-store") line
refusal_data heads (fault_of.UnknownTarget line) = line_fault_data (codes "unknown-target") line
refusal_data heads (fault_of.NotLive target) = not_live_data target.0
refusal_data heads (fault_of.Linked by) = linked_data by.0
refusal_data heads (fault_of.LinkLater line) = line_fault_data (codes "link-later") line
refusal_data heads (fault_of.RepeatedTarget line) = line_fault_data (codes "repeated-target") line
refusal_data heads (fault_of.OverReturn line asked left) = over_return_data line asked.0 left.0
refusal_data heads fault_of.NoBasis = record_fault_data (codes "no-basis")
refusal_data heads (fault_of.Frozen until) = frozen_data until
refusal_data heads (fault_of.Full records entries) = full_data records entries
refusal_data heads (fault_of.Short place item store lacking) = short_data place (code_of heads item.0) (code_of heads store.0) lacking.0
refusal_data heads fault_of.KeeperFailed = null
refusal_data heads fault_of.NoMemory = null

-- a field of a line of input is wrong; the line is 0 for a field of the outer object
abbrev pub field_fault_data : List ℕ → FieldName → ℕ → Data
field_fault_data fault name line =
    object_of (text (codes "fault") fault ∷ text (codes "field") (field_text name) ∷ count (codes "line") line ∷ status (codes "bad") ∷ [])

-- why a text is no request; want of memory is none of it
abbrev pub bad_data : ReadFault → Data
bad_data unread.BadJson = fault_data (codes "bad-json") (codes "bad")
bad_data (unread.BadField name line) = field_fault_data (codes "bad-field") name line
bad_data (unread.Limit name line) = field_fault_data (codes "limit") name line
bad_data unread.NoMemory = null

-- how many records are covered, and the status
abbrev pub covered_data : ℕ → List ℕ → Data
covered_data covered outcome = object_of (count (codes "covered") covered ∷ status outcome ∷ [])

-- the wanted record is not covered yet
abbrev pub pending_data : ℕ → ℕ → Data
pending_data covered wanted = object_of (count (codes "covered") covered ∷ count (codes "need") wanted ∷ status (codes "pending") ∷ [])

-- there is no such record as the wanted one
abbrev pub missing_data : ℕ → ℕ → Data
missing_data accepted wanted = object_of (count (codes "accepted") accepted ∷ count (codes "need") wanted ∷ status (codes "no-such-record") ∷ [])

-- the JSON value of a reply
abbrev pub reply_data : List Head → Reply → Data
reply_data heads (Accepted record_no) = object_of (count (codes "record") record_no.0 ∷ status (codes "accepted") ∷ [])
reply_data heads (Refused fault) = refusal_data heads fault
reply_data heads (Pending covered wanted) = pending_data covered.0 wanted.0
reply_data heads (NoSuchRecord accepted wanted) = missing_data accepted.0 wanted.0
reply_data heads (Worked covered) = covered_data covered.0 (codes "worked")
reply_data heads (Settled covered) = covered_data covered.0 (codes "settled")
reply_data heads Long = fault_data (codes "long") (codes "bad")
reply_data heads (Bad fault) = bad_data fault
reply_data heads StoreFailed = fault_data (codes "store") (codes "failed")
reply_data heads MemoryFailed = fault_data (codes "memory") (codes "failed")
reply_data heads Http = fault_data (codes "http") (codes "bad")

-- the text of a reply
abbrev pub reply_text : List Head → Reply → List ℕ
reply_text heads reply = compact_text (reply_data heads reply)

-- the line of a reply: its text and a line feed
abbrev pub reply_line : List Head → Reply → List ℕ
reply_line heads reply = reply_text heads reply ++ 10 ∷ []

-- every fault is told but a failed keeper and want of memory
abbrev pub IsTold : PostFault → Type 0
IsTold fault_of.CodeTaken = Unit {0}
IsTold fault_of.CodeShape = Unit {0}
IsTold fault_of.AccountRange = Unit {0}
IsTold (fault_of.UnknownItem line) = Unit {0}
IsTold (fault_of.UnknownStore line) = Unit {0}
IsTold (fault_of.SameStore line) = Unit {0}
IsTold (fault_of.UnknownTarget line) = Unit {0}
IsTold (fault_of.NotLive target) = Unit {0}
IsTold (fault_of.Linked by) = Unit {0}
IsTold (fault_of.LinkLater line) = Unit {0}
IsTold (fault_of.RepeatedTarget line) = Unit {0}
IsTold (fault_of.OverReturn line asked left) = Unit {0}
IsTold fault_of.NoBasis = Unit {0}
IsTold (fault_of.Frozen until) = Unit {0}
IsTold (fault_of.Full records entries) = Unit {0}
IsTold (fault_of.Short place item store lacking) = Unit {0}
IsTold fault_of.KeeperFailed = ⊥
IsTold fault_of.NoMemory = ⊥

-- every fault of reading is told but want of memory
abbrev pub IsReadFaultTold : ReadFault → Type 0
IsReadFaultTold unread.BadJson = Unit {0}
IsReadFaultTold (unread.BadField name line) = Unit {0}
IsReadFaultTold (unread.Limit name line) = Unit {0}
IsReadFaultTold unread.NoMemory = ⊥

-- every reply is printed but one that says a fault that is not told
abbrev pub IsPrinted : Reply → Type 0
IsPrinted (Accepted number_of_it) = Unit {0}
IsPrinted (Refused fault) = IsTold fault
IsPrinted (Pending covered wanted) = Unit {0}
IsPrinted (NoSuchRecord accepted wanted) = Unit {0}
IsPrinted (Worked covered) = Unit {0}
IsPrinted (Settled covered) = Unit {0}
IsPrinted Long = Unit {0}
IsPrinted (Bad fault) = IsReadFaultTold fault
IsPrinted StoreFailed = Unit {0}
IsPrinted MemoryFailed = Unit {0}
IsPrinted Http = Unit {0}
