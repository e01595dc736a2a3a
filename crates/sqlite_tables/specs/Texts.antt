-- The texts of the statements. A number after a question mark is the place of a parameter.
use Rattle.std.specs.Prelude.{ℕ, List, codes}

-- they make the tables
abbrev pub make_records : List ℕ
make_records = codes "CREATE TABLE records(no INTEGER PRIMARY KEY, body BLOB NOT NULL) STRICT"

abbrev pub make_worths : List ℕ
make_worths = codes "CREATE TABLE worths(voucher INTEGER NOT NULL, line INTEGER NOT NULL, side INTEGER NOT NULL, value INTEGER NOT NULL, share INTEGER NOT NULL, PRIMARY KEY(voucher, line, side)) STRICT"

abbrev pub make_head : List ℕ
make_head = codes "CREATE TABLE head(id INTEGER PRIMARY KEY CHECK(id = 1), version INTEGER NOT NULL, covered INTEGER NOT NULL) STRICT"

abbrev pub begin_head : List ℕ
begin_head = codes "INSERT INTO head(id, version, covered) VALUES(1, 2, 0)"

-- it makes tables of version 1 those of the version that is written now
abbrev pub upgrade : List ℕ
upgrade = codes "UPDATE head SET version = 2 WHERE id = 1 AND version = 1"

-- they change the tables
abbrev pub insert_record : List ℕ
insert_record = codes "INSERT INTO records(no, body) VALUES(?1, ?2)"

abbrev pub put_worth : List ℕ
put_worth = codes "INSERT INTO worths(voucher, line, side, value, share) VALUES(?1, ?2, ?3, ?4, ?5) ON CONFLICT(voucher, line, side) DO UPDATE SET value = ?4, share = ?5"

abbrev pub remove_worth : List ℕ
remove_worth = codes "DELETE FROM worths WHERE voucher = ?1 AND line = ?2 AND side = ?3"

abbrev pub cover : List ℕ
cover = codes "UPDATE head SET covered = ?1 WHERE id = 1"

-- they read the tables
abbrev pub select_records : List ℕ
select_records = codes "SELECT no, body FROM records ORDER BY no"

abbrev pub select_worths : List ℕ
select_worths = codes "SELECT voucher, line, side, value, share FROM worths ORDER BY voucher, line, side"

abbrev pub select_head : List ℕ
select_head = codes "SELECT version, covered FROM head ORDER BY id"

-- it shows the worths as they stand, before they are known
abbrev pub scan_worths : List ℕ
scan_worths = codes "SELECT voucher, line, side, value, share FROM worths"

-- it shows the whole head, before it is known
abbrev pub select_whole_head : List ℕ
select_whole_head = codes "SELECT id, version, covered FROM head ORDER BY id"
