-- The script of `load`: the text of its lines, each with its line feed.
use Rattle.std.specs.Prelude.{ℕ, zero, suc, ◌+◌, ◌*◌, ◌/◌, ◌%◌, ◌==◌, if◌then◌else◌, List, [], ◌++◌, codes, decimal}

-- a number below 100, in two digits
abbrev pub two_digits : ℕ → List ℕ
two_digits n = decimal (n / 10) ++ decimal (n % 10)

-- two items and two warehouses
unfoldable pub head_lines : List ℕ
head_lines =
    codes "{\"do\":\"item\",\"code\":\"L1\",\"method\":\"fifo\"}\n"
    ++ (codes "{\"do\":\"item\",\"code\":\"L2\",\"method\":\"average\"}\n"
    ++ (codes "{\"do\":\"store\",\"code\":\"S1\",\"account\":100}\n"
    ++ codes "{\"do\":\"store\",\"code\":\"S2\",\"account\":101}\n"))

-- a line of the first receipt: so many units of an item come into a warehouse, for 10 each
abbrev pub first_units : List ℕ → List ℕ → ℕ → List ℕ
first_units item store n =
    codes "{\"item\":\"" ++ (item ++ (codes "\",\"store\":\"" ++ (store ++ (codes "\",\"qty\":" ++ (decimal n
    ++ (codes ",\"amount\":" ++ (decimal (10 * n) ++ codes "}")))))))

-- the first receipt: so many units of each item come into each warehouse
unfoldable pub first_receipt : ℕ → List ℕ
first_receipt n =
    codes "{\"do\":\"receipt\",\"at\":\"2026-01-01T00:00:00\",\"lines\":["
    ++ (first_units (codes "L1") (codes "S1") n ++ (codes ","
    ++ (first_units (codes "L1") (codes "S2") n ++ (codes ","
    ++ (first_units (codes "L2") (codes "S1") n ++ (codes ","
    ++ (first_units (codes "L2") (codes "S2") n ++ codes "]}\n")))))))

-- the moment of voucher k: on one of 27 days, so that vouchers come in no order
abbrev pub moment_of : ℕ → List ℕ
moment_of k = codes "2026-01-" ++ (two_digits (2 + 17 * k % 27) ++ (codes "T12:00:" ++ two_digits (k % 60)))

-- its item
abbrev pub item_of : ℕ → List ℕ
item_of k = if k / 4 % 2 == 0 then codes "L1" else codes "L2"

-- one unit is sold, goes to the other warehouse, or comes in
abbrev pub issue_line : ℕ → List ℕ
issue_line k =
    codes "{\"do\":\"issue\",\"at\":\"" ++ (moment_of k ++ (codes "\",\"use\":\"sold\",\"lines\":[{\"item\":\"" ++ (item_of k
    ++ codes "\",\"store\":\"S1\",\"qty\":1}]}\n")))

abbrev pub transfer_line : ℕ → List ℕ
transfer_line k =
    codes "{\"do\":\"transfer\",\"at\":\"" ++ (moment_of k ++ (codes "\",\"lines\":[{\"item\":\"" ++ (item_of k
    ++ codes "\",\"from\":\"S1\",\"to\":\"S2\",\"qty\":1}]}\n")))

abbrev pub receipt_line : ℕ → List ℕ
receipt_line k =
    codes "{\"do\":\"receipt\",\"at\":\"" ++ (moment_of k ++ (codes "\",\"lines\":[{\"item\":\"" ++ (item_of k
    ++ (codes "\",\"store\":\"S1\",\"qty\":1,\"amount\":" ++ (decimal (k % 100 + 1) ++ codes "}]}\n")))))

-- of four vouchers two are issues, one is a transfer and one a receipt
unfoldable pub voucher_line : ℕ → List ℕ
voucher_line k = if k % 4 == 0 then receipt_line k else (if k % 4 == 3 then transfer_line k else issue_line k)

-- after each thousandth voucher a worker makes a thousand turns
unfoldable pub work_line : ℕ → List ℕ
work_line k = if k % 1000 == 0 then codes "{\"do\":\"work\",\"turns\":1000}\n" else []

-- vouchers 1 to n
unfoldable pub voucher_lines : ℕ → List ℕ
voucher_lines zero = []
voucher_lines (suc n) = voucher_lines n ++ (voucher_line (suc n) ++ work_line (suc n))

unfoldable pub last_lines : List ℕ
last_lines = codes "{\"do\":\"settle\"}\n" ++ codes "{\"do\":\"report\",\"of\":\"balance\"}\n"

-- what comes before the vouchers
unfoldable pub opening_lines : ℕ → List ℕ
opening_lines n = head_lines ++ first_receipt n

-- the script
unfoldable pub load_script : ℕ → List ℕ
load_script n = opening_lines n ++ (voucher_lines n ++ last_lines)
