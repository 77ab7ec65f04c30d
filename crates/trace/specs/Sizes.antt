-- The numbers of document 01 that the trace turns on, each written here and nowhere else: the most that each field holds
-- (those of 64 bits are in the crate numbers), the version, the longest trace, and the six kinds of record.
use Rattle.std.specs.Prelude.{ℕ}

-- "count to 255", and the keys, which are eight bits
abbrev pub most8 : ℕ
most8 = 255

-- "x and y to 65535", "grab (to 65535)"
abbrev pub most16 : ℕ
most16 = 65_535

-- "raw_next (0, 1)"
abbrev pub most1 : ℕ
most1 = 1

-- "trace's first number is not 1"
abbrev pub version : ℕ
version = 1

-- "trace over 65,536 bytes"
abbrev pub most_bytes : ℕ
most_bytes = 65_536

-- the six kinds of record
abbrev pub kind_report : ℕ
kind_report = 1

abbrev pub kind_tick : ℕ
kind_tick = 2

abbrev pub kind_capture : ℕ
kind_capture = 3

abbrev pub kind_direct : ℕ
kind_direct = 4

abbrev pub kind_raw : ℕ
kind_raw = 5

abbrev pub kind_grab : ℕ
kind_grab = 6
