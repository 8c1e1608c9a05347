-- The numbers of the layout, each once: how many numbers a row has, the tags of event rows, the refusals, and the
-- limits of a call.
use Rattle.std.specs.Prelude.{ℕ, ◌+◌, ◌/◌}

-- ---------------------------------------------------------------- how many numbers a row has

-- kind, length in bytes
abbrev pub TOKEN_ROW : ℕ
TOKEN_ROW = 2

-- tag, argument, distance
abbrev pub EVENT_ROW : ℕ
EVENT_ROW = 3

-- class, kind, width, count, the parent's row
abbrev pub TREE_ROW : ℕ
TREE_ROW = 5

-- number, start, end
abbrev pub ERROR_ROW : ℕ
ERROR_ROW = 3

-- message, start, end, mark, first pool place, pool count, hint, label start, label end
abbrev pub REPORT_ROW : ℕ
REPORT_ROW = 9

-- --------------------------------------------- where a number stands in its row; the first stands where the row starts

abbrev pub TOKEN_LENGTH : ℕ
TOKEN_LENGTH = 1

abbrev pub EVENT_TAG : ℕ
EVENT_TAG = 0

-- a start's kind, or how many raw tokens a combined token has
abbrev pub EVENT_ARGUMENT : ℕ
EVENT_ARGUMENT = 1

-- for a start: the distance, in events, to the event of the marker that precedes it, or 0
abbrev pub EVENT_DISTANCE : ℕ
EVENT_DISTANCE = 2

abbrev pub TREE_KIND : ℕ
TREE_KIND = 1

abbrev pub TREE_WIDTH : ℕ
TREE_WIDTH = 2

abbrev pub TREE_COUNT : ℕ
TREE_COUNT = 3

abbrev pub TREE_PARENT : ℕ
TREE_PARENT = 4

abbrev pub ERROR_START : ℕ
ERROR_START = 1

abbrev pub ERROR_END : ℕ
ERROR_END = 2

abbrev pub REPORT_START : ℕ
REPORT_START = 1

abbrev pub REPORT_END : ℕ
REPORT_END = 2

abbrev pub REPORT_MARK : ℕ
REPORT_MARK = 3

-- its first place in the pool, and how many expectations it has there
abbrev pub REPORT_POOL_FIRST : ℕ
REPORT_POOL_FIRST = 4

abbrev pub REPORT_POOL_COUNT : ℕ
REPORT_POOL_COUNT = 5

abbrev pub REPORT_HINT : ℕ
REPORT_HINT = 6

abbrev pub REPORT_LABEL_START : ℕ
REPORT_LABEL_START = 7

abbrev pub REPORT_LABEL_END : ℕ
REPORT_LABEL_END = 8

-- ---------------------------------------------------------------- the first number of a tree row

-- its count is that of its children
abbrev pub NODE : ℕ
NODE = 0

-- its count is that of its raw tokens
abbrev pub LEAF : ℕ
LEAF = 1

-- ---------------------------------------------------------------- event.rs: the first number of an event row

abbrev pub PLACEHOLDER : ℕ
PLACEHOLDER = 0

-- a kind, and the distance to the event of the marker that was made to precede it, or 0
abbrev pub START_NODE : ℕ
START_NODE = 1

abbrev pub ADD_TOKEN : ℕ
ADD_TOKEN = 2

-- how many raw tokens
abbrev pub ADD_COMBINED_TOKEN : ℕ
ADD_COMBINED_TOKEN = 3

abbrev pub FINISH_NODE : ℕ
FINISH_NODE = 4

abbrev pub ERROR : ℕ
ERROR = 5

-- as START-NODE, of a marker that was made by `precede`: the start that a link leads to
abbrev pub LINKED_START_NODE : ℕ
LINKED_START_NODE = 6

-- ---------------------------------------------------------------- document 01's causes

abbrev pub UNKNOWN_ENTRY : ℕ
UNKNOWN_ENTRY = 1

abbrev pub TOO_LONG : ℕ
TOO_LONG = 2

abbrev pub ODD_COUNT : ℕ
ODD_COUNT = 3

abbrev pub BAD_TEXT : ℕ
BAD_TEXT = 4

abbrev pub TOO_DEEP : ℕ
TOO_DEEP = 5

abbrev pub NO_EVENT_ROOM : ℕ
NO_EVENT_ROOM = 6

abbrev pub NO_REPORT_ROOM : ℕ
NO_REPORT_ROOM = 7

abbrev pub NO_TREE_ROOM : ℕ
NO_TREE_ROOM = 8

-- document 02's: of a text that is to be lexed
abbrev pub HIGH_BYTE : ℕ
HIGH_BYTE = 9

abbrev pub DIRECTIVE : ℕ
DIRECTIVE = 10

-- document 02's: of a token row, the last also of all rows together
abbrev pub BAD_KIND : ℕ
BAD_KIND = 11

abbrev pub ZERO_LENGTH : ℕ
ZERO_LENGTH = 12

abbrev pub BAD_END : ℕ
BAD_END = 13

-- ---------------------------------------------------------------- how many numbers 32 bits hold, and 64

abbrev pub TWO_TO_32 : ℕ
TWO_TO_32 = 4294967296

abbrev pub TWO_TO_64 : ℕ
TWO_TO_64 = 18446744073709551616

-- ---------------------------------------------------------------- the limits of a call

-- cause 2: the most bytes of input, and the most token numbers
abbrev pub MOST_BYTES : ℕ
MOST_BYTES = 1048576

abbrev pub MOST_TOKEN_NUMBERS : ℕ
MOST_TOKEN_NUMBERS = 131072

-- as many token rows
abbrev pub MOST_TOKENS : ℕ
MOST_TOKENS = MOST_TOKEN_NUMBERS / TOKEN_ROW

-- cause 5: the most open calls
abbrev pub MOST_OPEN_CALLS : ℕ
MOST_OPEN_CALLS = 64

-- ---------------------------------------------------------------- expectations

-- kinds are 0 to 60; the other expectations are 101 to 108
abbrev pub KIND_CODES : ℕ
KIND_CODES = 61

abbrev pub FIRST_OTHER : ℕ
FIRST_OTHER = 101

abbrev pub OTHER_CODES : ℕ
OTHER_CODES = 8

-- No limit of a call: each is pending once (document 02, 6/14), so that there are never more (`Once` of crates/laws).
abbrev pub MOST_PENDING : ℕ
MOST_PENDING = KIND_CODES + OTHER_CODES

-- ---------------------------------------------------------------- a call's setting

-- the old one; any other number is the strict one
abbrev pub OLD_SETTING : ℕ
OLD_SETTING = 0
