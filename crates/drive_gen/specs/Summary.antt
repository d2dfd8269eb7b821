-- The line that sums up the replies to a generated list.
use Rattle.std.specs.Prelude.{ℕ, ◌+◌, ◌-◌, ◌*◌, Bool, List, [], ◌∷◌, ◌++◌, None, unwrap_or, filter, sum_by, count_by, slice_index_or, codes, if◌then◌else◌}
use Rattle.std.specs.Fmt.{decimal}
use Rattle.std.specs.List.{flat_map, last_or}
use Rattle.std.specs.Str.{bytes_eq}
use Rattle.tx_types.specs.Config.{is_within}
use Rattle.tx_types.specs.declared.config.Protocol.{Protocol}
use Rattle.tx_types.specs.declared.config.Protocol.TheVariants as protocol
use Rattle.host_protocol.specs.Lines.{lines_of, words_of}
use Rattle.host_protocol.specs.Replies.{line_of}

-- the word of a line at a place, counted from 0, or another one where the line has none there
abbrev pub word_or : List ℕ → ℕ → List ℕ → List ℕ
word_or line place other = slice_index_or (words_of line) place other

-- the line's first word is this one
unfoldable pub begins_with : List ℕ → List ℕ → Bool
begins_with word line = bytes_eq (word_or line 0 []) word

-- how many lines of the replies begin with this word
abbrev pub lines_with : List ℕ → List ℕ → ℕ
lines_with word replies = count_by (begins_with word) (lines_of replies)

-- the last line of the numbers of a device, empty where there is none
abbrev pub last_stats : List (List ℕ) → List ℕ
last_stats lines = unwrap_or (last_or None (filter (begins_with (codes "stats")) lines)) []

-- what a digit of the reply texts stands for: `0` to `9` are 48 to 57, and `a` to `f` are 97 to 102
abbrev pub digit_value : ℕ → ℕ
digit_value digit =
    if is_within 48 57 digit then digit - 48 else if is_within 97 102 digit then digit - 87 else 0

-- the sum of the bytes that digits spell, two digits a byte, the high one first
unfoldable pub sum_of_bytes : List ℕ → ℕ
sum_of_bytes [] = 0
sum_of_bytes (digit ∷ []) = 0
sum_of_bytes (high ∷ low ∷ digits) = 16 * digit_value high + digit_value low + sum_of_bytes digits

-- the sum of the bytes of a page, in its line
abbrev pub page_sum : List ℕ → ℕ
page_sum line = if begins_with (codes "page") line then sum_of_bytes (word_or line 2 []) else 0

-- the sum of all bytes in the lines of pages
abbrev pub sum_of_pages : List ℕ → ℕ
sum_of_pages replies = sum_by page_sum (lines_of replies)

abbrev pub protocol_word : Protocol → List ℕ
protocol_word protocol.Scc = codes "scc"
protocol_word protocol.Bpcc = codes "bpcc"

-- what was asked for
abbrev pub asked_words : ℕ → ℕ → Protocol → ℕ → List (List ℕ)
asked_words start count protocol commands =
    codes "drive" ∷ protocol_word protocol ∷ codes "start" ∷ decimal start ∷ codes "count"
    ∷ decimal count ∷ codes "commands" ∷ decimal commands ∷ []

-- the word of a kind of replies, and how many there were
abbrev pub kind_words : List ℕ → List ℕ → List (List ℕ)
kind_words word replies = word ∷ decimal (lines_with word replies) ∷ []

abbrev pub count_words : List ℕ → List (List ℕ)
count_words replies =
    kind_words (codes "done") replies ++ kind_words (codes "aborted") replies
    ++ kind_words (codes "cut") replies
    ++ kind_words (codes "refused") replies ++ kind_words (codes "unknown") replies

-- the numbers of the flash that the last line of the numbers of a device has
abbrev pub flash_words : List ℕ → List (List ℕ)
flash_words stats =
    codes "programs" ∷ word_or stats 8 (codes "0") ∷ codes "erases" ∷ word_or stats 10 (codes "0")
    ∷ []

abbrev pub sum_words : ℕ → List (List ℕ)
sum_words sum = codes "sum" ∷ decimal sum ∷ []

-- what was asked for, what the replies count to, and what they tell of the flash and of the pages
unfoldable pub summary_line : ℕ → ℕ → Protocol → ℕ → List ℕ → List ℕ
summary_line start count protocol commands replies =
    line_of (asked_words start count protocol commands ++ count_words replies
    ++ flash_words (last_stats (lines_of replies)) ++ sum_words (sum_of_pages replies))

-- words with a space behind each
abbrev pub spaced : List (List ℕ) → List ℕ
spaced words = flat_map (λ word. word ++ 32 ∷ []) words
