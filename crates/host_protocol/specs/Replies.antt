-- The text of a reply.
use Rattle.std.specs.Prelude.{ℕ, ◌^◌, ◌<◌, ◌≤◌, List, [], ◌∷◌, ◌++◌, length, codes}
use Rattle.std.specs.Fmt.{decimal}
use Rattle.hex.specs.Hex.{encode_lower, IsBytes}
use Rattle.tx_types.specs.Limits.{max_page_bytes}
use Rattle.tx_types.specs.declared.stats.Stats.{Stats}
use Rattle.host_protocol.specs.declared.reply.Reply.{Reply}
use Rattle.host_protocol.specs.declared.reply.Reply.TheVariants as reply

-- the line of these words: a space between each two, and a line feed at the end
abbrev pub line_of : List (List ℕ) → List ℕ
line_of [] = 10 ∷ []
line_of (word ∷ []) = word ++ 10 ∷ []
line_of (word ∷ next ∷ words) = word ++ 32 ∷ line_of (next ∷ words)

-- the words of a page with its contents
abbrev pub page_words : ℕ → List ℕ → List (List ℕ)
page_words page bytes = codes "page" ∷ decimal page ∷ encode_lower bytes ∷ []

-- the words for how many transactions went on, and how many of these were finished
abbrev pub moved_words : ℕ → ℕ → List (List ℕ)
moved_words moved finished =
    codes "moved" ∷ decimal moved ∷ codes "finished" ∷ decimal finished ∷ []

-- the words of the numbers of a device that tell of its flash
abbrev pub flash_stats : Stats → List (List ℕ)
flash_stats s =
    codes "programs" ∷ decimal s.programs ∷ codes "erases" ∷ decimal s.erases
    ∷ codes "garbage" ∷ decimal s.garbage ∷ []

-- the words of the numbers of a device
abbrev pub stats_words : Stats → List (List ℕ)
stats_words s =
    codes "stats" ∷ codes "written" ∷ decimal s.written ∷ codes "open" ∷ decimal s.tags
    ∷ codes "pending" ∷ decimal s.pending ∷ flash_stats s

-- the words of a reply that is one line
abbrev pub reply_words : Reply → List (List ℕ)
reply_words (reply.Blank page) = codes "blank" ∷ decimal page ∷ []
reply_words (reply.Page page bytes) = page_words page bytes
reply_words (reply.Opened tag pages) = codes "open" ∷ decimal tag ∷ decimal pages ∷ []
reply_words (reply.Wrote tag done all) =
    codes "wrote" ∷ decimal tag ∷ decimal done ∷ decimal all ∷ []
reply_words (reply.Done tag) = codes "done" ∷ decimal tag ∷ []
reply_words (reply.Aborted tag) = codes "aborted" ∷ decimal tag ∷ []
reply_words (reply.Late tag) = codes "late" ∷ decimal tag ∷ []
reply_words (reply.Unknown tag) = codes "unknown" ∷ decimal tag ∷ []
reply_words (reply.Moved moved finished) = moved_words moved finished
reply_words reply.Collected = codes "collected" ∷ []
reply_words reply.Nothing = codes "nothing" ∷ []
reply_words reply.Armed = codes "armed" ∷ []
reply_words reply.Cut = codes "cut" ∷ []
reply_words reply.Fault = codes "fault" ∷ []
reply_words reply.Dropped = codes "dropped" ∷ []
reply_words reply.RefusedEmpty = codes "refused" ∷ codes "empty" ∷ []
reply_words (reply.RefusedRange page) = codes "refused" ∷ codes "range" ∷ decimal page ∷ []
reply_words (reply.RefusedRepeated page) = codes "refused" ∷ codes "repeated" ∷ decimal page ∷ []
reply_words (reply.RefusedTag tag) = codes "refused" ∷ codes "tag" ∷ decimal tag ∷ []
reply_words (reply.RefusedOverlap page tag) =
    codes "refused" ∷ codes "overlap" ∷ decimal page ∷ decimal tag ∷ []
reply_words (reply.RefusedFull free) = codes "refused" ∷ codes "full" ∷ decimal free ∷ []
reply_words (reply.RefusedSpent page) = codes "refused" ∷ codes "spent" ∷ decimal page ∷ []
reply_words (reply.Stats s) = stats_words s
reply_words (reply.Report text) = []

-- the text of a reply: the line of its words, or a report as it is
abbrev pub text_of : Reply → List ℕ
text_of (reply.Report text) = text
text_of what = line_of (reply_words what)

-- the reply is one line, of numbers and bytes as their types have them: no report
abbrev pub IsLine : Reply → Type 0
IsLine (reply.Page page bytes) = (page < 2 ^ 32) × IsBytes bytes
IsLine (reply.Stats s) =
    (s.written < 2 ^ 32) × (s.tags < 2 ^ 32) × (s.pending < 2 ^ 32)
    × (s.programs < 2 ^ 64) × (s.erases < 2 ^ 64) × (s.garbage < 2 ^ 32)
IsLine (reply.Blank page) = page < 2 ^ 32
IsLine (reply.Opened tag pages) = (tag < 2 ^ 32) × (pages < 2 ^ 32)
IsLine (reply.Wrote tag done all) = (tag < 2 ^ 32) × (done < 2 ^ 32) × (all < 2 ^ 32)
IsLine (reply.Done tag) = tag < 2 ^ 32
IsLine (reply.Aborted tag) = tag < 2 ^ 32
IsLine (reply.Late tag) = tag < 2 ^ 32
IsLine (reply.Unknown tag) = tag < 2 ^ 32
IsLine (reply.Moved moved finished) = (moved < 2 ^ 32) × (finished < 2 ^ 32)
IsLine (reply.RefusedRange page) = page < 2 ^ 32
IsLine (reply.RefusedRepeated page) = page < 2 ^ 32
IsLine (reply.RefusedTag tag) = tag < 2 ^ 32
IsLine (reply.RefusedOverlap page tag) = (page < 2 ^ 32) × (tag < 2 ^ 32)
IsLine (reply.RefusedFull free) = free < 2 ^ 32
IsLine (reply.RefusedSpent page) = page < 2 ^ 32
IsLine (reply.Report text) = ⊥
IsLine what = Unit {0}

-- the contents of a page are no longer than those of a device
abbrev pub HasPage : Reply → Type 0
HasPage (reply.Page page bytes) = length bytes ≤ max_page_bytes
HasPage what = Unit {0}

-- the most bytes of a line with its line feed: that of a page with 4096 bytes and a number of ten digits
abbrev pub max_reply_bytes : ℕ
max_reply_bytes = 8209
