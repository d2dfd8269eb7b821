-- The lines of replies are short.
use Rattle.host_protocol.proofs.Common.{ℕ, ◌+◌, ◌*◌, ◌^◌, ◌<◌, ◌≤◌, List, [], ◌∷◌, length, arith, length-append, decimal, line_of}
use Rattle.list_lemmas.proofs.Values.{digits_64, digits_32}
use Rattle.hex.proofs.HexLemmas.{length-encode_with}
use Rattle.hex.specs.Hex.{lower_digits}
use Rattle.host_protocol.specs.Replies.{reply_words, text_of, IsLine, HasPage, max_reply_bytes}
use Rattle.host_protocol.specs.declared.reply.Reply.{Reply}
use Rattle.host_protocol.specs.declared.reply.Reply.TheVariants as reply

-- words of at most 20 bytes
abbrev AreShort : List (List ℕ) → Type 0
AreShort [] = Unit {0}
AreShort (word ∷ words) = (length word ≤ 20) × AreShort words

line_short : (words : List (List ℕ)) → AreShort words → length (line_of words) ≤ 1 + 21 * length words
line_short [] h = omega arith
line_short (word ∷ []) h = let first = h.0 in omega (arith, length-append {A = ℕ})
line_short (word ∷ next ∷ words) h =
    let first = h.0 in
    let rest = line_short (next ∷ words) h.1 in
    omega (arith, length-append {A = ℕ})

few : (words : List (List ℕ)) → AreShort words → length words ≤ 13 → length (line_of words) ≤ max_reply_bytes
few words h n = let line = line_short words h in omega arith

short32 : (n : ℕ) → n < 2 ^ 32 → length (decimal n) ≤ 20
short32 n h = digits_64 n (omega arith)

pub short_text : (what : Reply) → IsLine what → HasPage what → length (text_of what) ≤ max_reply_bytes
short_text (reply.Blank page) h p = few (reply_words (reply.Blank page)) (
  omega arith,
  (short32 page h, tt),
) (omega arith)
short_text (reply.Page page bytes) h p =
    let number = digits_32 page h.0 in
    let digits = length-encode_with lower_digits bytes in
    omega (arith, length-append {A = ℕ})
short_text (reply.Opened tag pages) h p = few (reply_words (reply.Opened tag pages)) (
  omega arith,
  (short32 tag h.0, (short32 pages h.1, tt)),
) (omega arith)
short_text (reply.Wrote tag done all) h p =
    few (reply_words (reply.Wrote tag done all)) (
      omega arith,
      (short32 tag h.0, (short32 done h.1, (short32 all h.2, tt))),
    ) (omega arith)
short_text (reply.Done tag) h p = few (reply_words (reply.Done tag)) (omega arith, (short32 tag h, tt)) (omega arith)
short_text (reply.Aborted tag) h p = few (reply_words (reply.Aborted tag)) (
  omega arith,
  (short32 tag h, tt),
) (omega arith)
short_text (reply.Late tag) h p = few (reply_words (reply.Late tag)) (omega arith, (short32 tag h, tt)) (omega arith)
short_text (reply.Unknown tag) h p = few (reply_words (reply.Unknown tag)) (
  omega arith,
  (short32 tag h, tt),
) (omega arith)
short_text (reply.Moved moved finished) h p =
    few (reply_words (reply.Moved moved finished)) (
      omega arith,
      (short32 moved h.0, (omega arith, (short32 finished h.1, tt))),
    ) (omega arith)
short_text reply.Collected h p = omega arith
short_text reply.Nothing h p = omega arith
short_text reply.Armed h p = omega arith
short_text reply.Cut h p = omega arith
short_text reply.Fault h p = omega arith
short_text reply.Dropped h p = omega arith
short_text reply.RefusedEmpty h p = omega arith
short_text (reply.RefusedRange page) h p = few (reply_words (reply.RefusedRange page)) (
  omega arith,
  (omega arith, (short32 page h, tt)),
) (omega arith)
short_text (reply.RefusedRepeated page) h p = few (reply_words (reply.RefusedRepeated page)) (
  omega arith,
  (omega arith, (short32 page h, tt)),
) (omega arith)
short_text (reply.RefusedTag tag) h p = few (reply_words (reply.RefusedTag tag)) (
  omega arith,
  (omega arith, (short32 tag h, tt)),
) (omega arith)
short_text (reply.RefusedOverlap page tag) h p =
    few (reply_words (reply.RefusedOverlap page tag)) (
      omega arith,
      (omega arith, (short32 page h.0, (short32 tag h.1, tt))),
    ) (omega arith)
short_text (reply.RefusedFull free) h p = few (reply_words (reply.RefusedFull free)) (
  omega arith,
  (omega arith, (short32 free h, tt)),
) (omega arith)
short_text (reply.RefusedSpent page) h p = few (reply_words (reply.RefusedSpent page)) (
  omega arith,
  (omega arith, (short32 page h, tt)),
) (omega arith)
short_text (reply.Stats s) h p =
    let written = short32 s.written h.0 in
    let tags = short32 s.tags h.1 in
    let pending = short32 s.pending h.2 in
    let programs = digits_64 s.programs h.3 in
    let erases = digits_64 s.erases h.4 in
    let garbage = short32 s.garbage h.5 in
    omega (arith, length-append {A = ℕ})
short_text (reply.Report text) h p = absurd h
