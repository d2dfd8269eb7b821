-- The text of replies tells the replies.
use Rattle.host_protocol.proofs.Common.{◌≡◌, ℕ, suc, ◌/◌, ◌%◌, ◌^◌, ◌<◌, ◌≤◌, ◌≢◌, Bool, true, false, not, List, [], ◌∷◌, ◌++◌, length, get_or, refl, sym, ap, ◌∙◌, arith, append_assoc, length-append, codes, slice_index, decimal, flat_map, bytes_eq, nat_tests, line_of}
use Rattle.std.proofs.Common.{zero, ◌||◌, ◌==◌}
use Rattle.std.proofs.Common.{slice_index_or, if◌then◌else◌}
use Rattle.std.specs.List.{list_all, AllByRecursion}
use Rattle.std.specs.Result.{result_unwrap_or}
use Rattle.std.specs.Str.Parse.{digits_value}
use Rattle.std.specs.Str.Parse.{AllDigits}
use Rattle.std.proofs.lemmas.Bool.{and_parts}
use Rattle.std.proofs.lemmas.Fmt.{decimal_is_IsNumeral}
use Rattle.std.proofs.lemmas.Str.Parse.{digit_from_value}
use Rattle.hex.proofs.HexLemmas.{decode_of-encode_lower}
use Rattle.hex.specs.Hex.{encode_lower, encode_with, lower_digits, decode_of}
use Rattle.tx_types.specs.declared.stats.Stats.{Stats}
use Rattle.host_protocol.specs.Replies.{text_of, reply_words, IsLine}
use Rattle.host_protocol.specs.declared.reply.Reply.{Reply}
use Rattle.host_protocol.specs.declared.reply.Reply.TheVariants as reply

-- ---- a line tells its words

-- neither a space nor a line feed
abbrev pub is_plain : ℕ → Bool
is_plain b = not (b == 32 || b == 10)

-- words that are one or more, of plain bytes
abbrev pub ArePlain : List (List ℕ) → Type 0
ArePlain [] = ⊥
ArePlain (word ∷ []) = list_all is_plain word ≡ true
ArePlain (word ∷ next ∷ words) = (list_all is_plain word ≡ true) × ArePlain (next ∷ words)

-- what stands before the first byte that is not plain, that byte, and what is behind it
record Cut (a xs b ys : List ℕ) (x y : ℕ) : Type 0 where
  front : a ≡ b
  at : x ≡ y
  behind : xs ≡ ys

cut : (a xs b ys : List ℕ) (x y : ℕ) → list_all is_plain a ≡ true → list_all is_plain b ≡ true → is_plain x ≡ false →
    is_plain y ≡ false
    → a ++ x ∷ xs ≡ b ++ y ∷ ys → Cut a xs b ys x y
cut [] xs [] ys x y pa pb px py h = record { front = refl; at = cc; behind = cc }
cut [] xs (c ∷ cs) ys x y pa pb px py h =
    let e : x ≡ c = cc in let p : is_plain c ≡ true = (and_parts (is_plain c) (list_all is_plain cs) pb).0 in
    let no : false ≡ true = sym px ∙ (ap is_plain e ∙ p) in absurd (cc)
cut (c ∷ cs) xs [] ys x y pa pb px py h =
    let e : c ≡ y = cc in let p : is_plain c ≡ true = (and_parts (is_plain c) (list_all is_plain cs) pa).0 in
    let no : false ≡ true = sym py ∙ (ap is_plain (sym e) ∙ p) in absurd (cc)
cut (c ∷ cs) xs (d ∷ ds) ys x y pa pb px py h =
    let e : c ≡ d = cc in
    let tails : cs ++ x ∷ xs ≡ ds ++ y ∷ ys = cc in
    let rest = cut cs xs ds ys x y (and_parts (is_plain c) (list_all is_plain cs) pa).1
    (and_parts (is_plain d) (list_all is_plain ds) pb).1 px py tails in
    record { front = let f = rest.front in cc; at = rest.at; behind = rest.behind }

-- a line and what is behind it
pub record LineTold (ws vs : List (List ℕ)) (X Y : List ℕ) : Type 0 where
  words : ws ≡ vs
  behind : X ≡ Y

pub line_tells : (ws vs : List (List ℕ)) (X Y : List ℕ) → ArePlain ws → ArePlain vs →
    line_of ws ++ X ≡ line_of vs ++ Y → LineTold ws vs X Y
line_tells [] vs X Y p q h = absurd p
line_tells (w ∷ []) [] X Y p q h = absurd q
line_tells (w ∷ u ∷ ws) [] X Y p q h = absurd q
line_tells (w ∷ []) (v ∷ []) X Y p q h =
    let e : w ++ 10 ∷ X ≡ v ++ 10 ∷ Y = rw (append_assoc, append_assoc) at h in
    let parts = cut w X v Y 10 10 p q refl refl e in
    record { words = ap (λ z. z ∷ []) parts.front; behind = parts.behind }
line_tells (w ∷ []) (v ∷ u ∷ vs) X Y p q h =
    let e : w ++ 10 ∷ X ≡ v ++ 32 ∷ (line_of (u ∷ vs) ++ Y) = rw (append_assoc, append_assoc) at h in
    let no = (cut w X v (line_of (u ∷ vs) ++ Y) 10 32 p q.0 refl refl e).at in
    absurd (omega arith)
line_tells (w ∷ u ∷ ws) (v ∷ []) X Y p q h =
    let e : w ++ 32 ∷ (line_of (u ∷ ws) ++ X) ≡ v ++ 10 ∷ Y = rw (append_assoc, append_assoc) at h in
    let no = (cut w (line_of (u ∷ ws) ++ X) v Y 32 10 p.0 q refl refl e).at in
    absurd (omega arith)
line_tells (w ∷ u ∷ ws) (v ∷ t ∷ vs) X Y p q h =
    let e : w ++ 32 ∷ (line_of (u ∷ ws) ++ X) ≡ v ++ 32 ∷ (line_of (t ∷ vs) ++ Y) =
    rw (append_assoc, append_assoc) at h in
    let parts = cut w (line_of (u ∷ ws) ++ X) v (line_of (t ∷ vs) ++ Y) 32 32 p.0 q.0 refl refl e in
    let rest = line_tells (u ∷ ws) (t ∷ vs) X Y p.1 q.1 parts.behind in
    record { words = let f = parts.front in let r = rest.words in cc; behind = rest.behind }

-- ---- the words of a reply are plain

plain_digit : (c : ℕ) → 48 ≤ c → is_plain c ≡ true
plain_digit c h = let a : c ≢ 32 = omega arith in let b : c ≢ 10 = omega arith in grind (arith, nat_tests)

plain_digits : (ds : List ℕ) → AllDigits 10 ds → list_all is_plain ds ≡ true
plain_digits [] h = refl
plain_digits (c ∷ cs) h = let low = digit_from_value c h.0 in rw (plain_digit c low.0) (plain_digits cs h.1)

plain_decimal : (n : ℕ) → n < 2 ^ 64 → list_all is_plain (decimal n) ≡ true
plain_decimal n h = plain_digits (decimal n) (decimal_is_IsNumeral n h).0.1

all_at : (p : ℕ → Bool) (xs : List ℕ) (k d : ℕ) → list_all p xs ≡ true → p d ≡ true → p (get_or xs k d) ≡ true
all_at p [] k d all other = other
all_at p (x ∷ xs) zero d all other = (and_parts (p x) (list_all p xs) all).0
all_at p (x ∷ xs) (suc k) d all other = all_at p xs k d (and_parts (p x) (list_all p xs) all).1 other

plain_table : (k : ℕ) → is_plain (slice_index lower_digits k) ≡ true
plain_table k = all_at is_plain lower_digits k 0 refl refl

plain_hex : (bytes : List ℕ) → list_all is_plain (encode_lower bytes) ≡ true
unfolding encode_with
plain_hex [] = refl
plain_hex (b ∷ bs) = rw (plain_table (b / 16), plain_table (b % 16)) (plain_hex bs)

-- u32 numbers are u64 numbers
wide : (n : ℕ) → n < 2 ^ 32 → n < 2 ^ 64
wide n h = omega arith

-- the words of a reply of one line
plain_words : (what : Reply) → IsLine what → ArePlain (reply_words what)
plain_words (reply.Blank page) h = (refl, plain_decimal page (wide page h))
plain_words (reply.Page page bytes) h = (refl, (plain_decimal page (wide page h.0), plain_hex bytes))
plain_words (reply.Opened tag pages) h =
    (refl, (plain_decimal tag (wide tag h.0), plain_decimal pages (wide pages h.1)))
plain_words (reply.Wrote tag done all) h =
    (refl, (plain_decimal tag (wide tag h.0), (plain_decimal done (wide done h.1), plain_decimal all (wide all h.2))))
plain_words (reply.Done tag) h = (refl, plain_decimal tag (wide tag h))
plain_words (reply.Aborted tag) h = (refl, plain_decimal tag (wide tag h))
plain_words (reply.Late tag) h = (refl, plain_decimal tag (wide tag h))
plain_words (reply.Unknown tag) h = (refl, plain_decimal tag (wide tag h))
plain_words (reply.Moved moved finished) h =
    (refl, (plain_decimal moved (wide moved h.0), (refl, plain_decimal finished (wide finished h.1))))
plain_words reply.Collected h = refl
plain_words reply.Nothing h = refl
plain_words reply.Armed h = refl
plain_words reply.Cut h = refl
plain_words reply.Fault h = refl
plain_words reply.Dropped h = refl
plain_words reply.RefusedEmpty h = (refl, refl)
plain_words (reply.RefusedRange page) h = (refl, (refl, plain_decimal page (wide page h)))
plain_words (reply.RefusedRepeated page) h = (refl, (refl, plain_decimal page (wide page h)))
plain_words (reply.RefusedTag tag) h = (refl, (refl, plain_decimal tag (wide tag h)))
plain_words (reply.RefusedOverlap page tag) h =
    (refl, (refl, (plain_decimal page (wide page h.0), plain_decimal tag (wide tag h.1))))
plain_words (reply.RefusedFull free) h = (refl, (refl, plain_decimal free (wide free h)))
plain_words (reply.RefusedSpent page) h = (refl, (refl, plain_decimal page (wide page h)))
plain_words (reply.Stats s) h = (
  refl,
  (
    refl,
    (
      plain_decimal s.written (wide s.written h.0),
      (
        refl,
        (
          plain_decimal s.tags (wide s.tags h.1),
          (
            refl,
            (
              plain_decimal s.pending (wide s.pending h.2),
              (
                refl,
                (
                  plain_decimal s.programs h.3,
                  (
                    refl,
                    (
                      plain_decimal s.erases h.4,
                      (refl, plain_decimal s.garbage (wide s.garbage h.5)),
                    ),
                  ),
                ),
              ),
            ),
          ),
        ),
      ),
    ),
  ),
)
plain_words (reply.Report text) h = absurd h

-- ---- the words tell the reply

-- the number that the word at a place is
abbrev nth : List (List ℕ) → ℕ → ℕ
nth words i = digits_value 10 (slice_index_or words i [])

abbrev pub is : List ℕ → List ℕ → Bool
is word name = bytes_eq word name

refusal_from : List (List ℕ) → Reply
refusal_from [] = reply.Nothing
refusal_from (word ∷ words) =
    if is word (codes "empty") then reply.RefusedEmpty
    else if is word (codes "range") then reply.RefusedRange (nth words 0)
    else if is word (codes "repeated") then reply.RefusedRepeated (nth words 0)
    else if is word (codes "tag") then reply.RefusedTag (nth words 0)
    else if is word (codes "overlap") then reply.RefusedOverlap (nth words 0) (nth words 1)
    else if is word (codes "full") then reply.RefusedFull (nth words 0)
    else reply.RefusedSpent (nth words 0)

stats_from : List (List ℕ) → Stats
stats_from words = record {
  written = nth words 1;
  tags = nth words 3;
  pending = nth words 5;
  programs = nth words 7;
  erases = nth words 9;
  garbage =
      nth words 11;
}

bytes_from : List ℕ → List ℕ
bytes_from text = result_unwrap_or (decode_of text) []

reply_from : List (List ℕ) → Reply
reply_from [] = reply.Nothing
reply_from (word ∷ words) =
    if is word (codes "blank") then reply.Blank (nth words 0)
    else if is word (codes "page") then reply.Page (nth words 0) (bytes_from (slice_index_or words 1 []))
    else if is word (codes "open") then reply.Opened (nth words 0) (nth words 1)
    else if is word (codes "wrote") then reply.Wrote (nth words 0) (nth words 1) (nth words 2)
    else if is word (codes "done") then reply.Done (nth words 0)
    else if is word (codes "aborted") then reply.Aborted (nth words 0)
    else if is word (codes "late") then reply.Late (nth words 0)
    else if is word (codes "unknown") then reply.Unknown (nth words 0)
    else if is word (codes "moved") then reply.Moved (nth words 0) (nth words 2)
    else if is word (codes "collected") then reply.Collected
    else if is word (codes "armed") then reply.Armed
    else if is word (codes "cut") then reply.Cut
    else if is word (codes "fault") then reply.Fault
    else if is word (codes "dropped") then reply.Dropped
    else if is word (codes "refused") then refusal_from words
    else if is word (codes "stats") then reply.Stats (stats_from words)
    else reply.Nothing

value : (n : ℕ) → n < 2 ^ 64 → digits_value 10 (decimal n) ≡ n
value n h = (decimal_is_IsNumeral n h).1

value32 : (n : ℕ) → n < 2 ^ 32 → digits_value 10 (decimal n) ≡ n
value32 n h = value n (wide n h)

read_back : (what : Reply) → IsLine what → reply_from (reply_words what) ≡ what
unfolding reply_from refusal_from bytes_from stats_from
read_back (reply.Blank page) h = ap (λ n. reply.Blank n) (value32 page h)
read_back (reply.Page page bytes) h = rw (value32 page h.0, decode_of-encode_lower bytes h.1) refl
read_back (reply.Opened tag pages) h = rw (value32 tag h.0, value32 pages h.1) refl
read_back (reply.Wrote tag done all) h = rw (value32 tag h.0, value32 done h.1, value32 all h.2) refl
read_back (reply.Done tag) h = ap (λ n. reply.Done n) (value32 tag h)
read_back (reply.Aborted tag) h = ap (λ n. reply.Aborted n) (value32 tag h)
read_back (reply.Late tag) h = ap (λ n. reply.Late n) (value32 tag h)
read_back (reply.Unknown tag) h = ap (λ n. reply.Unknown n) (value32 tag h)
read_back (reply.Moved moved finished) h = rw (value32 moved h.0, value32 finished h.1) refl
read_back reply.Collected h = refl
read_back reply.Nothing h = refl
read_back reply.Armed h = refl
read_back reply.Cut h = refl
read_back reply.Fault h = refl
read_back reply.Dropped h = refl
read_back reply.RefusedEmpty h = refl
read_back (reply.RefusedRange page) h = ap (λ n. reply.RefusedRange n) (value32 page h)
read_back (reply.RefusedRepeated page) h = ap (λ n. reply.RefusedRepeated n) (value32 page h)
read_back (reply.RefusedTag tag) h = ap (λ n. reply.RefusedTag n) (value32 tag h)
read_back (reply.RefusedOverlap page tag) h = rw (value32 page h.0, value32 tag h.1) refl
read_back (reply.RefusedFull free) h = ap (λ n. reply.RefusedFull n) (value32 free h)
read_back (reply.RefusedSpent page) h = ap (λ n. reply.RefusedSpent n) (value32 page h)
read_back (reply.Stats s) h = rw (
  value32 s.written h.0,
  value32 s.tags h.1,
  value32 s.pending h.2,
  value s.programs h.3,
  value s.erases h.4,
  value32 s.garbage h.5,
) refl
read_back (reply.Report text) h = absurd h

-- ---- the texts tell the replies

line_text : (what : Reply) → IsLine what → text_of what ≡ line_of (reply_words what)
line_text (reply.Report text) h = absurd h
line_text what h = refl

line_some : (words : List (List ℕ)) → 0 < length (line_of words)
line_some [] = omega arith
line_some (word ∷ []) = omega (arith, length-append {A = ℕ})
line_some (word ∷ next ∷ words) = omega (arith, length-append {A = ℕ})

no_text : (what : Reply) (more : List ℕ) → IsLine what → [] ≡ text_of what ++ more → ⊥
no_text what more is h =
    let some = line_some (reply_words what) in
    let long : 0 ≡ length (line_of (reply_words what) ++ more) = ap length (rw (line_text what is) at h) in
    omega (arith, length-append {A = ℕ})

-- the texts of replies of one line, one behind the other, are those of no other such replies
pub texts_tell : (xs ys : List Reply) → AllByRecursion IsLine xs → AllByRecursion IsLine ys →
    flat_map text_of xs ≡ flat_map text_of ys → xs ≡ ys
texts_tell [] [] p q h = refl
texts_tell [] (y ∷ ys) p q h = absurd (no_text y (flat_map text_of ys) q.0 h)
texts_tell (x ∷ xs) [] p q h = absurd (no_text x (flat_map text_of xs) p.0 (sym h))
texts_tell (x ∷ xs) (y ∷ ys) p q h =
    let lines = rw (line_text x p.0, line_text y q.0) at h in
    let told = line_tells (reply_words x) (reply_words y) (flat_map text_of xs) (flat_map text_of ys)
    (plain_words x p.0) (plain_words y q.0) lines in
    let first : x ≡ y = sym (read_back x p.0) ∙ (ap reply_from told.words ∙ read_back y q.0) in
    let rest = texts_tell xs ys p.1 q.1 told.behind in
    cc
