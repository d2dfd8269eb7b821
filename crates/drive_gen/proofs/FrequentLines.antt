-- The lines of the replies that come most often.
use Rattle.drive_gen.proofs.Common.{◌≡◌, ℕ, suc, ◌+◌, ◌<◌, Bool, true, false, cond, List, [], ◌∷◌, ◌++◌, length, refl, sym, ap, ◌∙◌, append_assoc, arith, codes, map, lines_of, words_of, plus, tally_of}
use Rattle.std.proofs.Common.{zero, ◌-◌, ◌/◌, ◌%◌, ◌==◌, ◌||◌, not, take, slice_index}
use Rattle.std.specs.Fmt.{decimal, digits, digits_onto, digit_glyph}
use Rattle.std.specs.List.{list_all, AllByRecursion}
use Rattle.std.specs.Str.Lines.{strip_carriage_return}
use Rattle.std.proofs.lemmas.Bool.{and_from, and_parts, false≢true}
use Rattle.std.proofs.lemmas.Bool.Decides.{nat_tests}
use Rattle.std.proofs.lemmas.List.Elements.{All-from_recursion}
use Rattle.std.proofs.lemmas.List.Folds.{list_all-append}
use Rattle.std.proofs.lemmas.List.Splits.{slice_split_at}
use Rattle.host_protocol.specs.Lines.{ended_parts, is_line_feed}
use Rattle.host_protocol.specs.Replies.{text_of}
use Rattle.host_protocol.specs.declared.reply.Reply.TheVariants as reply
use Rattle.drive_gen.specs.Counting.{AddsLine}
use Rattle.drive_gen.specs.Summary.{begins_with, last_stats}
use Rattle.drive_gen.specs.declared.tally.Tally.{Tally}
use Rattle.drive_gen.proofs.TallyLemmas.{same}

-- ---- one line

-- neither a line feed nor a carriage return
abbrev is_inner : ℕ → Bool
is_inner b = not (b == 10 || b == 13)

neither : (v w : Bool) → not (v || w) ≡ true → (v ≡ false) × (w ≡ false)
neither true w h = absurd (false≢true h)
neither false true h = absurd (false≢true h)
neither false false h = (refl, refl)

no_feeds : (line : List ℕ) → list_all is_inner line ≡ true → AllByRecursion (λ b. is_line_feed b ≡ false) line
no_feeds [] h = tt
no_feeds (b ∷ line) h =
    let parts = and_parts (is_inner b) (list_all is_inner line) h in
    ((neither (b == 10) (b == 13) parts.0).0, no_feeds line parts.1)

no_return : (line : List ℕ) (k : ℕ) → list_all is_inner line ≡ true → (slice_index line k == 13) ≡ false
no_return [] k h = refl
no_return (b ∷ line) zero h =
    (neither (b == 10) (b == 13) (and_parts (is_inner b) (list_all is_inner line) h).0).1
no_return (b ∷ line) (suc k) h = no_return line k (and_parts (is_inner b) (list_all is_inner line) h).1

-- such bytes and a line feed are one line
one_line : (line : List ℕ) → list_all is_inner line ≡ true → lines_of (line ++ 10 ∷ []) ≡ line ∷ []
unfolding lines_of
one_line line h =
    ap (λ parts. map strip_carriage_return (ended_parts parts))
    (slice_split_at is_line_feed line 10 []
    (All-from_recursion (λ b. is_line_feed b ≡ false) line (no_feeds line h)) refl)
    ∙ ap (λ v. cond v (take (length line - 1) line) line ∷ []) (no_return line (length line - 1) h)

-- ---- the digits of a number

inner_glyph : (d : ℕ) → d < 10 → is_inner (digit_glyph false d) ≡ true
inner_glyph d h = grind (arith, nat_tests)

either : (v : Bool) (xs ys : List ℕ) → list_all is_inner xs ≡ true → list_all is_inner ys ≡ true →
    list_all is_inner (cond v xs ys) ≡ true
either true xs ys p q = p
either false xs ys p q = q

inner_onto : (k n : ℕ) (digits : List ℕ) → list_all is_inner digits ≡ true →
    list_all is_inner (digits_onto k 10 false n digits) ≡ true
inner_onto zero n digits h = h
inner_onto (suc k) n digits h =
    let digit = digit_glyph false (n % 10) in
    let more = and_from (is_inner digit) (list_all is_inner digits) (inner_glyph (n % 10) (omega arith)) h in
    either (n / 10 == 0) (digit ∷ digits) (digits_onto k 10 false (n / 10) (digit ∷ digits)) more
    (inner_onto k (n / 10) (digit ∷ digits) more)

inner_decimal : (n : ℕ) → list_all is_inner (decimal n) ≡ true
unfolding digits
inner_decimal n = inner_onto 64 n [] refl

inner_join : (xs ys : List ℕ) → list_all is_inner xs ≡ true → list_all is_inner ys ≡ true →
    list_all is_inner (xs ++ ys) ≡ true
inner_join xs ys p q = list_all-append is_inner xs ys ∙ and_from (list_all is_inner xs) (list_all is_inner ys) p q

-- ---- what the lines count to

no_more : (n m : ℕ) → m ≡ 0 → n + m ≡ n
no_more n m none = omega arith

one_more : (n m : ℕ) → m ≡ 1 → n + m ≡ n + 1
one_more n m one = ap (λ k. n + k) one

open_counts : (t : Tally) (rest : List ℕ) → plus t (tally_of ((codes "open" ++ 32 ∷ rest) ∷ [])) ≡ t
unfolding begins_with words_of
open_counts t rest =
    let one = tally_of ((codes "open" ++ 32 ∷ rest) ∷ []) in
    same (plus t one) t (no_more t.done one.done refl) (no_more t.aborted one.aborted refl)
    (no_more t.cut one.cut refl) (no_more t.refused one.refused refl) (no_more t.unknown one.unknown refl)
    (no_more t.sum one.sum refl)

done_counts : (t : Tally) (rest : List ℕ) →
    plus t (tally_of ((codes "done" ++ 32 ∷ rest) ∷ [])) ≡ record t { done = t.done + 1 }
unfolding begins_with words_of
done_counts t rest =
    let one = tally_of ((codes "done" ++ 32 ∷ rest) ∷ []) in
    same (plus t one) (record t { done = t.done + 1 }) (one_more t.done one.done refl)
    (no_more t.aborted one.aborted refl) (no_more t.cut one.cut refl) (no_more t.refused one.refused refl)
    (no_more t.unknown one.unknown refl) (no_more t.sum one.sum refl)

aborted_counts : (t : Tally) (rest : List ℕ) →
    plus t (tally_of ((codes "aborted" ++ 32 ∷ rest) ∷ [])) ≡ record t { aborted = t.aborted + 1 }
unfolding begins_with words_of
aborted_counts t rest =
    let one = tally_of ((codes "aborted" ++ 32 ∷ rest) ∷ []) in
    same (plus t one) (record t { aborted = t.aborted + 1 }) (no_more t.done one.done refl)
    (one_more t.aborted one.aborted refl) (no_more t.cut one.cut refl) (no_more t.refused one.refused refl)
    (no_more t.unknown one.unknown refl) (no_more t.sum one.sum refl)

open_last : (rest : List ℕ) → length (last_stats ((codes "open" ++ 32 ∷ rest) ∷ [])) ≡ 0
unfolding begins_with words_of
open_last rest = refl

done_last : (rest : List ℕ) → length (last_stats ((codes "done" ++ 32 ∷ rest) ∷ [])) ≡ 0
unfolding begins_with words_of
done_last rest = refl

aborted_last : (rest : List ℕ) → length (last_stats ((codes "aborted" ++ 32 ∷ rest) ∷ [])) ≡ 0
unfolding begins_with words_of
aborted_last rest = refl

-- ---- the replies

pub opened_line : (t : Tally) (tag pages : ℕ) → AddsLine (reply.Opened tag pages) t t
opened_line t tag pages =
    let rest = decimal tag ++ 32 ∷ decimal pages in
    let line = codes "open" ++ 32 ∷ rest in
    let text : text_of (reply.Opened tag pages) ≡ line ++ 10 ∷ [] =
    ap (λ l. codes "open" ++ 32 ∷ l) (sym (append_assoc (decimal tag) (32 ∷ decimal pages) (10 ∷ []))) in
    let one : lines_of (text_of (reply.Opened tag pages)) ≡ line ∷ [] =
    ap lines_of text ∙ one_line line
    (inner_join (decimal tag) (32 ∷ decimal pages) (inner_decimal tag) (inner_decimal pages)) in
    record {
      counts = sym (ap (λ l. plus t (tally_of l)) one ∙ open_counts t rest);
      none = ap (λ l. length (last_stats l)) one ∙ open_last rest;
      ends = record { front = line; all = text };
    }

pub done_line : (t : Tally) (tag done : ℕ) → done ≡ t.done + 1 → AddsLine (reply.Done tag) t (record t { done = done })
done_line t tag done more =
    let line = codes "done" ++ 32 ∷ decimal tag in
    let one : lines_of (text_of (reply.Done tag)) ≡ line ∷ [] = one_line line (inner_decimal tag) in
    record {
      counts = ap (λ n. record t { done = n }) more
          ∙ sym (ap (λ l. plus t (tally_of l)) one ∙ done_counts t (decimal tag));
      none = ap (λ l. length (last_stats l)) one ∙ done_last (decimal tag);
      ends = record { front = line; all = refl };
    }

pub aborted_line : (t : Tally) (tag aborted : ℕ) → aborted ≡ t.aborted + 1 →
    AddsLine (reply.Aborted tag) t (record t { aborted = aborted })
aborted_line t tag aborted more =
    let line = codes "aborted" ++ 32 ∷ decimal tag in
    let one : lines_of (text_of (reply.Aborted tag)) ≡ line ∷ [] = one_line line (inner_decimal tag) in
    record {
      counts = ap (λ n. record t { aborted = n }) more
          ∙ sym (ap (λ l. plus t (tally_of l)) one ∙ aborted_counts t (decimal tag));
      none = ap (λ l. length (last_stats l)) one ∙ aborted_last (decimal tag);
      ends = record { front = line; all = refl };
    }
