-- The entry at the beginning of a line.
use Rattle.host_protocol.proofs.Common.{◌≡◌, ◌≢◌, ℕ, ◌+◌, ◌-◌, ◌<◌, ◌≤◌, true, false, not, ◌⊎◌, inl, inr, List, [], ◌∷◌, length, take, drop, get_or, slice_index, refl, ap, sym, ◌∙◌, arith, Option, Some, None, Ok, length-drop, unwrap_or, position, position_or_len, option_map, cases_lt, eqb-true, get_or-take, passes_at_first, prefix_len-le-length, position_some, page_value, page_write_of, words_of, is_space_or_tab, number_of, is_digit, digits_in}
use Rattle.std.proofs.Common.{subst}
use Rattle.std.proofs.Common.{take-take, drop-drop, get_or-drop, length-take}
use Rattle.std.proofs.lemmas.List.{drop-take}
use Rattle.std.proofs.lemmas.List.Sums.{position_or_len_is, fails_before_first, prefix_len_is, prefix_len_passes}
use Rattle.std.proofs.lemmas.List.Sums.{AllPass-from_list_all}
use Rattle.list_lemmas.proofs.Positions.{position-at, position_end}
use Rattle.std.proofs.Math.ListN.{drop_of_length-le}
use Rattle.std.proofs.Math.Seq.{take-length}
use Rattle.host_protocol.specs.Commands.{is_equals, alone}
use Rattle.hex.specs.Hex.{decode_of, is_hex_digit}
use Rattle.hex.proofs.HexLemmas.{decode_of-ok}
use Rattle.host_protocol.specs.Reading.{BeginsWithNumber, BeginsWithPage, BeginsWithEntry, BeginsWithOther}
use Rattle.host_protocol.proofs.EntryLemmas.{entry_around, entry_none}
use Rattle.host_protocol.proofs.NumberLemmas.{number_digits}
use Rattle.host_protocol.proofs.PartLemmas.{rest_from}
use Rattle.host_protocol.proofs.WordLemmas.{word_first, word_take}

zero_or_more : (n : ℕ) → (n ≡ 0) ⊎ (0 < n)
zero_or_more n = elim (cases_lt 0 n) [ inl some ↦ inr some | inr none ↦ inl (omega arith) ]

-- a digit is neither a blank nor an equals sign
digit_fills : (b : ℕ) → is_digit b ≡ true → (is_space_or_tab b ≡ false) × (is_equals b ≡ false)
digit_fills b h = grind (arith)

-- bytes of which each is a digit are one word
one_word : (word : List ℕ) → 0 < length word → digits_in word ≡ length word → words_of word ≡ word ∷ []
unfolding words_of
one_word word some all =
    let end : position_or_len is_space_or_tab word ≡ length word =
    position_or_len_is is_space_or_tab word (length word) 0 (omega arith)
    (λ k before. (digit_fills (get_or word k 0) (prefix_len_passes is_digit word k 0 (rw all before))).0)
    (λ less. absurd (omega (arith, less))) in
    let gone : drop (length word) word ≡ [] = drop_of_length-le word (omega arith) in
    let first = rw end at (word_take word some (rw end some)) in
    rw (take-length word, gone) at first

-- and their number is that of the only word
pub alone_whole : (word : List ℕ) (n : ℕ) → Some n ≡ number_of (take (digits_in word) word) →
    digits_in word ≡ length word → alone number_of (words_of word) ≡ Some n
unfolding number_of
alone_whole [] n is all = absurd cc
alone_whole (b ∷ bs) n is all =
    let whole : take (digits_in (b ∷ bs)) (b ∷ bs) ≡ b ∷ bs = rw all (take-length (b ∷ bs)) in
    rw (one_word (b ∷ bs) (omega arith) all) (sym (rw whole at is))

by_digits : (b : ℕ) (bs : List ℕ) (n : ℕ) → Some n ≡ number_of (take (digits_in (b ∷ bs)) (b ∷ bs)) →
    (digits_in (b ∷ bs) ≡ 0) ⊎ (0 < digits_in (b ∷ bs)) → 0 < digits_in (b ∷ bs)
unfolding number_of
by_digits b bs n is (inl none) = absurd (let no = rw none at is in cc)
by_digits b bs n is (inr some) = some

-- digits at the beginning, behind which a blank or the end is, are the first word
pub number_first : (line : List ℕ) (n : ℕ) → Some n ≡ number_of (take (digits_in line) line) →
    (digits_in line < length line → is_space_or_tab (slice_index line (digits_in line)) ≡ true) →
    BeginsWithNumber line n (drop (digits_in line) line)
unfolding number_of
number_first [] n is blank = absurd cc
number_first (b ∷ bs) n is blank =
    let line = b ∷ bs in
    let some = by_digits b bs n is (zero_or_more (digits_in line)) in
    let end : position_or_len is_space_or_tab line ≡ digits_in line =
    position_or_len_is is_space_or_tab line (digits_in line) 0 (prefix_len-le-length is_digit line)
    (λ k before. (digit_fills (get_or line k 0) (prefix_len_passes is_digit line k 0 before)).0) blank in
    record {
      word = take (digits_in line) line;
      words = rw end at (word_take line (omega arith) (rw end some));
      number_is = sym is;
    }

-- a number that ends before an equals sign is all the digits at the beginning
number_ends : (line : List ℕ) (place n : ℕ) → place < length line → slice_index line place ≡ 61 →
    number_of (take place line) ≡ Some n → digits_in line ≡ place
number_ends line place n inside sign is =
    let size = length-take place line in
    prefix_len_is is_digit line place 0 (omega (arith, inside))
    (λ k before. ap is_digit (sym (get_or-take place line k 0 before))
    ∙ AllPass-from_list_all is_digit (take place line) (number_digits (take place line) n is) k 0
    (omega (arith, inside, before, size)))
    (λ less. ap is_digit sign)

by_number : (line : List ℕ) (place : ℕ) (o : Option ℕ) → number_of (take place line) ≡ o →
    ((n : ℕ) → number_of (take place line) ≡ Some n → ⊥) →
    number_of (take place line) ≡ None
by_number line place None is never = is
by_number line place (Some n) is never = absurd (never n is)

-- where the digits at the beginning are no number, no number ends before an equals sign
pub page_none : (line : List ℕ) → number_of (take (digits_in line) line) ≡ None → (place : ℕ) → place < length line →
    slice_index line place ≡ 61 →
    number_of (take place line) ≡ None
page_none line none place inside sign = by_number line place (number_of (take place line)) refl (λ n is.
    let here = rw (number_ends line place n inside sign is) at none in
    absurd cc)

-- nor does one where no equals sign follows them
pub page_other : (line : List ℕ) → (digits_in line ≡ length line) ⊎ (slice_index line (digits_in line) ≢ 61) →
    (place : ℕ) → place < length line →
    slice_index line place ≡ 61 → number_of (take place line) ≡ None
page_other line (inl whole) place inside sign = by_number line place (number_of (take place line)) refl (λ n is.
    let here = number_ends line place n inside sign is in absurd (omega arith))
page_other line (inr other) place inside sign = by_number line place (number_of (take place line)) refl (λ n is.
    other (ap (slice_index line) (number_ends line place n inside sign is) ∙ sign))

-- where the text behind the first equals sign ends
abbrev text_end : List ℕ → ℕ
text_end line = position_or_len is_space_or_tab (drop (digits_in line + 1) line)

module _ (line : List ℕ) (page : ℕ) (behind : List ℕ) (is : BeginsWithPage line page behind) where
  digit_at : (k : ℕ) → k < digits_in line → is_digit (get_or line k 0) ≡ true
  digit_at k before = prefix_len_passes is_digit line k 0 before

  -- what stands before what is behind the equals sign has no blank
  fills : (k : ℕ) → (k < digits_in line) ⊎ (digits_in line ≤ k) → k < digits_in line + 1 →
      is_space_or_tab (get_or line k 0) ≡ false
  fills k (inl less) before = (digit_fills (get_or line k 0) (digit_at k less)).0
  fills k (inr more) before =
      let here : k ≡ digits_in line = omega arith in
      rw (here, is.sign) refl

  fails_at : (k : ℕ) → (k < digits_in line + 1) ⊎ (digits_in line + 1 ≤ k) → k < digits_in line + 1 + text_end line →
      is_space_or_tab (get_or line k 0) ≡ false
  fails_at k (inl less) before = fills k (cases_lt k (digits_in line)) less
  fails_at k (inr more) before =
      let on : digits_in line + 1 + (k - (digits_in line + 1)) ≡ k = omega arith in
      let there = get_or-drop (digits_in line + 1) line (k - (digits_in line + 1)) 0 in
      rw (there, on) at (fails_before_first is_space_or_tab (drop (digits_in line + 1) line) (k - (digits_in line + 1))
      0 (omega (arith, before)))

  -- the word ends where the text behind the equals sign ends
  word_end : position_or_len is_space_or_tab line ≡ digits_in line + 1 + text_end line
  word_end =
      let rest = length-drop (digits_in line + 1) line in
      let most = prefix_len-le-length (λ b. not (is_space_or_tab b)) (drop (digits_in line + 1) line) in
      position_or_len_is is_space_or_tab line (digits_in line + 1 + text_end line) 0
      (omega (arith, rest, most, is.inside))
      (λ k before. fails_at k (cases_lt k (digits_in line + 1)) before)
      (λ less. ap is_space_or_tab (sym (get_or-drop (digits_in line + 1) line (text_end line) 0))
      ∙ passes_at_first is_space_or_tab (drop (digits_in line + 1) line) 0 (omega (arith, rest, less)))

  -- the page and the text of the word
  word_sign : position is_equals (take (digits_in line + 1 + text_end line) line) ≡ Some (digits_in line)
  word_sign =
      let end = digits_in line + 1 + text_end line in
      let size = length-take end line in
      let inside = is.inside in
      position-at is_equals (take end line) 0 (digits_in line) (omega (arith, size, inside))
      (λ k before. ap is_equals (get_or-take end line k 0 (omega (arith, before)))
      ∙ (digit_fills (get_or line k 0) (digit_at k before)).1)
      (ap is_equals (get_or-take end line (digits_in line) 0 (omega arith) ∙ is.sign))

  word_write : (size : ℕ) → page_write_of size (take (digits_in line + 1 + text_end line) line)
      ≡ option_map (λ value. record { page = page; value = value })
      (page_value size (take (text_end line) (drop (digits_in line + 1) line)))
  word_write size =
      let end = digits_in line + 1 + text_end line in
      let front = take-take (digits_in line) end line (omega arith) in
      rw (front, drop-take (digits_in line + 1) (text_end line) line, is.number) at
      (entry_around size (take end line) (digits_in line) word_sign)

  -- the entry, where the line is the rest of another from its first word on
  pub entry_first : (whole : List ℕ) (start end : ℕ) → position (λ b. not (is_space_or_tab b)) whole ≡ Some start →
      line ≡ rest_from start whole →
      end ≡ unwrap_or (position is_space_or_tab behind) (length behind) →
      BeginsWithEntry whole page (take end behind) (drop end behind)
  entry_first whole start end at same ended =
      let there : end ≡ text_end line = rw is.rest at (ended ∙ position_end is_space_or_tab behind) in
      let until : digits_in line + 1 + text_end line ≡ unwrap_or (position is_space_or_tab (rest_from start whole))
      (length (rest_from start whole)) =
      subst (λ l. digits_in line + 1 + text_end line ≡ unwrap_or (position is_space_or_tab l) (length l)) same
      (sym word_end ∙ sym (position_end is_space_or_tab line)) in
      record {
        word = take (digits_in line + 1 + text_end line) line;
        words =
            rw (is.rest, there, drop-drop (text_end line) (digits_in line + 1) line)
            (rw (← same) at (word_first whole start (digits_in line + 1 + text_end line) at until));
        write = rw (is.rest, there) word_write;
      }

by_sign : (size : ℕ) (word : List ℕ) (o : Option ℕ) → position is_equals word ≡ o →
    ((place : ℕ) → place < length word → slice_index word place ≡ 61 → number_of (take place word) ≡ None) →
    page_write_of size word ≡ None
by_sign size word None is none = entry_none size word is
by_sign size word (Some i) is none =
    let at = position_some is_equals word i is in
    let sign : slice_index word i ≡ 61 = eqb-true _ 61
    (rw at.0 at (passes_at_first is_equals word 0 (omega (arith, at.0, at.1)))) in
    rw (none i at.1 sign) at (entry_around size word i is)

-- the first word is no entry where no number ends before an equals sign
pub other_first : (whole line : List ℕ) (start : ℕ) → position (λ b. not (is_space_or_tab b)) whole ≡ Some start →
    line ≡ rest_from start whole →
    ((place : ℕ) → place < length line → slice_index line place ≡ 61 → number_of (take place line) ≡ None) →
    BeginsWithOther whole
other_first whole line start at same none =
    let end = unwrap_or (position is_space_or_tab (rest_from start whole)) (length (rest_from start whole)) in
    record {
      word = take end (rest_from start whole);
      others = words_of (drop end (rest_from start whole));
      words = word_first whole start end at refl;
      none = λ size. by_sign size (take end (rest_from start whole))
          (position is_equals (take end (rest_from start whole))) refl (λ place inside sign.
          let long = length-take end (rest_from start whole) in
          let before : place < end = omega (arith, inside, long) in
          let front = take-take place end (rest_from start whole) (omega (arith, before)) in
          let none' = rw same at none in
          rw front (none' place (omega (arith, inside, long))
          (sym (get_or-take end (rest_from start whole) place 0 before) ∙ sign)));
    }

-- ---- the digits of bytes

hex_fills : (b : ℕ) → is_hex_digit b ≡ true → is_space_or_tab b ≡ false
hex_fills b h = grind (arith)

-- where a blank or the end is behind the digits, they end there
pub digits_end : (end : ℕ) (behind bytes : List ℕ) → decode_of (take end behind) ≡ Ok bytes → end ≤ length behind →
    (end < length behind → is_space_or_tab (slice_index behind end) ≡ true) →
    unwrap_or (position is_space_or_tab behind) (length behind) ≡ end
digits_end end behind bytes decoded inside blank =
    let digits = (decode_of-ok (take end behind) bytes decoded).1 in
    let size = length-take end behind in
    position_end is_space_or_tab behind
    ∙ position_or_len_is is_space_or_tab behind end 0 inside
    (λ k before. hex_fills (get_or behind k 0)
    (subst (λ b. is_hex_digit b ≡ true) (get_or-take end behind k 0 before)
    (digits k 0 (omega (arith, before, inside, size)))))
    blank
