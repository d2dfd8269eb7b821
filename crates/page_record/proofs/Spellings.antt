-- A record has one spelling, and what breaks no rule is one.
use Rattle.std.proofs.Common.{◌≡◌, ◌↔◌, ℕ, ◌^◌, ◌<◌, ◌≤◌, ◌&&◌, ◌||◌, if◌then◌else◌, inl, inr, eq-eqb, Bool, true, false, cond, not, eqb, ltb, leb, List, []}
use Rattle.std.proofs.Common.{◌∷◌, ◌++◌, length, get_or, take, drop, replicate, find, slice_range, ◌%◌, Option, Some, None, refl, sym, ap, ap₂, subst, ◌∙◌}
use Rattle.std.proofs.Common.{arith, lit≤}
use Rattle.std.specs.Int.{w32, w64, to_le_bytes, from_le_bytes}
use Rattle.std.specs.List.{list_all}
use Rattle.std.specs.Option.{is_some, is_none}
use Rattle.std.proofs.lemmas.Bool.{false≢true, cases_Bool, cases_eq, cond-true, cond-false, ne_eqb, and_from, or_cases, and_parts, eqb-true, ltb-true, leb-true}
use Rattle.std.proofs.lemmas.Bool.{le-leb, lt-ltb}
use Rattle.std.proofs.lemmas.List.{length-drop, nil_from_length}
use Rattle.std.proofs.lemmas.Option.{cond_some}
use Rattle.std.proofs.Math.Bool.{and-false}
use Rattle.std.proofs.lemmas.Nat.{mod_below, from_le_bytes-to_le_bytes_4, from_le_bytes-to_le_bytes_8}
use Rattle.std.proofs.lemmas.Slice.Eq.{bytes_eq-Decides}
use Rattle.list_lemmas.proofs.Lists.{joined, next_two, split_at, length-range}
use Rattle.list_lemmas.proofs.Chunks.{drop_front}
use Rattle.list_lemmas.proofs.Bytes.{IsBytes, tested, tests}
use Rattle.tx_types.specs.declared.config.Protocol.{Protocol}
use Rattle.tx_types.specs.declared.config.Protocol.TheVariants.{Scc, Bpcc}
use Rattle.tx_types.specs.declared.record.Rec.{Rec}
use Rattle.page_record.specs.declared.error.SpareError.{SpareError}
use Rattle.page_record.specs.declared.error.SpareError.TheVariants as rule
use Rattle.page_record.specs.Spelling.{mark, code_of, format_of, flag_of, spelling, IsBack, CanBeSpelled}
use Rattle.page_record.specs.Rules.{number_at, fields_of, are_zeros, is_counted, is_count, is_version, is_back, is_area, holds, rules, first_broken}
use Rattle.page_record.specs.Rules.{IsFirstBrokenRule, record_of}
use Rattle.page_record.proofs.Parts.{zeros, number_at-w32, number_at-w64, number_at-below}

-- the rule of each name holds
pub record BreaksNone (protocol : Protocol) (bytes : List ℕ) : Type 0 where
  pub mark_holds : holds protocol bytes rule.Mark ≡ true
  pub format_holds : holds protocol bytes rule.Format ≡ true
  pub protocol_holds : holds protocol bytes rule.Protocol ≡ true
  pub flags_hold : holds protocol bytes rule.Flags ≡ true
  pub versions_hold : holds protocol bytes rule.Version ≡ true
  pub back_holds : holds protocol bytes rule.Back ≡ true
  pub count_holds : holds protocol bytes rule.Count ≡ true
  pub rest_holds : holds protocol bytes rule.Rest ≡ true

passed : (b : Bool) (e : SpareError) (after : Option SpareError) → cond (not b) (Some e) after ≡ None →
    (b ≡ true) × (after ≡ None)
passed true e after h = (refl, h)
passed false e after h = absurd cc

-- the number at an offset of a spelling
number_at-page : (p : Protocol) (r : Rec) → r.page < 2 ^ 32 → number_at w32 8 (spelling p r) ≡ r.page
unfolding spelling number_at
number_at-page p r lt = from_le_bytes-to_le_bytes_4 r.page lt

number_at-next_page : (p : Protocol) (r : Rec) → r.next.page < 2 ^ 32 → number_at w32 12 (spelling p r) ≡ r.next.page
unfolding spelling number_at
number_at-next_page p r lt = from_le_bytes-to_le_bytes_4 r.next.page lt

number_at-version : (p : Protocol) (r : Rec) → r.version < 2 ^ 64 → number_at w64 16 (spelling p r) ≡ r.version
unfolding spelling number_at
number_at-version p r lt = from_le_bytes-to_le_bytes_8 r.version lt

number_at-next_version : (p : Protocol) (r : Rec) → r.next.version < 2 ^ 64 →
    number_at w64 24 (spelling p r) ≡ r.next.version
unfolding spelling number_at
number_at-next_version p r lt = from_le_bytes-to_le_bytes_8 r.next.version lt

number_at-back : (p : Protocol) (r : Rec) → r.back < 2 ^ 64 → number_at w64 32 (spelling p r) ≡ r.back
unfolding spelling number_at
number_at-back p r lt = from_le_bytes-to_le_bytes_8 r.back lt

number_at-count : (p : Protocol) (r : Rec) → r.count < 2 ^ 32 → number_at w32 40 (spelling p r) ≡ r.count
unfolding spelling number_at
number_at-count p r lt = from_le_bytes-to_le_bytes_4 r.count lt

-- a spare area has 64 bytes
pub length-spelling : (p : Protocol) (r : Rec) → length (spelling p r) ≡ 64
unfolding spelling
length-spelling p r = refl

-- ---- what is spelled breaks no rule

code_again : (p : Protocol) → eqb (code_of p) (code_of p) ≡ true
code_again Scc = refl
code_again Bpcc = refl

in_range : (n : ℕ) → 1 ≤ n → n ≤ 2 ^ 62 → is_version n ≡ true
in_range n least most = rw (le-leb 1 n least, le-leb n (2 ^ 62) most) refl

back_is : (p : Protocol) (version back : ℕ) → IsBack p version back → is_back p version back ≡ true
back_is Scc version back h = rw h refl
back_is Bpcc version back h = lt-ltb back version h

back_below : (p : Protocol) (version back : ℕ) → version ≤ 2 ^ 62 → IsBack p version back → back < 2 ^ 64
back_below Scc version back most h = omega arith
back_below Bpcc version back most h = omega arith

-- a record of no count is of format 1, and one of a count of format 2
format_plain : (r : Rec) → r.count ≡ 0 → format_of r ≡ 1
format_plain r e = cond-true (eqb r.count 0) 1 2 (eq-eqb r.count 0 e)

format_counted : (r : Rec) → (r.count ≡ 0 → ⊥) → format_of r ≡ 2
format_counted r other = cond-false (eqb r.count 0) 1 2 (ne_eqb r.count 0 other)

-- the rules on format, flags, count and rest, by the parts of a spelling
record Counted (r : Rec) : Type 0 where
  format_is : (eqb (format_of r) 1 || eqb (format_of r) 2) ≡ true
  flag_is : ((eqb (flag_of r.discard) 0 || (eqb (format_of r) 2 && eqb (flag_of r.discard) 1)) && true) ≡ true
  count_is : (not (eqb (format_of r) 2) || is_count r.count) ≡ true
  rest_is : are_zeros (if eqb (format_of r) 2 then replicate 20 0 else to_le_bytes w32 r.count ++ replicate 20 0) ≡ true

counted : (p : Protocol) (r : Rec) → CanBeSpelled p r → Counted r
counted p r can = elim (cases_eq r.count 0) [
  | inl none ↦ record {
    format_is = ap (λ k. eqb k 1 || eqb k 2) (format_plain r none);
    flag_is = ap₂ (λ d k. (eqb (flag_of d) 0 || (eqb k 2 && eqb (flag_of d) 1)) && true) (can.discard none)
        (format_plain r none);
    count_is = ap (λ k. not (eqb k 2) || is_count r.count) (format_plain r none);
    rest_is = ap₂ (λ k c. are_zeros (if eqb k 2 then replicate 20 0 else to_le_bytes w32 c ++ replicate 20 0))
        (format_plain r none) none;
  }
  | inr some ↦ record {
    format_is = ap (λ k. eqb k 1 || eqb k 2) (format_counted r some);
    flag_is = ap (λ k. (eqb (flag_of r.discard) 0 || (eqb k 2 && eqb (flag_of r.discard) 1)) && true)
        (format_counted r some) ∙ either r.discard;
    count_is = ap (λ k. not (eqb k 2) || is_count r.count) (format_counted r some) ∙
        and_from (leb 1 r.count) (leb r.count 256) (le-leb 1 r.count (omega arith)) (le-leb r.count 256 can.count);
    rest_is = ap (λ k. are_zeros (if eqb k 2 then replicate 20 0 else to_le_bytes w32 r.count ++ replicate 20 0))
        (format_counted r some);
  }
]
  where
    either : (d : Bool) → ((eqb (flag_of d) 0 || eqb (flag_of d) 1) && true) ≡ true
    either true = refl
    either false = refl

pub BreaksNone-spelling : (p : Protocol) (r : Rec) → CanBeSpelled p r → BreaksNone p (spelling p r)
unfolding spelling
BreaksNone-spelling p r can =
    let version = number_at-version p r (omega arith) in
    let next_version = number_at-next_version p r (omega arith) in
    let back = number_at-back p r (back_below p r.version r.back can.version_most can.back) in
    let few = can.count in
    let count = number_at-count p r (omega arith) in
    let by_count = counted p r can in
    record {
      mark_holds = refl;
      format_holds = by_count.format_is;
      protocol_holds = code_again p;
      flags_hold = by_count.flag_is;
      versions_hold = rw (
        version,
        next_version,
        in_range r.version can.version_least can.version_most,
        in_range r.next.version can.next_version_least can.next_version_most,
      ) refl;
      back_holds = rw (version, back) (back_is p r.version r.back can.back);
      count_holds = ap (λ n. not (eqb (format_of r) 2) || is_count n) count ∙ by_count.count_is;
      rest_holds = by_count.rest_is;
    }

-- the flag of a record says whether it is a discard
flag_again : (d : Bool) → eqb (flag_of d) 1 ≡ d
flag_again true = refl
flag_again false = refl

-- the record that stands in a spelling
pub fields_of-spelling : (p : Protocol) (r : Rec) → CanBeSpelled p r → fields_of (spelling p r) ≡ r
unfolding spelling
fields_of-spelling p r can =
    let page = number_at-page p r can.page in
    let next_page = number_at-next_page p r can.next_page in
    let version = number_at-version p r (omega arith) in
    let next_version = number_at-next_version p r (omega arith) in
    let back = number_at-back p r (back_below p r.version r.back can.version_most can.back) in
    let few = can.count in
    let count = number_at-count p r (omega arith) in
    let flag = flag_again r.discard in
    rw (page, next_page, version, next_version, back, count, flag) refl

-- ---- what breaks no rule is spelled

pub breaks_none : (p : Protocol) (bytes : List ℕ) → first_broken p bytes ≡ None → BreaksNone p bytes
unfolding first_broken
breaks_none p bytes h =
    let a = passed (holds p bytes rule.Mark) rule.Mark _ h in
    let b = passed (holds p bytes rule.Format) rule.Format _ a.1 in
    let c = passed (holds p bytes rule.Protocol) rule.Protocol _ b.1 in
    let d = passed (holds p bytes rule.Flags) rule.Flags _ c.1 in
    let e = passed (holds p bytes rule.Version) rule.Version _ d.1 in
    let f = passed (holds p bytes rule.Back) rule.Back _ e.1 in
    let g = passed (holds p bytes rule.Count) rule.Count _ f.1 in
    let i = passed (holds p bytes rule.Rest) rule.Rest _ g.1 in
    record {
      mark_holds = a.0;
      format_holds = b.0;
      protocol_holds = c.0;
      flags_hold = d.0;
      versions_hold = e.0;
      back_holds = f.0;
      count_holds = g.0;
      rest_holds = i.0;
    }

pass : (b : Bool) (e : SpareError) (after : Option SpareError) → b ≡ true → cond (not b) (Some e) after ≡ after
pass true e after h = refl
pass false e after h = absurd cc

pub none_broken : (p : Protocol) (bytes : List ℕ) → BreaksNone p bytes → first_broken p bytes ≡ None
unfolding first_broken
none_broken p bytes h =
    pass (holds p bytes rule.Mark) rule.Mark _ h.mark_holds
    ∙ pass (holds p bytes rule.Format) rule.Format _ h.format_holds
    ∙ pass (holds p bytes rule.Protocol) rule.Protocol _ h.protocol_holds
    ∙ pass (holds p bytes rule.Flags) rule.Flags _ h.flags_hold
    ∙ pass (holds p bytes rule.Version) rule.Version _ h.versions_hold
    ∙ pass (holds p bytes rule.Back) rule.Back _ h.back_holds
    ∙ pass (holds p bytes rule.Count) rule.Count _ h.count_holds
    ∙ pass (holds p bytes rule.Rest) rule.Rest _ h.rest_holds

is_back_is : (p : Protocol) (version back : ℕ) → is_back p version back ≡ true → IsBack p version back
is_back_is Scc version back h = eqb-true back 0 h
is_back_is Bpcc version back h = ltb-true back version h

version_is : (n : ℕ) → is_version n ≡ true → (1 ≤ n) × (n ≤ 2 ^ 62)
version_is n h = let parts = and_parts (leb 1 n) (leb n (2 ^ 62)) h in
    (leb-true 1 n parts.0, leb-true n (2 ^ 62) parts.1)

zeros_at : (n : ℕ) (bytes : List ℕ) → length bytes ≡ n → are_zeros bytes ≡ true → bytes ≡ replicate n 0
zeros_at n bytes len h = zeros bytes h ∙ ap (λ k. replicate k 0) len

-- format, flags, count and rest, where the rules on them hold
record Told (bytes : List ℕ) : Type 0 where
  format : get_or bytes 4 0 ≡ format_of (fields_of bytes)
  flag : get_or bytes 6 0 ≡ flag_of (eqb (get_or bytes 6 0) 1)
  zero_flag : get_or bytes 7 0 ≡ 0
  few : number_at w32 40 bytes ≤ 256
  plain : number_at w32 40 bytes ≡ 0 → eqb (get_or bytes 6 0) 1 ≡ false
  rest : slice_range bytes 44 64 ≡ replicate 20 0

-- in format 2
told_counted : (p : Protocol) (bytes : List ℕ) → length bytes ≡ 64 → BreaksNone p bytes →
    is_counted bytes ≡ true → Told bytes
told_counted p bytes len h two =
    let flags = and_parts (eqb (get_or bytes 6 0) 0 || (is_counted bytes && eqb (get_or bytes 6 0) 1))
    (eqb (get_or bytes 7 0) 0) h.flags_hold in
    let count = version_is' (number_at w32 40 bytes) (ap (λ b. not b || is_count (number_at w32 40 bytes)) (sym two)
    ∙ h.count_holds) in
    record {
      format = eqb-true (get_or bytes 4 0) 2 two ∙ sym (format_counted (fields_of bytes) (λ e. omega arith));
      flag = elim (or_cases (eqb (get_or bytes 6 0) 0) (is_counted bytes && eqb (get_or bytes 6 0) 1) flags.0) [
        | inl e ↦ by_zero (get_or bytes 6 0) (eqb-true (get_or bytes 6 0) 0 e)
        | inr e ↦ by_one (get_or bytes 6 0) (eqb-true (get_or bytes 6 0) 1
            (and_parts (is_counted bytes) (eqb (get_or bytes 6 0) 1) e).1)
      ];
      zero_flag = eqb-true (get_or bytes 7 0) 0 flags.1;
      few = count.1;
      plain = λ e. absurd (omega arith);
      rest = zeros_at 20 (slice_range bytes 44 64) (length-range 44 20 bytes (omega arith))
          (ap are_zeros (sym (cond-true (is_counted bytes) (slice_range bytes 44 64) (slice_range bytes 40 64) two))
          ∙ h.rest_holds);
    }
  where
    version_is' : (n : ℕ) → is_count n ≡ true → (1 ≤ n) × (n ≤ 256)
    version_is' n h = let parts = and_parts (leb 1 n) (leb n 256) h in (leb-true 1 n parts.0, leb-true n 256 parts.1)

    by_zero : (n : ℕ) → n ≡ 0 → n ≡ flag_of (eqb n 1)
    by_zero n e = rw e refl

    by_one : (n : ℕ) → n ≡ 1 → n ≡ flag_of (eqb n 1)
    by_one n e = rw e refl

zero_number : (bytes : List ℕ) → slice_range bytes 40 44 ≡ replicate 4 0 → number_at w32 40 bytes ≡ 0
unfolding number_at
zero_number bytes e = ap (from_le_bytes w32) e

-- in format 1
told_plain : (p : Protocol) (bytes : List ℕ) → length bytes ≡ 64 → BreaksNone p bytes →
    is_counted bytes ≡ false → Told bytes
told_plain p bytes len h one =
    let flags = and_parts (eqb (get_or bytes 6 0) 0 || (is_counted bytes && eqb (get_or bytes 6 0) 1))
    (eqb (get_or bytes 7 0) 0) h.flags_hold in
    let flag : get_or bytes 6 0 ≡ 0 =
    elim (or_cases (eqb (get_or bytes 6 0) 0) (is_counted bytes && eqb (get_or bytes 6 0) 1) flags.0) [
      | inl e ↦ eqb-true (get_or bytes 6 0) 0 e
      | inr e ↦ absurd (false≢true (sym one ∙ (and_parts (is_counted bytes) (eqb (get_or bytes 6 0) 1) e).0))
    ] in
    let format : get_or bytes 4 0 ≡ 1 = elim (or_cases (eqb (get_or bytes 4 0) 1) (is_counted bytes) h.format_holds) [
      | inl e ↦ eqb-true (get_or bytes 4 0) 1 e
      | inr e ↦ absurd (false≢true (sym one ∙ e))
    ] in
    let rest = zeros_at 24 (slice_range bytes 40 64) (length-range 40 24 bytes (omega arith))
    (ap are_zeros (sym (cond-false (is_counted bytes) (slice_range bytes 44 64) (slice_range bytes 40 64) one))
    ∙ h.rest_holds) in
    let nothing : drop 64 bytes ≡ [] = nil_from_length (drop 64 bytes) (omega (arith, length-drop 64 bytes)) in
    let at_40 : drop 40 bytes ≡ replicate 24 0 = joined 40 64 bytes (replicate 24 0) [] (lit≤ tt) rest nothing in
    let at_44 : drop 44 bytes ≡ replicate 20 0 =
    sym (drop_front (slice_range bytes 40 44) (drop 44 bytes) 4 (sym (length-range 40 4 bytes (omega arith))))
    ∙ ap (drop 4) (sym (split_at 40 44 bytes (lit≤ tt)) ∙ at_40) in
    let count : number_at w32 40 bytes ≡ 0 = zero_number bytes (ap (take 4) at_40) in
    record {
      format = format ∙ sym (format_plain (fields_of bytes) count);
      flag = flag ∙ ap (λ n. flag_of (eqb n 1)) (sym flag);
      zero_flag = eqb-true (get_or bytes 7 0) 0 flags.1;
      few = omega arith;
      plain = λ e. ap (λ n. eqb n 1) flag;
      rest = ap (take 20) at_44;
    }

told : (p : Protocol) (bytes : List ℕ) → length bytes ≡ 64 → BreaksNone p bytes → Told bytes
told p bytes len h = elim (cases_Bool (is_counted bytes)) [
  | inl two ↦ told_counted p bytes len h two
  | inr one ↦ told_plain p bytes len h one
]

pub can_be_spelled : (p : Protocol) (bytes : List ℕ) → length bytes ≡ 64 → IsBytes bytes → BreaksNone p bytes →
    CanBeSpelled p (fields_of bytes)
can_be_spelled p bytes len fits h =
    let tells = told p bytes len h in
    let versions = and_parts (is_version (number_at w64 16 bytes)) (is_version (number_at w64 24 bytes))
    h.versions_hold in
    let version = version_is (number_at w64 16 bytes) versions.0 in
    let next_version = version_is (number_at w64 24 bytes) versions.1 in
    record {
      page = number_at-below 8 bytes fits;
      next_page = number_at-below 12 bytes fits;
      version_least = version.0;
      version_most = version.1;
      next_version_least = next_version.0;
      next_version_most = next_version.1;
      back = is_back_is p (number_at w64 16 bytes) (number_at w64 32 bytes) h.back_holds;
      count = tells.few;
      discard = tells.plain;
    }

pub is_spelled : (p : Protocol) (bytes : List ℕ) → length bytes ≡ 64 → IsBytes bytes → BreaksNone p bytes →
    bytes ≡ spelling p (fields_of bytes)
unfolding spelling
is_spelled p bytes len fits h =
    let mark_is : slice_range bytes 0 4 ≡ mark = sym ((bytes_eq-Decides mark (take 4 bytes)).0 h.mark_holds) in
    let protocol_is : get_or bytes 5 0 ≡ code_of p = eqb-true (get_or bytes 5 0) (code_of p) h.protocol_holds in
    let tells = told p bytes len h in
    let nothing : drop 64 bytes ≡ [] = nil_from_length (drop 64 bytes) (omega (arith, length-drop 64 bytes)) in
    let at_44 = joined 44 64 bytes (replicate 20 0) [] (lit≤ tt) tells.rest nothing in
    let at_40 = joined 40 44 bytes _ _ (lit≤ tt) (sym (number_at-w32 40 bytes (omega arith) fits)) at_44 in
    let at_32 = joined 32 40 bytes _ _ (lit≤ tt) (sym (number_at-w64 32 bytes (omega arith) fits)) at_40 in
    let at_24 = joined 24 32 bytes _ _ (lit≤ tt) (sym (number_at-w64 24 bytes (omega arith) fits)) at_32 in
    let at_16 = joined 16 24 bytes _ _ (lit≤ tt) (sym (number_at-w64 16 bytes (omega arith) fits)) at_24 in
    let at_12 = joined 12 16 bytes _ _ (lit≤ tt) (sym (number_at-w32 12 bytes (omega arith) fits)) at_16 in
    let at_8 = joined 8 12 bytes _ _ (lit≤ tt) (sym (number_at-w32 8 bytes (omega arith) fits)) at_12 in
    let at_6 = next_two 6 bytes (omega arith) ∙ ap (λ b. b ∷ get_or bytes 7 0 ∷ drop 8 bytes) tells.flag ∙
    ap₂ (λ b rest. flag_of (eqb (get_or bytes 6 0) 1) ∷ b ∷ rest) tells.zero_flag at_8 in
    let at_4 = next_two 4 bytes (omega arith) ∙ ap (λ b. b ∷ get_or bytes 5 0 ∷ drop 6 bytes) tells.format ∙
    ap₂ (λ b rest. format_of (fields_of bytes) ∷ b ∷ rest) protocol_is at_6 in
    joined 0 4 bytes mark _ (lit≤ tt) mark_is at_4

-- ---- the record that bytes spell

pub record_of-fields : (p : Protocol) (bytes : List ℕ) → length bytes ≡ 64 → IsBytes bytes →
    first_broken p bytes ≡ None →
    record_of p bytes ≡ Some (fields_of bytes)
unfolding record_of
record_of-fields p bytes len fits h =
    let long : eqb (length bytes) 64 ≡ true = rw len refl in
    rw (long, tests bytes fits, h) refl

pub record_of-broken : (p : Protocol) (bytes : List ℕ) (e : SpareError) → first_broken p bytes ≡ Some e →
    record_of p bytes ≡ None
unfolding record_of
record_of-broken p bytes e h = rw (h, and-false) refl

mod_fits : (n : ℕ) → ltb (n % 256) 256 ≡ true
mod_fits n = lt-ltb (n % 256) 256 (mod_below n 256 (omega arith))

format_fits : (b : Bool) → ltb (if b then 1 else 2) 256 ≡ true
format_fits true = refl
format_fits false = refl

flag_fits : (b : Bool) → ltb (flag_of b) 256 ≡ true
flag_fits true = refl
flag_fits false = refl

code_fits : (p : Protocol) → ltb (code_of p) 256 ≡ true
code_fits Scc = refl
code_fits Bpcc = refl

-- a spelling is of bytes
pub IsBytes-spelling : (p : Protocol) (r : Rec) → IsBytes (spelling p r)
unfolding spelling
IsBytes-spelling p r = tested (spelling p r) (simp (mod_fits, code_fits, format_fits, flag_fits))

pub record_of-spelling : (p : Protocol) (r : Rec) → CanBeSpelled p r → record_of p (spelling p r) ≡ Some r
record_of-spelling p r can =
    record_of-fields p (spelling p r) (length-spelling p r) (IsBytes-spelling p r)
    (none_broken p (spelling p r) (BreaksNone-spelling p r can))
    ∙ ap (λ x. Some x) (fields_of-spelling p r can)

found_if : (b : Bool) (r : Rec) → is_some (cond b (Some r) None) ≡ b
found_if true r = refl
found_if false r = refl

none_is : (o : Option SpareError) → is_none o ≡ true → o ≡ None
none_is None h = refl
none_is (Some e) h = absurd cc

pub record_of-some : (p : Protocol) (bytes : List ℕ) (r : Rec) → record_of p bytes ≡ Some r → CanBeSpelled p r
    × (bytes ≡ spelling p r)
unfolding record_of
record_of-some p bytes r h =
    let parts = cond_some (is_area bytes && is_none (first_broken p bytes)) (fields_of bytes) r h in
    let tests = and_parts (is_area bytes) (is_none (first_broken p bytes)) parts.0 in
    let area = and_parts (eqb (length bytes) 64) (list_all (λ b. ltb b 256) bytes) tests.0 in
    let fits = tested bytes area.1 in
    let none = breaks_none p bytes (none_is (first_broken p bytes) tests.1) in
    subst (λ (x : Rec). CanBeSpelled p x × (bytes ≡ spelling p x)) parts.1 (
      can_be_spelled p bytes (eqb-true (length bytes) 64 area.0) fits none,
      is_spelled p bytes (eqb-true (length bytes) 64 area.0) fits none,
    )

-- a spare area has a record or breaks a rule
pub is_some-record_of : (p : Protocol) (bytes : List ℕ) → is_area bytes ≡ true →
    is_some (record_of p bytes) ≡ is_none (first_broken p bytes)
unfolding record_of
is_some-record_of p bytes area = rw area (found_if (is_none (first_broken p bytes)) (fields_of bytes))

-- a record is found exactly in its spelling
pub record_of-iff : (p : Protocol) (bytes : List ℕ) (r : Rec) → (record_of p bytes ≡ Some r)
    ↔ (CanBeSpelled p r × (bytes ≡ spelling p r))
record_of-iff p bytes r = (record_of-some p bytes r, λ h. ap (record_of p) h.1 ∙ record_of-spelling p r h.0)

same_code : (p q : Protocol) → code_of p ≡ code_of q → p ≡ q
same_code Scc Scc h = refl
same_code Bpcc Bpcc h = refl
same_code Scc Bpcc h = absurd (omega arith)
same_code Bpcc Scc h = absurd (omega arith)

code_at : (p : Protocol) (r : Rec) → get_or (spelling p r) 5 0 ≡ code_of p
unfolding spelling
code_at p r = refl

-- no two records have one spelling, under whichever protocols
pub spelling-injective : (p q : Protocol) (r s : Rec) → CanBeSpelled p r → CanBeSpelled q s →
    spelling p r ≡ spelling q s → (p ≡ q) × (r ≡ s)
spelling-injective p q r s can_r can_s h =
    let protocols : p ≡ q = same_code p q (sym (code_at p r) ∙ ap (λ bytes. get_or bytes 5 0) h ∙ code_at q s) in
    let found : record_of p (spelling q s) ≡ Some r = ap (record_of p) (sym h) ∙ record_of-spelling p r can_r in
    let again : record_of p (spelling q s) ≡ Some s = ap (λ x. record_of x (spelling q s)) protocols
    ∙ record_of-spelling q s can_s in
    (protocols, cc)

-- ---- the first rule that is broken

-- the parts of a list round the first element that fails a test
record Parts (test : SpareError → Bool) (all : List SpareError) (first : SpareError) : Type 0 where
  before : List SpareError
  after : List SpareError
  in_order : all ≡ before ++ first ∷ after
  pass_before : list_all test before ≡ true
  fails : test first ≡ false

more : (test : SpareError → Bool) (r : SpareError) (rs : List SpareError) (e : SpareError) → test r ≡ true →
    Parts test rs e → Parts test (r ∷ rs) e
more test r rs e passes parts = record {
  before = r ∷ parts.before;
  after = parts.after;
  in_order = ap (λ xs. r ∷ xs) parts.in_order;
  pass_before = rw passes parts.pass_before;
  fails = parts.fails;
}

parts_of : (test : SpareError → Bool) (rs : List SpareError) (e : SpareError) → find (λ r. not (test r)) rs ≡ Some e →
    Parts test rs e
parts_of test [] e h = absurd cc
parts_of test (r ∷ rs) e h =
    let P : Bool → Type 0 = λ b. test r ≡ b → cond (not b) (Some r) (find (λ x. not (test x)) rs) ≡ Some e →
    Parts test (r ∷ rs) e in
    let cases : P (test r) = elim (test r) as P [
      | true ↦ λ passes found. more test r rs e passes (parts_of test rs e found)
      | false ↦ λ fails found. let is : r ≡ e = cc in subst (λ x. Parts test (r ∷ rs) x) is
          (record { before = []; after = rs; in_order = refl; pass_before = refl; fails = fails })
    ] in
    cases refl h

pub first_broken-some : (p : Protocol) (bytes : List ℕ) (e : SpareError) → first_broken p bytes ≡ Some e →
    IsFirstBrokenRule p bytes e
unfolding first_broken
first_broken-some p bytes e h =
    let parts = parts_of (holds p bytes) rules e h in
    record {
      before = parts.before;
      after = parts.after;
      in_order = parts.in_order;
      hold_before = parts.pass_before;
      broken = parts.fails;
    }
