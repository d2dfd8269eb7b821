-- The key that digits tell.
use Rattle.page_keys.proofs.Common.{◌≡◌, ◌≢◌, ℕ, ◌<◌, ◌≤◌, ◌⊎◌, inl, inr, Bool, true, false, ◌&&◌, if◌then◌else◌, List, [], ◌∷◌, ◌++◌, length, take, Option, Some, None, Result, Ok, Err, refl, sym, ap, subst, ◌∙◌, arith, nat_le, IsErr, IfSome, bytes_eq, nat_tests, take-append_seam, IsKeyChange, change_of, Change}
use Rattle.std.proofs.Common.{◌/◌}
use Rattle.std.proofs.Common.{codes}
use Rattle.std.specs.List.{slice_split}
use Rattle.std.specs.Option.{option_and_then, option_map}
use Rattle.std.specs.Result.{result_ok}
use Rattle.hex.specs.Hex.{decode_of}
use Rattle.hex.specs.declared.error.FromHexError.{FromHexError}
use Rattle.hex.proofs.HexLemmas.{decode_of-ok}
use Rattle.host_protocol.specs.Commands.{is_equals}
use Rattle.page_keys.specs.Scripts.{key_of, new_value_of, change_from, change_of_texts, short_from}

short_in : (bytes : List ℕ) → 1 ≤ length bytes → length bytes ≤ 15 → short_from bytes ≡ Some bytes
short_in bytes least most =
    let a : nat_le 1 (length bytes) ≡ true = grind (arith, nat_tests) in
    let b : nat_le (length bytes) 15 ≡ true = grind (arith, nat_tests) in
    rw (a, b) refl

short_out : (bytes : List ℕ) → (length bytes ≡ 0) ⊎ (15 < length bytes) → short_from bytes ≡ None
short_out bytes (inl none) =
    let a : nat_le 1 (length bytes) ≡ false = grind (arith, nat_tests) in rw a refl
short_out bytes (inr over) =
    let a : nat_le 1 (length bytes) ≡ true = grind (arith, nat_tests) in
    let b : nat_le (length bytes) 15 ≡ false = grind (arith, nat_tests) in rw (a, b) refl

key_by : (digits : List ℕ) (r : Result (List ℕ) FromHexError) → decode_of digits ≡ r →
    key_of digits ≡ option_and_then short_from (result_ok r)
unfolding key_of
key_by digits r is = ap (λ (d : Result (List ℕ) FromHexError). option_and_then short_from (result_ok d)) is

-- digits of one to fifteen bytes are a key
pub key_in : (digits bytes : List ℕ) → decode_of digits ≡ Ok bytes → 1 ≤ length bytes →
    length bytes ≤ 15 → key_of digits ≡ Some bytes
key_in digits bytes is least most = key_by digits (Ok bytes) is ∙ short_in bytes least most

-- what is not all digits is none
pub key_bad : (digits : List ℕ) → IsErr (decode_of digits) → key_of digits ≡ None
key_bad digits bad = by (decode_of digits) refl bad
  where
    by : (r : Result (List ℕ) FromHexError) → decode_of digits ≡ r → IsErr r → key_of digits ≡ None
    by (Ok bytes) is bad = cc
    by (Err e) is bad = key_by digits (Err e) is

-- and so are digits of too few or too many bytes
pub key_out : (digits : List ℕ) → (length digits / 2 ≡ 0) ⊎ (15 < length digits / 2) →
    key_of digits ≡ None
key_out digits size = by (decode_of digits) refl
  where
    by : (r : Result (List ℕ) FromHexError) → decode_of digits ≡ r → key_of digits ≡ None
    by (Ok bytes) is =
        let twice = decode_of-ok digits bytes is in
        key_by digits (Ok bytes) is ∙ short_out bytes (elim size [
          | inl none ↦ inl (omega (arith, twice.2))
          | inr over ↦ inr (omega (arith, twice.2))
        ])
    by (Err e) is = key_by digits (Err e) is

-- and the bytes that were read of digits
pub key_read : (digits bytes rest s : List ℕ) → decode_of digits ≡ Ok bytes →
    s ≡ take (length digits / 2) (bytes ++ rest) → (length digits / 2 ≡ 0 → ⊥) →
    length digits / 2 ≤ 15 → Some s ≡ key_of digits
key_read digits bytes rest s is made some few =
    let size : length bytes ≡ length digits / 2 = omega (arith, (decode_of-ok digits bytes is).2) in
    let same : s ≡ bytes =
    made ∙ subst (λ n. take n (bytes ++ rest) ≡ bytes) size (take-append_seam bytes rest) in
    ap (λ (x : List ℕ). Some x) same
    ∙ sym (key_in digits bytes is (omega (arith, size, some)) (omega (arith, size, few)))

-- a key that digits tell has one to fifteen bytes
short_sized : (bytes k : List ℕ) → short_from bytes ≡ Some k → (1 ≤ length k) × (length k ≤ 15)
short_sized bytes k is = by (nat_le 1 (length bytes)) (nat_le (length bytes) 15) refl refl is
  where
    by : (a b : Bool) → nat_le 1 (length bytes) ≡ a → nat_le (length bytes) 15 ≡ b →
        (if a && b then Some bytes else None) ≡ Some k → (1 ≤ length k) × (length k ≤ 15)
    by true true p q h =
        let same : bytes ≡ k = cc in
        let least : 1 ≤ length bytes = grind (arith, nat_tests) in
        let most : length bytes ≤ 15 = grind (arith, nat_tests) in
        subst (λ (x : List ℕ). (1 ≤ length x) × (length x ≤ 15)) same (least, most)
    by true false p q h = cc
    by false b p q h = cc

pub key_sized : (digits k : List ℕ) → key_of digits ≡ Some k → (1 ≤ length k) × (length k ≤ 15)
unfolding key_of
key_sized digits k is = by (result_ok (decode_of digits)) is
  where
    by : (o : Option (List ℕ)) → option_and_then short_from o ≡ Some k →
        (1 ≤ length k) × (length k ≤ 15)
    by None h = cc
    by (Some bytes) h = short_sized bytes k h

value_sized : (text : List ℕ) (v : Option (List ℕ)) → new_value_of text ≡ Some v →
    IfSome v (λ w. length w ≤ 15)
unfolding new_value_of
value_sized text v is = by (bytes_eq text (codes "~")) (bytes_eq text (codes "-")) is
  where
    told : (o : Option (List ℕ)) → key_of text ≡ o → option_map Some o ≡ Some v →
        IfSome v (λ w. length w ≤ 15)
    told None key h = cc
    told (Some k) key h =
        let same : Some k ≡ v = cc in
        subst (λ (x : Option (List ℕ)). IfSome x (λ w. length w ≤ 15)) same (key_sized text k key).1

    by : (a b : Bool) →
        (if a then Some None else if b then Some (Some []) else option_map Some (key_of text)) ≡ Some v →
        IfSome v (λ w. length w ≤ 15)
    by true b h =
        let same : None ≡ v = cc in
        subst (λ (x : Option (List ℕ)). IfSome x (λ w. length w ≤ 15)) same tt
    by false true h =
        let same : Some [] ≡ v = cc in
        let none : length {A = ℕ} [] ≤ 15 = omega arith in
        subst (λ (x : Option (List ℕ)). IfSome x (λ w. length w ≤ 15)) same none
    by false false h = told (key_of text) refl h

-- and a change that a word is has a key and a value of as many
pub change_sized : (word : List ℕ) (c : Change) → change_of word ≡ Some c → IsKeyChange c
unfolding change_of
change_sized word c is = by (slice_split is_equals word) is
  where
    made : (k : List ℕ) (v : Option (List ℕ)) → (1 ≤ length k) × (length k ≤ 15) →
        IfSome v (λ w. length w ≤ 15) → Some (record { key = k; value = v }) ≡ Some c → IsKeyChange c
    made k v key value h =
        let its : Change = record { key = k; value = v } in
        let same : its ≡ c = cc in
        subst IsKeyChange same (record { least = key.0; most = key.1; value = value })

    with_value : (text k : List ℕ) (o : Option (Option (List ℕ))) → new_value_of text ≡ o →
        (1 ≤ length k) × (length k ≤ 15) →
        option_map (λ v. record { key = k; value = v }) o ≡ Some c → IsKeyChange c
    with_value text k None is key h = cc
    with_value text k (Some v) is key h = made k v key (value_sized text v is) h

    with_key : (key text : List ℕ) (o : Option (List ℕ)) → key_of key ≡ o →
        option_and_then (λ k. option_map (λ v. record { key = k; value = v }) (new_value_of text)) o
        ≡ Some c → IsKeyChange c
    with_key key text None is h = cc
    with_key key text (Some k) is h = with_value text k (new_value_of text) refl (key_sized key k is) h

    by : (parts : List (List ℕ)) → change_from parts ≡ Some c → IsKeyChange c
    by [] h = cc
    by (key ∷ []) h = cc
    by (key ∷ text ∷ []) h = with_key key text (key_of key) refl h
    by (key ∷ text ∷ more ∷ parts) h = cc

-- a word with one equals sign is the change of its two parts
pub change_parts : (word key text : List ℕ) → slice_split is_equals word ≡ key ∷ text ∷ [] →
    change_of word ≡ change_of_texts key text
unfolding change_of
change_parts word key text is = ap change_from is

-- and any other word is none
pub change_none : (word : List ℕ) →
    ((x y : List ℕ) → slice_split is_equals word ≢ x ∷ y ∷ []) → change_of word ≡ None
unfolding change_of
change_none word others = by (slice_split is_equals word) refl
  where
    by : (parts : List (List ℕ)) → slice_split is_equals word ≡ parts → change_from parts ≡ None
    by [] is = refl
    by (key ∷ []) is = refl
    by (key ∷ text ∷ []) is = absurd (others key text is)
    by (key ∷ text ∷ more ∷ parts) is = refl
