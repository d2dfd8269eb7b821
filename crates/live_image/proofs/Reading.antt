-- How slots read, whole and torn.
use Rattle.std.proofs.Common.{◌≡◌, ◌⊎◌, ℕ, ◌+◌, ◌-◌, ◌*◌, ◌<◌, ◌≤◌, eqb, List, ◌++◌, length, get_or, take, drop, sym, ap, ◌∙◌, inl, inr, arith}
use Rattle.std.specs.Prelude.{if◌then◌else◌}
use Rattle.std.specs.Int.{w32, from_le_bytes}
use Rattle.std.proofs.lemmas.Bool.{cases_lt, cases_eq, lt-ltb, le-ltb, eq-eqb, ne_eqb}
use Rattle.std.proofs.lemmas.List.{length-take, length-append, length-replicate, get_or-drop, get_or-replicate}
use Rattle.list_lemmas.proofs.Chunks.{take_front, drop_front}
use Rattle.flash_model.specs.declared.flash.Seen.TheVariants.{Blank, Complete, Damaged}
use Rattle.flash_model.specs.Flash.{blank, damaged, complete, IsWhole}
use Rattle.mem_flash.specs.Slots.{contents_of}
use Rattle.zero_count.specs.Zeros.{zeros, counted, own_of, number_of, erased, IsFewer}
use Rattle.zero_count.proofs.TornLemmas.{IsErased, fewer}
use Rattle.zero_count.proofs.WholeLemmas.{zeros_most, own_again, number_again, none_erased, number_erased}
use Rattle.live_image.specs.Slots.{last_of, live_contents, IsCounted}

-- ---- by the number, and by the last byte

module _ (page_bytes : ℕ) (slot : List ℕ) where
  pub reads_complete : number_of slot ≤ zeros (own_of slot) →
      live_contents page_bytes slot ≡ complete (take page_bytes (own_of slot)) (drop page_bytes (own_of slot))
  reads_complete le = ap (λ b. contents_of page_bytes
      (if b then (if eqb (last_of slot) 128 then Damaged else Blank) else Complete) (own_of slot))
      (le-ltb (zeros (own_of slot)) (number_of slot) le)

  pub reads_damaged : zeros (own_of slot) < number_of slot → last_of slot ≡ 128 →
      live_contents page_bytes slot ≡ damaged
  reads_damaged lt last = ap (λ b. contents_of page_bytes
      (if b then (if eqb (last_of slot) 128 then Damaged else Blank) else Complete) (own_of slot))
      (lt-ltb (zeros (own_of slot)) (number_of slot) lt)
      ∙ ap (λ b. contents_of page_bytes (if b then Damaged else Blank) (own_of slot)) (eq-eqb (last_of slot) 128 last)

  pub reads_blank : zeros (own_of slot) < number_of slot → (last_of slot ≡ 128 → ⊥) →
      live_contents page_bytes slot ≡ blank
  reads_blank lt last = ap (λ b. contents_of page_bytes
      (if b then (if eqb (last_of slot) 128 then Damaged else Blank) else Complete) (own_of slot))
      (lt-ltb (zeros (own_of slot)) (number_of slot) lt)
      ∙ ap (λ b. contents_of page_bytes (if b then Damaged else Blank) (own_of slot)) (ne_eqb (last_of slot) 128 last)

-- ---- how great a number is, and how small the number of zero bits

-- the last byte of a number counts most
number_least : (number : List ℕ) → get_or number 3 0 * 16777216 ≤ from_le_bytes w32 number
number_least number = omega arith

pub last_counts : (slot : List ℕ) → 4 ≤ length slot → last_of slot * 16777216 ≤ number_of slot
last_counts slot least =
    let place : length slot - 4 + 3 ≡ length slot - 1 = omega arith in
    let last : get_or (drop (length slot - 4) slot) 3 0 ≡ last_of slot =
    get_or-drop (length slot - 4) slot 3 0 ∙ ap (λ k. get_or slot k 0) place in
    omega (arith, number_least (drop (length slot - 4) slot), last)

pub few_zeros : (slot : List ℕ) → length slot ≤ 268435459 → zeros (own_of slot) < 2147483648
few_zeros slot most = omega (arith, zeros_most (own_of slot), length-take (length slot - 4) slot)

-- a slot whose last byte says so is damaged
pub damaged_by_last : (page_bytes : ℕ) (slot : List ℕ) → 4 ≤ length slot → length slot ≤ 268435459 →
    last_of slot ≡ 128 →
    (live_contents page_bytes slot ≡ damaged) × IsCounted slot
damaged_by_last page_bytes slot least most last =
    let less : zeros (own_of slot) < number_of slot =
    omega (arith, few_zeros slot most, last_counts slot least, last) in
    (reads_damaged page_bytes slot less last, omega (arith, less))

-- ---- torn over an erased slot

-- the last byte is erased, or that of the slot
last_torn : (slot left : List ℕ) → IsErased slot left → 4 ≤ length slot →
    (last_of left ≡ 255) ⊎ (last_of left ≡ last_of slot)
last_torn slot left e least =
    let place : length left - 1 ≡ length slot - 1 = ap (λ k. k - 1) e.long in
    elim (e.each (length slot - 1) (omega arith)) [
      | inl is ↦ inl (ap (λ k. get_or left k 0) place ∙ is)
      | inr is ↦ inr (ap (λ k. get_or left k 0) place ∙ is)
    ]

module _ (page_bytes : ℕ) (slot left : List ℕ) (e : IsErased slot left) (least : 4 ≤ length slot)
    (most : length slot ≤ 268435459) (sound : IsCounted slot) where
  few : IsFewer slot left
  few = fewer slot left e least

  -- a slot that was not complete reads as it did, or blank
  less_left : zeros (own_of slot) < number_of slot →
      (live_contents page_bytes left ≡ live_contents page_bytes slot) ⊎ (live_contents page_bytes left ≡ blank)
  less_left less =
      let f = few in
      let left_less : zeros (own_of left) < number_of left = omega (arith, less, f.falls, f.rises) in
      elim (last_torn slot left e least) [
        | inl set ↦ inr (reads_blank page_bytes left left_less (λ is. omega (arith, set, is)))
        | inr same ↦ elim (cases_eq (last_of slot) 128) [
          | inl is ↦ inl (reads_damaged page_bytes left left_less (same ∙ is)
              ∙ sym (reads_damaged page_bytes slot less is))
          | inr not ↦ inr (reads_blank page_bytes left left_less (λ is. not (sym same ∙ is)))
        ]
      ]

  -- so does a complete one
  complete_left : number_of slot ≤ zeros (own_of slot) →
      (live_contents page_bytes left ≡ live_contents page_bytes slot) ⊎ (live_contents page_bytes left ≡ blank)
  complete_left le =
      let f = few in
      let low : last_of slot < 128 = omega (arith, few_zeros slot most, last_counts slot least, le) in
      elim (cases_lt (zeros (own_of left)) (number_of left)) [
        | inl less ↦ inr (reads_blank page_bytes left less (λ is. elim (last_torn slot left e least) [
          | inl set ↦ omega (arith, set, is)
          | inr same ↦ omega (arith, same, is, low)
        ]))
        | inr enough ↦ inl (ap (live_contents page_bytes)
            (f.same (omega (arith, enough, le, sound, f.falls, f.rises))
            (omega (arith, enough, le, sound, f.falls, f.rises))))
      ]

  pub torn_reads : (live_contents page_bytes left ≡ live_contents page_bytes slot)
      ⊎ (live_contents page_bytes left ≡ blank)
  torn_reads = elim (cases_lt (zeros (own_of slot)) (number_of slot)) [
    | inl less ↦ less_left less
    | inr le ↦ complete_left le
  ]

  pub torn_counted : IsCounted left
  torn_counted = let f = few in omega (arith, sound, f.falls, f.rises)

-- ---- slots that are written

pub written_counted : (own : List ℕ) → length own ≤ 268435455 → IsCounted (counted own)
written_counted own most = omega (arith, number_again own most, ap zeros (own_again own))

pub written_complete : (page_bytes : ℕ) (bytes spare_area : List ℕ) → IsWhole page_bytes (complete bytes spare_area) →
    page_bytes + 64 ≤ 268435455 →
    live_contents page_bytes (counted (bytes ++ spare_area)) ≡ complete bytes spare_area
written_complete page_bytes bytes spare_area whole most =
    let own = bytes ++ spare_area in
    let long : length (bytes ++ spare_area) ≤ 268435455 =
    omega (arith, length-append bytes spare_area, whole.0, whole.1) in
    let number : number_of (counted (bytes ++ spare_area)) ≤ zeros (own_of (counted (bytes ++ spare_area))) =
    omega (arith, number_again (bytes ++ spare_area) long, ap zeros (own_again (bytes ++ spare_area))) in
    reads_complete page_bytes (counted (bytes ++ spare_area)) number
    ∙ ap (λ xs. complete (take page_bytes xs) (drop page_bytes xs)) (own_again (bytes ++ spare_area))
    ∙ ap (λ xs. complete xs (drop page_bytes (bytes ++ spare_area)))
    (take_front bytes spare_area page_bytes (sym whole.0))
    ∙ ap (complete bytes) (drop_front bytes spare_area page_bytes (sym whole.0))

last_erased : (n : ℕ) → last_of (erased (n + 4)) ≡ 255
last_erased n =
    let place : length (erased (n + 4)) - 1 ≡ n + 3 = omega (arith, length-replicate {A = ℕ} (n + 4) 255) in
    ap (λ k. get_or (erased (n + 4)) k 0) place ∙ get_or-replicate (n + 4) (n + 3) 255 0 (omega arith)

pub erased_less : (n : ℕ) → zeros (own_of (erased (n + 4))) < number_of (erased (n + 4))
erased_less n = omega (arith, none_erased n, number_erased n)

pub erased_blank : (page_bytes n : ℕ) → live_contents page_bytes (erased (n + 4)) ≡ blank
erased_blank page_bytes n = reads_blank page_bytes (erased (n + 4)) (erased_less n)
    (λ is. omega (arith, last_erased n, is))
