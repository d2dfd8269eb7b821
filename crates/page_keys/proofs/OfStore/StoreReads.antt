-- What reads of pages keep of a device.
use Rattle.page_keys.proofs.Common.{◌≡◌, ℕ, zero, suc, ◌+◌, ◌<◌, ◌≤◌, nat_lt, Bool, true, false, List, ◌∷◌, ◌++◌, length, drop, replicate, get_or, set, refl, sym, ap, subst, ◌∙◌, arith, FlashState, Carries-nothing, Carries-then, drop-cons, DeviceState, nat_tests, page_at, HoldsEntries, IsBucket, IsBucketOf, encodes, Pair, HasKeys, OnlyReads}
use Rattle.std.proofs.Common.{◌*◌, ◌/◌}
use Rattle.std.proofs.Common.{Vec, Global}
use Rattle.std.proofs.Math.Seq.{set-append_seam}
use Rattle.std.specs.Vec.{with_items}
use Rattle.std.proofs.lemmas.List.{with_items_is}
use Rattle.page_keys.proofs.OfBucket.Spelling.{length_zeros}

module _ {F : Type 0} (state : F → FlashState) where
  pub reads_nothing : (s : DeviceState F) → OnlyReads state s s false
  reads_nothing s =
      record { stays = refl; moment = refl; carries = Carries-nothing (state s.flash) }

  pub reads_then : (a b c : DeviceState F) (broken : Bool) → OnlyReads state a b false →
      OnlyReads state b c broken → OnlyReads state a c broken
  reads_then a b c broken first second = record {
    stays = second.stays ∙ ap (λ (s : DeviceState F). record s { flash = c.flash }) first.stays;
    moment = second.moment ∙ first.moment;
    carries = Carries-then _ _ _ broken first.carries second.carries;
  }

pub keeps_keys : {F : Type 0} (s t : DeviceState F) → t ≡ record s { flash = t.flash } → HasKeys s →
    HasKeys t
keeps_keys s t stays keys =
    subst HasKeys (sym stays) (record { closed = keys.closed; buckets = keys.buckets })

zeros_push : (n : ℕ) (xs : List ℕ) → replicate n 0 ++ 0 ∷ xs ≡ replicate (n + 1) 0 ++ xs
zeros_push zero xs = refl
zeros_push (suc n) xs =
    let later : suc (n + 1) ≡ suc n + 1 = omega arith in
    ap (λ (l : List ℕ). 0 ∷ l) (zeros_push n xs) ∙ ap (λ k. replicate k 0 ++ xs) later

-- one byte more is a zero
pub zeros_more : (old : List ℕ) (n : ℕ) → n < length old →
    set (replicate n 0 ++ drop n old) n 0 ≡ replicate (n + 1) 0 ++ drop (n + 1) old
zeros_more old n within =
    let place = set-append_seam (replicate n 0) (get_or old n 0) (drop (suc n) old) 0 in
    let at : length (replicate {A = ℕ} n 0) ≡ n = length_zeros n in
    let later : suc n ≡ n + 1 = omega arith in
    ap (λ (l : List ℕ). set (replicate n 0 ++ l) n 0) (drop-cons old n 0 within)
    ∙ subst (λ k. set (replicate n 0 ++ get_or old n 0 ∷ drop (suc n) old) k 0
    ≡ replicate n 0 ++ 0 ∷ drop (suc n) old) at place
    ∙ zeros_push n (drop (suc n) old)
    ∙ ap (λ k. replicate (n + 1) 0 ++ drop k old) later

-- a room that was lent has the bytes that were written to it
pub room_is : (v : Vec ℕ Global) (ws : List ℕ) → length ws ≡ length v.items →
    (with_items v ws).items ≡ ws
room_is v ws size = with_items_is v ws (size ∙ sym v.ok.0)

pub holds_read : (n : ℕ) (here bytes : List ℕ) (pairs : List Pair) → bytes ≡ here →
    length bytes ≡ n → HoldsEntries n here pairs → HoldsEntries (length bytes) bytes pairs
holds_read n here bytes pairs same size holds =
    subst (λ k. HoldsEntries k bytes pairs) (sym size)
    (subst (λ (b : List ℕ). HoldsEntries n b pairs) (sym same) holds)

module _ {F : Type 0} (s t : DeviceState F) (room : List ℕ) (logical page : ℕ)
    (stays : t ≡ record s { flash = t.flash })
    (read : room ≡ encodes t.config.page_bytes (page_at t.machine.pages page))
    (size : length room ≡ s.config.page_bytes) (its : logical ≡ s.config.logical) where
  here : room ≡ encodes s.config.page_bytes (page_at s.machine.pages page)
  here = read
      ∙ ap (λ (x : DeviceState F). encodes x.config.page_bytes (page_at x.machine.pages page)) stays

  -- what was read is a bucket where the page is one
  pub bucket_read : IsBucket (length room) logical page room →
      IsBucket s.config.page_bytes s.config.logical page
      (encodes s.config.page_bytes (page_at s.machine.pages page))
  bucket_read h =
      subst (λ (b : List ℕ). IsBucket s.config.page_bytes s.config.logical page b) here
      (subst (λ k. IsBucket s.config.page_bytes k page room) its
      (subst (λ k. IsBucket k logical page room) size h))

  pub bucket_back : IsBucket s.config.page_bytes s.config.logical page
      (encodes s.config.page_bytes (page_at s.machine.pages page)) →
      IsBucket (length room) logical page room
  bucket_back h =
      subst (λ k. IsBucket k logical page room) (sym size)
      (subst (λ k. IsBucket s.config.page_bytes k page room) (sym its)
      (subst (λ (b : List ℕ). IsBucket s.config.page_bytes s.config.logical page b) (sym here) h))

-- the entries that were read of a page of a store are a bucket's
pub entries_read : {F : Type 0} (s : DeviceState F) (page : ℕ) (room : List ℕ) (read : List Pair) → HasKeys s →
    page < s.config.logical → room ≡ encodes s.config.page_bytes (page_at s.machine.pages page) →
    length room ≡ s.config.page_bytes →
    ((pairs : List Pair) → HoldsEntries (length room) room pairs → read ≡ pairs) →
    IsBucketOf s.config.page_bytes s.config.logical page
    (encodes s.config.page_bytes (page_at s.machine.pages page)) read
entries_read s page room read keys exists same size all =
    let found = keys.buckets page exists in
    let its = all found.0 (holds_read s.config.page_bytes _ room found.0 same size found.1.holds) in
    subst (IsBucketOf s.config.page_bytes s.config.logical page
    (encodes s.config.page_bytes (page_at s.machine.pages page))) (sym its) found.1

pub is_over_by : (p q n r : ℕ) → p ≡ q → p / 32 < r → r ≤ n → nat_lt q (32 * n) ≡ true
is_over_by p q n r same more least =
    let over : q < 32 * n = omega arith in
    grind (arith, nat_tests)

pub is_more : (p q n r : ℕ) → p ≡ q → p / 32 < r → r ≡ n → nat_lt q (32 * n) ≡ true
is_more p q n r same more size = is_over_by p q n r same more (omega arith)

pub is_within : (p q n r : ℕ) → p ≡ q → r ≤ p / 32 → r ≡ n →
    (32 * n ≤ q) × (nat_lt q (32 * n) ≡ false)
is_within p q n r same few size =
    let most : 32 * n ≤ q = omega arith in
    (most, grind (arith, nat_tests))
