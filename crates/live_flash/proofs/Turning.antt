-- One slot: what a loss leaves while it is written, erased or marked as damaged, and what a sync makes of it.
use Rattle.live_flash.proofs.Common.{◌≡◌, ◌≢◌, ◌⊎◌, ℕ, ◌+◌, ◌-◌, ◌<◌, ◌≤◌, List, [], ◌∷◌, length, take, get_or, set, Contains, Ok, refl, sym, ap, subst, ◌∙◌, inl, inr, ⊎_elim, arith, Shape, Contents, blank, damaged, cell_bytes, FileState, values_at, Writes, MayWrite, Syncs, erased, slot_bytes, live_contents, last_of, IsCounted, slot_offset, IsOpened, slot_values, LeavesSlot, IsSlot, Holds, LeavesEither, IsTurning}
use Rattle.std.proofs.lemmas.Bool.{cases_eq}
use Rattle.std.proofs.lemmas.List.{ext_get_or, length-set, get_or-replicate, get_or-set_same, get_or-set_other}
use Rattle.std.proofs.lemmas.List.Elements.{All-set}
use Rattle.list_lemmas.proofs.Bytes.{IsBytes-all}
use Rattle.list_lemmas.proofs.Membership.{Contains-one, Contains-cases}
use Rattle.zero_count.proofs.TornLemmas.{IsErased}
use Rattle.live_image.proofs.Reading.{torn_reads, torn_counted, damaged_by_last}
use Rattle.file_flash.proofs.Writing.{may_write}
use Rattle.live_flash.proofs.Places.{rest_stays, may_be}

-- ---- a durable slot

module _ (shape : Shape) (c : Contents) (file : FileState) (at : ℕ) (h : Holds shape c file at) where
  -- a loss leaves its bytes alone
  pub held_byte : (left : List ℕ) → LeavesSlot shape file at left → (j : ℕ) → j < slot_bytes shape.page_bytes →
      get_or left j 0 ≡ get_or h.slot j 0
  held_byte left l j inside =
      sym (Contains-one (get_or h.slot j 0) (get_or left j 0)
      (subst (λ values. Contains values (get_or left j 0)) (h.each j inside) (l.each j inside)))

  pub held_left : (left : List ℕ) → LeavesSlot shape file at left → left ≡ h.slot
  held_left left l = ext_get_or 0 left h.slot (l.long ∙ sym h.is.long)
      (λ j inside. held_byte left l j (omega (arith, l.long, inside)))

  pub held_reads : (left : List ℕ) → LeavesSlot shape file at left →
      IsCounted left × (live_contents shape.page_bytes left ≡ c)
  held_reads left l =
      let is = held_left left l in
      (subst IsCounted (sym is) h.is.counts, ap (live_contents shape.page_bytes) is ∙ h.is.reads)

  -- it may be taken for one that turns
  pub held_turns : IsTurning shape c c file at
  held_turns = record {
    slot = h.slot;
    is = h.is;
    newest = λ j inside. ap (take 1) (h.each j inside);
    left = λ left l. let r = held_reads left l in (r.0, inl r.1);
  }

  pub held_same : (file' : FileState) →
      ((j : ℕ) → j < slot_bytes shape.page_bytes → slot_values shape file' at j ≡ slot_values shape file at j) →
      Holds shape c file' at
  held_same file' same = record {
    slot = h.slot;
    is = h.is;
    each = λ j inside. same j inside ∙ h.each j inside;
  }

  pub held_synced : (file' : FileState) → IsOpened shape file → Syncs file file' → Holds shape c file' at
  held_synced file' o s = record {
    slot = h.slot;
    is = h.is;
    each = λ j inside. s.newest o.copies _ ∙ ap (take 1) (h.each j inside);
  }

pub as_held : (shape : Shape) (c d : Contents) (file : FileState) (at : ℕ) → c ≡ d → Holds shape c file at →
    Holds shape d file at
as_held shape c d file at same h = subst (λ x. Holds shape x file at) same h

-- ---- a slot that turns

left_same : (shape : Shape) (file file' : FileState) (at : ℕ) (left : List ℕ) →
    ((j : ℕ) → j < slot_bytes shape.page_bytes → slot_values shape file' at j ≡ slot_values shape file at j) →
    LeavesSlot shape file' at left → LeavesSlot shape file at left
left_same shape file file' at left same l = record {
  long = l.long;
  each = λ j inside. subst (λ values. Contains values (get_or left j 0)) (same j inside) (l.each j inside);
}

pub turning_same : (shape : Shape) (old new : Contents) (file file' : FileState) (at : ℕ) →
    ((j : ℕ) → j < slot_bytes shape.page_bytes → slot_values shape file' at j ≡ slot_values shape file at j) →
    IsTurning shape old new file at → IsTurning shape old new file' at
turning_same shape old new file file' at same t = record {
  slot = t.slot;
  is = t.is;
  newest = λ j inside. ap (take 1) (same j inside) ∙ t.newest j inside;
  left = λ left l. t.left left (left_same shape file file' at left same l);
}

-- a sync makes it durable
pub turned : (shape : Shape) (old new : Contents) (file file' : FileState) (at : ℕ) → IsOpened shape file →
    Syncs file file' → IsTurning shape old new file at → Holds shape new file' at
turned shape old new file file' at o s t = record {
  slot = t.slot;
  is = t.is;
  each = λ j inside. s.newest o.copies _ ∙ t.newest j inside;
}

-- ---- all bytes of a slot are written

-- each of these bytes is put in front of the values of its place in a slot
abbrev pub Puts : Shape → ℕ → List ℕ → FileState → FileState → Type 0
Puts shape at bytes file file' =
    (j : ℕ) → j < length bytes → slot_values shape file' at j ≡ get_or bytes j 0 ∷ slot_values shape file at j

-- any of them are
abbrev pub MayPut : Shape → ℕ → List ℕ → FileState → FileState → Type 0
MayPut shape at bytes file file' =
    (j : ℕ) → j < length bytes →
    (slot_values shape file' at j ≡ get_or bytes j 0 ∷ slot_values shape file at j)
    ⊎ (slot_values shape file' at j ≡ slot_values shape file at j)

puts_may : (shape : Shape) (at : ℕ) (bytes : List ℕ) (file file' : FileState) → Puts shape at bytes file file' →
    MayPut shape at bytes file file'
puts_may shape at bytes file file' w j inside = inl (w j inside)

-- each byte that is left is the new one or the one that was there
whole_left : (shape : Shape) (at : ℕ) (c : Contents) (new : List ℕ) (file file' : FileState) →
    length new ≡ slot_bytes shape.page_bytes → (h : Holds shape c file at) → MayPut shape at new file file' →
    (left : List ℕ) → LeavesSlot shape file' at left → (j : ℕ) → j < slot_bytes shape.page_bytes →
    (get_or left j 0 ≡ get_or new j 0) ⊎ (get_or left j 0 ≡ get_or h.slot j 0)
whole_left shape at c new file file' long h w left l j inside =
    ⊎_elim
    (λ is. ⊎_elim
    (λ first. inl (sym first))
    (λ rest. inr (sym (Contains-one (get_or h.slot j 0) (get_or left j 0) rest)))
    (Contains-cases (get_or new j 0) (get_or h.slot j 0 ∷ []) (get_or left j 0)
    (subst (λ values. Contains values (get_or left j 0))
    (is ∙ ap (λ values. get_or new j 0 ∷ values) (h.each j inside))
    (l.each j inside))))
    (λ is. inr (sym (Contains-one (get_or h.slot j 0) (get_or left j 0)
    (subst (λ values. Contains values (get_or left j 0)) (is ∙ h.each j inside) (l.each j inside)))))
    (w j (omega (arith, long, inside)))

-- they are the newest
whole_newest : (shape : Shape) (at : ℕ) (new : List ℕ) (file file' : FileState) →
    length new ≡ slot_bytes shape.page_bytes → Puts shape at new file file' → (j : ℕ) →
    j < slot_bytes shape.page_bytes → take 1 (slot_values shape file' at j) ≡ get_or new j 0 ∷ []
whole_newest shape at new file file' long w j inside = ap (take 1) (w j (omega (arith, long, inside)))

-- over an erased slot
module _ (shape : Shape) (at : ℕ) (c : Contents) (new : List ℕ) (file file' : FileState)
    (most : slot_bytes shape.page_bytes ≤ 268435459) (is : IsSlot shape.page_bytes c new)
    (h : Holds shape blank file at) where
  left_over : MayPut shape at new file file' → (left : List ℕ) → LeavesSlot shape file' at left → IsErased new left
  left_over w left l = record {
    long = l.long ∙ sym is.long;
    bytes = IsBytes-all new is.bytes;
    each = λ j inside.
        let within : j < slot_bytes shape.page_bytes = omega (arith, is.long, inside) in
        let was : get_or h.slot j 0 ≡ 255 = ap (λ bytes. get_or bytes j 0) (h.is.empty refl)
        ∙ get_or-replicate (slot_bytes shape.page_bytes) j 255 0 within in
        ⊎_elim (λ e. inr e) (λ e. inl (e ∙ was)) (whole_left shape at blank new file file' is.long h w left l j within);
  }

  pub written_over : MayPut shape at new file file' → LeavesEither shape blank c file' at
  written_over w left l =
      let e = left_over w left l in
      let least : 4 ≤ length new = omega (arith, is.long) in
      let most' : length new ≤ 268435459 = omega (arith, is.long, most) in (
        torn_counted shape.page_bytes new left e least most' is.counts,
        ⊎_elim (λ same. inr (same ∙ is.reads)) (λ none. inl none)
            (torn_reads shape.page_bytes new left e least most' is.counts),
      )

  pub programmed_slot : Puts shape at new file file' → IsTurning shape blank c file' at
  programmed_slot w = record {
    slot = new;
    is = is;
    newest = whole_newest shape at new file file' is.long w;
    left = written_over (puts_may shape at new file file' w);
  }

-- an erased slot over another one
module _ (shape : Shape) (at : ℕ) (c : Contents) (file file' : FileState)
    (most : slot_bytes shape.page_bytes ≤ 268435459)
    (is : IsSlot shape.page_bytes blank (erased (slot_bytes shape.page_bytes))) (h : Holds shape c file at) where
  abbrev empty : List ℕ
  empty = erased (slot_bytes shape.page_bytes)

  left_of : MayPut shape at empty file file' → (left : List ℕ) → LeavesSlot shape file' at left →
      IsErased h.slot left
  left_of w left l = record {
    long = l.long ∙ sym h.is.long;
    bytes = IsBytes-all h.slot h.is.bytes;
    each = λ j inside.
        let within : j < slot_bytes shape.page_bytes = omega (arith, h.is.long, inside) in
        ⊎_elim (λ e. inl (e ∙ get_or-replicate (slot_bytes shape.page_bytes) j 255 0 within)) (λ e. inr e)
        (whole_left shape at c empty file file' is.long h w left l j within);
  }

  pub erased_over : MayPut shape at empty file file' → LeavesEither shape c blank file' at
  erased_over w left l =
      let e = left_of w left l in
      let least : 4 ≤ length h.slot = omega (arith, h.is.long) in
      let most' : length h.slot ≤ 268435459 = omega (arith, h.is.long, most) in (
        torn_counted shape.page_bytes h.slot left e least most' h.is.counts,
        ⊎_elim (λ same. inl (same ∙ h.is.reads)) (λ none. inr none)
            (torn_reads shape.page_bytes h.slot left e least most' h.is.counts),
      )

  pub erased_slot : Puts shape at empty file file' → IsTurning shape c blank file' at
  erased_slot w = record {
    slot = empty;
    is = is;
    newest = whole_newest shape at empty file file' is.long w;
    left = erased_over (puts_may shape at empty file file' w);
  }

-- ---- the last byte of a slot is written

module _ (shape : Shape) (at : ℕ) (c : Contents) (file file' : FileState)
    (most : slot_bytes shape.page_bytes ≤ 268435459) (h : Holds shape c file at) where
  abbrev end : ℕ
  end = cell_bytes shape.page_bytes + 3

  before_end : (j : ℕ) → j < slot_bytes shape.page_bytes → j ≢ end → j < end
  before_end j inside ne = grind arith

  module _ (w : MayWrite (slot_offset shape at + end) (128 ∷ []) file file') where
    front_stays : (j : ℕ) → j < end → slot_values shape file' at j ≡ slot_values shape file at j
    front_stays j inside = rest_stays shape at end (128 ∷ []) file file' (omega arith) w j (inl inside)

    last_may : (slot_values shape file' at end ≡ 128 ∷ slot_values shape file at end)
        ⊎ (slot_values shape file' at end ≡ slot_values shape file at end)
    last_may =
        let here : end + 0 ≡ end = omega arith in
        subst (λ i. (slot_values shape file' at i ≡ 128 ∷ slot_values shape file at i)
        ⊎ (slot_values shape file' at i ≡ slot_values shape file at i)) here
        (may_be shape at end (128 ∷ []) file file' (omega arith) w 0 (omega arith))

    end_within : end < slot_bytes shape.page_bytes
    end_within = omega arith

    last_left : (left : List ℕ) → LeavesSlot shape file' at left →
        (get_or left end 0 ≡ 128) ⊎ (get_or left end 0 ≡ get_or h.slot end 0)
    last_left left l = ⊎_elim
        (λ is. ⊎_elim
        (λ first. inl (sym first))
        (λ rest. inr (sym (Contains-one (get_or h.slot end 0) (get_or left end 0) rest)))
        (Contains-cases 128 (get_or h.slot end 0 ∷ []) (get_or left end 0)
        (subst (λ values. Contains values (get_or left end 0))
        (is ∙ ap (λ values. 128 ∷ values) (h.each end end_within))
        (l.each end end_within))))
        (λ is. inr (sym (Contains-one (get_or h.slot end 0) (get_or left end 0)
        (subst (λ values. Contains values (get_or left end 0)) (is ∙ h.each end end_within) (l.each end end_within)))))
        last_may

    front_left : (left : List ℕ) → LeavesSlot shape file' at left → (j : ℕ) → j < end →
        get_or left j 0 ≡ get_or h.slot j 0
    front_left left l j inside =
        let within : j < slot_bytes shape.page_bytes = omega (arith, inside) in
        sym (Contains-one (get_or h.slot j 0) (get_or left j 0)
        (subst (λ values. Contains values (get_or left j 0)) (front_stays j inside ∙ h.each j within)
        (l.each j within)))

    -- it is damaged, or as it was
    pub marked_over : LeavesEither shape c damaged file' at
    marked_over left l = ⊎_elim
        (λ is.
        let place : length left - 1 ≡ end = omega (arith, l.long) in
        let last : last_of left ≡ 128 = ap (λ k. get_or left k 0) place ∙ is in
        let d = damaged_by_last shape.page_bytes left (omega (arith, l.long)) (omega (arith, l.long, most)) last in
        (d.1, inr d.0))
        (λ is.
        let same : left ≡ h.slot = ext_get_or 0 left h.slot (l.long ∙ sym h.is.long) (λ j inside.
        let within : j < slot_bytes shape.page_bytes = omega (arith, inside, l.long) in
        elim (cases_eq j end) [
          | inl here ↦ ap (λ k. get_or left k 0) here ∙ is ∙ ap (λ k. get_or h.slot k 0) (sym here)
          | inr there ↦ front_left left l j (before_end j within there)
        ]) in
        (subst IsCounted (sym same) h.is.counts, inl (ap (live_contents shape.page_bytes) same ∙ h.is.reads)))
        (last_left left l)

  abbrev marked : List ℕ
  marked = set h.slot end 128

  marked_long : length marked ≡ slot_bytes shape.page_bytes
  marked_long = length-set h.slot end 128 ∙ h.is.long

  marked_last : last_of marked ≡ 128
  marked_last =
      let place : length marked - 1 ≡ end = omega (arith, marked_long) in
      ap (λ k. get_or marked k 0) place ∙ get_or-set_same h.slot end 128 0 (omega (arith, h.is.long))

  marked_is : IsSlot shape.page_bytes damaged marked
  marked_is =
      let d = damaged_by_last shape.page_bytes marked (omega (arith, marked_long)) (omega (arith, marked_long, most))
      marked_last in
      record {
        long = marked_long;
        bytes = All-set (λ b. b < 256) h.slot end 128 (omega arith) h.is.bytes;
        counts = d.1;
        reads = d.0;
        empty = λ e. absurd (cc);
      }

  pub marked_slot : Writes (slot_offset shape at + end) (128 ∷ []) file file' → IsTurning shape c damaged file' at
  marked_slot w =
      let may = may_write (slot_offset shape at + end) (128 ∷ []) (Ok tt) file file' w in
      record {
        slot = marked;
        is = marked_is;
        newest = λ j inside. elim (cases_eq j end) [
          | inl here ↦ subst (λ i. take 1 (slot_values shape file' at i) ≡ get_or marked i 0 ∷ []) (sym here)
              (last_new w ∙ ap (λ b. b ∷ []) (sym (get_or-set_same h.slot end 128 0 (omega (arith, h.is.long)))))
          | inr there ↦ ap (take 1) (front_stays may j (before_end j inside there) ∙ h.each j inside)
              ∙ ap (λ b. b ∷ []) (sym (get_or-set_other h.slot end j 128 0 there))
        ];
        left = marked_over may;
      }
    where
      last_new : Writes (slot_offset shape at + end) (128 ∷ []) file file' →
          take 1 (slot_values shape file' at end) ≡ 128 ∷ []
      last_new x =
          let here : slot_offset shape at + end + 0 ≡ slot_offset shape at + end = omega arith in
          ap (take 1) (subst (λ i. values_at file' i ≡ 128 ∷ values_at file i) here (x.inside 0 (omega arith)))
