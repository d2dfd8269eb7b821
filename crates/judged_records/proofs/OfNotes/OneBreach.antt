-- An image is sound, or breaks one law first, at one slot.
use Rattle.judged_records.proofs.Common.{◌≡◌, inl, inr, ℕ, zero, suc, ◌<◌, List, [], ◌∷◌, sym, ap₂, refl, subst, ◌∙◌, arith, Protocol, Shape, Contents, slot_at, Found, Pages, Written, found_of, records_of, SlotReads, written_in}
use Rattle.std.specs.Prelude.{All, Any}
use Rattle.std.proofs.lemmas.Bool.{cases_order}
use Rattle.std.proofs.lemmas.List.Elements.{All-head, All-tail}
use Rattle.list_lemmas.proofs.Quantifiers.{all_mapped, all_both}
use Rattle.record_list.specs.declared.found.Breach.{Breach}
use Rattle.record_list.specs.SoundList.{Law, Copies, Links, Present, Counted, Loose, Ending, number, Keeps}
use Rattle.record_list.specs.Counts.{KeepsCount, IsLeastMiscount}
use Rattle.record_list.specs.Written.{BytesAgree, IsFirstBrokenLaw, IsSoundWritten, KeepsWritten}
use Rattle.record_list.proofs.OfFacts.Breaches.{one_law_more}
use Rattle.judged_records.specs.Images.{IsFirstOfRecords, IsFirstUnread, IsLeastImageBreach, IsSoundImage}

-- ---- the laws of a sound list, one by one

-- each record keeps each law, bytes included
sound_keeps : (protocol : Protocol) (list : List Written) (logical : ℕ) (shape : Shape) →
    IsSoundWritten protocol list logical shape →
    (l : Law) → All (KeepsWritten protocol list logical l) list
sound_keeps protocol list logical shape s Pages = all_mapped (Keeps protocol (records_of list) logical Pages) found_of
    list (s.records Pages)
sound_keeps protocol list logical shape s Copies =
    all_both (λ w. Keeps protocol (records_of list) logical Copies (found_of w)) (BytesAgree list) list
    (all_mapped (Keeps protocol (records_of list) logical Copies) found_of list (s.records Copies)) s.bytes
sound_keeps protocol list logical shape s Links = all_mapped (Keeps protocol (records_of list) logical Links) found_of
    list (s.records Links)
sound_keeps protocol list logical shape s Present = all_mapped (Keeps protocol (records_of list) logical Present)
    found_of list (s.records Present)
sound_keeps protocol list logical shape s Counted = all_mapped (Keeps protocol (records_of list) logical Counted)
    found_of list (s.records Counted)
sound_keeps protocol list logical shape s Loose = all_mapped (Keeps protocol (records_of list) logical Loose) found_of
    list (s.records Loose)
sound_keeps protocol list logical shape s Ending = all_mapped (Keeps protocol (records_of list) logical Ending) found_of
    list (s.records Ending)

-- ---- one first breach of records

breach_same : (a b : Breach) → a.law ≡ b.law → a.slot.0 ≡ b.slot.0 → a ≡ b
breach_same a b law slot =
    ap₂ (λ (l : ℕ) (s : ℕ). let breach : Breach = record { law = l; slot = record { 0 = s } } in breach) law slot

law_same : (l m : Law) → number l ≡ number m → l ≡ m
law_same l m e =
    one_law_more (λ k. number k ≡ number m → k ≡ m) m (λ k below same. absurd (omega arith)) (λ same. refl) l
    (omega arith) e

-- no record breaks a law that all keep
none_breaks : {X : Type 0} (K P : X → Type 0) (xs : List X) → Any (λ x. P x × (K x → ⊥)) xs → All K xs → ⊥
none_breaks K P xs (k, x, within, at, (its, breaks)) h = breaks (subst K at (h k x within))

none_before : {X : Type 0} (slot : X → ℕ) (K : X → Type 0) (list : List X) (a b : ℕ) → a < b →
    Any (λ w. (slot w ≡ a) × (K w → ⊥)) list → All (λ w. slot w < b → K w) list → ⊥
none_before slot K list a b less (k, w, within, at, (its, breaks)) h =
    let keeps : slot w < b → K w = subst (λ v. slot v < b → K v) at (h k w within) in
    breaks (keeps (omega arith))

first_same : (protocol : Protocol) (list : List Written) (logical : ℕ) (a b : Breach) →
    IsFirstBrokenLaw protocol list logical a → IsFirstBrokenLaw protocol list logical b → a ≡ b
first_same protocol list logical a b h k = elim (cases_order (number h.law) (number k.law)) [
  | inl same ↦
      let one = law_same h.law k.law same in
      let breaks : Any (λ w. (w.slot.0 ≡ a.slot.0) × (KeepsWritten protocol list logical k.law w → ⊥)) list =
      subst (λ l. Any (λ w. (w.slot.0 ≡ a.slot.0) × (KeepsWritten protocol list logical l w → ⊥)) list) one h.breaks in
      let earlier : All (λ w. w.slot.0 < a.slot.0 → KeepsWritten protocol list logical k.law w) list =
      subst (λ l. All (λ w. w.slot.0 < a.slot.0 → KeepsWritten protocol list logical l w) list) one h.earlier_slots in
      elim (cases_order a.slot.0 b.slot.0) [
        | inl slot ↦ breach_same a b (sym h.law_number ∙ same ∙ k.law_number) slot
        | inr (inl less) ↦ absurd (none_before (λ (w : Written). w.slot.0) (KeepsWritten protocol list logical k.law)
            list a.slot.0 b.slot.0 less breaks
            k.earlier_slots)
        | inr (inr more) ↦ absurd (none_before (λ (w : Written). w.slot.0) (KeepsWritten protocol list logical k.law)
            list b.slot.0 a.slot.0 more k.breaks
            earlier)
      ]
  | inr (inl less) ↦
      absurd (none_breaks (KeepsWritten protocol list logical h.law) (λ w. w.slot.0 ≡ a.slot.0) list h.breaks
      (k.earlier_laws h.law less))
  | inr (inr more) ↦
      absurd (none_breaks (KeepsWritten protocol list logical k.law) (λ w. w.slot.0 ≡ b.slot.0) list k.breaks
      (h.earlier_laws k.law more))
]

-- a later law is not broken first where another law is
not_both : (protocol : Protocol) (list : List Written) (logical : ℕ) (a : Breach) →
    IsFirstBrokenLaw protocol list logical a → ((l : Law) → All (KeepsWritten protocol list logical l) list) → ⊥
not_both protocol list logical a h all =
    none_breaks (KeepsWritten protocol list logical h.law) (λ w. w.slot.0 ≡ a.slot.0) list h.breaks (all h.law)

-- law 9 is broken first at one slot
miscount_same : (list : List Found) (a b : Breach) → IsLeastMiscount list a → IsLeastMiscount list b → a ≡ b
miscount_same list a b h k = elim (cases_order a.slot.0 b.slot.0) [
  | inl slot ↦ breach_same a b (h.law ∙ sym k.law) slot
  | inr (inl less) ↦ absurd (none_before (λ (f : Found). f.slot.0) (KeepsCount list) list a.slot.0 b.slot.0 less
      h.breaks k.earlier_slots)
  | inr (inr more) ↦ absurd (none_before (λ (f : Found). f.slot.0) (KeepsCount list) list b.slot.0 a.slot.0 more
      k.breaks h.earlier_slots)
]

-- ---- images

reads_at : (protocol : Protocol) (logical : ℕ) (image : List Contents) (k : ℕ) →
    All (SlotReads protocol logical) image →
    SlotReads protocol logical (slot_at image k)
reads_at protocol logical [] k h = tt
reads_at protocol logical (c ∷ cs) zero h = All-head (SlotReads protocol logical) c cs h
reads_at protocol logical (c ∷ cs) (suc k) h = reads_at protocol logical cs k
    (All-tail (SlotReads protocol logical) c cs h)

unread_same : (protocol : Protocol) (logical : ℕ) (image : List Contents) (a b : Breach) →
    IsFirstUnread protocol logical image a → IsFirstUnread protocol logical image b → a ≡ b
unread_same protocol logical image a b h k = elim (cases_order a.slot.0 b.slot.0) [
  | inl slot ↦ breach_same a b (h.law ∙ sym k.law) slot
  | inr (inl less) ↦ absurd (h.breaks (k.earlier_slots a.slot.0 less))
  | inr (inr more) ↦ absurd (k.breaks (h.earlier_slots b.slot.0 more))
]

records_same : (protocol : Protocol) (logical : ℕ) (shape : Shape) (image : List Contents) (a b : Breach) →
    IsFirstOfRecords protocol logical shape image a → IsFirstOfRecords protocol logical shape image b → a ≡ b
records_same protocol logical shape image a b h k =
    let list = written_in protocol image in
    elim h.broken [
      | inl first ↦ elim k.broken [
        | inl other ↦ first_same protocol list logical a b first other
        | inr (inl last) ↦ absurd (not_both protocol list logical a first last.earlier_laws)
        | inr (inr count) ↦ absurd (not_both protocol list logical a first count.earlier_laws)
      ]
      | inr (inl last) ↦ elim k.broken [
        | inl other ↦ absurd (not_both protocol list logical b other last.earlier_laws)
        | inr (inl also) ↦ breach_same a b (last.law ∙ sym also.law) (last.slot ∙ sym also.slot)
        | inr (inr count) ↦ absurd (last.breaks count.removable)
      ]
      | inr (inr count) ↦ elim k.broken [
        | inl other ↦ absurd (not_both protocol list logical b other count.earlier_laws)
        | inr (inl last) ↦ absurd (last.breaks count.removable)
        | inr (inr also) ↦ miscount_same (records_of list) a b count.miscount also.miscount
      ]
    ]

-- an image breaks one law first, at one slot
pub breach_one : (protocol : Protocol) (logical : ℕ) (shape : Shape) (image : List Contents) (a b : Breach) →
    IsLeastImageBreach protocol logical shape image a → IsLeastImageBreach protocol logical shape image b → a ≡ b
breach_one protocol logical shape image a b (inl h) (inl k) = unread_same protocol logical image a b h k
breach_one protocol logical shape image a b (inl h) (inr k) =
    absurd (h.breaks (reads_at protocol logical image a.slot.0 k.reads))
breach_one protocol logical shape image a b (inr h) (inl k) =
    absurd (k.breaks (reads_at protocol logical image b.slot.0 h.reads))
breach_one protocol logical shape image a b (inr h) (inr k) = records_same protocol logical shape image a b h k

-- a sound image breaks none
pub sound_unbroken : (protocol : Protocol) (logical : ℕ) (shape : Shape) (image : List Contents) (b : Breach) →
    IsSoundImage protocol logical shape image → IsLeastImageBreach protocol logical shape image b → ⊥
sound_unbroken protocol logical shape image b s (inl h) = h.breaks (reads_at protocol logical image b.slot.0 s.reads)
sound_unbroken protocol logical shape image b s (inr h) = elim h.broken [
  | inl first ↦
      none_breaks (KeepsWritten protocol (written_in protocol image) logical first.law) (λ w. w.slot.0 ≡ b.slot.0)
      (written_in protocol image)
      first.breaks (sound_keeps protocol (written_in protocol image) logical shape s.written first.law)
  | inr (inl last) ↦ last.breaks s.written.removable
  | inr (inr count) ↦
      let list = records_of (written_in protocol image) in
      none_breaks (KeepsCount list) (λ f. f.slot.0 ≡ b.slot.0) list count.miscount.breaks s.written.counts
]
