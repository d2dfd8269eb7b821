-- What a loss leaves of a file that follows, slot by slot.
use Rattle.live_flash.proofs.Common.{◌≡◌, ◌⊎◌, ℕ, ◌<◌, Bool, true, List, [], length, Contains, get_or, ap, subst, ◌∙◌, inl, inr, ⊎_elim, arith, slots_of, Shape, Slot, Contents, blank, slot_at, IsImage, FileState, LeavesBytes, slots_in, live_contents, IsCounted, live_bytes, slot_in, LeavesSlot, Holds, LeavesEither, Follows, LosesOnly, LosesBetween}
use Rattle.std.proofs.lemmas.Bool.{cases_Bool}
use Rattle.live_flash.proofs.Places.{slot_left, slot_reads}
use Rattle.live_flash.proofs.Turning.{held_reads}

-- a loss leaves what a slot holds, or nothing where it may be lost
abbrev pub SlotLoses : Shape → Contents → Bool → FileState → ℕ → Type 0
SlotLoses shape c lost file k =
    (left : List ℕ) → LeavesSlot shape file k left →
    IsCounted left
    × ((live_contents shape.page_bytes left ≡ c)
    ⊎ ((lost ≡ true) × (live_contents shape.page_bytes left ≡ blank)))

-- so of each slot, and so of the file
pub lose_all : (shape : Shape) (image : List Contents) (slots : List Slot) (file : FileState) → IsImage shape image →
    length file.values ≡ live_bytes shape →
    ((k : ℕ) → k < length image → SlotLoses shape (slot_at image k) (slots_in slots k) file k) →
    LosesOnly shape image slots file
lose_all shape image slots file is long each left l = (
  λ k low. (each k (omega (arith, is.slots)) (slot_in shape left k) (slot_left shape file left long l k low)).0,
  λ k inside.
      let low : k < slots_of shape = omega (arith, is.slots) in
      let reads = slot_reads shape left (l.long ∙ long) k low in
      ⊎_elim
      (λ same. inl (reads ∙ same))
      (λ none. inr (none.0, reads ∙ none.1))
      (each k inside (slot_in shape left k) (slot_left shape file left long l k low)).1,
)

-- the same of two images
pub lose_between : (shape : Shape) (old new : List Contents) (file : FileState) → IsImage shape old →
    length file.values ≡ live_bytes shape →
    ((k : ℕ) → k < length old → LeavesEither shape (slot_at old k) (slot_at new k) file k) →
    LosesBetween shape old new file
lose_between shape old new file is long each left l = (
  λ k low. (each k (omega (arith, is.slots)) (slot_in shape left k) (slot_left shape file left long l k low)).0,
  λ k inside.
      let low : k < slots_of shape = omega (arith, is.slots) in
      let reads = slot_reads shape left (l.long ∙ long) k low in
      ⊎_elim
      (λ same. inl (reads ∙ same))
      (λ other. inr (reads ∙ other))
      (each k inside (slot_in shape left k) (slot_left shape file left long l k low)).1,
)

-- ---- a slot

pub held_loses : (shape : Shape) (c : Contents) (lost : Bool) (file : FileState) (k : ℕ) → Holds shape c file k →
    SlotLoses shape c lost file k
held_loses shape c lost file k h left l = let r = held_reads shape c file k h left l in (r.0, inl r.1)

pub blank_loses : (shape : Shape) (c : Contents) (lost : Bool) (file : FileState) (k : ℕ) → lost ≡ true →
    Holds shape blank file k → SlotLoses shape c lost file k
blank_loses shape c lost file k may h left l = let r = held_reads shape blank file k h left l in
    (r.0, inr (may, r.1))

pub either_loses : (shape : Shape) (c : Contents) (lost : Bool) (file : FileState) (k : ℕ) → lost ≡ true →
    LeavesEither shape blank c file k → SlotLoses shape c lost file k
either_loses shape c lost file k may e left l =
    let r = e left l in
    (r.0, ⊎_elim (λ none. inr (may, none)) (λ same. inl same) r.1)

-- ---- a file that follows

pub follows_slot : (shape : Shape) (image : List Contents) (waiting due slots : List Slot) (file : FileState) (k : ℕ) →
    k < length image → Follows shape image waiting due file →
    (slots_in waiting k ≡ true → slots_in slots k ≡ true) →
    (slots_in due k ≡ true → slots_in slots k ≡ true) → SlotLoses shape (slot_at image k) (slots_in slots k) file k
follows_slot shape image waiting due slots file k inside f waits dues =
    elim (cases_Bool (slots_in due k)) [
      | inl here ↦ blank_loses shape (slot_at image k) (slots_in slots k) file k (dues here) (f.due k inside here)
      | inr there ↦ elim (cases_Bool (slots_in waiting k)) [
        | inl wait ↦ either_loses shape (slot_at image k) (slots_in slots k) file k (waits wait)
            (f.waits k inside there wait).left
        | inr done ↦ held_loses shape (slot_at image k) (slots_in slots k) file k (f.keeps k inside there done)
      ]
    ]

pub follows_lose : (shape : Shape) (image : List Contents) (waiting due slots : List Slot) (file : FileState) →
    IsImage shape image → length file.values ≡ live_bytes shape → Follows shape image waiting due file →
    ((k : ℕ) → slots_in waiting k ≡ true → slots_in slots k ≡ true) →
    ((k : ℕ) → slots_in due k ≡ true → slots_in slots k ≡ true) → LosesOnly shape image slots file
follows_lose shape image waiting due slots file is long f waits dues =
    lose_all shape image slots file is long
    (λ k inside. follows_slot shape image waiting due slots file k inside f (waits k) (dues k))

-- a loss leaves the same of a file with the same values
pub same_left : (old new : FileState) (left : List ℕ) → new.values ≡ old.values → LeavesBytes new left →
    LeavesBytes old left
same_left old new left same l = record {
  long = l.long ∙ ap length same;
  each = λ k within. subst (λ values. Contains (get_or values k []) (get_or left k 0)) same (l.each k within);
}
