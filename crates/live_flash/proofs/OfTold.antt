-- What holds of the file that is told, after each call of the follower.
use Rattle.live_flash.proofs.Common.{◌≡◌, ◌⊎◌, ℕ, suc, ◌<◌, ◌≤◌, ◌+◌, ◌==◌, true, false, List, [], ◌∷◌, ◌++◌, length, take, get_or, Option, Result, Ok, Err, OnOk, IfSome, refl, ap, subst, ◌∙◌, inr, ⊎_elim, arith, Shape, Slot, Contents, blank, slot_at, IsImage, StoreError, FileState, values_at, Syncs, SyncsFile, BothTell, slots_in, IsOpened, IsLiveFile, LeavesEither, IsTurning, TurnsSlot, TurnsSlots, Follows, LosesOnly, LosesBetween, AreWrittenAnew, sym, inl, ◌||◌, LeavesCounted}
use Rattle.std.proofs.Common.{append_assoc}
use Rattle.std.proofs.lemmas.Bool.{cases_Bool, both_ways}
use Rattle.std.proofs.lemmas.List.Folds.{list_any-append}
use Rattle.file_flash.specs.Clearing.{IsCleared}
use Rattle.file_flash.proofs.Programming.{Starts, in_front, only_front}
use Rattle.file_flash.proofs.Told.{carry, carry_both, weaken, weaken_both}
use Rattle.file_flash.proofs.Writing.{values_stay}
use Rattle.live_flash.proofs.Losing.{follows_lose, same_left}
use Rattle.live_flash.proofs.Following.{in_left, follows_as, run_waits, run_loses, skip_follows, starts_follow, flushed}
use Rattle.live_flash.proofs.Clearing.{none_torn, torn_next, torn_loses, all_torn, all_lose, tears_lose, cleared, cleared_loses}

-- ---- lists of slots

pub none_in : (slots : List Slot) (k : ℕ) → slots_in [] k ≡ true → slots_in slots k ≡ true
none_in slots k e = absurd (both_ways false refl e)

-- ---- a write of a slot

module _ (shape : Shape) (at : ℕ) (c d : Contents) (r : Result (Unit {0}) StoreError) (old new : Option FileState)
    (told : BothTell (TurnsSlot shape at c d r) old new) where
  pub opened_turned : IfSome old (IsOpened shape) → IfSome new (IsOpened shape)
  opened_turned o = carry (IsOpened shape) (IsOpened shape) (TurnsSlot shape at c d r) old new told o
      (λ a b t it. record { long = t.long ∙ it.long; copies = t.copies it.copies })

  pub kept_turned : (head : List ℕ) → IfSome old (IsLiveFile shape head) → IfSome new (IsLiveFile shape head)
  kept_turned head f = carry (IsLiveFile shape head) (IsLiveFile shape head) (TurnsSlot shape at c d r) old new told f
      (λ a b t it. record { long = t.long ∙ it.long; header = λ k inside. t.header k inside ∙ it.header k inside })

-- ---- a write of slots that follow each other

module _ (shape : Shape) (first count : ℕ) (c d : ℕ → Contents) (r : Result (Unit {0}) StoreError)
    (old new : Option FileState) (told : BothTell (TurnsSlots shape first count c d r) old new) where
  pub opened_run : IfSome old (IsOpened shape) → IfSome new (IsOpened shape)
  opened_run o = carry (IsOpened shape) (IsOpened shape) (TurnsSlots shape first count c d r) old new told o
      (λ a b t it. record { long = t.long ∙ it.long; copies = t.copies it.copies })

  pub kept_run : (head : List ℕ) → IfSome old (IsLiveFile shape head) → IfSome new (IsLiveFile shape head)
  kept_run head f = carry (IsLiveFile shape head) (IsLiveFile shape head) (TurnsSlots shape first count c d r)
      old new told f
      (λ a b t it. record { long = t.long ∙ it.long; header = λ k inside. t.header k inside ∙ it.header k inside })

-- ---- a sync

module _ (shape : Shape) (old new : Option FileState) where
  pub opened_synced : (r : Result (Unit {0}) StoreError) → BothTell (SyncsFile r) old new →
      IfSome old (IsOpened shape) → OnOk r (IfSome new (IsOpened shape))
  opened_synced (Err e) told o = tt
  opened_synced (Ok u) told o = carry (IsOpened shape) (IsOpened shape) (SyncsFile (Ok u)) old new told o
      (λ a b s it. record { long = s.long ∙ it.long; copies = s.copies it.copies })

  pub kept_synced : (head : List ℕ) (r : Result (Unit {0}) StoreError) → BothTell (SyncsFile r) old new →
      IfSome old (IsLiveFile shape head) → IfSome new (IsLiveFile shape head)
  kept_synced head (Err e) told f = carry (IsLiveFile shape head) (IsLiveFile shape head) (SyncsFile (Err e)) old new
      told f
      (λ a b s it. record {
        long = ap length s ∙ it.long;
        header = λ k inside. values_stay a b s k ∙ it.header k inside;
      })
  kept_synced head (Ok u) told f = carry (IsLiveFile shape head) (IsLiveFile shape head) (SyncsFile (Ok u)) old new
      told f
      (λ a b s it. record {
        long = s.long ∙ it.long;
        header = λ k inside. header_synced a b k (get_head k) s (it.header k inside);
      })
    where
      get_head : ℕ → ℕ
      get_head k = get_or head k 0

      header_synced : (a b : FileState) (k value : ℕ) → Syncs a b → values_at a k ≡ value ∷ [] →
          values_at b k ≡ value ∷ []
      header_synced a b k value s is = ⊎_elim
          (λ one. one ∙ ap (take 1) is)
          (λ same. same ∙ is)
          (s.each k)

-- ---- slots that are due are written

module _ (shape : Shape) (image : List Contents) (waiting run due : List Slot) (first count : ℕ)
    (is : IsImage shape image) (r : Result (Unit {0}) StoreError) (old new : Option FileState)
    (told : BothTell (TurnsSlots shape first count (λ k. blank) (λ k. slot_at image k) r) old new)
    (inner : (k : ℕ) → slots_in run k ≡ true → (first ≤ k) × (k < first + count))
    (outer : (k : ℕ) → slots_in run k ≡ false → (k < first) ⊎ (first + count ≤ k))
    (f : IfSome old (Follows shape image waiting (run ++ due))) where
  pub run_loses_told : (slots : List Slot) →
      ((k : ℕ) → slots_in waiting k ≡ true → slots_in slots k ≡ true) →
      ((k : ℕ) → slots_in (run ++ due) k ≡ true → slots_in slots k ≡ true) → IfSome old (IsOpened shape) →
      IfSome new (LosesOnly shape image slots)
  run_loses_told slots waits dues o = carry_both (IsOpened shape) (Follows shape image waiting (run ++ due))
      (LosesOnly shape image slots) (TurnsSlots shape first count (λ k. blank) (λ k. slot_at image k) r) old new told o f
      (λ a b t it follows. run_loses shape image waiting run due a b
      (λ k j apart within. t.others k j (outer k apart) within) follows slots is (t.long ∙ it.long)
      (λ k inside here. t.either k (inner k here).0 (inner k here).1 (follows.due k inside (in_left run due k here)))
      waits dues)

  pub run_waits_told : ((k : ℕ) → slots_in run k ≡ true → slots_in due k ≡ false) →
      OnOk r (IfSome new (Follows shape image (waiting ++ run) due))
  run_waits_told apart = elim_ok r (λ ok. carry (Follows shape image waiting (run ++ due))
      (Follows shape image (waiting ++ run) due)
      (TurnsSlots shape first count (λ k. blank) (λ k. slot_at image k) r) old new told f
      (λ a b t it. run_waits shape image waiting run due a b
      (λ k j away within. t.others k j (outer k away) within) it apart
      (λ k inside here. subst (λ y. OnOk y (IsTurning shape blank (slot_at image k) b k)) ok
      (t.turns k (inner k here).0 (inner k here).1 (it.due k inside (in_left run due k here))))))
    where
      elim_ok : (x : Result (Unit {0}) StoreError) →
          (x ≡ Ok tt → IfSome new (Follows shape image (waiting ++ run) due)) →
          OnOk x (IfSome new (Follows shape image (waiting ++ run) due))
      elim_ok (Ok u) step = step refl
      elim_ok (Err e) step = tt

-- the same slots in other lists
pub same_told : (shape : Shape) (image : List Contents) (waiting due waits dues : List Slot)
    (file : Option FileState) → ((k : ℕ) → slots_in waits k ≡ slots_in waiting k) →
    ((k : ℕ) → slots_in dues k ≡ slots_in due k) → IfSome file (Follows shape image waiting due) →
    IfSome file (Follows shape image waits dues)
same_told shape image waiting due waits dues file same_waits same_dues f =
    weaken (Follows shape image waiting due) (Follows shape image waits dues) file f
    (λ a it. follows_as shape image waiting due waits dues a same_waits same_dues it)

-- ---- a program

-- a slot that is blank still
pub put_skips : (shape : Shape) (image : List Contents) (waiting due : List Slot) (at : Slot)
    (file : Option FileState) → slot_at image at.0 ≡ blank →
    IfSome file (Follows shape image [] (waiting ++ at ∷ due)) → IfSome file (Follows shape image [] (waiting ++ due))
put_skips shape image waiting due at file empty f =
    weaken (Follows shape image [] (waiting ++ at ∷ due)) (Follows shape image [] (waiting ++ due)) file f
    (λ a it. skip_follows shape image waiting due at a empty it)

-- and one that is not
pub put_waits : (shape : Shape) (image : List Contents) (waiting due : List Slot) (at : Slot)
    (file : Option FileState) → IfSome file (Follows shape image [] (waiting ++ at ∷ due)) →
    IfSome file (Follows shape image [] ((waiting ++ at ∷ []) ++ due))
put_waits shape image waiting due at file f =
    subst (λ dues. IfSome file (Follows shape image [] dues)) (sym (append_assoc waiting (at ∷ []) due)) f

pub loses_now : (shape : Shape) (image : List Contents) (waiting due slots : List Slot) (file : Option FileState) →
    IsImage shape image → ((k : ℕ) → slots_in waiting k ≡ true → slots_in slots k ≡ true) →
    ((k : ℕ) → slots_in due k ≡ true → slots_in slots k ≡ true) → IfSome file (IsOpened shape) →
    IfSome file (Follows shape image waiting due) → IfSome file (LosesOnly shape image slots)
loses_now shape image waiting due slots file is waits dues o f =
    weaken_both (IsOpened shape) (Follows shape image waiting due) (LosesOnly shape image slots) file o f
    (λ a it follows. follows_lose shape image waiting due slots a is it.long follows waits dues)

-- ---- a flush

pub flush_follows : (shape : Shape) (image : List Contents) (waiting : List Slot) (r : Result (Unit {0}) StoreError)
    (old new : Option FileState) → BothTell (SyncsFile r) old new → IfSome old (IsOpened shape) →
    IfSome old (Follows shape image waiting []) → OnOk r (IfSome new (Follows shape image [] []))
flush_follows shape image waiting (Err e) old new told o f = tt
flush_follows shape image waiting (Ok u) old new told o f =
    carry_both (IsOpened shape) (Follows shape image waiting []) (Follows shape image [] []) (SyncsFile (Ok u))
    old new told o f
    (λ a b s it follows. flushed shape image waiting a b it s follows)

pub flush_loses : (shape : Shape) (image : List Contents) (waiting : List Slot) (r : Result (Unit {0}) StoreError)
    (old new : Option FileState) → IsImage shape image → BothTell (SyncsFile r) old new →
    IfSome old (IsOpened shape) → IfSome old (Follows shape image waiting []) →
    IfSome new (LosesOnly shape image waiting)
flush_loses shape image waiting (Err e) old new is told o f =
    carry_both (IsOpened shape) (Follows shape image waiting []) (LosesOnly shape image waiting) (SyncsFile (Err e))
    old new told o f
    (λ a b s it follows left l. follows_lose shape image waiting [] waiting a is it.long follows (λ k e'. e')
    (none_in waiting) left (same_left a b left s l))
flush_loses shape image waiting (Ok u) old new is told o f =
    carry_both (IsOpened shape) (Follows shape image waiting []) (LosesOnly shape image waiting) (SyncsFile (Ok u))
    old new told o f
    (λ a b s it follows. follows_lose shape image [] [] waiting b is (s.long ∙ it.long)
    (flushed shape image waiting a b it s follows) (none_in waiting) (none_in waiting))

-- ---- a block that is written anew

module _ (shape : Shape) (was image : List Contents) (first : ℕ) where
  pub none_torn_told : (file : Option FileState) → IfSome file (Follows shape was [] []) →
      IfSome file (AreWrittenAnew shape was image first first)
  none_torn_told file f = weaken (Follows shape was [] []) (AreWrittenAnew shape was image first first) file f
      (λ a it. none_torn shape was image first a it)

  module _ (at : ℕ) (from : first ≤ at) (r : Result (Unit {0}) StoreError) (old new : Option FileState)
      (told : BothTell (TurnsSlot shape at (slot_at was at) (slot_at image at) r) old new)
      (t : IfSome old (AreWrittenAnew shape was image first at)) where
    pub torn_next_told : r ≡ Ok tt → IfSome new (AreWrittenAnew shape was image first (suc at))
    torn_next_told ok = carry (AreWrittenAnew shape was image first at) (AreWrittenAnew shape was image first (suc at))
        (TurnsSlot shape at (slot_at was at) (slot_at image at) r) old new told t
        (λ a b turns it. torn_next shape was image first at a b from turns.others it
        (λ low. done b (turns.turns (it.outside at low (inr (omega arith))))))
      where
        done : (b : FileState) → OnOk r (IsTurning shape (slot_at was at) (slot_at image at) b at) →
            IsTurning shape (slot_at was at) (slot_at image at) b at
        done b x = subst (λ y. OnOk y (IsTurning shape (slot_at was at) (slot_at image at) b at)) ok x

    pub torn_loses_told : IsImage shape was → IfSome old (IsOpened shape) → IfSome new (LosesBetween shape was image)
    torn_loses_told is o = carry_both (IsOpened shape) (AreWrittenAnew shape was image first at) (LosesBetween shape was image)
        (TurnsSlot shape at (slot_at was at) (slot_at image at) r) old new told o t
        (λ a b turns it tears. torn_loses shape was image first at a b from turns.others tears is
        (turns.long ∙ it.long) (λ low. turns.either (tears.outside at low (inr (omega arith)))))

  module _ (count : ℕ) (empty : (k : ℕ) → first ≤ k → k < first + count → slot_at image k ≡ blank)
      (old new : Option FileState) where
    pub erased_told : (r : Result (Unit {0}) StoreError) →
        BothTell (TurnsSlots shape first count (λ k. slot_at was k) (λ k. blank) r) old new →
        IfSome old (Follows shape was [] []) → OnOk r (IfSome new (AreWrittenAnew shape was image first (first + count)))
    erased_told (Err e) told f = tt
    erased_told (Ok u) told f = carry (Follows shape was [] []) (AreWrittenAnew shape was image first (first + count))
        (TurnsSlots shape first count (λ k. slot_at was k) (λ k. blank) (Ok u)) old new told f
        (λ a b t it. all_torn shape was image first count a b t.others it
        (λ k low from below. subst (λ c. IsTurning shape (slot_at was k) c b k) (sym (empty k from below))
        (t.turns k from below (it.keeps k low refl refl))))

    pub erased_loses_told : (r : Result (Unit {0}) StoreError) →
        BothTell (TurnsSlots shape first count (λ k. slot_at was k) (λ k. blank) r) old new → IsImage shape was →
        IfSome old (IsOpened shape) → IfSome old (Follows shape was [] []) →
        IfSome new (LosesBetween shape was image)
    erased_loses_told r told is o f = carry_both (IsOpened shape) (Follows shape was [] [])
        (LosesBetween shape was image) (TurnsSlots shape first count (λ k. slot_at was k) (λ k. blank) r) old new told o f
        (λ a b t it follows. all_lose shape was image first count a b t.others follows is (t.long ∙ it.long)
        (λ k low from below. subst (λ c. LeavesEither shape (slot_at was k) c b k) (sym (empty k from below))
        (t.either k from below (follows.keeps k low refl refl))))

  pub tears_told : (upto : ℕ) (file : Option FileState) → IsImage shape was → IfSome file (IsOpened shape) →
      IfSome file (AreWrittenAnew shape was image first upto) → IfSome file (LosesBetween shape was image)
  tears_told upto file is o t = weaken_both (IsOpened shape) (AreWrittenAnew shape was image first upto)
      (LosesBetween shape was image) file o t
      (λ a it tears. tears_lose shape was image first upto a is it.long tears)

  pub cleared_told : (count : ℕ) → IsCleared was image first count → (r : Result (Unit {0}) StoreError)
      (old new : Option FileState) → BothTell (SyncsFile r) old new → IfSome old (IsOpened shape) →
      IfSome old (AreWrittenAnew shape was image first (first + count)) → OnOk r (IfSome new (Follows shape image [] []))
  cleared_told count c (Err e) old new told o t = tt
  cleared_told count c (Ok u) old new told o t =
      carry_both (IsOpened shape) (AreWrittenAnew shape was image first (first + count)) (Follows shape image [] [])
      (SyncsFile (Ok u)) old new told o t
      (λ a b s it tears. cleared shape was image first count a b it s c tears)

  pub cleared_loses_told : (count : ℕ) → IsImage shape was → IsCleared was image first count →
      (r : Result (Unit {0}) StoreError) (old new : Option FileState) → BothTell (SyncsFile r) old new →
      IfSome old (IsOpened shape) → IfSome old (AreWrittenAnew shape was image first (first + count)) →
      IfSome new (LosesBetween shape was image)
  cleared_loses_told count is c (Err e) old new told o t =
      carry_both (IsOpened shape) (AreWrittenAnew shape was image first (first + count)) (LosesBetween shape was image)
      (SyncsFile (Err e)) old new told o t
      (λ a b s it tears left l. tears_lose shape was image first (first + count) a is it.long tears left
      (same_left a b left s l))
  cleared_loses_told count is c (Ok u) old new told o t =
      carry_both (IsOpened shape) (AreWrittenAnew shape was image first (first + count)) (LosesBetween shape was image)
      (SyncsFile (Ok u)) old new told o t
      (λ a b s it tears. cleared_loses shape was image b is c.lengths (s.long ∙ it.long)
      (cleared shape was image first count a b it s c tears))

-- ---- a program in memory

pub follows_but : (told : Option FileState) (old_shape shape : Shape) (old new : List Contents)
    (waiting due : List Slot) → shape ≡ old_shape → Starts old new due →
    IfSome told (Follows old_shape old [] waiting) → IfSome told (Follows shape new [] (waiting ++ due))
follows_but told old_shape shape old new waiting due same st f =
    weaken (Follows old_shape old [] waiting) (Follows shape new [] (waiting ++ due)) told f (λ a it.
    starts_follow shape old new waiting due a st (subst (λ s. Follows s old [] waiting a) (sym same) it))

-- the slots that may be lost are the same in another order
pub lose_more : (shape : Shape) (image : List Contents) (slots more : List Slot) (file : Option FileState) →
    ((k : ℕ) → slots_in slots k ≡ true → slots_in more k ≡ true) → IfSome file (LosesOnly shape image slots) →
    IfSome file (LosesOnly shape image more)
lose_more shape image slots more file all loses =
    weaken (LosesOnly shape image slots) (LosesOnly shape image more) file loses
    (λ a it left l. let r = it left l in (
      r.0,
      λ k inside. ⊎_elim (λ same. inl same) (λ none. inr (all k none.0, none.1)) (r.1 k inside),
    ))

pub front_back : (waiting : List Slot) (at : Slot) (k : ℕ) → slots_in (waiting ++ at ∷ []) k ≡ true →
    slots_in (at ∷ waiting) k ≡ true
front_back waiting at k e = elim (cases_Bool (slots_in waiting k)) [
  | inl wait ↦ in_front at waiting k wait
  | inr not ↦ only_front at waiting k
      (sym (list_any-append (λ a. a.0 == k) waiting (at ∷ [])
      ∙ ap (λ b. b || slots_in (at ∷ []) k) not) ∙ e)
]

-- what waits once a slot was put waited before or is that slot
pub put_lost : (waiting more : List Slot) (at : Slot) → (more ≡ waiting) ⊎ (more ≡ waiting ++ at ∷ []) → (k : ℕ) →
    slots_in more k ≡ true → slots_in (at ∷ waiting) k ≡ true
put_lost waiting more at how k here = ⊎_elim
    (λ same. in_front at waiting k (subst (λ w. slots_in w k ≡ true) same here))
    (λ push. front_back waiting at k (subst (λ w. slots_in w k ≡ true) push here))
    how

-- ---- what is left is counted

pub only_counted : (shape : Shape) (image : List Contents) (slots : List Slot) (file : Option FileState) →
    IfSome file (LosesOnly shape image slots) → IfSome file (LeavesCounted shape)
only_counted shape image slots file loses =
    weaken (LosesOnly shape image slots) (LeavesCounted shape) file loses (λ a it left l. (it left l).0)

pub between_counted : (shape : Shape) (old new : List Contents) (file : Option FileState) →
    IfSome file (LosesBetween shape old new) → IfSome file (LeavesCounted shape)
between_counted shape old new file loses =
    weaken (LosesBetween shape old new) (LeavesCounted shape) file loses (λ a it left l. (it left l).0)
