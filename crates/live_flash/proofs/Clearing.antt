-- The slots of a block are written anew.
use Rattle.live_flash.proofs.Common.{◌≡◌, ◌≢◌, ◌⊎◌, ℕ, suc, ◌<◌, ◌≤◌, ◌+◌, false, List, [], length, refl, sym, subst, inl, inr, ⊎_elim, arith, Shape, Contents, slot_at, IsImage, FileState, Syncs, slot_bytes, live_bytes, IsOpened, slot_values, Holds, LeavesEither, IsTurning, Follows, LosesBetween, AreWrittenAnew}
use Rattle.std.proofs.lemmas.Bool.{cases_lt, cases_eq, both_ways}
use Rattle.file_flash.specs.Clearing.{IsCleared}
use Rattle.live_flash.proofs.Turning.{held_same, held_reads, turning_same, held_synced, turned, as_held}
use Rattle.live_flash.proofs.Losing.{lose_between}

-- where nothing is written yet
pub none_torn : (shape : Shape) (old new : List Contents) (first : ℕ) (file : FileState) →
    Follows shape old [] [] file → AreWrittenAnew shape old new first first file
none_torn shape old new first file f = record {
  inside = λ k low from before. absurd (omega (arith, from, before));
  outside = λ k low side. f.keeps k low refl refl;
}

module _ (shape : Shape) (old new : List Contents) (first at : ℕ) (file file' : FileState) (from : first ≤ at)
    (others : (k j : ℕ) → k ≢ at → j < slot_bytes shape.page_bytes →
    slot_values shape file' k j ≡ slot_values shape file k j)
    (t : AreWrittenAnew shape old new first at file) where
  -- one more is written
  pub torn_next : (at < length old → IsTurning shape (slot_at old at) (slot_at new at) file' at) →
      AreWrittenAnew shape old new first (suc at) file'
  torn_next turning = record {
    inside = λ k low after before. elim (cases_eq k at) [
      | inl is ↦ subst (λ i. IsTurning shape (slot_at old i) (slot_at new i) file' i) (sym is)
          (turning (subst (λ i. i < length old) is low))
      | inr not ↦ turning_same shape (slot_at old k) (slot_at new k) file file' k (λ j within. others k j not within)
          (t.inside k low after (behind k not before))
    ];
    outside = λ k low side. held_same shape (slot_at old k) file k
        (t.outside k low (⊎_elim (λ e. inl e) (λ e. inr (omega (arith, e))) side)) file'
        (λ j within. others k j (away k side) within);
  }
    where
      behind : (k : ℕ) → k ≢ at → k < suc at → k < at
      behind k not before = grind arith

      away : (k : ℕ) → (k < first) ⊎ (suc at ≤ k) → k ≢ at
      away k side is = ⊎_elim (λ e. omega (arith, e, is, from)) (λ e. omega (arith, e, is)) side

  -- or may be
  pub torn_loses : IsImage shape old → length file'.values ≡ live_bytes shape →
      (at < length old → LeavesEither shape (slot_at old at) (slot_at new at) file' at) →
      LosesBetween shape old new file'
  torn_loses is long either = lose_between shape old new file' is long
      (λ k low. elim (cases_eq k at) [
        | inl here ↦ subst (λ i. LeavesEither shape (slot_at old i) (slot_at new i) file' i) (sym here)
            (either (subst (λ i. i < length old) here low))
        | inr not ↦ elim (cases_lt k first) [
          | inl before ↦ held_either k (held_same shape (slot_at old k) file k (t.outside k low (inl before)) file'
              (λ j within. others k j not within))
          | inr after ↦ elim (cases_lt k at) [
            | inl torn ↦ (turning_same shape (slot_at old k) (slot_at new k) file file' k
                (λ j within. others k j not within) (t.inside k low after torn)).left
            | inr past ↦ held_either k (held_same shape (slot_at old k) file k (t.outside k low (inr past)) file'
                (λ j within. others k j not within))
          ]
        ]
      ])
    where
      held_either : (k : ℕ) → Holds shape (slot_at old k) file' k →
          LeavesEither shape (slot_at old k) (slot_at new k) file' k
      held_either k h left l = let r = held_reads shape (slot_at old k) file' k h left l in (r.0, inl r.1)

-- while they are written
pub tears_lose : (shape : Shape) (old new : List Contents) (first upto : ℕ) (file : FileState) → IsImage shape old →
    length file.values ≡ live_bytes shape → AreWrittenAnew shape old new first upto file → LosesBetween shape old new file
tears_lose shape old new first upto file is long t = lose_between shape old new file is long
    (λ k low. elim (cases_lt k first) [
      | inl before ↦ held_either k (t.outside k low (inl before))
      | inr after ↦ elim (cases_lt k upto) [
        | inl torn ↦ (t.inside k low after torn).left
        | inr past ↦ held_either k (t.outside k low (inr past))
      ]
    ])
  where
    held_either : (k : ℕ) → Holds shape (slot_at old k) file k →
        LeavesEither shape (slot_at old k) (slot_at new k) file k
    held_either k h left l = let r = held_reads shape (slot_at old k) file k h left l in (r.0, inl r.1)

-- ---- all are written at once

module _ (shape : Shape) (old new : List Contents) (first count : ℕ) (file file' : FileState)
    (others : (k j : ℕ) → (k < first) ⊎ (first + count ≤ k) → j < slot_bytes shape.page_bytes →
    slot_values shape file' k j ≡ slot_values shape file k j)
    (f : Follows shape old [] [] file) where
  still : (k : ℕ) → k < length old → (k < first) ⊎ (first + count ≤ k) → Holds shape (slot_at old k) file' k
  still k low side = held_same shape (slot_at old k) file k (f.keeps k low refl refl) file'
      (λ j within. others k j side within)

  pub all_torn : ((k : ℕ) → k < length old → first ≤ k → k < first + count →
      IsTurning shape (slot_at old k) (slot_at new k) file' k) → AreWrittenAnew shape old new first (first + count) file'
  all_torn turns = record { inside = turns; outside = still }

  -- or may be
  pub all_lose : IsImage shape old → length file'.values ≡ live_bytes shape →
      ((k : ℕ) → k < length old → first ≤ k → k < first + count →
      LeavesEither shape (slot_at old k) (slot_at new k) file' k) → LosesBetween shape old new file'
  all_lose is long either = lose_between shape old new file' is long
      (λ k low. elim (cases_lt k first) [
        | inl before ↦ held_either k (still k low (inl before))
        | inr after ↦ elim (cases_lt k (first + count)) [
          | inl torn ↦ either k low after torn
          | inr past ↦ held_either k (still k low (inr past))
        ]
      ])
    where
      held_either : (k : ℕ) → Holds shape (slot_at old k) file' k →
          LeavesEither shape (slot_at old k) (slot_at new k) file' k
      held_either k h left l = let r = held_reads shape (slot_at old k) file' k h left l in (r.0, inl r.1)

-- ---- once all are durable

pub cleared : (shape : Shape) (old new : List Contents) (first count : ℕ) (file file' : FileState) →
    IsOpened shape file → Syncs file file' → IsCleared old new first count →
    AreWrittenAnew shape old new first (first + count) file → Follows shape new [] [] file'
cleared shape old new first count file file' o s c t = record {
  keeps = λ k inside none done.
      let low : k < length old = omega (arith, inside, c.lengths) in
      elim (cases_lt k first) [
        | inl before ↦ kept k low (inl before)
        | inr after ↦ elim (cases_lt k (first + count)) [
          | inl torn ↦ turned shape (slot_at old k) (slot_at new k) file file' k o s (t.inside k low after torn)
          | inr past ↦ kept k low (inr past)
        ]
      ];
  waits = λ k inside none wait. absurd (both_ways false refl wait);
  due = λ k inside here. absurd (both_ways false refl here);
}
  where
    kept : (k : ℕ) → k < length old → (k < first) ⊎ (first + count ≤ k) → Holds shape (slot_at new k) file' k
    kept k low side = as_held shape (slot_at old k) (slot_at new k) file' k (sym (c.outside k side))
        (held_synced shape (slot_at old k) file k (t.outside k low side) file' o s)

-- and what a loss leaves then
pub cleared_loses : (shape : Shape) (old new : List Contents) (file : FileState) → IsImage shape old →
    length new ≡ length old → length file.values ≡ live_bytes shape → Follows shape new [] [] file →
    LosesBetween shape old new file
cleared_loses shape old new file is lengths long f = lose_between shape old new file is long
    (λ k low left l.
    let r = held_reads shape (slot_at new k) file k (f.keeps k (omega (arith, lengths, low)) refl refl) left l in
    (r.0, inr r.1))
