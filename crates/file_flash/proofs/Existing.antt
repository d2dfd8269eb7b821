-- Bytes that are read, states of a file after a write and after a sync, and small examples.
use Rattle.file_flash.proofs.Common.{◌≡◌, ◌≢◌, ◌⊎◌, ℕ, zero, suc, ◌+◌, ◌<◌, ◌≤◌, true, false, List, [], ◌∷◌, length, take, get_or, map, All, Contains, refl, sym, ap, subst, ◌∙◌, inl, inr, arith, blank, damaged, FileState, LeavesBytes, Writes, Syncs, ReadsFile, IsWithout, IsBetween}
use Rattle.std.proofs.lemmas.List.{length-map, get_or-map, get_or_past}
use Rattle.std.proofs.lemmas.Bool.{cases_lt, both_ways}
use Rattle.std.proofs.lemmas.List.Elements.{All-get_or}
use Rattle.list_lemmas.proofs.Membership.{Contains-one, Contains-first}
use Rattle.file_flash.specs.Files.{newest}
use Rattle.file_flash.specs.LossExamples.{three, three_written, three_synced, three_copied, first_slot, second_slot, slot_0, slot_1}

-- each byte in front of the values of its place
write_values : ℕ → List ℕ → List (List ℕ) → List (List ℕ)
write_values zero [] all = all
write_values zero (b ∷ bytes) [] = []
write_values zero (b ∷ bytes) (values ∷ all) = (b ∷ values) ∷ write_values zero bytes all
write_values (suc n) bytes [] = []
write_values (suc n) bytes (values ∷ all) = values ∷ write_values n bytes all

length-write_values : (n : ℕ) (bytes : List ℕ) (all : List (List ℕ)) → length (write_values n bytes all) ≡ length all
unfolding write_values
length-write_values zero [] all = refl
length-write_values zero (b ∷ bytes) [] = refl
length-write_values zero (b ∷ bytes) (values ∷ all) = ap suc (length-write_values zero bytes all)
length-write_values (suc n) bytes [] = refl
length-write_values (suc n) bytes (values ∷ all) = ap suc (length-write_values n bytes all)

written_inside : (n k : ℕ) (bytes : List ℕ) (all : List (List ℕ)) → n + length bytes ≤ length all → k < length bytes →
    get_or (write_values n bytes all) (n + k) [] ≡ get_or bytes k 0 ∷ get_or all (n + k) []
unfolding write_values
written_inside zero k [] all room low = absurd (omega arith)
written_inside zero k (b ∷ bytes) [] room low = absurd (omega arith)
written_inside zero zero (b ∷ bytes) (values ∷ all) room low = refl
written_inside zero (suc k) (b ∷ bytes) (values ∷ all) room low =
    let here : zero + suc k ≡ suc k = omega arith in
    let there : zero + k ≡ k = omega arith in
    rw here (rw there at (written_inside zero k bytes all (omega arith) (omega arith)))
written_inside (suc n) k bytes [] room low = absurd (omega arith)
written_inside (suc n) k bytes (values ∷ all) room low =
    let next : suc n + k ≡ suc (n + k) = omega arith in
    rw next (written_inside n k bytes all (omega arith) low)

written_outside : (n k : ℕ) (bytes : List ℕ) (all : List (List ℕ)) → (k < n) ⊎ (n + length bytes ≤ k) →
    get_or (write_values n bytes all) k [] ≡ get_or all k []
unfolding write_values
written_outside zero k [] all side = refl
written_outside zero k (b ∷ bytes) [] side = refl
written_outside zero zero (b ∷ bytes) (values ∷ all) side =
    absurd (elim side [ inl e ↦ omega (arith, e) | inr e ↦ omega (arith, e) ])
written_outside zero (suc k) (b ∷ bytes) (values ∷ all) side =
    written_outside zero k bytes all (elim side [ inl e ↦ inl (omega (arith, e)) | inr e ↦ inr (omega (arith, e)) ])
written_outside (suc n) k bytes [] side = refl
written_outside (suc n) zero bytes (values ∷ all) side = refl
written_outside (suc n) (suc k) bytes (values ∷ all) side =
    written_outside n k bytes all (elim side [ inl e ↦ inl (omega (arith, e)) | inr e ↦ inr (omega (arith, e)) ])

pub writes_exist : (offset : ℕ) (bytes : List ℕ) (old : FileState) → offset + length bytes ≤ length old.values →
    (new : FileState) × Writes offset bytes old new
writes_exist offset bytes old room = (
  record { values = write_values offset bytes old.values; copies = false },
  record {
    long = length-write_values offset bytes old.values;
    copies = λ none. refl;
    whole = λ all. refl;
    inside = λ k low. written_inside offset k bytes old.values room low;
    outside = λ k side. written_outside offset k bytes old.values side;
  },
)

-- the newest is one of them
newest_one : (values : List ℕ) → values ≢ [] → Contains values (newest values)
newest_one [] some = absurd (some refl)
newest_one (value ∷ values) some = Contains-first value values

pub reads_exist : (file : FileState) → All (λ values. values ≢ []) file.values → (bytes : List ℕ) × ReadsFile bytes file
reads_exist file some = (
  map newest file.values,
  record {
    left = record {
      long = length-map file.values newest;
      each = λ k within.
          let low : k < length file.values = omega (arith, length-map file.values newest) in
          subst (Contains (get_or file.values k [])) (sym (get_or-map newest file.values k [] 0 low))
          (newest_one (get_or file.values k [])
          (All-get_or (λ values. values ≢ []) file.values k [] low some));
    };
    read = λ none. refl;
  },
)

take_at_map : (all : List (List ℕ)) (k : ℕ) → get_or (map (take 1) all) k [] ≡ take 1 (get_or all k [])
take_at_map all k = elim (cases_lt k (length all)) [
  | inl low ↦ get_or-map (take 1) all k [] [] low
  | inr past ↦ get_or_past (map (take 1) all) k [] (omega (arith, length-map all (take 1)))
      ∙ ap (take 1) (sym (get_or_past all k [] past))
]

pub syncs_exist : (old : FileState) → (new : FileState) × Syncs old new
syncs_exist old = (
  record { values = map (take 1) old.values; copies = false },
  record {
    long = length-map old.values (take 1);
    copies = λ none. refl;
    newest = λ none k. take_at_map old.values k;
    each = λ k. inl (take_at_map old.values k);
  },
)

write_inside : (k : ℕ) → k < 1 → get_or three_written.values (1 + k) [] ≡ get_or (9 ∷ []) k 0
    ∷ get_or three.values (1 + k) []
write_inside zero low = refl
write_inside (suc k) low = absurd (omega arith)

write_outside : (k : ℕ) → (k < 1) ⊎ (2 ≤ k) → get_or three_written.values k [] ≡ get_or three.values k []
write_outside zero side = refl
write_outside (suc zero) side = absurd (elim side [ inl e ↦ omega (arith, e) | inr e ↦ omega (arith, e) ])
write_outside (suc (suc k)) side = refl

pub example_write : Writes 1 (9 ∷ []) three three_written
example_write = record {
  long = refl;
  copies = λ none. refl;
  whole = λ all. refl;
  inside = write_inside;
  outside = write_outside;
}

old_each : (k : ℕ) → k < 3 → Contains (get_or three_written.values k []) (get_or (1 ∷ 2 ∷ 3 ∷ []) k 0)
old_each zero low = (0, omega arith, refl)
old_each (suc zero) low = (1, omega arith, refl)
old_each (suc (suc zero)) low = (0, omega arith, refl)
old_each (suc (suc (suc k))) low = absurd (omega arith)

pub example_old : LeavesBytes three_written (1 ∷ 2 ∷ 3 ∷ [])
example_old = record { long = refl; each = old_each }

new_each : (k : ℕ) → k < 3 → Contains (get_or three_written.values k []) (get_or (1 ∷ 9 ∷ 3 ∷ []) k 0)
new_each zero low = (0, omega arith, refl)
new_each (suc zero) low = (0, omega arith, refl)
new_each (suc (suc zero)) low = (0, omega arith, refl)
new_each (suc (suc (suc k))) low = absurd (omega arith)

pub example_new : LeavesBytes three_written (1 ∷ 9 ∷ 3 ∷ [])
example_new = record { long = refl; each = new_each }

sync_newest : (k : ℕ) → get_or three_synced.values k [] ≡ take 1 (get_or three_written.values k [])
sync_newest zero = refl
sync_newest (suc zero) = refl
sync_newest (suc (suc zero)) = refl
sync_newest (suc (suc (suc k))) = refl

pub example_sync : Syncs three_written three_synced
example_sync = record {
  long = refl;
  copies = λ none. refl;
  newest = λ none k. sync_newest k;
  each = λ k. inl (sync_newest k);
}

pub example_durable : LeavesBytes three_synced (1 ∷ 2 ∷ 3 ∷ []) → ⊥
example_durable l = let same : 9 ≡ 2 = Contains-one 9 2 (l.each 1 (omega arith)) in absurd (omega (arith, same))

pub example_copied : Syncs three_copied three_copied
example_copied = record {
  long = refl;
  copies = λ none. none;
  newest = λ none. absurd (both_ways true none refl);
  each = λ k. inr refl;
}

pub example_read : ReadsFile (1 ∷ 2 ∷ 3 ∷ []) three_copied
example_read = record {
  left = record { long = refl; each = old_each };
  read = λ none. absurd (both_ways true none refl);
}

pub example_without : IsWithout (first_slot ∷ second_slot ∷ []) (slot_0 ∷ slot_1 ∷ []) (blank ∷ second_slot ∷ [])
example_without zero low = inr (refl, refl)
example_without (suc zero) low = inl refl
example_without (suc (suc k)) low = absurd (omega arith)

pub example_stays : IsWithout (first_slot ∷ second_slot ∷ []) (slot_0 ∷ []) (first_slot ∷ blank ∷ []) → ⊥
example_stays h = elim (h 1 (omega arith)) [ inl e ↦ absurd cc | inr e ↦ absurd (let none = e.0 in cc) ]

pub example_between : IsBetween (first_slot ∷ second_slot ∷ []) (blank ∷ blank ∷ []) (blank ∷ second_slot ∷ [])
example_between zero low = inr refl
example_between (suc zero) low = inl refl
example_between (suc (suc k)) low = absurd (omega arith)

pub example_whole : IsBetween (first_slot ∷ second_slot ∷ []) (blank ∷ blank ∷ []) (damaged ∷ second_slot ∷ []) → ⊥
example_whole h = elim (h 0 (omega arith)) [ inl e ↦ absurd cc | inr e ↦ absurd cc ]
