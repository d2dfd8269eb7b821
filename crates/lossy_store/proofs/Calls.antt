-- What the calls of a file do.
use Rattle.lossy_store.proofs.Common.{◌≡◌, ◌⊎◌, ℕ, ◌+◌, ◌<◌, ◌≤◌, Bool, true, false, List, [], ◌∷◌, ◌++◌, length, take, get_or, map, None, Contains, refl, sym, ap, subst, ◌∙◌, inl, inr, arith, cases_lt, FileState, values_at, newest, Writes, MayWrite, Syncs, ReadsFile, byte_in, byte_from, in_front, file_of, Notes, Write}
use Rattle.std.specs.Prelude.{OnOk, OnErr, Result, Ok, Err}
use Rattle.file_flash.specs.declared.store.StoreError.{StoreError}
use Rattle.std.proofs.lemmas.List.{length-map, length-take, get_or-map, get_or-take, ext_get_or}
use Rattle.lossy_store.proofs.Places.{values_from-append, newest_from, long, at_place, past_end, byte_in-inside, byte_in-before, byte_in-behind}

-- one write more
module _ (durable : List ℕ) (ws : List Write) (copies after : Bool) (w : Write) where
  abbrev old : FileState
  old = file_of durable ws copies

  abbrev new : FileState
  new = file_of durable (ws ++ w ∷ []) after

  longs : length new.values ≡ length old.values
  longs = long durable (ws ++ w ∷ []) after ∙ sym (long durable ws copies)

  at_one : (k : ℕ) → k < length durable → values_at new k ≡ in_front (byte_in w k) (values_at old k)
  at_one k within =
      at_place durable (ws ++ w ∷ []) after k within
      ∙ values_from-append ws w k (get_or durable k 0 ∷ [])
      ∙ ap (in_front (byte_in w k)) (sym (at_place durable ws copies k within))

  untouched : (k : ℕ) → byte_in w k ≡ None → values_at new k ≡ values_at old k
  untouched k none = elim (cases_lt k (length durable)) [
    | inl within ↦ at_one k within ∙ ap (λ o. in_front o (values_at old k)) none
    | inr behind ↦ past_end durable (ws ++ w ∷ []) after k behind ∙ sym (past_end durable ws copies k behind)
  ]

  touched : (k : ℕ) → k < length w.bytes.items → w.offset + k < length durable →
      values_at new (w.offset + k) ≡ get_or w.bytes.items k 0 ∷ values_at old (w.offset + k)
  touched k inside within =
      at_one (w.offset + k) within
      ∙ ap (λ o. in_front o (values_at old (w.offset + k))) (byte_in-inside w k inside)

  outside_of : (k : ℕ) → (k < w.offset) ⊎ (w.offset + length w.bytes.items ≤ k) → values_at new k ≡ values_at old k
  outside_of k (inl before) = untouched k (byte_in-before w k before)
  outside_of k (inr behind) = untouched k (byte_in-behind w k behind)

  writes_all : w.offset + length w.bytes.items ≤ length durable → (copies ≡ false → after ≡ false) →
      (length w.bytes.items ≡ length durable → after ≡ false) → Writes w.offset w.bytes.items old new
  writes_all within kept all = record {
    long = longs;
    copies = kept;
    whole = λ same. all (same ∙ long durable ws copies);
    inside = λ k inside. touched k inside (omega arith);
    outside = outside_of;
  }

  writes_part : (bytes : List ℕ) (m : ℕ) → w.bytes.items ≡ take m bytes →
      w.offset + length bytes ≤ length durable → (copies ≡ false → after ≡ false) → MayWrite w.offset bytes old new
  writes_part bytes m part within kept =
      let short : length w.bytes.items ≡ length (take m bytes) = ap length part in
      record {
        long = longs;
        copies = kept;
        inside = λ k inside. elim (cases_lt k (length w.bytes.items)) [
          | inl written ↦ inl (touched k written (omega arith)
              ∙ ap (λ b. b ∷ values_at old (w.offset + k)) (ap (λ bs. get_or bs k 0) part
              ∙ get_or-take m bytes k 0 (omega (arith, length-take m bytes, short))))
          | inr unwritten ↦ inr (untouched (w.offset + k) (byte_in-behind w (w.offset + k) (omega arith)))
        ];
        outside = λ k out. outside_of k (apart k out (omega (arith, length-take m bytes, short)));
      }
    where
      apart : (k : ℕ) → (k < w.offset) ⊎ (w.offset + length bytes ≤ k) → length w.bytes.items ≤ length bytes →
          (k < w.offset) ⊎ (w.offset + length w.bytes.items ≤ k)
      apart k (inl before) less = inl before
      apart k (inr behind) less = inr (omega arith)

-- a write that was noted is done
pub wrote : (durable : List ℕ) (ws vs : List Write) (copies after : Bool) (offset : ℕ) (bytes : List ℕ) →
    Notes offset bytes ws vs → offset + length bytes ≤ length durable → (copies ≡ false → after ≡ false) →
    (length bytes ≡ length durable → after ≡ false) →
    Writes offset bytes (file_of durable ws copies) (file_of durable vs after)
wrote durable ws vs copies after offset bytes n within kept all =
    rw (n.behind, ← n.offset_is, ← n.bytes_are)
    (writes_all durable ws copies after n.write (rw (n.offset_is, n.bytes_are) within) kept (rw n.bytes_are all))

-- or some of its first bytes are written
wrote_part : (durable : List ℕ) (ws vs : List Write) (copies : Bool) (offset : ℕ) (bytes : List ℕ) (m : ℕ) →
    Notes offset (take m bytes) ws vs → offset + length bytes ≤ length durable →
    MayWrite offset bytes (file_of durable ws copies) (file_of durable vs copies)
wrote_part durable ws vs copies offset bytes m n within =
    rw (n.behind, ← n.offset_is)
    (writes_part durable ws copies copies n.write bytes m n.bytes_are (rw n.offset_is within) (λ none. none))

-- or nothing is
wrote_nothing : (file : FileState) (offset : ℕ) (bytes : List ℕ) → MayWrite offset bytes file file
wrote_nothing file offset bytes = record {
  long = refl;
  copies = λ none. none;
  inside = λ k inside. inr refl;
  outside = λ k out. refl;
}

-- or there is no memory to note it
pub wrote_some : (durable : List ℕ) (ws vs : List Write) (copies : Bool) (offset : ℕ) (bytes : List ℕ) (m : ℕ)
    (r : Result (Unit {0}) StoreError) →
    OnOk r (Notes offset (take m bytes) ws vs) → OnErr r (vs ≡ ws) → offset + length bytes ≤ length durable →
    MayWrite offset bytes (file_of durable ws copies) (file_of durable vs copies)
wrote_some durable ws vs copies offset bytes m (Ok done) n same within =
    wrote_part durable ws vs copies offset bytes m n within
wrote_some durable ws vs copies offset bytes m (Err failed) n same within =
    rw same (wrote_nothing (file_of durable ws copies) offset bytes)

-- a sync makes nothing durable while copies may be held
pub synced_nothing : (file : FileState) → file.copies ≡ true → Syncs file file
synced_nothing file held = record {
  long = refl;
  copies = λ none. none;
  newest = λ none k. let both : true ≡ false = sym held ∙ none in cc;
  each = λ k. inr refl;
}

-- bytes as the writes leave them
module _ (durable bytes : List ℕ) (ws : List Write) (copies : Bool) (same : length bytes ≡ length durable)
    (are : (k : ℕ) → k < length durable → get_or bytes k 0 ≡ byte_from ws k (get_or durable k 0)) where
  abbrev file : FileState
  file = file_of durable ws copies

  newest_at : (k : ℕ) → k < length durable → (more : List ℕ) × (values_at file k ≡ get_or bytes k 0 ∷ more)
  newest_at k within =
      let front = newest_from ws k (get_or durable k 0) [] in
      (front.0, at_place durable ws copies k within ∙ front.1 ∙ ap (λ b. b ∷ front.0) (sym (are k within)))

  one_left : (k : ℕ) → values_at (file_of bytes [] copies) k ≡ take 1 (values_at file k)
  one_left k = elim (cases_lt k (length durable)) [
    | inl within ↦ at_place bytes [] copies k (omega arith) ∙ sym (ap (take 1) (newest_at k within).1)
    | inr behind ↦ past_end bytes [] copies k (omega arith) ∙ ap (take 1) (sym (past_end durable ws copies k behind))
  ]

  -- they are durable from now on
  pub synced : Syncs file (file_of bytes [] copies)
  synced = record {
    long = long bytes [] copies ∙ same ∙ sym (long durable ws copies);
    copies = λ none. none;
    newest = λ none k. one_left k;
    each = λ k. inl (one_left k);
  }

  contained : (k : ℕ) → k < length durable → Contains (values_at file k) (get_or bytes k 0)
  contained k within =
      let front = newest_at k within in
      subst (λ values. Contains values (get_or bytes k 0)) (sym front.1) (0, omega arith, refl)

  -- they are read
  pub read_newest : ReadsFile bytes file
  read_newest = record {
    left = record {
      long = same ∙ sym (long durable ws copies);
      each = λ k within. contained k (omega arith);
    };
    read = λ none. ext_get_or 0 bytes (map newest file.values)
        (same ∙ sym (long durable ws copies) ∙ sym (length-map file.values newest))
        (λ k within.
        let low : k < length durable = omega arith in
        sym (get_or-map newest file.values k [] 0 (omega (arith, long durable ws copies))
        ∙ ap newest (newest_at k low).1));
  }
