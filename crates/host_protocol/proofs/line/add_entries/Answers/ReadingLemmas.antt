-- What reading the words of a line gives.
use Rattle.host_protocol.proofs.Common.{◌≡◌, ℕ, ◌<◌, ◌≤◌, List, [], ◌∷◌, ◌++◌, length, map, Option, Some, None, sym, ap, ◌∙◌, append_assoc, length-append, arith, LineError, Bad, Memory}
use Rattle.std.proofs.lemmas.List.{length-map, map-append}
use Rattle.list_lemmas.proofs.Lists.{none_among}
use Rattle.tx_types.specs.Batch.{PageWrite}
use Rattle.host_protocol.specs.Reading.{Fails}

-- a bad part is none
pub none_where_bad : {Y : Type 0} (e : LineError) (found : Option Y) → e ≡ Bad → Fails e found → found ≡ None
none_where_bad Bad found is h = h
none_where_bad Memory found is h = absurd (cc)

module _ (f : List ℕ → Option PageWrite) (words : List (List ℕ)) (entries : List PageWrite) (rest : List (List ℕ))
    (word : List ℕ) (others : List (List ℕ))
    (read : map f words ≡ map Some entries ++ map f rest) (next : rest ≡ word ∷ others) where
  -- where the next word is no entry, the words are no entries
  pub other_among : f word ≡ None → (writes : List PageWrite) → map f words ≡ map Some writes → ⊥
  other_among none writes same = none_among entries writes (map f others) (sym same ∙ rw (next, none) at read)

  -- and where as many were read as may be, they are more
  pub more_than : (entries_left : ℕ) → entries_left ≤ length entries → (writes : List PageWrite) →
      map f words ≡ map Some writes → entries_left < length writes
  more_than entries_left many writes same =
      let sizes = simp (length-append, length-map) at (ap length (sym same ∙ rw next at read)) in
      omega (arith, sizes)

  -- an entry more is read
  pub read_more : (w : PageWrite) → f word ≡ Some w → map f words ≡ map Some (entries ++ w ∷ []) ++ map f others
  read_more w is = simp (map-append, append_assoc) (rw (next, is) at read)
