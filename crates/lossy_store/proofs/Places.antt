-- What stands at a place of a file, once writes are made.
use Rattle.lossy_store.proofs.Common.{◌≡◌, ℕ, ◌+◌, ◌-◌, ◌<◌, ◌≤◌, Bool, true, false, List, [], ◌∷◌, ◌++◌, length, take, get_or, Option, Some, None, refl, ap, ◌∙◌, arith, unwrap_or, nat_le, values_at, byte_in, byte_over, byte_from, in_front, values_from, file_of, Write}
use Rattle.std.proofs.lemmas.Bool.{le-leb, lt-leb}
use Rattle.std.proofs.lemmas.List.{get_or_past, take_more}
use Rattle.std.proofs.lemmas.List.FromFn.{length-map-range_with_len, get_or-map-range_with_len}
use Rattle.std.proofs.lemmas.Option.{slice_get-get_or, slice_get_past}

-- one write more
byte_from-append : (ws : List Write) (w : Write) (k byte : ℕ) →
    byte_from (ws ++ w ∷ []) k byte ≡ byte_over w k (byte_from ws k byte)
byte_from-append [] w k byte = refl
byte_from-append (x ∷ ws) w k byte = byte_from-append ws w k (byte_over x k byte)

pub byte_from-more : (ws : List Write) (i : ℕ) (d : Write) (k byte : ℕ) → i < length ws →
    byte_from (take (i + 1) ws) k byte ≡ byte_over (get_or ws i d) k (byte_from (take i ws) k byte)
byte_from-more ws i d k byte within =
    ap (λ xs. byte_from xs k byte) (take_more ws i d within) ∙ byte_from-append (take i ws) (get_or ws i d) k byte

pub values_from-append : (ws : List Write) (w : Write) (k : ℕ) (values : List ℕ) →
    values_from (ws ++ w ∷ []) k values ≡ in_front (byte_in w k) (values_from ws k values)
values_from-append [] w k values = refl
values_from-append (x ∷ ws) w k values = values_from-append ws w k (in_front (byte_in x k) values)

-- the newest of the values is the byte that the writes leave
front_of : (o : Option ℕ) (byte : ℕ) (rest : List ℕ) →
    (more : List ℕ) × (in_front o (byte ∷ rest) ≡ unwrap_or o byte ∷ more)
front_of None byte rest = (rest, refl)
front_of (Some b) byte rest = (byte ∷ rest, refl)

pub newest_from : (ws : List Write) (k byte : ℕ) (rest : List ℕ) →
    (more : List ℕ) × (values_from ws k (byte ∷ rest) ≡ byte_from ws k byte ∷ more)
newest_from [] k byte rest = (rest, refl)
newest_from (w ∷ ws) k byte rest =
    let front = front_of (byte_in w k) byte rest in
    let behind = newest_from ws k (byte_over w k byte) front.0 in
    (behind.0, ap (values_from ws k) front.1 ∙ behind.1)

pub take-newest : (ws : List Write) (k byte : ℕ) → take 1 (values_from ws k (byte ∷ [])) ≡ byte_from ws k byte ∷ []
take-newest ws k byte = ap (take 1) (newest_from ws k byte []).1

-- the values of a place within the file, and behind its end
module _ (durable : List ℕ) (ws : List Write) (copies : Bool) where
  pub long : length (file_of durable ws copies).values ≡ length durable
  long = length-map-range_with_len (λ k. values_from ws k (get_or durable k 0 ∷ [])) 0 (length durable)

  pub at_place : (k : ℕ) → k < length durable →
      values_at (file_of durable ws copies) k ≡ values_from ws k (get_or durable k 0 ∷ [])
  at_place k within =
      get_or-map-range_with_len (λ k. values_from ws k (get_or durable k 0 ∷ [])) 0 (length durable) k k [] within
      (omega arith)

  pub past_end : (k : ℕ) → length durable ≤ k → values_at (file_of durable ws copies) k ≡ []
  past_end k behind = get_or_past (file_of durable ws copies).values k [] (omega (arith, long))

-- the byte of a write at one of its places, and elsewhere
pub byte_in-inside : (w : Write) (k : ℕ) → k < length w.bytes.items →
    byte_in w (w.offset + k) ≡ Some (get_or w.bytes.items k 0)
byte_in-inside w k within =
    let over : nat_le w.offset (w.offset + k) ≡ true = le-leb w.offset (w.offset + k) (omega arith) in
    let same : w.offset + k - w.offset ≡ k = omega arith in
    rw (over, same) (slice_get-get_or w.bytes.items k 0 within)

pub byte_in-before : (w : Write) (k : ℕ) → k < w.offset → byte_in w k ≡ None
byte_in-before w k before = let under : nat_le w.offset k ≡ false = lt-leb w.offset k before in rw under refl

pub byte_in-behind : (w : Write) (k : ℕ) → w.offset + length w.bytes.items ≤ k → byte_in w k ≡ None
byte_in-behind w k behind =
    let over : nat_le w.offset k ≡ true = le-leb w.offset k (omega arith) in
    rw over (slice_get_past w.bytes.items (k - w.offset) (omega arith))
