-- What a loss of power may leave, where a write is kept or a part of it.
use Rattle.lossy_store.proofs.Common.{◌≡◌, ℕ, zero, suc, ◌<◌, Bool, false, List, [], ◌∷◌, length, get_or, set, Option, Some, None, Contains, refl, sym, subst, ◌∙◌, inl, inr, arith, cases_eq, unwrap_or, FileState, values_at, LeavesBytes, byte_in, byte_over, in_front, values_from, file_of, Write}
use Rattle.std.proofs.lemmas.List.{length-set, get_or-set_same, get_or-set_other}
use Rattle.std.proofs.lemmas.List.Elements.{Contains-append_right}
use Rattle.file_flash.specs.Opening.{IsDurable}
use Rattle.lossy_store.proofs.Places.{long, at_place}

contains_first : (x : ℕ) (xs : List ℕ) → Contains (x ∷ xs) x
contains_first x xs = (0, omega arith, refl)

contains_behind : (o : Option ℕ) (values : List ℕ) (x : ℕ) → Contains values x → Contains (in_front o values) x
contains_behind None values x has = has
contains_behind (Some b) values x has = Contains-append_right (b ∷ []) values x has

-- what was one of the values is one still
contains_from : (ws : List Write) (k : ℕ) (values : List ℕ) (x : ℕ) → Contains values x →
    Contains (values_from ws k values) x
contains_from [] k values x has = has
contains_from (w ∷ ws) k values x has =
    contains_from ws k (in_front (byte_in w k) values) x (contains_behind (byte_in w k) values x has)

-- the byte of a write is one of them
contains_written : (ws : List Write) (i : ℕ) (d : Write) (k : ℕ) (values : List ℕ) (x : ℕ) → i < length ws →
    byte_in (get_or ws i d) k ≡ Some x → Contains (values_from ws k values) x
contains_written [] i d k values x within is = absurd (omega arith)
contains_written (w ∷ ws) zero d k values x within is =
    contains_from ws k (in_front (byte_in w k) values) x (rw is (contains_first x values))
contains_written (w ∷ ws) (suc i) d k values x within is =
    contains_written ws i d k (in_front (byte_in w k) values) x (omega arith) is

contains_over : (ws : List Write) (i : ℕ) (d : Write) (k : ℕ) (values : List ℕ) (byte : ℕ) → i < length ws →
    Contains (values_from ws k values) byte →
    Contains (values_from ws k values) (byte_over (get_or ws i d) k byte)
contains_over ws i d k values byte within has = chosen (byte_in (get_or ws i d) k) refl
  where
    chosen : (o : Option ℕ) → byte_in (get_or ws i d) k ≡ o → Contains (values_from ws k values) (unwrap_or o byte)
    chosen None is = has
    chosen (Some x) is = contains_written ws i d k values x within is

set_left : (file : FileState) (left : List ℕ) (at value : ℕ) → LeavesBytes file left →
    Contains (values_at file at) value → LeavesBytes file (set left at value)
set_left file left at value l has =
    let same = length-set left at value in
    record {
      long = same ∙ l.long;
      each = λ k within. elim (cases_eq k at) [
        | inl here ↦ subst (λ j. Contains (values_at file j) (get_or (set left at value) j 0)) (sym here)
            (subst (Contains (values_at file at)) (sym (get_or-set_same left at value 0 (omega (arith, same, here))))
            has)
        | inr there ↦ subst (Contains (values_at file k)) (sym (get_or-set_other left at k value 0 there))
            (l.each k (omega (arith, same)))
      ];
    }

module _ (durable : List ℕ) (ws : List Write) (copies : Bool) where
  -- the durable bytes may be left
  pub durable_left : LeavesBytes (file_of durable ws copies) durable
  durable_left = record {
    long = sym (long durable ws copies);
    each = λ k within. subst (λ values. Contains values (get_or durable k 0))
        (sym (at_place durable ws copies k within))
        (contains_from ws k (get_or durable k 0 ∷ []) (get_or durable k 0) (contains_first (get_or durable k 0) []));
  }

  -- and a byte of a write may be left, too
  pub kept_left : (i : ℕ) (d : Write) (left : List ℕ) (at : ℕ) → i < length ws → at < length left →
      LeavesBytes (file_of durable ws copies) left →
      LeavesBytes (file_of durable ws copies) (set left at (byte_over (get_or ws i d) at (get_or left at 0)))
  kept_left i d left at number within l =
      let low : at < length durable = omega (arith, l.long, long durable ws copies) in
      let place = at_place durable ws copies at low in
      set_left (file_of durable ws copies) left at (byte_over (get_or ws i d) at (get_or left at 0)) l
      (subst (λ values. Contains values (byte_over (get_or ws i d) at (get_or left at 0))) (sym place)
      (contains_over ws i d at (get_or durable at 0 ∷ []) (get_or left at 0) number
      (subst (λ values. Contains values (get_or left at 0)) place (l.each at within))))

-- a file of which all bytes are durable, and no copies are held
pub all_durable : (bytes : List ℕ) → IsDurable bytes (file_of bytes [] false)
all_durable bytes = record { long = long bytes [] false; copies = refl; each = at_place bytes [] false }
