-- The pages of a batch that are taken in, and pages that are taken away, as far as the loops have come.
use Rattle.open_table.proofs.Common.{◌≡◌, ℕ, ◌+◌, ◌<◌, ◌≤◌, List, [], ◌∷◌, ◌++◌, length, map, Bool, Option, None, Some, refl, sym, ap, ◌∙◌, arith, is_none, length-append, take_more, map_push, All-push, Writes, no_write, bytes_in, IndexState, write_held, IsWhole, PendingWrite}
use Rattle.std.proofs.Common.{take, append_assoc}
use Rattle.std.specs.Prelude.{All, Vec, vec_capacity}
use Rattle.std.specs.declared.alloc.Global.{Global}
use Rattle.std.proofs.lemmas.List.{map_more}
use Rattle.std.proofs.lemmas.List.Elements.{All-pop}
use Rattle.tx_types.specs.Batch.{entry_at, contents_of}
use Rattle.tx_types.specs.Entries.{value_if}
use Rattle.open_table.specs.OpenTransactionsState.{next_name}
use Rattle.open_table.specs.PendingWrites.{FreesPages, HasRoom}

-- this many pages of a batch are taken in
pub record HoldsFirst (n : IndexState) (old new : Vec PendingWrite Global) (rooms rooms' : Vec (Vec ℕ Global) Global)
    (batch : Writes) (count : ℕ)
    (held : List PendingWrite) : Type 0 where
  pub behind : new.items ≡ old.items ++ held
  pub writes : map write_held held ≡ take count batch.entries
  pub names : map (λ p. p.name) held ≡ map (next_name n) (take count batch.entries)
  pub whole : All (IsWhole batch.page_bytes) held
  pub fewer : length rooms'.items + length held ≡ length rooms.items
  pub many : length held ≡ count
  pub capacity : vec_capacity old ≤ vec_capacity new
  pub rooms_capacity : vec_capacity rooms' ≡ vec_capacity rooms
  pub sizes : All (λ r. length r.items ≡ batch.page_bytes) rooms'.items

-- the contents of a slot tell the value of which they are, with the flag
pub value_held : (size : ℕ) (value : Option (List ℕ)) (discard : Bool) (bytes : List ℕ) → discard ≡ is_none value →
    bytes ≡ contents_of size value →
    value_if discard bytes ≡ value
value_held size None discard bytes flag is = ap (λ d. value_if d bytes) flag
value_held size (Some its) discard bytes flag is = ap (λ d. value_if d bytes) flag ∙ ap Some is

-- one more page of the batch is taken in
pub holds_more : (n : IndexState) (old pages pages' : Vec PendingWrite Global)
    (rooms rooms' rooms'' : Vec (Vec ℕ Global) Global)
    (batch : Writes) (count : ℕ) (held : List PendingWrite) (room : Vec ℕ Global) (p : PendingWrite) →
    HoldsFirst n old pages rooms rooms' batch count held → count < length batch.entries →
    rooms'.items ≡ rooms''.items ++ room ∷ [] → vec_capacity rooms'' ≡ vec_capacity rooms' →
    pages'.items ≡ pages.items ++ p ∷ [] → vec_capacity pages ≤ vec_capacity pages' →
    p.name ≡ next_name n (entry_at batch count) → p.discard ≡ is_none (entry_at batch count).value →
    p.bytes.items ≡ bytes_in batch.page_bytes (entry_at batch count) → length p.bytes.items ≡ batch.page_bytes →
    HoldsFirst n old pages' rooms rooms'' batch (count + 1) (held ++ p ∷ [])
holds_more n old pages pages' rooms rooms' rooms'' batch count held room p h lt popped kept pushed wide name
    discard bytes whole =
    let push = length-append held (p ∷ []) in
    let pop = length-append rooms''.items (room ∷ []) in
    let less = ap length popped in
    let page = ap (λ x. x.page) name in
    let value = value_held batch.page_bytes (entry_at batch count).value p.discard p.bytes.items discard bytes in
    let written : write_held p ≡ entry_at batch count = rw (page, value) refl in
    record {
      behind = pushed ∙ ap (λ ps. ps ++ p ∷ []) h.behind ∙ append_assoc old.items held (p ∷ []);
      writes = map_push write_held held p
          ∙ rw (h.writes, written) (sym (take_more batch.entries count no_write lt));
      names = map_push (λ p. p.name) held p
          ∙ rw (h.names, name) (sym (map_more (next_name n) batch.entries count no_write lt));
      whole = All-push (IsWhole batch.page_bytes) held p h.whole
          (record { long = whole; bytes = bytes ∙ ap (bytes_in batch.page_bytes) (sym written) });
      fewer = omega (arith, h.fewer);
      many = omega (arith, h.many);
      capacity = omega (arith, h.capacity);
      rooms_capacity = kept ∙ h.rooms_capacity;
      sizes = (All-pop (λ (r : Vec ℕ Global). length r.items ≡ batch.page_bytes) rooms'.items rooms''.items (Some room)
          popped h.sizes).0;
    }

-- one more page is taken away, and its room is free
pub record FreesFirst (old now : Vec PendingWrite Global) (rooms rooms' : Vec (Vec ℕ Global) Global)
    (count : ℕ) : Type 0 where
  pub left : length now.items + count ≡ length old.items
  pub more : length rooms'.items ≡ length rooms.items + count
  pub capacity : vec_capacity now ≡ vec_capacity old
  pub rooms_capacity : vec_capacity rooms ≤ vec_capacity rooms'
  pub sizes : (size : ℕ) → All (HasRoom size) rooms.items → All (IsWhole size) old.items → All (IsWhole size) now.items
      × All (HasRoom size) rooms'.items

pub frees_more : (old pages pages' : Vec PendingWrite Global) (rooms rooms' rooms'' : Vec (Vec ℕ Global) Global)
    (count : ℕ) (p : PendingWrite) →
    FreesFirst old pages rooms rooms' count → pages.items ≡ pages'.items ++ p ∷ [] →
    vec_capacity pages' ≡ vec_capacity pages →
    rooms''.items ≡ rooms'.items ++ p.bytes ∷ [] → vec_capacity rooms' ≤ vec_capacity rooms'' →
    FreesFirst old pages' rooms rooms'' (count + 1)
frees_more old pages pages' rooms rooms' rooms'' count p f popped kept pushed wide =
    let less = ap length popped ∙ length-append pages'.items (p ∷ []) in
    let push = ap length pushed ∙ length-append rooms'.items (p.bytes ∷ []) in
    record {
      left = omega (arith, f.left);
      more = omega (arith, f.more);
      capacity = kept ∙ f.capacity;
      rooms_capacity = omega (arith, f.rooms_capacity);
      sizes = λ size whole old_whole.
          let so = f.sizes size whole old_whole in
          let last = All-pop (IsWhole size) pages.items pages'.items (Some p) popped so.0 in
          (last.0, rw pushed (All-push (HasRoom size) rooms'.items p.bytes so.1 last.1.long));
    }

pub frees_all : (old new : Vec PendingWrite Global) (rooms rooms' : Vec (Vec ℕ Global) Global) →
    FreesFirst old new rooms rooms' (length old.items) →
    FreesPages old new rooms rooms'
frees_all old new rooms rooms' f = record {
  none = empty new.items (omega (arith, f.left));
  more = f.more;
  capacity = f.capacity;
  rooms_capacity = f.rooms_capacity;
  sizes = λ size whole old_whole. (f.sizes size whole old_whole).1;
}
  where
    empty : (ps : List PendingWrite) → length ps ≡ 0 → ps ≡ []
    empty [] none = refl
    empty (p ∷ ps) none = absurd (omega arith)
