-- A flash is made anew from how its slots read and from their bytes.
use Rattle.desk_tasks.proofs.Common.{◌≡◌, ℕ, suc, ◌*◌, ◌<◌, List, [], ◌∷◌, length, refl, ap, sym, ◌∙◌, arith, Result, Ok, Err, All, Contents, MemFlashState}
use Rattle.std.proofs.Common.{zero, get_or, map, ap₂, length-append}
use Rattle.std.specs.Prelude.{IfOk}
use Rattle.std.specs.List.{flat_map}
use Rattle.std.proofs.lemmas.List.{get_or-map, length-map, length-replicate, replicate-append-replicate}
use Rattle.std.proofs.lemmas.List.Elements.{All-head, All-tail}
use Rattle.list_lemmas.proofs.Chunks.{take_front, drop_front, first_chunk, later_chunk}
use Rattle.flash_model.specs.Flash.{blank, damaged, complete, IsWhole}
use Rattle.flash_model.specs.Calls.{seen_of}
use Rattle.flash_model.specs.declared.flash.Seen.{Seen}
use Rattle.tx_types.specs.declared.config.Shape.{Shape}
use Rattle.tx_types.specs.declared.memory.Memory.{Memory}
use Rattle.tx_types.specs.Config.{slots_of}
use Rattle.mem_flash.specs.MemFlashState.{fresh}
use Rattle.desk_tasks.specs.Keeping.{KeptReply, reply_at, no_entry}
use Rattle.desk_tasks.specs.KeptEntries.{kept_by}
use Rattle.desk_tasks.specs.declared.kept.Entry.{Entry}
use Rattle.mem_flash.specs.Slots.{AreFilled, IsFilled, cell_bytes, cell_of, contents_of, image_of}

cell_length : (n : ℕ) (c : Contents) → IsWhole n c → length (cell_of n c) ≡ cell_bytes n
cell_length n blank h = simp (length-append, length-replicate)
cell_length n damaged h = simp (length-append, length-replicate)
cell_length n (complete bytes spare) h = rw (length-append, h.0, h.1) refl

contents_same : (n : ℕ) (c : Contents) → IsWhole n c → contents_of n (seen_of c) (cell_of n c) ≡ c
contents_same n blank h = refl
contents_same n damaged h = refl
contents_same n (complete bytes spare) h = rw (
  take_front bytes spare n (sym h.0),
  drop_front bytes spare n (sym h.0),
) refl

-- the slots are those that it was made from
pub image_same : (n : ℕ) (image : List Contents) → All (IsWhole n) image →
    image_of n (map seen_of image) (flat_map (cell_of n) image) ≡ image
image_same n [] h = refl
image_same n (c ∷ cs) h =
    let first = All-head (IsWhole n) c cs h in
    let long = sym (cell_length n c first) in
    let rest = flat_map (cell_of n) cs in
    rw (take_front (cell_of n c) rest (cell_bytes n) long, drop_front (cell_of n c) rest (cell_bytes n) long)
    (ap₂ (λ (x : Contents) (xs : List Contents). x ∷ xs) (contents_same n c first)
    (image_same n cs (All-tail (IsWhole n) c cs h)))

is_filled : (n : ℕ) (c : Contents) → IsFilled n (seen_of c) (cell_of n c)
is_filled n blank = replicate-append-replicate n 64 255
is_filled n damaged = replicate-append-replicate n 64 0
is_filled n (complete bytes spare) = tt

-- blank and damaged slots have the bytes that they need
pub are_filled : (n : ℕ) (image : List Contents) → All (IsWhole n) image →
    AreFilled n (map seen_of image) (flat_map (cell_of n) image)
are_filled n [] h k within = absurd (omega arith)
are_filled n (c ∷ cs) h zero within =
    rw (first_chunk (cell_of n c) (flat_map (cell_of n) cs) (cell_bytes n)
    (sym (cell_length n c (All-head (IsWhole n) c cs h))))
    (is_filled n c)
are_filled n (c ∷ cs) h (suc k) within =
    rw (later_chunk (cell_of n c) (flat_map (cell_of n) cs) (cell_bytes n) k
    (sym (cell_length n c (All-head (IsWhole n) c cs h))))
    (are_filled n cs (All-tail (IsWhole n) c cs h) k (omega arith))

-- and there are as many as the slots have
pub cells_long : (n : ℕ) (image : List Contents) → All (IsWhole n) image →
    length (flat_map (cell_of n) image) ≡ length image * cell_bytes n
cells_long n [] h = omega arith
cells_long n (c ∷ cs) h =
    let first = cell_length n c (All-head (IsWhole n) c cs h) in
    let rest = cells_long n cs (All-tail (IsWhole n) c cs h) in
    rw length-append (omega arith)

made_same : (n m : ℕ) (image : List Contents) (seen : List Seen) (cells : List ℕ) → m ≡ n → seen ≡ map seen_of image →
    cells ≡ flat_map (cell_of n) image → All (IsWhole n) image → image_of m seen cells ≡ image
made_same n m image seen cells e f g h = rw (e, f, g) (image_same n image h)

-- a flash that is made of them has these slots
pub copy_is : (n : ℕ) (shape : Shape) (image : List Contents) (seen : List Seen) (cells : List ℕ)
    (result : Result MemFlashState Memory) →
    shape.page_bytes ≡ n → seen ≡ map seen_of image → cells ≡ flat_map (cell_of n) image → All (IsWhole n) image →
    IfOk result (λ f. f ≡ fresh shape (image_of shape.page_bytes seen cells)) → IfOk result (λ copy. copy.image ≡ image)
copy_is n shape image seen cells (Ok f) e g k whole h =
    ap (λ (s : MemFlashState). s.image) h ∙ made_same n shape.page_bytes image seen cells e g k whole
copy_is n shape image seen cells (Err m) e g k whole h = h

-- ---- the entries that are kept

entry_kept : (items : List Entry) (i : ℕ) (e : Entry) → i < length items → e ≡ get_or items i e →
    reply_at (map kept_by items) i ≡ kept_by e
entry_kept items i e within is = get_or-map kept_by items i e no_entry within ∙ ap kept_by (sym is)

-- a moment has the slots of the flash that is kept
pub slots_kept : (items : List Entry) (now : List KeptReply) (i : ℕ) (e : Entry) → map kept_by items ≡ now →
    i < length now →
    e ≡ get_or items i e → length e.flash.image ≡ slots_of e.flash.shape → length (reply_at now i).told.moment.image
    ≡ slots_of e.flash.shape
slots_kept items now i e view within is slots =
    let short : i < length items = let same = ap length view in omega (arith, length-map items kept_by) in
    rw (← view, entry_kept items i e short is) slots
