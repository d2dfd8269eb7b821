-- What is written over the bytes of a file.
use Rattle.mem_folder.proofs.Common.{◌≡◌, inl, inr, ℕ, ◌+◌, ◌<◌, List, [], ◌∷◌, ◌++◌, length, take, sym, ap, ◌∙◌, arith, Err, Error, MayHold, newest, filled, overlay}
use Rattle.std.proofs.Common.{◌-◌, min, drop, replicate}
use Rattle.std.proofs.Math.ListN.{get_or-eq_default}
use Rattle.std.proofs.lemmas.List.{get_or-take, get_or-drop, get_or_append_left, get_or-append_right, get_or-replicate, length-append, length-drop, length-take, length-replicate}
use Rattle.std.proofs.lemmas.Bool.{cases_lt}
use Rattle.durable_folder.specs.FolderState.{byte_at}
use Rattle.durable_folder.specs.Calls.{Overlaid, Resized, Written, Lengthened}

filled-length : (size : ℕ) (old : List ℕ) → length (filled size old) ≡ size
filled-length size old =
    let front : length (take size old) ≡ min size (length old) = length-take size old in
    let rest : length (replicate {A = ℕ} (size - length old) 0)
    ≡ size - length old = length-replicate (size - length old) 0 in
    length-append (take size old) (replicate (size - length old) 0) ∙ omega arith

filled-byte : (size : ℕ) (old : List ℕ) (i : ℕ) → i < size → byte_at (filled size old) i ≡ byte_at old i
filled-byte size old i below =
    let front : length (take size old) ≡ min size (length old) = length-take size old in
    elim (cases_lt i (length old)) [
      | inl within ↦ get_or_append_left (take size old) (replicate (size - length old) 0) 0 i (omega arith)
          ∙ get_or-take size old i 0 below
      | inr past ↦
          get_or-append_right (take size old) (replicate (size - length old) 0) (length old) i 0 (omega arith) past
          ∙ get_or-replicate (size - length old) (i - length old) 0 0 (omega arith) ∙ sym (get_or-eq_default old 0 past)
    ]

pub is_resized : (size : ℕ) (old : List ℕ) → Resized size old (filled size old)
is_resized size old = record { whole = filled-length size old; bytes = λ i below. filled-byte size old i below }

pub is_overlaid : (offset : ℕ) (bytes old : List ℕ) → Overlaid offset bytes old (overlay offset bytes old)
is_overlaid offset bytes old =
    let front = filled offset old in
    let rest = drop (offset + length bytes) old in
    let front_length : length front ≡ offset = filled-length offset old in
    let both_length : length (front ++ bytes) ≡ offset + length bytes = length-append front bytes ∙ omega arith in
    let rest_length : length rest ≡ length old - (offset + length bytes) = length-drop (offset + length bytes) old in
    record {
      size = λ _. length-append (front ++ bytes) rest ∙ omega arith;
      within = λ i below.
          get_or_append_left (front ++ bytes) rest 0 (offset + i) (omega arith)
          ∙ get_or-append_right front bytes offset (offset + i) 0 front_length (omega arith)
          ∙ ap (λ j. byte_at bytes j) (omega arith);
      before = λ i below.
          get_or_append_left (front ++ bytes) rest 0 i (omega arith)
          ∙ get_or_append_left front bytes 0 i (omega arith) ∙ filled-byte offset old i below;
      behind = λ i above.
          get_or-append_right (front ++ bytes) rest (offset + length bytes) i 0 both_length above
          ∙ get_or-drop (offset + length bytes) old (i - (offset + length bytes)) 0
          ∙ ap (λ j. byte_at old j) (omega arith);
    }

-- what may be left of some versions may be left of one more
pub holds_more : (v : List ℕ) (vs : List (List ℕ)) (c : List ℕ) → MayHold vs c → MayHold (v ∷ vs) c
holds_more v vs c h = record { blocks = λ k. inr (h.blocks k); least = inr h.least; most = inr h.most }

-- a call that fails changes nothing
pub not_written : (offset : ℕ) (bytes : List ℕ) (error : Error) (vs : List (List ℕ)) →
    Written offset bytes (Err error) vs vs
not_written offset bytes error vs =
    let written = overlay offset bytes (newest [] vs) in
    (written, is_overlaid offset bytes (newest [] vs), λ c h. holds_more written vs c h)

pub not_lengthened : (size : ℕ) (error : Error) (vs : List (List ℕ)) → Lengthened size (Err error) vs vs
not_lengthened size error vs =
    let resized = filled size (newest [] vs) in
    (resized, is_resized size (newest [] vs), λ c h. holds_more resized vs c h)
