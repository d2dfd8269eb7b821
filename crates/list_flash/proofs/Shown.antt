-- What a slot holds is what the last entry that set it left.
use Rattle.std.proofs.Common.{◌≡◌, ℕ, ◌+◌, ◌*◌, ◌/◌, ◌<◌, ◌≤◌, true, false, List, [], ◌∷◌, length, get_or, take, set, ap, sym, ◌∙◌, subst, arith}
use Rattle.std.specs.Prelude.{◌==◌, fold, if◌then◌else◌}
use Rattle.std.proofs.lemmas.Bool.{cond_both, eqb-true, eqb-false}
use Rattle.std.proofs.lemmas.Nat.{div-add-mod', mod_below}
use Rattle.std.proofs.lemmas.List.{get_or-replicate, get_or-set_same, get_or-set_other}
use Rattle.std.proofs.lemmas.List.Elements.{All-get_or}
use Rattle.std.proofs.lemmas.List.Sums.{fold_more}
use Rattle.tx_types.specs.Config.{slots_of}
use Rattle.tx_types.specs.declared.config.Shape.{Shape}
use Rattle.flash_model.specs.Flash.{Contents, blank, complete, slot_at, IsWhole, IsImage}
use Rattle.flash_model.specs.Operations.{Moment, erase, CanDo, with_block, image_after, after}
use Rattle.flash_model.specs.Moves.{Does}
use Rattle.flash_model.proofs.ImageLemmas.{IsImage-after, slot_at-after, slot_at-with_block_in}
use Rattle.list_flash.specs.declared.entries.Entry.{Entry}
use Rattle.list_flash.specs.declared.entries.Entry.TheVariants.{Program, Erase}
use Rattle.list_flash.specs.Entries.{operation_of, operations_in, sets, leaves, slot_after, contents_in}
use Rattle.list_flash.specs.ListFlash.{IsDone}
use Rattle.list_flash.specs.ListFlashState.{blank_moment, moment_after}
use Rattle.list_flash.proofs.Moments.{IsImage-blank, IsImage-done}

-- behind one entry more a slot holds what this left, or what it held before
module _ (shape : Shape) (at : ℕ) (list : List Entry) (i : ℕ) (e : Entry) (within : i < length list)
    (is : e ≡ get_or list i e) where
  abbrev before : Contents
  before = contents_in shape (take i list) at

  more : contents_in shape (take (i + 1) list) at ≡ slot_after shape at before e
  more = fold_more (slot_after shape at) blank list i e within ∙ ap (slot_after shape at before) (sym is)

  pub contents-set : sets shape at e ≡ true → contents_in shape (take (i + 1) list) at ≡ leaves e
  contents-set is_set = more ∙ ap (λ b. if b then leaves e else before) is_set

  pub contents-unset : sets shape at e ≡ false → contents_in shape (take (i + 1) list) at ≡ before
  contents-unset is_not = more ∙ ap (λ b. if b then leaves e else before) is_not

-- a slot of a block that was erased
erased : (shape : Shape) (image : List Contents) (block at : ℕ) (h : IsImage shape image)
    (can : CanDo shape image (erase block)) → block ≡ at / shape.pages_per_block
    → blank ≡ slot_at (with_block shape image block blank) at
erased shape image block at h can same =
    let per = shape.pages_per_block in
    let some : 0 < per = omega (arith, h.bounds.pages_least) in
    let low : block * per ≤ at =
    subst (λ b. b * per ≤ at) (sym same) (omega (arith, div-add-mod' at per)) in
    let high : at < block * per + per =
    subst (λ b. at < b * per + per) (sym same) (omega (arith, div-add-mod' at per, mod_below at per some)) in
    sym (slot_at-with_block_in shape image h block can blank at low high)

-- the operation makes of a slot what its entry says
slot_after_is : (shape : Shape) (image : List Contents) (e : Entry) (at : ℕ) → IsImage shape image
    → CanDo shape image (operation_of e)
    → slot_after shape at (slot_at image at) e ≡ slot_at (image_after shape image (operation_of e)) at
slot_after_is shape image (Program slot page) at h can =
    let new : Contents = complete page.bytes.items page.spare_area in
    cond_both (slot.0 == at) new (slot_at image at) (λ c. c ≡ slot_at (set image slot.0 new) at)
    (λ is. subst (λ k. new ≡ slot_at (set image slot.0 new) k) (eqb-true slot.0 at is)
    (sym (get_or-set_same image slot.0 new blank (omega (arith, h.slots, can.0.in_range)))))
    (λ is. sym (get_or-set_other image slot.0 at new blank (λ same. eqb-false slot.0 at is (sym same))))
slot_after_is shape image (Erase block) at h can =
    cond_both (block.0 == at / shape.pages_per_block) blank (slot_at image at)
    (λ c. c ≡ slot_at (with_block shape image block.0 blank) at)
    (λ is. erased shape image block.0 at h can (eqb-true block.0 (at / shape.pages_per_block) is))
    (λ is. sym (slot_at-after shape image (erase block.0) at h can (eqb-false block.0 (at / shape.pages_per_block) is)))

slot_then : (shape : Shape) (at : ℕ) (entries : List Entry) (a b : Moment) → IsImage shape a.image
    → Does shape a (operations_in entries) b
    → fold (slot_after shape at) (slot_at a.image at) entries ≡ slot_at b.image at
slot_then shape at [] a b h does = ap (λ (m : Moment). slot_at m.image at) (sym does)
slot_then shape at (e ∷ rest) a b h does =
    ap (λ (c : Contents). fold (slot_after shape at) c rest) (slot_after_is shape a.image e at h does.0)
    ∙ slot_then shape at rest (after shape a (operation_of e)) b (IsImage-after shape a.image (operation_of e) h does.0)
    does.1

module _ (shape : Shape) (entries : List Entry) (programs erases at : ℕ)
    (done : IsDone shape (operations_in entries) programs erases) (within : at < slots_of shape) where
  abbrev image : List Contents
  image = (moment_after shape (operations_in entries)).image

  pub contents_are : contents_in shape entries at ≡ slot_at image at
  contents_are =
      ap (λ (c : Contents). fold (slot_after shape at) c entries)
      (sym (get_or-replicate (slots_of shape) at blank blank within))
      ∙ slot_then shape at entries (blank_moment shape) (moment_after shape (operations_in entries))
      (IsImage-blank shape done.bounds) done.does

  -- and it has the right size
  pub IsWhole-contents : IsWhole shape.page_bytes (contents_in shape entries at)
  IsWhole-contents =
      let h = IsImage-done shape (operations_in entries) programs erases done in
      subst (IsWhole shape.page_bytes) (sym contents_are)
      (All-get_or (IsWhole shape.page_bytes) image at blank (omega (arith, h.slots)) h.whole)
