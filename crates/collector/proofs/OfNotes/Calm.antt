-- Tables that match a flash of which nothing is unsure: their records are those of the image.
use Rattle.collector.proofs.Common.{◌≡◌, ℕ, ◌<◌, refl, sym, ap, ◌∙◌, subst, arith, shape_of, slots_of, FlashState, IsRemovable, dispensable_removable, records_in, found_in, IndexState, pinned_names, BlocksState, Matches, CanSpare, IsNotedAt}
use Rattle.collector.specs.declared.unsure.Unsure.TheVariants as unsure
use Rattle.judged_records.proofs.OfLaws.Mirror.{mirrored}

module _ (s : FlashState) (n : IndexState) (t : BlocksState) (m : Matches s n t unsure.Nothing) where
  pub noted_as_read : (slot : ℕ) → slot < slots_of s.shape → IsNotedAt s.image n slot
  noted_as_read slot within = m.sure slot within refl

  -- the records are those of the image
  pub same_records : found_in n.notes ≡ records_in n.config.protocol s.image
  same_records =
      mirrored n.config.protocol s.image n.notes (m.noted.slots ∙ ap slots_of (sym m.shape) ∙ sym m.flash.slots)
      (λ slot within. noted_as_read slot (omega (arith, m.flash.slots)))

  -- a block that can be spared can be lost
  pub can_lose : (block : ℕ) → CanSpare n block → IsRemovable n.config.protocol (found_in n.notes) n.config.logical
      (shape_of n.config) block
  can_lose block spared =
      dispensable_removable n.config.protocol (found_in n.notes) n.config.logical (pinned_names n.pins)
      (shape_of n.config) block spared

  pub image_can_lose : (block : ℕ) → CanSpare n block →
      IsRemovable n.config.protocol (records_in n.config.protocol s.image) n.config.logical s.shape block
  image_can_lose block spared =
      subst (λ sh. IsRemovable n.config.protocol (records_in n.config.protocol s.image) n.config.logical sh block)
      (sym m.shape)
      (subst (λ l. IsRemovable n.config.protocol l n.config.logical (shape_of n.config) block) same_records
      (can_lose block spared))
