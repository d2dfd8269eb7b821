-- The state bytes of a block are written anew.
use Rattle.file_flash.proofs.Common.{ℕ, ◌*◌, ◌<◌, List, refl, sym, subst, inl, inr, Shape, Contents, blank, damaged, IsImage}
use Rattle.tx_types.specs.Config.{blocks_of}
use Rattle.flash_model.specs.declared.outcome.Outcome.{Outcome}
use Rattle.flash_model.specs.declared.outcome.Outcome.TheVariants as outcome
use Rattle.flash_model.specs.Operations.{erase, image_left}
use Rattle.flash_model.proofs.ImageLemmas.{length-with_block, slot_at-with_block_in, slot_at-with_block_out}
use Rattle.file_flash.specs.Clearing.{IsBare, IsCleared}

-- what an erase makes of an image, however it ends
pub erase_clears : (shape : Shape) (image : List Contents) (block : ℕ) (how : Outcome) → IsImage shape image →
    block < blocks_of shape →
    IsCleared image (image_left shape image (erase block) how) (block * shape.pages_per_block) shape.pages_per_block
erase_clears shape image block outcome.None is low = record {
  lengths = refl;
  inside = λ k a b. inl refl;
  outside = λ k side. refl;
}
erase_clears shape image block outcome.All is low = record {
  lengths = length-with_block shape image is block low blank;
  inside = λ k a b. inr (subst IsBare (sym (slot_at-with_block_in shape image is block low blank k a b)) tt);
  outside = λ k side. slot_at-with_block_out shape image is block low blank k side;
}
erase_clears shape image block outcome.Bad is low = record {
  lengths = length-with_block shape image is block low damaged;
  inside = λ k a b. inr (subst IsBare (sym (slot_at-with_block_in shape image is block low damaged k a b)) tt);
  outside = λ k side. slot_at-with_block_out shape image is block low damaged k side;
}
