-- What a call of the collector leaves of a store's configuration.
use Rattle.tx_engine.proofs.Common.{◌≡◌, ℕ, Bool, true, false, List, length, Result, Ok, Err, refl, sym, ap, ◌∙◌, with_items, Broken, Contents, blank, damaged, complete, slot_at, IndexState, programmed, BlocksState, Unsure, StoreParts, Settlement, settlement}
use Rattle.std.proofs.Common.{if◌then◌else◌, Vec}
use Rattle.std.specs.List.{length_refill}
use Rattle.judged_records.specs.IndexState.{erased, lost}
use Rattle.collector.specs.declared.unsure.Settled.{Settled}
use Rattle.collector.specs.declared.unsure.Unsure.TheVariants as unsure
use Rattle.collector.specs.declared.unsure.Settled.TheVariants as settled
use Rattle.collector.specs.Collecting.{is_blank_block}
use Rattle.collector.specs.Settling.{Settles, own_settled, copy_settled, block_settled, block_reads_as_noted, victim_settled, unchanged}

block_config : (n : IndexState) (block : ℕ) (b : Bool) → (if b then erased n block else lost n block).config ≡ n.config
block_config n block true = refl
block_config n block false = refl

own_config : (n : IndexState) (t : BlocksState) (at : ℕ) (done : IndexState → IndexState) (contents : Contents) →
    (done n).config ≡ n.config →
    (own_settled n t at done contents).noted.config ≡ n.config
own_config n t at done blank e = refl
own_config n t at done damaged e = refl
own_config n t at done (complete bytes spare) e = e

copy_config : (n : IndexState) (from to : ℕ) (contents : Contents) → (copy_settled n from to contents).config ≡ n.config
copy_config n from to blank = refl
copy_config n from to damaged = refl
copy_config n from to (complete bytes spare) = refl

either_config : (b : Bool) (n : IndexState) (x y : Settlement) → x.noted.config ≡ n.config → y.noted.config ≡ n.config →
    (if b then x else y).noted.config ≡ n.config
either_config true n x y ex ey = ex
either_config false n x y ex ey = ey

settled_config : (n : IndexState) (t : BlocksState) (image : List Contents) (u : Unsure) →
    (settlement n t image u).noted.config ≡ n.config
settled_config n t image unsure.Nothing = refl
settled_config n t image (unsure.Own at rec) = own_config n t at.0 (λ m. programmed m at.0 rec)
    (slot_at image at.0) refl
settled_config n t image (unsure.Copy from to) = copy_config n from.0 to.0 (slot_at image to.0)
settled_config n t image unsure.SpareErase =
    either_config (block_reads_as_noted n image t.spare) n (unchanged n t)
    (record { noted = block_settled n image t.spare; table = t; answer = settled.Other }) refl
    (block_config n t.spare (is_blank_block n image t.spare))
settled_config n t image (unsure.VictimErase block) =
    either_config (block_reads_as_noted n image block.0) n (unchanged n t) (victim_settled n t image block.0) refl
    (block_config n block.0 (is_blank_block n image block.0))

-- the configuration stays, whether the place was settled or not
pub same_config : (a b : StoreParts) (r : Result Settled Broken) → Settles a b r → b.noted.config ≡ a.noted.config
same_config a b (Ok answer) h = ap (λ (m : IndexState). m.config) h.found.noted
    ∙ settled_config a.noted a.table a.flash.image a.unsure
same_config a b (Err broken) h = ap (λ (m : IndexState). m.config) h.failed.0

-- a vector has as many items, whatever is written over them
pub as_long : {X Z : Type 0} (v : Vec X Z) (ws : List X) (n : ℕ) → length v.items ≡ n →
    length (with_items v ws).items ≡ n
as_long v ws n long = sym (length_refill v.len v.items ws v.ok.0) ∙ v.ok.0 ∙ long
