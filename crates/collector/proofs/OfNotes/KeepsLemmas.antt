-- What calls keep, one after the other.
use Rattle.collector.proofs.Common.{◌≡◌, ℕ, ◌<◌, Bool, true, false, List, Ok, Err, Result, refl, sym, ap, ◌∙◌, subst, inl, inr, is_err, blocks_of, Config, Protocol, Shape, Broken, Carries-then, FlashMoves-operates, same_done, Erases, program, erase, moment_of, CanDo, BreaksIn, IsRemovable, records_in, IsSoundImage, Matches, CanSpare, Keeps, KeepsArray, KeepsStore, StoreParts}
use Rattle.flash_model.proofs.CallLemmas.{Carries-nothing}
use Rattle.flash_model.specs.Calls.{Carries}
use Rattle.flash_model.specs.Moves.{FlashMoves}
use Rattle.flash_model.specs.Operations.{after}
use Rattle.flash_model.proofs.MoveLemmas.{FlashMoves-nothing, FlashMoves-then, same_or_broken}
use Rattle.flash_model.proofs.RetireLemmas.{CarriesRetiring-carries}
use Rattle.collector.specs.Retiring.{KeepsRetiring}
use Rattle.collector.specs.SinceErase.{StaysSound, WorksSinceErase, FlashWorksSinceErase}
use Rattle.collector.specs.StoreParts.{IsSure}
use Rattle.collector.proofs.OfCollect.Chains.{HasNoNewRecord-nothing, HasNoNewRecord-then}
use Rattle.collector.proofs.OfNotes.Calm.{image_can_lose}
use Rattle.collector.proofs.OfNotes.Keeping.{preserves_same, preserves_then, keeps_array_same, keeps_array_then}
use Rattle.collector.proofs.OfNotes.SinceErases.{works_to_end, works_nothing, works_program, works_program_torn, works_erase, works_erase_torn, works_then}

-- the image is sound, and it is so once more of it is kept
pub sound_at : (p : Protocol) (a : StoreParts) → IsSure p a →
    IsSoundImage p a.noted.config.logical a.flash.shape a.flash.image
sound_at p a k = subst (λ q. IsSoundImage q a.noted.config.logical a.flash.shape a.flash.image) k.rule k.matches.sound

stays_by : (p : Protocol) (a b : StoreParts) (broken : Bool) → IsSure p a → KeepsStore p a b broken →
    b.flash.shape ≡ a.flash.shape → StaysSound p a.noted.config.logical a.flash.shape a.flash.image b.flash.image
stays_by p a b broken k h shape = record {
  sound = subst (λ (sh : Shape). IsSoundImage p a.noted.config.logical sh b.flash.image) shape
      (subst (λ q. IsSoundImage q a.noted.config.logical b.flash.shape b.flash.image) k.rule
      (subst (λ (x : Config). IsSoundImage x.protocol x.logical b.flash.shape b.flash.image) h.preserves.config
      h.matches.sound));
  keeps = h.array;
}

-- nothing was done
pub keeps_same : (p : Protocol) (a : StoreParts) → IsSure p a → Keeps p a a false
keeps_same p a k = record {
  matches = k.matches;
  preserves = preserves_same a.noted;
  array = keeps_array_same p a.noted.config.logical a.flash.image a.flash.image refl;
  sure = k.nothing;
  others = λ at rec own. (let e = sym k.nothing ∙ own in cc);
  records = HasNoNewRecord-nothing a.noted;
  moves = FlashMoves-nothing a.flash a.flash false refl;
  carries = Carries-nothing a.flash;
  since = works_nothing p a.noted.config.logical a.flash.shape (moment_of a.flash) false (sound_at p a k);
}

-- what is kept of the tables and of the array, and what a call keeps beside that
pub tables_of : (p : Protocol) (a b : StoreParts) (broken : Bool) → Keeps p a b broken → KeepsStore p a b broken
tables_of p a b broken h = record {
  matches = h.matches;
  preserves = h.preserves;
  array = h.array;
  sure = h.sure;
  others = h.others;
  records = h.records;
}

pub keeps_of : (p : Protocol) (a b : StoreParts) (broken : Bool) → KeepsStore p a b broken →
    FlashMoves a.flash b.flash broken → Carries a.flash b.flash broken →
    FlashWorksSinceErase p a.noted.config.logical a.flash b.flash broken → Keeps p a b broken
keeps_of p a b broken h moves carries since = record {
  matches = h.matches;
  preserves = h.preserves;
  array = h.array;
  sure = h.sure;
  others = h.others;
  records = h.records;
  moves = moves;
  carries = carries;
  since = since;
}

-- what an erase keeps of a block that can be spared
pub keeps_erase : (p : Protocol) (a b : StoreParts) → IsSure p a → (block : ℕ) → block < blocks_of a.flash.shape →
    CanSpare a.noted block → (r : Result (Unit {0}) Broken) → Erases a.flash b.flash block r →
    KeepsStore p a b (is_err r) → Keeps p a b (is_err r)
keeps_erase p a b k block exists spared (Ok x) e h =
    keeps_of p a b false h (FlashMoves-operates a.flash b.flash (erase block) (Ok x) tt exists e) e.carries
    (works_erase p a.noted.config.logical a.flash.shape (moment_of a.flash) (moment_of b.flash) block exists
    (same_done a.flash b.flash (erase block) x e) (stays_by p a b false k h e.carries.shape))
keeps_erase p a b k block exists spared (Err x) e h =
    keeps_of p a b true h (FlashMoves-operates a.flash b.flash (erase block) (Err x) tt exists e) e.carries
    (works_erase_torn p a.noted.config.logical a.flash.shape (moment_of a.flash) (moment_of b.flash) block
    (sound_at p a k) exists
    (subst (λ q. IsRemovable q (records_in q a.flash.image) a.noted.config.logical a.flash.shape block) k.rule
    (image_can_lose a.flash a.noted a.table (subst (Matches a.flash a.noted a.table) k.nothing k.matches) block spared))
    (same_or_broken a.flash b.flash (erase block) x e) (stays_by p a b true k h e.carries.shape))

-- what the program of a copy keeps, of which the moments are known
pub keeps_copy : (p : Protocol) (a b : StoreParts) → IsSure p a → (at : ℕ) (bytes spare_area : List ℕ) →
    CanDo a.flash.shape a.flash.image (program at bytes spare_area) → KeepsStore p a b false →
    FlashMoves a.flash b.flash false → Carries a.flash b.flash false →
    moment_of b.flash ≡ after a.flash.shape (moment_of a.flash) (program at bytes spare_area) → Keeps p a b false
keeps_copy p a b k at bytes spare_area can h moves carries done =
    keeps_of p a b false h moves carries
    (works_program p a.noted.config.logical a.flash.shape (moment_of a.flash) (moment_of b.flash) at bytes spare_area
    (sound_at p a k) can done (stays_by p a b false k h carries.shape))

pub keeps_copy_torn : (p : Protocol) (a b : StoreParts) → IsSure p a → (at : ℕ) (bytes spare_area : List ℕ) →
    CanDo a.flash.shape a.flash.image (program at bytes spare_area) → KeepsStore p a b true →
    FlashMoves a.flash b.flash true → Carries a.flash b.flash true →
    BreaksIn a.flash.shape (moment_of a.flash) (program at bytes spare_area) (moment_of b.flash) → Keeps p a b true
keeps_copy_torn p a b k at bytes spare_area can h moves carries breaks =
    keeps_of p a b true h moves carries
    (works_program_torn p a.noted.config.logical a.flash.shape (moment_of a.flash) (moment_of b.flash) at bytes
    spare_area (sound_at p a k) can (inr breaks) (stays_by p a b true k h carries.shape))

-- a read that failed
pub keeps_unread : (p : Protocol) (a b : StoreParts) → IsSure p a → KeepsStore p a b true →
    FlashMoves a.flash b.flash true → Carries a.flash b.flash true → moment_of b.flash ≡ moment_of a.flash →
    Keeps p a b true
keeps_unread p a b k h moves carries same =
    keeps_of p a b true h moves carries
    (works_to_end p a.noted.config.logical a.flash.shape (moment_of a.flash) (moment_of b.flash) true (sound_at p a k)
    (inl same))

-- a call that replaces no block keeps what one keeps that may
pub keeps_retiring : (p : Protocol) (a b : StoreParts) (broken : Bool) → Keeps p a b broken → KeepsRetiring p a b broken
keeps_retiring p a b broken h = record {
  tables = tables_of p a b broken h;
  carries = CarriesRetiring-carries a.flash b.flash broken h.carries;
}

-- what both keep, the whole keeps
pub tables_then : (p : Protocol) (a b c : StoreParts) (broken : Bool) → KeepsStore p a b false →
    KeepsStore p b c broken → KeepsStore p a c broken
tables_then p a b c broken ab bc = record {
  matches = bc.matches;
  preserves = preserves_then a.noted b.noted c.noted ab.preserves bc.preserves;
  array = keeps_array_then p a.noted.config.logical a.flash.image b.flash.image c.flash.image ab.array
      (subst (λ (x : Config). KeepsArray p x.logical b.flash.image c.flash.image) ab.preserves.config bc.array);
  sure = bc.sure;
  others = bc.others;
  records = HasNoNewRecord-then a.noted b.noted c.noted ab.records bc.records;
}

pub keeps_then : (p : Protocol) (a b c : StoreParts) (broken : Bool) → Keeps p a b false → Keeps p b c broken →
    Keeps p a c broken
keeps_then p a b c broken ab bc =
    keeps_of p a c broken (tables_then p a b c broken (tables_of p a b false ab) (tables_of p b c broken bc))
    (FlashMoves-then a.flash b.flash c.flash broken ab.carries.shape ab.moves bc.moves)
    (Carries-then a.flash b.flash c.flash broken ab.carries bc.carries)
    (works_then p a.noted.config.logical a.flash.shape (moment_of a.flash) (moment_of b.flash) (moment_of c.flash)
    broken ab.moves ab.since
    (subst (λ (x : Config). WorksSinceErase p x.logical a.flash.shape (moment_of b.flash) broken (moment_of c.flash))
    ab.preserves.config
    (subst (λ (sh : Shape). WorksSinceErase p b.noted.config.logical sh (moment_of b.flash) broken (moment_of c.flash))
    ab.carries.shape bc.since)))

-- and nothing is unsure between the two
pub sure_then : (p : Protocol) (a b : StoreParts) → IsSure p a → Keeps p a b false → IsSure p b
sure_then p a b k ab = record {
  matches = ab.matches;
  rule = ap (λ (x : Config). x.protocol) ab.preserves.config ∙ k.rule;
  nothing = ab.sure;
}

-- what is so of each error is so of a result that is one
pub by_err : {X : Type 0} (r : Result X Broken) (P : Result X Broken → Type 0) → is_err r ≡ true →
    ((x : Broken) → P (Err x)) → P r
by_err (Ok x) P e h = absurd (let k = e in cc)
by_err (Err x) P e h = h x
