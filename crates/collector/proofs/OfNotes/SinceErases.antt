-- What is durable over one call after the other, and where a program or an erase is done or broken.
use Rattle.collector.proofs.Common.{◌≡◌, ◌⊎◌, ℕ, ◌<◌, Bool, true, false, List, [], ◌∷◌, ◌++◌, All, refl, sym, ap, ◌∙◌, subst, inl, inr, blocks_of, Protocol, Shape, Contents, IsRemovable, IsSoundImage, records_in, Does, Moment, Operation, program, erase, CanDo, BreaksIn, KeepsArray}
use Rattle.std.proofs.lemmas.List.Elements.{All-nil, All-cons, All-append}
use Rattle.flash_model.specs.Moves.{Moves}
use Rattle.flash_model.specs.Operations.{after}
use Rattle.flash_model.proofs.MoveLemmas.{Does-append, Moves-nothing, Moves-then}
use Rattle.collector.specs.SinceErase.{IsProgram, EndsInErase, StaysSound, EndsTorn, WorksSinceErase}
use Rattle.collector.proofs.OfNotes.Keeping.{keeps_array_itself, keeps_array_then}

module _ (p : Protocol) (logical : ℕ) (shape : Shape) where
  stays_itself : (a : List Contents) → IsSoundImage p logical shape a → StaysSound p logical shape a a
  stays_itself a sound = record { sound = sound; keeps = keeps_array_itself p logical a }

  stays_then : (a b c : List Contents) → StaysSound p logical shape a b → StaysSound p logical shape b c →
      StaysSound p logical shape a c
  stays_then a b c ab bc =
      record { sound = bc.sound; keeps = keeps_array_then p logical a b c ab.keeps bc.keeps }

  none_alone : All IsProgram []
  none_alone = All-nil IsProgram

  ends_nothing : (m : Moment) (broken : Bool) → EndsTorn p logical shape m broken m
  ends_nothing m true = inl refl
  ends_nothing m false = refl

  -- nothing was done, or that is how it ends
  pub works_to_end : (m m' : Moment) (broken : Bool) → IsSoundImage p logical shape m.image →
      EndsTorn p logical shape m broken m' → WorksSinceErase p logical shape m broken m'
  works_to_end m m' broken sound ends = record {
    base = m;
    durable = inl refl;
    before = stays_itself m.image sound;
    programs = [];
    alone = none_alone;
    between = m;
    does = refl;
    stays = stays_itself m.image sound;
    ends = ends;
  }

  pub works_nothing : (m : Moment) (broken : Bool) → IsSoundImage p logical shape m.image →
      WorksSinceErase p logical shape m broken m
  works_nothing m broken sound = works_to_end m m broken sound (ends_nothing m broken)

  -- a program was done, which keeps the array
  pub works_program : (m m' : Moment) (at : ℕ) (bytes spare_area : List ℕ) → IsSoundImage p logical shape m.image →
      CanDo shape m.image (program at bytes spare_area) → m' ≡ after shape m (program at bytes spare_area) →
      StaysSound p logical shape m.image m'.image → WorksSinceErase p logical shape m false m'
  works_program m m' at bytes spare_area sound can done stays = record {
    base = m;
    durable = inl refl;
    before = stays_itself m.image sound;
    programs = program at bytes spare_area ∷ [];
    alone = All-cons IsProgram (program at bytes spare_area) [] tt none_alone;
    between = m';
    does = (can, done);
    stays = stays;
    ends = refl;
  }

  -- it was broken, or power was off
  pub works_program_torn : (m m' : Moment) (at : ℕ) (bytes spare_area : List ℕ) →
      IsSoundImage p logical shape m.image → CanDo shape m.image (program at bytes spare_area) →
      (m' ≡ m) ⊎ BreaksIn shape m (program at bytes spare_area) m' → StaysSound p logical shape m.image m'.image →
      WorksSinceErase p logical shape m true m'
  works_program_torn m m' at bytes spare_area sound can (inl same) stays = works_to_end m m' true sound (inl same)
  works_program_torn m m' at bytes spare_area sound can (inr breaks) stays =
      works_to_end m m' true sound (inr (inl (record {
        at = at;
        bytes = bytes;
        spare_area = spare_area;
        can = can;
        breaks = breaks;
        stays = stays;
      })))

  -- a block was erased that could be removed
  pub works_erase : (m m' : Moment) (block : ℕ) → block < blocks_of shape →
      m' ≡ after shape m (erase block) → StaysSound p logical shape m.image m'.image →
      WorksSinceErase p logical shape m false m'
  works_erase m m' block exists done stays = record {
    base = m';
    durable = inr (m, Moves-nothing shape m false, block, exists, done);
    before = stays;
    programs = [];
    alone = none_alone;
    between = m';
    does = refl;
    stays = stays_itself m'.image stays.sound;
    ends = refl;
  }

  -- that was broken, or power was off
  pub works_erase_torn : (m m' : Moment) (block : ℕ) → IsSoundImage p logical shape m.image →
      block < blocks_of shape → IsRemovable p (records_in p m.image) logical shape block →
      (m' ≡ m) ⊎ BreaksIn shape m (erase block) m' → StaysSound p logical shape m.image m'.image →
      WorksSinceErase p logical shape m true m'
  works_erase_torn m m' block sound exists removable (inl same) stays = works_to_end m m' true sound (inl same)
  works_erase_torn m m' block sound exists removable (inr breaks) stays =
      works_to_end m m' true sound (inr (inr (record {
        block = block;
        exists = exists;
        removable = removable;
        breaks = breaks;
        stays = stays;
      })))

  -- One call after the other. The second one's last erase is that of both, if it has one.
  module _ (a b c : Moment) (broken : Bool) (moved : Moves shape a false b)
      (first : WorksSinceErase p logical shape a false b) (second : WorksSinceErase p logical shape b broken c) where
    -- from the first one's last erase to its end
    stays_first : StaysSound p logical shape first.base.image b.image
    stays_first = subst (λ (m : Moment). StaysSound p logical shape first.base.image m.image) (sym first.ends)
        first.stays

    behind : second.base ≡ b → WorksSinceErase p logical shape a broken c
    behind same = record {
      base = first.base;
      durable = first.durable;
      before = first.before;
      programs = first.programs ++ second.programs;
      alone = All-append IsProgram first.programs second.programs first.alone second.alone;
      between = second.between;
      does = Does-append shape first.base b second.between first.programs second.programs
          (subst (λ (m : Moment). Does shape first.base first.programs m) (sym first.ends) first.does)
          (subst (λ (m : Moment). Does shape m second.programs second.between) same second.does);
      stays = stays_then first.base.image b.image second.between.image stays_first
          (subst (λ (m : Moment). StaysSound p logical shape m.image second.between.image) same second.stays);
      ends = second.ends;
    }

    pub works_then : WorksSinceErase p logical shape a broken c
    works_then = elim second.durable [
      | inl same ↦ behind same
      | inr erased ↦ record {
        base = second.base;
        durable = inr (
          erased.0,
          Moves-then shape a b erased.0 false moved erased.1,
          erased.2,
          erased.3,
          erased.4,
        );
        before = stays_then a.image b.image second.base.image
            (stays_then a.image first.base.image b.image first.before stays_first) second.before;
        programs = second.programs;
        alone = second.alone;
        between = second.between;
        does = second.does;
        stays = second.stays;
        ends = second.ends;
      }
    ]
