-- The operations that change a flash: what each needs, does, and leaves where it is broken.
use Rattle.std.specs.Prelude.{◌≡◌, ◌≢◌, ℕ, ◌+◌, ◌*◌, ◌/◌, ◌<◌, ◌≤◌, ◌==◌, Bool, true, not, List, [], ◌∷◌, ◌++◌, length, take, drop, replicate, slice_set, All, AllPairs, Any, if◌then◌else◌}
use Rattle.tx_types.specs.Config.{slots_of, blocks_of}
use Rattle.tx_types.specs.Limits.{spare_bytes}
use Rattle.tx_types.specs.declared.config.Shape.{Shape}
use Rattle.flash_model.specs.declared.outcome.Outcome.{Outcome}
use Rattle.flash_model.specs.declared.outcome.Outcome.TheVariants as outcome
use Rattle.flash_model.specs.Flash.{Contents, FlashState, blank, damaged, complete, slot_at, counted, counted_by}

-- a program that is loaded, to be done with others: its slot, a page of contents and a spare area
pub record Load : Type 0 where
  pub at : ℕ
  pub bytes : List ℕ
  pub spare_area : List ℕ

-- a program, an erase, or several programs that are started together
pub data Operation : Type 0 where
  program : (at : ℕ) → (bytes spare_area : List ℕ) → Operation
  erase : (block : ℕ) → Operation
  fire : (loads : List Load) → Operation

-- a loaded program as one that is done by itself
abbrev pub program_of : Load → Operation
program_of load = program load.at load.bytes load.spare_area

-- What a flash holds, how many programs and erases it has counted, and how much it counts as started: without that
-- count a call might count a start that it did not make, and an arm would come at another operation.
pub record Moment : Type 0 where
  pub image : List Contents
  pub programs : ℕ
  pub erases : ℕ
  pub started : ℕ

abbrev pub moment_of : FlashState → Moment
moment_of s = record { image = s.image; programs = s.programs; erases = s.erases; started = s.started }

-- an operation has something to do: each has but a fire of nothing
abbrev pub starts : Operation → Bool
starts (program at bytes spare_area) = true
starts (erase block) = true
starts (fire loads) = not (length loads == 0)

-- how many of these operations are counted as started
abbrev pub starts_in : List Operation → ℕ
starts_in [] = 0
starts_in (o ∷ rest) = (if starts o then 1 else 0) + starts_in rest

-- the first slot after the block that a slot lies in
abbrev pub block_end : Shape → ℕ → ℕ
block_end shape at = (at / shape.pages_per_block + 1) * shape.pages_per_block

-- a slot may be programmed: it exists, and it and all later slots of its block are blank
pub record CanProgram (shape : Shape) (image : List Contents) (at : ℕ) : Type 0 where
  pub in_range : at < slots_of shape
  pub blank_on : (k : ℕ) → at ≤ k → k < block_end shape at → slot_at image k ≡ blank

-- the die that a slot lies in
abbrev pub die_of : Shape → ℕ → ℕ
die_of shape at = at / shape.pages_per_block / shape.blocks_per_die

-- what a program needs: a slot that may be programmed, a page of contents and a spare area
abbrev pub CanLoad : Shape → List Contents → Load → Type 0
CanLoad shape image load =
    CanProgram shape image load.at × (length load.bytes ≡ shape.page_bytes)
    × (length load.spare_area ≡ spare_bytes)

-- what an operation needs: a program that may be done; a block that exists; programs of which each may be done, no two
-- in one die
abbrev pub CanDo : Shape → List Contents → Operation → Type 0
CanDo shape image (program at bytes spare_area) =
    CanLoad shape image (record { at = at; bytes = bytes; spare_area = spare_area })
CanDo shape image (erase block) = block < blocks_of shape
CanDo shape image (fire loads) =
    All (CanLoad shape image) loads
    × AllPairs (λ a b. die_of shape a.at ≢ die_of shape b.at) loads

-- an operation works in this block
abbrev pub WorksIn : Shape → Operation → ℕ → Type 0
WorksIn shape (program at bytes spare_area) block = at / shape.pages_per_block ≡ block
WorksIn shape (erase erased) block = erased ≡ block
WorksIn shape (fire loads) block = Any (λ load. load.at / shape.pages_per_block ≡ block) loads

-- the image with these contents in each slot of a block
abbrev pub with_block : Shape → List Contents → ℕ → Contents → List Contents
with_block shape image block contents =
    take (block * shape.pages_per_block) image ++ replicate shape.pages_per_block contents
    ++ drop ((block + 1) * shape.pages_per_block) image

-- the image where a loaded program ended with this outcome
abbrev pub load_left : List Contents → Load → Outcome → List Contents
load_left image load outcome.None = image
load_left image load outcome.All =
    slice_set image load.at (complete load.bytes load.spare_area)
load_left image load outcome.Bad = slice_set image load.at damaged

-- the image where each of them ended with an outcome of its own
abbrev pub left_each : List Contents → List Load → List Outcome → List Contents
left_each image [] hows = image
left_each image (load ∷ loads) [] = image
left_each image (load ∷ loads) (how ∷ hows) = left_each (load_left image load how) loads hows

-- the image once the operation is done
abbrev pub image_after : Shape → List Contents → Operation → List Contents
image_after shape image (program at bytes spare_area) = slice_set image at (complete bytes spare_area)
image_after shape image (erase block) = with_block shape image block blank
image_after shape image (fire loads) =
    left_each image loads (replicate (length loads) outcome.All)

-- the image where the operation has damaged its slot, or all slots of its block, or the slots of all its programs
abbrev pub image_damaged : Shape → List Contents → Operation → List Contents
image_damaged shape image (program at bytes spare_area) = slice_set image at damaged
image_damaged shape image (erase block) = with_block shape image block damaged
image_damaged shape image (fire loads) =
    left_each image loads (replicate (length loads) outcome.Bad)

-- the image where the operation was broken with this outcome, in all that it has to do
abbrev pub image_left : Shape → List Contents → Operation → Outcome → List Contents
image_left shape image o outcome.None = image
image_left shape image o outcome.All = image_after shape image o
image_left shape image o outcome.Bad = image_damaged shape image o

-- the counts once the operation is done: one program or one erase more, or as many programs as were started together
abbrev pub programs_after : Operation → ℕ → ℕ
programs_after (program at bytes spare_area) count = counted count
programs_after (erase block) count = count
programs_after (fire loads) count = counted_by (length loads) count

abbrev pub erases_after : Operation → ℕ → ℕ
erases_after (program at bytes spare_area) count = count
erases_after (erase block) count = counted count
erases_after (fire loads) count = count

-- the count of what was started, once the operation was: one more, if it has something to do
abbrev pub started_after : Operation → ℕ → ℕ
started_after o count = if starts o then counted count else count

abbrev pub after : Shape → Moment → Operation → Moment
after shape m o = record {
  image = image_after shape m.image o;
  programs = programs_after o m.programs;
  erases = erases_after o m.erases;
  started = started_after o m.started;
}

-- an operation that is done, but for the count of what was started, which is that of its call
pub record Done (shape : Shape) (old : Moment) (o : Operation) (new : Moment) : Type 0 where
  pub image : new.image ≡ image_after shape old.image o
  pub programs : new.programs ≡ programs_after o old.programs
  pub erases : new.erases ≡ erases_after o old.erases

-- what a broken operation may leave: what one of the outcomes says, which is one for each of several programs by itself
abbrev pub MayLeave : Shape → List Contents → Operation → List Contents → Type 0
MayLeave shape old (program at bytes spare_area) new =
    (how : Outcome) × (new ≡ image_left shape old (program at bytes spare_area) how)
MayLeave shape old (erase block) new = (how : Outcome) × (new ≡ image_left shape old (erase block) how)
MayLeave shape old (fire loads) new =
    (hows : List Outcome) × (length hows ≡ length loads) × (new ≡ left_each old loads hows)

-- an operation that is broken leaves what it may leave, and is not counted as done
pub record Torn (shape : Shape) (old : Moment) (o : Operation) (new : Moment) : Type 0 where
  pub left : MayLeave shape old.image o new.image
  pub programs : new.programs ≡ old.programs
  pub erases : new.erases ≡ old.erases

-- an operation that is started and then broken: it is counted as started, as one that is done
abbrev pub BreaksIn : Shape → Moment → Operation → Moment → Type 0
BreaksIn shape old o new = Torn shape old o new × (new.started ≡ started_after o old.started)
