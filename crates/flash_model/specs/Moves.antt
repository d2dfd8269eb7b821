-- How a flash gets from one moment to another: by programs and erases, of which at most the last one is broken.
use Rattle.std.specs.Prelude.{◌≡◌, ◌⊎◌, Bool, true, false, ℕ, List, [], ◌∷◌, All}
use Rattle.tx_types.specs.declared.config.Shape.{Shape}
use Rattle.flash_model.specs.Flash.{FlashState}
use Rattle.flash_model.specs.Operations.{Operation, Load, program, erase, fire, Moment, moment_of, CanDo, WorksIn, after, BreaksIn}

-- the operations are done in turn, each where it has what it needs
abbrev pub Does : Shape → Moment → List Operation → Moment → Type 0
Does shape old [] new = new ≡ old
Does shape old (o ∷ rest) new = CanDo shape old.image o × Does shape (after shape old o) rest new

-- a program or an erase, which is started by itself
abbrev pub IsLone : Operation → Type 0
IsLone (program at bytes spare_area) = Unit {0}
IsLone (erase block) = Unit {0}
IsLone (fire loads) = ⊥

-- one more program or erase is started, and broken
abbrev pub LeavesTorn : Shape → Moment → Moment → Type 0
LeavesTorn shape old new = (o : Operation) × IsLone o × CanDo shape old.image o × BreaksIn shape old o new

-- what comes after the operations that were done: nothing, or, where a call was broken, perhaps one that was broken
abbrev pub Ends : Shape → Moment → Bool → Moment → Type 0
Ends shape old false new = new ≡ old
Ends shape old true new = (new ≡ old) ⊎ LeavesTorn shape old new

pub record Moves (shape : Shape) (old : Moment) (broken : Bool) (new : Moment) : Type 0 where
  pub done : List Operation
  pub lone : All IsLone done
  pub between : Moment
  pub does : Does shape old done between
  pub ends : Ends shape between broken new

-- from one state of a flash to another
abbrev pub FlashMoves : FlashState → FlashState → Bool → Type 0
FlashMoves old new broken = Moves old.shape (moment_of old) broken (moment_of new)

-- several programs that were started together: all are done, or each may be broken by itself
abbrev pub FireEnds : Shape → Moment → List Load → Bool → Moment → Type 0
FireEnds shape old loads false new = new ≡ after shape old (fire loads)
FireEnds shape old loads true new = BreaksIn shape old (fire loads) new

-- Operations are done, none of them broken, and then several programs are started together, as one.
pub record Fires (shape : Shape) (old : Moment) (broken : Bool) (new : Moment) : Type 0 where
  pub between : Moment
  pub moves : Moves shape old false between
  pub loads : List Load
  pub can : CanDo shape between.image (fire loads)
  pub ends : FireEnds shape between loads broken new

-- one or the other, where the programs of several transactions may be started together
abbrev pub MovesTogether : Bool → Shape → Moment → Bool → Moment → Type 0
MovesTogether false shape old broken new = Moves shape old broken new
MovesTogether true shape old broken new = Moves shape old broken new ⊎ Fires shape old broken new

-- from one state of a flash to another
abbrev pub FlashMovesTogether : FlashState → FlashState → Bool → Type 0
FlashMovesTogether old new broken = MovesTogether true old.shape (moment_of old) broken (moment_of new)

-- no operation works in this block
abbrev pub StayOff : Shape → ℕ → List Operation → Type 0
StayOff shape block list = All (λ o. WorksIn shape o block → ⊥) list
