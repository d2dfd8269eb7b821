-- What a list of operations comes to, and what is done behind it.
use Rattle.std.proofs.Common.{◌≡◌, ℕ, ◌+◌, Bool, true, false, List, [], ◌∷◌, ◌++◌, length, map, refl, ap, sym, ◌∙◌, subst, arith}
use Rattle.std.specs.Prelude.{fold, if◌then◌else◌}
use Rattle.std.proofs.lemmas.List.{length-append, length-map, length-replicate, map-append, append-nil}
use Rattle.std.proofs.lemmas.List.Elements.{All-replicate}
use Rattle.std.proofs.lemmas.List.Sums.{fold-append}
use Rattle.tx_types.specs.Config.{IsShape, slots_of}
use Rattle.tx_types.specs.declared.config.Shape.{Shape}
use Rattle.flash_model.specs.Flash.{blank, counted_by, IsWhole, IsImage}
use Rattle.flash_model.specs.Operations.{Operation, Load, fire, program_of, Moment, CanDo, after}
use Rattle.flash_model.specs.Moves.{Does}
use Rattle.flash_model.proofs.ImageLemmas.{IsImage-does}
use Rattle.flash_model.proofs.MoveLemmas.{Does-append, Does-fire, with_started}
use Rattle.list_flash.specs.declared.entries.Entry.{Entry}
use Rattle.list_flash.specs.Entries.{operation_of, operations_in, Grows}
use Rattle.list_flash.specs.ListFlash.{IsDone}
use Rattle.list_flash.specs.ListFlashState.{blank_moment, moment_after}

-- what was done comes to one moment
Does-is : (shape : Shape) (a b : Moment) (list : List Operation) → Does shape a list b → fold (after shape) a list ≡ b
Does-is shape a b [] does = sym does
Does-is shape a b (o ∷ rest) does = Does-is shape (after shape a o) b rest does.1

-- so the moment after more is the one that these lead to
pub moment_then : (shape : Shape) (operations done : List Operation) (m : Moment)
    → Does shape (moment_after shape operations) done m → moment_after shape (operations ++ done) ≡ m
moment_then shape operations done m does =
    fold-append (after shape) (blank_moment shape) operations done
    ∙ Does-is shape (moment_after shape operations) m done does

-- the operations and more are done where these can be done behind them
pub IsDone-more : (shape : Shape) (operations done : List Operation) (m : Moment) (before cleared programs erases : ℕ)
    → IsDone shape operations before cleared → Does shape (moment_after shape operations) done m
    → programs ≡ m.programs → erases ≡ m.erases → IsDone shape (operations ++ done) programs erases
IsDone-more shape operations done m before cleared programs erases kept does programs_are erases_are =
    let is = moment_then shape operations done m does in
    record {
      bounds = kept.bounds;
      does = subst (Does shape (blank_moment shape) (operations ++ done)) (sym is)
          (Does-append shape (blank_moment shape) (moment_after shape operations) m operations done kept.does does);
      programs = programs_are ∙ ap (λ (m : Moment). m.programs) (sym is);
      erases = erases_are ∙ ap (λ (m : Moment). m.erases) (sym is);
    }

-- what was done leaves an image
pub IsImage-blank : (shape : Shape) → IsShape shape → IsImage shape (blank_moment shape).image
IsImage-blank shape bounds = record {
  bounds = bounds;
  slots = length-replicate (slots_of shape) blank;
  whole = All-replicate (IsWhole shape.page_bytes) (slots_of shape) blank tt;
}

pub IsImage-done : (shape : Shape) (operations : List Operation) (programs erases : ℕ)
    → IsDone shape operations programs erases → IsImage shape (moment_after shape operations).image
IsImage-done shape operations programs erases done =
    IsImage-does shape (blank_moment shape) (moment_after shape operations) operations
    (IsImage-blank shape done.bounds) done.does

-- the programs of a fire, one after another
pub Does-loads : (shape : Shape) (m : Moment) (loads : List Load) → (length loads ≡ 0 → ⊥)
    → CanDo shape m.image (fire loads) → Does shape m (map program_of loads)
    (with_started (after shape m (fire loads)) (counted_by (length loads) m.started))
Does-loads shape m [] some can = absurd (some refl)
Does-loads shape m (load ∷ loads) some can = Does-fire shape m load loads can

-- a list that grew stands for what it stood for and more, and is as much longer
pub operations_grown : (old : List Entry) (done : List Operation) (new : List Entry) → Grows old done new
    → operations_in new ≡ operations_in old ++ done
operations_grown old done new grows =
    ap operations_in grows.items ∙ map-append operation_of old grows.more
    ∙ ap (λ (more : List Operation). operations_in old ++ more) grows.operations

pub length_grown : (old : List Entry) (done : List Operation) (new : List Entry) → Grows old done new
    → length (operations_in old) + length done ≡ length new
length_grown old done new grows =
    let more : length done ≡ length grows.more =
    ap length (sym grows.operations) ∙ length-map grows.more operation_of in
    let all : length new ≡ length old + length grows.more =
    ap length grows.items ∙ length-append old grows.more in
    omega (arith, length-map old operation_of)

-- what the list stands for was done still, once it grew by what can be done
pub IsDone-grown : (shape : Shape) (old new : List Entry) (done : List Operation) (m : Moment)
    (before cleared programs erases : ℕ) → IsDone shape (operations_in old) before cleared → Grows old done new
    → Does shape (moment_after shape (operations_in old)) done m → programs ≡ m.programs → erases ≡ m.erases
    → IsDone shape (operations_in new) programs erases
IsDone-grown shape old new done m before cleared programs erases kept grows does programs_are erases_are =
    subst (λ (operations : List Operation). IsDone shape operations programs erases)
    (sym (operations_grown old done new grows))
    (IsDone-more shape (operations_in old) done m before cleared programs erases kept does programs_are erases_are)

-- and once it grew by nothing
pub IsDone-still : (shape : Shape) (old new : List Entry) (programs erases : ℕ)
    → IsDone shape (operations_in old) programs erases → Grows old [] new
    → IsDone shape (operations_in new) programs erases
IsDone-still shape old new programs erases kept grows =
    IsDone-grown shape old new [] (moment_after shape (operations_in old)) programs erases programs erases kept grows
    refl kept.programs kept.erases

-- where one could be put at the end, or none
pub Grows-one : (is_put : Bool) (old new : List Entry) (e : Entry) → new ≡ (if is_put then old ++ e ∷ [] else old)
    → Grows old (if is_put then operation_of e ∷ [] else []) new
Grows-one true old new e is = record { more = e ∷ []; items = is; operations = refl }
Grows-one false old new e is = record { more = []; items = is ∙ sym (append-nil old); operations = refl }

-- where none was
pub Grows-none : (old new : List Entry) → new ≡ old → Grows old [] new
Grows-none old new is = record { more = []; items = is ∙ sym (append-nil old); operations = refl }

-- a list without entries
pub IsDone-new : (shape : Shape) (entries : List Entry) → IsShape shape → entries ≡ []
    → IsDone shape (operations_in entries) 0 0
IsDone-new shape entries bounds none =
    subst (λ (list : List Entry). IsDone shape (operations_in list) 0 0) (sym none)
    (record { bounds = bounds; does = refl; programs = refl; erases = refl })
