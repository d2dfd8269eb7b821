-- How a call of the program ends on the disk.
use Rattle.std.proofs.Common.{◌≡◌, ◌⊎◌, inl, inr, ℕ, List, Option, None, Some, Result, Ok, Err, refl, ap, sym, ◌∙◌}
use Rattle.std.specs.Prelude.{IfOk, String, string_bytes}
use Rattle.std.specs.Global.{Global}
use Rattle.std.specs.declared.alloc.AllocError.{AllocError}
use Rattle.durable_folder.specs.Histories.{History, Rests}
use Rattle.durable_folder.proofs.Leading.{saves_after}
use Rattle.durable_folder.proofs.Learning.{rests_known, rests_then}
use Rattle.desk_io.specs.Desk.{DeskState}
use Rattle.desk_io.specs.Disk.{FindsBoth}
use Rattle.desk_io.specs.declared.desk.SinkError.{SinkError}
use Rattle.desk_io.specs.declared.desk.SinkError.TheVariants as sink
use Rattle.program_base.specs.Saying.{FaultTold, MemoryTold, Refuses, Speaks}
use Rattle.desk_tasks.specs.Request.{Request}
use Rattle.desk_tasks.specs.Ending.{Ending, status, refusal_line}
use Rattle.desk_tasks.specs.Gives.{OutputState, SavedFile, Gives}
use Rattle.desk_tasks.specs.Stops.{Comes, refused}
use Rattle.desk_tasks.specs.declared.refusal.Refusal.{Refusal}
use Rattle.command_line.specs.Disk.{DeliversOnDisk, Whole, Short, EndsOnDisk, Done, Stopped, PutsFile, PutsOnDisk}
use Rattle.command_line.specs.Top.{Decision, Delivers, after_save}
use Rattle.command_line.proofs.Endings.{refusal_gives}

-- ---- saving and saying

after_put : (file : Option SavedFile) (old mid : DeskState) → PutsFile file (Ok tt) old mid → mid ≡ after_save file old
after_put None old mid puts = puts.1
after_put (Some file) old mid puts = puts

pub delivered : (given : OutputState) (old mid new : DeskState) (answer : ℕ) → PutsFile given.saved (Ok tt) old mid →
    Speaks mid new given.text 0 answer →
    Delivers old new given 0 answer
delivered given old mid new answer puts speaks = inl (rw (after_put given.saved old mid puts) at speaks)

pub met_fault : (given : OutputState) (old mid new : DeskState) (answer : ℕ) →
    PutsFile given.saved (Err sink.Failed) old mid → FaultTold mid new answer →
    Delivers old new given 0 answer
met_fault given old mid new answer puts told = by_file given.saved refl puts
  where
    by_file : (file : Option SavedFile) → given.saved ≡ file → PutsFile file (Err sink.Failed) old mid →
        Delivers old new given 0 answer
    by_file None is puts = absurd (cc)
    by_file (Some file) is puts = inr (inl (mid, rw is puts, told))

pub starved : (given : OutputState) (old mid new : DeskState) (answer : ℕ) →
    PutsFile given.saved (Err sink.Memory) old mid → MemoryTold mid new answer →
    Delivers old new given 0 answer
starved given old mid new answer puts told = by_file given.saved refl puts
  where
    by_file : (file : Option SavedFile) → given.saved ≡ file → PutsFile file (Err sink.Memory) old mid →
        Delivers old new given 0 answer
    by_file None is puts = absurd (cc)
    by_file (Some file) is puts = inr (inr (mid, rw is puts, told))

pub delivered_on_disk : {D : Type 0} (state : D → DeskState) (disk : D → Option History) (given : OutputState)
    (old mid new : D) (answer : ℕ) →
    PutsFile given.saved (Ok tt) (state old) (state mid) → PutsOnDisk given.saved (Ok tt) (disk old) (disk mid) →
    Speaks (state mid) (state new) given.text 0 answer → Rests (disk mid) (disk new) →
    DeliversOnDisk state disk given old new answer
delivered_on_disk state disk given old mid new answer puts kept (inl (said, after)) rests =
    Whole said mid (after_put given.saved (state old) (state mid) puts) kept after rests
delivered_on_disk state disk given old mid new answer puts kept (inr (inl (m, stops, told))) rests =
    Short (inl told.0) (disk mid, Ok tt, kept, rests)
delivered_on_disk state disk given old mid new answer puts kept (inr (inr (m, stops, told))) rests =
    Short (inr told.0) (disk mid, Ok tt, kept, rests)

-- ---- after the work

puts_after : (file : Option SavedFile) (result : Result (Unit {0}) SinkError) (a b c : Option History) → Rests a b →
    PutsOnDisk file result b c →
    PutsOnDisk file result a c
puts_after None result a b c rests puts = rests_then a b c rests puts
puts_after (Some file) (Ok done) a b c rests puts = saves_after (λ s. Unit {0}) file.name file.bytes (Ok done) a b c
    (rests_known a b rests) puts
puts_after (Some file) (Err why) a b c rests puts =
    λ error. saves_after (λ s. Unit {0}) file.name file.bytes (Err error) a b c (rests_known a b rests) (puts error)

-- the end after an ending that gives something
pub ends_put : {D : Type 0} (state : D → DeskState) (disk : D → Option History) (task : Option Request)
    (old mid new : D) (ending : Ending) (given : OutputState)
    (answer : ℕ) → Comes task (FindsBoth (state old) (disk old)) (state old) (state mid) ending → Gives ending given →
    status ending ≡ 0 →
    Rests (disk old) (disk mid) →
    DeliversOnDisk state disk given mid new answer → EndsOnDisk state disk task old new answer
ends_put state disk task old mid new ending given answer (loads, is, at) gives zero rested delivers =
    by_delivery delivers
  where
    it : Decision task (FindsBoth (state old) (disk old))
    it = record { ending = ending; loads = loads; given = given; is_ending = is; gives = gives }

    by_delivery : DeliversOnDisk state disk given mid new answer → EndsOnDisk state disk task old new answer
    by_delivery (Whole done put saved kept said rests) =
        Done it (done ∙ sym zero) put (saved ∙ ap (after_save given.saved) at)
        (puts_after given.saved (Ok tt) (disk old) (disk mid) (disk put) rested kept)
        said rests
    by_delivery (Short stopped (m, result, kept, rests)) =
        Stopped stopped (inr (
          it,
          (
            m,
            result,
            puts_after given.saved result (disk old) (disk mid) m rested kept,
            rests,
          ),
        ))

-- the end where nothing is saved
pub ends_rested : {D : Type 0} (state : D → DeskState) (disk : D → Option History) (task : Option Request)
    (old mid new : D) (answer : ℕ) →
    (answer ≡ 5) ⊎ (answer ≡ 6) → Rests (disk old) (disk mid) → Rests (disk mid) (disk new) →
    EndsOnDisk state disk task old new answer
ends_rested state disk task old mid new answer stopped first last =
    Stopped stopped (inl (rests_then (disk old) (disk mid) (disk new) first last))

ends_told : {D : Type 0} (state : D → DeskState) (disk : D → Option History) (task : Option Request) (old mid new : D)
    (r : Refusal) (text : List ℕ)
    (wanted answer : ℕ) → Comes task (FindsBoth (state old) (disk old)) (state old) (state mid) (refused r) →
    text ≡ refusal_line (refused r) →
    wanted ≡ status (refused r) →
    Rests (disk old) (disk mid) → Rests (disk mid) (disk new) → Speaks (state mid) (state new) text wanted answer →
    EndsOnDisk state disk task old new answer
ends_told state disk task old mid new r text wanted answer (loads, is, at) is_line same first last (inl (said, after)) =
    Done it (said ∙ same) mid at first after last
  where
    it : Decision task (FindsBoth (state old) (disk old))
    it = record {
      ending = refused r;
      loads = loads;
      given = record { saved = None; text = text };
      is_ending = is;
      gives = refusal_gives r text is_line;
    }
ends_told state disk task old mid new r text wanted answer comes is_line same first last (inr (inl (m, stops, told))) =
    ends_rested state disk task old mid new answer (inl told.0) first last
ends_told state disk task old mid new r text wanted answer comes is_line same first last (inr (inr (m, stops, told))) =
    ends_rested state disk task old mid new answer (inr told.0) first last

-- the end after a refusal
pub ends_unput : {D : Type 0} (state : D → DeskState) (disk : D → Option History) (task : Option Request)
    (old mid new : D) (r : Refusal)
    (line : Result (String Global) AllocError) (wanted answer : ℕ) →
    Comes task (FindsBoth (state old) (disk old)) (state old) (state mid) (refused r) →
    IfOk line (λ l. string_bytes l ≡ refusal_line (refused r)) → wanted ≡ status (refused r) →
    Refuses (state mid) (state new) line wanted answer →
    Rests (disk old) (disk mid) → Rests (disk mid) (disk new) → EndsOnDisk state disk task old new answer
ends_unput state disk task old mid new r (Ok text) wanted answer comes is_line same speaks first last =
    ends_told state disk task old mid new r (string_bytes text) wanted answer comes is_line same first last speaks
ends_unput state disk task old mid new r (Err none) wanted answer comes is_line same told first last =
    ends_rested state disk task old mid new answer (inr told.0) first last
