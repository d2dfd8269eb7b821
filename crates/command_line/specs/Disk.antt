-- What a call of the program leaves on the disk.
use Rattle.std.specs.Prelude.{◌≡◌, ◌⊎◌, ℕ, Option, None, Some, Result, Ok}
use Rattle.durable_folder.specs.Histories.{History, Rests}
use Rattle.desk_io.specs.Desk.{DeskState, Saves}
use Rattle.desk_io.specs.Disk.{FindsBoth, SavesOnDisk}
use Rattle.desk_io.specs.declared.desk.SinkError.{SinkError}
use Rattle.program_base.specs.Saying.{after_text}
use Rattle.desk_tasks.specs.Request.{Request}
use Rattle.desk_tasks.specs.Ending.{status}
use Rattle.desk_tasks.specs.Gives.{OutputState, SavedFile}
use Rattle.command_line.specs.Top.{Decision, after_save, after_saving}

-- the saving of a file was answered so, if there is one, and else nothing is done
abbrev pub PutsFile : Option SavedFile → Result (Unit {0}) SinkError → DeskState → DeskState → Type 0
PutsFile None result old new = (result ≡ Ok tt) × (new ≡ old)
PutsFile (Some file) result old new = Saves old new file.name file.bytes result

-- what that does to the disk
abbrev pub PutsOnDisk : Option SavedFile → Result (Unit {0}) SinkError → Option History → Option History → Type 0
PutsOnDisk None result = Rests
PutsOnDisk (Some file) result = SavesOnDisk file.name file.bytes result

-- The saving was answered in some way, and nothing has changed since.
abbrev pub TriesOnDisk : Option SavedFile → Option History → Option History → Type 0
TriesOnDisk file first last =
    (mid : Option History) × (result : Result (Unit {0}) SinkError) × PutsOnDisk file result first mid × Rests mid last

-- How what the work gives is saved and said on a desk, by what the desk tells of itself and of its disk. Where that is
-- done, there is a desk in between on which the file is saved and nothing is said yet.
pub data DeliversOnDisk {D : Type 0} (state : D → DeskState) (disk : D → Option History) (given : OutputState)
    (old new : D) (answer : ℕ) : Type 0 where
  Whole : answer ≡ 0 → (mid : D) → state mid ≡ after_save given.saved (state old) →
      PutsOnDisk given.saved (Ok tt) (disk old) (disk mid) → state new ≡ after_text given.text (state mid) →
      Rests (disk mid) (disk new) → DeliversOnDisk state disk given old new answer
  Short : (answer ≡ 5) ⊎ (answer ≡ 6) → TriesOnDisk given.saved (disk old) (disk new) →
      DeliversOnDisk state disk given old new answer

-- How a call ends. Where its ending is decided, by what the desk and its disk had at a name, there is a desk in between
-- on which what the ending gives is saved and nothing is said yet, and from then on nothing changes on the disk. Else a
-- call of the desk failed or memory ran out: nothing has changed on the disk, or what an ending gives was saved or was
-- not.
pub data EndsOnDisk {D : Type 0} (state : D → DeskState) (disk : D → Option History) (task : Option Request)
    (old new : D) (answer : ℕ) : Type 0 where
  Done : (it : Decision task (FindsBoth (state old) (disk old))) → answer ≡ status it.ending → (mid : D) →
      state mid ≡ after_saving (state old) it →
      PutsOnDisk it.given.saved (Ok tt) (disk old) (disk mid) → state new ≡ after_text it.given.text (state mid) →
      Rests (disk mid) (disk new) → EndsOnDisk state disk task old new answer
  Stopped : (answer ≡ 5) ⊎ (answer ≡ 6) →
      Rests (disk old) (disk new) ⊎ ((it : Decision task (FindsBoth (state old) (disk old)))
      × TriesOnDisk it.given.saved (disk old) (disk new)) →
      EndsOnDisk state disk task old new answer
