-- What the calls among themselves ask for and do by which several open transactions go on at once.
use Rattle.std.specs.Prelude.{◌≡◌, ◌≢◌, ◌⊎◌, ℕ, ◌+◌, ◌<◌, ◌≤◌, true, false, List, [], ◌∷◌, length, take, count_by, None, Ok, Err, Result, IfOk}
use Rattle.std.specs.Prelude.{OnOk, OnErr}
use Rattle.std.specs.List.{flat_map}
use Rattle.std.specs.Prelude.{All, AllPairs, Option, Bool, ◌&&◌, is_none}
use Rattle.tx_types.specs.Config.{shape_of, slots_of}
use Rattle.tx_types.specs.declared.config.Protocol.{Protocol}
use Rattle.tx_types.specs.declared.config.Shape.{Shape}
use Rattle.tx_types.specs.declared.config.Slot.{Slot}
use Rattle.flash_model.specs.declared.flash.Broken.{Broken}
use Rattle.flash_model.specs.Calls.{Carries, Operates}
use Rattle.flash_model.specs.Firing.{IsFreeAt, loads_in, no_loads, with_load}
use Rattle.flash_model.specs.Flash.{FlashState}
use Rattle.flash_model.specs.Moves.{Does, FlashMovesTogether}
use Rattle.flash_model.specs.Operations.{BreaksIn, CanDo, Load, die_of, fire, moment_of}
use Rattle.page_record.specs.Spelling.{CanBeSpelled, spelling}
use Rattle.judged_records.specs.declared.note.Note.TheVariants as note
use Rattle.judged_records.specs.Images.{IsSoundImage, array_in}
use Rattle.judged_records.specs.Notes.{note_at}
use Rattle.judged_records.specs.IndexState.{IndexState, IsNextRecord, block_to_go, programmed}
use Rattle.die_alloc.specs.BlocksState.{BlocksState, IsFirstFree, IsFree, with_slot}
use Rattle.collector.specs.declared.unsure.Unsure.TheVariants as unsure
use Rattle.array_machine.specs.Batches.{MayTakeEach, is_done}
use Rattle.array_machine.specs.Step.{IsAtLast}
use Rattle.array_machine.specs.declared.answers.Moved.{Moved}
use Rattle.array_machine.specs.declared.answers.Progress.{Progress}
use Rattle.array_machine.specs.declared.answers.Progress.TheVariants as progress
use Rattle.array_machine.specs.ArrayState.{ArrayState, Entry}
use Rattle.tx_engine.specs.Batches.{MayLeaveEach, jobs_of, chosen_in, noted_each, record_due, taken_writes, takes_each, used_each}
use Rattle.tx_engine.specs.Calls.{IsReady, AdvancesTo}
use Rattle.tx_engine.specs.Exits.{Exits, ExitsTogether, MentionsAtMost, VersionsRise}
use Rattle.tx_engine.specs.Held.{AddsNoHeldIn}
use Rattle.open_table.specs.OpenTransactionsState.{OpenTransactionsState, TransactionState, HasLimitsOf, HasPlace, IsDueAt, bytes_due, entries_of, name_due, namings_of, transaction_at, with_transaction, name_at}
use Rattle.tx_engine.specs.Settling.{Counts, CountsOn, must_program, with_next}
use Rattle.tx_engine.specs.DeviceState.{Stands}
use Rattle.tx_engine.specs.StoreState.{StoreState}
use Rattle.tx_engine.specs.Tables.{device_in}
use Rattle.tx_engine.specs.declared.jobs.Job.{Job}

-- The registers of a flash, its state, and the tables

-- only the registers of the flash may have changed
pub record KeepsFlash {F : Type 0} (state : F → FlashState) (old new : StoreState F) : Type 0 where
  pub same : state new.flash ≡ state old.flash
  pub stays : new ≡ record old { flash = new.flash }

-- the registers of the flash are empty, and all else is as before
pub record ClearsRegisters {F : Type 0} (state : F → FlashState) (registers : F → List (Option Load))
    (old new : StoreState F) : Type 0 where
  pub empty : registers new.flash ≡ no_loads (state old.flash).shape
  pub keeps : KeepsFlash state old new

-- the program of a record with its page's bytes
abbrev pub load_of : IndexState → Job → List ℕ → Load
load_of n job bytes = record {
  at = job.slot.0;
  bytes = bytes;
  spare_area = spelling n.config.protocol job.rec;
}

-- the program of a record may be loaded: its slot exists, and the register of that slot's die is empty
pub record CanLoadJob {F : Type 0} (state : F → FlashState) (registers : F → List (Option Load))
    (s : StoreState F) (job : Job) (bytes : List ℕ) : Type 0 where
  pub exists : job.slot.0 < slots_of (state s.flash).shape
  pub page : length bytes ≡ (state s.flash).shape.page_bytes
  pub free : IsFreeAt (state s.flash).shape (registers s.flash) job.slot.0
  pub spelled : CanBeSpelled s.noted.config.protocol job.rec

-- it is loaded, and all else is as before
pub record LoadsJob {F : Type 0} (state : F → FlashState) (registers : F → List (Option Load))
    (old new : StoreState F) (job : Job) (bytes : List ℕ) : Type 0 where
  pub loaded : registers new.flash
      ≡ with_load (state old.flash).shape (registers old.flash) (load_of old.noted job bytes)
  pub keeps : KeepsFlash state old new

-- the programs that are loaded were done, or broken each by itself; the tables stay
pub record FiresStored {F : Type 0} (state : F → FlashState) (registers : F → List (Option Load))
    (old new : StoreState F) (result : Result (Unit {0}) Broken) : Type 0 where
  pub fires : Operates (state old.flash) (state new.flash) (fire (loads_in (registers old.flash))) result
  pub stays : new ≡ record old { flash = new.flash }

-- the record of a program may be noted
pub record CanNoteJob (n : IndexState) (t : BlocksState) (job : Job) : Type 0 where
  pub exists : job.slot.0 < slots_of (shape_of n.config)
  pub was : note_at n.notes job.slot.0 ≡ note.Blank
  pub asked : IsNextRecord n job.rec
  pub free : IsFree t job.slot.0

-- the next page of a transaction is to be written, as far as is kept of it, and no record must go before
abbrev pub is_due_clear : IndexState → TransactionState → Bool
is_due_clear n o =
    let name = name_at o.naming o.entry.done in
    must_program o && is_none (block_to_go n name.page name.version)

-- The programs of the first transactions, from an index on: one for each record

-- what is loaded for these records
abbrev pub loads_for : IndexState → OpenTransactionsState → ℕ → List Job → List Load
loads_for n O i [] = []
loads_for n O i (job ∷ jobs) = load_of n job (bytes_due O i) ∷ loads_for n O (i + 1) jobs

-- the next record of each of them is noted: with its last one a transaction is whole
abbrev pub nexts_noted : ℕ → List Job → OpenTransactionsState → OpenTransactionsState
nexts_noted i [] O = O
nexts_noted i (job ∷ jobs) O = nexts_noted (i + 1) jobs (with_transaction O i (with_next (transaction_at O i)))

-- a transaction's next page is to be written in a slot that may be programmed; nothing must go before
pub record IsJobDue (n : IndexState) (t : BlocksState) (O : OpenTransactionsState) (i : ℕ) (job : Job) : Type 0 where
  pub due : IsDueAt O i
  pub clear : block_to_go n (name_due O i).page (name_due O i).version ≡ None
  pub its : job.rec ≡ record_due n (transaction_at O i)
  pub first : IsFirstFree t job.slot.0

abbrev pub AreJobsDue : IndexState → BlocksState → OpenTransactionsState → ℕ → List Job → Type 0
AreJobsDue n t O i [] = Unit {0}
AreJobsDue n t O i (job ∷ jobs) = IsJobDue n t O i job × AreJobsDue n t O (i + 1) jobs

-- the slots lie in dies of their own, those of lower dies first
abbrev pub InOrderOfDies : Shape → List Job → Type 0
InOrderOfDies shape jobs = AllPairs (λ a b. die_of shape a.slot.0 < die_of shape b.slot.0) jobs

-- each of these records may be loaded with its page
abbrev pub AreLoadable : FlashState → IndexState → OpenTransactionsState → ℕ → List Job → Type 0
AreLoadable s n O i [] = Unit {0}
AreLoadable s n O i (job ∷ jobs) =
    HasPlace O i (transaction_at O i).entry.done
    × (job.slot.0 < slots_of s.shape)
    × (die_of s.shape job.slot.0 < s.shape.dies)
    × (length (bytes_due O i) ≡ s.shape.page_bytes)
    × CanBeSpelled n.config.protocol job.rec
    × AreLoadable s n O (i + 1) jobs

pub record CanLoadAll {F : Type 0} (state : F → FlashState) (s : StoreState F) (O : OpenTransactionsState)
    (jobs : List Job) : Type 0 where
  pub each : AreLoadable (state s.flash) s.noted O 0 jobs
  pub dies : InOrderOfDies (state s.flash).shape jobs

-- All of them are loaded, and nothing else.
pub record LoadsEach {F : Type 0} (state : F → FlashState) (registers : F → List (Option Load))
    (old new : StoreState F) (O : OpenTransactionsState) (jobs : List Job) : Type 0 where
  pub loaded : loads_in (registers new.flash) ≡ loads_for old.noted O 0 jobs
  pub keeps : KeepsFlash state old new

-- each of these records may be noted, in turn
abbrev pub CanNoteEach : IndexState → BlocksState → OpenTransactionsState → ℕ → List Job → Type 0
CanNoteEach n t O i [] = Unit {0}
CanNoteEach n t O i (job ∷ jobs) =
    CanNoteJob n t job × (i < length O.all)
    × ((transaction_at O i).naming.noted_count < length (transaction_at O i).entry.writes)
    × CanNoteEach (programmed n job.slot.0 job.rec) (with_slot t job.slot.0)
    (with_transaction O i (with_next (transaction_at O i))) (i + 1) jobs

-- Each of them is noted.
pub record NotesEach {F : Type 0} (old new : StoreState F) (O O' : OpenTransactionsState)
    (jobs : List Job) : Type 0 where
  pub stored : new ≡ record old { noted = noted_each old.noted jobs; table = used_each old.table jobs }
  pub opens : O' ≡ nexts_noted 0 jobs O

-- The programs of the first transactions of a settled device may be done together: there is one, each is due, and they
-- lie in dies of their own.
pub record CanWriteAll {F : Type 0} (state : F → FlashState) (p : Protocol) (S : StoreState F)
    (O : OpenTransactionsState) (jobs : List Job) : Type 0 where
  pub ready : IsReady state p S O
  pub size : O.page_bytes ≡ S.noted.config.page_bytes
  pub some : jobs ≢ []
  pub due : AreJobsDue S.noted S.table O 0 jobs
  pub dies : InOrderOfDies (state S.flash).shape jobs

-- They were done together, which is all that was done to the flash.
pub record WrittenAll {F : Type 0} (state : F → FlashState) (S S' : StoreState F) (O O' : OpenTransactionsState)
    (jobs : List Job) : Type 0 where
  pub stands : Stands state (device_in state S' O')
  pub noted : S'.noted ≡ noted_each S.noted jobs
  pub table : S'.table ≡ used_each S.table jobs
  pub sure : S'.unsure ≡ unsure.Nothing
  pub opens : O' ≡ nexts_noted 0 jobs O
  pub exits : ExitsTogether state (device_in state S O) (device_in state S' O')
  pub rises : VersionsRise (device_in state S O) (device_in state S' O')
      (flat_map taken_writes (take (length jobs) (entries_of O)))
  pub pages : (device_in state S' O').machine.pages
      ≡ takes_each (device_in state S O).machine.pages (take (length jobs) (entries_of O))
  pub does : Does (state S.flash).shape (moment_of (state S.flash))
      (fire (loads_for S.noted O 0 jobs) ∷ []) (moment_of (state S'.flash))
  pub reads : (state S'.flash).reads ≡ (state S.flash).reads
  pub low : All (λ w. w.page < S.noted.config.logical)
      (flat_map taken_writes (take (length jobs) (entries_of O)))
  pub leaves : MayLeaveEach S.noted.config.protocol S.noted.config.logical (state S.flash).shape (state S.flash).image
      (loads_for S.noted O 0 jobs) (device_in state S O).machine.pages (entries_of O)

-- Their fire was broken, or was not started. The image is sound, and of the transactions that wrote their last page
-- each was taken or not by itself.
pub record DroppedAll {F : Type 0} (state : F → FlashState) (S S' : StoreState F) (O : OpenTransactionsState)
    (jobs : List Job) : Type 0 where
  pub sound : IsSoundImage S.noted.config.protocol S.noted.config.logical (state S'.flash).shape (state S'.flash).image
  pub array : MayTakeEach (device_in state S O).machine.pages IsAtLast (entries_of O)
      (array_in S.noted.config.protocol S.noted.config.logical (state S'.flash).image)
  pub mentions : MentionsAtMost S.noted (namings_of O) (state S'.flash).image
  pub held : AddsNoHeldIn S.noted.config.protocol S.noted.config.logical (state S.flash).image (state S'.flash).image
  pub can : CanDo (state S.flash).shape (state S.flash).image (fire (loads_for S.noted O 0 jobs))
  pub torn : (moment_of (state S'.flash) ≡ moment_of (state S.flash))
      ⊎ BreaksIn (state S.flash).shape (moment_of (state S.flash)) (fire (loads_for S.noted O 0 jobs))
      (moment_of (state S'.flash))
  pub moves : FlashMovesTogether (state S.flash) (state S'.flash) true
  pub carries : Carries (state S.flash) (state S'.flash) true
  pub stays : S' ≡ record S { flash = S'.flash }
  pub leaves : MayLeaveEach S.noted.config.protocol S.noted.config.logical (state S.flash).shape (state S.flash).image
      (loads_for S.noted O 0 jobs) (device_in state S O).machine.pages (entries_of O)

pub record WritesAll {F : Type 0} (state : F → FlashState) (S S' : StoreState F) (O O' : OpenTransactionsState)
    (jobs : List Job) (result : Result (Unit {0}) Broken) : Type 0 where
  pub written : OnOk result (WrittenAll state S S' O O' jobs)
  pub broken : OnErr result (DroppedAll state S S' O jobs)
  pub kept : OnErr result (O' ≡ O)

-- The first `moved` transactions go on without the flash.
pub record CanAcknowledgeAll {F : Type 0} (state : F → FlashState) (p : Protocol) (S : StoreState F)
    (O : OpenTransactionsState) (moved : ℕ) : Type 0 where
  pub ready : IsReady state p S O
  pub within : moved ≤ length O.all
  pub counts : (k : ℕ) → k < moved → CountsOn (transaction_at O k)

-- these transactions each go on so, in turn
abbrev pub AcknowledgeInTurn : ArrayState → List Entry → List Progress → ArrayState → Type 0
AcknowledgeInTurn old [] [] new = new ≡ old
AcknowledgeInTurn old (e ∷ es) (p ∷ ps) new =
    (mid : ArrayState) × Counts old e.tag e p mid × AcknowledgeInTurn mid es ps new
AcknowledgeInTurn old _ _ new = ⊥

-- They went on. The flash stays.
pub record AcknowledgesAll {F : Type 0} (state : F → FlashState) (S S' : StoreState F) (O O' : OpenTransactionsState)
    (moved : ℕ) (answer : Moved) : Type 0 where
  pub told : answer.moved ≡ moved
  pub each : List Progress
  pub counts : AcknowledgeInTurn (device_in state S O).machine (take moved (entries_of O)) each
      (device_in state S' O').machine
  pub finished : answer.finished ≡ count_by is_done each
  pub stands : Stands state (device_in state S' O')
  pub exits : Exits state (device_in state S O) (device_in state S' O') false
  pub stays : S' ≡ record S { noted = record S.noted { pins = S'.noted.pins } }
  pub sure : S'.unsure ≡ unsure.Nothing
  pub limits : HasLimitsOf O O'

-- none went on
abbrev pub no_moves : Moved
no_moves = record { moved = 0; finished = 0 }

-- how many are done with this step: one or none
abbrev pub finished_by : Progress → ℕ
finished_by progress.Done = 1
finished_by (progress.Wrote done all) = 0

-- one went on
abbrev pub first_moved : Progress → Moved
first_moved progress = record { moved = 1; finished = finished_by progress }

abbrev pub moved_by : Result Progress Broken → Result Moved Broken
moved_by (Ok progress) = Ok (first_moved progress)
moved_by (Err broken) = Err broken

-- Open transactions of a settled device may go on together.
pub record CanMove {F : Type 0} (state : F → FlashState) (p : Protocol) (S : StoreState F)
    (O : OpenTransactionsState) : Type 0 where
  pub ready : IsReady state p S O
  pub size : O.page_bytes ≡ S.noted.config.page_bytes

-- those that are chosen, with their slots
abbrev pub chosen_now : {F : Type 0} → StoreState F → OpenTransactionsState → List (Slot × TransactionState)
chosen_now S O = chosen_in S.noted S.table O.all

-- The first transaction took a step.
pub record MovesFirst {F : Type 0} (state : F → FlashState) (S S' : StoreState F) (O O' : OpenTransactionsState)
    (result : Result Moved Broken) : Type 0 where
  pub some : 0 < length O.all
  pub its : Result Progress Broken
  pub answer : result ≡ moved_by its
  pub advances : AdvancesTo state S S' O O' 0 its

-- Some were chosen: they were written at once and counted, or their fire was broken.
pub record MovesChosen {F : Type 0} (state : F → FlashState) (S S' : StoreState F) (O O' : OpenTransactionsState)
    (result : Result Moved Broken) : Type 0 where
  pub between : StoreState F
  pub opens : OpenTransactionsState
  pub moved : IfOk result (λ answer.
      WrittenAll state S between O opens (jobs_of S.noted (chosen_now S O))
      × AcknowledgesAll state between S' opens O' (length (chosen_now S O)) answer)
  pub broken : OnErr result (DroppedAll state S S' O (jobs_of S.noted (chosen_now S O)))
  pub kept : OnErr result (O' ≡ O)

-- Open transactions of a settled device went on together. Where none is open nothing was done; where none is chosen the
-- first one took a step.
pub record StepsTogether {F : Type 0} (state : F → FlashState) (S S' : StoreState F) (O O' : OpenTransactionsState)
    (result : Result Moved Broken) : Type 0 where
  pub none : O.all ≡ [] → (result ≡ Ok no_moves) × (S' ≡ S) × (O' ≡ O)
  pub first : O.all ≢ [] → chosen_now S O ≡ [] → MovesFirst state S S' O O' result
  pub chosen : O.all ≢ [] → chosen_now S O ≢ [] → MovesChosen state S S' O O' result
