-- How many cuts and faults are to come still.
use Rattle.cut_replay.proofs.Common.{◌≡◌, true, false, Option, Some, None, refl, IfSome, Told, BothTell, NoMoreToCome, Spends, Command, Reply, is_arm, is_fault, is_lost, IsSet, IsSpentBy}
use Rattle.host_protocol.specs.declared.command.Command.TheVariants as command
use Rattle.host_protocol.specs.declared.reply.Reply.TheVariants as reply
use Rattle.array_runs.specs.Breaks.{is_cut}
use Rattle.cut_replay.specs.Bounds.{cuts_armed, faults_armed}
use Rattle.mounted_session.proofs.Telling as telling

-- a reply that is a fault, and after which something may be open
pub is_its_fault : (r : Reply) → is_fault r ≡ true → is_lost r ≡ false → r ≡ reply.Fault
is_its_fault reply.Fault h whole = refl
is_its_fault reply.Dropped h whole = cc
is_its_fault _ h whole = cc

pub uncut : (r : Reply) → is_lost r ≡ false → is_cut r ≡ false
uncut reply.Cut h = cc
uncut _ h = refl

-- nothing is used up
pub spends_none : (c : Command) (r : Reply) (a b : Option Told) → is_cut r ≡ false → is_fault r ≡ false →
    BothTell NoMoreToCome a b → BothTell (IsSpentBy c r) a b
spends_none c r = telling.spends_none (cuts_armed c) (faults_armed c) (is_cut r) (is_fault r)

-- a fault
pub spends_fault : (c : Command) (a b : Option Told) → BothTell NoMoreToCome a b → BothTell (Spends true) a b →
    BothTell (IsSpentBy c reply.Fault) a b
spends_fault c = telling.spends_one (cuts_armed c) (faults_armed c) true

-- a fault by which transactions were dropped
pub spends_dropped : (c : Command) (a b : Option Told) → BothTell NoMoreToCome a b → BothTell (Spends true) a b →
    BothTell (IsSpentBy c reply.Dropped) a b
spends_dropped c = telling.spends_one (cuts_armed c) (faults_armed c) true

-- a cut
pub spends_cut : (c : Command) (a b : Option Told) → BothTell NoMoreToCome a b → BothTell (Spends false) a b →
    BothTell (IsSpentBy c reply.Cut) a b
spends_cut c = telling.spends_one (cuts_armed c) (faults_armed c) false

-- before or after it, where no more is to come
pub spends_after : (c : Command) (r : Reply) (a b d : Option Told) → BothTell NoMoreToCome a b →
    BothTell (IsSpentBy c r) b d → BothTell (IsSpentBy c r) a d
spends_after c r = telling.spends_after (cuts_armed c) (faults_armed c) (is_cut r) (is_fault r)

pub spends_before : (c : Command) (r : Reply) (a b d : Option Told) → BothTell (IsSpentBy c r) a b →
    BothTell NoMoreToCome b d → BothTell (IsSpentBy c r) a d
spends_before c r = telling.spends_before (cuts_armed c) (faults_armed c) (is_cut r) (is_fault r)

-- a command that is no arm sets none
none_set : (c : Command) → is_arm c ≡ false → (told : Told) → IsSet c told
none_set (command.Read page) h told = tt
none_set (command.Write tag batch) h told = tt
none_set (command.Step tag) h told = tt
none_set (command.Finish tag) h told = tt
none_set (command.Abort tag) h told = tt
none_set command.StepAll h told = tt
none_set command.Collect h told = tt
none_set command.Stats h told = tt
none_set command.Explain h told = tt
none_set (command.Cut count what) h told = cc
none_set (command.Fault count what) h told = cc
none_set (command.BadRead count) h told = cc

pub sets_none : (c : Command) → is_arm c ≡ false → (o : Option Told) → IfSome o (IsSet c)
sets_none c h None = tt
sets_none c h (Some told) = none_set c h told
