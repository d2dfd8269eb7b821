-- The map machine on a flash: what a list of commands does to a map that a flash keeps, and the replies that it may
-- give.
use Rattle.std.specs.Prelude.{◌≡◌, ◌⊎◌, ℕ, ◌+◌, ◌<◌, ◌≤◌, Bool, true, false, not, List, [], ◌∷◌, length, take, count_by, slice_index_or, None, Some, MatchBool}
use Rattle.std.specs.Prelude.{if◌then◌else◌}
use Rattle.std.specs.FinMap.{get}
use Rattle.tx_types.specs.Config.{shape_of}
use Rattle.tx_types.specs.declared.config.Config.{Config}
use Rattle.flash_model.specs.Arms.{ArmsCut}
use Rattle.flash_model.specs.Calls.{BothTell, Carries, Rose}
use Rattle.flash_model.specs.Flash.{FlashState, Told, counted_times}
use Rattle.flash_model.specs.Moves.{Moves}
use Rattle.flash_model.specs.Operations.{Moment, moment_of}
use Rattle.flash_model.specs.declared.outcome.Outcome.{Outcome}
use Rattle.record_list.specs.Records.{mention}
use Rattle.judged_records.specs.Images.{IsSoundImage, array_in, records_in}
use Rattle.array_machine.specs.ArrayState.{Pages, put}
use Rattle.array_runs.specs.Run.{MayBeSpent}
use Rattle.tx_engine.specs.Opens.{mount_reads}
use Rattle.mounted_session.specs.Mounting.{powered}
use Rattle.mounted_session.specs.Spending.{IsSpent}
use Rattle.page_keys.specs.BucketWrites.{BreaksBuckets, WritesBuckets}
use Rattle.page_keys.specs.Buckets.{EncodesMap}
use Rattle.page_keys.specs.KeyMaps.{KeyMap, apply, seen_by}
use Rattle.page_keys.specs.PutCosts.{CostsPut}
use Rattle.page_keys.specs.Puts.{early_refusal, put_refusal, put_writes}
use Rattle.page_keys.specs.declared.answers.PutError.{PutError}
use Rattle.page_keys.specs.declared.answers.PutError.TheVariants as refused
use Rattle.page_keys.specs.declared.changes.Change.{Change}
use Rattle.page_keys.specs.declared.command.KeyCommand.{KeyCommand}
use Rattle.page_keys.specs.declared.command.KeyCommand.TheVariants as command
use Rattle.page_keys.specs.declared.key_reply.KeyReply.{KeyReply}
use Rattle.page_keys.specs.declared.key_reply.KeyReply.TheVariants as reply

-- where a run stands when the reply is told: the map, whether the store is open, and what the flash is
pub record KeyPoint : Type 0 where
  pub keys : KeyMap
  pub up : Bool
  pub flash : FlashState

-- the array of pages that the image of a point stands for
abbrev pub array_at : Config → KeyPoint → Pages
array_at its p = array_in its.protocol its.logical p.flash.image

-- the image is sound, and its array shows the map; while the store is open power is on
pub record IsKeyPoint (its : Config) (p : KeyPoint) : Type 0 where
  pub sound : IsSoundImage its.protocol its.logical (shape_of its) p.flash.image
  pub shows : EncodesMap its (array_at its p) p.keys
  pub live : p.up ≡ true → p.flash.live ≡ true

-- the map, the image and what was counted of programs and erases are as before
pub record Stays (old new : KeyPoint) : Type 0 where
  pub keys : new.keys ≡ old.keys
  pub moment : moment_of new.flash ≡ moment_of old.flash

-- from one point to another by programs and erases, of which the last may be broken
abbrev pub MovesTo : Config → KeyPoint → Bool → KeyPoint → Type 0
MovesTo its old broken new =
    Moves (shape_of its) (moment_of old.flash) broken (moment_of new.flash)

-- what stands for a change where there is none
abbrev pub no_change : Change
no_change = record { key = []; value = None }

-- the key of the change at this place, from 0
abbrev pub key_at : List Change → ℕ → List ℕ
key_at cs i = (slice_index_or cs i no_change).key

-- ---- a put

abbrev pub RefusesPut : Config → (ℕ → Bool) → List Change → PutError → KeyPoint → KeyPoint → Type 0
RefusesPut its spent cs e old new = (put_refusal its spent old.keys cs ≡ Some e) × Stays old new

-- It is not refused, and all its changes are made: the array has what it writes, and every other page is as it was.
pub record TakesPut (its : Config) (spent : ℕ → Bool) (cs : List Change) (old new : KeyPoint) :
    Type 0 where
  pub allowed : put_refusal its spent old.keys cs ≡ None
  pub keys : new.keys ≡ apply old.keys cs
  pub array : array_at its new ≡ put (array_at its old) (put_writes its old.keys cs)

-- Power was cut in it, or it met a fault: all its changes are made or none is, and its buckets were written from the
-- first one on, perhaps none. It is not one that its changes alone refuse: such a put does nothing on the flash.
pub record BreaksPut (its : Config) (spent : ℕ → Bool) (cs : List Change) (old new : KeyPoint) :
    Type 0 where
  pub tried : early_refusal its cs ≡ None
  pub whole : ((new.keys ≡ old.keys) × (array_at its new ≡ array_at its old)) ⊎ TakesPut its spent cs old new
  pub first : BreaksBuckets its cs (moment_of old.flash) (moment_of new.flash)
  pub costs : CostsPut its cs (moment_of old.flash) (moment_of new.flash)
  pub moves : MovesTo its old true new

-- A put, where these pages are spent, by its reply. One that is stored has written each bucket that a key falls in.
abbrev pub DoesPut : Config → (ℕ → Bool) → List Change → KeyPoint → KeyReply → KeyPoint → Type 0
DoesPut its spent cs old (reply.Stored changes) new =
    TakesPut its spent cs old new × (changes ≡ length cs) × MovesTo its old false new
    × WritesBuckets its cs (moment_of old.flash) (moment_of new.flash)
    × CostsPut its cs (moment_of old.flash) (moment_of new.flash)
DoesPut its spent cs old reply.RefusedEmpty new = RefusesPut its spent cs refused.Empty old new
DoesPut its spent cs old (reply.RefusedRepeated key) new =
    (i : ℕ) × RefusesPut its spent cs (refused.Repeated i) old new × (key ≡ key_at cs i)
DoesPut its spent cs old (reply.RefusedWide pages) new =
    RefusesPut its spent cs (refused.Wide pages) old new
DoesPut its spent cs old (reply.RefusedBucket page) new =
    RefusesPut its spent cs (refused.Bucket page) old new
DoesPut its spent cs old (reply.RefusedSpent page) new =
    RefusesPut its spent cs (refused.Spent page) old new
DoesPut its spent cs old reply.Cut new = BreaksPut its spent cs old new
DoesPut its spent cs old reply.Fault new = BreaksPut its spent cs old new
DoesPut its spent cs old _ new = ⊥

-- ---- a get, and an arm

-- a get, by its reply: by the map, which stays
abbrev pub DoesGet : List ℕ → KeyPoint → KeyReply → KeyPoint → Type 0
DoesGet key old (reply.Value its_key value) new =
    (its_key ≡ key) × (get old.keys key ≡ Some value) × Stays old new
DoesGet key old (reply.Absent its_key) new =
    (its_key ≡ key) × (get old.keys key ≡ None) × Stays old new
DoesGet key old reply.Cut new = Stays old new
DoesGet key old reply.Fault new = Stays old new
DoesGet key old _ new = ⊥

-- a cut that is to come: nothing changes but what the flash tells of it
abbrev pub DoesArm : ℕ → Outcome → KeyPoint → KeyReply → KeyPoint → Type 0
DoesArm count what old reply.Armed new =
    (new.keys ≡ old.keys) × ArmsCut old.flash new.flash count what
DoesArm count what old _ new = ⊥

abbrev pub DoesKeys : Config → (ℕ → Bool) → KeyCommand → KeyPoint → KeyReply → KeyPoint → Type 0
DoesKeys its spent (command.Put changes) old r new = DoesPut its spent changes old r new
DoesKeys its spent (command.Get key) old r new = DoesGet key old r new
DoesKeys its spent (command.Cut count what) old r new = DoesArm count what old r new

-- ---- opening the store

abbrev pub is_key_cut : KeyReply → Bool
is_key_cut reply.Cut = true
is_key_cut _ = false

abbrev pub is_key_fault : KeyReply → Bool
is_key_fault reply.Fault = true
is_key_fault _ = false

-- power was cut, or the flash met a fault
abbrev pub is_key_break : KeyReply → Bool
is_key_break reply.Cut = true
is_key_break reply.Fault = true
is_key_break _ = false

abbrev pub arms_key_cut : KeyCommand → Bool
arms_key_cut (command.Cut count what) = true
arms_key_cut _ = false

-- The store is opened on a flash: power is turned on where it is off, and the flash is read. Where no read meets a
-- fault the store is open, by the reads of one mount and perhaps more. Where one does it is not, and nothing else is
-- done.
pub record OpensFlash (its : Config) (up : Bool) (old new : FlashState) : Type 0 where
  pub carries : Carries (powered old) new (not up)
  pub moment : moment_of new ≡ moment_of old
  pub reads : up ≡ true → (more : ℕ)
      × (new.reads ≡ counted_times more (counted_times (mount_reads its old) old.reads))

-- the store could not be opened: this mount met a fault, and the command was not done
pub record NotDone (its : Config) (old : KeyPoint) (r : KeyReply) (new : KeyPoint) : Type 0 where
  pub broken : is_key_break r ≡ true
  pub opens : OpensFlash its false old.flash new.flash
  pub keys : new.keys ≡ old.keys
  pub up : new.up ≡ false

-- The command was done on the open store, which is closed where power was cut or a fault was met: exactly where the
-- reply tells one.
pub record IsDone (its : Config) (spent : ℕ → Bool) (c : KeyCommand) (old : KeyPoint) (r : KeyReply)
    (new : KeyPoint) : Type 0 where
  pub does : DoesKeys its spent c old r new
  pub calls : Carries old.flash new.flash (is_key_break r)
  pub up : new.up ≡ not (is_key_break r)

-- where the store is not open it is opened first: that meets a fault, or the command is done
abbrev pub OpensFirst : Config → (ℕ → Bool) → KeyCommand → KeyPoint → KeyReply → KeyPoint → Type 0
OpensFirst its spent c old r new =
    NotDone its old r new
    ⊎ ((opened : FlashState) × OpensFlash its true old.flash opened
    × IsDone its spent c (record { keys = old.keys; up = true; flash = opened }) r new)

-- an arm needs no store
abbrev pub DoesCommand : Config → (ℕ → Bool) → KeyCommand → KeyPoint → KeyReply → KeyPoint → Type 0
DoesCommand its spent c old r new =
    MatchBool (arms_key_cut c) (DoesKeys its spent c old r new × (new.up ≡ old.up))
    (MatchBool old.up (IsDone its spent c old r new) (OpensFirst its spent c old r new))

-- ---- causes

-- how many cuts a command arms
abbrev pub cuts_armed : KeyCommand → ℕ
cuts_armed c = if arms_key_cut c then 1 else 0

-- Before a command that is no arm power is turned on. The reply is `Cut` exactly where it is off afterwards. The count
-- of faults rose, or stood at its end, where a break is told, and else is as it was.
pub record IsCaused (r : KeyReply) (old new : FlashState) : Type 0 where
  pub cut : is_key_cut r ≡ not new.live
  pub faults : MatchBool (is_key_break r) (Rose old.faults new.faults) (new.faults ≡ old.faults)

-- a reply uses up a cut or a fault that was to come, and an arm brings a cut
abbrev pub IsKeySpent : KeyCommand → KeyReply → Told → Told → Type 0
IsKeySpent c r old new = IsSpent (is_key_cut r) (is_key_fault r) (cuts_armed c) 0 old new

-- a command on a flash, its reply, and where that leaves the run
pub record ServesKeys (its : Config) (spent : ℕ → Bool) (c : KeyCommand) (old : KeyPoint)
    (r : KeyReply) (new : KeyPoint) : Type 0 where
  pub does : DoesCommand its spent c old r new
  pub causes : arms_key_cut c ≡ false → IsCaused r old.flash new.flash
  pub spends : BothTell (IsKeySpent c r) old.flash.told new.flash.told

-- ---- a store that cannot be opened

-- a command on a flash whose store cannot be opened: an arm, or an opening that meets a fault
abbrev pub RepliesUnopened : Config → KeyCommand → FlashState → KeyReply → FlashState → Type 0
RepliesUnopened its (command.Cut count what) old r new = (r ≡ reply.Armed) × ArmsCut old new count what
RepliesUnopened its _ old r new = (is_key_break r ≡ true) × OpensFlash its false old new × IsCaused r old new

-- such commands, with one reply for each
abbrev pub UnopenedRun : Config → FlashState → List KeyCommand → List KeyReply → FlashState → Type 0
UnopenedRun its old [] [] new = new ≡ old
UnopenedRun its old (c ∷ cs) (r ∷ rs) new =
    (mid : FlashState) × RepliesUnopened its c old r mid × UnopenedRun its mid cs rs new
UnopenedRun its old _ _ new = ⊥

-- ---- runs

-- whether a put was not refused
abbrev pub is_tried : KeyReply → Bool
is_tried (reply.Stored changes) = true
is_tried reply.Cut = true
is_tried reply.Fault = true
is_tried _ = false

abbrev pub changes_in : KeyCommand → List Change
changes_in (command.Put changes) = changes
changes_in _ = []

-- the pages of the keys of a put that was not refused may be mentioned once more
abbrev pub seen_after : Config → (ℕ → ℕ) → KeyCommand → KeyReply → ℕ → ℕ
seen_after its seen c r page =
    if is_tried r then seen_by its.logical (changes_in c) seen page else seen page

-- the greatest mention of each page in an image
abbrev pub mentions_in : Config → Moment → ℕ → ℕ
mentions_in its m page = mention (records_in its.protocol m.image) page

-- the image of a point mentions each page so often at most
abbrev pub MentionsUpTo : Config → (ℕ → ℕ) → KeyPoint → Type 0
MentionsUpTo its seen p = (page : ℕ) → page < its.logical → mentions_in its (moment_of p.flash) page ≤ seen page

-- what is known to be mentioned then: a store that is closed knows nothing, and the next one knows what its image has
abbrev pub seen_next : Config → (ℕ → ℕ) → KeyCommand → KeyReply → KeyPoint → ℕ → ℕ
seen_next its seen c r p page =
    if p.up then seen_after its seen c r page else mentions_in its (moment_of p.flash) page

-- A run over a list of commands: one reply and one point for each. `seen` is at least the greatest mention of each page
-- on the flash. After a command the image mentions no page above that, and each page that a key of its put falls in at
-- most once more.
abbrev pub KeyRun : Config → (ℕ → ℕ) → KeyPoint → List KeyCommand → List KeyReply → List KeyPoint →
    Type 0
KeyRun its seen old [] [] [] = Unit {0}
KeyRun its seen old (c ∷ cs) (r ∷ rs) (p ∷ ps) =
    ((spent : ℕ → Bool) × MayBeSpent seen spent × ServesKeys its spent c old r p)
    × (IsKeyPoint its p × MentionsUpTo its (seen_after its seen c r) p)
    × KeyRun its (seen_next its seen c r p) p cs rs ps
KeyRun its seen old _ _ _ = ⊥

-- the point where a run ends
abbrev pub last_point : KeyPoint → List KeyPoint → KeyPoint
last_point old [] = old
last_point old (p ∷ ps) = last_point p ps

-- a run from this point on, whose image is sound and shows its map
pub record IsKeyRun (its : Config) (first : KeyPoint) (cs : List KeyCommand) (rs : List KeyReply)
    (ps : List KeyPoint) : Type 0 where
  pub begins : IsKeyPoint its first
  pub runs : KeyRun its (mentions_in its (moment_of first.flash)) first cs rs ps

-- Among the replies to the first `j` commands there are at most as many cuts as were to come and were armed among
-- these, and at most as many faults as were to come.
abbrev pub AreFewBreaks : ℕ → ℕ → List KeyCommand → List KeyReply → Type 0
AreFewBreaks cuts breaks cs rs =
    (j : ℕ) →
    (count_by is_key_cut (take j rs) ≤ cuts + count_by arms_key_cut (take j cs))
    × (count_by is_key_fault (take j rs) ≤ breaks)

abbrev pub is_stored : KeyReply → Bool
is_stored (reply.Stored changes) = true
is_stored _ = false

-- each map is the one before, or has all changes of the command, as where a put was told as stored
abbrev pub ChangesAtOnce : KeyPoint → List KeyCommand → List KeyReply → List KeyPoint → Type 0
ChangesAtOnce old [] [] [] = Unit {0}
ChangesAtOnce old (c ∷ cs) (r ∷ rs) (p ∷ ps) =
    ((p.keys ≡ old.keys) ⊎ (p.keys ≡ apply old.keys (changes_in c)))
    × (is_stored r ≡ true → p.keys ≡ apply old.keys (changes_in c)) × ChangesAtOnce p cs rs ps
ChangesAtOnce old _ _ _ = ⊥
