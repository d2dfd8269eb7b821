-- How commands that are drawn are served, and their replies counted.
use Rattle.desk_tasks.proofs.Common.{◌≡◌, ℕ, ◌<◌, List, [], ◌∷◌, length, take, Result, Ok, Err, refl, ap, sym, subst, ◌∙◌, arith, append_assoc, All, Config, Contents, MemFlashState, RefusesDevice, loaded, shape_of, state_of, IsSoundImage, Ending, Protocol}
use Rattle.std.proofs.Common.{◌+◌, ◌++◌, append-nil, get_or, length-append}
use Rattle.std.specs.List.{AllByRecursion}
use Rattle.std.specs.Prelude.{IfErr, IfOk, Vec}
use Rattle.std.specs.Global.{Global}
use Rattle.std.specs.Result.{IsErrAnd}
use Rattle.std.proofs.lemmas.List.Elements.{All-from_recursion, recursion_from_All}
use Rattle.flash_model.specs.Flash.{FlashState}
use Rattle.host_protocol.specs.Replies.{text_of}
use Rattle.host_protocol.specs.declared.command.Command.{Command}
use Rattle.host_protocol.specs.declared.reply.Reply.{Reply}
use Rattle.cut_replay.specs.ServerRuns.{RunsOn}
use Rattle.cut_replay.specs.Served.{RefusesUnsound}
use Rattle.cut_replay.specs.Sessions.{DeviceSession, IsSoundOrSame, flash_in}
use Rattle.cut_replay.specs.declared.serving.ServeError.{ServeError}
use Rattle.cut_replay.specs.declared.serving.ServeError.TheVariants as unserved
use Rattle.cut_replay.proofs.Progress.{next_of}
use Rattle.drive_gen.specs.Counting.{HasCounted}
use Rattle.drive_gen.specs.Summary.{summary_line}
use Rattle.drive_gen.specs.declared.running_tally.RunningTally.{RunningTally}
use Rattle.desk_tasks.specs.Driving.{HasRunCounted, IsSummaryOfRun}
use Rattle.desk_tasks.specs.FileServing.{HasRun}
use Rattle.desk_tasks.specs.Stops.{StopsBy}
use Rattle.desk_tasks.specs.declared.output.Failure.{Failure}
use Rattle.desk_tasks.specs.declared.output.Failure.TheVariants as stop
use Rattle.desk_tasks.proofs.FileServing.{one_run}
use Rattle.desk_tasks.proofs.Works.{only_memory}

-- ---- what is served

-- a command more
pub one_driven : (its : Config) (flash : MemFlashState) (commands : List Command) (c : Command) (r : Reply)
    (s t : DeviceSession MemFlashState) (before after : RunningTally) →
    HasRunCounted its flash commands s before → RunsOn state_of its c s r t →
    ((bytes : List ℕ) → HasCounted bytes before → HasCounted (bytes ++ text_of r) after) →
    after.replies ≡ before.replies + 1 → HasRunCounted its flash (commands ++ c ∷ []) t after
one_driven its flash commands c r s t before after h on counted more = record {
  text = h.text ++ text_of r;
  run = one_run its flash commands c r s t h.text (h.text ++ text_of r) h.run on refl;
  counted = counted h.text h.counted;
  number = let so_far = h.number in omega (arith, length-append {A = Command});
}

-- the first commands of a part, and one more
pub part_more : (its now : Config) (flash : MemFlashState) (commands list : List Command) (at : ℕ) (c : Command)
    (s t : DeviceSession MemFlashState) (before after : RunningTally) → now ≡ its → at < length list →
    c ≡ get_or list at c → HasRunCounted its flash (commands ++ take at list) s before →
    (HasRunCounted now flash (commands ++ take at list) s before →
    HasRunCounted now flash ((commands ++ take at list) ++ c ∷ []) t after) →
    HasRunCounted its flash (commands ++ take (at + 1) list) t after
part_more its now flash commands list at c s t before after same within is h goes =
    let more : (commands ++ take at list) ++ c ∷ [] ≡ commands ++ take (at + 1) list =
    append_assoc commands (take at list) (c ∷ []) ∙ ap (λ l. commands ++ l) (sym (next_of list at c within is)) in
    subst (λ (cs : List Command). HasRunCounted its flash cs t after) more
    (subst (λ (x : Config). HasRunCounted x flash ((commands ++ take at list) ++ c ∷ []) t after) same
    (goes (subst (λ (x : Config). HasRunCounted x flash (commands ++ take at list) s before) (sym same) h)))

-- a whole part
pub whole_part : (its now : Config) (flash : MemFlashState) (commands part : List Command)
    (s t : DeviceSession MemFlashState) (before after : RunningTally) → now ≡ its →
    HasRunCounted its flash commands s before →
    (HasRunCounted now flash commands s before → HasRunCounted now flash (commands ++ part) t after) →
    HasRunCounted its flash (commands ++ part) t after
whole_part its now flash commands part s t before after same h goes =
    subst (λ (x : Config). HasRunCounted x flash (commands ++ part) t after) same
    (goes (subst (λ (x : Config). HasRunCounted x flash commands s before) (sym same) h))

-- ---- what serving leaves

pub kept_by : (its now : Config) (init old new : FlashState) → now ≡ its → IsSoundOrSame its init old →
    (IsSoundOrSame now init old → IsSoundOrSame now init new) → IsSoundOrSame its init new
kept_by its now init old new same h goes =
    subst (λ (x : Config). IsSoundOrSame x init new) same
    (goes (subst (λ (x : Config). IsSoundOrSame x init old) (sym same) h))

-- it ended where a command did
pub refused_by : (its now : Config) (init old new : FlashState) (result : Result (Unit {0}) ServeError)
    (why : ServeError) → now ≡ its → IsErrAnd result (λ x. x ≡ why) → IsSoundOrSame its init old →
    (IsSoundOrSame now init old → RefusesUnsound now init new (Err why)) → RefusesUnsound its init new result
refused_by its now init old new (Ok done) why same is h goes = absurd is
refused_by its now init old new (Err x) why same is h goes =
    subst (λ (y : ServeError). RefusesUnsound its init new (Err y)) (sym is)
    (subst (λ (x : Config). RefusesUnsound x init new (Err why)) same
    (goes (subst (λ (x : Config). IsSoundOrSame x init old) (sym same) h)))

-- or for want of memory
pub starved_by : (its : Config) (init new : FlashState) (result : Result (Unit {0}) ServeError) (why : ServeError) →
    IsErrAnd result (λ x. x ≡ why) → why ≡ unserved.Memory → IsSoundOrSame its init new →
    RefusesUnsound its init new result
starved_by its init new (Ok done) why is memory h = absurd is
starved_by its init new (Err x) why is memory h =
    subst (λ (y : ServeError). RefusesUnsound its init new (Err y)) (sym (is ∙ memory)) h

pub refused_line : {T : Type 0} (its : Config) (init new : FlashState) (result : Result T ServeError)
    (why : ServeError) → IsErrAnd result (λ x. x ≡ why) → RefusesUnsound its init new (Err why) →
    IfErr result (λ x. RefusesUnsound its init new (Err x))
refused_line its init new (Ok done) why is h = tt
refused_line its init new (Err x) why is h =
    subst (λ (y : ServeError). RefusesUnsound its init new (Err y)) (sym is) h

pub starved_line : {T : Type 0} (its : Config) (init new : FlashState) (result : Result T ServeError) →
    IfErr result (λ x. x ≡ unserved.Memory) → IsSoundOrSame its init new →
    IfErr result (λ x. RefusesUnsound its init new (Err x))
starved_line its init new (Ok done) memory h = tt
starved_line its init new (Err x) memory h =
    subst (λ (y : ServeError). RefusesUnsound its init new (Err y)) (sym memory) h

-- what nothing refuses stops only where memory runs out
pub stops_in_memory : {T : Type 0} (P : Ending → Type 0) → ((ending : Ending) → P ending → ⊥) →
    (result : Result T Failure) → IfErr result (StopsBy P) → IfErr result (λ e. e ≡ stop.Memory)
stops_in_memory P never (Ok done) h = tt
stops_in_memory P never (Err e) h = only_memory P never e h

-- ---- the commands of a part suit the pages

first_of : {X : Type 0} (P : X → Type 0) (xs ys : List X) → AllByRecursion P (xs ++ ys) → AllByRecursion P xs
first_of P [] ys h = tt
first_of P (x ∷ xs) ys h = (h.0, first_of P xs ys h.1)

rest_of : {X : Type 0} (P : X → Type 0) (xs ys : List X) → AllByRecursion P (xs ++ ys) → AllByRecursion P ys
rest_of P [] ys h = h
rest_of P (x ∷ xs) ys h = rest_of P xs ys h.1

pub all_first : {X : Type 0} (P : X → Type 0) (xs ys : List X) → All P (xs ++ ys) → All P xs
all_first P xs ys h = All-from_recursion P xs (first_of P xs ys (recursion_from_All P (xs ++ ys) h))

pub all_rest : {X : Type 0} (P : X → Type 0) (xs ys : List X) → All P (xs ++ ys) → All P ys
all_rest P xs ys h = All-from_recursion P ys (rest_of P xs ys (recursion_from_All P (xs ++ ys) h))

-- ---- part by part

-- these were served of the commands that are to be, and the others are left
pub record HasPartCounted (its : Config) (flash : MemFlashState) (all left : List Command) (s : DeviceSession MemFlashState)
    (tally : RunningTally) : Type 0 where
  pub given : List Command
  pub whole : given ++ left ≡ all
  pub driven : HasRunCounted its flash given s tally

-- one part more was served
pub goes_on : (its now : Config) (flash : MemFlashState) (all left part more : List Command)
    (s t : DeviceSession MemFlashState) (before after : RunningTally) → now ≡ its → part ++ more ≡ left →
    HasPartCounted its flash all left s before →
    ((commands : List Command) → HasRunCounted now flash commands s before →
    HasRunCounted now flash (commands ++ part) t after) →
    HasPartCounted its flash all more t after
goes_on its now flash all left part more s t before after same parts h goes = record {
  given = h.given ++ part;
  whole = append_assoc h.given part more ∙ ap (λ l. h.given ++ l) parts ∙ h.whole;
  driven = whole_part its now flash h.given part s t before after same h.driven (goes h.given);
}

-- nothing is left
pub all_driven : (its : Config) (flash : MemFlashState) (all left : List Command) (s : DeviceSession MemFlashState)
    (tally : RunningTally) → left ≡ [] → HasPartCounted its flash all left s tally → HasRunCounted its flash all s tally
all_driven its flash all left s tally none h =
    let whole : h.given ≡ all = sym (append-nil h.given) ∙ ap (λ l. h.given ++ l) (sym none) ∙ h.whole in
    subst (λ (cs : List Command). HasRunCounted its flash cs s tally) whole h.driven

-- ---- the line

-- it sums up what was counted
pub line_said : (start count : ℕ) (protocol : Protocol) (result : Result (Vec ℕ Global) ServeError) (its : Config)
    (flash : MemFlashState) (commands : List Command) (s : DeviceSession MemFlashState) (tally : RunningTally) →
    protocol ≡ its.protocol → (h : HasRunCounted its flash commands s tally) →
    IfOk result (λ (line : Vec ℕ Global). line.items ≡ summary_line start count protocol tally.replies h.text) →
    IfOk result (λ (line : Vec ℕ Global). (text : List ℕ) × HasRun its flash commands s text
    × (line.items ≡ summary_line start count its.protocol (length commands) text))
line_said start count protocol (Err why) its flash commands s tally same h said = tt
line_said start count protocol (Ok line) its flash commands s tally same h said = (
  h.text,
  h.run,
  said ∙ ap (λ p. summary_line start count p tally.replies h.text) same
      ∙ ap (λ n. summary_line start count its.protocol n h.text) h.number,
)

-- what was said of the commands that work had is said of those that are drawn
pub line_drawn : (start count : ℕ) (result : Result (Vec ℕ Global) ServeError) (its now : Config)
    (flash : MemFlashState) (commands drawn : List Command) (s : DeviceSession MemFlashState) →
    now ≡ its → commands ≡ drawn →
    IfOk result (λ (line : Vec ℕ Global). (text : List ℕ) × HasRun now flash commands s text
    × (line.items ≡ summary_line start count now.protocol (length commands) text)) →
    IfOk result (λ (line : Vec ℕ Global). (text : List ℕ) × HasRun its flash drawn s text
    × (line.items ≡ summary_line start count its.protocol (length drawn) text))
line_drawn start count result its now flash commands drawn s same are h =
    subst (λ (x : Config). IfOk result (λ (line : Vec ℕ Global). (text : List ℕ) × HasRun x flash drawn s text
    × (line.items ≡ summary_line start count x.protocol (length drawn) text))) same
    (subst (λ (cs : List Command). IfOk result (λ (line : Vec ℕ Global). (text : List ℕ) × HasRun now flash cs s text
    × (line.items ≡ summary_line start count now.protocol (length cs) text))) are h)

-- a fresh device was driven
pub fresh_drive : (its usual : Config) (image blank : List Contents) (start count : ℕ)
    (result : Result (Vec ℕ Global) Failure) → its ≡ usual → image ≡ blank →
    IfOk result (λ (line : Vec ℕ Global). IsSummaryOfRun its image start count line.items) →
    IfOk result (λ (line : Vec ℕ Global). IsSummaryOfRun usual blank start count line.items)
fresh_drive its usual image blank start count result same is h =
    subst (λ (x : Config). IfOk result (λ (line : Vec ℕ Global). IsSummaryOfRun x blank start count line.items)) same
    (subst (λ (x : List Contents). IfOk result (λ (line : Vec ℕ Global). IsSummaryOfRun its x start count line.items)) is h)

-- nothing was served and counted yet
pub none_driven : (its now : Config) (flash : MemFlashState) (s : DeviceSession MemFlashState) (tally : RunningTally) →
    now ≡ its → HasRun its flash [] s [] → HasCounted [] tally → tally.replies ≡ 0 → HasRunCounted now flash [] s tally
none_driven its now flash s tally same run counted number = record {
  text = [];
  run = subst (λ (x : Config). HasRun x flash [] s []) (sym same) run;
  counted = counted;
  number = number;
}

pub line_refused : {T : Type 0} (its now : Config) (init old new : FlashState) (result : Result T ServeError) →
    now ≡ its → IsSoundOrSame its init old →
    (IsSoundOrSame now init old → IfErr result (λ why. RefusesUnsound now init new (Err why))) →
    IfErr result (λ why. RefusesUnsound its init new (Err why))
line_refused its now init old new result same h goes =
    subst (λ (x : Config). IfErr result (λ why. RefusesUnsound x init new (Err why))) same
    (goes (subst (λ (x : Config). IsSoundOrSame x init old) (sym same) h))
