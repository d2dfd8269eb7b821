-- The ending of a task, from what its parts come to.
use Rattle.desk_tasks.proofs.Common.{◌≡◌, ℕ, List, [], length, Ok, Err, refl, inl, inr, subst, MemFlashState, Config, Protocol, shape_of, Contents, Extras, IsSoundImage, Ending, Ran, Explaining, OpensAndServes, Running, Trying, ReadsImage, RefusesDevice, RefusesLine}
use Rattle.std.proofs.Common.{◌++◌}
use Rattle.tx_types.specs.declared.config.Protocol.TheVariants.{Scc}
use Rattle.host_protocol.specs.Files.{IsFile}
use Rattle.host_protocol.specs.declared.command.Command.{Command}
use Rattle.desk_tasks.specs.Ending.{Explained}
use Rattle.desk_tasks.specs.FileServing.{RefusesFile}
use Rattle.desk_tasks.specs.Steps.{Parsing}
use Rattle.desk_tasks.specs.Runs.{IsRun, RepliesFresh, blank_image, default_config}
use Rattle.judged_records.proofs.OfNotes.OneBreach.{sound_unbroken}
use Rattle.desk_tasks.proofs.Sound.{blank_sound}

-- ---- a fresh default device

-- it is opened
pub blank_opens : (protocol : Protocol) (its : Config) (image : List Contents) → its ≡ default_config protocol →
    image ≡ blank_image its →
    (ending : Ending) → RefusesDevice its image ending → ⊥
blank_opens protocol its image e f ending h =
    let refuses : RefusesDevice (default_config protocol) (blank_image (default_config protocol)) ending =
    rw (f, e) at h in
    sound_unbroken protocol (default_config protocol).logical (shape_of (default_config protocol))
    (blank_image (default_config protocol))
    refuses.0 (blank_sound protocol) refuses.1

-- and commands are run on it
pub run_blank : (protocol : Protocol) (its : Config) (image : List Contents) (cs : List Command) (left : List Contents)
    (text : List ℕ) →
    its ≡ default_config protocol → image ≡ blank_image its → IsRun its image cs left text →
    RepliesFresh protocol cs text
run_blank protocol its image cs left text e f h = (left, rw (f, e) at h)

-- ---- a try

pub trying_line : (its : Config) (lines : List ℕ) → its ≡ default_config Scc → (ending : Ending) →
    RefusesLine its.page_bytes lines ending → Trying lines ending
trying_line its lines e ending h =
    let refuses : RefusesLine (default_config Scc).page_bytes lines ending = rw e at h in
    (Err refuses.0, refuses.1, refuses.2)

-- and so is serving the commands of a file on it
pub trying_file : (its : Config) (flash : MemFlashState) (lines : List ℕ) → its ≡ default_config Scc →
    flash.image ≡ blank_image its → (ending : Ending) → RefusesFile its flash lines ending → Trying lines ending
trying_file its flash lines e f ending (inl line) = trying_line its lines e ending line
trying_file its flash lines e f ending (inr device) = absurd (blank_opens Scc its flash.image e f ending device)

pub file_blank : (its : Config) (flash : MemFlashState) (lines : List ℕ) (cs : List Command) (left : List Contents)
    (text : List ℕ) → its ≡ default_config Scc → flash.image ≡ blank_image its →
    IsFile its.page_bytes lines cs → IsRun its flash.image cs left text →
    IsFile (default_config Scc).page_bytes lines cs
    × IsRun (default_config Scc) (blank_image (default_config Scc)) cs left text
unfolding run_blank
file_blank its flash lines cs left text e f file run = (
  subst (λ (x : Config). IsFile x.page_bytes lines cs) e file,
  (run_blank Scc its flash.image cs left text e f run).1,
)

-- ---- a run

-- a line of the file is bad
pub parsing_line : (its : Config) (flash : MemFlashState) (lines : List ℕ) (done : List Command → Ending) →
    (ending : Ending) → RefusesLine its.page_bytes lines ending →
    Parsing its.page_bytes lines (λ commands. OpensAndServes its flash.image (done commands)) ending
parsing_line its flash lines done ending line = (Err line.0, line.1, line.2)

-- a line of the file is bad, or it is a file of commands and the device is refused
pub parsing_file : (its : Config) (flash : MemFlashState) (lines : List ℕ) (cs : List Command)
    (done : List Command → Ending) → IsFile its.page_bytes lines cs →
    (ending : Ending) → RefusesFile its flash lines ending →
    Parsing its.page_bytes lines (λ commands. OpensAndServes its flash.image (done commands)) ending
parsing_file its flash lines cs done file ending (inl line) = parsing_line its flash lines done ending line
parsing_file its flash lines cs done file ending (inr device) =
    (Ok cs, file, (Err device.0, device.1, device.2))

pub running_on : (name bytes lines : List ℕ) (its : Config) (image : List Contents) (extras : Extras) →
    ReadsImage bytes (Ok (its, image, extras)) →
    (ending : Ending) →
    Parsing its.page_bytes lines (λ commands. OpensAndServes its image (Ran name its image extras commands)) ending →
    Running name bytes lines ending
running_on name bytes lines its image extras read ending h = (Ok (its, image, extras), read, (h, refl))

-- ---- an explanation

pub explaining_device : (bytes : List ℕ) (its : Config) (image : List Contents) (extras : Extras) →
    ReadsImage bytes (Ok (its, image, extras)) →
    (ending : Ending) → RefusesDevice its image ending → Explaining bytes ending
explaining_device bytes its image extras read ending h = (Ok (its, image, extras), read, ((Err h.0, h.1, h.2), refl))

pub explaining_done : (bytes : List ℕ) (its : Config) (image : List Contents) (extras : Extras) →
    ReadsImage bytes (Ok (its, image, extras)) →
    IsSoundImage its.protocol its.logical (shape_of its) image → Explaining bytes (Explained its image)
explaining_done bytes its image extras read sound = (Ok (its, image, extras), read, ((Ok tt, sound, refl), refl))
