-- Serving commands on a device from an image on, on a flash that breaks only where the commands arm
-- it.
use Rattle.std.specs.Prelude.{◌≡◌, ◌⊎◌, ℕ, true, List, [], replicate, None, IsSomeAnd}
use Rattle.tx_types.specs.declared.config.Config.{Config}
use Rattle.tx_types.specs.declared.config.Protocol.{Protocol}
use Rattle.tx_types.specs.Config.{shape_of, slots_of}
use Rattle.flash_model.specs.Flash.{Contents, FlashState, blank}
use Rattle.flash_model.specs.Operations.{Moment}
use Rattle.judged_records.specs.Images.{IsSoundImage}
use Rattle.array_machine.specs.ArrayState.{ArrayState}
use Rattle.host_protocol.specs.declared.command.Command.{Command}
use Rattle.host_protocol.specs.declared.reply.Reply.{Reply}
use Rattle.cut_replay.specs.FlashRun.{Point, IsFlashRun, last_moment, last_state, first_state}
use Rattle.cut_replay.specs.Watching.{text_of_all}
use Rattle.array_runs.specs.Breaks.{AreFew}

-- the device of `try` and `drive`
abbrev pub default_config : Protocol → Config
default_config protocol = record {
  protocol = protocol;
  page_bytes = 16;
  pages_per_block = 4;
  blocks_per_die = 4;
  dies = 2;
  logical = 20;
  pending = 7;
}

-- the image of a device on which nothing was programmed
abbrev pub blank_image : Config → List Contents
blank_image its = replicate (slots_of (shape_of its)) blank

-- the image of a device when it is served, with nothing counted
abbrev pub first_moment : List Contents → Moment
first_moment its_image = record { image = its_image; programs = 0; erases = 0; started = 0 }

-- the flash counted no fault, and tells that no arm is set
pub record IsUnarmed (s : FlashState) : Type 0 where
  pub faults : s.faults ≡ 0
  pub arms : IsSomeAnd s.told (λ told. (told.cut ≡ None) × (told.fault ≡ None) × (told.bad_read ≡ None))

-- The image is sound, and there is a run on a flash over these commands, from it on, with nothing
-- counted and nothing armed. It begins with a mounted device. The run ends with that image, and the
-- text is that of its replies. Among the replies to the first so many commands there are at most as
-- many cuts and faults as were armed among these.
pub record IsRun (its : Config) (image : List Contents) (commands : List Command)
    (left : List Contents) (text : List ℕ) : Type 0 where
  pub sound : IsSoundImage its.protocol its.logical (shape_of its) image
  pub replies : List Reply
  pub points : List Point
  pub run : IsFlashRun its (first_moment image) commands replies points
  pub up : run.up ≡ true
  pub unarmed : IsUnarmed run.flash
  pub last : left ≡ (last_moment (first_moment image) points).image
  pub said : text ≡ text_of_all replies
  pub few : AreFew 0 0 commands replies

-- the text is that of the replies of a run over these commands, on a fresh default device of this protocol
abbrev pub RepliesFresh : Protocol → List Command → List ℕ → Type 0
RepliesFresh protocol commands text =
    (left : List Contents)
    × IsRun (default_config protocol) (blank_image (default_config protocol)) commands left text

-- the state of the array machine with which a run ends
abbrev pub machine_left : {its : Config} {image : List Contents} {commands : List Command}
    {left : List Contents} {text : List ℕ} → IsRun its image commands left text → ArrayState
machine_left {its = its} {image = image} run =
    (last_state (first_state its run.run.up (first_moment image)) run.points).machine
