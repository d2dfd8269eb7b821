-- What the work gives: the bytes of a file that is saved, if one is, and what is said then.
use Rattle.std.specs.Prelude.{◌≡◌, ℕ, List, ◌++◌, length, codes, Option, None, Some}
use Rattle.std.specs.Fmt.{decimal}
use Rattle.tx_types.specs.declared.config.Config.{Config}
use Rattle.tx_types.specs.declared.config.Protocol.{Protocol}
use Rattle.tx_types.specs.declared.config.Protocol.TheVariants.{Scc}
use Rattle.tx_types.specs.Config.{shape_of, slots_of}
use Rattle.flash_model.specs.Flash.{Contents, Extras}
use Rattle.flash_model.specs.Retiring.{one_more}
use Rattle.judged_records.specs.Images.{IsSoundImage, records_in}
use Rattle.verdict_report.specs.Report.{report}
use Rattle.host_protocol.specs.declared.command.Command.{Command}
use Rattle.image_file.specs.Spelling.{Spells}
use Rattle.drive_gen.specs.Work.{generated}
use Rattle.drive_gen.specs.Summary.{summary_line}
use Rattle.page_keys.specs.declared.command.KeyCommand.{KeyCommand}
use Rattle.program_base.specs.Refusals.{line}
use Rattle.desk_tasks.specs.Ending.{Ending, Tried, Formatted, Ran, Explained, SummedUp, Keyed, Retired, refusal_line}
use Rattle.desk_tasks.specs.KeyWork.{IsKeysRun}
use Rattle.desk_tasks.specs.Retirements.{EmptiesBlock, new_extras}
use Rattle.desk_tasks.specs.Runs.{IsRun, default_config, blank_image}

-- a file's name and its bytes
pub record SavedFile : Type 0 where
  pub name : List ℕ
  pub bytes : List ℕ

-- what is saved, and what is said then
pub record OutputState : Type 0 where
  pub saved : Option SavedFile
  pub text : List ℕ

-- the replies of a run on a fresh default device
pub record IsTried (commands : List Command) (p : OutputState) : Type 0 where
  pub saves_nothing : p.saved ≡ None
  pub left : List Contents
  pub run : IsRun (default_config Scc) (blank_image (default_config Scc)) commands left p.text

-- the file of a blank image, of which so many blocks may be retired and none is, and a line with the number of its
-- slots
pub record IsFormatted (name : List ℕ) (its : Config) (allowance : ℕ) (p : OutputState) : Type 0 where
  pub bytes : List ℕ
  pub saves : p.saved ≡ Some (record { name = name; bytes = bytes })
  pub spelled : Spells bytes its (blank_image its) (new_extras allowance)
  pub said : p.text
      ≡ line (codes "formatted " ++ name ++ codes " " ++ decimal (slots_of (shape_of its)))

-- the replies of a run from this image on, and the file of the image with which the run ends, under
-- the same configuration and with the same retired blocks
pub record IsRan (name : List ℕ) (its : Config) (image : List Contents) (extras : Extras)
    (commands : List Command) (p : OutputState) : Type 0 where
  pub bytes : List ℕ
  pub saves : p.saved ≡ Some (record { name = name; bytes = bytes })
  pub left : List Contents
  pub run : IsRun its image commands left p.text
  pub spelled : Spells bytes its left extras

-- the report on the records of this image, which is sound
pub record IsExplained (its : Config) (image : List Contents) (p : OutputState) : Type 0 where
  pub saves_nothing : p.saved ≡ None
  pub sound : IsSoundImage its.protocol its.logical (shape_of its) image
  pub said : p.text ≡ report its.protocol (records_in its.protocol image) its.logical

-- the summary of the replies of a run over the commands that are drawn, on a fresh default device
-- of this protocol
pub record IsSummedUp (start count : ℕ) (protocol : Protocol) (p : OutputState) : Type 0 where
  pub saves_nothing : p.saved ≡ None
  pub left : List Contents
  pub replies : List ℕ
  pub run : IsRun (default_config protocol) (blank_image (default_config protocol))
      (generated start count (default_config protocol)) left replies
  pub said : p.text
      ≡ summary_line start count protocol
      (length (generated start count (default_config protocol))) replies

-- the replies of a run of the map machine from this image on, whose pages are buckets, and the file of the image with
-- which the run ends, under the same configuration and with the same retired blocks
pub record IsKeyed (name : List ℕ) (its : Config) (image : List Contents) (extras : Extras)
    (commands : List KeyCommand) (p : OutputState) : Type 0 where
  pub bytes : List ℕ
  pub saves : p.saved ≡ Some (record { name = name; bytes = bytes })
  pub left : List Contents
  pub run : IsKeysRun its image commands left p.text
  pub spelled : Spells bytes its left extras

-- the file of the image in which a block was retired, under the same configuration and with one block more retired, and
-- a line that names the block
pub record IsRetired (name : List ℕ) (its : Config) (image : List Contents) (extras : Extras)
    (block : ℕ) (p : OutputState) : Type 0 where
  pub bytes : List ℕ
  pub saves : p.saved ≡ Some (record { name = name; bytes = bytes })
  pub left : List Contents
  pub empties : EmptiesBlock its image block left
  pub spelled : Spells bytes its left (one_more extras)
  pub said : p.text ≡ line (codes "retired " ++ decimal block)

-- a line, and no file: what was found, or a refusal
pub record IsRefused (text : List ℕ) (p : OutputState) : Type 0 where
  pub saves_nothing : p.saved ≡ None
  pub said : p.text ≡ text

-- what an ending gives
abbrev pub Gives : Ending → OutputState → Type 0
Gives (Tried commands) p = IsTried commands p
Gives (Formatted name its allowance) p = IsFormatted name its allowance p
Gives (Ran name its image extras commands) p = IsRan name its image extras commands p
Gives (Explained its image) p = IsExplained its image p
Gives (SummedUp start count protocol) p = IsSummedUp start count protocol p
Gives (Keyed name its image extras commands) p = IsKeyed name its image extras commands p
Gives (Retired name its image extras block) p = IsRetired name its image extras block p
Gives refused p = IsRefused (refusal_line refused) p
