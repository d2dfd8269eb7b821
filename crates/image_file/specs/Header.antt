-- What is read of the header of an image file.
use Rattle.std.specs.Prelude.{◌≡◌, ℕ, ◌≤◌, List}
use Rattle.tx_types.specs.Config.{shape_of, IsShape}
use Rattle.flash_model.specs.Flash.{Extras}
use Rattle.flash_model.specs.Retiring.{max_allowance}
use Rattle.image_file.specs.Rules.{config_in, extras_in}
use Rattle.image_file.specs.declared.header.Header.{Header}

-- what it tells of retired blocks
abbrev pub extras_of : Header → Extras
extras_of header = record { allowance = header.allowance; retired = header.retired }

-- this stands in the header of these bytes
pub record IsHeader (bytes : List ℕ) (header : Header) : Type 0 where
  pub config : header.config ≡ config_in bytes
  pub shape : header.shape ≡ shape_of header.config
  pub bounds : IsShape header.shape
  pub extras : extras_of header ≡ extras_in bytes
  pub within : header.retired ≤ header.allowance
  pub few : header.allowance ≤ max_allowance
