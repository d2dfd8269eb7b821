-- What is told of a file in memory.
use Rattle.std.specs.Prelude.{◌≡◌, ℕ, pos, true, false, List, [], length}
use Rattle.durable_folder.specs.FolderState.{newest}
use Rattle.durable_folder.specs.declared.folder.Found.{Found}
use Rattle.mem_folder.specs.Changes.{held}
use Rattle.mem_folder.specs.declared.change.Change.{Change}

-- a plain file of one name, with this number on the one device
pub record IsOf (changes : List Change) (file : ℕ) (found : Found) : Type 0 where
  pub is_file : found.is_file ≡ true
  pub is_link : found.is_link ≡ false
  pub names : found.names ≡ 1
  pub device : found.device ≡ 0
  pub inode : found.inode ≡ file
  pub user : found.user ≡ 0
  pub group : found.group ≡ 0
  pub size : found.size ≡ length (newest [] (held changes file))
  pub seconds : found.seconds ≡ pos 0
  pub billionths : found.billionths ≡ pos 0
