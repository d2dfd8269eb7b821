-- A new file, by its name and its handle.
use Rattle.std.specs.Prelude.{ℕ, List}
use Rattle.std.specs.Path.{path_buf_bytes}
use Rattle.durable_folder.specs.declared.new_file.NewFile.{NewFile}
use Rattle.durable_folder.specs.Calls.{Handle}

abbrev pub handle_of : {H : Type 0} → (H → Handle) → NewFile H → Handle
handle_of handle new = handle new.file

abbrev pub beside_of : {H : Type 0} → NewFile H → List ℕ
beside_of new = path_buf_bytes new.name
