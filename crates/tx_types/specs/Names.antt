-- The names of records.
use Rattle.std.specs.Prelude.{◌==◌, Bool, ◌&&◌}
use Rattle.tx_types.specs.declared.record.Link.{Link}
use Rattle.tx_types.specs.declared.record.Rec.{Rec}

-- a record's own name
abbrev pub name_of : Rec → Link
name_of r = record { page = r.page; version = r.version }

abbrev pub has_name : Link → Rec → Bool
has_name name r = (r.page == name.page) && (r.version == name.version)
