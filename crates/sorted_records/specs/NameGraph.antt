-- Where the links of all records lead, as a graph of the places of the records.
use Rattle.std.specs.Prelude.{◌≡◌, ℕ, Option, List, map, position, All}
use Rattle.record_list.specs.declared.found.Found.{Found}
use Rattle.record_list.specs.Records.{name_of, has_name}

-- the graph of the places of records, each of which leads to that of the first record that its link names
abbrev pub name_graph : List Found → List (Option ℕ)
name_graph list = map (λ f. position (λ g. has_name f.rec.next g.rec) list) list

-- records of one name are equal, whatever their slots
abbrev pub NamesakesAgree : List Found → Type 0
NamesakesAgree list = All (λ f. All (λ g. name_of f.rec ≡ name_of g.rec → f.rec ≡ g.rec) list) list
