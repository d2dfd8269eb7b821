-- How the replies of a run are kept.
use Rattle.std.specs.Prelude.{List, map}
use Rattle.desk_tasks.specs.Keeping.{KeptReply}
use Rattle.desk_tasks.specs.declared.kept.Entry.{Entry}
use Rattle.desk_tasks.specs.declared.kept.KeptReplies.TheInside.{Inside}

abbrev pub kept_by : Entry → KeptReply
kept_by e = record {
  told =
      record {
        text =
            e.text.items;
        moment =
            record { image = e.flash.image; programs = e.programs; erases = e.erases; started = e.started };
      };
  page_bytes = e.flash.shape.page_bytes;
}

abbrev pub kept_in : Inside → List KeptReply
kept_in k = map kept_by k.entries.items
