use Rattle.std.proofs.Common.{Err, inl, inr}
use Rattle.program_base.specs.Statuses.{code}
use Rattle.desk_tasks.specs.Stops.{output_of}
use Rattle.command_line.specs.Disk.{Short}
use Rattle.command_line.proofs.DiskEndings.{delivered, delivered_on_disk, met_fault, starved}
use Rattle.command_line.proofs.call.deliver.Goals as goal

pub returns-in-Ok-clause-delivers : goal.returns-in-Ok-clause-delivers
returns-in-Ok-clause-delivers g c =
    delivered (output_of c.args.product.now) (g.D.Desk.state c.args.desk.now) (g.D.Desk.state c.put.new.desk)
    (g.D.Desk.state c.say.new.desk) (code c.say.result)
    c.in-Ok.ensures.puts (rw c.as_slice.ensures at c.say.ensures.speaks)

pub returns-in-Ok-clause-disk : goal.returns-in-Ok-clause-disk
returns-in-Ok-clause-disk g c =
    delivered_on_disk g.D.Desk.state g.D.Desk.disk (output_of c.args.product.now) c.args.desk.now c.put.new.desk
    c.say.new.desk (code c.say.result)
    c.in-Ok.ensures.puts c.in-Ok.ensures.disk (rw c.as_slice.ensures at c.say.ensures.speaks) c.say.ensures.disk

pub returns-in-Err-Failed-clause-delivers : goal.returns-in-Err-Failed-clause-delivers
returns-in-Err-Failed-clause-delivers g c =
    met_fault (output_of c.args.product.now) (g.D.Desk.state c.args.desk.now) (g.D.Desk.state c.put.new.desk)
    (g.D.Desk.state c.desk_fault.new.desk)
    (code c.desk_fault.result) (rw c.in-Err-Failed.field-0-is at c.in-Err-Failed.ensures.puts) c.desk_fault.ensures.told

pub returns-in-Err-Failed-clause-disk : goal.returns-in-Err-Failed-clause-disk
returns-in-Err-Failed-clause-disk g c =
    Short (inl c.desk_fault.ensures.told.0) (
      g.D.Desk.disk c.put.new.desk,
      Err c.in-Err-Failed.field-0,
      c.in-Err-Failed.ensures.disk,
      c.desk_fault.ensures.disk,
    )

pub returns-in-Err-Memory-clause-delivers : goal.returns-in-Err-Memory-clause-delivers
returns-in-Err-Memory-clause-delivers g c =
    starved (output_of c.args.product.now) (g.D.Desk.state c.args.desk.now) (g.D.Desk.state c.put.new.desk)
    (g.D.Desk.state c.no_memory.new.desk)
    (code c.no_memory.result) (rw c.in-Err-Memory.field-0-is at c.in-Err-Memory.ensures.puts) c.no_memory.ensures.told

pub returns-in-Err-Memory-clause-disk : goal.returns-in-Err-Memory-clause-disk
returns-in-Err-Memory-clause-disk g c =
    Short (inr c.no_memory.ensures.told.0) (
      g.D.Desk.disk c.put.new.desk,
      Err c.in-Err-Memory.field-0,
      c.in-Err-Memory.ensures.disk,
      c.no_memory.ensures.disk,
    )
