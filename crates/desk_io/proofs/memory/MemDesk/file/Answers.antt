use Rattle.std.proofs.Common.{Some, ap, sym, ◌∙◌}
use Rattle.std.specs.Option.{option_map, option_copied}
use Rattle.desk_io.proofs.DeskFiles.{file_at-kept}
use Rattle.desk_io.proofs.memory.MemDesk.file.Goals as goal

pub returns-in_err-bytes : goal.returns-in_err-bytes
returns-in_err-bytes c =
    rw (← c.self.view_is) (ap option_copied c.from_residual.ensures
    ∙ ap (option_map (λ v. v.items)) c.in_err-bytes.ensures.value
    ∙ sym (file_at-kept c.self.inside.files c.args.name.now))

pub returns : goal.returns
returns c =
    rw (← c.self.view_is) (ap Some c.as_slice.ensures.value ∙ ap (option_map (λ v. v.items)) c.in_ok-bytes.ensures.value
    ∙ sym (file_at-kept c.self.inside.files c.args.name.now))
