use Rattle.desk_tasks.proofs.Common.{◌∙◌, ap, MemFlashState}
use Rattle.desk_tasks.proofs.RunLemmas.{is_steady}
use Rattle.desk_tasks.proofs.KeyEndings.{is_keys_run, keys_unserved}
use Rattle.desk_tasks.proofs.keying.serve_keys_by.Goals as goal

pub returns-in-Ok-clause-run : goal.returns-in-Ok-clause-run
returns-in-Ok-clause-run g c =
    let done = c.in-Ok.is in
    let image = rw done at (c.key_serve-flash.ensures.steady (is_steady c.args.config c.args.flash c.requires.ready)) in
    let served = rw done at (c.key_serve-flash.ensures.serves image) in
    is_keys_run c.args.config c.args.flash c.key_serve-flash.result.0 c.args.list.now
    c.new-replies.result.items c.key_serve-flash.new.out.items c.requires.ready
    c.new-replies.ensures.items served

pub returns-in-Ok-clause-shape : goal.returns-in-Ok-clause-shape
returns-in-Ok-clause-shape g c =
    c.key_serve-flash.ensures.shape ∙ ap (λ (s : MemFlashState). s.shape) c.requires.ready

pub returns-in-Err-clause-err : goal.returns-in-Err-clause-err
returns-in-Err-clause-err g c =
    let done = c.in-Err.is in
    keys_unserved c.args.config c.args.flash c.key_serve-flash.result.0 c.args.list.now c.new-replies.result.items
    c.key_serve-flash.new.out.items c.in-Err.error c.from.result c.from.ensures
    (λ image. rw done at (c.key_serve-flash.ensures.serves image))
    (λ broken. rw done at (c.key_serve-flash.ensures.refuses broken))
