use Rattle.image_file.proofs.Common.{refl, ap, ◌∙◌, shape_of, config_in, image_in, extras_in}
use Rattle.std.proofs.lemmas.Result.{err_from_is_err_and}
use Rattle.list_lemmas.proofs.Bytes.{IsBytes-all}
use Rattle.mem_flash.specs.MemFlashState.{MemFlashState}
use Rattle.image_file.specs.Header.{extras_of}
use Rattle.image_file.proofs.HeaderLemmas.{header_holds}
use Rattle.image_file.proofs.SpellingLemmas.{read_spelled, config_in-spelling, image_in-spelling, extras_in-spelling}
use Rattle.image_file.proofs.RefusalLemmas.{refused_header, refused_slots, spelled_memory, nothing_broken, reading-read}
use Rattle.image_file.proofs.image.take_image.Goals as goal

pub returns-in_err-header-clause-only : goal.returns-in_err-header-clause-only
returns-in_err-header-clause-only c =
    let p = err_from_is_err_and c.from_residual.result c.from_residual.ensures.1 in
    let header = rw c.deref.ensures.value at c.in_err-header.ensures.answer in
    rw (p.1, p.2) (λ config image extras spelled.
    (spelled_memory c.args.bytes.items _ (refused_header c.args.bytes.items _ header) config image extras spelled, tt))

pub returns-in_err-header-clause-error : goal.returns-in_err-header-clause-error
returns-in_err-header-clause-error c =
    let p = err_from_is_err_and c.from_residual.result c.from_residual.ensures.1 in
    let header = rw c.deref.ensures.value at c.in_err-header.ensures.answer in
    rw (p.1, p.2) (refused_header c.args.bytes.items _ header)

pub returns-in_err-flash-clause-only : goal.returns-in_err-flash-clause-only
returns-in_err-flash-clause-only c =
    let p = err_from_is_err_and c.from_residual-in_err-flash.result c.from_residual-in_err-flash.ensures.1 in
    let header = rw c.deref.ensures.value at c.in_ok-header.ensures.answer in
    rw (p.1, p.2) (λ config image extras spelled. (
      spelled_memory c.args.bytes.items _ (refused_slots c.args.bytes.items _ header.0 c.in_err-flash.ensures.error)
          config image extras spelled,
      tt,
    ))

pub returns-in_err-flash-clause-error : goal.returns-in_err-flash-clause-error
returns-in_err-flash-clause-error c =
    let p = err_from_is_err_and c.from_residual-in_err-flash.result c.from_residual-in_err-flash.ensures.1 in
    let header = rw c.deref.ensures.value at c.in_ok-header.ensures.answer in
    rw (p.1, p.2) (refused_slots c.args.bytes.items _ header.0 c.in_err-flash.ensures.error)

pub returns-clause-spelled : goal.returns-clause-spelled
returns-clause-spelled c =
    let bytes = c.args.bytes.items in
    let header = rw c.deref.ensures.value at c.in_ok-header.ensures.answer in
    let fits = rw c.deref.ensures.value at c.in_ok-header.ensures.bytes in
    let image_is = ap (λ (s : MemFlashState). s.image) c.set_extras.ensures
    ∙ ap (λ (s : MemFlashState). s.image) c.in_ok-flash.ensures.ok.1 in
    let extras_is = ap (λ (s : MemFlashState). s.extras) c.set_extras.ensures ∙ header.1.extras in
    rw (header.1.config, image_is, extras_is)
    (read_spelled bytes (IsBytes-all bytes fits) (nothing_broken bytes header.0 c.in_ok-flash.ensures.ok.0))

pub returns-clause-check : goal.returns-clause-check
returns-clause-check c =
    let header = rw c.deref.ensures.value at c.in_ok-header.ensures.answer in
    let shape_is =
    ap (λ (s : MemFlashState). s.shape) c.set_extras.ensures
    ∙ ap (λ (s : MemFlashState). s.shape) c.in_ok-flash.ensures.ok.1
    ∙ header.1.shape ∙ ap shape_of header.1.config in
    rw (header.1.config, shape_is) (header_holds c.args.bytes.items header.0).checks

pub returns-clause-only : goal.returns-clause-only
returns-clause-only c = λ config image extras spelled.
    let header = rw c.deref.ensures.value at c.in_ok-header.ensures.answer in
    let config_is = header.1.config ∙ ap config_in spelled.same ∙ config_in-spelling config image extras spelled.can in
    let image_is = ap image_in spelled.same ∙ image_in-spelling config image extras spelled.can in
    let extras_is = header.1.extras ∙ ap extras_in spelled.same ∙ extras_in-spelling config image extras spelled.can in
    let shape_is = header.1.shape ∙ ap shape_of config_is in (
      tt,
      (
        config_is,
        c.set_extras.ensures
            ∙ ap (λ (s : MemFlashState). record s { extras = extras_of c.in_ok-header.header })
            c.in_ok-flash.ensures.ok.1
            ∙ rw (shape_is, image_is, extras_is) refl,
      ),
    )

pub returns-clause-found : goal.returns-clause-found
returns-clause-found c =
    let bytes = c.args.bytes.items in
    let header = rw c.deref.ensures.value at c.in_ok-header.ensures.answer in
    let image_is = ap (λ (s : MemFlashState). s.image) c.set_extras.ensures
    ∙ ap (λ (s : MemFlashState). s.image) c.in_ok-flash.ensures.ok.1 in
    let extras_is = ap (λ (s : MemFlashState). s.extras) c.set_extras.ensures ∙ header.1.extras in
    rw (header.1.config, image_is, extras_is)
    (reading-read bytes (nothing_broken bytes header.0 c.in_ok-flash.ensures.ok.0))
