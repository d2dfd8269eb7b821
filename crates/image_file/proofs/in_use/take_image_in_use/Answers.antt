use Rattle.image_file.proofs.Common.{refl, ap, ◌∙◌, shape_of}
use Rattle.std.proofs.Common.{arith}
use Rattle.std.proofs.lemmas.List.{with_items_is}
use Rattle.std.proofs.lemmas.Result.{err_from_is_err_and}
use Rattle.list_lemmas.proofs.Bytes.{IsBytes-all}
use Rattle.mem_flash.specs.MemFlashState.{MemFlashState}
use Rattle.image_file.specs.Header.{extras_of}
use Rattle.image_file.proofs.HeaderLemmas.{header_holds}
use Rattle.image_file.proofs.InUseLemmas.{states_hold_of, in_use, in_use_memory, refused_header_in_use, refused_slots_in_use, config_said, image_said, extras_said}
use Rattle.image_file.proofs.in_use.take_image_in_use.Goals as goal

pub returns-in_err-header-clause-only : goal.returns-in_err-header-clause-only
returns-in_err-header-clause-only c =
    let p = err_from_is_err_and c.from_residual.result c.from_residual.ensures.1 in
    let header = rw c.deref.ensures.value at c.in_err-header.ensures.answer in
    rw (p.1, p.2) (λ config image extras said.
    (in_use_memory c.args.bytes.items _ (refused_header_in_use c.args.bytes.items _ header) config image extras said, tt))

pub returns-in_err-header-clause-error : goal.returns-in_err-header-clause-error
returns-in_err-header-clause-error c =
    let p = err_from_is_err_and c.from_residual.result c.from_residual.ensures.1 in
    let header = rw c.deref.ensures.value at c.in_err-header.ensures.answer in
    rw (p.1, p.2) (refused_header_in_use c.args.bytes.items _ header)

pub returns-in_err-seen-clause-only : goal.returns-in_err-seen-clause-only
returns-in_err-seen-clause-only c =
    let p = err_from_is_err_and c.from_residual-in_err-seen.result c.from_residual-in_err-seen.ensures.1 in
    let header = rw c.deref.ensures.value at c.in_ok-header.ensures.answer in
    let refused = rw c.deref_mut.ensures.value at c.in_err-seen.ensures.error in
    rw (p.1, p.2) (λ config image extras said. (
      in_use_memory c.args.bytes.items _ (refused_slots_in_use c.args.bytes.items _ header.0 refused) config image extras said,
      tt,
    ))

pub returns-in_err-seen-clause-error : goal.returns-in_err-seen-clause-error
returns-in_err-seen-clause-error c =
    let p = err_from_is_err_and c.from_residual-in_err-seen.result c.from_residual-in_err-seen.ensures.1 in
    let header = rw c.deref.ensures.value at c.in_ok-header.ensures.answer in
    let refused = rw c.deref_mut.ensures.value at c.in_err-seen.ensures.error in
    rw (p.1, p.2) (refused_slots_in_use c.args.bytes.items _ header.0 refused)

pub from_bytes-requires-clause-filled : goal.from_bytes-requires-clause-filled
from_bytes-requires-clause-filled c =
    let ok = rw c.deref_mut.ensures.value at c.in_ok-seen.ensures.ok in
    let whole = with_items_is c.args.bytes c.fill_slots.new.bytes (omega arith) in
    rw (whole, c.head_bytes-head.ensures) ok.filled

pub returns-clause-said : goal.returns-clause-said
returns-clause-said c =
    let bytes = c.args.bytes.items in
    let header = rw c.deref.ensures.value at c.in_ok-header.ensures.answer in
    let fits = rw c.deref.ensures.value at c.in_ok-header.ensures.bytes in
    let ok = rw c.deref_mut.ensures.value at c.in_ok-seen.ensures.ok in
    let whole = with_items_is c.args.bytes c.fill_slots.new.bytes (omega arith) in
    let flash = rw (whole, c.head_bytes-head.ensures) at c.in_ok-flash.ensures in
    let image_is = ap (λ (s : MemFlashState). s.image) c.set_extras.ensures
    ∙ ap (λ (s : MemFlashState). s.image) flash ∙ ok.image in
    let extras_is = ap (λ (s : MemFlashState). s.extras) c.set_extras.ensures ∙ header.1.extras in
    rw (header.1.config, image_is, extras_is)
    (in_use bytes (IsBytes-all bytes fits) (header_holds bytes header.0) (states_hold_of bytes ok.sound))

pub returns-clause-check : goal.returns-clause-check
returns-clause-check c =
    let header = rw c.deref.ensures.value at c.in_ok-header.ensures.answer in
    let shape_is =
    ap (λ (s : MemFlashState). s.shape) c.set_extras.ensures
    ∙ ap (λ (s : MemFlashState). s.shape) c.in_ok-flash.ensures
    ∙ header.1.shape ∙ ap shape_of header.1.config in
    rw (header.1.config, shape_is) (header_holds c.args.bytes.items header.0).checks

pub returns-clause-only : goal.returns-clause-only
returns-clause-only c = λ config image extras said.
    let bytes = c.args.bytes.items in
    let header = rw c.deref.ensures.value at c.in_ok-header.ensures.answer in
    let ok = rw c.deref_mut.ensures.value at c.in_ok-seen.ensures.ok in
    let whole = with_items_is c.args.bytes c.fill_slots.new.bytes (omega arith) in
    let flash = rw (whole, c.head_bytes-head.ensures) at c.in_ok-flash.ensures in
    let config_is = header.1.config ∙ config_said bytes config image extras said in
    let image_is = ok.image ∙ image_said bytes config image extras said in
    let extras_is = header.1.extras ∙ extras_said bytes config image extras said in
    let shape_is = header.1.shape ∙ ap shape_of config_is in (
      tt,
      (
        config_is,
        c.set_extras.ensures
            ∙ ap (λ (s : MemFlashState). record s { extras = extras_of c.in_ok-header.header }) flash
            ∙ rw (image_is, shape_is, extras_is) refl,
      ),
    )
