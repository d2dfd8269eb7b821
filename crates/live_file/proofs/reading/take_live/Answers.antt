use Rattle.std.proofs.Common.{◌≡◌, refl, sym, ap, subst, ◌∙◌}
use Rattle.std.proofs.lemmas.Result.{err_from_is_err_and}
use Rattle.image_file.specs.InUse.{IsInUse}
use Rattle.image_file.proofs.InUseLemmas.{in_use_unbroken}
use Rattle.live_image.specs.Slots.{IsCounted}
use Rattle.live_file.specs.Reading.{as_image}
use Rattle.live_file.specs.declared.error.LiveError.TheVariants as error
use Rattle.live_file.proofs.AsImage.{chunk_is, lives_as, lives_begin, lives_counted, has_slots, back_lives}
use Rattle.live_file.proofs.reading.take_live.Goals as goal

pub returns-in_err-check_magic-clause-only : goal.returns-in_err-check_magic-clause-only
returns-in_err-check_magic-clause-only c = λ config image extras live.
    let begins = lives_begin c.args.bytes.now config image extras live in
    let broken = c.in_err-check_magic.ensures.answer in
    absurd (let none = sym begins ∙ broken in cc)

pub returns-in_err-config-clause-only : goal.returns-in_err-config-clause-only
returns-in_err-config-clause-only c =
    let bytes = c.args.bytes.now in
    let count = c.count_slots-count.result in
    let p = err_from_is_err_and c.from_residual-in_err-config.result c.from_residual-in_err-config.ensures.1 in
    rw (p.1, p.2) (λ config image extras live.
    let said = subst (λ b. IsInUse b config image extras) (sym c.in_ok-image.ensures)
    (lives_as bytes count config image extras c.count_slots-count.ensures.counts live) in
    (ap (λ r. error.Image r) (c.in_err-config.ensures.only config image extras said).0, tt))

pub returns-in-None-clause-live : goal.returns-in-None-clause-live
returns-in-None-clause-live c =
    let bytes = c.args.bytes.now in
    let count = c.count_slots-count.result in
    let config = c.in_ok-config.config in
    let m = c.in_ok-config.memory in
    back_lives bytes count config m.image m.extras c.in_ok-check_magic.ensures.answer
    c.count_slots-count.ensures.counts
    (subst (λ b. IsInUse b config m.image m.extras) c.in_ok-image.ensures c.in_ok-config.ensures.said)
    (λ k inside. subst IsCounted (chunk_is bytes c.slot_size-size.result k c.slot_size-size.ensures)
    (c.in-None.ensures.none refl k inside))

pub returns-in-None-clause-only : goal.returns-in-None-clause-only
returns-in-None-clause-only c = λ config image extras live.
    let bytes = c.args.bytes.now in
    let count = c.count_slots-count.result in
    c.in_ok-config.ensures.only config image extras
    (subst (λ b. IsInUse b config image extras) (sym c.in_ok-image.ensures)
    (lives_as bytes count config image extras c.count_slots-count.ensures.counts live))

pub returns-in-Some-clause-only : goal.returns-in-Some-clause-only
returns-in-Some-clause-only c = λ config image extras live.
    let bytes = c.args.bytes.now in
    let count = c.count_slots-count.result in
    let first = c.in-Some.ensures.first in
    absurd (first.2 (subst IsCounted (sym (chunk_is bytes c.slot_size-size.result c.in-Some.at
    c.slot_size-size.ensures))
    (lives_counted bytes config image extras live count c.count_slots-count.ensures.counts c.in-Some.at first.0)))

pub returns-in-Some-clause-error : goal.returns-in-Some-clause-error
returns-in-Some-clause-error c =
    let bytes = c.args.bytes.now in
    let count = c.count_slots-count.result in
    let size = c.slot_size-size.result in
    let config = c.in_ok-config.config in
    let m = c.in_ok-config.memory in
    let begins = c.in_ok-check_magic.ensures.answer in
    let said = subst (λ b. IsInUse b config m.image m.extras) c.in_ok-image.ensures c.in_ok-config.ensures.said in
    let first = c.in-Some.ensures.first in (
      begins,
      (
        count,
        has_slots bytes count config m.image m.extras begins c.count_slots-count.ensures.counts said,
        in_use_unbroken (as_image bytes count) config m.image m.extras said,
        first.0,
        λ k below. subst IsCounted (chunk_is bytes size k c.slot_size-size.ensures) (first.1 k below),
        λ it. first.2 (subst IsCounted (sym (chunk_is bytes size c.in-Some.at c.slot_size-size.ensures)) it),
      ),
    )
