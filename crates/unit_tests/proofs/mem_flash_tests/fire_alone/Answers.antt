use Rattle.std.proofs.Common.{◌≡◌, ◌<◌, List, [], ◌∷◌, ◌++◌, length, sym, ap, ap₂, ◌∙◌, subst, arith}
use Rattle.std.proofs.lemmas.List.{length-replicate}
use Rattle.std.proofs.lemmas.List.Elements.{All-nil, All-cons}
use Rattle.flash_model.specs.Flash.{FlashState}
use Rattle.flash_model.specs.Operations.{Load, CanLoad, CanDo, die_of, fire}
use Rattle.flash_model.specs.Firing.{no_loads, loads_in, with_load}
use Rattle.unit_tests.proofs.mem_flash_tests.fire_alone.Goals as goal

pub fire-requires : goal.fire-requires
fire-requires g c =
    let old : FlashState = g.F.Flash.state c.args.flash.now in
    let load : Load = record { at = c.args.at.0; bytes = c.args.bytes.now; spare_area = c.args.spare_area.now } in
    let (none, free) = c.loads_come_in_order.ensures.none old.shape in
    let within : die_of old.shape load.at < length (no_loads old.shape) = rw length-replicate c.requires.die in
    let one : loads_in (g.F.Wide.registers c.load.new.self) ≡ load ∷ [] =
    ap loads_in c.load.ensures.loaded
    ∙ ap₂ (λ (s : FlashState) registers. loads_in (with_load s.shape registers load)) c.clear.ensures.stays
    c.clear.ensures.empty
    ∙ c.loads_come_in_order.ensures.more old.shape (no_loads old.shape) load within (λ k low. free k (omega arith))
    ∙ ap (λ (loads : List Load). loads ++ load ∷ []) none
    in
    let can : CanDo old.shape old.image (fire (load ∷ [])) = (
      All-cons (CanLoad old.shape old.image) load [] (c.requires.blank, c.requires.page, c.told-spare_area)
          (All-nil (CanLoad old.shape old.image)),
      λ i j d less below. absurd (omega arith),
    )
    in
    subst (λ loads. CanDo (g.F.Flash.state c.load.new.self).shape (g.F.Flash.state c.load.new.self).image (fire loads))
    (sym one)
    (subst (λ (s : FlashState). CanDo s.shape s.image (fire (load ∷ [])))
    (sym (c.load.ensures.stays ∙ c.clear.ensures.stays)) can)
