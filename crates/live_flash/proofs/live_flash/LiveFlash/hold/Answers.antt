use Rattle.live_flash.proofs.Common.{◌≡◌, ◌≤◌, [], length, slots_of, map, replicate, None, IfSome, sym, ap, subst, ◌∙◌, rules, Shape, IsImage, AreProgrammed, IsProgrammed, IsOpened, IsLiveFile, Follows, LeavesCounted}
use Rattle.std.specs.Vec.{vec_capacity}
use Rattle.std.proofs.lemmas.List.{length-replicate}
use Rattle.std.proofs.lemmas.List.Elements.{All-nil}
use Rattle.list_lemmas.proofs.Bytes.{IsBytes-all}
use Rattle.tx_types.specs.Config.{shape_of}
use Rattle.mem_flash.specs.MemFlashState.{MemFlashState}
use Rattle.file_flash.specs.FileFlashState.{slot_loaded}
use Rattle.file_flash.specs.Opening.{IsDurable}
use Rattle.file_flash.proofs.Keeping.{none_loaded}
use Rattle.file_flash.proofs.Told.{weaken}
use Rattle.live_file.specs.Spelling.{live_header, live_spelling}
use Rattle.live_flash.specs.Waiting.{HasRoom, room_bytes}
use Rattle.live_flash.proofs.Waiting.{none_waits}
use Rattle.live_flash.proofs.Spelled.{held_opened, held_file, held_follows, held_counts}
use Rattle.live_flash.proofs.live_flash.LiveFlash.hold.Goals as goal

pub invariant_of-result : goal.invariant_of-result
invariant_of-result g c =
    let told = g.S.Store.told c.args.store in
    let m = c.args.memory in
    let config = c.args.config in
    let shape = ap (λ (x : MemFlashState). x.shape) c.requires.memory in
    let is : IsImage (shape_of config) m.image = subst (λ (s : Shape). IsImage s m.image) shape
    c.shape-shape.ensures.whole in
    let bytes = IsBytes-all (live_spelling config m.image m.extras) c.requires.bytes in
    let none : c.in-Ok.waiting.items ≡ [] = search rules in
    let long : length c.in-Ok.room.items ≡ room_bytes c.shape-shape.result = search rules in
    let places : c.in-Ok.loaded.items ≡ replicate c.shape-shape.result.dies None = search rules in
    let wide : slots_of c.shape-shape.result ≤ vec_capacity c.in-Ok.waiting = search rules in
    let dies = ap (λ (s : Shape). s.dies) (c.shape-shape.ensures.shape ∙ shape) in
    record {
      checks = c.requires.checks;
      shape = shape;
      within = c.retired.ensures.within;
      few = c.allowance.ensures.few;
      file = subst (λ s. IfSome told (IsLiveFile s (live_header config m.extras))) (sym shape)
          (weaken (IsDurable (live_spelling config m.image m.extras))
          (IsLiveFile (shape_of config) (live_header config m.extras)) told c.requires.held
          (λ a d. held_file config m.image m.extras is a d bytes));
      counts = subst (λ s. IfSome told (LeavesCounted s)) (sym shape)
          (weaken (IsDurable (live_spelling config m.image m.extras)) (LeavesCounted (shape_of config)) told
          c.requires.held (λ a d. held_counts config m.image m.extras is a d bytes));
      opened = λ e. subst (λ s. IfSome told (IsOpened s)) (sym shape)
          (weaken (IsDurable (live_spelling config m.image m.extras)) (IsOpened (shape_of config)) told
          c.requires.held (λ a d. held_opened config m.image m.extras is a d bytes));
      follows = λ e. subst (λ w. IfSome told (Follows m.shape m.image [] w)) (sym none)
          (subst (λ s. IfSome told (Follows s m.image [] [])) (sym shape)
          (weaken (IsDurable (live_spelling config m.image m.extras)) (Follows (shape_of config) m.image [] []) told
          c.requires.held (λ a d. held_follows config m.image m.extras is a d bytes)));
      programmed = λ e. subst (λ w. AreProgrammed m.image w) (sym none) (All-nil (IsProgrammed m.image));
      cause = λ e. absurd (cc);
      places = λ e. subst (λ s. HasRoom s (vec_capacity c.in-Ok.waiting) c.in-Ok.waiting.items) c.shape-shape.ensures.shape
          (subst (HasRoom c.shape-shape.result (vec_capacity c.in-Ok.waiting)) (sym none)
          (none_waits c.shape-shape.result (vec_capacity c.in-Ok.waiting) wide));
      room = long ∙ ap room_bytes c.shape-shape.ensures.shape;
      loaded = places ∙ ap (λ n. replicate n None) dies
          ∙ sym (ap (λ (x : MemFlashState). map slot_loaded x.registers) c.requires.memory ∙ none_loaded config.dies);
      dies = ap length places ∙ length-replicate c.shape-shape.result.dies None
          ∙ ap (λ (s : Shape). s.dies) c.shape-shape.ensures.shape;
    }
