use Rattle.live_flash.proofs.Common.{◌≡◌, ℕ, ◌+◌, ◌*◌, ◌<◌, ◌≤◌, length, sym, ap, subst, ◌∙◌, arith, Shape, slot_at, slot_bytes, slot_offset, WritesFile, BothTell, IsSlot}
use Rattle.std.specs.Fork.{slice_chunk}
use Rattle.std.proofs.Math.Nat.{mul-le-mul_right}
use Rattle.std.proofs.lemmas.List.{length-take-le}
use Rattle.live_flash.proofs.Runs.{slots_room, programs_told}
use Rattle.live_flash.proofs.follower.write_slots.Goals as goal

pub write_at-requires : goal.write_at-requires
write_at-requires g c =
    let shape = c.args.memory.now.shape in
    let same = c.shape-shape.ensures.shape in
    let count = c.args.count in
    let sizes : c.slot_bytes-size.result ≡ slot_bytes shape.page_bytes =
    c.slot_bytes-size.ensures ∙ ap (λ (s : Shape). slot_bytes s.page_bytes) same in
    let few : count * c.slot_bytes-size.result ≤ length c.args.room.now =
    subst (λ b. count * b ≤ length c.args.room.now) (sym sizes)
    (omega (arith, mul-le-mul_right (slot_bytes shape.page_bytes) c.requires.few, c.requires.room)) in
    record {
      within = slots_room shape c.args.first.0 count c.slot_offset.result (length c.fill_slots.new.places)
          (g.S.Store.told c.args.store.now) c.requires.exist
          (c.slot_offset.ensures ∙ ap (λ (s : Shape). slot_offset s c.args.first.0) same)
          (c.fill_slots.ensures.long ∙ length-take-le (count * c.slot_bytes-size.result) c.args.room.now few
          ∙ ap (λ b. count * b) sizes)
          c.requires.opened;
    }

pub returns-clause-turns : goal.returns-clause-turns
returns-clause-turns g c =
    let m = c.args.memory.now in
    let same = c.shape-shape.ensures.shape in
    let count = c.args.count in
    let first = c.args.first.0 in
    let places = c.fill_slots.new.places in
    let sizes : c.slot_bytes-size.result ≡ slot_bytes m.shape.page_bytes =
    c.slot_bytes-size.ensures ∙ ap (λ (s : Shape). slot_bytes s.page_bytes) same in
    let few : count * c.slot_bytes-size.result ≤ length c.args.room.now =
    subst (λ b. count * b ≤ length c.args.room.now) (sym sizes)
    (omega (arith, mul-le-mul_right (slot_bytes m.shape.page_bytes) c.requires.few, c.requires.room)) in
    let offset : c.slot_offset.result ≡ slot_offset m.shape first =
    c.slot_offset.ensures ∙ ap (λ (s : Shape). slot_offset s first) same in
    programs_told m.shape first count places c.write_at.result (g.S.Store.told c.args.store.now)
    (g.S.Store.told c.write_at.new.self) m.image c.shape-shape.ensures.whole
    (c.fill_slots.ensures.long ∙ length-take-le (count * c.slot_bytes-size.result) c.args.room.now few
    ∙ ap (λ b. count * b) sizes)
    (subst (λ b. (k : ℕ) → k < count → IsSlot m.shape.page_bytes (slot_at m.image (first + k))
    (slice_chunk places b k)) sizes c.fill_slots.ensures.slots)
    (subst (λ n. BothTell (WritesFile n places c.write_at.result) (g.S.Store.told c.args.store.now)
    (g.S.Store.told c.write_at.new.self)) offset c.write_at.ensures.writes)
