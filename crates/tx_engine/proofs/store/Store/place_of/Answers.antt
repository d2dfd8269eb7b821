mod Locating
use Rattle.tx_engine.proofs.Common.{◌≡◌, true, false, subst, sym, option_map, Matches, discarded_of}
use Rattle.tx_engine.specs.Read.{current_place}
use Rattle.tx_engine.proofs.store.Store.place_of.Answers.Locating.{home_place, located, located_off, not_victim, nowhere, off_place, place_home}
use Rattle.tx_engine.proofs.OfTables.WrittenPages.{discard_known}
use Rattle.tx_engine.proofs.store.Store.place_of.Goals as goal

pub returns-then-discards : goal.returns-then-discards
returns-then-discards g c =
    let s = g.F.Flash.state c.self.inside.flash in
    let d = c.self.inside in
    let stored = rw (← c.self.view_is) at c.requires.stored in
    let within = rw (← c.self.view_is) at c.requires.page in
    let notes = c.known_image_is_sound.ensures.notes s d.index d.blocks d.unsure stored.matches stored.rule in
    let array = c.known_image_is_sound.ensures.array s d.index d.blocks d.unsure stored.matches stored.rule in
    let discards : discarded_of d.index c.args.page ≡ true = sym c.if-discards.ensures in
    rw (← c.self.view_is) (record {
      none = discard_known g.R.CommitRule.protocol s d.index d.blocks d.unsure stored.matches stored.rule notes array
          c.args.page within discards;
      place = tt;
      slot = nowhere d.index d.unsure c.args.page discards;
    })

pub returns-in-VictimErase : goal.returns-in-VictimErase
returns-in-VictimErase g c =
    let s = g.F.Flash.state c.self.inside.flash in
    let d = c.self.inside in
    let m = subst (Matches s d.index d.blocks) c.in-VictimErase.is
    (rw (← c.self.view_is) at c.requires.stored).matches in
    let held : discarded_of d.index c.args.page ≡ false = sym c.if-discards.ensures in
    let off = located_off s d.index d.blocks c.in-VictimErase.block m c.args.page c.locate_off.result
    c.locate_off.ensures.lowest held
    c.locate_off.ensures.holds in
    rw (← c.self.view_is) (record {
      none = off.0;
      place = off.1;
      slot = off_place d.index d.unsure c.args.page (option_map (λ at. at.0) c.locate_off.result) held
          (subst (λ u. option_map (λ at. at.0) c.locate_off.result ≡ current_place d.index u c.args.page)
          (sym c.in-VictimErase.is) c.locate_off.ensures.lowest);
    })

pub returns-in-Nothing : goal.returns-in-Nothing
returns-in-Nothing g c =
    let s = g.F.Flash.state c.self.inside.flash in
    let d = c.self.inside in
    let m = (rw (← c.self.view_is) at c.requires.stored).matches in
    let held : discarded_of d.index c.args.page ≡ false = sym c.if-discards.ensures in
    let place = place_home d.index c.args.page (option_map (λ at. at.0) c.locate.result) held c.locate.ensures.home in
    let home = located s d.index d.blocks d.unsure m c.args.page c.locate.result (not_victim d.unsure c.in-Nothing.is)
    place held c.locate.ensures.none c.locate.ensures.holds in
    rw (← c.self.view_is) (record {
      none = home.0;
      place = home.1;
      slot = home_place d.index d.unsure c.args.page (option_map (λ at. at.0) c.locate.result)
          (not_victim d.unsure c.in-Nothing.is) c.locate.ensures.home;
    })
