mod DeviceMentions
use Rattle.tx_engine.proofs.Common.{◌≡◌, ap, ◌∙◌, rules, subst, sym, Config, IsSoundImage, array_in, known_image}
use Rattle.tx_engine.proofs.OfLaws.DevicesStand.{device_array, known_records, known_versions}
use Rattle.tx_engine.proofs.theorems.device_invariant.Answers.DeviceMentions.{device_mentions}
use Rattle.tx_engine.proofs.theorems.device_invariant.Goals as goal

pub returns : goal.returns
returns g c = record {
  sound = λ s stands rule. search rules;
  known = λ s stands rule.
      let state = g.F.Flash.state in let p = g.R.CommitRule.protocol in
      let image = known_image s.noted s.table.spare s.unsure (state s.flash).image in
      let noted : s.noted.config.protocol ≡ p = ap (λ (k : Config). k.protocol) (sym stands.config) ∙ rule in (
        subst (λ (k : Config). IsSoundImage p k.logical (state s.flash).shape image) (sym stands.config)
            (c.known_image_is_sound.ensures.sound (state s.flash) s.noted s.table s.unsure stands.matches noted),
        subst (λ (k : Config). array_in p k.logical image ≡ s.machine.pages) (sym stands.config)
            (c.known_image_is_sound.ensures.array (state s.flash) s.noted s.table s.unsure stands.matches noted
            ∙ sym stands.array),
      );
  known_records = known_records g.F.Flash.state g.R.CommitRule.protocol c.known_image_is_sound.ensures.notes;
  known_versions = λ s page h rule. known_versions g.F.Flash.state g.R.CommitRule.protocol
      c.known_image_is_sound.ensures.notes s h rule page;
  array = device_array g.F.Flash.state g.R.CommitRule.protocol c.image_is_sound.ensures c.noting_keeps.ensures;
  records = λ s stands rule sure. search rules;
  mentions = device_mentions g.F.Flash.state g.R.CommitRule.protocol c.image_is_sound.ensures;
}
