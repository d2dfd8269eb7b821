mod Between
use Rattle.record_list.proofs.OfFacts.SoundNames.{sound_map, clear_from, clear_gives}
use Rattle.straddle_sets.proofs.theorems.straddlers_by_place.Answers.Between.{answers_straddle, current_clear, clear_high}
use Rattle.straddle_sets.proofs.Straddle.{none_above}
use Rattle.tx_types.specs.declared.config.Protocol.TheVariants.{Bpcc}
use Rattle.straddle_sets.proofs.theorems.straddlers_by_place.Goals as goal

pub returns : goal.returns
returns c = record {
  below = λ list logical name scanned sound below. answers_straddle list logical
      (sound_map Bpcc list logical sound scanned) name below;
  current = λ list logical name scanned sound at. clear_gives list name
      (current_clear list logical (sound_map Bpcc list logical sound scanned) name at);
  above = λ list logical name scanned sound above. (
    λ none. clear_high list logical (sound_map Bpcc list logical sound scanned) name above (clear_from list name none),
    λ low. none_above list name low,
  );
}
