mod KnownImages
use Rattle.collector.proofs.Common.{◌≡◌, subst, IsSoundImage, array_in, notes_of, array_known}
use Rattle.collector.specs.Known.{known_image}
use Rattle.collector.proofs.theorems.known_image_is_sound.Answers.KnownImages.{known_sound, known_notes, known_array, unsure_spelled}
use Rattle.collector.proofs.theorems.known_image_is_sound.Goals as goal

pub returns : goal.returns
returns g c = record {
  sound = λ s n t u m rule.
      subst (λ q. IsSoundImage q n.config.logical s.shape (known_image n t.spare u s.image)) rule
      (known_sound s n t u m (unsure_spelled s n t u m));
  notes = λ s n t u m rule.
      subst (λ q. notes_of q (known_image n t.spare u s.image) ≡ n.notes) rule
      (known_notes s n t u m (unsure_spelled s n t u m));
  array = λ s n t u m rule.
      subst (λ q. array_in q n.config.logical (known_image n t.spare u s.image) ≡ array_known n s.image) rule
      (known_array s n t u m (unsure_spelled s n t u m));
}
