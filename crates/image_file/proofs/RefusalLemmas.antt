-- What the code found, as the first rule that is broken.
use Rattle.image_file.proofs.Common.{◌≡◌, ℕ, List, length, Option, Some, None, Ok, Err, refl, ap, ◌∙◌, eq-eqb, image_bytes, Config, Contents, Extras, cell_bytes, config_in, image_in, extras_in, shape_in, states_in, cells_in, all_seen, wrong_state, wrong_bytes, number_at, broken_header, broken_slots, ImageError}
use Rattle.std.specs.Option.{option_or, option_map_or}
use Rattle.image_file.specs.Spelling.{Spells}
use Rattle.image_file.specs.Rules.{reading}
use Rattle.image_file.specs.Rules.{first_broken, IsRefusal}
use Rattle.image_file.specs.declared.error.ImageError.TheVariants as error
use Rattle.image_file.proofs.SpellingLemmas.{first_broken-spelling}

-- a rule that is broken is a refusal
pub refusal-some : (broken : Option ImageError) (e : ImageError) → broken ≡ Some e → IsRefusal broken e
refusal-some broken error.Memory h = tt
refusal-some broken e h = h

-- a refusal stands before later rules
pub refusal-before : (broken rest : Option ImageError) (e : ImageError) → IsRefusal broken e →
    IsRefusal (option_or broken rest) e
refusal-before broken rest error.Memory h = tt
refusal-before broken rest e h = ap (λ o. option_or o rest) h

-- and behind rules that hold
pub refusal-behind : (before broken : Option ImageError) (e : ImageError) → before ≡ None → IsRefusal broken e →
    IsRefusal (option_or before broken) e
refusal-behind before broken error.Memory none h = tt
refusal-behind before broken e none h = ap (λ o. option_or o broken) none ∙ h

-- nothing but want of memory refuses what breaks no rule
pub only_memory : (broken : Option ImageError) (e : ImageError) → IsRefusal broken e → broken ≡ None → e ≡ error.Memory
only_memory broken error.Memory h none = refl
only_memory broken e h none = absurd cc

pub spelled_memory : (bytes : List ℕ) (e : ImageError) → IsRefusal (first_broken bytes) e →
    (c : Config) (image : List Contents) (extras : Extras)
    → Spells bytes c image extras → e ≡ error.Memory
spelled_memory bytes e refused c image extras spelled =
    only_memory (first_broken bytes) e refused (ap first_broken spelled.same
    ∙ first_broken-spelling c image extras spelled.can)

pub refused_header : (bytes : List ℕ) (e : ImageError) → broken_header bytes ≡ Some e → IsRefusal (first_broken bytes) e
unfolding first_broken
refused_header bytes e h = refusal-before (broken_header bytes) (broken_slots bytes) e
    (refusal-some (broken_header bytes) e h)

pub refused_slots : (bytes : List ℕ) (e : ImageError) → broken_header bytes ≡ None → IsRefusal (broken_slots bytes) e →
    IsRefusal (first_broken bytes) e
unfolding first_broken
refused_slots bytes e none h = refusal-behind (broken_header bytes) (broken_slots bytes) e none h

-- ---- behind the header

module _ (bytes : List ℕ) (long : length bytes ≡ image_bytes (shape_in bytes)) where
  module _ (states : wrong_state (states_in bytes) ≡ None) where
    abbrev wrong : Option ℕ
    wrong = wrong_bytes (cell_bytes (number_at 12 bytes)) (all_seen (states_in bytes)) (cells_in bytes)

    pub broken-nothing : wrong ≡ None → broken_slots bytes ≡ None
    broken-nothing h = rw (eq-eqb (length bytes) (image_bytes (shape_in bytes)) long, states, h) refl

-- ---- nothing is broken

pub nothing_broken : (bytes : List ℕ) → broken_header bytes ≡ None → broken_slots bytes ≡ None →
    first_broken bytes ≡ None
unfolding first_broken
nothing_broken bytes header slots = ap (λ o. option_or o (broken_slots bytes)) header ∙ slots

pub reading-read : (bytes : List ℕ) → first_broken bytes ≡ None →
    reading bytes ≡ Ok (config_in bytes, image_in bytes, extras_in bytes)
reading-read bytes none = ap (λ o. option_map_or Err o (Ok (config_in bytes, image_in bytes, extras_in bytes))) none
