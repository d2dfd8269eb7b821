-- What is told of a run while it goes on.
use Rattle.std.specs.Prelude.{◌≡◌, ℕ, List, ◌++◌, flat_map, map, Option, None, Some}
use Rattle.std.specs.List.{zip}
use Rattle.flash_model.specs.Flash.{FlashState}
use Rattle.flash_model.specs.Operations.{Moment, moment_of}
use Rattle.host_protocol.specs.Replies.{text_of}
use Rattle.host_protocol.specs.declared.reply.Reply.{Reply}
use Rattle.cut_replay.specs.FlashRun.{Point}

-- the text of a reply, and what the flash was when it was given
pub record ToldReply : Type 0 where
  pub text : List ℕ
  pub moment : Moment

-- where a list is told, it grew by this; where it is not, it is told afterwards neither
abbrev pub Grew : {A : Type 0} → Option (List A) → Option (List A) → List A → Type 0
Grew None new more = new ≡ None
Grew (Some old) new more = new ≡ Some (old ++ more)

-- the texts of replies, one after another
abbrev pub text_of_all : List Reply → List ℕ
text_of_all replies = flat_map text_of replies

-- what is told of replies and the points that they were given at
abbrev pub replies_told : List Reply → List Point → List ToldReply
replies_told replies points =
    map (λ (r, p). record { text = text_of r; moment = moment_of p.flash }) (zip replies points)

-- the whole flash at each of these points
abbrev pub flashes_at : List Point → List FlashState
flashes_at points = map (λ p. p.flash) points
