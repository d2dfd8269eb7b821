-- The replies that are kept of a run, each with its moment and with how long a page of the flash
-- was.
use Rattle.std.specs.Prelude.{ℕ, List, [], flat_map, map, slice_index_or}
use Rattle.flash_model.specs.Flash.{FlashState}
use Rattle.flash_model.specs.Operations.{moment_of}
use Rattle.host_protocol.specs.Replies.{text_of}
use Rattle.host_protocol.specs.declared.reply.Reply.{Reply}
use Rattle.cut_replay.specs.Watching.{ToldReply}

pub record KeptReply : Type 0 where
  pub told : ToldReply
  pub page_bytes : ℕ

-- what is kept of a reply and of the flash when it was given
abbrev pub kept_of : FlashState → Reply → KeptReply
kept_of flash reply = record {
  told = record { text = text_of reply; moment = moment_of flash };
  page_bytes = flash.shape.page_bytes;
}

-- the texts of these replies, one after another
abbrev pub texts_in : List KeptReply → List ℕ
texts_in kept = flat_map (λ r. r.told.text) kept

-- these replies, with their moments alone
abbrev pub told_in : List KeptReply → List ToldReply
told_in kept = map (λ r. r.told) kept

-- what stands for a reply where there is none
abbrev pub no_entry : KeptReply
no_entry = record {
  told = record { text = []; moment = record { image = []; programs = 0; erases = 0; started = 0 } };
  page_bytes = 0;
}

-- the reply at this place
abbrev pub reply_at : List KeptReply → ℕ → KeptReply
reply_at kept i = slice_index_or kept i no_entry
