-- The text of a reply to a command of a key script.
use Rattle.std.specs.Prelude.{ℕ, List, [], ◌∷◌, codes, flat_map}
use Rattle.std.specs.Fmt.{decimal}
use Rattle.hex.specs.Hex.{encode_lower}
use Rattle.host_protocol.specs.Replies.{line_of}
use Rattle.page_keys.specs.declared.key_reply.KeyReply.{KeyReply}
use Rattle.page_keys.specs.declared.key_reply.KeyReply.TheVariants as reply

-- the digits of a value, or a dash where it is empty
abbrev pub value_word : List ℕ → List ℕ
value_word [] = codes "-"
value_word (b ∷ bytes) = encode_lower (b ∷ bytes)

abbrev pub key_reply_words : KeyReply → List (List ℕ)
key_reply_words (reply.Stored changes) = codes "stored" ∷ decimal changes ∷ []
key_reply_words (reply.Value key value) =
    codes "value" ∷ encode_lower key ∷ value_word value ∷ []
key_reply_words (reply.Absent key) = codes "absent" ∷ encode_lower key ∷ []
key_reply_words reply.Armed = codes "armed" ∷ []
key_reply_words reply.Cut = codes "cut" ∷ []
key_reply_words reply.Fault = codes "fault" ∷ []
key_reply_words reply.RefusedEmpty = codes "refused" ∷ codes "empty" ∷ []
key_reply_words (reply.RefusedRepeated key) =
    codes "refused" ∷ codes "repeated" ∷ encode_lower key ∷ []
key_reply_words (reply.RefusedWide pages) = codes "refused" ∷ codes "wide" ∷ decimal pages ∷ []
key_reply_words (reply.RefusedBucket page) = codes "refused" ∷ codes "bucket" ∷ decimal page ∷ []
key_reply_words (reply.RefusedSpent page) = codes "refused" ∷ codes "spent" ∷ decimal page ∷ []

-- the text of a reply: the line of its words
abbrev pub key_text : KeyReply → List ℕ
key_text what = line_of (key_reply_words what)

-- the texts of replies, one after another
abbrev pub key_texts : List KeyReply → List ℕ
key_texts replies = flat_map key_text replies
