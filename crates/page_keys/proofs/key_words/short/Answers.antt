use Rattle.page_keys.proofs.Common.{sym, inl, inr}
use Rattle.page_keys.proofs.OfParse.KeyWordLemmas.{key_bad, key_out, key_read}
use Rattle.page_keys.proofs.key_words.short.Goals as goal
use Rattle.page_keys.proofs.key_words.short.Goals.{then-len-eq0-via-then-len-eq0, then-len-eq0-via-else-len-eq0+then-len-gt-MAX_SHORT}

pub returns-then-len-eq0 : goal.returns-then-len-eq0
returns-then-len-eq0 c = elim c.then-len-eq0.branch [
  | then-len-eq0-via-then-len-eq0 w ↦ sym (key_out c.args.digits.now (inl w.if-len-eq0.true))
  | then-len-eq0-via-else-len-eq0+then-len-gt-MAX_SHORT w ↦
      sym (key_out c.args.digits.now (inr w.if-len-gt-MAX_SHORT.true))
]

pub returns-then-not-decode : goal.returns-then-not-decode
returns-then-not-decode c =
    sym (key_bad c.args.digits.now (c.decode.ensures.other c.if-not-decode.true))

pub returns : goal.returns
returns c =
    key_read c.args.digits.now c.decode.new.into _ c.new.result
    (c.decode.ensures.read c.if-not-decode.false) c.new.ensures c.if-len-eq0.false
    c.if-len-gt-MAX_SHORT.false
