use Rattle.page_keys.proofs.Common.{sym, ◌∙◌, map, change_of}
use Rattle.list_lemmas.proofs.Lists.{none_among}
use Rattle.host_protocol.specs.Lines.{words_of}
use Rattle.page_keys.proofs.key_words.changes.Goals as goal

pub returns-in_err-change-clause-bad : goal.returns-in_err-change-clause-bad
returns-in_err-change-clause-bad c = λ is cs same.
    let none = sym c.change.ensures ∙ c.in_err-change.ensures.ok_part in
    let read = rw (c.in-Some.ensures.word, none) at c.loop-word.invariant.read in
    absurd (none_among c.loop-word.all cs (map change_of (words_of c.in-Some.behind.now))
    (sym same ∙ read))
