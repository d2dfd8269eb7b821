-- The words that command lines begin with.
use Rattle.std.specs.Prelude.{ℕ, List, codes}
use Rattle.host_protocol.specs.declared.verb.Verb.{Verb}
use Rattle.host_protocol.specs.declared.verb.Verb.TheVariants as verb

abbrev pub word_of : Verb → List ℕ
word_of verb.Read = codes "read"
word_of verb.Write = codes "write"
word_of verb.Step = codes "step"
word_of verb.Finish = codes "finish"
word_of verb.Abort = codes "abort"
word_of verb.StepAll = codes "stepall"
word_of verb.Collect = codes "collect"
word_of verb.Stats = codes "stats"
word_of verb.Explain = codes "explain"
word_of verb.Cut = codes "cut"
word_of verb.Fault = codes "fault"
word_of verb.BadRead = codes "badread"
