use Rattle.list_lemmas.proofs.Bytes.{IsBytes-all}
use Rattle.image_file.proofs.InUseLemmas.{in_use-iff, spelled_in_use}
use Rattle.image_file.proofs.theorems.images_in_use.Goals as goal

pub returns-clause-read : goal.returns-clause-read
returns-clause-read c = λ bytes config image extras all. in_use-iff bytes config image extras (IsBytes-all bytes all)

pub returns-clause-spelled : goal.returns-clause-spelled
returns-clause-spelled c = spelled_in_use
