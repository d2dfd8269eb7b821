use Rattle.list_lemmas.proofs.Bytes.{IsBytes-all}
use Rattle.image_file.proofs.SpellingLemmas.{reading-iff}
use Rattle.image_file.proofs.theorems.spelled_images.Goals as goal

pub returns : goal.returns
returns c = λ bytes config image extras all. reading-iff bytes config image extras (IsBytes-all bytes all)
