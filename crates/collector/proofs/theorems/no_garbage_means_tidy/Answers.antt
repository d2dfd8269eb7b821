mod TidyImages
use Rattle.collector.proofs.theorems.no_garbage_means_tidy.Answers.TidyImages.{tidy}
use Rattle.collector.proofs.theorems.no_garbage_means_tidy.Goals as goal

pub returns : goal.returns
returns c = tidy
