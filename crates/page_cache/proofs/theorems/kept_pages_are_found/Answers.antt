use Rattle.page_cache.proofs.Pages.{cached_page-kept}
use Rattle.page_cache.proofs.theorems.kept_pages_are_found.Goals as goal

pub returns : goal.returns
returns c = cached_page-kept
