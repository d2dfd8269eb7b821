use Rattle.page_keys.proofs.Common.{◌≡◌, ap, ◌∙◌, changes_of}
use Rattle.std.proofs.Common.{rules}
use Rattle.std.proofs.lemmas.Fn.{always_returns_same}
use Rattle.std.proofs.lemmas.List.Sorted.{IsNonDecreasingBy-from_sort_by_key}
use Rattle.page_keys.proofs.OfPut.PlacedChanges.{page_in, same_group}
use Rattle.page_keys.proofs.grouping.by_page.Goals as goal

pub returns : goal.returns
returns c = record {
  ascends = IsNonDecreasingBy-from_sort_by_key page_in _ c.in_ok-sort_by_key.ensures.sorted
      (λ a r q k. search rules);
  each = λ page. ap changes_of
      (same_group c.in_ok-placed.placed.items c.sort_by_key.new.self.items
      (c.in_ok-sort_by_key.ensures.stable page_in
      (always_returns_same _ (λ a r. r ≡ page_in a.0.now) _ (λ a r q k. search rules))) page)
      ∙ c.in_ok-placed.ensures page;
}
