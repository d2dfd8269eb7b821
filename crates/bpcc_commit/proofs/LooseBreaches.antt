-- From the first record that breaks a law of loose records to the least breach of a list.
use Rattle.std.proofs.Common.{ℕ, ◌<◌, Some, List, refl}
use Rattle.std.specs.Prelude.{All}
use Rattle.tx_types.specs.declared.config.Protocol.{Protocol}
use Rattle.record_list.specs.declared.found.Found.{Found}
use Rattle.record_list.specs.Records.{IsScanned}
use Rattle.record_list.specs.SoundList.{Law, Pages, Copies, Links, Present, Counted, Loose, Ending, number, Keeps, PagesExist, CopiesAgree, LinksDiffer}
use Rattle.record_list.specs.SoundList.{CurrentIsPresent, LinkHasCounted, LooseIsShown, LooseEnds, IsLeastBreach}
use Rattle.record_list.specs.Search.{FindsFirst}
use Rattle.record_list.proofs.OfFacts.Breaches.{breach, least_breach, one_law_more, before_counted}

-- the laws before each of the two
before_loose : (P : Law → Type 0) → P Pages → P Copies → P Links → P Present → P Counted → (l : Law) →
    number l < number Loose → P l
before_loose P pages copies links present counted = one_law_more P Counted
    (before_counted P pages copies links present) counted

before_ending : (P : Law → Type 0) → P Pages → P Copies → P Links → P Present → P Counted → P Loose → (l : Law) →
    number l < number Ending → P l
before_ending P pages copies links present counted loose =
    one_law_more P Loose (before_loose P pages copies links present counted) loose

pub breach_of_loose : (p : Protocol) (list : List Found) (logical at : ℕ) → IsScanned list →
    All (PagesExist logical) list →
    All (CopiesAgree list) list → All (LinksDiffer list) list → All (CurrentIsPresent p list logical) list →
    All (LinkHasCounted p list logical) list → FindsFirst (LooseIsShown p list logical) list (Some at) →
    IsLeastBreach p list logical (breach 6 list at)
breach_of_loose p list logical at scanned pages copies links current counted finds =
    least_breach p list logical Loose at (breach 6 list at) scanned finds refl refl
    (before_loose (λ l. All (Keeps p list logical l) list) pages copies links current counted)

pub breach_of_ending : (p : Protocol) (list : List Found) (logical at : ℕ) → IsScanned list →
    All (PagesExist logical) list →
    All (CopiesAgree list) list → All (LinksDiffer list) list → All (CurrentIsPresent p list logical) list →
    All (LinkHasCounted p list logical) list → All (LooseIsShown p list logical) list →
    FindsFirst (LooseEnds p list logical) list (Some at) → IsLeastBreach p list logical (breach 7 list at)
breach_of_ending p list logical at scanned pages copies links current counted loose finds =
    least_breach p list logical Ending at (breach 7 list at) scanned finds refl refl
    (before_ending (λ l. All (Keeps p list logical l) list) pages copies links current counted loose)

-- the least breach, where one of the two laws is broken first
pub ruleset last_breaches = (breach_of_loose, breach_of_ending)
