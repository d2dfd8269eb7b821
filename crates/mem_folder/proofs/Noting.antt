-- The folders that are noted.
use Rattle.mem_folder.proofs.Common.{◌≡◌, inl, inr, ℕ, true, List, [], ◌∷◌, ◌++◌, Err, sym, ap, ◌∙◌, Error, unsynced_of, MemPlace}
use Rattle.std.proofs.Common.{map}
use Rattle.std.proofs.lemmas.List.{reverse-append}
use Rattle.std.specs.IoError.{error_kind}
use Rattle.durable_folder.specs.Counting.{answer_to_open_folder, answer_to_sync_folder, is_denied, is_unable, these_if}
use Rattle.mem_folder.specs.Telling.{AreNoted, Notes, place_of}

pub noted_more : (noted : List MemPlace) (place : MemPlace) → unsynced_of (noted ++ place ∷ []) ≡ place_of place
    ∷ unsynced_of noted
noted_more noted place = ap (map place_of) (reverse-append noted (place ∷ []))

pub open_noted : (folder : List ℕ) (error result : Error) (old new : List MemPlace) →
    Notes folder error result old new →
    is_denied (error_kind error) ≡ true → AreNoted (answer_to_open_folder {T = MemPlace} folder (Err result)) old new
open_noted folder error result old new (inl noted) denied =
    noted.1 ∙ ap (λ b. these_if b folder ++ unsynced_of old) (sym (ap (λ e. is_denied (error_kind e)) noted.0 ∙ denied))
open_noted folder error result old new (inr starved) denied =
    ap unsynced_of starved.1 ∙ ap (λ k. these_if (is_denied k) folder ++ unsynced_of old) (sym starved.0)

pub sync_noted : (folder : List ℕ) (error result : Error) (old new : List MemPlace) →
    Notes folder error result old new →
    is_unable (error_kind error) ≡ true → AreNoted (answer_to_sync_folder {T = Unit {0}} folder (Err result)) old new
sync_noted folder error result old new (inl noted) unable =
    noted.1 ∙ ap (λ b. these_if b folder ++ unsynced_of old) (sym (ap (λ e. is_unable (error_kind e)) noted.0 ∙ unable))
sync_noted folder error result old new (inr starved) unable =
    ap unsynced_of starved.1 ∙ ap (λ k. these_if (is_unable k) folder ++ unsynced_of old) (sym starved.0)
