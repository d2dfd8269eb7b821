-- Whatever a loss leaves of a live file is one.
use Rattle.live_flash.proofs.Common.{◌≡◌, ℕ, ◌+◌, ◌-◌, ◌<◌, ◌≤◌, List, length, take, get_or, Option, Ok, IfSome, refl, sym, subst, ◌∙◌, arith, slots_of, Shape, IsWhole, All, FileState, LeavesBytes, own_of, live_contents, live_seen, live_bytes, slot_in, live_image, IsLiveFile, LeavesCounted, LeavesLive}
use Rattle.std.proofs.lemmas.List.{length-take, get_or-take, ext_get_or}
use Rattle.std.proofs.lemmas.List.FromFn.{length-map-range_with_len, get_or-map-range_with_len}
use Rattle.tx_types.specs.Config.{checked, shape_of}
use Rattle.tx_types.specs.declared.config.Config.{Config}
use Rattle.tx_types.proofs.ConfigLemmas.{checked_config}
use Rattle.flash_model.specs.Flash.{Extras}
use Rattle.flash_model.specs.Retiring.{max_allowance}
use Rattle.mem_flash.proofs.Images.{IsWhole-contents_of}
use Rattle.file_flash.proofs.Losing.{left_one}
use Rattle.file_flash.proofs.Told.{weaken_both}
use Rattle.live_file.specs.Spelling.{IsLive, live_header}
use Rattle.live_file.proofs.Pieces.{length-live_header}
use Rattle.live_flash.proofs.Places.{slot_long}

module _ (config : Config) (extras : Extras) (checks : checked config ≡ Ok (shape_of config))
    (within : extras.retired ≤ extras.allowance) (few : extras.allowance ≤ max_allowance)
    (file : FileState) (f : IsLiveFile (shape_of config) (live_header config extras) file)
    (counted : LeavesCounted (shape_of config) file) (left : List ℕ) (l : LeavesBytes file left) where
  long : length left ≡ live_bytes (shape_of config)
  long = l.long ∙ f.long

  head_is : take 64 left ≡ live_header config extras
  head_is =
      let many : length (take 64 left) ≡ 64 = omega (arith, long, length-take 64 left) in
      ext_get_or 0 (take 64 left) (live_header config extras) (many ∙ sym (length-live_header config extras))
      (λ k inside.
      let below : k < 64 = omega (arith, many, inside) in
      get_or-take 64 left k 0 below
      ∙ left_one file left k (get_or (live_header config extras) k 0) l (omega (arith, long, below)) (f.header k below))

  wholes : All (IsWhole config.page_bytes) (live_image (shape_of config) left)
  wholes k d inside =
      let low : k < slots_of (shape_of config) =
      omega (
        arith,
        inside,
        length-map-range_with_len (λ at. live_contents config.page_bytes
            (slot_in (shape_of config) left at)) 0 (slots_of (shape_of config)),
      ) in
      let here : 0 + k ≡ k = omega arith in
      subst (IsWhole config.page_bytes)
      (sym (get_or-map-range_with_len (λ at. live_contents config.page_bytes (slot_in (shape_of config) left at))
      0 (slots_of (shape_of config)) k k d low here))
      (IsWhole-contents_of config.page_bytes (live_seen (slot_in (shape_of config) left k))
      (own_of (slot_in (shape_of config) left k))
      (omega (
        arith,
        slot_long (shape_of config) left long k low,
        length-take (length (slot_in (shape_of config) left k) - 4) (slot_in (shape_of config) left k),
      )))

  pub left_live : IsLive left config (live_image (shape_of config) left) extras
  left_live = record {
    can = record {
      checks = checks;
      fits = record {
        bounds = (checked_config config (shape_of config) checks).0.shape;
        slots = length-map-range_with_len (λ at. live_contents config.page_bytes
            (slot_in (shape_of config) left at)) 0 (slots_of (shape_of config));
        whole = wholes;
      };
      within = within;
      few = few;
    };
    long = long;
    header = head_is;
    counts = counted left l;
    slots = refl;
  }

-- of what is told
pub left_lives : (config : Config) (its : Shape) (extras : Extras) (file : Option FileState) →
    checked config ≡ Ok (shape_of config) →
    its ≡ shape_of config → extras.retired ≤ extras.allowance → extras.allowance ≤ max_allowance →
    IfSome file (IsLiveFile its (live_header config extras)) → IfSome file (LeavesCounted its) →
    IfSome file (LeavesLive config its extras)
left_lives config its extras file checks same within few f counted =
    subst (λ s. IfSome file (LeavesLive config s extras)) (sym same)
    (weaken_both (IsLiveFile (shape_of config) (live_header config extras)) (LeavesCounted (shape_of config))
    (LeavesLive config (shape_of config) extras) file
    (subst (λ s. IfSome file (IsLiveFile s (live_header config extras))) same f)
    (subst (λ s. IfSome file (LeavesCounted s)) same counted)
    (λ a it counts left l. left_live config extras checks within few a it counts left l))
