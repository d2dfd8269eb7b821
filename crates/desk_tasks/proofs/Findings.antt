-- The ending of a comparison, from what is found.
use Rattle.desk_tasks.proofs.Common.{◌≡◌, inl, inr, ℕ, ◌*◌, ◌<◌, List, length, Option, None, Some, Result, Ok, Err, refl, sym, ap, ◌∙◌, subst, arith, All, Config, Protocol, shape_of, Contents, IsSoundImage, array_in, records_in, Ending, Same, array_of_device, ComesTo, Comparing, Judging, Opening, RefusesDevice}
use Rattle.std.proofs.Common.{◌≢◌, ◌⊎◌, ◌+◌, ◌-◌, ◌≤◌}
use Rattle.std.proofs.Common.{slice_index}
use Rattle.std.specs.Prelude.{IfErr, IfOk}
use Rattle.std.specs.Result.{IsErrAnd}
use Rattle.std.specs.List.{range_with_len}
use Rattle.std.proofs.Math.Nat.{mul-le-mul_right}
use Rattle.std.proofs.lemmas.List.{length-map, ext_get_or}
use Rattle.std.proofs.lemmas.List.Elements.{All-weaker}
use Rattle.std.proofs.lemmas.List.FromFn.{length-range_with_len}
use Rattle.tx_types.specs.Config.{blocks_of, checked}
use Rattle.tx_types.proofs.ConfigLemmas.{checked_config}
use Rattle.record_list.specs.declared.found.Found.{Found}
use Rattle.record_list.specs.Records.{IsScanned}
use Rattle.record_list.specs.SoundList.{Pages as page_law, PagesExist}
use Rattle.judged_records.proofs.OfLaws.ImageScans.{records_scanned}
use Rattle.array_machine.specs.ArrayState.{ArrayState, Pages, idle, page_at}
use Rattle.verdict_report.specs.Report.{pages}
use Rattle.desk_tasks.specs.Ending.{DifferBlank, DifferAt}
use Rattle.desk_tasks.specs.Checking.{ChecksList, HaveOneShape, DifferAtByte, OneArray, Shapes, BlankAt, ByteAt}
use Rattle.desk_tasks.specs.Differences.{FindsFirst, IsSomeAt, difference_ending}
use Rattle.desk_tasks.specs.declared.difference.Difference.{Difference}
use Rattle.desk_tasks.specs.declared.difference.Difference.TheVariants as difference
use Rattle.desk_tasks.specs.declared.output.Failure.{Failure}
use Rattle.desk_tasks.specs.Stops.{StopsBy}
use Rattle.desk_tasks.proofs.Works.{stops_by}

-- ---- a check

pub judging_device : (its : Config) (image : List Contents) (text : List ℕ) (ending : Ending) →
    RefusesDevice its image ending → Judging its image text ending
judging_device its image text ending h = (Err h.0, h.1, h.2)

judging_list : (its : Config) (image : List Contents) (text : List ℕ) →
    IsSoundImage its.protocol its.logical (shape_of its) image →
    (ending : Ending) → ChecksList its.protocol (records_in its.protocol image) its.logical text ending →
    Judging its image text ending
judging_list its image text sound ending (inl (n, same, count, is)) = (Ok tt, sound, (Ok n, (same, count), is))
judging_list its image text sound ending (inr (k, differs, is)) = (Ok tt, sound, (Err k, differs, is))

pub judging : (its : Config) (image : List Contents) (text : List ℕ) (list : List Found) →
    IsSoundImage its.protocol its.logical (shape_of its) image →
    list ≡ records_in its.protocol image → (ending : Ending) → ChecksList its.protocol list its.logical text ending →
    Judging its image text ending
judging its image text list sound e ending h =
    judging_list its image text sound ending (subst (λ l. ChecksList its.protocol l its.logical text ending) e h)

-- what a check of a report asks of the records of a sound image
few : (n pending blocks pages : ℕ) → n + pending + 1 ≤ (blocks - 1) * pages → pages * blocks ≤ 65536 → n ≤ 65536
few n pending blocks pages space most =
    let wide : (blocks - 1) * pages ≤ blocks * pages = mul-le-mul_right pages (omega arith) in omega arith

pub few_pages : (its : Config) → checked its ≡ Ok (shape_of its) → its.logical ≤ 65536
few_pages its e =
    let c = (checked_config its (shape_of its) e).0 in
    few its.logical its.pending (blocks_of (shape_of its)) its.pages_per_block c.space c.shape.slots_most

pub own_pages : (its : Config) (image : List Contents) (list : List Found) →
    IsSoundImage its.protocol its.logical (shape_of its) image →
    list ≡ records_in its.protocol image → All (λ f. f.rec.page < its.logical) list
own_pages its image list sound e =
    subst (λ l. All (λ f. f.rec.page < its.logical) l) (sym e)
    (All-weaker (PagesExist its.logical) (λ f. f.rec.page < its.logical) (λ f pages. pages.0)
    _ (sound.written.records page_law))

pub scanned_list : (its : Config) (image : List Contents) (list : List Found) → list ≡ records_in its.protocol image →
    IsScanned list
scanned_list its image list e = subst (λ l. IsScanned l) (sym e) (records_scanned its.protocol image)

-- ---- a comparison

module _ (a : Config) (image : List Contents) (b : Config) (other : List Contents) where
  pub first_refused : (ending : Ending) → RefusesDevice a image ending → Comparing a image b other ending
  first_refused ending h = (Err h.0, h.1, h.2)

array_length : (protocol : Protocol) (logical : ℕ) (image : List Contents) →
    length (array_in protocol logical image) ≡ logical
unfolding array_in
array_length protocol logical image = length-map (range_with_len 0 logical) _ ∙ length-range_with_len 0 logical

module _ (a : Config) (image : List Contents) (b : Config) (other : List Contents)
    (sound : IsSoundImage a.protocol a.logical (shape_of a) image)
    (other_sound : IsSoundImage b.protocol b.logical (shape_of b) other)
    (shape : HaveOneShape a b) where
  pub arrays_same : FindsFirst (array_of_device a image) (array_of_device b other) a.logical None →
      Comparing a image b other (Same a.logical)
  arrays_same same =
      let m = array_length a.protocol a.logical image in
      let n = array_length b.protocol b.logical other in
      let e = shape.pages in
      let one : array_of_device a image ≡ array_of_device b other =
      ext_get_or None (array_of_device a image) (array_of_device b other) (omega arith)
      (λ i low. same i (omega arith)) in
      (Ok tt, sound, (Ok tt, other_sound, (OneArray, (shape, one), refl)))

  pub blank_differs : (page : ℕ) → FindsFirst (array_of_device a image) (array_of_device b other) a.logical
      (Some (difference.Blank page)) →
      Comparing a image b other (DifferBlank page)
  blank_differs page (at, low, (same, blank), before) = (
    Ok tt,
    sound,
    (
      Ok tt,
      other_sound,
      (
        BlankAt page,
        (
          shape,
          rw same low,
          record {
            here = λ e. differ blank (subst (λ p. page_at (array_of_device a image) p
                ≡ page_at (array_of_device b other) p) same e);
            before = λ p less. before p (omega arith);
          },
          one_blank blank,
        ),
        refl,
      ),
    ),
  )
    where
      differ : ((page_at (array_of_device a image) at ≡ None) × IsSomeAt (array_of_device b other) at)
          ⊎ (IsSomeAt (array_of_device a image) at × (page_at (array_of_device b other) at ≡ None)) →
          page_at (array_of_device a image) at ≢ page_at (array_of_device b other) at
      differ (inl (none, (bytes, some))) e = absurd (cc)
      differ (inr ((bytes, some), none)) e = absurd (cc)

      one_blank : ((page_at (array_of_device a image) at ≡ None) × IsSomeAt (array_of_device b other) at)
          ⊎ (IsSomeAt (array_of_device a image) at × (page_at (array_of_device b other) at ≡ None)) →
          (page_at (array_of_device a image) page ≡ None) ⊎ (page_at (array_of_device b other) page ≡ None)
      one_blank (inl h) = inl (subst (λ p. page_at (array_of_device a image) p ≡ None) (sym same) h.0)
      one_blank (inr h) = inr (subst (λ p. page_at (array_of_device b other) p ≡ None) (sym same) h.1)

  pub byte_differs : (page at : ℕ) → FindsFirst (array_of_device a image) (array_of_device b other) a.logical
      (Some (difference.At page at)) →
      Comparing a image b other (DifferAt page at)
  byte_differs page at (here, low, (same, byte), before) =
      let there : DifferAtByte (page_at (array_of_device a image) page) (page_at (array_of_device b other) page) at =
      subst (λ p. DifferAtByte (page_at (array_of_device a image) p) (page_at (array_of_device b other) p) at)
      (sym same) byte in (
        Ok tt,
        sound,
        (
          Ok tt,
          other_sound,
          (
            ByteAt page at,
            (
              shape,
              rw same low,
              record { here = λ e. unequal _ _ at there e; before = λ p less. before p (omega arith) },
              there,
            ),
            refl,
          ),
        ),
      )
    where
      unequal : (x y : Option (List ℕ)) (at : ℕ) → DifferAtByte x y at → x ≢ y
      unequal x y at h e =
          let bytes : h.bytes ≡ h.others = (let f = h.first in let k = h.second in cc) in
          absurd (h.differ.here (ap (λ bs. slice_index bs at) bytes))

-- what two sound devices come to
comparing : (a : Config) (image : List Contents) (b : Config) (other : List Contents) →
    IsSoundImage a.protocol a.logical (shape_of a) image → IsSoundImage b.protocol b.logical (shape_of b) other →
    (one two : ArrayState) → one ≡ idle (array_of_device a image) → two ≡ idle (array_of_device b other) →
    (ending : Ending) → ComesTo a one.pages b two.pages ending → Comparing a image b other ending
comparing a image b other sound other_sound one two e f ending h =
    from (subst (λ pages. ComesTo a pages b (array_of_device b other) ending) (ap (λ (m : ArrayState). m.pages) e)
    (subst (λ pages. ComesTo a one.pages b pages ending) (ap (λ (m : ArrayState). m.pages) f) h))
  where
    by_found : HaveOneShape a b → (found : Option Difference) →
        FindsFirst (array_of_device a image) (array_of_device b other) a.logical found →
        Comparing a image b other (difference_ending a.logical found)
    by_found shape None finds = arrays_same a image b other sound other_sound shape finds
    by_found shape (Some (difference.Blank page)) finds = blank_differs a image b other sound other_sound
        shape page finds
    by_found shape (Some (difference.At page at)) finds = byte_differs a image b other sound other_sound
        shape page at finds

    from : ComesTo a (array_of_device a image) b (array_of_device b other) ending → Comparing a image b other ending
    from (inl (differ, is)) = (Ok tt, sound, (Ok tt, other_sound, (Shapes, differ, is)))
    from (inr (shape, (found, finds, is))) = subst (λ ending. Comparing a image b other ending) (sym is)
        (by_found shape found finds)

-- what the second device comes to beside an array, where its image is sound, and where it is not
pub opened_second : (a : Config) (pages : Pages) (b : Config) (other : List Contents) →
    IsSoundImage b.protocol b.logical (shape_of b) other →
    (two : ArrayState) → two ≡ idle (array_of_device b other) → (ending : Ending) → ComesTo a pages b two.pages ending →
    Opening b other (ComesTo a pages b (array_of_device b other)) ending
opened_second a pages b other sound two e ending h =
    (Ok tt, sound, subst (λ others. ComesTo a pages b others ending) (ap (λ (m : ArrayState). m.pages) e) h)

pub second_refused : (a : Config) (pages : Pages) (b : Config) (other : List Contents) (ending : Ending) →
    RefusesDevice b other ending →
    Opening b other (ComesTo a pages b (array_of_device b other)) ending
second_refused a pages b other ending h = (Err h.0, h.1, h.2)

-- and so what two images come to, where the first is sound
pub first_opened : (a : Config) (image : List Contents) (b : Config) (other : List Contents) →
    IsSoundImage a.protocol a.logical (shape_of a) image →
    (one : ArrayState) → one ≡ idle (array_of_device a image) → (ending : Ending) →
    Opening b other (ComesTo a one.pages b (array_of_device b other)) ending → Comparing a image b other ending
first_opened a image b other sound one e ending (Ok done, other_sound, h) =
    comparing a image b other sound other_sound one (idle (array_of_device b other)) e refl ending h
first_opened a image b other sound one e ending (Err breach, opens, is) = (Ok tt, sound, (Err breach, opens, is))

-- ---- a number, or why there is none

-- what is done, or refused, in one way is so in another
pub leads_ok : (P Q : Ending → Type 0) (done : ℕ → Ending) → ((ending : Ending) → P ending → Q ending) →
    (result : Result ℕ Failure) →
    IfOk result (λ n. P (done n)) → IfOk result (λ n. Q (done n))
leads_ok P Q done leads (Ok n) h = leads (done n) h
leads_ok P Q done leads (Err e) h = h

pub leads_err : (P Q : Ending → Type 0) → ((ending : Ending) → P ending → Q ending) → (result : Result ℕ Failure) →
    IfErr result (StopsBy P) → IfErr result (StopsBy Q)
leads_err P Q leads (Ok n) h = h
leads_err P Q leads (Err e) h = stops_by P Q leads e h

pub leads_stop : {T : Type 0} → (P Q : Ending → Type 0) → ((ending : Ending) → P ending → Q ending) →
    (result : Result T Failure) (e : Failure) →
    IsErrAnd result (λ x. x ≡ e) → StopsBy P e → IfErr result (StopsBy Q)
leads_stop P Q leads (Ok n) e same h = absurd same
leads_stop P Q leads (Err x) e same h = stops_by P Q leads x (rw same h)
