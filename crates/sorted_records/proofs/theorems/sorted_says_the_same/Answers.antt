use Rattle.sorted_records.proofs.OfSort.Alike.{newest_alike, next_older_alike, present_alike, link_alike, back_alike, straddling_alike, why_alike, cur_alike}
use Rattle.sorted_records.proofs.OfSort.Alike.{responsible_alike}
use Rattle.sorted_records.proofs.theorems.sorted_says_the_same.Goals as goal

pub returns : goal.returns
returns c = record {
  newest = λ list sorted page is. newest_alike list sorted is page;
  next_older = λ list sorted page below is. next_older_alike list sorted is page below;
  present = λ list sorted name is. present_alike list sorted is name;
  link = λ list sorted name is. link_alike list sorted is name;
  back = λ list sorted name is. back_alike list sorted is name;
  straddling = λ list sorted name is. straddling_alike list sorted is name;
  why = λ protocol list sorted logical page is. why_alike list sorted is protocol logical page;
  current = λ protocol list sorted logical page is. cur_alike list sorted is protocol logical page;
  responsible = λ protocol list sorted logical name is. responsible_alike list sorted is protocol logical name;
}
