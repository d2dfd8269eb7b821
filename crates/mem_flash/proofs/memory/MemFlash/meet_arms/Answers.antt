use Rattle.mem_flash.proofs.Common.{rules, refl, ap₂, Option}
use Rattle.flash_model.specs.declared.outcome.Arm.{Arm}
use Rattle.mem_flash.proofs.Meeting.{operation_met}
use Rattle.mem_flash.proofs.memory.MemFlash.meet_arms.Goals as goal

pub returns-then-is_some-clause-carries : goal.returns-then-is_some-clause-carries
returns-then-is_some-clause-carries c = record {
  shape = search rules;
  later = search rules;
  cause = search rules;
  quiet = search rules;
  lives = search rules;
  dead = search rules;
  no_more = search rules;
  extras = search rules;
  spends = search rules;
  starts = λ on. rw (← c.self.view_is) (
    1,
    0,
    c.saturating_add-self-inside-2.ensures,
    refl,
    operation_met c.self.inside.armed _ c.count_down-cut.result c.count_down-fault.result c.or-broken.result
        c.is_none-self-inside.result c.count_down-cut.ensures.due c.count_down-fault.ensures.due c.or-broken.ensures
        c.is_none-self-inside.ensures
        (ap₂ (λ (cut : Option Arm) (fault : Option Arm). record c.self.inside.armed { cut = cut; fault = fault })
        c.count_down-cut.ensures.left
        c.count_down-fault.ensures.left),
  );
}

pub returns-else-is_some-clause-carries : goal.returns-else-is_some-clause-carries
returns-else-is_some-clause-carries c = record {
  shape = search rules;
  later = search rules;
  cause = search rules;
  quiet = search rules;
  lives = search rules;
  dead = search rules;
  no_more = search rules;
  extras = search rules;
  spends = search rules;
  starts = λ on. rw (← c.self.view_is) (
    1,
    0,
    c.saturating_add-self-inside-2.ensures,
    refl,
    operation_met c.self.inside.armed _ c.count_down-cut.result c.count_down-fault.result c.or-broken.result
        c.is_none-self-inside.result c.count_down-cut.ensures.due c.count_down-fault.ensures.due c.or-broken.ensures
        c.is_none-self-inside.ensures
        (ap₂ (λ (cut : Option Arm) (fault : Option Arm). record c.self.inside.armed { cut = cut; fault = fault })
        c.count_down-cut.ensures.left
        c.count_down-fault.ensures.left),
  );
}
