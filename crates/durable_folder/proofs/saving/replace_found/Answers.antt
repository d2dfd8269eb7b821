use Rattle.durable_folder.proofs.Common.{inl, inr, refl}
use Rattle.durable_folder.proofs.saving.replace_found.Goals as goal

pub returns-in-Some-clause-replaces : goal.returns-in-Some-clause-replaces
returns-in-Some-clause-replaces g c =
    let owns = c.in-Some.ensures in
    inl (record {
      is_file = owns.is_file;
      one_name = owns.one_name;
      owner = c.in-Some.owner;
      user = owns.user;
      group = owns.group;
      permissions = owns.permissions;
      device = owns.device;
      replaces = c.replace.ensures.replaces;
    })
