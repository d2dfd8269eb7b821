use Rattle.cut_replay.proofs.Common.{flash_in}
use Rattle.cut_replay.proofs.Mountings.{mounted_by}
use Rattle.cut_replay.proofs.mounting.mount_again.Goals as goal

pub returns-clause-mounted : goal.returns-clause-mounted
returns-clause-mounted g c =
    mounted_by g.F.Flash.state c.args.config (flash_in c.args.session.now) c.mount_again.new.self
    c.in_ok-mount_again.ensures.mounted c.in_ok-mount_again.ensures.met
