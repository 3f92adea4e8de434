use Rattle.mn_coord.proofs.Sound.{inside_sound}
use Rattle.mn_coord.proofs.machine.Machine.is_sound.Goals as goal

pub returns : goal.returns
returns c = inside_sound c.args.self.now c.requires
