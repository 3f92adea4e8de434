use Rattle.mn_mini.proofs.SoundParts.{parts_are_sound}
use Rattle.mn_mini.proofs.laws.parts_sound.Goals as goal

pub returns : goal.returns
returns c = parts_are_sound
