use Rattle.std.proofs.Common.{rules, arith, ◌≡◌, ◌∙◌, ap, length, sym, subst}
use Rattle.std.proofs.lemmas.List.{take_all}
use Rattle.mn_memdisk.specs.Crash.{crashed}
use Rattle.mn_memdisk.specs.Held.{shown}
use Rattle.mn_memdisk.specs.History.{IsImage, IsSound}
use Rattle.mn_memdisk.proofs.Growth.{sound_of}
use Rattle.mn_memdisk.proofs.Tears.{crashed_image}
use Rattle.mn_memdisk.proofs.memory_disk.MemoryDisk.crash.Goals as goal

pub returns-clause-image : goal.returns-clause-image
returns-clause-image c =
    let image = c.in_ok-image.image.items in
    let chosen : image ≡ crashed c.args.choice c.args.self.first c.args.self.events = search rules in
    let all : shown c.new.result.held ≡ image = ap shown c.new.ensures ∙ take_all (length image) image (omega arith) in
    let sound : IsSound c.args.self.first c.args.self.events = rw (← c.self.view_is) (sound_of _ _ c.self.invariant) in
    subst (IsImage c.args.self.first c.args.self.events) (sym (all ∙ chosen)) (crashed_image c.args.choice c.args.self.first c.args.self.events sound)
