-- What a call that touches nothing leaves of a disk.
use Rattle.std.proofs.Common.{inl, refl, ℕ, arith}
use Rattle.mn_io.specs.DiskModel.{DiskState, DiskStays, Elapses, ImagesFollow, Torn, Cut}
use Rattle.mn_memdisk.specs.Laws.{cut_same, torn_same}

pub elapses_stays : (disk : DiskState) → disk.honest → Elapses disk disk
elapses_stays disk honest = record {
  honest = honest;
  later = omega arith;
  nothing_else = λ t c le since. inl since;
  keeps = λ t c le since. since;
}

pub disk_stays : (disk : DiskState) → disk.honest → DiskStays disk disk
disk_stays disk honest = record { time = elapses_stays disk honest; content = refl; images = λ c image. image }

pub torn_stays : (at n : ℕ) (disk : DiskState) → ImagesFollow (Torn at n) disk disk
torn_stays at n disk c image = (c, image, torn_same at n c)

pub cut_stays : (n : ℕ) (disk : DiskState) → ImagesFollow (Cut n) disk disk
cut_stays n disk c image = (c, image, cut_same n c)
