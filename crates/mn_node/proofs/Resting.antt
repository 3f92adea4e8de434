-- A disk of which nothing has changed but its room.
use Rattle.std.proofs.Common.{inl, inr, ⊎_elim, refl, ◌∙◌, subst, arith}
use Rattle.mn_io.specs.DiskModel.{DiskState, IsDisk, DiskStays}
use Rattle.mn_node.specs.Node.{DiskStaysIfHonest}

-- a disk that no call touched
pub stays_same : (disk : DiskState) → disk.honest → DiskStays disk disk
stays_same disk h = record {
  time = record { honest = h; later = omega arith; nothing_else = λ t c le left. inl left; keeps = λ t c le left. left };
  content = refl;
  images = λ c image. image;
}

pub stays_then : (old mid new : DiskState) → IsDisk old → DiskStays old mid → DiskStays mid new → DiskStays old new
stays_then old mid new is_disk first second = record {
  time = record {
    honest = second.time.honest;
    later = omega (arith, first.time.later, second.time.later);
    nothing_else = λ t c le left. ⊎_elim
        (λ was. ⊎_elim (λ earlier. inl earlier) (λ image. inl (is_disk.counts_now t c le (first.images c image))) (first.time.nothing_else t c le was))
        (λ now. inr now)
        (second.time.nothing_else t c (omega (arith, le, first.time.later)) left);
    keeps = λ t c le left. second.time.keeps t c (omega (arith, le, first.time.later)) (first.time.keeps t c le left);
  };
  content = second.content ∙ first.content;
  images = λ c image. first.images c (second.images c image);
}

-- after a disk that rested, one that stays
pub rests_then : {D : Type 0} (state : D → DiskState) (old mid new : D) → ((state old).honest → IsDisk (state old)) → ((state old).honest → (state mid).honest)
    → DiskStaysIfHonest state old mid → ((state mid).honest → DiskStays (state mid) (state new)) → (state old).honest → DiskStays (state old) (state new)
rests_then state old mid new is_disk goes (inl same) stays h = subst (λ (d : _). DiskStays (state d) (state new)) same (stays (goes h))
rests_then state old mid new is_disk goes (inr rests) stays h =
    stays_then (state old) (state mid) (state new) (is_disk h) (rests h) (stays (goes h))
