-- What a choice leaves of the changes that no sync has made stable.
use Rattle.std.specs.Prelude.{◌≡◌, ℕ, zero, suc, ◌+◌, ◌-◌, ◌*◌, ◌/◌, ◌%◌, ◌^◌, nat_le}
use Rattle.std.specs.Prelude.{if◌then◌else◌, List, [], ◌∷◌, ◌++◌, length, take, drop, replicate}
use Rattle.mn_io.specs.DiskModel.{written_at}
use Rattle.mn_memdisk.specs.History.{Event, write, lost_write, shorten, lost_cut, synced}
use Rattle.mn_memdisk.specs.History.{content_of}
use Rattle.mn_memdisk.specs.declared.outcome.Outcome.{Outcome}
use Rattle.mn_memdisk.specs.declared.outcome.Outcome.TheVariants.{Nothing, Whole, Front, Back}

abbrev pub outcome_by : ℕ → Outcome
outcome_by zero = Nothing
outcome_by (suc zero) = Whole
outcome_by (suc (suc zero)) = Front
outcome_by (suc (suc (suc n))) = Back

-- two bits of the choice for each change, the first change's the lowest, and again from there after
-- 32
abbrev pub outcome_of : ℕ → ℕ → Outcome
outcome_of choice number = outcome_by (choice / 2 ^ (2 * (number % 32)) % 4)

-- zeros at the end, up to a length
abbrev pub filled : ℕ → List ℕ → List ℕ
filled n image = image ++ replicate (n - length image) 0

-- what stands of a write in an image that reaches to its place: nothing, all of it, the first half,
-- or the second
abbrev pub part : Outcome → ℕ → List ℕ → List ℕ → List ℕ
part Nothing at piece image = image
part Whole at piece image = written_at image at piece
part Front at piece image = written_at image at (take (length piece / 2) piece)
part Back at piece image =
    written_at (filled (at + length piece / 2) image) (at + length piece / 2)
    (drop (length piece / 2) piece)

abbrev pub written : Outcome → ℕ → List ℕ → List ℕ → List ℕ
written outcome at piece image =
    (if nat_le at (length image) then part outcome at piece image else image)

-- what stands of a cut: nothing, all of it, or half of it
abbrev pub shortened : Outcome → ℕ → List ℕ → List ℕ
shortened Nothing n image = image
shortened Whole n image = take n image
shortened Front n image = take (n + (length image - n) / 2) image
shortened Back n image = take (n + (length image - n) / 2) image

-- what stands of an event in an image
abbrev pub left : Outcome → Event → List ℕ → List ℕ
left outcome (write at piece) image = written outcome at piece image
left outcome (lost_write at piece) image = written outcome at piece image
left outcome (shorten n) image = shortened outcome n image
left outcome (lost_cut n) image = shortened outcome n image
left outcome synced image = image

-- how many events there are since the last sync
abbrev pub unsynced : List Event → ℕ
unsynced [] = 0
unsynced (synced ∷ older) = 0
unsynced (event ∷ older) = suc (unsynced older)

-- what a crash leaves by a choice: the content at the last sync, with what stands of each event
-- since
abbrev pub crashed : ℕ → List ℕ → List Event → List ℕ
crashed choice first [] = first
crashed choice first (synced ∷ older) = content_of first older
crashed choice first (event ∷ older) =
    left (outcome_of choice (unsynced older)) event (crashed choice first older)

-- bytes that a choice leaves of these events, of which so many came since the last sync
pub record IsLeft (choice : ℕ) (first : List ℕ) (count : ℕ) (events : List Event) (image : List ℕ)
    : Type 0 where
  pub bytes : image ≡ crashed choice first events
  pub since : unsynced events ≡ count
