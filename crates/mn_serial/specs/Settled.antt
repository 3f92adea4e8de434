-- Contents of the places of pages and entries: one number never stands for two contents.
use Rattle.std.specs.Prelude.{ℕ, ◌≡◌, ◌≤◌, ◌<◌, ◌⊎◌, List, ◌++◌, take}
use Rattle.mn_base.specs.Store.{Store}
use Rattle.mn_mini.specs.Flat.{space_in}
use Rattle.mn_mini.specs.Node.{space_of}
use Rattle.mn_runs.specs.declared.entry.Entry.{Entry}
use Rattle.mn_runs.specs.Seen.{Place}
use Rattle.mn_law.specs.Places.{IsNumbered, number_size, number_in, content_in}
use Rattle.mn_runs.specs.Protocol.{Start, start_nodes, base_at, records_of}
use Rattle.mn_runs.specs.Commits.{flat_after}
use Rattle.mn_runs.specs.Sound.{opened_memory}
use Rattle.mn_serial.specs.Meaning.{OpenedRun}

-- after these entries: the bytes of a place in the flat memory, and in its node's own space
abbrev pub flat_content : Start → List Entry → Place → List ℕ
flat_content start past place =
    content_in (space_in (flat_after (opened_memory start) past) place.node) place

abbrev pub own_content : Start → List Entry → Place → List ℕ
own_content start past place =
    content_in (space_of (base_at start place.node) (records_of start past place.node)) place

-- at the opening, or at some place of the log, the place had these bytes in one of the two
abbrev pub HadContent : Start → List Entry → Place → List ℕ → Type 0
HadContent start past place bytes =
    (later : List Entry) × (before : List Entry) × (past ≡ later ++ before)
    × ((bytes ≡ flat_content start before place) ⊎ (bytes ≡ own_content start before place))

-- contents that the place had are equal if their numbers are, and in the flat memory its number
-- never falls
pub record PlaceIsSettled (start : Start) (past : List Entry) (place : Place) : Type 0 where
  pub one : (a b : List ℕ) → HadContent start past place a → HadContent start past place b
      → take number_size a ≡ take number_size b → a ≡ b
  pub rises : (later between before : List Entry) → past ≡ later ++ (between ++ before)
      → number_in (flat_content start before place)
      ≤ number_in (flat_content start (between ++ before) place)

-- in every run, each page and each entry is
abbrev pub PlacesAreSettled : Type 0
PlacesAreSettled =
    (start : Start) (store : Store) (past : List Entry) (place : Place)
    → OpenedRun start store past → IsNumbered place → place.node.0 < start_nodes start
    → PlaceIsSettled start past place
