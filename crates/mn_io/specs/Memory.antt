-- Sources and sinks in memory, which fail at chosen calls.
use Rattle.std.specs.Prelude.{ℕ, Bool, List, length, ◌==◌, ◌||◌, ◌&&◌, if◌then◌else◌, nat_lt}
use Rattle.std.specs.List.{list_any}
use Rattle.mn_io.specs.Faults.{next_count}

-- a source: the bytes that are left, how many calls there were, which calls fail, how many did
pub record SourceState : Type 0 where
  pub rest : List ℕ
  pub calls : ℕ
  pub fails : List ℕ
  pub faults : ℕ

-- a sink: the bytes written, how many more it takes, how many calls there were, which calls fail,
-- how many did
pub record SinkState : Type 0 where
  pub bytes : List ℕ
  pub room : ℕ
  pub calls : ℕ
  pub fails : List ℕ
  pub faults : ℕ

-- the call of this number is one of the list
abbrev pub is_one_of : ℕ → List ℕ → Bool
is_one_of call calls = list_any (λ n. n == call) calls

-- the count of faults after a call that failed, or that didn't
abbrev pub counted : Bool → ℕ → ℕ
counted failed faults = (if failed then next_count faults else faults)

-- this write fails: its number is in the list, or no room is left for its bytes
abbrev pub is_due : SinkState → List ℕ → Bool
is_due sink piece = is_one_of sink.calls sink.fails || (sink.room == 0 && nat_lt 0 (length piece))
