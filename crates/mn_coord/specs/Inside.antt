-- What the fields of a coordinator stand for.
use Rattle.std.specs.Prelude.{◌≡◌, ℕ, ◌+◌, ◌<◌, ◌≤◌, Bool, ◌&&◌, nat_lt, length, drop, Option, Some}
use Rattle.std.specs.Prelude.{None, if◌then◌else◌, MatchOption, false, [], ◌∷◌, replicate}
use Rattle.mn_base.specs.declared.ids.Tid.{Tid}
use Rattle.mn_mini.specs.declared.reply.NodeReply.{NodeReply}
use Rattle.mn_mini.specs.Mini.{Mini, IsSound, participants_of}
use Rattle.mn_mini.specs.RecordGrammar.{IsTid}
use Rattle.mn_coord.specs.Coordination.{Coordination}
use Rattle.mn_coord.specs.Tries.{tries_of}
use Rattle.mn_coord.specs.declared.machine.Machine.{Machine}

abbrev pub view_of : Machine → Coordination
view_of c =
    record {
      tid = c.tid;
      mini = c.mini;
      done = c.done;
      reads = c.reads;
      refused = c.refused;
      told = c.told;
      decided = c.decided;
      asked = c.asked;
    }

-- before the requests are made
abbrev pub unfilled : Tid → Mini → Machine
unfilled tid mini =
    record {
      tid = tid;
      mini = mini;
      requests = [];
      reads = [] ∷ [];
      done = 0;
      refused = None;
      told = false;
      decided = 0;
      asked = false;
    }

-- with the requests, and room for what so many participants read
abbrev pub filled : Machine → ℕ → Machine
filled c participants =
    record c { requests = tries_of c.tid c.mini; reads = replicate participants [] }

-- how many participants were asked
abbrev pub sent_of : ℕ → ℕ → Option NodeReply → Bool → ℕ
sent_of participants done (Some reply) asked = done + 1
sent_of participants done None asked = if asked && nat_lt done participants then done + 1 else done

-- the id and the minitransaction are sound, and the requests that are left are those of the
-- participants that were not asked
pub record IsSoundInside (c : Machine) : Type 0 where
  pub id : IsTid c.tid
  pub mini : IsSound c.mini
  pub some : 1 ≤ length (participants_of c.mini)
  pub done : MatchOption c.refused (c.done ≤ length (participants_of c.mini))
      (λ reply. c.done < length (participants_of c.mini))
  pub reads : length c.reads ≡ length (participants_of c.mini)
  pub left : c.requests ≡ drop
      (sent_of (length (participants_of c.mini)) c.done c.refused c.asked) (tries_of c.tid c.mini)
