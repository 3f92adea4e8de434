-- What contracts see of a proxy.
use Rattle.std.specs.Prelude.{ℕ, ◌≡◌, ◌≢◌, true, Option, Some, None, ⊤}
use Rattle.mn_base.specs.declared.ids.ClientNo.{ClientNo}
use Rattle.mn_base.specs.declared.op.Op.{Op}
use Rattle.mn_proxy.specs.declared.errand.Errand.{Errand}
use Rattle.mn_proxy.specs.declared.errand.Errand.TheVariants as out
use Rattle.mn_work.specs.declared.known.Known.{Known}
use Rattle.mn_proxy.specs.declared.proxy.TheConstants.{PEEKS}
use Rattle.mn_work.specs.declared.work.Work.{Work}
use Rattle.mn_work.specs.Knows.{new_known}
use Rattle.mn_work.specs.Works.{new_work}

-- the client, the run, and how many serials were given out; how many Peeks may come before the next
-- serial; what is kept; the operation under way and what is on its way for it
pub record ProxyState : Type 0 where
  pub client : ClientNo
  pub run : ℕ
  pub issued : ℕ
  pub peeks : ℕ
  pub known : Known
  pub work : Option (Work × Errand)

-- nothing is kept yet
abbrev pub new_proxy : ClientNo → ℕ → ℕ → ProxyState
new_proxy client run nodes = record {
  client = client;
  run = run;
  issued = 0;
  peeks = PEEKS;
  known = new_known nodes;
  work = None;
}

-- the operation has begun, and nothing is on its way
abbrev pub begun : ProxyState → Op → ProxyState
begun p op = record {
  client = p.client;
  run = p.run;
  issued = p.issued;
  peeks = PEEKS;
  known = p.known;
  work = Some (new_work op, out.Nothing);
}

-- no operation is under way
abbrev pub IsIdle : ProxyState → Type 0
IsIdle p = p.work ≡ None

-- one is, and a call that was handed out isn't answered yet
abbrev pub IsOutIn : Option (Work × Errand) → Type 0
IsOutIn (Some (work, out.Peek place purpose)) = ⊤
IsOutIn (Some (work, out.Mini tid coordinator purpose)) = coordinator.asked ≡ true
IsOutIn work = ⊥

abbrev pub IsOut : ProxyState → Type 0
IsOut p = IsOutIn p.work

-- one is, and it is to be asked what comes next
abbrev pub IsReady : ProxyState → Type 0
IsReady p = (p.work ≢ None) × (IsOut p → ⊥)
