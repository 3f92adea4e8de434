-- Scripts: their parts, and the rules and limits that they meet.
use Rattle.std.specs.Prelude.{◌≤◌, ◌<◌, ℕ, List, length, map, bytes_eq, IfSome}
use Rattle.std.specs.List.{AllByRecursion, IsDistinct, sum_by}
use Rattle.mn_base.specs.Name.{IsName}
use Rattle.mn_base.specs.declared.op.Step.{Step}
use Rattle.mn_base.specs.declared.op.Step.TheVariants.{Get, Put, Del, Check}
use Rattle.mn_base.specs.declared.op.Op.{Op}
use Rattle.mn_base.specs.declared.op.Op.TheVariants.{Tx, Snapshot, Branch, Scan, Versions}
use Rattle.mn_script.specs.declared.elements.ScriptClient.{ScriptClient}
use Rattle.mn_script.specs.declared.elements.Point.{Point}
use Rattle.mn_script.specs.declared.elements.Point.TheVariants.{Kill, Stop}
use Rattle.mn_script.specs.declared.elements.Act.{Act}
use Rattle.mn_script.specs.declared.elements.Act.TheVariants as acts
use Rattle.mn_script.specs.Words.{Text}
use Rattle.mn_script.specs.Lines.{ops_of}

-- what a script says
pub record Script : Type 0 where
  pub nodes : ℕ
  pub recoverers : ℕ
  pub clients : List ScriptClient
  pub points : List Point
  pub schedule : List Act

abbrev pub AreBytes : Text → Type 0
AreBytes bytes = AllByRecursion (λ b. b < 256) bytes

-- a key has 1 to 32 bytes
abbrev pub IsKey : Text → Type 0
IsKey key = (1 ≤ length key) × (length key ≤ 32) × AreBytes key

-- a value has at most 64 bytes
abbrev pub IsValue : Text → Type 0
IsValue value = (length value ≤ 64) × AreBytes value

abbrev pub IsStep : Step → Type 0
IsStep (Get key) = IsKey key
IsStep (Put key value) = IsKey key × IsValue value
IsStep (Del key) = IsKey key
IsStep (Check key want) = IsKey key × IfSome want IsValue

-- a transaction has 1 to 16 steps, and a scan a limit from 1 to 1,000
abbrev pub IsOp : Op → Type 0
IsOp (Tx version steps) =
    IsName version × (1 ≤ length steps) × (length steps ≤ 16) × AllByRecursion IsStep steps
IsOp (Snapshot version child) = IsName version × IsName child
IsOp (Branch version child) = IsName version × IsName child
IsOp (Scan version low high limit) =
    IsName version × IfSome low IsKey × IfSome high IsKey × (1 ≤ limit) × (limit ≤ 1000)
IsOp Versions = Unit {0}

-- how many steps an operation has
abbrev pub steps_in : Op → ℕ
steps_in (Tx version steps) = length steps
steps_in op = 0

-- how many pairs an operation scans at most
abbrev pub limit_in : Op → ℕ
limit_in (Scan version low high limit) = limit
limit_in op = 0

-- a client has at most 2,000 operations
abbrev pub IsClient : ScriptClient → Type 0
IsClient c = IsName c.name × (length c.ops ≤ 2000) × AllByRecursion IsOp c.ops

-- how many operations, steps and pairs of scans the clients have
abbrev pub all_ops : List ScriptClient → ℕ
all_ops clients = sum_by (λ c. length c.ops) clients

abbrev pub all_steps : List ScriptClient → ℕ
all_steps clients = sum_by (λ c. sum_by steps_in c.ops) clients

abbrev pub all_limits : List ScriptClient → ℕ
all_limits clients = sum_by (λ c. sum_by limit_in c.ops) clients

-- at most 16 clients of different names, and the limits of what they do together
pub record AreClients (clients : List ScriptClient) : Type 0 where
  pub count : length clients ≤ 16
  pub names : IsDistinct bytes_eq (map (λ c. c.name) clients)
  pub each : AllByRecursion IsClient clients
  pub ops : all_ops clients ≤ 8000
  pub steps : all_steps clients ≤ 20000
  pub limits : all_limits clients ≤ 100000

-- the operation of this number, counted from 1, of a client that is there
abbrev pub IsTarget : List ScriptClient → ℕ → ℕ → Type 0
IsTarget clients client number =
    (client < length clients) × (1 ≤ number) × (number ≤ ops_of clients client)

-- a crash point names an operation, and a number of votes from 1 to 8 or a node
abbrev pub IsPoint : ℕ → List ScriptClient → Point → Type 0
IsPoint nodes clients (Kill client number votes) =
    IsTarget clients client.0 number × (1 ≤ votes) × (votes ≤ 8)
IsPoint nodes clients (Stop node client number at) =
    (node.0 < nodes) × IsTarget clients client.0 number

-- a recovery coordinator, counted from 1, and a client that are there
abbrev pub IsRecovery : ℕ → List ScriptClient → ℕ → ℕ → Type 0
IsRecovery recoverers clients recoverer client =
    (1 ≤ recoverer) × (recoverer ≤ recoverers) × (client < length clients)

-- an act names a client, a node or a recovery coordinator and a client that are there
abbrev pub IsAct : ℕ → ℕ → List ScriptClient → Act → Type 0
IsAct nodes recoverers clients (acts.Step client) = client.0 < length clients
IsAct nodes recoverers clients (acts.Plan client) = client.0 < length clients
IsAct nodes recoverers clients (acts.Go client) = client.0 < length clients
IsAct nodes recoverers clients (acts.All client) = client.0 < length clients
IsAct nodes recoverers clients (acts.Halt node) = node.0 < nodes
IsAct nodes recoverers clients (acts.Restart node) = node.0 < nodes
IsAct nodes recoverers clients (acts.Rstep recoverer client) =
    IsRecovery recoverers clients recoverer client.0
IsAct nodes recoverers clients (acts.Recover recoverer client) =
    IsRecovery recoverers clients recoverer client.0

-- the rules and limits of a script, but for the length of its text
pub record IsScript (s : Script) : Type 0 where
  pub some_nodes : 1 ≤ s.nodes
  pub few_nodes : s.nodes ≤ 8
  pub recoverers : s.recoverers ≤ 4
  pub clients : AreClients s.clients
  pub few_points : length s.points ≤ 64
  pub points : AllByRecursion (IsPoint s.nodes s.clients) s.points
  pub few_acts : length s.schedule ≤ 20000
  pub acts : AllByRecursion (IsAct s.nodes s.recoverers s.clients) s.schedule
