use Rattle.std.proofs.Common.{◌≡◌, ◌++◌, drop}
use Rattle.std.specs.Prelude.{flat_map}
use Rattle.mn_script.specs.Grammar.{client_text}
use Rattle.mn_script.proofs.write.push_clients.Given as goal

-- the text so far, and that of the rest
abbrev pub invariant-loop-client : goal.invariant-loop-client
invariant-loop-client l = l.out.items ++ flat_map client_text (drop l.client-index l.clients) ≡ l.fn.out.items ++ flat_map client_text l.clients
