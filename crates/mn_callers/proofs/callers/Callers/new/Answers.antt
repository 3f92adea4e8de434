use Rattle.std.proofs.Common.{◌∙◌, ℕ, List, None, ap, replicate}
use Rattle.mn_runs.specs.declared.entry.Entry.{Entry}
use Rattle.mn_runs.specs.Calls.{begun_of}
use Rattle.mn_runs.specs.Lists.{ClientState}
use Rattle.mn_runs.specs.Protocol.{entries_of}
use Rattle.mn_callers.specs.Acts.{ops_by}
use Rattle.mn_callers.specs.Clients.{past_of}
use Rattle.mn_callers.specs.Plays.{caller_at}
use Rattle.mn_callers.proofs.Beginning.{none_works}
use Rattle.mn_callers.proofs.Orders.{first_none}
use Rattle.mn_callers.proofs.Recovering.{none_recovered}
use Rattle.mn_callers.proofs.callers.Callers.new.Goals as goal

pub returns-clause-ready : goal.returns-clause-ready
returns-clause-ready c = λ start run nodes k client at. (c.in_ok-new_clients.ensures.new k client at).is_client start run nodes

pub returns-clause-idle : goal.returns-clause-idle
returns-clause-idle c = none_works c.in_ok-new_desks.field-0.items c.in_ok-new_desks.ensures.new ∙ ap (λ (n : ℕ). replicate n None) c.in_ok-new_desks.ensures.count

pub returns-clause-callers : goal.returns-clause-callers
returns-clause-callers c = λ start run nodes. record {
  count = c.in_ok-new_clients.ensures.count;
  clients = λ k client at. ((c.in_ok-new_clients.ensures.new k client at).is_client start run nodes).run;
  begins = λ k client at. first_none (ops_by c.args.script.now.clients (caller_at k)) (past_of client) (ap (λ (l : List (ℕ × Entry)). begun_of (entries_of l)) (c.in_ok-new_clients.ensures.new k client at).empty);
  desks = λ k desk at. (c.in_ok-new_desks.ensures.new k desk at).is_desk start;
  closer_list = none_recovered start c.new.result (ap (λ (l : ClientState). l.entries) c.new.ensures);
}
