-- What is written of a run that came to its end: the report on it, or, of a made script, its
-- summary.
use Rattle.std.specs.Prelude.{◌≡◌, ℕ, List, length}
use Rattle.std.specs.List.{sum_by}
use Rattle.mn_base.specs.History.{store_after}
use Rattle.mn_base.specs.Ids.{node_numbers}
use Rattle.mn_base.specs.Store.{Store}
use Rattle.mn_gen.specs.Summary.{summary_text, sums_of}
use Rattle.mn_hist.specs.Audit.{IsAudit}
use Rattle.mn_mini.specs.Node.{held_parts}
use Rattle.mn_report.specs.declared.report.Report.{Report}
use Rattle.mn_report.specs.Report.{report_text}
use Rattle.mn_runs.specs.declared.entry.Entry.{Entry}
use Rattle.mn_runs.specs.Protocol.{Start, records_of, start_nodes}
use Rattle.mn_script.specs.Script.{Script, all_ops}
use Rattle.mn_serial.specs.History.{Placed, IsHistory, pasts_of}
use Rattle.mn_serial.specs.OneHistory.{IsOneHistory}
use Rattle.mn_top.specs.declared.words.Command.{Command}
use Rattle.mn_top.specs.declared.words.Command.TheVariants.{Gen}

-- how many ids the nodes still list after a run: each node those of the parts that it holds
abbrev pub listed_ids : Start → List Entry → ℕ
listed_ids start past =
    sum_by (λ n. length (held_parts (records_of start past n))) (node_numbers (start_nodes start))

-- the summary of a run on a script: of its clients and operations, of the store after its one legal
-- history, and of what the nodes still list
pub record Summarizes (from : Start) (store : Store) (script : Script) (past : List Entry)
    (text : List ℕ) : Type 0 where
  pub placed : List Placed
  pub history : IsHistory past placed
  pub one : IsOneHistory from store past placed
  pub printed : text ≡ summary_text (length script.clients) (all_ops script.clients)
      (sums_of (store_after store (pasts_of placed))) (listed_ids from past)

-- the report on it
pub record Reports (from : Start) (store : Store) (script : Script) (past : List Entry)
    (text : List ℕ) : Type 0 where
  pub report : Report
  pub audit : IsAudit from store script past report
  pub printed : text ≡ report_text report

-- what the command writes of it
abbrev pub Tells : Command → Start → Store → Script → List Entry → List ℕ → Type 0
Tells Gen from store script past text = Summarizes from store script past text
Tells command from store script past text = Reports from store script past text
