use Rattle.std.proofs.Common.{rules, ap, ap₂, ◌≡◌, ◌∙◌, codes}
use Rattle.std.proofs.lemmas.Result.{IfOk-weaker}
use Rattle.clap.specs.Words.{App, app_of, with_subcommand}
use Rattle.mn_top.specs.CommandLine.{bare, plays}
use Rattle.mn_top.proofs.clap_words.command_line.Goals as goal

pub returns : goal.returns
returns c =
    let base : app_of c.disable_help_subcommand.result ≡ bare = search rules in
    let one : app_of c.in_ok-subcommand.field-0 ≡ with_subcommand bare (plays (codes "replay")).top = c.in_ok-subcommand.ensures.shape (search rules) ∙ ap₂ with_subcommand base (ap (λ (a : App). a.top) c.in_ok-replay.ensures.0) in
    let two = c.in_ok-subcommand-2.ensures.shape (search rules) ∙ ap₂ with_subcommand one (ap (λ (a : App). a.top) c.in_ok-run.ensures.0) in
    let three = c.in_ok-subcommand-3.ensures.shape (search rules) ∙ ap₂ with_subcommand two (ap (λ (a : App). a.top) c.in_ok-made.ensures.0) in
    IfOk-weaker c.subcommand-4.result _ _ (λ r h. (h.shape (search rules) ∙ ap₂ with_subcommand three (ap (λ (a : App). a.top) c.in_ok-check.ensures.0), search rules)) c.subcommand-4.ensures
