use Rattle.std.proofs.Common.{rules, map, string_bytes, codes, ap, sym, ◌∙◌}
use Rattle.clap.specs.Words.{App, found_of, fault_of, is_simple, is_simple_and_free, rows_of, subcommand_of, subcommand_rows_of}
use Rattle.clap.proofs.WalkLemmas.{first_value-rows}
use Rattle.mn_top.proofs.Subcommands.{are_plain, complete, finish, is_free, is_ready, not_met, only_memory, sound, subcommand_is}
use Rattle.mn_top.proofs.Positionals.{not_none}
use Rattle.mn_top.proofs.clap_words.split.Goals as goal

pub returns-in-Err : goal.returns-in-Err
returns-in-Err c = λ name a k f pl s.
    let words = map string_bytes c.args.words.now in
    let app = c.in_ok-command.ensures.0 in
    let met = complete words name a k f (are_plain words pl) s in
    let none = ap (λ (x : App). fault_of x words) app ∙ met.taken in
    let memory = only_memory _ c.in-Err.error (c.in-Err.ensures.kinds (ap is_simple_and_free app ∙ is_free)) none in
    search (rules, memory)

pub returns-in_default : goal.returns-in_default
returns-in_default c = λ name a k f pl s.
    let words = map string_bytes c.args.words.now in
    let app = c.in_ok-command.ensures.0 in
    let met = complete words name a k f (are_plain words pl) s in
    let rows = (c.in-Ok.ensures.matches (ap is_simple app ∙ is_ready)).1 ∙ ap (λ (x : App). subcommand_of x words) app in
    not_met (subcommand_rows_of c.in-Ok.matches) words name a c.in_default.ensures.rows rows met

pub returns-in_default-command_in : goal.returns-in_default-command_in
returns-in_default-command_in c = λ name a k f pl s.
    let words = map string_bytes c.args.words.now in
    let app = c.in_ok-command.ensures.0 in
    let rows = (c.in-Ok.ensures.matches (ap is_simple app ∙ is_ready)).1 ∙ ap (λ (x : App). subcommand_of x words) app in
    let none = sym (ap (λ (x : App). fault_of x words) app) ∙ c.in-Ok.ensures.kinds (ap is_simple_and_free app ∙ is_free) in
    let got = sound words (are_plain words pl) none _ _ (sym rows ∙ subcommand_is c.in-Ok.matches _ _ c.in-Some.ensures.name c.in-Some.ensures.rows) in
    c.in_default-command_in.ensures got.name got.named

pub returns-in_default-get_str : goal.returns-in_default-get_str
returns-in_default-get_str c = λ name a k f pl s.
    let words = map string_bytes c.args.words.now in
    let app = c.in_ok-command.ensures.0 in
    let rows = (c.in-Ok.ensures.matches (ap is_simple app ∙ is_ready)).1 ∙ ap (λ (x : App). subcommand_of x words) app in
    let none = sym (ap (λ (x : App). fault_of x words) app) ∙ c.in-Ok.ensures.kinds (ap is_simple_and_free app ∙ is_free) in
    let got = sound words (are_plain words pl) none _ _ (sym rows ∙ subcommand_is c.in-Ok.matches _ _ c.in-Some.ensures.name c.in-Some.ensures.rows) in
    let found = found_of c.in-Some.inner.now in
    let there = c.in_default-get_str.ensures ∙ first_value-rows found (codes "nodes") ∙ got.nodes_found in
    not_none _ there

pub returns : goal.returns
returns c =
    let words = map string_bytes c.args.words.now in
    let app = c.in_ok-command.ensures.0 in
    let rows = (c.in-Ok.ensures.matches (ap is_simple app ∙ is_ready)).1 ∙ ap (λ (x : App). subcommand_of x words) app in
    let none = sym (ap (λ (x : App). fault_of x words) app) ∙ c.in-Ok.ensures.kinds (ap is_simple_and_free app ∙ is_free) in
    let found = found_of c.in-Some.inner.now in
    let got = sound words (are_plain words (sym c.has_option.ensures ∙ c.if-has_option.false)) none _ _ (sym rows ∙ subcommand_is c.in-Ok.matches _ _ c.in-Some.ensures.name c.in-Some.ensures.rows) in
    finish words c.in-Some.word.now (rows_of found) got c.in-Some-command_in.command c.in-Some-get_str.nodes.now _ _ c.in-Some-command_in.ensures
    (c.in-Some-get_str.ensures ∙ first_value-rows found (codes "nodes"))
    (c.get_str-number.ensures ∙ first_value-rows found (codes "number"))
    (c.get_str-folder.ensures ∙ first_value-rows found (codes "folder"))
