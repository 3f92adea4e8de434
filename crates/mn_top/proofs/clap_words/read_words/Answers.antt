use Rattle.std.proofs.Common.{subst, List, option_map}
use Rattle.mn_top.specs.CommandLine.{Split}
use Rattle.mn_top.specs.Words.{Text}
use Rattle.mn_top.proofs.CommandLines.{no_number, no_parts, none_says, parts_ask, some_says}
use Rattle.mn_top.proofs.clap_words.read_words.Goals as goal

pub returns-in_default : goal.returns-in_default
returns-in_default c = no_parts c.args.words.now _ c.texts.ensures (none_says _ _ c.in_ok-parts.field-0 c.in_default.is c.in_ok-parts.ensures)

pub returns-in_default-may_be_number : goal.returns-in_default-may_be_number
returns-in_default-may_be_number c =
    let parts = c.in-Some.parts in
    let split = some_says _ _ c.in_ok-parts.field-0 parts c.in-Some.is c.in_ok-parts.ensures in
    no_number c.args.words.now parts.command parts.nodes.now (option_map (λ w. w.now) parts.number) (option_map (λ w. w.now) parts.folder)
    (subst (λ (words : List Text). Split words parts.command parts.nodes.now (option_map (λ w. w.now) parts.number) (option_map (λ w. w.now) parts.folder)) c.texts.ensures split) c.in_default-may_be_number.ensures

pub returns : goal.returns
returns c =
    let parts = c.in-Some.parts in
    let split = some_says _ _ c.in_ok-parts.field-0 parts c.in-Some.is c.in_ok-parts.ensures in
    let nodes = c.in-Some-nodes_in.ensures in
    let folder = c.may_be_folder.ensures.0 c.if-not-may_be_folder.false in
    parts_ask c.args.words.now parts.command parts.nodes.now (option_map (λ w. w.now) parts.number) (option_map (λ w. w.now) parts.folder) c.in-Some-nodes_in.nodes c.in-Some-may_be_number.number
    (subst (λ (words : List Text). Split words parts.command parts.nodes.now (option_map (λ w. w.now) parts.number) (option_map (λ w. w.now) parts.folder)) c.texts.ensures split) nodes.0 nodes.1 nodes.2 c.in-Some-may_be_number.ensures folder
