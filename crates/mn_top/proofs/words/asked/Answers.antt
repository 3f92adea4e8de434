use Rattle.std.proofs.Common.{rules, ◌≡◌, map, string_bytes, option_map, sym, refl, ◌∙◌, false, is_none}
use Rattle.mn_top.specs.declared.words.Command.TheVariants.{Check}
use Rattle.mn_top.proofs.WordLemmas.{two, has_some, spelled_by}
use Rattle.mn_top.proofs.words.asked.Goals as goal
use Rattle.mn_top.proofs.words.asked.Goals.{else-eq-via-then-eq+else-is_none, else-eq-via-else-eq}

pub returns : goal.returns
returns c =
    let words = c.as_slice.result.now in
    let whole = two string_bytes words c.command-item.result c.nodes-item.result c.in-len2-up.len_at_least c.command-item.is c.nodes-item.is in
    let all : c.args.words.now ≡ map string_bytes words = search rules in
    let command = c.in_ok-command.command in
    let folder = c.in_ok-folder.folder in
    let number = c.in_ok-found.found.number in
    let numbered = c.in_ok-found.ensures in
    let nodes = c.in_ok-nodes.ensures in
    let some : command ≡ Check → is_none folder ≡ false = λ e. elim c.else-eq.branch [
      | else-eq-via-then-eq+else-is_none w ↦ search rules
      | else-eq-via-else-eq w ↦ search rules
    ] in (
      record { command = command; nodes = c.in_ok-nodes.nodes; number = number; folder = option_map (λ f. f.now) folder },
      record {
        spelled = spelled_by c.args.words.now _ _ _ _ command c.in_ok-nodes.nodes number (option_map (λ f. f.now) folder)
            (all ∙ whole) (sym c.as_str.ensures.value ∙ c.in_ok-command.ensures) (sym c.as_str-2.ensures.value ∙ nodes.0) numbered.1 c.in_ok-folder.ensures.1;
        some = nodes.1;
        few = nodes.2;
        number = numbered.0;
        folder = has_some command (λ f. f.now) folder c.in_ok-folder.ensures.0 some;
      },
      (refl, refl, refl, refl),
    )
