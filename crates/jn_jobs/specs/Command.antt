-- The command, as the parser of command lines sees it, and the parts that its rows give.
use Rattle.std.specs.Prelude.{true, List, [], Some, codes, unwrap_or}
use Rattle.clap.specs.Words.{App, Row, Rule, all_of, new_app, new_rule, with_rule}
use Rattle.clap.specs.Simple.{on_top}
use Rattle.clap.specs.declared.builder.action.ArgAction.TheVariants.{Append}
use Rattle.jn_jobs.specs.Parts.{Text, Arena, Depth, Steps, Parts, name_of}

-- The words alone, without the program's name before them, and no help.
abbrev pub bare : App
bare = on_top (λ s. record s { no_binary_name = true; disable_help_flag = true }) (new_app (codes "jandc"))

abbrev pub words_rule : Rule
words_rule = record (new_rule (codes "words")) { action = Some Append }

abbrev pub option_rule : Text → Rule
option_rule name = record (new_rule name) { long = Some name; action = Some Append }

abbrev pub command : App
command = with_rule (with_rule (with_rule (with_rule bare words_rule)
    (option_rule (name_of Arena))) (option_rule (name_of Depth))) (option_rule (name_of Steps))

-- The values under an id.
abbrev pub values_of : Text → List Row → List Text
values_of id rows = unwrap_or (all_of id rows) []

abbrev pub parts_of : List Row → Parts
parts_of rows = record {
  positional = values_of (codes "words") rows;
  arena = values_of (name_of Arena) rows;
  depth = values_of (name_of Depth) rows;
  steps = values_of (name_of Steps) rows;
}
