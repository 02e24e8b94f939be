-- What clap reads of the tables of subcommands and arguments.
use Rattle.std.specs.Prelude.{List, Some, fold}
use Rattle.clap.specs.declared.builder.value_parser.ValueParser.{ValueParser}
use Rattle.clap.specs.Words.{App, Rule, Text, new_app, with_rule, with_subcommand}
use Rattle.directoryd.specs.declared.order.tables.Argument.{Argument}
use Rattle.directoryd.specs.declared.order.tables.Kind.{Kind}
use Rattle.directoryd.specs.declared.order.tables.Kind.TheVariants as kind
use Rattle.directoryd.specs.declared.order.tables.Subcommand.{Subcommand}
use Rattle.directoryd.specs.CommandLine.{bounded_rule, flag_rule, hash_rule, optional_rule, positional_rule, required_rule, text_rule, word_rule}

-- the rule of an argument of this name and kind
abbrev pub rule_by : ValueParser → Text → Kind → Rule
rule_by names name kind.Word = word_rule name
rule_by names name kind.Positional = positional_rule name
rule_by names name kind.Text = text_rule name
rule_by names name kind.Required = required_rule name
rule_by names name (kind.Number least most default) = bounded_rule name least most default.now
rule_by names name (kind.Optional least most) = optional_rule name least most
rule_by names name kind.Flag = flag_rule name
rule_by names name kind.Hash = record (hash_rule names) { id = name; long = Some name }

abbrev pub rule_in : ValueParser → Argument → Rule
rule_in names row = rule_by names row.name.now row.kind

-- a command with an argument for each row
abbrev pub with_rows : ValueParser → App → List Argument → App
with_rows names = fold (λ command row. with_rule command (rule_in names row))

abbrev pub app_in : ValueParser → Subcommand → App
app_in names row = with_rows names (new_app row.name.now) row.arguments.now

-- a command with a subcommand for each row
abbrev pub apps_in : ValueParser → App → List Subcommand → App
apps_in names = fold (λ command row. with_subcommand command (app_in names row).top)
