use Rattle.std.proofs.Common.{◌≡◌, ◌∙◌, ap, take}
use Rattle.std.proofs.lemmas.List.{take_all}
use Rattle.clap.specs.Words.{app_of, with_rule}
use Rattle.clap.specs.Simple.{app_of_fields}
use Rattle.clap.specs.declared.builder.command.Command.{Command}
use Rattle.clap.specs.declared.builder.command.Command.TheOpen.{Command-F}
use Rattle.directoryd.specs.Tables.{with_rows}
use Rattle.directoryd.proofs.Commands.{more_rows, stays_local, with_one}
use Rattle.directoryd.proofs.order.subcommand.Goals as goal

pub loop-taken-preserved : goal.loop-taken-preserved
loop-taken-preserved c =
    let at = c.loop-taken in
    let names = c.args.names in
    let rows = c.args.row.now.arguments.now in
    let app = app_of c.after_help-command.result in
    let one : app_of c.in_ok-command.command ≡ with_rule (with_rows names app (take at.taken-index rows)) _
    = with_one _ _ _ _ _ c.in_ok-command.ensures c.argument.ensures.local at.invariant.0 c.argument.ensures.rule in
    (one ∙ more_rows names app rows at.taken-index _ c.loop-taken-test.true, stays_local _ _ _ c.in_ok-command.ensures c.argument.ensures.local ∙ at.invariant.1)

pub returns-clause-app : goal.returns-clause-app
returns-clause-app c =
    let at = c.loop-taken in
    let names = c.args.names in
    let rows = c.args.row.now.arguments.now in
    let bare = ap app_of_fields c.after_help-command.ensures ∙ ap app_of_fields c.about.ensures ∙ c.new.ensures.app in
    at.invariant.0 ∙ rw (take_all _ rows c.loop-taken-test.false) (ap (λ app. with_rows names app rows) bare)

pub returns-clause-local : goal.returns-clause-local
returns-clause-local c =
    let has_globals = λ (fields : Command-F Command). fields.has_globals in
    let bare = ap has_globals c.after_help-command.ensures ∙ ap has_globals c.about.ensures ∙ c.new.ensures.local in
    c.loop-taken.invariant.1 ∙ bare
