use Rattle.std.proofs.Common.{ap, ap₂, true, ◌≡◌, ◌∙◌}
use Rattle.std.proofs.lemmas.List.{take_all}
use Rattle.clap.specs.Words.{App, app_of, with_subcommand}
use Rattle.clap.specs.Simple.{app_of_fields}
use Rattle.directoryd.specs.CommandLine.{bare_app}
use Rattle.directoryd.specs.Tables.{apps_in}
use Rattle.directoryd.proofs.Commands.{more_subcommands}
use Rattle.directoryd.proofs.order.command.Goals as goal

-- `Command::version`
abbrev versioned : App → App
versioned a = record a { top = record a.top { has_version = true } }

-- `Command::subcommand_required`
abbrev requiring : App → App
requiring a = record a { top = record a.top { subcommand_required = true } }

pub loop-row-preserved : goal.loop-row-preserved
loop-row-preserved c =
    let at = c.loop-row in
    let names = c.hash_names-names.result in
    let rows = c.table-row-items.result.now in
    c.in_ok-directoryd.ensures.shape c.in_ok-subcommand.ensures.local
    ∙ ap₂ with_subcommand at.invariant (ap (λ (a : App). a.top) c.in_ok-subcommand.ensures.app)
    ∙ more_subcommands names (app_of c.subcommand_required-directoryd.result) rows at.row-index _ c.loop-row-test.true

pub returns : goal.returns
returns c =
    let at = c.loop-row in
    let names = c.hash_names-names.result in
    let rows = c.table-row-items.result.now in
    let top_is : app_of c.subcommand_required-directoryd.result ≡ bare_app
    = ap app_of_fields c.subcommand_required-directoryd.ensures
    ∙ ap requiring (ap app_of_fields c.version.ensures
    ∙ ap versioned (ap app_of_fields c.after_help.ensures ∙ ap app_of_fields c.about.ensures ∙ c.new.ensures.app)) in (
      names,
      c.hash_names-names.ensures,
      at.invariant ∙ rw (take_all _ rows c.loop-row-test.false) (ap (λ app. apps_in names app rows) top_is) ∙ c.table-row-items.ensures names,
    )
