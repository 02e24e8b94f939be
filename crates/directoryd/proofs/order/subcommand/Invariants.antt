use Rattle.std.proofs.Common.{◌≡◌, take}
use Rattle.clap.specs.Words.{app_of}
use Rattle.clap.specs.declared.builder.command.Command.TheViews.{out-Command}
use Rattle.directoryd.specs.Tables.{with_rows}
use Rattle.directoryd.proofs.order.subcommand.Given as goal

abbrev pub invariant-loop-taken : goal.invariant-loop-taken
invariant-loop-taken l = (app_of l.command ≡ with_rows l.names (app_of l.initial.command) (take l.taken-index l.row.arguments.now))
    × ((out-Command l.command).has_globals ≡ (out-Command l.initial.command).has_globals)
