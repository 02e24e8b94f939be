use Rattle.std.proofs.Common.{All, map, take}
use Rattle.commands.specs.Operations.{asked, IsCommand}
use Rattle.epochs.proofs.Running.{RunsTo}
use Rattle.epochs.proofs.directory.Directory.run.Given as goal

-- the replies so far are those to the commands so far, which have what their types say
abbrev pub invariant-loop-command : goal.invariant-loop-command
invariant-loop-command g l =
    (RunsTo g.H.NodeHash.digest_of g.V.Vuf.value_of g.S.Signer.signature_of g.R.Rng.stream g.K.Keeper.kept g.K.Keeper.failed l.fn.self l.fn.keeper (map asked (take l.command-index l.commands)) l.replies.items l.self l.keeper)
    × All (λ command. IsCommand (asked command)) (take l.command-index l.commands)
