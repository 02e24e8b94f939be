use Rattle.std.proofs.Common.{◌≡◌, [], List, ℕ, Err, rules, subst}
use Rattle.textio.specs.declared.program_fault.ProgramFault.TheVariants as fault
use Rattle.textio.specs.Lines.{lines_of}
use Rattle.play.specs.Beginnings.{script_index, script_salts}
use Rattle.play.specs.Played.{opening}
use Rattle.play.specs.Plays.{PlaysTo}
use Rattle.play.specs.Printing.{played_from}
use Rattle.play.proofs.Scripted.{at_first, device_ends}
use Rattle.play.proofs.playing.play.Goals as goal

pub returns-in_err-engine : goal.returns-in_err-engine
returns-in_err-engine g c =
    let passed : c.from_residual.result ≡ Err fault.OutOfMemory = search rules in
    rw passed (device_ends script_index (opening script_salts) _ _ 1 (opening script_salts) _ _ [] fault.OutOfMemory tt (at_first script_index (opening script_salts) _ _))

pub play_lines-played-requires : goal.play_lines-played-requires
play_lines-played-requires g c = record { at = (opening script_salts, c.in_ok-engine.ensures.at) }

pub returns : goal.returns
returns g c =
    subst (λ (index : List ℕ → List ℕ). PlaysTo (λ script. played_from index 1 (opening script_salts) (lines_of script)) (g.R.Read.remaining c.args.reader.now) (g.W.Write.contents c.args.writer.now) (g.W.Write.contents c.play_lines-played.new.writer) c.play_lines-played.result)
    c.in_ok-engine.ensures.index (c.play_lines-played.ensures (opening script_salts) c.in_ok-engine.ensures.at)
