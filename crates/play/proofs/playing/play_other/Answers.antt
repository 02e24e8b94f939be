use Rattle.std.proofs.Common.{ap, option_map, sym, ◌∙◌}
use Rattle.play.specs.Scripts.{line_seen}
use Rattle.play.proofs.Fitting.{line_fits}
use Rattle.play.proofs.playing.play_other.Goals as goal

pub play_line-requires-clause-fits : goal.play_line-requires-clause-fits
play_line-requires-clause-fits g c =
    line_fits c.args.line.now (line_seen c.in-Some.line) (sym c.in_ok-line.ensures ∙ ap (option_map line_seen) c.in-Some.is)
