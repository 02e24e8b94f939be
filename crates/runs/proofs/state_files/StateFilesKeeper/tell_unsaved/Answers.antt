use Rattle.textio.proofs.Writing.{some_written}
use Rattle.runs.proofs.state_files.StateFilesKeeper.tell_unsaved.Goals as goal

pub returns : goal.returns
returns g c = (_, some_written _ _ _ _ c.write_text-told.ensures.ok c.write_text-told.ensures.err)
