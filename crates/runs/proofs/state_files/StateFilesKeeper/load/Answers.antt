use Rattle.std.proofs.Common.{inr, refl}
use Rattle.textio.specs.declared.program_fault.ProgramFault.TheVariants.{OutOfMemory}
use Rattle.runs.proofs.Faulty.{passed_saving}
use Rattle.runs.proofs.state_files.StateFilesKeeper.load.Goals as goal

pub returns-in_err-drop_rest-2-clause-err : goal.returns-in_err-drop_rest-2-clause-err
returns-in_err-drop_rest-2-clause-err g c = passed_saving c.from_residual-in_err-drop_rest-2.result c.in_err-drop_rest-2.field-0.0 c.from_residual-in_err-drop_rest-2.ensures.1 c.in_err-drop_rest-2.ensures.err

pub returns-in_err-drop_rest-3-clause-err : goal.returns-in_err-drop_rest-3-clause-err
returns-in_err-drop_rest-3-clause-err g c = passed_saving c.from_residual-in_err-drop_rest-3.result c.in_err-drop_rest-3.field-0.0 c.from_residual-in_err-drop_rest-3.ensures.1 c.in_err-drop_rest-3.ensures.err

pub returns-in_err-explain_earlier-clause-err : goal.returns-in_err-explain_earlier-clause-err
returns-in_err-explain_earlier-clause-err g c = passed_saving c.from_residual-in_err-explain_earlier.result OutOfMemory c.from_residual-in_err-explain_earlier.ensures.1 (inr refl)
