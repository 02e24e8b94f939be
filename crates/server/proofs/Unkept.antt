-- What comes of a session of a directory that is kept nowhere, as the program's own fault.
use Rattle.std.proofs.Common.{◌≡◌, ℕ, List, Option, Some, Result, Ok, Err, inl, inr}
use Rattle.rand_chacha.specs.ChaCha.{ChaCha}
use Rattle.book.specs.declared.keeper.NoKeeper.{NoKeeper}
use Rattle.book.specs.Keeps.{KeepsNothing, NeverFails}
use Rattle.hub.specs.Desks.{DeskState}
use Rattle.textio.specs.declared.program_fault.ProgramFault.{ProgramFault}
use Rattle.textio.specs.declared.program_fault.ProgramFault.TheVariants.{BadHex}
use Rattle.server.specs.declared.serve_fault.ServeFault.{ServeFault}
use Rattle.server.specs.declared.serve_fault.ServeFault.TheVariants as fault
use Rattle.server.specs.Faults.{of_serving}
use Rattle.server.specs.DirectoryOptions.{DirectoryOptions}
use Rattle.server.specs.Directories.{keys_of, DirectoryKeys, HasBegun}
use Rattle.server.specs.ConnectionOptions.{ConnectionOptions}
use Rattle.server.specs.Listening.{AnswersConnections, TellsAddress, TellsUnkept}
use Rattle.server.specs.Programs.{ServesFrom, ServesUnkept}

pub unserved : (asked : DirectoryOptions) (input written left told : Option (List ℕ)) (why : ServeFault) (result : Result (Unit {0}) ProgramFault) → result ≡ Err (of_serving why)
    → ServesFrom asked input written (Err why) left told → ServesUnkept asked input written result left told
unserved asked input written left told fault.CannotRead result is serves = rw is serves
unserved asked input written left told fault.CannotWrite result is serves = rw is (inl serves)
unserved asked input written left told fault.OutOfMemory result is serves = rw is (inr serves)
unserved asked input written left told fault.OutOfMemoryAndCannotWrite result is serves = rw is (inr serves)

pub serving_knows_the_keys : (why : ServeFault) (result : Result (Unit {0}) ProgramFault) → result ≡ Err (of_serving why) → result ≡ Err BadHex → ⊥
serving_knows_the_keys fault.CannotRead result is bad = absurd cc
serving_knows_the_keys fault.CannotWrite result is bad = absurd cc
serving_knows_the_keys fault.OutOfMemory result is bad = absurd cc
serving_knows_the_keys fault.OutOfMemoryAndCannotWrite result is bad = absurd cc

pub serves_begun : (asked : DirectoryOptions) (taken : ConnectionOptions) (keys : DirectoryKeys) (begun : DeskState ChaCha NoKeeper) (errors : Option (List ℕ)) (result : Result (Unit {0}) ProgramFault) (new : Option (List ℕ))
    → keys_of asked ≡ Some keys → HasBegun keys begun.directory → begun.token ≡ keys.token
    → TellsAddress (AnswersConnections KeepsNothing NeverFails taken begun) errors result new → TellsUnkept asked taken errors result new
serves_begun asked taken keys begun errors (Ok done) new same begins token (address, told, line, answers) = (address, told, line, (keys, begun, same, begins, token, answers))
serves_begun asked taken keys begun errors (Err fault) new same begins token tells = tells
