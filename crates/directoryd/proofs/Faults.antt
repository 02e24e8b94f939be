-- One fault, as the end of calls with different answers.
use Rattle.std.proofs.Common.{◌≡◌, Result, Ok, Err, ap}
use Rattle.textio.specs.declared.program_fault.ProgramFault.{ProgramFault}

abbrev Fails : (A : Type 0) → ProgramFault → Result A ProgramFault
Fails A fault = Err fault

abbrev Gives : (A : Type 0) → A → Result A ProgramFault
Gives A answer = Ok answer

pub same_fault : (A B : Type 0) (x y : ProgramFault) → Fails A x ≡ Fails A y → Fails B x ≡ Fails B y
same_fault A B x y e = let same : x ≡ y = cc in ap (Fails B) same

pub no_fault : (A B : Type 0) (a : A) (b : B) (x y : ProgramFault) → Gives A a ≡ Fails A x → Gives B b ≡ Fails B y
no_fault A B a b x y e = absurd cc
