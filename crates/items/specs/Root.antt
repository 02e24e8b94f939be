-- What `root` answers.
use Rattle.std.specs.Prelude.{ℕ, List, [], ◌∷◌, ◌++◌, Option, None, Some, Result, Ok, Err, codes}
use Rattle.textio.specs.Hex.{encode_lower}
use Rattle.nodehash.specs.Sha256.{sha256}
use Rattle.nodehash.specs.Digests.{byte_sum}
use Rattle.prefixtree.specs.Placement.{Items}
use Rattle.prefixtree.specs.Node.{root_of}
use Rattle.textio.specs.declared.program_fault.ProgramFault.{ProgramFault}
use Rattle.textio.specs.declared.program_fault.ProgramFault.TheVariants.{BadHex}
use Rattle.items.specs.declared.orders.HashChoice.{HashChoice}
use Rattle.items.specs.declared.orders.HashChoice.TheVariants.{Sha256, Sum}
use Rattle.textio.specs.Digits.{hex32_or_zeros}
use Rattle.items.specs.Items.{placement_of}
use Rattle.items.specs.TreeOptions.{TreeOptions}

-- the function that a choice names
abbrev pub digest_of : HashChoice → List ℕ → List ℕ
digest_of Sha256 = sha256
digest_of Sum = byte_sum

-- the line that tells a root, in lower case
abbrev pub root_line : List ℕ → List ℕ
root_line root = codes "root " ++ encode_lower root ++ 10 ∷ []

-- the root of the placement that an input gives, or the input's fault
abbrev pub root_result : (List ℕ → List ℕ) → List ℕ → Result Items ProgramFault → Result (List ℕ) ProgramFault
root_result hash nonce (Ok items) = Ok (root_line (root_of hash nonce items))
root_result hash nonce (Err fault) = Err fault

-- what is answered to an input, once the nonce was read
abbrev pub root_result_under : HashChoice → Option (List ℕ) → List ℕ → Result (List ℕ) ProgramFault
root_result_under choice None input = Err BadHex
root_result_under choice (Some nonce) input = root_result (digest_of choice) nonce (placement_of input)

-- the text that an order and an input call for, or the fault
abbrev pub root_answer : TreeOptions → List ℕ → Result (List ℕ) ProgramFault
root_answer asked = root_result_under asked.hash (hex32_or_zeros asked.nonce)
