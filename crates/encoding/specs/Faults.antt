-- Why bytes are refused.
use Rattle.std.specs.Prelude.{ℕ}
use Rattle.encoding.specs.declared.fault.Fault.{Fault}
use Rattle.encoding.specs.declared.fault.Fault.TheVariants.{Short, Trailing, OutOfRange}

-- the number of a refusal
abbrev pub fault_number : Fault → ℕ
fault_number Short = 1
fault_number Trailing = 2
fault_number OutOfRange = 3
