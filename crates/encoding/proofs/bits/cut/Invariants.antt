use Rattle.std.proofs.Common.{◌≡◌, ◌-◌, ◌*◌, ◌++◌, take, drop}
use Rattle.encoding.specs.Bits.{cut}
use Rattle.encoding.proofs.bits.cut.Given as goal

-- the bytes so far are cut, and the others are as they were
abbrev pub invariant-loop-k : goal.invariant-loop-k
invariant-loop-k l = record {
  done : take l.k l.bytes ++ cut (drop l.k l.index) (l.n - 8 * l.k) ≡ cut l.index l.n;
  rest : drop l.k l.bytes ≡ drop l.k l.index;
}
