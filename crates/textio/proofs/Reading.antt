-- Reads that are tried again.
use Rattle.std.proofs.Common.{ℕ, List, Option, None, Some, sym, ◌∙◌}
use Rattle.std.specs.Io.KnownBytes.{Consumes, Keeps}
use Rattle.std.proofs.KnownBytes.{Keeps-refl, Keeps-trans}

pub kept-Consumes : (a b c : Option (List ℕ)) (bytes : List ℕ) → Keeps a b → Consumes b c bytes → Consumes a c bytes
kept-Consumes None b c bytes kept took = tt
kept-Consumes (Some x) None c bytes kept took = absurd kept
kept-Consumes (Some x) (Some y) None bytes kept took = absurd took
kept-Consumes (Some x) (Some y) (Some z) bytes kept took = sym kept ∙ took

pub ruleset reads = (Keeps-refl, Keeps-trans, kept-Consumes)
