-- What shows anyone that a provider cheated (CONIKS, section 4: equivocation, and temporary bindings that were not
-- kept; final bindings are this directory's own).
use Rattle.std.specs.Prelude.{ℕ, List}
use Rattle.rootchain.specs.Evidence.{IsRootEvidence}
use Rattle.proofs.specs.BrokenFinals.{IsBrokenFinal}
use Rattle.proofs.specs.BrokenPromises.{IsBrokenPromise}
use Rattle.auditor.specs.declared.evidence.Evidence.{Evidence}
use Rattle.auditor.specs.declared.evidence.Evidence.TheVariants.{Root, Broken, Final}

module _ (hash : List ℕ → List ℕ) (accepted verified : List ℕ → List ℕ → List ℕ → Type 0) (key : List ℕ) where
  -- two roots of this provider that cannot both stand in one chain of well-formed roots (equivocation), a promise
  -- (temporary binding) of the provider that was broken, or a final binding that was changed
  abbrev pub IsEvidence : Evidence → Type 0
  IsEvidence (Root roots) = IsRootEvidence hash verified key roots
  IsEvidence (Broken broken) = IsBrokenPromise hash accepted verified key broken.promise broken.root broken.proof
  IsEvidence (Final broken) = IsBrokenFinal hash accepted verified key broken
