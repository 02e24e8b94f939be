use Rattle.std.proofs.Common.{ap, inl, inr, refl, sym}
use Rattle.asking.specs.FinalBindings.{changed_name}
use Rattle.asking.proofs.finals.changed_in.Goals as goal

pub returns-in-Ok-Final : goal.returns-in-Ok-Final
returns-in-Ok-Final c = inl (c.in-Ok-Final.field-0, c.in-Ok-Final.ensures.exact, sym (ap changed_name c.in-Ok-Final.field-0-is))

pub returns-in-Ok-Root : goal.returns-in-Ok-Root
returns-in-Ok-Root c = inl (c.in-Ok-Root.field-0, c.in-Ok-Root.ensures.exact, sym (ap changed_name c.in-Ok-Root.field-0-is))

pub returns-in-Ok-Broken : goal.returns-in-Ok-Broken
returns-in-Ok-Broken c = inl (c.in-Ok-Broken.field-0, c.in-Ok-Broken.ensures.exact, sym (ap changed_name c.in-Ok-Broken.field-0-is))

pub returns-in-Err-NotEvidence : goal.returns-in-Err-NotEvidence
returns-in-Err-NotEvidence c = inr (rw c.in-Err-NotEvidence.field-0-is at c.in-Err-NotEvidence.ensures.exact, refl)
