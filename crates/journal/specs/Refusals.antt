-- The numbers of refusals.
use Rattle.std.specs.Prelude.{ℕ}
use Rattle.journal.specs.declared.open_refusal.Refusal.{Refusal}
use Rattle.journal.specs.declared.open_refusal.Refusal.TheVariants.{BadRecord, OtherKeys, Memory}

abbrev pub journal_refusal_number : Refusal → ℕ
journal_refusal_number BadRecord = 1
journal_refusal_number OtherKeys = 2
journal_refusal_number Memory = 3
