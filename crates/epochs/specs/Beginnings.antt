-- Why a directory does not begin.
use Rattle.std.specs.Prelude.{◌≡◌, ℕ, ◌<◌}
use Rattle.book.specs.declared.directory_refusal.Refusal.{Refusal}
use Rattle.book.specs.declared.directory_refusal.Refusal.TheVariants.{BadName, BadKey, BadPolicy, NameTaken, NoSuchName, FinalBinding, PendingExists, IndexTaken, NoSuchEpoch, EpochNotLater, NoPromise, Memory, BadRange, KeepFailed}

abbrev pub IsBeginRefusal : ℕ → Refusal → Type 0
IsBeginRefusal epoch BadName = ⊥
IsBeginRefusal epoch BadKey = ⊥
IsBeginRefusal epoch BadPolicy = ⊥
IsBeginRefusal epoch NameTaken = ⊥
IsBeginRefusal epoch NoSuchName = ⊥
IsBeginRefusal epoch FinalBinding = ⊥
IsBeginRefusal epoch PendingExists = ⊥
IsBeginRefusal epoch IndexTaken = ⊥
IsBeginRefusal epoch NoSuchEpoch = ⊥
IsBeginRefusal epoch EpochNotLater = epoch ≡ 0
IsBeginRefusal epoch NoPromise = ⊥
IsBeginRefusal epoch Memory = 0 < epoch
IsBeginRefusal epoch BadRange = ⊥
IsBeginRefusal epoch KeepFailed = ⊥
