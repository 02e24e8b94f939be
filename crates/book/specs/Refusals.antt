-- The numbers of the refusals, which a frame carries.
use Rattle.std.specs.Prelude.{ℕ}
use Rattle.book.specs.declared.directory_refusal.Refusal.{Refusal}
use Rattle.book.specs.declared.directory_refusal.Refusal.TheVariants.{BadName, BadKey, BadPolicy, NameTaken, NoSuchName, FinalBinding, PendingExists, IndexTaken, NoSuchEpoch, EpochNotLater, NoPromise, Memory, BadRange, KeepFailed}

abbrev pub book_refusal_number : Refusal → ℕ
book_refusal_number BadName = 4
book_refusal_number BadKey = 5
book_refusal_number BadPolicy = 26
book_refusal_number NameTaken = 6
book_refusal_number NoSuchName = 7
book_refusal_number FinalBinding = 25
book_refusal_number PendingExists = 8
book_refusal_number IndexTaken = 9
book_refusal_number NoSuchEpoch = 10
book_refusal_number EpochNotLater = 11
book_refusal_number NoPromise = 13
book_refusal_number Memory = 14
book_refusal_number BadRange = 15
book_refusal_number KeepFailed = 19
