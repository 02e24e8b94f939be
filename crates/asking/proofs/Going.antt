-- What is told, one after another.
use Rattle.std.proofs.Common.{◌≡◌, ◌∙◌, ℕ, List, ap, append_assoc, sym}
use Rattle.asking.specs.declared.said.Said.{Said}
use Rattle.asking.specs.Reports.{Report, Tells, report_of, told_after}
use Rattle.asking.proofs.Telling.{worse-worse}

told-of : (lines lines' : List ℕ) (status status' : ℕ) → lines ≡ lines' → status ≡ status' → ◌≡◌ {A = Report} (record { lines = lines; status = status }) (record { lines = lines'; status = status' })
told-of lines lines' status status' one other = ap (λ (xs : List ℕ). let t : Report = record { lines = xs; status = status } in t) one ∙ ap (λ (n : ℕ). let t : Report = record { lines = lines'; status = n } in t) other

-- it does not matter which of them are told first after one another
pub after_after : (one two three : Report) → told_after one (told_after two three) ≡ told_after (told_after one two) three
after_after one two three = told-of _ _ _ _ (sym (append_assoc one.lines two.lines three.lines)) (sym (worse-worse one.status two.status three.status))

-- what was said so far, and then this
pub told_onto : (before after : Said) (told : Report) → Tells before told after → report_of after ≡ told_after (report_of before) told
told_onto before after told (lines, status) = told-of _ _ _ _ lines status
