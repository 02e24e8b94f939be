-- A text is written by writes of its parts.
use Rattle.std.proofs.Common.{◌≡◌, ◌≢◌, ℕ, List, [], ◌∷◌, ◌++◌, length, take, drop, Option, Result, Ok, Err, OnOk, IfErr, refl, sym, ap, subst, ◌∙◌, arith, append_assoc, append-nil, take-append-drop}
use Rattle.std.specs.Io.KnownBytes.{Appends, Keeps}
use Rattle.std.proofs.KnownBytes.{Appends-kept, Appends-nil, Appends-trans}
use Rattle.textio.specs.declared.stream_fault.StreamFault.{StreamFault}
use Rattle.textio.specs.declared.stream_fault.StreamFault.TheVariants.{CannotWrite}
use Rattle.textio.specs.Output.{WritesBut, WritesBeginning, WritesSome}

pub WritesBut-none : (contents : Option (List ℕ)) (text : List ℕ) → WritesBut contents contents text text
WritesBut-none contents text = ([], refl, Appends-nil contents)

pub WritesBut-more : (old mid new : Option (List ℕ)) (text rest : List ℕ) (count : ℕ) → WritesBut old mid text rest → Appends mid new (take count rest)
    → WritesBut old new text (drop count rest)
WritesBut-more old mid new text rest count (front, split, appended) more = (
  front ++ take count rest,
  split ∙ ap (λ l. front ++ l) (sym (take-append-drop count rest)) ∙ sym (append_assoc front (take count rest) (drop count rest)),
  Appends-trans old mid new front (take count rest) appended more,
)

pub WritesBut-whole : (old new : Option (List ℕ)) (text rest : List ℕ) → WritesBut old new text rest → length rest ≡ 0 → Appends old new text
WritesBut-whole old new text [] (front, split, appended) empty = subst (Appends old new) (sym (split ∙ append-nil front)) appended
WritesBut-whole old new text (x ∷ rest) written empty = absurd (omega arith)

pub WritesBeginning-kept : (old mid new : Option (List ℕ)) (text rest : List ℕ) → WritesBut old mid text rest → length rest ≢ 0 → Keeps mid new
    → WritesBeginning old new text
WritesBeginning-kept old mid new text rest (front, split, appended) left kept = (rest, omega arith, (front, split, Appends-kept old mid new front appended kept))

pub WritesBeginning-here : (old new : Option (List ℕ)) (text rest : List ℕ) → WritesBut old new text rest → length rest ≢ 0 → WritesBeginning old new text
WritesBeginning-here old new text rest written left = (rest, omega arith, written)

-- a text that a call wrote whole, or a beginning of which it wrote
pub some_written : (old new : Option (List ℕ)) (text : List ℕ) (result : Result (Unit {0}) StreamFault) → OnOk result (Appends old new text)
    → IfErr result (λ fault. (fault ≡ CannotWrite) × WritesBeginning old new text) → WritesSome old new text
some_written old new text (Ok done) whole less = ([], (text, sym (append-nil text), whole))
some_written old new text (Err fault) whole less = (less.1.0, less.1.2)

pub ruleset writes = (WritesBut-none, WritesBut-more, WritesBut-whole, WritesBeginning-kept, WritesBeginning-here)
