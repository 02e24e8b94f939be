-- An input that is audited, line by line.
use Rattle.std.proofs.Common.{◌≡◌, ℕ, ◌*◌, ◌≤◌, List, [], ◌∷◌, ◌++◌, length, take, Option, None, Some, IfSome, Result, Ok, Err, refl, sym, ap, subst, ◌∙◌, inl, inr, arith, append_assoc, append-nil, take_all, length-take-le}
use Rattle.std.proofs.lemmas.Bool.{cases_lt}
use Rattle.std.specs.Io.KnownBytes.{Appends}
use Rattle.std.proofs.KnownBytes.{Appends-nil, Appends-trans}
use Rattle.hex.specs.Hex.{decode_of}
use Rattle.hex.specs.declared.error.FromHexError.{FromHexError}
use Rattle.hex.specs.declared.error.FromHexError.TheVariants.{OddLength}
use Rattle.hex.proofs.HexLemmas.{decode_of-odd, decode_of-ok}
use Rattle.rootchain.specs.declared.root_refusal.Refusal.{Refusal}
use Rattle.rootchain.specs.declared.root_refusal.Refusal.TheVariants.{Malformed}
use Rattle.rootchain.specs.declared.signed_root.SignedRoot.{SignedRoot}
use Rattle.textio.specs.Lines.{lines_of, TakesLine}
use Rattle.textio.specs.Output.{WritesBeginning}
use Rattle.textio.specs.Pieces.{LosesPart}
use Rattle.textio.specs.declared.program_fault.ProgramFault.TheVariants.{CannotRead, CannotWrite, OutOfMemory}
use Rattle.auditor.specs.declared.auditor.Observed.{Observed}
use Rattle.auditor.specs.Chains.{Chains}
use Rattle.rootchain.specs.SignedRoots.{SpellsRoot}
use Rattle.audits.specs.Auditing.{answer_line, answer_lines, AreTaken, Audits, AuditsInput, IsAuditAnswer, ObservesDecoded, ObservesLine}
use Rattle.rootchain.specs.SignedRoots.{signed_root_bytes}
use Rattle.rootchain.proofs.Sizes.{root_few}

abbrev Answer : Type 0
Answer = Result Observed Refusal

answer_lines_more : (answers : List Answer) (answer : Answer) → answer_lines (answers ++ answer ∷ []) ≡ answer_lines answers ++ answer_line answer
answer_lines_more [] answer = append-nil (answer_line answer)
answer_lines_more (x ∷ answers) answer =
    ap (λ (t : List ℕ). answer_line x ++ t) (answer_lines_more answers answer) ∙ sym (append_assoc (answer_line x) (answer_lines answers) (answer_line answer))

-- the longest signed root has 404 bytes
too_long : (bytes : List ℕ) (root : SignedRoot) → 405 ≤ length bytes → SpellsRoot bytes root → ⊥
too_long bytes root long (is, formed) =
    let most = (root_few root formed).few in
    let same : length bytes ≡ length (signed_root_bytes root) = ap length is in
    omega (arith, long, most, same)

takes_none : (input : Option (List ℕ)) → AreTaken input input []
takes_none None = tt
takes_none (Some input) = refl

takes_all : (input left rest : Option (List ℕ)) (lines : List (List ℕ)) → AreTaken input left lines → TakesLine 809 left rest None
    → IfSome input (λ bytes. lines_of bytes ≡ lines)
takes_all None left rest lines takes line = tt
takes_all (Some input) None rest lines takes line = absurd takes
takes_all (Some input) (Some left) rest lines takes (none, over) = takes ∙ ap (λ (t : List ℕ). lines ++ lines_of t) none ∙ append-nil lines

module _ (hash : List ℕ → List ℕ) (verified : List ℕ → List ℕ → List ℕ → Type 0) (key : List ℕ) where
  abbrev Does : List ℕ → List ℕ → Type 0
  Does kept line = (before : Chains) (answer : Answer) (after : Chains) → ObservesLine hash verified key before kept answer after → ObservesLine hash verified key before line answer after

  -- a line of more bytes than a signed root has digits is none
  long_is_refused : (line : List ℕ) → 810 ≤ length line → (before : Chains) (answer : Answer) (after : Chains) → answer ≡ Err Malformed → after ≡ before
      → ObservesLine hash verified key before line answer after
  long_is_refused line long before answer after refused same = by (decode_of line) refl
    where
      by : (decoded : Result (List ℕ) FromHexError) → decode_of line ≡ decoded → ObservesDecoded hash verified key before decoded answer after
      by (Err fault) is = (refused, same)
      by (Ok bytes) is =
          let twice : length line ≡ 2 * length bytes = (decode_of-ok line bytes is).2 in
          inr ((λ root. too_long bytes root (omega (arith, twice, long))), refused, same)

  -- the first 809 bytes of a line are observed as the line is
  kept_does : (line : List ℕ) → Does (take 809 line) line
  kept_does line before answer after observes = elim (cases_lt (length line) 810) [
    | inl few ↦ subst (λ (t : List ℕ). ObservesLine hash verified key before t answer after) (take_all 809 line (omega arith)) observes
    | inr many ↦
        let kept : length (take 809 line) ≡ 809 = length-take-le 809 line (omega arith) in
        let odd : decode_of (take 809 line) ≡ Err OddLength = decode_of-odd (take 809 line) (rw kept refl) in
        let refused : ObservesDecoded hash verified key before (Err OddLength) answer after =
        subst (λ (d : Result (List ℕ) FromHexError). ObservesDecoded hash verified key before d answer after) odd observes in
        long_is_refused line (omega arith) before answer after refused.0 refused.1
  ]

  -- one line more is taken
  takes_more : (input left rest : Option (List ℕ)) (lines : List (List ℕ)) (kept : List ℕ) → AreTaken input left lines → TakesLine 809 left rest (Some kept)
      → (line : List ℕ) × Does kept line × AreTaken input rest (lines ++ line ∷ [])
  takes_more None left rest lines kept takes line = (kept, λ before answer after observes. observes, tt)
  takes_more (Some input) None rest lines kept takes line = absurd takes
  takes_more (Some input) (Some left) None lines kept takes line = absurd line
  takes_more (Some input) (Some left) (Some rest) lines kept takes (line, first, beginning) = (
    line,
    subst (λ (t : List ℕ). Does t line) (sym beginning) (kept_does line),
    takes ∙ ap (λ (t : List (List ℕ)). lines ++ t) first ∙ sym (append_assoc lines (line ∷ []) (lines_of rest)),
  )

  audits_more : (before : Chains) (lines : List (List ℕ)) (answers : List Answer) (middle : Chains) (line : List ℕ) (answer : Answer) (after : Chains)
      → Audits hash verified key before lines answers middle → ObservesLine hash verified key middle line answer after → IsAuditAnswer hash verified key answer
      → Audits hash verified key before (lines ++ line ∷ []) (answers ++ answer ∷ []) after
  audits_more before [] [] middle line answer after (none, same) observes is =
      (after, subst (λ (chains : Chains). ObservesLine hash verified key chains line answer after) same observes, is, (refl, refl))
  audits_more before [] (x ∷ answers) middle line answer after (none, same) observes is = absurd cc
  audits_more before (x ∷ lines) [] middle line answer after audits observes is = absurd audits
  audits_more before (x ∷ lines) (y ∷ answers) middle line answer after (next, first, told, rest) observes is =
      (next, first, told, audits_more next lines answers middle line answer after rest observes is)

  -- the lines so far are answered, and the answers are written
  abbrev pub Midway : Option (List ℕ) → Option (List ℕ) → Chains → Option (List ℕ) → Option (List ℕ) → Type 0
  Midway input old now left new = (lines : List (List ℕ)) × (answers : List Answer)
      × AreTaken input left lines × Audits hash verified key [] lines answers now × Appends old new (answer_lines answers)

  pub begun : (input old : Option (List ℕ)) → Midway input old [] input old
  begun input old = ([], [], takes_none input, (refl, refl), Appends-nil old)

  module _ (input old : Option (List ℕ)) (now : Chains) (left new : Option (List ℕ)) where
    -- a read failed, perhaps within a line
    pub unread : Midway input old now left new → (rest : Option (List ℕ)) → LosesPart left rest → AuditsInput hash verified key input rest old (Err CannotRead) new
    unread (lines, answers, takes, audits, wrote) rest part = (lines, answers, now, (left, takes, part), audits, wrote)

    pub ended : Midway input old now left new → (rest : Option (List ℕ)) → TakesLine 809 left rest None → AuditsInput hash verified key input rest old (Ok tt) new
    ended (lines, answers, takes, audits, wrote) rest none = (answers, (lines, now, takes_all input left rest lines takes none, audits), wrote)

    -- a line is answered, and its answer is written, or less of it
    module _ (rest : Option (List ℕ)) (kept : List ℕ) (took : TakesLine 809 left rest (Some kept)) (after : Chains) (said : List ℕ) where
      abbrev IsSaid : Type 0
      IsSaid = (answer : Answer) × ObservesLine hash verified key now kept answer after × IsAuditAnswer hash verified key answer × (said ≡ answer_line answer)

      pub no_memory : Midway input old now left new → AuditsInput hash verified key input rest old (Err OutOfMemory) new
      no_memory (lines, answers, takes, audits, wrote) = let line = takes_more input left rest lines kept takes took in (lines, line.0, answers, now, line.2, audits, wrote)

      pub gone_on : (told : Option (List ℕ)) → IsSaid → Midway input old now left new → Appends new told said → Midway input old after rest told
      gone_on told (answer, observes, is, tells) (lines, answers, takes, audits, wrote) more =
          let line = takes_more input left rest lines kept takes took in (
            lines ++ line.0 ∷ [],
            answers ++ answer ∷ [],
            line.2,
            audits_more [] lines answers now line.0 answer after audits (line.1 now answer after observes) is,
            subst (Appends old told) (ap (λ (t : List ℕ). answer_lines answers ++ t) tells ∙ sym (answer_lines_more answers answer))
                (Appends-trans old new told (answer_lines answers) said wrote more),
          )

      pub unwritten : (told : Option (List ℕ)) → IsSaid → Midway input old now left new → WritesBeginning new told said → AuditsInput hash verified key input rest old (Err CannotWrite) told
      unwritten told (answer, observes, is, tells) (lines, answers, takes, audits, wrote) less =
          let line = takes_more input left rest lines kept takes took in (
            lines,
            line.0,
            answers,
            answer,
            after,
            line.2,
            audits_more [] lines answers now line.0 answer after audits (line.1 now answer after observes) is,
            new,
            wrote,
            subst (WritesBeginning new told) tells less,
          )
