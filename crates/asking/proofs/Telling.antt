-- What is told after a call that may run out of memory.
use Rattle.std.proofs.Common.{◌≡◌, ◌∙◌, ◌++◌, ◌∷◌, [], ℕ, zero, suc, List, Result, Ok, Err, ap, arith, refl, rules, subst, append_assoc, arith}
use Rattle.std.specs.Prelude.{OnOk}
use Rattle.client.specs.Refusals.{client_refusal_number}
use Rattle.client.specs.declared.client_refusal.Refusal.{Refusal}
use Rattle.asking.specs.declared.said.Said.{Said}
use Rattle.asking.specs.Refused.{client_refuses, evidence_told, refuses_text}
use Rattle.asking.specs.Reports.{Report, Tells, refused, report_of, worse}

pub worse-worse : (one two three : ℕ) → worse (worse one two) three ≡ worse one (worse two three)
worse-worse one two three = grind arith

-- the number of a refusal behind its evidence
pub behind_evidence : {A E : Type 0} (what : List ℕ) (why : Refusal) (number : ℕ) (before middle after : Said) (result : Result A E) → number ≡ client_refusal_number why
    → Tells before (evidence_told why) middle → OnOk result (Tells middle (refused (refuses_text what number)) after) → OnOk result (Tells before (client_refuses what why) after)
behind_evidence what why number before middle after (Ok done) numbered (text, status) told = (
  told.0 ∙ ap (λ (xs : List ℕ). xs ++ (refuses_text what number ++ 10 ∷ [])) text ∙ append_assoc before.text.items (evidence_told why).lines (refuses_text what number ++ 10 ∷ [])
      ∙ ap (λ (n : ℕ). before.text.items ++ ((evidence_told why).lines ++ (refuses_text what n ++ 10 ∷ []))) numbered,
  told.1 ∙ ap (λ (s : ℕ). worse s 1) status ∙ worse-worse before.status (evidence_told why).status 1,
)
behind_evidence what why number before middle after (Err fault) numbered tells told = tt

-- this is told, and it is so
pub tells_so : {A E : Type 0} (result : Result A E) (P : Report → Type 0) (told : Report) (before same after : Said) → same ≡ before → P told
    → OnOk result (Tells same told after) → OnOk result ((x : Report) × P x × Tells before x after)
tells_so (Ok done) P told before same after is holds tells = (told, holds, subst (λ (s : Said). Tells s told after) is tells)
tells_so (Err fault) P told before same after is holds tells = tt

-- this is the answer, and it is told so
pub tells_answer : {X A E : Type 0} (result : Result A E) (P : X → Type 0) (told_of : X → Report) (answer : X) (before after : Said) → P answer
    → OnOk result (Tells before (told_of answer) after) → OnOk result ((x : X) × P x × Tells before (told_of x) after)
tells_answer (Ok done) P told_of answer before after holds tells = (answer, holds, tells)
tells_answer (Err fault) P told_of answer before after holds tells = tt

-- the same of an answer of which more is known once it is told
pub tells_known : {X A E : Type 0} (result : Result A E) (P Q : X → Type 0) (told_of : X → Report) (answer : X) (before after : Said) → P answer → OnOk result (Q answer)
    → OnOk result (Tells before (told_of answer) after) → OnOk result ((x : X) × (P x × Q x) × Tells before (told_of x) after)
tells_known (Ok done) P Q told_of answer before after holds known tells = (answer, (holds, known), tells)
tells_known (Err fault) P Q told_of answer before after holds known tells = tt

-- only words were said before it
pub told_behind : {A E : Type 0} (result : Result A E) (told : Report) (before after : Said) (text : List ℕ) (status : ℕ) → text ≡ before.text.items → status ≡ before.status
    → OnOk result ((after.text.items ≡ text ++ told.lines) × (after.status ≡ worse status told.status)) → OnOk result (Tells before told after)
told_behind (Ok done) told before after text status same stays tells = (
  tells.0 ∙ ap (λ (t : List ℕ). t ++ told.lines) same,
  tells.1 ∙ ap (λ (s : ℕ). worse s told.status) stays,
)
told_behind (Err fault) told before after text status same stays tells = tt

pub worse_none : (status : ℕ) → worse 0 status ≡ status
worse_none zero = refl
worse_none (suc n) = search rules

-- this was said by one that had said nothing, which was then joined
pub tells_joined : (before empty now after : Said) (told : Report) → empty.text.items ≡ [] → empty.status ≡ 0 → Tells empty told now → Tells before (report_of now) after → Tells before told after
tells_joined before empty now after told silent fine tells joined = (
  joined.0 ∙ ap (λ (xs : List ℕ). before.text.items ++ xs) (tells.0 ∙ ap (λ (xs : List ℕ). xs ++ told.lines) silent),
  joined.1 ∙ ap (λ (s : ℕ). worse before.status s) (tells.1 ∙ ap (λ (s : ℕ). worse s told.status) fine ∙ worse_none told.status),
)
