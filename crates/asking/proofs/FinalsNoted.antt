-- What replies show of final bindings.
use Rattle.std.proofs.Common.{◌≡◌, ◌≢◌, ◌⊎◌, ◌↔◌, Bool, true, false, ◌∙◌, ◌<◌, ◌≤◌, ◌++◌, ◌∷◌, [], ℕ, zero, suc, List, Option, None, Some, Result, Ok, Err, ap, arith, append-nil, append_assoc, get_or, inl, inr, length, refl, subst, sym}
use Rattle.std.specs.Prelude.{Contains, IsTrue, OnOk}
use Rattle.audits.specs.Files.{evidence_text}
use Rattle.auditor.specs.declared.evidence.Evidence.{Evidence}
use Rattle.auditor.specs.declared.evidence.Evidence.TheVariants as evidence
use Rattle.proofs.specs.declared.broken_final.BrokenFinal.{BrokenFinal}
use Rattle.client.specs.Finality.{IsFirstChange}
use Rattle.rootchain.specs.Chains.{KeyedRoots}
use Rattle.proofs.specs.Replies.{Reply, SpellsReply}
use Rattle.memory.specs.declared.final_seen.FinalSeen.{FinalSeen}
use Rattle.asking.specs.FinalBindings.{change_told, listed, with_change, AreChanged, Finals, IsKeptFor, KeepsFinal, LooksShow, NotesHeard, NotesLooked, NotesReply, NotesSeen, Show, ShowsChange, ShowsNothing}
use Rattle.asking.specs.Reports.{caught, report_of, silent, told_after, worse, Report, Tells}
use Rattle.asking.specs.declared.said.Said.{Said}
use Rattle.encoding.specs.Limits.{IsName}
use Rattle.client.specs.Clients.{Client}
use Rattle.wire.specs.Frames.{Frame}
use Rattle.wire.specs.Requests.{RequestContent}
use Rattle.asking.proofs.Going.{told_onto}
use Rattle.asking.proofs.FinalsShown.{not-both, notes-nothing}
use Rattle.asking.proofs.Handed.{tells_silent, told_alone}
use Rattle.asking.proofs.Telling.{worse-worse}

-- one line more
pub changed-more : (lines : List (List ℕ)) (line : List ℕ) (names : List (List ℕ)) (found : Option (List ℕ)) → AreChanged lines names → ShowsChange line found
    → AreChanged (lines ++ line ∷ []) (names ++ listed found)
changed-more [] line names found none shows =
    (found, [], shows, refl, ap (λ (all : List (List ℕ)). all ++ listed found) none ∙ sym (append-nil (listed found)))
changed-more (first ∷ lines) line names found (one, rest, shown, more, is) shows = (
  one,
  rest ++ listed found,
  shown,
  changed-more lines line rest found more shows,
  ap (λ (all : List (List ℕ)). all ++ listed found) is ∙ append_assoc (listed one) rest (listed found),
)

-- no reply before a place is for a name
abbrev pub NoneBefore : List ℕ → List FinalSeen → ℕ → Type 0
NoneBefore name seen place = (k : ℕ) → k < place → (d : FinalSeen) → (get_or seen k d).name ≢ name

pub kept-at : (name : List ℕ) (seen : List FinalSeen) (place : ℕ) (kept : FinalSeen) → place < length seen → get_or seen place kept ≡ kept → kept.name ≡ name → NoneBefore name seen place
    → IsKeptFor name seen (Some kept)
kept-at name [] place kept within at named none = absurd (omega (arith, within))
kept-at name (x ∷ seen) zero kept within at named none = inl (ap (λ (s : FinalSeen). s.name) at ∙ named, ap Some (sym at))
kept-at name (x ∷ seen) (suc place) kept within at named none =
    inr (none 0 (omega arith) x, kept-at name seen place kept (omega (arith, within)) at named (λ k below d. none (suc k) (omega (arith, below)) d))

pub kept-none : (name : List ℕ) (seen : List FinalSeen) (place : ℕ) → length seen ≤ place → NoneBefore name seen place → IsKeptFor name seen None
kept-none name [] place past none = refl
kept-none name (x ∷ seen) zero past none = absurd (omega (arith, past))
kept-none name (x ∷ seen) (suc place) past none =
    inr (none 0 (omega arith) x, kept-none name seen place (omega (arith, past)) (λ k below d. none (suc k) (omega (arith, below)) d))

module _ (hash : List ℕ → List ℕ) (accepted : List ℕ → List ℕ → List ℕ → Type 0) (chain : KeyedRoots) where
  -- this is told of a reply
  abbrev pub Noted : FinalSeen → Finals → Finals → Said → Said → Type 0
  Noted seen before after said said' = (told : Report) × NotesSeen hash accepted chain seen before told after × Tells said told said'

  pub noted-before : (seen : FinalSeen) (finals : Finals) (said : Said) → Contains finals.changed seen.name → Noted seen finals finals said said
  noted-before seen finals said there = (silent, inl (there, refl, refl), tells_silent said)

  pub noted-first : {A E : Type 0} (result : Result A E) (seen : FinalSeen) (before after : Finals) (said : Said) → ¬ Contains before.changed seen.name → IsKeptFor seen.name before.seen None
      → OnOk result (KeepsFinal hash accepted chain seen before after) → OnOk result (Noted seen before after said said)
  noted-first (Ok done) seen before after said new none keeps = (silent, inr (new, (None, none, (refl, keeps))), tells_silent said)
  noted-first (Err fault) seen before after said new none keeps = tt

  pub noted-same : (seen kept : FinalSeen) (finals : Finals) (said : Said) → ¬ Contains finals.changed seen.name → IsKeptFor seen.name finals.seen (Some kept) → Show hash accepted chain kept seen None
      → Noted seen finals finals said said
  noted-same seen kept finals said new is shows = (silent, inr (new, (Some kept, is, (None, shows, refl, refl))), tells_silent said)

  pub noted-change : {A E : Type 0} (result : Result A E) (seen kept : FinalSeen) (made : Evidence) (before after : Finals) (said said' : Said) → ¬ Contains before.changed seen.name → IsKeptFor seen.name before.seen (Some kept)
      → Show hash accepted chain kept seen (Some made) → OnOk result ((after ≡ with_change seen.name (Some made) before) × Tells said (caught (evidence_text made)) said') → OnOk result (Noted seen before after said said')
  noted-change (Ok done) seen kept made before after said said' new is shows (same, tells) = (caught (evidence_text made), inr (new, (Some kept, is, (Some made, shows, refl, same))), tells)
  noted-change (Err fault) seen kept made before after said said' new is shows tells = tt

  -- and of the bytes that spell it
  pub noted-reply : {A E : Type 0} (result : Result A E) (name bytes : List ℕ) (reply : Reply) (seen : FinalSeen) (before after : Finals) (said said' : Said) → SpellsReply bytes reply
      → seen ≡ record { name = name; epoch = reply.body.epoch; reply = bytes } → OnOk result (Noted seen before after said said')
      → OnOk result ((told : Report) × NotesReply hash accepted chain name bytes before told after × Tells said told said')
  noted-reply (Ok done) name bytes reply seen before after said said' spelled is (told, notes, tells) =
      (told, inl (reply, spelled, subst (λ (s : FinalSeen). NotesSeen hash accepted chain s before told after) is notes), tells)
  noted-reply (Err fault) name bytes reply seen before after said said' spelled is noted = tt

  -- bytes that show nothing new
  pub noted-nothing : (name bytes : List ℕ) (reply : Reply) (epoch : ℕ) (finals : Finals) (said : Said) → SpellsReply bytes reply → epoch ≡ reply.body.epoch → ShowsNothing name epoch bytes finals
      → (told : Report) × NotesReply hash accepted chain name bytes finals told finals × Tells said told said
  noted-nothing name bytes reply epoch finals said spelled is shows =
      let own = subst (λ (n : ℕ). ShowsNothing name n bytes finals) is shows in
      (silent, inl (reply, spelled, notes-nothing hash accepted chain (record { name = name; epoch = reply.body.epoch; reply = bytes }) finals own), tells_silent said)

  pub noted-unread : (name bytes : List ℕ) (finals : Finals) (said : Said) → ((reply : Reply) → ¬ SpellsReply bytes reply)
      → (told : Report) × NotesReply hash accepted chain name bytes finals told finals × Tells said told said
  noted-unread name bytes finals said none = (silent, inr (none, refl, refl), tells_silent said)

-- one thing is told, and then another
tells-both : (said said' said″ : Said) (one other : Report) → Tells said one said' → Tells said' other said″ → Tells said (told_after one other) said″
tells-both said said' said″ one other (lines, status) (more, other-status) = (
  more ∙ ap (λ (xs : List ℕ). xs ++ other.lines) lines ∙ append_assoc said.text.items one.lines other.lines,
  other-status ∙ ap (λ (n : ℕ). worse n other.status) status ∙ worse-worse said.status one.status other.status,
)

module _ (hash : List ℕ → List ℕ) (accepted : List ℕ → List ℕ → List ℕ → Type 0) (client : Client) where
  -- a look-up whose reply was refused
  pub looked-not : (name bytes : List ℕ) (status : ℕ) (finals : Finals) (said : Said) → (status ≢ 0) ⊎ (¬ IsName name)
      → (shown : Report) × NotesLooked hash accepted client name bytes status finals shown finals × Tells said shown said
  looked-not name bytes status finals said why = (silent, inr (why, refl, refl), tells_silent said)

  module _ (name given bytes : List ℕ) (status : ℕ) (before middle : Finals) (said said' : Said) (fine : status ≡ 0) (is : IsName given) (same : name ≡ given)
      (noted : (told : Report) × NotesReply hash accepted client.chain name bytes before told middle × Tells said told said') (test : Bool)
      (tests : IsTrue test ↔ Contains middle.changed name) where
    -- one of a name of which a change was told
    pub looked : test ≡ true → (shown : Report) × NotesLooked hash accepted client given bytes status before shown middle × Tells said shown said'
    looked known = (
      noted.0,
      subst (λ (n : List ℕ). NotesLooked hash accepted client n bytes status before noted.0 middle) same
          (inl (fine, subst IsName (sym same) is, (noted.0, middle, noted.1, inr (tests.0 known, refl, refl)))),
      noted.2,
    )

    -- one of another name
    pub looked-more : {A E : Type 0} (result : Result A E) (after : Finals) (said″ : Said) → test ≡ false
        → OnOk result ((made : Option Evidence) × LooksShow hash client name made × (after ≡ with_change name made middle) × Tells said' (change_told made) said″)
        → OnOk result ((shown : Report) × NotesLooked hash accepted client given bytes status before shown after × Tells said shown said″)
    looked-more (Ok done) after said″ new (made, shows, is-after, tells) = (
      told_after noted.0 (change_told made),
      subst (λ (n : List ℕ). NotesLooked hash accepted client n bytes status before (told_after noted.0 (change_told made)) after) same
          (inl (fine, subst IsName (sym same) is, (noted.0, middle, noted.1, inl ((λ known. not-both test (tests.1 known) new), (made, shows, refl, is-after))))),
      tells-both said said' said″ noted.0 (change_told made) noted.2 tells,
    )
    looked-more (Err fault) after said″ new tells = tt

-- the looks show a change, which is told
pub told-looks : {A E : Type 0} (hash : List ℕ → List ℕ) (client : Client) (result : Result A E) (name : List ℕ) (broken : BrokenFinal) (before after : Finals) (said said' : Said)
    → IsFirstChange hash client name broken → OnOk result ((after ≡ with_change name (Some (evidence.Final broken)) before) × Tells said (caught (evidence_text (evidence.Final broken))) said')
    → OnOk result ((made : Option Evidence) × LooksShow hash client name made × (after ≡ with_change name made before) × Tells said (change_told made) said')
told-looks hash client (Ok done) name broken before after said said' shows (is, tells) = (Some (evidence.Final broken), (broken, refl, shows), is, tells)
told-looks hash client (Err fault) name broken before after said said' shows tells = tt

-- what is told of a frame, and behind it what that shows, was said by one that had said nothing, and is joined
pub heard-noted : {A E : Type 0} (result : Result A E) (hash : List ℕ → List ℕ) (accepted : List ℕ → List ℕ → List ℕ → Type 0) (Hears : Report → Client → Type 0) (asked : RequestContent) (frame : Frame)
    (empty now noted said said' : Said) (told shown : Report) (middle client : Client) (before after : Finals) → report_of empty ≡ silent → client ≡ middle → Hears told middle → Tells empty told now
    → NotesHeard hash accepted middle asked frame now.status before shown after → Tells now shown noted → OnOk result (Tells said (report_of noted) said')
    → OnOk result ((told : Report) × (shown : Report) × Hears told client × NotesHeard hash accepted client asked frame told.status before shown after × Tells said (told_after told shown) said')
heard-noted (Ok done) hash accepted Hears asked frame empty now noted said said' told shown middle client before after quiet same hears first notes second joined =
    let one : report_of now ≡ told = told_onto empty now told first ∙ ap (λ (r : Report). told_after r told) quiet ∙ told_alone told in
    let both : report_of noted ≡ told_after told shown = told_onto now noted shown second ∙ ap (λ (r : Report). told_after r shown) one in
    let status : now.status ≡ told.status = ap (λ (r : Report). r.status) one in (
      told,
      shown,
      subst (Hears told) (sym same) hears,
      subst (λ (k : Client). NotesHeard hash accepted k asked frame told.status before shown after) (sym same)
          (subst (λ (n : ℕ). NotesHeard hash accepted middle asked frame n before shown after) status notes),
      subst (λ (r : Report). Tells said r said') both joined,
    )
heard-noted (Err fault) hash accepted Hears asked frame empty now noted said said' told shown middle client before after quiet same hears first notes second joined = tt
