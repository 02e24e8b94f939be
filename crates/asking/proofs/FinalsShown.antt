-- What two replies for a name show, and which replies are kept.
use Rattle.std.proofs.Common.{◌≡◌, ◌↔◌, ◌∙◌, ℕ, List, Bool, true, false, not, Option, None, Some, Err, IsTrue, MatchOption, ap, arith, inl, inr, refl, subst, sym}
use Rattle.std.proofs.lemmas.List.Elements.{All-contains}
use Rattle.auditor.specs.declared.evidence.Evidence.{Evidence}
use Rattle.auditor.specs.declared.evidence.Evidence.TheVariants as evidence
use Rattle.rootchain.specs.Chains.{IsAt, IsChain, KeyedRoots, Verifies}
use Rattle.rootchain.specs.declared.body.Body.{Body}
use Rattle.rootchain.specs.declared.signed_root.SignedRoot.{SignedRoot}
use Rattle.proofs.proofs.Passing.{one_reply, states-passed}
use Rattle.proofs.proofs.Sound.{not_spelled, refused_not}
use Rattle.proofs.specs.Accepts.{stated, States}
use Rattle.proofs.specs.BrokenFinals.{states_final, IsBrokenFinal}
use Rattle.proofs.specs.Comparisons.{IsAcceptedReply, Refuses}
use Rattle.proofs.specs.Refusals.{ReadsReply}
use Rattle.proofs.specs.Replies.{Reply, SpellsReply}
use Rattle.proofs.specs.declared.broken_final.BrokenFinal.{BrokenFinal}
use Rattle.proofs.specs.declared.reply_refusal.Refusal.{Refusal}
use Rattle.memory.specs.declared.final_seen.FinalSeen.{FinalSeen}
use Rattle.asking.specs.FinalBindings.{AddsNothing, Finals, IsFinalChange, IsFinalIn, MayChange, NotesSeen, Show, ShowsNothing, StayApart}
use Rattle.asking.specs.Reports.{silent}

pub not-both : (is : Bool) → is ≡ true → is ≡ false → ⊥
not-both is one other = absurd cc

-- two replies with their roots, as evidence
abbrev pub broken_of : FinalSeen → FinalSeen → SignedRoot → SignedRoot → BrokenFinal
broken_of one other root later_root = record { name = one.name; root = root; proof = one.reply; later_root = later_root; later_proof = other.reply }

-- bytes spell a reply that states a key with Final
abbrev pub SpellsFinal : List ℕ → Type 0
SpellsFinal bytes = (reply : Reply) × SpellsReply bytes reply × (states_final (stated reply.end) ≡ true)

pub spells-final : (bytes : List ℕ) (read : Reply) → SpellsReply bytes read → (is : Bool) → is ≡ states_final (stated read.end) → IsTrue is ↔ SpellsFinal bytes
spells-final bytes read spelled is e = (
  λ yes. (read, spelled, sym e ∙ yes),
  λ final. e ∙ ap (λ (reply : Reply). states_final (stated reply.end)) (one_reply bytes read final.0 spelled final.1) ∙ final.2,
)

-- a reply of which a test says that it states no key with Final adds nothing where none is kept
pub adds-none : (is : Bool) (epoch : ℕ) (bytes : List ℕ) → IsTrue is ↔ SpellsFinal bytes → IsTrue (not is) → AddsNothing epoch bytes None
adds-none true epoch bytes exact never = absurd cc
adds-none false epoch bytes exact quiet = λ reply spelled states. not-both false (exact.1 (reply, spelled, states)) refl

pub unread-no-final : (bytes : List ℕ) (refusal : Refusal) → ReadsReply bytes (Err refusal) → ¬ SpellsFinal bytes
unread-no-final bytes refusal reads final = not_spelled bytes refusal reads final.0 final.1

module _ (hash : List ℕ → List ℕ) (accepted : List ℕ → List ℕ → List ℕ → Type 0) where
  -- bytes are a reply that is accepted, and states a key with Final
  abbrev pub AcceptsFinal : Body → List ℕ → List ℕ → Type 0
  AcceptsFinal body name bytes = (reply : Reply) × IsAcceptedReply hash accepted body name bytes reply × (states_final (stated reply.end) ≡ true)

  pub accepts-final : (body : Body) (name bytes : List ℕ) (read : Reply) → IsAcceptedReply hash accepted body name bytes read → (is : Bool) → is ≡ states_final (stated read.end)
      → IsTrue is ↔ AcceptsFinal body name bytes
  accepts-final body name bytes read kept is e = (
    λ yes. (read, kept, sym e ∙ yes),
    λ final. e ∙ ap (λ (reply : Reply). states_final (stated reply.end)) (one_reply bytes read final.0 kept.0 final.1.0) ∙ final.2,
  )

  pub refused-no-final : (body : Body) (name bytes : List ℕ) (refusal : Refusal) → Refuses hash accepted body name bytes refusal → ¬ AcceptsFinal body name bytes
  refused-no-final body name bytes refusal refuses (reply, is, final) =
      refused_not hash accepted body name bytes refusal refuses (stated reply.end) (reply, is.0, subst (λ (b : Body). States hash accepted b name reply (stated reply.end)) is.1 is.2)

  module _ (chain : KeyedRoots) where
    pub final-spelled : (seen : FinalSeen) → IsFinalIn hash accepted chain seen → SpellsFinal seen.reply
    final-spelled seen (root, reply, at, is, final) = (reply, is.0, final)

    -- the root of an epoch that was looked for
    abbrev Finds : ℕ → Option SignedRoot → Type 0
    Finds epoch found = (root : SignedRoot) → (found ≡ Some root) ↔ IsAt chain epoch root

    only : (epoch : ℕ) (found : Option SignedRoot) → Finds epoch found → (root : SignedRoot) → found ≡ Some root → (other : SignedRoot) → IsAt chain epoch other → other ≡ root
    only epoch found finds root is other at = let same : found ≡ Some other = (finds other).1 at in cc

    nowhere : (epoch : ℕ) (found : Option SignedRoot) → Finds epoch found → found ≡ None → (root : SignedRoot) → ¬ IsAt chain epoch root
    nowhere epoch found finds none root at = let same : found ≡ Some root = (finds root).1 at in cc

    pub not-final-in : (seen : FinalSeen) (found : Option SignedRoot) → Finds seen.epoch found → found ≡ None → ¬ IsFinalIn hash accepted chain seen
    not-final-in seen found finds none (root, reply, at, is, final) = nowhere seen.epoch found finds none root at

    pub final-in : (seen : FinalSeen) (found : Option SignedRoot) → Finds seen.epoch found → (root : SignedRoot) → found ≡ Some root → (is : Bool)
        → IsTrue is ↔ AcceptsFinal root.body seen.name seen.reply → IsTrue is ↔ IsFinalIn hash accepted chain seen
    final-in seen found finds root at is exact = (
      λ yes. let (reply, kept, final) = exact.0 yes in (root, reply, (finds root).0 at, kept, final),
      λ (own, reply, own-at, kept, final).
          exact.1 (subst (λ (r : SignedRoot). AcceptsFinal r.body seen.name seen.reply) (only seen.epoch found finds root at own own-at) (reply, kept, final)),
    )

    module _ (one other : FinalSeen) where
      -- what may not change it does not
      pub may-change : (broken : BrokenFinal) → IsFinalChange hash accepted chain one other broken → MayChange one.epoch one.reply other.epoch other.reply
      may-change broken change =
          let p = change.rooted.1 in
          let q = change.later_rooted.1 in
          let later = change.later in
          let (read, spelled, states) = change.changes.passes in
          let (later_read, later_spelled, later_states) = change.changes.later_passes in
          let own = (states-passed hash accepted broken.root.body broken.name read change.changes.statement states).0 in
          let its = (states-passed hash accepted broken.later_root.body broken.name later_read change.changes.later_statement later_states).0 in (
            omega (arith, p, q, later),
            record {
              one = read;
              spelled = subst (λ (b : List ℕ). SpellsReply b read) change.proof spelled;
              final = sym (ap states_final own) ∙ change.changes.final;
              other = later_read;
              later_spelled = subst (λ (b : List ℕ). SpellsReply b later_read) change.later_proof later_spelled;
              changed = λ same. change.changes.changed (its ∙ same ∙ sym own);
            },
          )

      pub no-root : (found : Option SignedRoot) → Finds one.epoch found → found ≡ None → (broken : BrokenFinal) → ¬ IsFinalChange hash accepted chain one other broken
      no-root found finds none broken change = nowhere one.epoch found finds none broken.root change.rooted

      pub no-later-root : (found : Option SignedRoot) → Finds other.epoch found → found ≡ None → (broken : BrokenFinal) → ¬ IsFinalChange hash accepted chain one other broken
      no-later-root found finds none broken change = nowhere other.epoch found finds none broken.later_root change.later_rooted

      module _ (root later_root : SignedRoot) (found later_found : Option SignedRoot) (finds : Finds one.epoch found) (at : found ≡ Some root) (later_finds : Finds other.epoch later_found) (later_at : later_found ≡ Some later_root) where
        pub is-change : (verified : List ℕ → List ℕ → List ℕ → Type 0) → IsBrokenFinal hash accepted verified chain.key (broken_of one other root later_root) → IsFinalChange hash accepted chain one other (broken_of one other root later_root)
        is-change verified is = record {
          named = refl;
          rooted = (finds root).0 at;
          proof = refl;
          later_rooted = (later_finds later_root).0 later_at;
          later_proof = refl;
          later = is.later;
          changes = is.changes;
        }

        -- each change of these two is this evidence
        this-one : (broken : BrokenFinal) → IsFinalChange hash accepted chain one other broken → broken ≡ broken_of one other root later_root
        this-one broken change =
            let r = only one.epoch found finds root at broken.root change.rooted in
            let s = only other.epoch later_found later_finds later_root later_at broken.later_root change.later_rooted in
            ap (λ (x : List ℕ). let b : BrokenFinal = record { name = x; root = broken.root; proof = broken.proof; later_root = broken.later_root; later_proof = broken.later_proof } in b) change.named
            ∙ ap (λ (x : SignedRoot). let b : BrokenFinal = record { name = one.name; root = x; proof = broken.proof; later_root = broken.later_root; later_proof = broken.later_proof } in b) r
            ∙ ap (λ (x : List ℕ). let b : BrokenFinal = record { name = one.name; root = root; proof = x; later_root = broken.later_root; later_proof = broken.later_proof } in b) change.proof
            ∙ ap (λ (x : SignedRoot). let b : BrokenFinal = record { name = one.name; root = root; proof = one.reply; later_root = x; later_proof = broken.later_proof } in b) s
            ∙ ap (λ (x : List ℕ). let b : BrokenFinal = record { name = one.name; root = root; proof = one.reply; later_root = later_root; later_proof = x } in b) change.later_proof

        pub is-evidence : (verified : List ℕ → List ℕ → List ℕ → Type 0) → IsChain hash verified chain → (broken : BrokenFinal) → IsFinalChange hash accepted chain one other broken
            → IsBrokenFinal hash accepted verified chain.key (broken_of one other root later_root)
        is-evidence verified is_chain broken change =
            subst (IsBrokenFinal hash accepted verified chain.key) (this-one broken change)
            (record {
              signed = All-contains (Verifies verified chain.key) chain.roots broken.root is_chain.signed change.rooted.0;
              later_signed = All-contains (Verifies verified chain.key) chain.roots broken.later_root is_chain.signed change.later_rooted.0;
              later = change.later;
              changes = change.changes;
            })

    -- what the second of two replies changes in the first
    abbrev pub ShowsOne : FinalSeen → FinalSeen → Option Evidence → Type 0
    ShowsOne one other result = MatchOption result ((broken : BrokenFinal) → ¬ IsFinalChange hash accepted chain one other broken)
        (λ made. (broken : BrokenFinal) × (made ≡ evidence.Final broken) × IsFinalChange hash accepted chain one other broken)

    pub shown-first : (one other : FinalSeen) (made : Evidence) → ShowsOne one other (Some made) → Show hash accepted chain one other (Some made)
    shown-first one other made (broken, is, change) = (broken, is, inl change)

    pub shown-second : (one other : FinalSeen) (result : Option Evidence) → ((broken : BrokenFinal) → ¬ IsFinalChange hash accepted chain one other broken) → ShowsOne other one result
        → Show hash accepted chain one other result
    shown-second one other None none shows = λ broken. (none broken, shows broken)
    shown-second one other (Some made) none (broken, is, change) = (broken, is, inr change)

    -- what shows nothing: a reply that stays apart from the kept one, and one that is not to be kept
    pub show-none : (one other : FinalSeen) → StayApart one other.epoch other.reply → Show hash accepted chain one other None
    show-none one other (never, back) = λ broken. (λ change. never (may-change one other broken change), λ change. back (may-change other one broken change))

    pub notes-nothing : (seen : FinalSeen) (finals : Finals) → ShowsNothing seen.name seen.epoch seen.reply finals → NotesSeen hash accepted chain seen finals silent finals
    notes-nothing seen finals (inl there) = inl (there, refl, refl)
    notes-nothing seen finals (inr (new, (None, none, adds))) =
        inr (new, (None, none, (refl, inr ((λ final. let (reply, spelled, states) = final-spelled seen final in adds reply spelled states), refl))))
    notes-nothing seen finals (inr (new, (Some kept, is, apart))) = inr (new, (Some kept, is, (None, show-none kept seen apart, refl, refl)))
