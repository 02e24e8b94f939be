-- The refusals of a reply, once it is said whether its value is accepted.
use Rattle.std.proofs.Common.{◌≡◌, ◌⊎◌, ◌↔◌, Option, inl, inr, ◌<◌, ℕ, List, Bool, true, arith, length, subst}
use Rattle.prefixtree.specs.Paths.{Way}
use Rattle.encoding.specs.declared.bound_key.BoundKey.{BoundKey}
use Rattle.rootchain.specs.declared.body.Body.{Body}
use Rattle.proofs.specs.Accepts.{stated, Accepts, EndStates, NamedReply}
use Rattle.proofs.specs.Comparisons.{IsAcceptedReply, Refuses}
use Rattle.proofs.specs.Refusals.{reply_refusal_number, Passes}
use Rattle.proofs.specs.Replies.{Reply, SpellsReply}
use Rattle.proofs.specs.declared.reply_refusal.Refusal.{Refusal}
use Rattle.proofs.specs.declared.reply_refusal.Refusal.TheVariants.{Malformed, Trailing, OtherRoot, BadVuf, SameIndex, OtherPrefix, PathMismatch}
use Rattle.coniks.specs.Comparing.{Tells}
use Rattle.coniks.specs.Told.{any, told, IsRight}
use Rattle.coniks.specs.declared.parts.Lens.{Lens}

module _ (hash : List ℕ → List ℕ) (body : Body) (name bytes : List ℕ) where
  -- a test that is passed where everything is accepted is passed where this is said
  passes : (reply : Reply) (is_accepted : Bool) (refusal : Refusal) → (is_accepted ≡ true) ⊎ (reply_refusal_number refusal < 4) → Passes hash any body name reply refusal → Passes hash (told is_accepted) body name reply refusal
  passes reply is_accepted Malformed why is = is
  passes reply is_accepted Trailing why is = is
  passes reply is_accepted OtherRoot why is = is
  passes reply is_accepted BadVuf (inl holds) is = holds
  passes reply is_accepted BadVuf (inr low) is = absurd (omega (arith, low))
  passes reply is_accepted SameIndex why is = is
  passes reply is_accepted OtherPrefix why is = is
  passes reply is_accepted PathMismatch why is = is

  -- a refusal that applies where everything is accepted applies where this is said
  pub refused : (is_accepted : Bool) (refusal : Refusal) → (is_accepted ≡ true) ⊎ (reply_refusal_number refusal < 4) → Refuses hash any body name bytes refusal → Refuses hash (told is_accepted) body name bytes refusal
  refused is_accepted refusal why (inl reads) = inl reads
  refused is_accepted refusal why (inr (reply, spelled, first)) = inr (
    reply,
    spelled,
    record {
      fails = λ is. first.fails (back refusal is);
      before = λ other low. passes reply is_accepted other (below other low why) (first.before other low);
    },
  )
    where
      back : (other : Refusal) → Passes hash (told is_accepted) body name reply other → Passes hash any body name reply other
      back Malformed is = is
      back Trailing is = is
      back OtherRoot is = is
      back BadVuf is = tt
      back SameIndex is = is
      back OtherPrefix is = is
      back PathMismatch is = is

      below : (other : Refusal) → reply_refusal_number other < reply_refusal_number refusal → (is_accepted ≡ true) ⊎ (reply_refusal_number refusal < 4) → (is_accepted ≡ true) ⊎ (reply_refusal_number other < 4)
      below other low (inl holds) = inl holds
      below other low (inr few) = inr (omega (arith, low, few))

  -- a reply that fits is accepted, where its value is
  pub accepted-so : (is_accepted : Bool) → is_accepted ≡ true → (reply : Reply) → IsAcceptedReply hash any body name bytes reply → Accepts hash (told is_accepted) body name bytes (stated reply.end)
  accepted-so is_accepted holds reply (spelled, is, states) = (
    reply,
    spelled,
    record {
      of_body = is;
      value = holds;
      text = states.text;
      way = subst (λ (b : Body). Way hash b.root (hash reply.value) reply.siblings states.text) is states.way;
      end = subst (λ (b : Body). EndStates hash b.nonce name (hash reply.value) (length reply.siblings) reply.end states.text (stated reply.end)) is states.end;
    },
  )

-- ---- where what the caller says is right

module _ (hash : List ℕ → List ℕ) (accepted : List ℕ → List ℕ → List ℕ → Type 0) (body : Body) (name bytes : List ℕ) (is_accepted : Bool) (right : IsRight accepted body name bytes is_accepted) where
  pub accepted-as : (statement : Option BoundKey) → Accepts hash (told is_accepted) body name bytes statement ↔ Accepts hash accepted body name bytes statement
  accepted-as statement = (
    λ (reply, spelled, states). (reply, spelled, record { of_body = states.of_body; value = (right reply spelled).0 states.value; text = states.text; way = states.way; end = states.end }),
    λ (reply, spelled, states). (reply, spelled, record { of_body = states.of_body; value = (right reply spelled).1 states.value; text = states.text; way = states.way; end = states.end }),
  )

  module _ (reply : Reply) (spelled : SpellsReply bytes reply) where
    there : (refusal : Refusal) → Passes hash (told is_accepted) body name reply refusal → Passes hash accepted body name reply refusal
    there Malformed is = is
    there Trailing is = is
    there OtherRoot is = is
    there BadVuf is = (right reply spelled).0 is
    there SameIndex is = is
    there OtherPrefix is = is
    there PathMismatch is = is

    back : (refusal : Refusal) → Passes hash accepted body name reply refusal → Passes hash (told is_accepted) body name reply refusal
    back Malformed is = is
    back Trailing is = is
    back OtherRoot is = is
    back BadVuf is = (right reply spelled).1 is
    back SameIndex is = is
    back OtherPrefix is = is
    back PathMismatch is = is

  pub refused-as : (refusal : Refusal) → Refuses hash (told is_accepted) body name bytes refusal ↔ Refuses hash accepted body name bytes refusal
  refused-as refusal = (to, from)
    where
      to : Refuses hash (told is_accepted) body name bytes refusal → Refuses hash accepted body name bytes refusal
      to (inl reads) = inl reads
      to (inr (reply, spelled, first)) = inr (reply, spelled, record { fails = λ is. first.fails (back reply spelled refusal is); before = λ other low. there reply spelled other (first.before other low) })

      from : Refuses hash accepted body name bytes refusal → Refuses hash (told is_accepted) body name bytes refusal
      from (inl reads) = inl reads
      from (inr (reply, spelled, first)) = inr (reply, spelled, record { fails = λ is. first.fails (there reply spelled refusal is); before = λ other low. back reply spelled other (first.before other low) })

-- what is told of two replies is told of them by their names
pub told-by-name : (hash : List ℕ → List ℕ) (first second : NamedReply) (name : List ℕ) → first.name ≡ name → second.name ≡ name → (answer : ℕ) (one one' other other' : List ℕ) (lens lens' : Lens) → Tells hash first second answer one one' other other' lens lens'
    → Tells hash (record { name = name; reply = first.reply }) (record { name = name; reply = second.reply }) answer one one' other other' lens lens'
told-by-name hash first second name one-is other-is answer one one' other other' lens lens' tells =
    subst (λ (n : List ℕ). Tells hash (record { name = name; reply = first.reply }) (record { name = n; reply = second.reply }) answer one one' other other' lens lens') other-is
    (subst (λ (n : List ℕ). Tells hash (record { name = n; reply = first.reply }) second answer one one' other other' lens lens') one-is tells)
