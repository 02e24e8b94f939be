-- When a reply contradicts a promise.
use Rattle.std.proofs.Common.{◌≡◌, ◌≢◌, ◌↔◌, ℕ, Bool, true, false, not, List, Some, IsTrue, refl, sym, subst, ◌∙◌}
use Rattle.rootchain.specs.declared.body.Body.{Body}
use Rattle.rootchain.specs.declared.promise.Promise.{Promise}
use Rattle.proofs.specs.declared.reply_refusal.Refusal.{Refusal}
use Rattle.proofs.specs.Accepts.{stated, States}
use Rattle.proofs.specs.BrokenPromises.{Contradicts}
use Rattle.proofs.specs.Comparisons.{IsAcceptedReply, Refuses}
use Rattle.proofs.specs.Replies.{Reply}
use Rattle.proofs.proofs.Sound.{has_this, refused_not, states_this}

module _ (hash : List ℕ → List ℕ) (accepted : List ℕ → List ℕ → List ℕ → Type 0) (promise : Promise) (body : Body) (bytes : List ℕ) where
  abbrev Against : Type 0
  Against = Contradicts hash accepted promise body bytes

  -- a refused reply contradicts nothing
  pub refused_never : (why : Refusal) → Refuses hash accepted body promise.name bytes why → ¬ Against
  refused_never why refuses against = refused_not hash accepted body promise.name bytes why refuses against.statement against.passes

  module _ (reply : Reply) (is : IsAcceptedReply hash accepted body promise.name bytes reply) where
    -- nor does one with another index
    pub other_never : hash reply.value ≢ promise.index → ¬ Against
    other_never other against = other (has_this hash accepted body promise.name bytes promise.index reply is against.index)

    -- one with the promised index does where it does not state the key
    pub against_unless : hash reply.value ≡ promise.index → (test : Bool) → IsTrue test ↔ (stated reply.end ≡ Some promise.key) → IsTrue (not test) ↔ Against
    against_unless index true is-stated = (
      λ never. absurd cc,
      λ against. absurd (against.broken (sym (states_this hash accepted body promise.name bytes reply is against.statement against.passes) ∙ is-stated.0 refl)),
    )
    against_unless index false is-stated = (
      λ _. record {
        statement = stated reply.end;
        passes = (reply, is.0, subst (λ (b : Body). States hash accepted b promise.name reply (stated reply.end)) is.1 is.2);
        index = (reply, is.0, index);
        broken = λ same. let never : false ≡ true = is-stated.1 same in absurd cc;
      },
      λ against. refl,
    )
