-- When a reply changes what an earlier one states to be final.
use Rattle.std.proofs.Common.{◌≡◌, ◌≢◌, ◌↔◌, ℕ, Bool, true, List, IsTrue, refl, sym, subst, ◌∙◌}
use Rattle.rootchain.specs.declared.body.Body.{Body}
use Rattle.proofs.specs.declared.reply_refusal.Refusal.{Refusal}
use Rattle.proofs.specs.Accepts.{stated, States}
use Rattle.proofs.specs.BrokenFinals.{states_final, Changes}
use Rattle.proofs.specs.Comparisons.{IsAcceptedReply, Refuses}
use Rattle.proofs.specs.Replies.{Reply}
use Rattle.proofs.proofs.Sound.{has_this, refused_not, states_this}

module _ (hash : List ℕ → List ℕ) (accepted : List ℕ → List ℕ → List ℕ → Type 0) (name : List ℕ) (body : Body) (text : List ℕ) (later : Body) (later_text : List ℕ) where
  abbrev AreChanged : Type 0
  AreChanged = Changes hash accepted name body text later later_text

  -- a refused reply is part of no change
  pub refused_first : (why : Refusal) → Refuses hash accepted body name text why → ¬ AreChanged
  refused_first why refuses is = refused_not hash accepted body name text why refuses is.statement is.passes

  pub refused_later : (why : Refusal) → Refuses hash accepted later name later_text why → ¬ AreChanged
  refused_later why refuses is = refused_not hash accepted later name later_text why refuses is.later_statement is.later_passes

  module _ (reply other : Reply) (first : IsAcceptedReply hash accepted body name text reply) (second : IsAcceptedReply hash accepted later name later_text other) where
    -- two accepted replies are one where they have one index, the first states a key with Final, and the second anything else
    abbrev Apart : Type 0
    Apart = (hash reply.value ≡ hash other.value) × (states_final (stated reply.end) ≡ true) × (stated other.end ≢ stated reply.end)

    are : Apart → AreChanged
    are apart = record {
      statement = stated reply.end;
      passes = (reply, first.0, subst (λ (b : Body). States hash accepted b name reply (stated reply.end)) first.1 first.2);
      final = apart.1;
      later_statement = stated other.end;
      later_passes = (other, second.0, subst (λ (b : Body). States hash accepted b name other (stated other.end)) second.1 second.2);
      changed = apart.2;
      index = hash other.value;
      has_index = (reply, first.0, apart.0);
      later_has_index = (other, second.0, refl);
    }

    apart : AreChanged → Apart
    apart is =
        let one : stated reply.end ≡ is.statement = states_this hash accepted body name text reply first is.statement is.passes in
        let two : stated other.end ≡ is.later_statement = states_this hash accepted later name later_text other second is.later_statement is.later_passes in (
          has_this hash accepted body name text is.index reply first is.has_index ∙ sym (has_this hash accepted later name later_text is.index other second is.later_has_index),
          rw one is.final,
          λ same. is.changed (sym two ∙ same ∙ one),
        )

    pub changed_where : (test : Bool) → IsTrue test ↔ Apart → IsTrue test ↔ AreChanged
    changed_where test tells = (λ yes. are (tells.0 yes), λ is. tells.1 (apart is))
