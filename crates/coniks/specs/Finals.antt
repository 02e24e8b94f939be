-- Whether a final binding was changed.
use Rattle.std.specs.Prelude.{◌≡◌, ◌≢◌, ◌⊎◌, ℕ, ◌+◌, ◌<◌, ◌≤◌, List, Bool, true}
use Rattle.encoding.specs.Limits.{IsName}
use Rattle.rootchain.specs.SignedRoots.{SpellsRoot}
use Rattle.rootchain.specs.declared.signed_root.SignedRoot.{SignedRoot}
use Rattle.proofs.specs.Accepts.{stated}
use Rattle.proofs.specs.BrokenFinals.{states_final}
use Rattle.proofs.specs.Comparisons.{IsAcceptedReply, Refuses}
use Rattle.proofs.specs.Refusals.{reply_refusal_number}
use Rattle.proofs.specs.Replies.{Reply}
use Rattle.proofs.specs.declared.reply_refusal.Refusal.{Refusal}
use Rattle.coniks.specs.Told.{any, told}

-- one reply states a key with Final, and the other, with the same index, anything else
abbrev pub ChangesFinal : (List ℕ → List ℕ) → Reply → Reply → Type 0
ChangesFinal hash one other = (states_final (stated one.end) ≡ true) × (hash one.value ≡ hash other.value) × (stated one.end ≢ stated other.end)

module _ (hash : List ℕ → List ℕ) (name : List ℕ) (reply later_reply : List ℕ) (value_is_accepted later_value_is_accepted : Bool) where
  -- two replies under two roots: the first refusal that applies of the first, of the second, 32 above; or whether the second
  -- changes the first
  abbrev pub TestsReplies : SignedRoot → SignedRoot → ℕ → Type 0
  TestsReplies root later answer =
      ((refusal : Refusal) × Refuses hash (told value_is_accepted) root.body name reply refusal × (answer ≡ reply_refusal_number refusal))
      ⊎ ((one : Reply) × (refusal : Refusal) × (value_is_accepted ≡ true) × IsAcceptedReply hash any root.body name reply one
      × Refuses hash (told later_value_is_accepted) later.body name later_reply refusal × (answer ≡ 32 + reply_refusal_number refusal))
      ⊎ ((one other : Reply) × (value_is_accepted ≡ true) × (later_value_is_accepted ≡ true) × IsAcceptedReply hash any root.body name reply one × IsAcceptedReply hash any later.body name later_reply other
      × ((ChangesFinal hash one other × (answer ≡ 23)) ⊎ ((¬ ChangesFinal hash one other) × (answer ≡ 0))))

-- Two replies for a name are tested: the first that applies of 8, the name is none; 11, a root is none; 14, the second is not of
-- a later epoch; and what the replies show.
abbrev pub TestsFinal : (List ℕ → List ℕ) → List ℕ → List ℕ → List ℕ → List ℕ → List ℕ → Bool → Bool → ℕ → Type 0
TestsFinal hash name root reply later_root later_reply value_is_accepted later_value_is_accepted answer =
    ((¬ IsName name) × (answer ≡ 8))
    ⊎ (IsName name × (
    ((((one : SignedRoot) → ¬ SpellsRoot root one) ⊎ ((other : SignedRoot) → ¬ SpellsRoot later_root other)) × (answer ≡ 11))
    ⊎ ((one other : SignedRoot) × SpellsRoot root one × SpellsRoot later_root other × (
    ((other.body.epoch ≤ one.body.epoch) × (answer ≡ 14))
    ⊎ ((one.body.epoch < other.body.epoch) × TestsReplies hash name reply later_reply value_is_accepted later_value_is_accepted one other answer)
    ))
    ))
