-- What shows that a provider changed a binding that is final (policies are this directory's own).
use Rattle.std.specs.Prelude.{◌≡◌, ◌≢◌, ◌<◌, ℕ, List, Bool, true, false, Option, Some, None}
use Rattle.encoding.specs.Policies.{is_final}
use Rattle.encoding.specs.declared.bound_key.BoundKey.{BoundKey}
use Rattle.rootchain.specs.Chains.{Verifies}
use Rattle.rootchain.specs.declared.body.Body.{Body}
use Rattle.proofs.specs.Accepts.{Accepts, HasIndex}
use Rattle.proofs.specs.declared.broken_final.BrokenFinal.{BrokenFinal}

-- a key is stated, with Final
abbrev pub states_final : Option BoundKey → Bool
states_final None = false
states_final (Some key) = is_final key.policy

module _ (hash : List ℕ → List ℕ) (accepted : List ℕ → List ℕ → List ℕ → Type 0) where
  -- Two replies for the name, with one index: the first, accepted under this body, states a key with Final, and the
  -- second, accepted under the other one, states anything else.
  pub record Changes (name : List ℕ) (body : Body) (text : List ℕ) (later : Body) (later_text : List ℕ) : Type 0 where
    pub statement : Option BoundKey
    pub passes : Accepts hash accepted body name text statement
    pub final : states_final statement ≡ true
    pub later_statement : Option BoundKey
    pub later_passes : Accepts hash accepted later name later_text later_statement
    pub changed : later_statement ≢ statement
    pub index : List ℕ
    pub has_index : HasIndex hash text index
    pub later_has_index : HasIndex hash later_text index

  module _ (verified : List ℕ → List ℕ → List ℕ → Type 0) (key : List ℕ) where
    -- two signed roots of the provider, the second of a later epoch, and such replies under them
    pub record IsBrokenFinal (broken : BrokenFinal) : Type 0 where
      pub signed : Verifies verified key broken.root
      pub later_signed : Verifies verified key broken.later_root
      pub later : broken.root.body.epoch < broken.later_root.body.epoch
      pub changes : Changes broken.name broken.root.body broken.proof broken.later_root.body broken.later_proof
