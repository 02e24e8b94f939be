-- What comes of reconciling a client with that of a monitor.
use Rattle.std.specs.Prelude.{◌≡◌, ◌≢◌, ◌⊎◌, ℕ, List, Contains}
use Rattle.std.proofs.Common.{sym, subst, inl, inr}
use Rattle.rootchain.specs.declared.signed_root.SignedRoot.{SignedRoot}
use Rattle.client.specs.Agreements.{AreOfOne, HaveOneStatement, IsReconciled}
use Rattle.client.specs.Clients.{Client, Look}
use Rattle.client.specs.declared.outcome.Outcome.{Outcome}
use Rattle.client.specs.declared.outcome.Outcome.TheVariants.{Agree, Evidence, Collision, TwoValues}
use Rattle.monitor.specs.Monitors.{Monitor, HasLook, IsWatched, IsWatching, SawTheSame}

turned : (look also : Look) → HaveOneStatement look also → HaveOneStatement also look
turned look also one = (one.0, one.2, one.1)

module _ (hash : List ℕ → List ℕ) (accepted : List ℕ → List ℕ → List ℕ → Type 0) where
  agreed : (monitor : Monitor) (client : Client)
      → IsReconciled hash accepted client monitor.client Agree ⊎ IsReconciled hash accepted monitor.client client Agree
      → (look own : Look) → Contains client.looks look → Contains monitor.client.looks own → AreOfOne look own → HaveOneStatement look own
  agreed monitor client (inl (inl never)) look own has has-own of_one = absurd never
  agreed monitor client (inl (inr told)) look own has has-own of_one = told.1 look own has has-own of_one
  agreed monitor client (inr (inl never)) look own has has-own of_one = absurd never
  agreed monitor client (inr (inr told)) look own has has-own of_one = turned own look (told.1 own look has-own has (sym of_one.0, sym of_one.1))

  pub saw_the_same : (monitor : Monitor) (client : Client) (outcome : Outcome) → IsWatching monitor
      → IsReconciled hash accepted client monitor.client outcome ⊎ IsReconciled hash accepted monitor.client client outcome
      → (look : Look) (root : SignedRoot) → Contains client.looks look → look.name ≡ monitor.name
      → IsWatched monitor root → look.epoch ≡ root.body.epoch → SawTheSame monitor look ⊎ (outcome ≢ Agree)
  saw_the_same monitor client Agree watching reconciled look root has named watched at = inl (
    subst (HasLook monitor) (sym at) (watching.looked root watched),
    λ own has-own of_one. agreed monitor client reconciled look own has has-own of_one,
  )
  saw_the_same monitor client (Evidence evidence) watching reconciled look root has named watched at = inr (λ same. absurd cc)
  saw_the_same monitor client (Collision x y) watching reconciled look root has named watched at = inr (λ same. absurd cc)
  saw_the_same monitor client TwoValues watching reconciled look root has named watched at = inr (λ same. absurd cc)
