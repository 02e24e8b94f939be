-- Lists of roots that are refused.
use Rattle.std.proofs.Common.{◌≡◌, ◌≢◌, ◌∙◌, ℕ, zero, suc, ◌<◌, ◌≤◌, List, [], ◌∷◌, Result, Err, ap, arith, codes, get_or, inl, inr, length, refl, slice_set, subst}
use Rattle.std.proofs.lemmas.Option.{slice_get_read}
use Rattle.client.specs.Clients.{Client}
use Rattle.client.specs.Updating.{Updates}
use Rattle.client.specs.declared.client_refusal.Refusal.{Refusal}
use Rattle.client.specs.declared.client_refusal.Refusal.TheVariants.{Memory}
use Rattle.monitor.specs.Monitors.{Monitor}
use Rattle.asking.specs.declared.said.Said.{Said}
use Rattle.asking.specs.Following.{MonitorUpdates, OneRefuses, RefusesList, TellsRootRefusal}
use Rattle.asking.specs.Refused.{client_refuses}
use Rattle.asking.specs.Reports.{Tells}
use Rattle.play.proofs.Moved.{AreMoved}
use Rattle.asking.proofs.Stepped.{set_to_itself}

-- lists of the same elements
same-lists : {X : Type 0} (xs ys : List X) → length ys ≡ length xs → ((k : ℕ) (d : X) → get_or ys k d ≡ get_or xs k d) → ys ≡ xs
same-lists [] [] long each = refl
same-lists [] (y ∷ ys) long each = absurd (omega (arith, long))
same-lists (x ∷ xs) [] long each = absurd (omega (arith, long))
same-lists {X} (x ∷ xs) (y ∷ ys) long each =
    let rest = same-lists xs ys (omega (arith, long)) (λ k d. each (suc k) d) in
    ap (λ (one : X). one ∷ ys) (each 0 x) ∙ ap (λ (more : List X). x ∷ more) rest

module _ (hash : List ℕ → List ℕ) (verified : List ℕ → List ℕ → List ℕ → Type 0) (list : List ℕ) where
  -- a client that refuses a list, and not for want of memory, stays as it was
  pub refuses_list : (before after : Client) (result : Result (Unit {0}) Refusal) (why : Refusal) → result ≡ Err why → Updates hash verified before list result after → why ≢ Memory
      → RefusesList hash verified list before why × (after ≡ before)
  refuses_list before after result why is updates known =
      let told = subst (λ (answer : Result (Unit {0}) Refusal). Updates hash verified before list answer after) is updates in
      ((subst (λ (client : Client). Updates hash verified before list {A = Unit {0}} (Err why) client) told.0 told, known), told.0)

  -- so does its monitor
  pub refuses_still : (before after : Monitor) → after.client ≡ before.client → after ≡ record before { client = after.client } → after ≡ before
  refuses_still before after same others = others ∙ ap (λ (client : Client). let monitor : Monitor = record before { client = client } in monitor) same

  refuses-from : (before after : List Monitor) (place : ℕ) (why : Refusal) → place < length before → length after ≡ length before
      → ((k : ℕ) (d : Monitor) → k < place → MonitorUpdates hash verified list (get_or before k d) (get_or after k d)) → ((k : ℕ) (d : Monitor) → place ≤ k → get_or after k d ≡ get_or before k d)
      → ((d : Monitor) → RefusesList hash verified list (get_or before place d).client why) → OneRefuses hash verified list before why after
  refuses-from [] after place why below long moved still refuses = absurd (omega (arith, below))
  refuses-from (x ∷ xs) [] place why below long moved still refuses = absurd (omega (arith, long))
  refuses-from (x ∷ xs) (y ∷ ys) zero why below long moved still refuses =
      inl (refuses x, still 0 x (omega arith), same-lists xs ys (omega (arith, long)) (λ k d. still (suc k) d (omega arith)))
  refuses-from (x ∷ xs) (y ∷ ys) (suc place) why below long moved still refuses = inr (
    moved 0 x (omega arith),
    refuses-from xs ys place why (omega (arith, below)) (omega (arith, long)) (λ k d low. moved (suc k) d (omega (arith, low))) (λ k d high. still (suc k) d (omega (arith, high))) refuses,
  )

  -- the monitor at a place refuses it, and those before took it
  pub one_refuses : (before now : List Monitor) (place : ℕ) (monitor monitor' : Monitor) (first here after : Said) → place < length before → length now ≡ length before
      → ((d : Monitor) → monitor ≡ get_or now place d) → AreMoved (MonitorUpdates hash verified list) before place now → here ≡ first
      → TellsRootRefusal (λ why. RefusesList hash verified list monitor.client why × (monitor' ≡ monitor)) here after
      → TellsRootRefusal (λ why. OneRefuses hash verified list before why (slice_set now place monitor')) first after
  one_refuses before now place monitor monitor' first here after below long is moved said (why, (refuses, stays), tells) =
      let set : now ≡ slice_set now place monitor' = set_to_itself now place monitor' (slice_get_read now (length now) place monitor' refl (omega (arith, below, long)) (stays ∙ is monitor')) in
      let one = refuses-from before now place why below long moved.moved moved.still
      (λ d. subst (λ (x : Monitor). RefusesList hash verified list x.client why) (is d ∙ moved.still place d (omega arith)) refuses) in (
        why,
        subst (λ (all : List Monitor). OneRefuses hash verified list before why all) set one,
        subst (λ (s : Said). Tells s (client_refuses (codes "client refuses root") why) after) said tells,
      )
