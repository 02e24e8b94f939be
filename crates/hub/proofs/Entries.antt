-- Maps of what is kept of each session, and the same maps with each value as another.
use Rattle.std.proofs.Common.{◌≡◌, ℕ, [], ◌∷◌, Bool, true, false, cond, suc, length, Option, Some, None, refl, ap, subst, ◌∙◌}
use Rattle.std.specs.Prelude.{is_some}
use Rattle.std.specs.Option.{option_map}
use Rattle.std.specs.declared.cmp.Ordering.{Ordering}
use Rattle.std.specs.declared.cmp.Ordering.TheVariants.{Less, Equal, Greater}
use Rattle.std.specs.Ordering.{nat_cmp, match_ordering}
use Rattle.std.specs.BTreeMap.{is_at, insert_entry}
use Rattle.std.specs.Map.{lookup, remove_entry, set_value}
use Rattle.hub.specs.Events.{BySession, Happening, Open, Bytes, End, at_session, due}
use Rattle.hub.specs.Runs.{each}

module _ {X Y : Type 0} (f : X → Y) where
  found_step : (b : Bool) (x : X) (more : Option X) → cond b (Some (f x)) (option_map f more) ≡ option_map f (cond b (Some x) more)
  found_step true x more = refl
  found_step false x more = refl

  pub lookup_each : (p : ℕ → Bool) (entries : BySession X) → lookup p (each f entries) ≡ option_map f (lookup p entries)
  lookup_each p [] = refl
  lookup_each p (entry ∷ more) =
      ap (λ (t : Option Y). cond (p entry.0) (Some (f entry.1)) t) (lookup_each p more) ∙ found_step (p entry.0) entry.1 (lookup p more)

  pub length_each : (entries : BySession X) → length (each f entries) ≡ length entries
  length_each [] = refl
  length_each (entry ∷ more) = ap suc (length_each more)

  set_step : (b : Bool) (entry : ℕ × X) (x : X) (more rest : BySession X) → cond b ((entry.0, f x) ∷ each f more) ((entry.0, f entry.1) ∷ each f rest) ≡ each f (cond b ((entry.0, x) ∷ more) (entry ∷ rest))
  set_step true entry x more rest = refl
  set_step false entry x more rest = refl

  pub set_each : (p : ℕ → Bool) (entries : BySession X) (x : X) → set_value p (each f entries) (f x) ≡ each f (set_value p entries x)
  set_each p [] x = refl
  set_each p (entry ∷ more) x =
      ap (λ (t : BySession Y). cond (p entry.0) ((entry.0, f x) ∷ each f more) ((entry.0, f entry.1) ∷ t)) (set_each p more x)
      ∙ set_step (p entry.0) entry x more (set_value p more x)

  remove_step : (b : Bool) (entry : ℕ × X) (more rest : BySession X) → cond b (each f more) ((entry.0, f entry.1) ∷ each f rest) ≡ each f (cond b more (entry ∷ rest))
  remove_step true entry more rest = refl
  remove_step false entry more rest = refl

  pub remove_each : (p : ℕ → Bool) (entries : BySession X) → remove_entry p (each f entries) ≡ each f (remove_entry p entries)
  remove_each p [] = refl
  remove_each p (entry ∷ more) =
      ap (λ (t : BySession Y). cond (p entry.0) (each f more) ((entry.0, f entry.1) ∷ t)) (remove_each p more)
      ∙ remove_step (p entry.0) entry more (remove_entry p more)

  insert_step : (o : Ordering) (n : ℕ) (x : X) (entry : ℕ × X) (more rest : BySession X)
      → match_ordering o ((n, f x) ∷ (entry.0, f entry.1) ∷ each f more) ((entry.0, f x) ∷ each f more) ((entry.0, f entry.1) ∷ each f rest)
      ≡ each f (match_ordering o ((n, x) ∷ entry ∷ more) ((entry.0, x) ∷ more) (entry ∷ rest))
  insert_step Less n x entry more rest = refl
  insert_step Equal n x entry more rest = refl
  insert_step Greater n x entry more rest = refl

  pub insert_each : (entries : BySession X) (n : ℕ) (x : X) → insert_entry nat_cmp (each f entries) n (f x) ≡ each f (insert_entry nat_cmp entries n x)
  insert_each [] n x = refl
  insert_each (entry ∷ more) n x =
      ap (λ (t : BySession Y). match_ordering (nat_cmp n entry.0) ((n, f x) ∷ (entry.0, f entry.1) ∷ each f more) ((entry.0, f x) ∷ each f more) ((entry.0, f entry.1) ∷ t)) (insert_each more n x)
      ∙ insert_step (nat_cmp n entry.0) n x entry more (insert_entry nat_cmp more n x)

  is_some_map : (x : Option X) → is_some (option_map f x) ≡ is_some x
  is_some_map None = refl
  is_some_map (Some x) = refl

  pub is_some_each : (entries : BySession X) (n : ℕ) → is_some (at_session (each f entries) n) ≡ is_some (at_session entries n)
  is_some_each entries n = ap is_some (lookup_each (is_at (nat_cmp n)) entries) ∙ is_some_map (at_session entries n)

  -- the same refusals are due
  pub due_each : (entries : BySession X) (it : Happening) → due (each f entries) it ≡ due entries it
  due_each entries (Open n) = rw (length_each entries, is_some_each entries n) refl
  due_each entries (Bytes n piece) = rw (is_some_each entries n) refl
  due_each entries (End n) = rw (is_some_each entries n) refl

-- ---- a fact of each value

abbrev pub AllAt : {X : Type 0} → (X → Type 0) → BySession X → Type 0
AllAt P [] = Unit {0}
AllAt P (entry ∷ more) = P entry.1 × AllAt P more

module _ {X : Type 0} (P : X → Type 0) where
  pub all_found : (p : ℕ → Bool) (entries : BySession X) (x : X) → AllAt P entries → lookup p entries ≡ Some x → P x
  all_found p [] x all e = absurd cc
  all_found p (entry ∷ more) x all e = by_test (p entry.0) e (all_found p more x all.1)
    where
      by_test : (b : Bool) → cond b (Some entry.1) (lookup p more) ≡ Some x → (lookup p more ≡ Some x → P x) → P x
      by_test true found next = let same : entry.1 ≡ x = cc in subst P same all.0
      by_test false found next = next found

  pub all_set : (p : ℕ → Bool) (entries : BySession X) (x : X) → AllAt P entries → P x → AllAt P (set_value p entries x)
  all_set p [] x all one = tt
  all_set p (entry ∷ more) x all one = by_test (p entry.0) (all_set p more x all.1 one)
    where
      by_test : (b : Bool) → AllAt P (set_value p more x) → AllAt P (cond b ((entry.0, x) ∷ more) (entry ∷ set_value p more x))
      by_test true next = (one, all.1)
      by_test false next = (all.0, next)

  pub all_removed : (p : ℕ → Bool) (entries : BySession X) → AllAt P entries → AllAt P (remove_entry p entries)
  all_removed p [] all = tt
  all_removed p (entry ∷ more) all = by_test (p entry.0) (all_removed p more all.1)
    where
      by_test : (b : Bool) → AllAt P (remove_entry p more) → AllAt P (cond b more (entry ∷ remove_entry p more))
      by_test true next = all.1
      by_test false next = (all.0, next)

  pub all_inserted : (entries : BySession X) (n : ℕ) (x : X) → AllAt P entries → P x → AllAt P (insert_entry nat_cmp entries n x)
  all_inserted [] n x all one = (one, tt)
  all_inserted (entry ∷ more) n x all one = by_order (nat_cmp n entry.0) (all_inserted more n x all.1 one)
    where
      by_order : (o : Ordering) → AllAt P (insert_entry nat_cmp more n x) → AllAt P (match_ordering o ((n, x) ∷ entry ∷ more) ((entry.0, x) ∷ more) (entry ∷ insert_entry nat_cmp more n x))
      by_order Less next = (one, all)
      by_order Equal next = (one, all.1)
      by_order Greater next = (all.0, next)
