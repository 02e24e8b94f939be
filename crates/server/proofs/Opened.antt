-- The entry of a session that is opened, changed and ended again.
use Rattle.std.proofs.Common.{◌≡◌, ℕ, [], ◌∷◌, Bool, true, false, cond, Some, None, refl, sym, ap, ◌∙◌}
use Rattle.std.specs.declared.cmp.Ordering.{Ordering}
use Rattle.std.specs.declared.cmp.Ordering.TheVariants.{Less, Equal, Greater}
use Rattle.std.specs.Ordering.{nat_cmp, match_ordering, is_eq}
use Rattle.std.specs.BTreeMap.{is_at, insert_entry}
use Rattle.std.specs.Map.{remove_entry, set_value}
use Rattle.hub.specs.Events.{BySession, at_session}
use Rattle.hub.proofs.Outputting.{is_here}

pub set_twice : {X : Type 0} (p : ℕ → Bool) (entries : BySession X) (x y : X) → set_value p (set_value p entries x) y ≡ set_value p entries y
set_twice p [] x y = refl
set_twice p (entry ∷ more) x y = by_test (p entry.0) refl (set_twice p more x y)
  where
    by_test : (b : Bool) → p entry.0 ≡ b → set_value p (set_value p more x) y ≡ set_value p more y
        → set_value p (cond b ((entry.0, x) ∷ more) (entry ∷ set_value p more x)) y ≡ cond b ((entry.0, y) ∷ more) (entry ∷ set_value p more y)
    by_test true e next = rw e refl
    by_test false e next = rw (e, next) refl

-- a session that was not open is gone without a trace
pub gone_again : {X : Type 0} (entries : BySession X) (n : ℕ) (x y : X) → at_session entries n ≡ None
    → remove_entry (is_at (nat_cmp n)) (set_value (is_at (nat_cmp n)) (insert_entry nat_cmp entries n x) y) ≡ entries
gone_again [] n x y none = rw (is_here n) (rw (is_here n) refl)
gone_again {X} (entry ∷ more) n x y none = by_order (nat_cmp n entry.0) refl (gone_again more n x y)
  where
    p : ℕ → Bool
    p = is_at (nat_cmp n)

    by_order : (o : Ordering) → nat_cmp n entry.0 ≡ o → (at_session more n ≡ None → remove_entry p (set_value p (insert_entry nat_cmp more n x) y) ≡ more)
        → remove_entry p (set_value p (match_ordering o ((n, x) ∷ entry ∷ more) ((entry.0, x) ∷ more) (entry ∷ insert_entry nat_cmp more n x)) y) ≡ entry ∷ more
    by_order Less e next = rw (is_here n) (rw (is_here n) refl)
    by_order Equal e next =
        let here : p entry.0 ≡ true = ap is_eq e in
        let some : Some entry.1 ≡ None = sym (ap (λ (b : Bool). cond b (Some entry.1) (at_session more n)) here) ∙ none in absurd cc
    by_order Greater e next =
        let not : p entry.0 ≡ false = ap is_eq e in
        let rest : at_session more n ≡ None = sym (ap (λ (b : Bool). cond b (Some entry.1) (at_session more n)) not) ∙ none in
        rw not (rw not (ap (λ (t : BySession X). entry ∷ t) (next rest)))
