-- What a directory sends of the roots that it has is what was asked for.
use Rattle.std.proofs.Common.{◌≡◌, ◌⊎◌, ℕ, zero, suc, ◌<◌, ◌≤◌, Bool, true, false, List, [], ◌∷◌, ap, arith, filter, inl, inr, length, nat_le, refl, subst, sym, take}
use Rattle.std.specs.Prelude.{if◌then◌else◌}
use Rattle.std.proofs.lemmas.Bool.{le-leb, leb-true, leb-false}
use Rattle.rootchain.specs.Chains.{KeyedRoots, Names}
use Rattle.rootchain.specs.declared.signed_root.SignedRoot.{SignedRoot}
use Rattle.asking.specs.Wanted.{last_epoch, roots_sent, AreEnough, AreWanted, BeginFrom, FollowOn, IsFirstFrom, IsReached}

-- a beginning is as long as it has to be, or whole
taken : (count : ℕ) (roots : List SignedRoot) → (length (take count roots) ≡ count) ⊎ (take count roots ≡ roots)
taken zero roots = inl refl
taken (suc count) [] = inr refl
taken (suc count) (root ∷ more) = elim (taken count more) [ inl long ↦ inl (ap suc long) | inr whole ↦ inr (ap (λ (rs : List SignedRoot). root ∷ rs) whole) ]

module _ (hash : List ℕ → List ℕ) (from : ℕ) where
  abbrev late : List SignedRoot → List SignedRoot
  late roots = filter (λ (root : SignedRoot). nat_le from root.body.epoch) roots

  taken-follow : (count : ℕ) (last : SignedRoot) (roots : List SignedRoot) → FollowOn hash last roots → FollowOn hash last (take count roots)
  taken-follow zero last roots follow = tt
  taken-follow (suc count) last [] follow = tt
  taken-follow (suc count) last (root ∷ more) (linked, follow) = (linked, taken-follow count root more follow)

  -- all that follow one that is late are late
  all-late : (last : SignedRoot) (roots : List SignedRoot) → from ≤ last.body.epoch → FollowOn hash last roots → late roots ≡ roots
  all-late last [] low follow = refl
  all-late last (root ∷ more) low ((names, above), follow) =
      let high : from ≤ root.body.epoch = omega (arith, low, above) in
      rw (le-leb from root.body.epoch high) (ap (λ (rs : List SignedRoot). root ∷ rs) (all-late root more high follow))

  from-late : (count : ℕ) (root : SignedRoot) (more : List SignedRoot) → IsFirstFrom from root → FollowOn hash root more → BeginFrom hash from (take count (root ∷ more))
  from-late zero root more first follow = tt
  from-late (suc count) root more first follow = (first, taken-follow count root more follow)

  named : (earlier later : SignedRoot) → Names hash earlier later → later.body.previous_epoch ≡ earlier.body.epoch
  unfolding Names
  named earlier later (same, hashed) = same

  none : (count : ℕ) → BeginFrom hash from (take count [])
  none zero = tt
  none (suc count) = tt

  -- they begin with the first from the epoch on: the first of all is late, or those behind it begin so
  begins-by : (count : ℕ) (root : SignedRoot) (more : List SignedRoot) (test : Bool) → nat_le from root.body.epoch ≡ test → IsFirstFrom from root → FollowOn hash root more
      → (root.body.epoch < from → BeginFrom hash from (roots_sent from count more)) → BeginFrom hash from (take count (if test then root ∷ late more else late more))
  begins-by count root more true is first follow behind =
      subst (λ (rs : List SignedRoot). BeginFrom hash from (take count (root ∷ rs))) (sym (all-late root more (leb-true from root.body.epoch is) follow)) (from-late count root more first follow)
  begins-by count root more false is first follow behind = behind (leb-false from root.body.epoch is)

  begins : (count : ℕ) (root : SignedRoot) (more : List SignedRoot) → IsFirstFrom from root → FollowOn hash root more → BeginFrom hash from (roots_sent from count (root ∷ more))
  begins count root [] first follow = begins-by count root [] (nat_le from root.body.epoch) refl first follow (λ low. none count)
  begins count root (next ∷ more) first ((names, above), follow) =
      begins-by count root (next ∷ more) (nat_le from root.body.epoch) refl first ((names, above), follow)
      (λ low. begins count next more (inl (omega (arith, low, named root next names))) follow)

  -- none is late, or the last of them is that of all
  abbrev EndAlike : ℕ → List SignedRoot → Type 0
  EndAlike last sent = ((sent ≡ []) × (last < from)) ⊎ (last_epoch 0 sent ≡ last)

  ends-by : (root : SignedRoot) (more : List SignedRoot) (test : Bool) → nat_le from root.body.epoch ≡ test → FollowOn hash root more → (root.body.epoch < from → EndAlike (last_epoch root.body.epoch more) (late more))
      → EndAlike (last_epoch root.body.epoch more) (if test then root ∷ late more else late more)
  ends-by root more true is follow behind = inr (ap (last_epoch root.body.epoch) (all-late root more (leb-true from root.body.epoch is) follow))
  ends-by root more false is follow behind = behind (leb-false from root.body.epoch is)

  ends : (root : SignedRoot) (more : List SignedRoot) → FollowOn hash root more → EndAlike (last_epoch root.body.epoch more) (late (root ∷ more))
  ends root [] follow = ends-by root [] (nat_le from root.body.epoch) refl follow (λ low. inl (refl, low))
  ends root (next ∷ more) (linked, follow) = ends-by root (next ∷ more) (nat_le from root.body.epoch) refl (linked, follow) (λ low. ends next more follow)

  -- so many of them are enough for a head that all go up to
  enough : (held count last : ℕ) (all : List SignedRoot) → EndAlike last (late all) → held ≤ last → AreEnough (record { held = held; from = from; count = count }) (roots_sent from count all)
  enough held count last all end most = elim (taken count (late all)) [
    | inl long ↦ inl long
    | inr whole ↦ inr (elim end [
      | inl (empty, low) ↦ inl (omega (arith, most, low))
      | inr same ↦ inr (subst (λ (rs : List SignedRoot). held ≤ last_epoch 0 rs) (sym whole) (subst (λ (n : ℕ). held ≤ n) (sym same) most))
    ])
  ]

-- where a directory has roots up to the head that was held
pub sent_are_wanted : (hash : List ℕ → List ℕ) (chain : KeyedRoots) (held from count : ℕ) (all : List SignedRoot) → BeginFrom hash 0 all → held ≤ last_epoch 0 all → IsReached chain (roots_sent from count all)
    → AreWanted hash chain (record { held = held; from = from; count = count }) (roots_sent from count all)
sent_are_wanted hash chain held from count [] begin most reached = (none hash from count, enough hash from held count 0 [] (inr refl) most, reached)
sent_are_wanted hash chain held from count (root ∷ more) (first, follow) most reached =
    (begins hash from count root more (first-late first) follow, enough hash from held count (last_epoch root.body.epoch more) (root ∷ more) (ends hash from root more follow) most, reached)
  where
    first-late : IsFirstFrom 0 root → IsFirstFrom from root
    first-late (inl never) = inr (omega (arith, never))
    first-late (inr none) = inr none
