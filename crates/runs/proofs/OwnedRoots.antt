-- A chain that takes a list of roots, and what its roots are then.
use Rattle.std.proofs.Common.{◌≡◌, ◌≢◌, ◌∙◌, ◌⊎◌, ◌-◌, ◌<◌, ◌≤◌, ℕ, zero, suc, List, [], ◌∷◌, ◌++◌, length, Contains, Some, arith, ap, inl, inr, subst, sym}
use Rattle.std.specs.Prelude.{map, slice_get}
use Rattle.std.specs.List.{AllByRecursion}
use Rattle.std.proofs.lemmas.List.Elements.{All-cons, All-contains, All-nil, Contains-append_cases, Contains-append_left}
use Rattle.client.proofs.Breaking.{all-at}
use Rattle.client.proofs.Unlikes.{at-place, is-among}
use Rattle.memory.specs.Lists.{HasNoRepeat}
use Rattle.memory.specs.Memories.{name_of}
use Rattle.memory.specs.declared.mark.Mark.{Mark}
use Rattle.play.proofs.Lists.{all-in}
use Rattle.rootchain.specs.Chains.{Ascend, IsChain, IsHead, KeyedRoots, Verifies}
use Rattle.rootchain.specs.Places.{IsFirst, IsNextAfter}
use Rattle.rootchain.specs.SignedRoots.{IsSignedRoot}
use Rattle.rootchain.specs.TakingLists.{Takes}
use Rattle.rootchain.specs.declared.signed_root.SignedRoot.{SignedRoot}
use Rattle.rootchain.proofs.Chains.{ascend-linked}
use Rattle.rootchain.proofs.Places.{ends}
use Rattle.rootchain.proofs.TakingLists.{takes-chain, takes-grows}
use Rattle.rootchain.proofs.Walks.{up-to}
use Rattle.asking.specs.Joining.{IsUnwatched}
use Rattle.runs.specs.Owning.{IsLeastAbove}
use Rattle.runs.specs.Told.{HasBody}
use Rattle.runs.proofs.OwnRoots.{some-same, taken-from}
use Rattle.runs.proofs.Told.{behind-later}

-- ---- lists

pub all-has : {A : Type 0} (P : A → Type 0) (xs : List A) (x : A) → AllByRecursion P xs → Contains xs x → P x
all-has P xs x all has = all-at P xs has.0 x all (at-place xs x has)

-- the first or another
pub has-cases : {A : Type 0} (x : A) (xs : List A) (y : A) → Contains (x ∷ xs) y → (x ≡ y) ⊎ Contains xs y
has-cases x xs y (zero, within, at) = inl at
has-cases x xs y (suc k, within, at) = inr (k, omega (arith, within), at)

-- the first of a list stays the first where others follow
pub first-stays : {A : Type 0} (xs ys : List A) (x : A) → 0 < length xs → slice_get (xs ++ ys) 0 ≡ Some x → slice_get xs 0 ≡ Some x
first-stays [] ys x some at = absurd (omega (arith, some))
first-stays (y ∷ xs) ys x some at = at

-- ---- a chain that grows

-- it has all its roots, and those that are new are of later epochs
pub record HasGrown (before after : KeyedRoots) : Type 0 where
  pub stays : (root : SignedRoot) → Contains before.roots root → Contains after.roots root
  pub later : (root : SignedRoot) → Contains after.roots root → Contains before.roots root ⊎ ((own : SignedRoot) → Contains before.roots own → own.body.epoch < root.body.epoch)
  pub head : (head : SignedRoot) → IsHead before head → (latest : SignedRoot) × IsHead after latest × (head.body.epoch ≤ latest.body.epoch)

pub grows-none : (chain : KeyedRoots) → HasGrown chain chain
grows-none chain = record { stays = λ root has. has; later = λ root has. inl has; head = λ head is. (head, is, omega arith) }

-- it has the bodies that it had
pub body-grown : (before after : KeyedRoots) → HasGrown before after → (root : SignedRoot) → HasBody before root → HasBody after root
body-grown before after grows root (own, has, same) = (own, grows.stays own has, same)

-- what is the least above an epoch still is
pub least-grown : (before after : KeyedRoots) (epoch : ℕ) (first : SignedRoot) → HasGrown before after → HasBody before first → IsLeastAbove before epoch first → IsLeastAbove after epoch first
least-grown before after epoch first grows (own, has, same) least root among above = elim (grows.later root among) [
  | inl old ↦ least root old above
  | inr new ↦ let less = new own has in let e = ap (λ b. b.epoch) same in omega (arith, less, e)
]

module _ (hash : List ℕ → List ℕ) (verified : List ℕ → List ℕ → List ℕ → Type 0) where
  -- no root is of a later epoch than the head
  pub head-high : (chain : KeyedRoots) (root head : SignedRoot) → IsChain hash verified chain → Contains chain.roots root → IsHead chain head → root.body.epoch ≤ head.body.epoch
  head-high chain root head is has at =
      up-to chain.roots (ascend-linked hash chain.roots is.linked) has.0 (length chain.roots - 1) root head (at-place chain.roots root has) at (omega (arith, has.1))

  pub taken-grows : (before after : KeyedRoots) (roots : List SignedRoot) → IsChain hash verified before → Takes hash verified before roots after → HasGrown before after
  taken-grows before after roots is takes =
      let (more, grown) = takes-grows hash verified roots before after takes in
      let all : after.roots ≡ before.roots ++ more = ap (λ (c : KeyedRoots). c.roots) grown in
      let is' : IsChain hash verified after = takes-chain hash verified roots before after is takes in
      let up : Ascend (before.roots ++ more) = subst Ascend all (ascend-linked hash after.roots is'.linked) in
      let stays : (root : SignedRoot) → Contains before.roots root → Contains after.roots root = λ root has. subst (λ (rs : List SignedRoot). Contains rs root) (sym all) (Contains-append_left before.roots more root has) in
      record {
        stays = stays;
        later = λ root has. elim (Contains-append_cases before.roots more root (subst (λ (rs : List SignedRoot). Contains rs root) all has)) [
          | inl old ↦ inl old
          | inr new ↦ inr (λ own old. behind-later before.roots more own root up old new)
        ];
        head = λ head at. let both = ends after.roots is'.first in (both.head, both.at-head, head-high after head both.head is' (stays head (is-among before.roots (length before.roots - 1) head at)) both.at-head);
      }

  -- a root that verifies is a chain
  pub one-chain : (key : List ℕ) (root : SignedRoot) → Verifies verified key root → IsChain hash verified (record { key = key; roots = root ∷ [] })
  one-chain key root signed = record {
    first = omega arith;
    signed = All-cons (Verifies verified key) root [] signed (All-nil (Verifies verified key));
    linked = λ k d within. absurd (omega (arith, within));
  }

  -- its roots have a spelling, if those of the list do
  pub taken-formed : (before after : KeyedRoots) (roots : List SignedRoot) → Takes hash verified before roots after → AllByRecursion IsSignedRoot before.roots → AllByRecursion IsSignedRoot roots → AllByRecursion IsSignedRoot after.roots
  taken-formed before after roots takes own new = all-in IsSignedRoot after.roots (λ root has. elim (taken-from hash verified before after roots root takes has) [
    | inl old ↦ all-has IsSignedRoot before.roots root own old
    | inr listed ↦ all-has IsSignedRoot roots root new listed
  ])

  -- its first root stays
  pub taken-first : (before after : KeyedRoots) (roots : List SignedRoot) (first : SignedRoot) → IsChain hash verified before → Takes hash verified before roots after → IsFirst after first → IsFirst before first
  taken-first before after roots first is takes at =
      let (more, grown) = takes-grows hash verified roots before after takes in
      first-stays before.roots more first is.first (subst (λ (c : KeyedRoots). IsFirst c first) grown at)

-- ---- the first root that is to be watched

-- the chain has it
pub unwatched-there : (chain : KeyedRoots) (name : List ℕ) (marks : List Mark) (first : SignedRoot) → IsUnwatched chain name marks (Some first) → Contains chain.roots first
unwatched-there chain name [] first (root, at, same) =
    subst (Contains chain.roots) (sym (some-same first root same)) (is-among chain.roots (length chain.roots - 1) root at)
unwatched-there chain name (mark ∷ marks) first (inl (named, next)) = next.0
unwatched-there chain name (mark ∷ marks) first (inr (other, rest)) = unwatched-there chain name marks first rest

-- no name of these marks is this one
not-named : (name : List ℕ) (marks : List Mark) (mark : Mark) → AllByRecursion (λ (other : List ℕ). name ≢ other) (map name_of marks) → Contains marks mark → name ≢ mark.name
not-named name [] mark apart has = absurd (omega (arith, has.1))
not-named name (first ∷ marks) mark apart has = elim (has-cases first marks mark has) [
  | inl same ↦ λ e. apart.0 (e ∙ ap name_of (sym same))
  | inr later ↦ not-named name marks mark apart.1 later
]

-- it is the next root behind the mark of the name
pub next-unwatched : (chain : KeyedRoots) (name : List ℕ) (marks : List Mark) (first : SignedRoot) (mark : Mark) → HasNoRepeat (map name_of marks) → IsUnwatched chain name marks (Some first) → Contains marks mark → mark.name ≡ name
    → IsNextAfter chain mark.epoch first
next-unwatched chain name [] first mark once is has named = absurd (omega (arith, has.1))
next-unwatched chain name (one ∷ marks) first mark once (inl (here, next)) has named = elim (has-cases one marks mark has) [
  | inl same ↦ subst (λ (m : Mark). IsNextAfter chain m.epoch first) same next
  | inr later ↦ absurd (not-named one.name marks mark once.0 later (here ∙ sym named))
]
next-unwatched chain name (one ∷ marks) first mark once (inr (other, rest)) has named = elim (has-cases one marks mark has) [
  | inl same ↦ absurd (other (ap name_of same ∙ named))
  | inr later ↦ next-unwatched chain name marks first mark once.1 rest later named
]

-- so no root above the mark is of an earlier epoch
pub unwatched-least : (chain : KeyedRoots) (name : List ℕ) (marks : List Mark) (first : SignedRoot) (mark : Mark) → HasNoRepeat (map name_of marks) → IsUnwatched chain name marks (Some first) → Contains marks mark → mark.name ≡ name
    → IsLeastAbove chain mark.epoch first
unwatched-least chain name marks first mark once is has named root among above =
    let next = next-unwatched chain name marks first mark once is has named in
    All-contains (λ (other : SignedRoot). mark.epoch < other.body.epoch → first.body.epoch ≤ other.body.epoch) chain.roots root next.2 among above
