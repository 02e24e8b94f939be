-- What users make of roots and promises that they take as the provider tells them.
use Rattle.std.proofs.Common.{◌≡◌, ℕ, ◌<◌, ◌≤◌, List, [], ◌∷◌, ◌++◌, length, Result, Ok, Err, Contains, refl, sym, ap, subst, ◌∙◌, inl, inr, append_assoc, arith}
use Rattle.std.proofs.lemmas.List.Elements.{All-contains, Contains-append_right}
use Rattle.encoding.proofs.Fields.{one_spelling}
use Rattle.rootchain.specs.Chains.{IsHead, KeyedRoots, Links, Names, Verifies}
use Rattle.rootchain.specs.RootLists.{read_root_list, root_list_bytes, IsRootList, SpellsRoots}
use Rattle.rootchain.specs.SignedRoots.{IsSignedRoot}
use Rattle.rootchain.specs.Taking.{with_root}
use Rattle.rootchain.specs.TakingLists.{with_roots, IsRefusedRoot, Takes}
use Rattle.rootchain.specs.declared.evidence.RootEvidence.TheVariants.{Fork, Link, Skip}
use Rattle.rootchain.specs.declared.list_refusal.ListRefusal.{ListRefusal}
use Rattle.rootchain.specs.declared.list_refusal.ListRefusal.TheVariants as list
use Rattle.rootchain.specs.declared.signed_root.SignedRoot.{SignedRoot}
use Rattle.rootchain.proofs.RootLists.{root_list_field}
use Rattle.rootchain.proofs.TakingLists.{grows-nothing}
use Rattle.commands.specs.Operations.{Operation}
use Rattle.book.specs.declared.reply.Reply.{Reply}
use Rattle.book.specs.Books.{Book}
use Rattle.book.specs.Honest.{AreConsecutive, IsHonestRun}
use Rattle.book.specs.Shows.{Provider, roots}
use Rattle.book.proofs.Stretches.{consecutive-there}
use Rattle.client.specs.Clients.{Client}
use Rattle.client.specs.Updating.{told_as, Updates}
use Rattle.client.specs.declared.client_refusal.Refusal.{Refusal}
use Rattle.play.specs.Calls.{IsFollowed, UpdatesRight}
use Rattle.play.proofs.Lists.{all-in}

pub one-list : (bytes : List ℕ) (one other : List SignedRoot) → SpellsRoots bytes one → SpellsRoots bytes other → one ≡ other
one-list bytes one other is also =
    (one_spelling read_root_list root_list_bytes IsRootList root_list_field one other [] [] is.1 also.1 (ap (λ (t : List ℕ). t ++ []) (sym is.0 ∙ also.0))).0

pub some-more : (xs ys : List SignedRoot) → 0 < length xs → 0 < length (xs ++ ys)
some-more [] ys some = absurd (omega (arith, some))
some-more (x ∷ xs) ys some = omega arith

-- a part of what stands one behind another stands so
front-consecutive : (all some more : List SignedRoot) → AreConsecutive all (some ++ more) → AreConsecutive all some
front-consecutive all some more (front, back, is) = (front, more ++ back, is ∙ ap (λ (rest : List SignedRoot). front ++ rest) (append_assoc some more back))

module _ (provider : Provider) (accepted verified : List ℕ → List ℕ → List ℕ → Type 0) (key : List ℕ) (before after : Book) (commands : List Operation) (replies : List Reply)
    (h : IsHonestRun provider accepted verified key before after commands replies) where
  -- a root that stands behind those of a chain
  record IsNextOf (chain : KeyedRoots) (root : SignedRoot) : Type 0 where
    pub head : SignedRoot
    pub at_head : IsHead chain head
    pub verifies : Verifies verified chain.key root
    pub links : Links provider.hash head root

  next-of : (chain : KeyedRoots) → IsFollowed provider key after chain → (root : SignedRoot) (more : List SignedRoot) → AreConsecutive (roots provider after) (chain.roots ++ root ∷ more) → IsNextOf chain root
  next-of chain f root more (front, back, is) =
      let parted : roots provider after ≡ front ++ (chain.roots ++ (root ∷ more ++ back)) = is ∙ ap (λ (rest : List SignedRoot). front ++ rest) (append_assoc chain.roots (root ∷ more) back) in
      let n = (h.followed front chain.roots (root ∷ more ++ back) parted f.some).1 root (more ++ back) refl in
      record { head = n.0; at_head = n.1; verifies = subst (λ (k : List ℕ). Verifies verified k root) (sym f.keyed) n.2; links = n.3 }

  longer : (chain : KeyedRoots) → IsFollowed provider key after chain → (root : SignedRoot) (more : List SignedRoot) → AreConsecutive (roots provider after) (chain.roots ++ root ∷ more)
      → IsFollowed provider key after (with_root chain root) × AreConsecutive (roots provider after) ((chain.roots ++ root ∷ []) ++ more)
  longer chain f root more are =
      let all : AreConsecutive (roots provider after) ((chain.roots ++ root ∷ []) ++ more) = subst (AreConsecutive (roots provider after)) (sym (append_assoc chain.roots (root ∷ []) more)) are in (
        record { keyed = f.keyed; some = some-more chain.roots (root ∷ []) f.some; are = front-consecutive (roots provider after) (chain.roots ++ root ∷ []) more all },
        all,
      )

  -- a list of the roots behind those of a chain is taken whole
  pub takes-all : (next : List SignedRoot) (chain later : KeyedRoots) → IsFollowed provider key after chain → AreConsecutive (roots provider after) (chain.roots ++ next) → Takes provider.hash verified chain next later
      → later ≡ with_roots chain next
  takes-all [] chain later f are takes = takes ∙ grows-nothing chain
  takes-all (root ∷ more) chain later f are (middle, (verifies, inl (known, stays)), rest) =
      let n = next-of chain f root more are in
      absurd (known.above n.head n.at_head n.links.1)
  takes-all (root ∷ more) chain later f are (middle, (verifies, inr (next, grown)), rest) =
      let l = longer chain f root more are in
      takes-all more (with_root chain root) later l.0 l.1 (subst (λ (c : KeyedRoots). Takes provider.hash verified c more later) grown rest)
      ∙ ap (λ (rs : List SignedRoot). record chain { roots = rs }) (append_assoc chain.roots (root ∷ []) more)

  -- none of them is refused, but for want of memory
  none-refused : (chain : KeyedRoots) → IsFollowed provider key after chain → (root : SignedRoot) (more : List SignedRoot) → AreConsecutive (roots provider after) (chain.roots ++ root ∷ more)
      → (reason : ListRefusal) → IsRefusedRoot provider.hash verified chain root reason → reason ≡ list.Memory
  unfolding Names
  none-refused chain f root more are reason refused = by reason refused
    where
      n : IsNextOf chain root
      n = next-of chain f root more are

      by : (reason : ListRefusal) → IsRefusedRoot provider.hash verified chain root reason → reason ≡ list.Memory
      by list.BadSignature refused = absurd (refused n.verifies)
      by list.BeforeStart refused = absurd (refused.1.above n.head n.at_head n.links.1)
      by list.Ahead refused = let low = refused.1.above n.head n.at_head n.links.1 in let same = n.links.0.0 in absurd (omega (arith, low, same))
      by (list.Evidence (Fork one other)) refused = absurd (refused.1.above n.head n.at_head n.links.1)
      by (list.Evidence (Link one other)) refused = absurd ((refused.1.above n.head n.at_head n.links.1).0.1 n.links.0.1)
      by (list.Evidence (Skip one other)) refused = let low = (refused.1.above n.head n.at_head n.links.1).0 in let same = n.links.0.0 in absurd (omega (arith, low, same))
      by list.Memory refused = refl

  pub updated : (holder later : Client) (next : List SignedRoot) (result : Result (Unit {0}) Refusal) → IsFollowed provider key after holder.chain
      → AreConsecutive (roots provider after) (holder.chain.roots ++ next) → length next ≤ 64
      → Updates provider.hash verified holder (root_list_bytes next) result later → UpdatesRight holder next result later
  updated holder later next result f are few updates = by result updates
    where
      of-book : (root : SignedRoot) → Contains next root → Contains (roots provider after) root
      of-book root there = consecutive-there (roots provider after) (holder.chain.roots ++ next) are root (Contains-append_right holder.chain.roots next root there)

      spelled : SpellsRoots (root_list_bytes next) next
      spelled = (refl, (few, all-in IsSignedRoot next (λ root there. All-contains IsSignedRoot (roots provider after) root h.forms (of-book root there))))

      by : (result : Result (Unit {0}) Refusal) → Updates provider.hash verified holder (root_list_bytes next) result later → UpdatesRight holder next result later
      by (Ok done) (given, chain, spells, takes, grown) =
          let same : given ≡ next = one-list (root_list_bytes next) given next spells spelled in
          grown ∙ ap (λ (c : KeyedRoots). record holder { chain = c }) (takes-all next holder.chain chain f are (subst (λ (rs : List SignedRoot). Takes provider.hash verified holder.chain rs chain) same takes))
      by (Err why) (stays, inl (none, is)) = absurd (none next spelled)
      by (Err why) (stays, inr (given, reason, spells, (middle, (front, root, rest, parted, takes, refused)), is)) =
          let same : next ≡ front ++ root ∷ rest = sym (one-list (root_list_bytes next) given next spells spelled) ∙ parted in
          let all : AreConsecutive (roots provider after) (holder.chain.roots ++ (front ++ root ∷ rest)) = subst (λ (rs : List SignedRoot). AreConsecutive (roots provider after) (holder.chain.roots ++ rs)) same are in
          let parts : AreConsecutive (roots provider after) ((holder.chain.roots ++ front) ++ root ∷ rest) = subst (AreConsecutive (roots provider after)) (sym (append_assoc holder.chain.roots front (root ∷ rest))) all in
          let own = front-consecutive (roots provider after) (holder.chain.roots ++ front) (root ∷ rest) parts in
          let grown : middle ≡ with_roots holder.chain front = takes-all front holder.chain middle f own takes in
          let memory : reason ≡ list.Memory = none-refused (with_roots holder.chain front)
          (record { keyed = f.keyed; some = some-more holder.chain.roots front f.some; are = own }) root rest parts reason
          (subst (λ (c : KeyedRoots). IsRefusedRoot provider.hash verified c root reason) grown refused) in
          subst (λ (w : Refusal). UpdatesRight holder next (Err w) later) (sym (is ∙ ap told_as memory)) tt
