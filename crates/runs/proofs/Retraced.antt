-- A client that is started with a root of a chain of its provider, and takes those after it, is refused none.
use Rattle.std.proofs.Common.{◌≡◌, ◌≢◌, ◌∙◌, ◌+◌, ◌-◌, ◌<◌, ◌≤◌, ℕ, zero, suc, List, [], ◌∷◌, ◌++◌, length, Contains, Some, Ok, Err, ap, arith, get_or, inl, inr, refl, subst, sym}
use Rattle.std.specs.Prelude.{slice_get}
use Rattle.std.specs.List.{AllByRecursion}
use Rattle.std.proofs.lemmas.Bool.{cases_lt}
use Rattle.std.proofs.lemmas.List.{get_or_push, length_push}
use Rattle.std.proofs.lemmas.List.Elements.{All-contains}
use Rattle.std.proofs.lemmas.Option.{slice_get-get_or, slice_get_read}
use Rattle.rootchain.specs.Bodies.{body_bytes}
use Rattle.rootchain.specs.Chains.{Ascend, IsChain, IsHead, KeyedRoots, Links, Names, Verifies}
use Rattle.rootchain.specs.Places.{IsNextAfter}
use Rattle.rootchain.specs.RootLists.{root_list_bytes, SpellsRoots}
use Rattle.rootchain.specs.SignedRoots.{signed_root_bytes, IsSignedRoot}
use Rattle.rootchain.specs.TakingLists.{IsRefusedRoot, PassesOrAdds, Takes}
use Rattle.rootchain.specs.declared.body.Body.{Body}
use Rattle.rootchain.specs.declared.evidence.RootEvidence.TheVariants.{Fork, Link, Skip}
use Rattle.rootchain.specs.declared.list_refusal.ListRefusal.{ListRefusal}
use Rattle.rootchain.specs.declared.list_refusal.ListRefusal.TheVariants as list
use Rattle.rootchain.specs.declared.signed_root.SignedRoot.{SignedRoot}
use Rattle.rootchain.proofs.Agreement.{unique}
use Rattle.rootchain.proofs.Chains.{ascend-linked}
use Rattle.rootchain.proofs.TakingLists.{takes-chain}
use Rattle.rootchain.proofs.Walks.{up-to}
use Rattle.client.specs.Clients.{started, Client}
use Rattle.client.specs.Starting.{Starts}
use Rattle.client.specs.Updating.{told_as, Updates}
use Rattle.client.specs.declared.client_refusal.Refusal.{Refusal}
use Rattle.client.specs.declared.client_refusal.Refusal.TheVariants.{Root, Proof, UnknownRoot, RootDiffers, Memory, NoPromise}
use Rattle.client.specs.declared.client_refusal.RootRefusal.TheVariants.{Malformed, BadSignature, NotLater, BadLink}
use Rattle.client.proofs.Unlikes.{at-place, is-among}
use Rattle.play.proofs.Following.{one-list}
use Rattle.asking.specs.Joining.{Retraces, StartsFrom}
use Rattle.runs.proofs.OwnedMonitors.{one-spelled}
use Rattle.runs.proofs.OwnedRoots.{all-has, one-chain, taken-formed}
use Rattle.runs.proofs.Ran.{taken-key}

-- ---- lists

push-last : {A : Type 0} (xs : List A) (x : A) → slice_get (xs ++ x ∷ []) (length (xs ++ x ∷ []) - 1) ≡ Some x
push-last xs x =
    let long = length_push xs x in
    slice_get_read (xs ++ x ∷ []) (length (xs ++ x ∷ [])) (length (xs ++ x ∷ []) - 1) x refl (omega (arith, long)) (sym (get_or_push xs x x (length (xs ++ x ∷ []) - 1) (omega (arith, long))))

not-empty : {A : Type 0} (front : List A) (x : A) (rest : List A) → front ++ x ∷ rest ≡ [] → ⊥
not-empty [] x rest e = cc
not-empty (y ∷ front) x rest e = cc

same-head : {A : Type 0} (x y : A) (xs ys : List A) → x ∷ xs ≡ y ∷ ys → x ≡ y
same-head x y xs ys e = cc

same-tail : {A : Type 0} (x y : A) (xs ys : List A) → x ∷ xs ≡ y ∷ ys → xs ≡ ys
same-tail x y xs ys e = cc

-- ---- links

-- a root links to another by its body alone
links-as : (hash : List ℕ → List ℕ) (one other root : SignedRoot) → one.body ≡ other.body → Links hash one root → Links hash other root
unfolding Names
links-as hash one other root same ((epoch, hashed), less) = (
  (epoch ∙ ap (λ (b : Body). b.epoch) same, hashed ∙ ap (λ (b : Body). hash (body_bytes b)) same),
  subst (λ (b : Body). b.epoch < root.body.epoch) same less,
)

named-epoch : (hash : List ℕ → List ℕ) (one root : SignedRoot) → Links hash one root → root.body.previous_epoch ≡ one.body.epoch
unfolding Names
named-epoch hash one root links = links.0.0

named-hash : (hash : List ℕ → List ℕ) (one root : SignedRoot) → Links hash one root → root.body.previous_hash ≡ hash (body_bytes one.body)
unfolding Names
named-hash hash one root links = links.0.1

module _ (hash : List ℕ → List ℕ) (verified : List ℕ → List ℕ → List ℕ → Type 0) where
  -- a chain under this key, each root of which has a spelling
  pub record IsOf (key : List ℕ) (chain : KeyedRoots) : Type 0 where
    pub keyed : chain.key ≡ key
    pub is : IsChain hash verified chain
    pub formed : AllByRecursion IsSignedRoot chain.roots

  -- it is one where it was started, and after it took a list
  pub of-started : (key bytes : List ℕ) (client : Client) → Starts verified key bytes (Ok client) → IsOf key client.chain
  of-started key bytes client (root, (spells, signed), same) = subst (λ (c : Client). IsOf key c.chain) (sym same) (record { keyed = refl; is = one-chain hash verified key root signed; formed = (spells.1, tt) })

  pub of-updated : (key bytes : List ℕ) (before after : Client) → Updates hash verified before bytes {A = Unit {0}} (Ok tt) after → IsOf key before.chain → IsOf key after.chain
  of-updated key bytes before after (roots, chain, spells, takes, same) of = subst (λ (c : Client). IsOf key c.chain) (sym same) (record {
    keyed = taken-key hash verified before.chain roots chain takes ∙ of.keyed;
    is = takes-chain hash verified roots before.chain chain of.is takes;
    formed = taken-formed hash verified before.chain chain roots takes of.formed spells.1.1;
  })

  module _ (chain : KeyedRoots) (is : IsChain hash verified chain) (formed : AllByRecursion IsSignedRoot chain.roots) where
    up : Ascend chain.roots
    up = ascend-linked hash chain.roots is.linked

    -- a root of the chain links to the next one
    next-links : (own root : SignedRoot) → Contains chain.roots own → IsNextAfter chain own.body.epoch root → Links hash own root
    next-links own root among (has, above, least) =
        let at-root = at-place chain.roots root has in
        let at-own = at-place chain.roots own among in
        let first : among.0 < has.0 = elim (cases_lt among.0 has.0) [
          | inl before ↦ before
          | inr behind ↦ absurd (omega (arith, above, up-to chain.roots up has.0 among.0 root own at-root at-own behind))
        ] in
        let place = has.0 - 1 in
        let next : place + 1 ≡ has.0 = omega (arith, first) in
        let prev = get_or chain.roots place root in
        let at-prev : slice_get chain.roots place ≡ Some prev = slice_get-get_or chain.roots place root (omega (arith, next, has.1)) in
        let same : get_or chain.roots (place + 1) root ≡ root = ap (λ (k : ℕ). get_or chain.roots k root) next ∙ has.2 in
        let links : Links hash prev root = subst (Links hash prev) same (is.linked place root (omega (arith, next, has.1))) in
        let low = up-to chain.roots up among.0 place own prev at-own at-prev (omega (arith, first, next)) in
        let there = is-among chain.roots place prev at-prev in
        elim (cases_lt own.body.epoch prev.body.epoch) [
          | inl late ↦ absurd (omega (arith, links.1, All-contains (λ (other : SignedRoot). own.body.epoch < other.body.epoch → root.body.epoch ≤ other.body.epoch) chain.roots prev least there late))
          | inr early ↦
              let one : prev ≡ own = unique chain up own.body.epoch prev own (there, omega (arith, low, early)) (among, refl) in
              subst (λ (r : SignedRoot). Links hash r root) one links
        ]

    -- the other chain is under the same key, and its head has the body of the root of this epoch
    record StandsAt (epoch : ℕ) (own : KeyedRoots) : Type 0 where
      pub keyed : own.key ≡ chain.key
      pub head : SignedRoot
      pub at-head : IsHead own head
      pub copy : SignedRoot
      pub there : Contains chain.roots copy
      pub same : copy.body ≡ head.body
      pub at : copy.body.epoch ≡ epoch

    module _ (epoch : ℕ) (own : KeyedRoots) (root : SignedRoot) (stands : StandsAt epoch own) (next : IsNextAfter chain epoch root) where
      links : Links hash stands.head root
      links = links-as hash stands.copy stands.head root stands.same (next-links stands.copy root stands.there (subst (λ (e : ℕ). IsNextAfter chain e root) (sym stands.at) next))

      -- so the next root is not refused
      refused-not : (why : ListRefusal) → IsRefusedRoot hash verified own root why → told_as why ≢ Memory → ⊥
      refused-not list.BadSignature not some = not (subst (λ (k : List ℕ). Verifies verified k root) (sym stands.keyed) (All-contains (Verifies verified chain.key) chain.roots root is.signed next.0))
      refused-not list.BeforeStart (signed, place) some = place.above stands.head stands.at-head links.1
      refused-not list.Ahead (signed, place) some = omega (arith, place.above stands.head stands.at-head links.1, named-epoch hash stands.head root links)
      refused-not (list.Evidence (Skip one other)) (signed, place) some = omega (arith, (place.above stands.head stands.at-head links.1).0, named-epoch hash stands.head root links)
      refused-not (list.Evidence (Link one other)) (signed, place) some = (place.above stands.head stands.at-head links.1).0.1 (named-hash hash stands.head root links)
      refused-not (list.Evidence (Fork one other)) (signed, place) some = place.above stands.head stands.at-head links.1
      refused-not list.Memory any some = some refl

      -- where it is taken, the other chain goes on with it
      passed-on : (after : KeyedRoots) → PassesOrAdds hash verified own root after → StandsAt root.body.epoch after
      passed-on after (signed, inl (known, same)) = absurd (known.above stands.head stands.at-head links.1)
      passed-on after (signed, inr (follows, same)) = subst (StandsAt root.body.epoch) (sym same) (record {
        keyed = stands.keyed;
        head = root;
        at-head = push-last own.roots root;
        copy = root;
        there = next.0;
        same = refl;
        at = refl;
      })

    one-listed : (root : SignedRoot) (roots : List SignedRoot) → Contains chain.roots root → SpellsRoots (root_list_bytes (root ∷ [])) roots → roots ≡ root ∷ []
    one-listed root roots has spells = one-list (root_list_bytes (root ∷ [])) roots (root ∷ []) spells (refl, (omega arith, (all-has IsSignedRoot chain.roots root formed has, tt)))

    updated-not : (epoch : ℕ) (before : Client) (root : SignedRoot) (why : Refusal) → StandsAt epoch before.chain → IsNextAfter chain epoch root
        → Updates hash verified before (root_list_bytes (root ∷ [])) {A = Unit {0}} (Err why) before → why ≢ Memory → ⊥
    updated-not epoch before root why stands next (same, inl (none, malformed)) some = none (root ∷ []) (refl, (omega arith, (all-has IsSignedRoot chain.roots root formed next.0, tt)))
    updated-not epoch before root why stands next (same, inr (roots, reason, spells, (after, (front, other, rest, parts, takes, refused)), told)) some =
        by front (sym (one-listed root roots next.0 spells) ∙ parts) takes
      where
        by : (front : List SignedRoot) → root ∷ [] ≡ front ++ other ∷ rest → Takes hash verified before.chain front after → ⊥
        by [] one none = refused-not epoch before.chain root stands next reason
            (subst (λ (c : KeyedRoots). IsRefusedRoot hash verified c root reason) none (subst (λ (r : SignedRoot). IsRefusedRoot hash verified after r reason) (sym (same-head root other [] rest one)) refused))
            (λ is-memory. some (told ∙ is-memory))
        by (first ∷ front) many takes = not-empty front other rest (sym (same-tail root first [] (front ++ other ∷ rest) many))

    updated-on : (epoch : ℕ) (before after : Client) (root : SignedRoot) → StandsAt epoch before.chain → IsNextAfter chain epoch root
        → Updates hash verified before (root_list_bytes (root ∷ [])) {A = Unit {0}} (Ok tt) after → StandsAt root.body.epoch after.chain
    updated-on epoch before after root stands next (roots, taken, spells, takes, same) =
        let (middle, passes, end) = subst (λ (rs : List SignedRoot). Takes hash verified before.chain rs taken) (one-listed root roots next.0 spells) takes in
        subst (λ (c : Client). StandsAt root.body.epoch c.chain) (sym same) (subst (StandsAt root.body.epoch) (sym end) (passed-on epoch before.chain root stands next middle passes))

    retraced-not : (count epoch : ℕ) (before : Client) (why : Refusal) → StandsAt epoch before.chain → Retraces hash verified chain count epoch before (Err why) → why ≢ Memory → ⊥
    retraced-not zero epoch before why stands (root, next, updates) some = updated-not epoch before root why stands next updates some
    retraced-not (suc count) epoch before why stands (next, middle, (root, is-next, at, updates), rest) some =
        retraced-not count next middle why (subst (λ (e : ℕ). StandsAt e middle.chain) (sym at) (updated-on epoch before middle root stands is-next updates)) rest some

    started-not : (first : SignedRoot) (why : Refusal) → IsSignedRoot first → Contains chain.roots first → Starts verified chain.key (signed_root_bytes first) (Err why) → why ≢ Memory → ⊥
    started-not first (Root Malformed) form has not some = not first (refl, form)
    started-not first (Root BadSignature) form has (root, spells, not) some =
        not (subst (Verifies verified chain.key) (sym (one-spelled first root form spells)) (All-contains (Verifies verified chain.key) chain.roots first is.signed has))
    started-not first (Root NotLater) form has never some = absurd never
    started-not first (Root BadLink) form has never some = absurd never
    started-not first (Proof why) form has never some = absurd never
    started-not first UnknownRoot form has never some = absurd never
    started-not first (RootDiffers evidence) form has never some = absurd never
    started-not first NoPromise form has never some = absurd never
    started-not first Memory form has any some = some refl

    starts-at : (first root : SignedRoot) (client : Client) → Contains chain.roots first → root ≡ first → client ≡ started chain.key root → StandsAt first.body.epoch client.chain
    starts-at first root client has one same = subst (λ (c : Client). StandsAt first.body.epoch c.chain) (sym same) (record {
      keyed = refl;
      head = root;
      at-head = refl;
      copy = first;
      there = has;
      same = ap (λ (r : SignedRoot). r.body) (sym one);
      at = refl;
    })

    -- whatever is the reason, but for memory
    pub starts-not : (key : List ℕ) (first : SignedRoot) (why : Refusal) → chain.key ≡ key → Contains chain.roots first → StartsFrom hash verified chain key first (Err why) → why ≢ Memory → ⊥
    starts-not key first why keyed has starts some = by (subst (λ (k : List ℕ). StartsFrom hash verified chain k first (Err why)) (sym keyed) starts)
      where
        form : IsSignedRoot first
        form = all-has IsSignedRoot chain.roots first formed has

        by : StartsFrom hash verified chain chain.key first (Err why) → ⊥
        by (inl none) = started-not first why form has none some
        by (inr (start, (root, (spells, signed), is-started), (count, retraces))) =
            retraced-not count first.body.epoch start why (starts-at first root start has (one-spelled first root form spells) is-started) retraces some
