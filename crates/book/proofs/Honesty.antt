-- A run from a sound book is honest.
use Rattle.std.proofs.Common.{◌≡◌, ℕ, suc, ◌+◌, ◌-◌, ◌<◌, List, [], ◌∷◌, ◌++◌, length, length-append, get_or, map, replicate, Option, Some, None, All, Contains, refl, sym, ap, subst, ◌∙◌, arith, inl, inr, ◌⊎◌}
use Rattle.std.specs.Prelude.{Bool, true, false, option_map}
use Rattle.std.specs.Str.{bytes_eq}
use Rattle.std.specs.List.{AllByRecursion}
use Rattle.std.proofs.lemmas.List.Elements.{All-contains, All-contains_itself, All-from_recursion, All-weaker, recursion_from_All}
use Rattle.std.proofs.lemmas.List.{get_or-append_right, get_or_append_left}
use Rattle.std.proofs.lemmas.Option.{slice_get-get_or}
use Rattle.std.proofs.lemmas.Slice.Eq.{bytes_eq-Decides}
use Rattle.encoding.specs.declared.bound_key.BoundKey.{BoundKey}
use Rattle.encoding.specs.Bytes.{Is32Bytes}
use Rattle.encoding.proofs.ByteLists.{IsBytes-zeros}
use Rattle.rootchain.specs.Chains.{IsChain, IsHead, Links, Verifies}
use Rattle.rootchain.specs.Bodies.{body_bytes}
use Rattle.rootchain.specs.Promises.{promise_bytes}
use Rattle.rootchain.specs.SignedRoots.{IsSignedRoot}
use Rattle.rootchain.specs.declared.body.Body.{Body}
use Rattle.rootchain.specs.declared.signed_promise.SignedPromise.{SignedPromise}
use Rattle.rootchain.specs.declared.signed_root.SignedRoot.{SignedRoot}
use Rattle.proofs.specs.Accepts.{Accepts, HasIndex}
use Rattle.proofs.specs.Replies.{Reply as Spelled}
use Rattle.proofs.specs.declared.reply_refusal.Refusal.TheVariants.{SameIndex}
use Rattle.proofs.proofs.Passing.{accepts-passed, one_reply}
use Rattle.book.specs.declared.record.Record.{Record}
use Rattle.book.specs.declared.reply.Reply.{Reply}
use Rattle.book.specs.declared.reply.Reply.TheVariants as reply
use Rattle.commands.specs.Operations.{Operation, IsCommand, Query, Lookup}
use Rattle.book.specs.Books.{Binding, Book, Page, pages}
use Rattle.proofs.specs.BrokenFinals.{states_final, IsBrokenFinal}
use Rattle.proofs.specs.BrokenPromises.{IsBrokenPromise}
use Rattle.proofs.specs.declared.broken_final.BrokenFinal.{BrokenFinal}
use Rattle.book.specs.Honest.{key_at, IsAbout, IsAnswer, IsDouble, IsHonestRun, IsKept, IsSaid, IsSaidAt, ListsInOrder, TellsRoot, UsersDiffer}
use Rattle.encoding.specs.Maps.{Map, at}
use Rattle.book.specs.ProviderLaws.{KeepsLaws}
use Rattle.book.specs.Shows.{Provider, SignedPage, index_of, promise, roots, sealed_behind, sealed_pages, IsRootOf}
use Rattle.book.specs.Turns.{Run}
use Rattle.proofs.specs.Watches.{expected}
use Rattle.book.specs.Sound.{HasFinalsOf, IsSound as IsSoundBook}
use Rattle.book.specs.Steps.{is_final_binding}
use Rattle.book.proofs.Begun.{begins-apart, begins-named, climbs, has-salts}
use Rattle.book.proofs.Carried.{carried}
use Rattle.book.proofs.Distinct.{AreApart, HasName, IsApart, apart-after, entry-named, named-or-not}
use Rattle.book.proofs.Doubled.{doubled}
use Rattle.book.proofs.Entries.{found-entry}
use Rattle.book.proofs.Finals.{final-key, final-there, later-stays}
use Rattle.book.proofs.Found.{AreSalted, IsRight, found-right}
use Rattle.book.proofs.Members.{first-there, later-there, mapped-there}
use Rattle.book.proofs.Placed.{Alone}
use Rattle.book.proofs.Running.{at-said, ran, root-epoch, said-at, Seen, SeenFound, SeenPromise}
use Rattle.book.proofs.Sealing.{Climb, IsSealed, all-sealed, no-clash, sealed-chain, sealed-page}
use Rattle.book.proofs.Stretches.{consecutive-there}
use Rattle.book.proofs.Turning.{IsSound}
use Rattle.book.proofs.Users.{said-asked, users-apart}

some-key : (found : Option Binding) (key : BoundKey) → option_map (λ (binding : Binding). binding.key) found ≡ Some key → (binding : Binding) × (found ≡ Some binding)
some-key None key e = absurd cc
some-key (Some binding) key e = (binding, refl)

-- each salt of the pages has 32 bytes
abbrev AreSaltedAll : Book → Type 0
AreSaltedAll book = All (λ (page : Page). All (λ (entry : List ℕ × Binding). Is32Bytes entry.1.salt) page.bindings) (pages book)

-- ---- a part of a chain

module _ (hash : List ℕ → List ℕ) (verified : List ℕ → List ℕ → List ℕ → Type 0) (key : List ℕ) where
  abbrev IsRoots : List SignedRoot → Type 0
  IsRoots all = IsChain hash verified (record { key = key; roots = all })

  without-first : (first : SignedRoot) (more : List SignedRoot) → 0 < length more → IsRoots (first ∷ more) → IsRoots more
  without-first first more some chain = record {
    first = some;
    signed = λ k d p. chain.signed (suc k) d (omega (arith, p));
    linked = λ k d p.
        let e : suc k + 1 ≡ suc (k + 1) = omega arith in
        subst (λ (m : ℕ). Links hash (get_or more k d) (get_or (first ∷ more) m d)) e (chain.linked (suc k) d (omega (arith, p)));
  }

  back-chain : (front back : List SignedRoot) → 0 < length back → IsRoots (front ++ back) → IsRoots back
  back-chain [] back some chain = chain
  back-chain (first ∷ front) back some chain = back-chain front back some (without-first first (front ++ back) (omega (arith, some, length-append front back)) chain)

module _ (hash : List ℕ → List ℕ) (verified : List ℕ → List ℕ → List ℕ → Type 0) (key : List ℕ) (front : List SignedRoot) (more : 0 < length front) where
  pub front-chain : (back : List SignedRoot) → IsChain hash verified (record { key = key; roots = front ++ back }) → IsChain hash verified (record { key = key; roots = front })
  front-chain back chain = record {
    first = more;
    signed = λ k d p. subst (Verifies verified key) (get_or_append_left front back d k p) (chain.signed k d (omega (arith, p, length-append front back)));
    linked = λ k d p.
        subst (λ (x : SignedRoot). Links hash x (get_or front (k + 1) d)) (get_or_append_left front back d k (omega (arith, p)))
        (subst (Links hash (get_or (front ++ back) k d)) (get_or_append_left front back d (k + 1) p)
        (chain.linked k d (omega (arith, p, length-append front back))));
  }

  pub next-root : (root : SignedRoot) (back : List SignedRoot) → IsChain hash verified (record { key = key; roots = front ++ root ∷ back })
      → (head : SignedRoot) × IsHead (record { key = key; roots = front }) head × Verifies verified key root × Links hash head root
  next-root root back chain = (
    get_or front (length front - 1) root,
    slice_get-get_or front (length front - 1) root (omega arith),
    subst (Verifies verified key) here (chain.signed (length front) root (omega (arith, length-append front (root ∷ back)))),
    subst (λ (x : SignedRoot). Links hash x root) (get_or_append_left front (root ∷ back) root (length front - 1) (omega arith))
        (subst (Links hash (get_or (front ++ root ∷ back) (length front - 1) root)) (ap (λ (i : ℕ). get_or (front ++ root ∷ back) i root) last ∙ here)
        (chain.linked (length front - 1) root (omega (arith, length-append front (root ∷ back))))),
  )
    where
      last : length front - 1 + 1 ≡ length front
      last = omega arith

      none : length front - length front ≡ 0
      none = omega arith

      here : get_or (front ++ root ∷ back) (length front) root ≡ root
      here = get_or-append_right front (root ∷ back) (length front) (length front) root refl (omega arith) ∙ ap (λ (i : ℕ). get_or (root ∷ back) i root) none

module _ (provider : Provider) where
  -- two names of a page of the book
  page-apart : (after : Book) → IsApart provider after → (page : Page) (root : SignedRoot) → IsRootOf provider after page root → AreApart provider (HasName page.bindings)
  page-apart after apart page root is =
      All-contains (λ (each : Page). AreApart provider (HasName each.bindings)) (pages after) page
      (All-from_recursion (λ (each : Page). AreApart provider (HasName each.bindings)) (pages after) apart.pages)
      (sealed-page provider 0 (replicate 32 0) (pages after) (record { page = page; root = root }) is)

  alone-of : (name : List ℕ) (bindings : Map Binding) → ((entry : List ℕ × Binding) → Contains bindings entry → index_of provider entry.0 ≡ index_of provider name → entry.0 ≡ name) → Alone provider name bindings
  alone-of name bindings alone = recursion_from_All _ bindings
      (All-weaker (Contains bindings) (λ entry. index_of provider entry.0 ≡ index_of provider name → entry.0 ≡ name) alone bindings (All-contains_itself bindings))

  -- ---- whether another name of a page has the index of one

  abbrev HasDouble : Map Binding → List ℕ → Type 0
  HasDouble bindings name = (entry : List ℕ × Binding) × Contains bindings entry × (index_of provider entry.0 ≡ index_of provider name)

  alone-or-double : (bindings : Map Binding) (name : List ℕ) → Alone provider name bindings ⊎ HasDouble bindings name
  alone-or-double [] name = inl tt
  alone-or-double (entry ∷ more) name = by (bytes_eq (index_of provider entry.0) (index_of provider name)) refl (alone-or-double more name)
    where
      by : (test : Bool) → bytes_eq (index_of provider entry.0) (index_of provider name) ≡ test → Alone provider name more ⊎ HasDouble more name → Alone provider name (entry ∷ more) ⊎ HasDouble (entry ∷ more) name
      by true is rest = inr (entry, first-there entry more, (bytes_eq-Decides (index_of provider entry.0) (index_of provider name)).0 is)
      by false is (inl alone) = inl ((λ same. let e : true ≡ false = sym ((bytes_eq-Decides (index_of provider entry.0) (index_of provider name)).1 same) ∙ is in absurd cc), alone)
      by false is (inr double) = inr (double.0, later-there entry more double.0 double.1, double.2)

  -- a name that the page has is alone with its index
  alone-named : (name : List ℕ) (bindings : Map Binding) → AreApart provider (HasName bindings) → HasName bindings name → Alone provider name bindings
  alone-named name bindings apart has = alone-of name bindings (λ entry there same. apart entry.0 name (entry-named bindings entry there) has same)

  module _ (accepted verified : List ℕ → List ℕ → List ℕ → Type 0) (key : List ℕ) (laws : KeepsLaws accepted verified key provider) (after : Book) (sound : IsSound after) (salts : AreSaltedAll after) where
    zeros : Is32Bytes (replicate 32 0)
    zeros = (refl, IsBytes-zeros 32)

    are-sealed : AllByRecursion (IsSealed provider accepted verified key laws) (sealed_pages provider after)
    are-sealed = all-sealed provider accepted verified key laws 0 (replicate 32 0) (pages after) (omega arith) zeros (λ e. refl) sound.climb sound.pages

    is-sealed : (page : Page) (root : SignedRoot) → IsRootOf provider after page root → IsSealed provider accepted verified key laws (record { page = page; root = root })
    is-sealed page root is = All-contains (IsSealed provider accepted verified key laws) (sealed_pages provider after) _ (All-from_recursion (IsSealed provider accepted verified key laws) (sealed_pages provider after) are-sealed) is

    chain-of : (earlier : List Page) (last : Page) → Climb 0 (earlier ++ last ∷ []) → AllByRecursion (IsSealed provider accepted verified key laws) (sealed_behind provider 0 (replicate 32 0) (earlier ++ last ∷ []))
        → IsChain provider.hash verified (record { key = key; roots = map (λ (each : SignedPage). each.root) (sealed_behind provider 0 (replicate 32 0) (earlier ++ last ∷ [])) })
    chain-of [] last climb are = sealed-chain provider accepted verified key laws 0 (replicate 32 0) last [] climb are
    chain-of (first ∷ earlier) last climb are = sealed-chain provider accepted verified key laws 0 (replicate 32 0) first (earlier ++ last ∷ []) climb are

    in-chain : (page : Page) (root : SignedRoot) → IsRootOf provider after page root → Contains (roots provider after) root
    in-chain page root is = mapped-there (λ (each : SignedPage). each.root) (sealed_pages provider after) (record { page = page; root = root }) is

    told : (latest : ℕ) (command : Operation) (said : Reply) (root : SignedRoot) → Seen provider latest after command said → TellsRoot said root → Contains (roots provider after) root
    told latest command (reply.Promised promised) root s tells = absurd tells
    told latest command (reply.Found text) root s tells = absurd tells
    told latest command (reply.Told told_roots) root s tells = consecutive-there (roots provider after) told_roots.items s root tells
    told latest command (reply.Last last) root s tells = subst (Contains (roots provider after)) tells (in-chain s.0 last s.1)
    told latest command (reply.Refused why) root s tells = absurd tells

    listed : (latest : ℕ) (command : Operation) (said : Reply) → Seen provider latest after command said → ListsInOrder (roots provider after) said
    listed latest command (reply.Promised promised) s = tt
    listed latest command (reply.Found text) s = tt
    listed latest command (reply.Told told_roots) s = s
    listed latest command (reply.Last last) s = tt
    listed latest command (reply.Refused why) s = tt

    salted : (page : Page) (root : SignedRoot) → IsRootOf provider after page root → AreSalted page.bindings
    salted page root is = recursion_from_All (λ entry. Is32Bytes entry.1.salt) page.bindings
        (All-contains (λ (each : Page). All (λ (entry : List ℕ × Binding). Is32Bytes entry.1.salt) each.bindings) (pages after) page salts
        (sealed-page provider 0 (replicate 32 0) (pages after) (record { page = page; root = root }) is))

    signed-form : (all : List SignedPage) → AllByRecursion (IsSealed provider accepted verified key laws) all → AllByRecursion IsSignedRoot (map (λ (each : SignedPage). each.root) all)
    signed-form [] are = tt
    signed-form (each ∷ all) are = ((are.0.form, are.0.small), signed-form all are.1)

    right : (latest : ℕ) (name : List ℕ) (epoch : ℕ) (text : List ℕ) → (s : SeenFound provider latest after name epoch text) → Alone provider name s.page.bindings → IsRight provider accepted verified key laws name s.page s.root.body text
    right latest name epoch text s alone =
        let is = is-sealed s.page s.root s.is in
        found-right provider accepted verified key laws name s.page s.root.body text is.page is.form is.root is.nonce is.vuf_key s.named (salted s.page s.root s.is) alone s.answer

    answer : (latest : ℕ) (name : List ℕ) (epoch : ℕ) (text : List ℕ) → (s : SeenFound provider latest after name epoch text) → Alone provider name s.page.bindings → IsAnswer provider accepted verified key after latest name epoch text
    answer latest name epoch text s alone =
        let r = right latest name epoch text s alone in
        let forth : (statement : Option BoundKey) → Accepts provider.hash accepted s.root.body name text statement → statement ≡ key_at s.page name
        = λ statement accepts. sym (accepts-passed provider.hash accepted s.root.body name text r.reply r.spells statement accepts).0 ∙ r.states in
        let back : (statement : Option BoundKey) → statement ≡ key_at s.page name → Accepts provider.hash accepted s.root.body name text statement
        = λ statement same. subst (Accepts provider.hash accepted s.root.body name text) (sym same) r.accepts in
        record {
          page = s.page;
          root = s.root;
          is = s.is;
          asked = s.asked;
          states = λ statement. (forth statement, back statement);
          index = (r.reply, r.spells, ap provider.hash r.value);
          watched = λ watch. (λ accepts. sym (forth (expected watch s.page.epoch) accepts), λ same. back (expected watch s.page.epoch) (sym same));
        }

    kept : (command : Operation) (promised : SignedPromise) → SeenPromise provider after command promised → IsKept provider accepted verified key after command promised
    kept command promised s = subst (IsKept provider accepted verified key after command) (sym s.same) (record {
      asked = s.by;
      form = ((
        ((omega (arith, (is-sealed s.page s.root s.is).form.0.0), (is-sealed s.page s.root s.is).form.1.0), laws.digest_size (body_bytes s.root.body), laws.digest_size (provider.value s.name), s.named, s.keyed),
        laws.signature_size (promise_bytes (promise provider s.root.body s.name s.binding)),
      ));
      signed = laws.signature_verifies (promise_bytes (promise provider s.root.body s.name s.binding));
      page = s.page;
      root = s.root;
      is = s.is;
      epoch = refl;
      body_hash = refl;
      index = refl;
      next = s.holds.next;
    })

    -- a promise that is kept is not broken by a reply that is right
    unbroken : (command : Operation) (promised : SignedPromise) (latest : ℕ) (name : List ℕ) (epoch : ℕ) (text : List ℕ) (root : SignedRoot) → IsKept provider accepted verified key after command promised → (s : SeenFound provider latest after name epoch text)
        → Alone provider name s.page.bindings → IsBrokenPromise provider.hash accepted verified key promised root text → ⊥
    unbroken command promised latest name epoch text root k s alone b =
        let r = right latest name epoch text s alone in
        let own : b.contradicts.passes.0 ≡ r.reply = one_reply text b.contradicts.passes.0 r.reply b.contradicts.passes.1 r.spells in
        let body : root.body ≡ s.root.body = sym b.contradicts.passes.2.of_body ∙ ap (λ (x : Spelled). x.body) own ∙ r.of_body in
        let behind : s.root.body.previous_epoch ≡ promised.promise.epoch = ap (λ (x : Body). x.previous_epoch) (sym body) ∙ b.next in
        let has : key_at s.page promised.promise.name ≡ Some promised.promise.key = k.next s.page s.root s.is behind in
        let entry = some-key (at s.page.bindings promised.promise.name) promised.promise.key has in
        let e = found-entry (λ each. index_of provider each.0 ≡ index_of provider name → each.0 ≡ name) s.page.bindings promised.promise.name entry.0 entry.1 alone in
        let spelled : b.contradicts.index.0 ≡ r.reply = one_reply text b.contradicts.index.0 r.reply b.contradicts.index.1 r.spells in
        let index : index_of provider promised.promise.name ≡ index_of provider name =
        sym k.index ∙ sym b.contradicts.index.2 ∙ ap (λ (x : Spelled). provider.hash x.value) spelled ∙ ap provider.hash r.value in
        let same : promised.promise.name ≡ name = sym e.2 ∙ e.1 (ap (index_of provider) e.2 ∙ index) in
        b.contradicts.broken (sym (accepts-passed provider.hash accepted root.body promised.promise.name text r.reply r.spells b.contradicts.statement b.contradicts.passes).0
        ∙ r.states ∙ ap (key_at s.page) (sym same) ∙ has)

    -- each page has the final bindings of those of lesser epochs
    abbrev FinalsStay : Type 0
    FinalsStay = (page later : Page) → Contains (pages after) page → Contains (pages after) later → page.epoch < later.epoch → HasFinalsOf page later

    -- what is right of a reply that is accepted under some body, for some name, with some statement
    record IsOwn (name : List ℕ) (page : Page) (own body : Body) (statement : Option BoundKey) (index : List ℕ) : Type 0 where
      of_body : body ≡ own
      states : statement ≡ key_at page name
      indexed : index_of provider name ≡ index

    own-of : (name : List ℕ) (page : Page) (own : Body) (text : List ℕ) → IsRight provider accepted verified key laws name page own text
        → (body : Body) (other : List ℕ) (statement : Option BoundKey) (index : List ℕ) → Accepts provider.hash accepted body other text statement → HasIndex provider.hash text index → IsOwn name page own body statement index
    own-of name page own text r body other statement index accepts has = record {
      of_body = sym accepts.2.of_body ∙ ap (λ (x : Spelled). x.body) (one_reply text accepts.0 r.reply accepts.1 r.spells) ∙ r.of_body;
      states = sym (accepts-passed provider.hash accepted body other text r.reply r.spells statement accepts).0 ∙ r.states;
      indexed = sym (ap provider.hash r.value) ∙ sym (ap (λ (x : Spelled). provider.hash x.value) (one_reply text has.0 r.reply has.1 r.spells)) ∙ has.2;
    }

    -- a final binding is not changed by replies that are right
    unchanged : FinalsStay → (broken : BrokenFinal) (latest later_latest : ℕ) (name later_name : List ℕ) (epoch later_epoch : ℕ)
        → (s : SeenFound provider latest after name epoch broken.proof) → Alone provider name s.page.bindings
        → (t : SeenFound provider later_latest after later_name later_epoch broken.later_proof) → Alone provider later_name t.page.bindings
        → IsBrokenFinal provider.hash accepted verified key broken → ⊥
    unchanged finals broken latest later_latest name later_name epoch later_epoch s alone t also b =
        let c = b.changes in
        let one = own-of name s.page s.root.body broken.proof (right latest name epoch broken.proof s alone) broken.root.body broken.name c.statement c.index c.passes c.has_index in
        let other = own-of later_name t.page t.root.body broken.later_proof (right later_latest later_name later_epoch broken.later_proof t also) broken.later_root.body broken.name c.later_statement c.index c.later_passes c.later_has_index in
        let above : s.page.epoch < t.page.epoch = omega (
          arith,
          b.later,
          ap (λ (x : Body). x.epoch) one.of_body,
          ap (λ (x : Body). x.epoch) other.of_body,
          root-epoch provider 0 (replicate 32 0) (pages after) _ s.is,
          root-epoch provider 0 (replicate 32 0) (pages after) _ t.is,
        ) in
        let final : is_final_binding (at s.page.bindings name) ≡ true = final-key (at s.page.bindings name) (ap states_final (sym one.states) ∙ c.final) in
        let stays : at t.page.bindings name ≡ at s.page.bindings name
        = finals s.page t.page (sealed-page provider 0 (replicate 32 0) (pages after) _ s.is) (sealed-page provider 0 (replicate 32 0) (pages after) _ t.is) above name final in
        let there = final-there (at s.page.bindings name) final in
        let e = found-entry (λ each. index_of provider each.0 ≡ index_of provider later_name → each.0 ≡ later_name) t.page.bindings name there.0 (stays ∙ there.1) also in
        let same : name ≡ later_name = sym e.2 ∙ e.1 (ap (index_of provider) e.2 ∙ one.indexed ∙ sym other.indexed) in
        c.changed (other.states ∙ ap (key_at t.page) (sym same) ∙ ap (option_map (λ (binding : Binding). binding.key)) stays ∙ sym one.states)

    -- what is found for the name of a promise under the next root
    is-due : (command : Operation) (promised : SignedPromise) (latest epoch : ℕ) (text : List ℕ) (root : SignedRoot) (statement : Option BoundKey) → IsKept provider accepted verified key after command promised
        → (s : SeenFound provider latest after promised.promise.name epoch text) → Alone provider promised.promise.name s.page.bindings → root.body.previous_epoch ≡ promised.promise.epoch
        → Accepts provider.hash accepted root.body promised.promise.name text statement → (statement ≡ Some promised.promise.key) × HasIndex provider.hash text promised.promise.index
    is-due command promised latest epoch text root statement k s alone behind accepts =
        let r = right latest promised.promise.name epoch text s alone in
        let own : accepts.0 ≡ r.reply = one_reply text accepts.0 r.reply accepts.1 r.spells in
        let body : root.body ≡ s.root.body = sym accepts.2.of_body ∙ ap (λ (x : Spelled). x.body) own ∙ r.of_body in
        let has : key_at s.page promised.promise.name ≡ Some promised.promise.key = k.next s.page s.root s.is (ap (λ (x : Body). x.previous_epoch) (sym body) ∙ behind) in (
          sym (accepts-passed provider.hash accepted root.body promised.promise.name text r.reply r.spells statement accepts).0 ∙ r.states ∙ has,
          (r.reply, r.spells, ap provider.hash r.value ∙ sym k.index),
        )

    -- ---- a reply that is of a double index

    double : (latest : ℕ) (name : List ℕ) (epoch : ℕ) (text : List ℕ) → (s : SeenFound provider latest after name epoch text) → at s.page.bindings name ≡ None → HasDouble s.page.bindings name
        → IsDouble provider accepted verified key after latest name epoch text
    double latest name epoch text s none (entry, there, same) =
        let i = is-sealed s.page s.root s.is in
        let d = doubled provider accepted verified key laws name s.page s.root.body text entry i.page i.form i.vuf_key s.named s.answer there same none in
        record {
          page = s.page;
          root = s.root;
          is = s.is;
          asked = s.asked;
          absent = none;
          other = entry;
          held = there;
          same_index = same;
          reply = d.reply;
          spelled = d.spells;
          refused = d.refused;
        }

    -- it is accepted under no root, for no name
    never-accepted : (latest : ℕ) (name : List ℕ) (epoch : ℕ) (text : List ℕ) → IsDouble provider accepted verified key after latest name epoch text
        → (body : Body) (other : List ℕ) (statement : Option BoundKey) → Accepts provider.hash accepted body other text statement → ⊥
    never-accepted latest name epoch text d body other statement accepts =
        d.refused.fails ((accepts-passed provider.hash accepted body other text d.reply d.spelled statement accepts).1 SameIndex)

    pub honest-sound : (before : Book) (commands : List Operation) (replies : List Reply) → ((latest : ℕ) (asked : Operation) (said : Reply) → IsSaidAt before.last.epoch commands replies latest asked said → Seen provider latest after asked said)
        → IsApart provider after → FinalsStay
        → (UsersDiffer provider before commands → (asked : Operation) → Contains commands asked → (name : List ℕ) → IsAbout asked name → (page : Page) (root : SignedRoot) → IsRootOf provider after page root → Alone provider name page.bindings)
        → IsHonestRun provider accepted verified key before after commands replies
    honest-sound before commands replies shown apart finals users = record {
      chain = whole;
      forms = All-from_recursion IsSignedRoot (roots provider after) (signed-form (sealed_pages provider after) are-sealed);
      told = λ command said root is tells. let s = seen command said is in told s.0 command said root s.1 tells;
      listed = λ command said is. let s = seen command said is in listed s.0 command said s.1;
      followed = λ front taken back is some.
          let chain = back-chain provider.hash verified key front (taken ++ back) (omega (arith, some, length-append taken back)) (subst (IsRoots provider.hash verified key) is whole) in (
            front-chain provider.hash verified key taken some back chain,
            λ root more behind. next-root provider.hash verified key taken some root more (subst (λ (rest : List SignedRoot). IsRoots provider.hash verified key (taken ++ rest)) behind chain),
          );
      linear = λ one other is also evidence. no-clash provider 0 (replicate 32 0) (pages after) sound.climb one other is also evidence.2;
      found = λ latest name epoch text is. elim (either latest name epoch text (looked latest name epoch text is)) [
        | inl alone ↦ inl (answer latest name epoch text (looked latest name epoch text is) alone)
        | inr doubles ↦ inr doubles
      ];
      apart = λ differ latest name epoch text is.
          let s = looked latest name epoch text is in
          answer latest name epoch text s (users differ (Query (Lookup name epoch)) (said-asked commands replies (Query (Lookup name epoch)) (reply.Found text) (said-at before.last.epoch commands replies latest (Query (Lookup name epoch)) (reply.Found text) is)) name refl s.page s.root s.is);
      kept = λ command promised is. holds command promised is;
      due = λ command promised epoch text root statement is also behind accepts.
          let t = at-said before.last.epoch commands replies (Query (Lookup promised.promise.name epoch)) (reply.Found text) also in
          let s = looked t.0 promised.promise.name epoch text t.1 in
          elim (either t.0 promised.promise.name epoch text s) [
            | inl alone ↦ is-due command promised t.0 epoch text root statement (holds command promised is) s alone behind accepts
            | inr doubles ↦ absurd (never-accepted t.0 promised.promise.name epoch text doubles root.body promised.promise.name statement accepts)
          ];
      unbroken = λ command promised name epoch text root is also broken.
          let t = at-said before.last.epoch commands replies (Query (Lookup name epoch)) (reply.Found text) also in
          let s = looked t.0 name epoch text t.1 in
          elim (either t.0 name epoch text s) [
            | inl alone ↦ unbroken command promised t.0 name epoch text root (holds command promised is) s alone broken
            | inr doubles ↦ absurd (never-accepted t.0 name epoch text doubles root.body promised.promise.name broken.contradicts.statement broken.contradicts.passes)
          ];
      unchanged = λ name later_name epoch later_epoch broken is also shows.
          let t = at-said before.last.epoch commands replies (Query (Lookup name epoch)) (reply.Found broken.proof) is in
          let u = at-said before.last.epoch commands replies (Query (Lookup later_name later_epoch)) (reply.Found broken.later_proof) also in
          let s = looked t.0 name epoch broken.proof t.1 in
          let v = looked u.0 later_name later_epoch broken.later_proof u.1 in
          elim (either t.0 name epoch broken.proof s) [
            | inl alone ↦ elim (either u.0 later_name later_epoch broken.later_proof v) [
              | inl single ↦ unchanged finals broken t.0 u.0 name later_name epoch later_epoch s alone v single shows
              | inr doubles ↦ absurd (never-accepted u.0 later_name later_epoch broken.later_proof doubles broken.later_root.body broken.name shows.changes.later_statement shows.changes.later_passes)
            ]
            | inr doubles ↦ absurd (never-accepted t.0 name epoch broken.proof doubles broken.root.body broken.name shows.changes.statement shows.changes.passes)
          ];
    }
      where
        whole : IsRoots provider.hash verified key (roots provider after)
        whole = chain-of after.earlier after.last sound.climb are-sealed

        seen : (asked : Operation) (said : Reply) → IsSaid commands replies asked said → (latest : ℕ) × Seen provider latest after asked said
        seen asked said is = let t = at-said before.last.epoch commands replies asked said is in (t.0, shown t.0 asked said t.1)

        looked : (latest : ℕ) (name : List ℕ) (epoch : ℕ) (text : List ℕ) → IsSaidAt before.last.epoch commands replies latest (Query (Lookup name epoch)) (reply.Found text) → SeenFound provider latest after name epoch text
        looked latest name epoch text is = shown latest (Query (Lookup name epoch)) (reply.Found text) is name epoch refl

        holds : (command : Operation) (promised : SignedPromise) → IsSaid commands replies command (reply.Promised promised) → IsKept provider accepted verified key after command promised
        holds command promised is = kept command promised (seen command (reply.Promised promised) is).1

        either : (latest : ℕ) (name : List ℕ) (epoch : ℕ) (text : List ℕ) (s : SeenFound provider latest after name epoch text) → Alone provider name s.page.bindings ⊎ IsDouble provider accepted verified key after latest name epoch text
        either latest name epoch text s = elim (named-or-not s.page.bindings name) [
          | inl has ↦ inl (alone-named name s.page.bindings (page-apart after apart s.page s.root s.is) has)
          | inr none ↦ elim (alone-or-double s.page.bindings name) [
            | inl alone ↦ inl alone
            | inr has ↦ inr (double latest name epoch text s none has)
          ]
        ]

  pub honest : {K : Type 0} (accepted verified : List ℕ → List ℕ → List ℕ → Type 0) (key : List ℕ) → KeepsLaws accepted verified key provider → (kept failed : K → Record → K → Type 0)
      (book after : Book) (before later : K) (commands : List Operation) (replies : List Reply)
      → IsSoundBook (index_of provider) book → IsSoundBook (index_of provider) after → All IsCommand commands → Run provider kept failed book before commands replies after later
      → IsHonestRun provider accepted verified key book after commands replies
  honest accepted verified key laws kept failed book after before later commands replies sound sound_after are run =
      let r = ran provider kept failed commands replies book after before later (climbs (index_of provider) book sound) (recursion_from_All IsCommand commands are) run in
      let apart = carried provider kept failed (IsApart provider) commands replies book after before later
      (λ command there one next given holds none does. apart-after provider one next command given holds none does) (begins-apart provider book sound) run in
      honest-sound accepted verified key laws after r.goes.sound (has-salts (index_of provider) after sound_after) book commands replies r.shown apart
      (later-stays (pages after) sound_after.ascend sound_after.finals)
      (λ differ asked there name about page root rooted. alone-of name page.bindings
      (users-apart provider kept failed book after before later commands replies (begins-named provider book sound commands) run differ asked there name about page root rooted))
