-- What an honest provider's users see of a run: one chain of roots, replies that are accepted and state
-- what the pages have, promises that are kept, and nothing that is evidence (CONIKS, sections 3 and 4).
use Rattle.std.specs.Prelude.{◌≡◌, ◌↔◌, ◌⊎◌, ◌==◌, ℕ, ◌<◌, if◌then◌else◌, List, [], ◌∷◌, ◌++◌, length, Option, Some, None, All, Contains, option_map, ⊤}
use Rattle.encoding.specs.declared.bound_key.BoundKey.{BoundKey}
use Rattle.rootchain.specs.Bodies.{body_bytes}
use Rattle.rootchain.specs.Chains.{IsChain, IsHead, Links, Verifies}
use Rattle.rootchain.specs.Promises.{promise_bytes, IsSignedPromise}
use Rattle.rootchain.specs.SignedRoots.{IsSignedRoot}
use Rattle.rootchain.specs.declared.signed_promise.SignedPromise.{SignedPromise}
use Rattle.rootchain.specs.declared.signed_root.SignedRoot.{SignedRoot}
use Rattle.proofs.specs.Accepts.{Accepts, HasIndex}
use Rattle.proofs.specs.Refusals.{IsFirstToFail, Passes}
use Rattle.proofs.specs.Replies.{Reply as ReplyRead, SpellsReply}
use Rattle.proofs.specs.declared.reply_refusal.Refusal.TheVariants.{SameIndex}
use Rattle.book.specs.declared.reply.Reply.{Reply}
use Rattle.book.specs.declared.reply.Reply.TheVariants as reply
use Rattle.commands.specs.Operations.{bound_key, Operation, Query, Edit, Put, Promise, Lookup}
use Rattle.book.specs.Books.{Binding, Book, Page}
use Rattle.rootchain.specs.Evidence.{AreEvidence}
use Rattle.proofs.specs.BrokenFinals.{IsBrokenFinal}
use Rattle.proofs.specs.BrokenPromises.{IsBrokenPromise}
use Rattle.proofs.specs.declared.broken_final.BrokenFinal.{BrokenFinal}
use Rattle.encoding.specs.Maps.{at}
use Rattle.book.specs.Steps.{page_begun}
use Rattle.book.specs.Shows.{Provider, index_of, roots, IsRootOf}
use Rattle.book.specs.Sound.{HoldsName}
use Rattle.proofs.specs.Watches.{Watch, expected}

-- this reply came to this command
abbrev pub IsSaid : List Operation → List Reply → Operation → Reply → Type 0
IsSaid [] replies command answered = ⊥
IsSaid (asked ∷ more) [] command answered = ⊥
IsSaid (asked ∷ more) (said ∷ replies) command answered = ((asked ≡ command) × (said ≡ answered)) ⊎ IsSaid more replies command answered

-- the epoch of the last page after a command that was answered so, by that of the last page before it: a
-- closing that is answered with a root makes a page
abbrev pub latest_after : ℕ → Operation → Reply → ℕ
latest_after latest (Query question) said = latest
latest_after latest (Edit revision) said = after (page_begun revision) said
  where
    after : Option ℕ → Reply → ℕ
    after None said = latest
    after (Some epoch) (reply.Last root) = epoch
    after (Some epoch) other = latest

-- this reply came to this command while the last page was of the epoch `latest`; before all the commands it
-- is of the epoch `now`
abbrev pub IsSaidAt : ℕ → List Operation → List Reply → ℕ → Operation → Reply → Type 0
IsSaidAt now [] replies latest command answered = ⊥
IsSaidAt now (asked ∷ more) [] latest command answered = ⊥
IsSaidAt now (asked ∷ more) (said ∷ replies) latest command answered =
    ((now ≡ latest) × (asked ≡ command) × (said ≡ answered)) ⊎ IsSaidAt (latest_after now asked said) more replies latest command answered

-- the key that a page has at a name, with its policy if it has one; if any
abbrev pub key_at : Page → List ℕ → Option BoundKey
key_at page name = option_map (λ (binding : Binding). binding.key) (at page.bindings name)

-- the reply tells this signed root
abbrev pub TellsRoot : Reply → SignedRoot → Type 0
TellsRoot (reply.Promised signed) root = ⊥
TellsRoot (reply.Found text) root = ⊥
TellsRoot (reply.Told told) root = Contains told.items root
TellsRoot (reply.Last last) root = last ≡ root
TellsRoot (reply.Refused why) root = ⊥

-- the page is the one that is asked for by this epoch, where 0 asks for the last
abbrev pub IsAskedBy : ℕ → ℕ → Page → Type 0
IsAskedBy latest epoch page = page.epoch ≡ (if epoch == 0 then latest else epoch)

-- these roots stand in the list one behind another, and none between them is left out
abbrev pub AreConsecutive : List SignedRoot → List SignedRoot → Type 0
AreConsecutive all some = (front : List SignedRoot) × (back : List SignedRoot) × (all ≡ front ++ (some ++ back))

-- if the reply is a list of roots, it is of consecutive ones of these
abbrev pub ListsInOrder : List SignedRoot → Reply → Type 0
ListsInOrder all (reply.Promised signed) = ⊤
ListsInOrder all (reply.Found text) = ⊤
ListsInOrder all (reply.Told told) = AreConsecutive all told.items
ListsInOrder all (reply.Last root) = ⊤
ListsInOrder all (reply.Refused why) = ⊤

-- the command is about this name
abbrev pub IsAbout : Operation → List ℕ → Type 0
IsAbout (Query (Promise name)) other = name ≡ other
IsAbout (Query (Lookup name epoch)) other = name ≡ other
IsAbout (Edit (Put verb name key)) other = name ≡ other
IsAbout command other = ⊥

-- a promise that answers the command is for this name and key: the command's name, and its key where it
-- brings one
abbrev pub IsPromisedBy : Operation → List ℕ → BoundKey → Type 0
IsPromisedBy (Query (Promise name)) for bound = for ≡ name
IsPromisedBy (Edit (Put verb name key)) for bound = (for ≡ name) × (bound ≡ bound_key key)
IsPromisedBy command for bound = ⊥

-- the book holds the name, or a command is about it
abbrev pub IsMentioned : Book → List Operation → List ℕ → Type 0
IsMentioned book commands name = HoldsName book name ⊎ ((command : Operation) × Contains commands command × IsAbout command name)

module _ (provider : Provider) where
  -- two names that are held or asked about, and have one index, are one name
  abbrev pub UsersDiffer : Book → List Operation → Type 0
  UsersDiffer book commands = (name other : List ℕ) → IsMentioned book commands name → IsMentioned book commands other
      → index_of provider name ≡ index_of provider other → name ≡ other

  module _ (accepted verified : List ℕ → List ℕ → List ℕ → Type 0) (key : List ℕ) (after : Book) where
    -- under the root of the page that was asked for, the text is accepted with what the page has at the
    -- name, and with nothing else; it has the name's index, and states what is expected exactly where
    -- the page has it
    pub record IsAnswer (latest : ℕ) (name : List ℕ) (epoch : ℕ) (text : List ℕ) : Type 0 where
      pub page : Page
      pub root : SignedRoot
      pub is : IsRootOf provider after page root
      pub asked : IsAskedBy latest epoch page
      pub states : (statement : Option BoundKey) → Accepts provider.hash accepted root.body name text statement ↔ (statement ≡ key_at page name)
      pub index : HasIndex provider.hash text (index_of provider name)
      pub watched : (watch : Watch) → Accepts provider.hash accepted root.body name text (expected watch page.epoch) ↔ (key_at page name ≡ expected watch page.epoch)

    -- the page that was asked for lacks the name, and another of its names has the name's index: under its
    -- root the text is refused, since it shows the absence by a leaf of the very index
    pub record IsDouble (latest : ℕ) (name : List ℕ) (epoch : ℕ) (text : List ℕ) : Type 0 where
      pub page : Page
      pub root : SignedRoot
      pub is : IsRootOf provider after page root
      pub asked : IsAskedBy latest epoch page
      pub absent : at page.bindings name ≡ None
      pub other : List ℕ × Binding
      pub held : Contains page.bindings other
      pub same_index : index_of provider other.0 ≡ index_of provider name
      pub reply : ReplyRead
      pub spelled : SpellsReply text reply
      pub refused : IsFirstToFail (Passes provider.hash accepted root.body name reply) SameIndex

    -- the promise is what the command asks for, signed over the root of a page, and the next page has its key
    pub record IsKept (command : Operation) (promised : SignedPromise) : Type 0 where
      pub asked : IsPromisedBy command promised.promise.name promised.promise.key
      pub form : IsSignedPromise promised
      pub signed : verified key (promise_bytes promised.promise) promised.signature
      pub page : Page
      pub root : SignedRoot
      pub is : IsRootOf provider after page root
      pub epoch : promised.promise.epoch ≡ root.body.epoch
      pub body_hash : promised.promise.body_hash ≡ provider.hash (body_bytes root.body)
      pub index : promised.promise.index ≡ index_of provider promised.promise.name
      pub next : (next_page : Page) (next_root : SignedRoot) → IsRootOf provider after next_page next_root → next_root.body.previous_epoch ≡ promised.promise.epoch
          → key_at next_page promised.promise.name ≡ Some promised.promise.key

  module _ (accepted verified : List ℕ → List ℕ → List ℕ → Type 0) (key : List ℕ) where
    -- what the users see of the commands and replies of a run from one book to another
    pub record IsHonestRun (before after : Book) (commands : List Operation) (replies : List Reply) : Type 0 where
      -- the signed roots of all pages are a chain
      pub chain : IsChain provider.hash verified (record { key = key; roots = roots provider after })
      -- each has a spelling
      pub forms : All IsSignedRoot (roots provider after)
      -- each root that is told is one of it
      pub told : (command : Operation) (said : Reply) (root : SignedRoot) → IsSaid commands replies command said → TellsRoot said root → Contains (roots provider after) root
      -- the roots of a list that is told are consecutive
      pub listed : (command : Operation) (said : Reply) → IsSaid commands replies command said → ListsInOrder (roots provider after) said
      -- who took some that are consecutive, from whichever on, has a chain, and takes the next one, if there is
      -- one, behind the last that was taken
      pub followed : (front taken back : List SignedRoot) → roots provider after ≡ front ++ (taken ++ back) → 0 < length taken
          → IsChain provider.hash verified (record { key = key; roots = taken })
          × ((root : SignedRoot) (more : List SignedRoot) → back ≡ root ∷ more
          → (head : SignedRoot) × IsHead (record { key = key; roots = taken }) head × Verifies verified key root × Links provider.hash head root)
      -- no two of its roots are evidence
      pub linear : (one other : SignedRoot) → Contains (roots provider after) one → Contains (roots provider after) other → ¬ AreEvidence provider.hash verified key one other
      -- each reply to a look-up is accepted, with what the page has, or it is of a double index
      pub found : (latest : ℕ) (name : List ℕ) (epoch : ℕ) (text : List ℕ) → IsSaidAt before.last.epoch commands replies latest (Query (Lookup name epoch)) (reply.Found text)
          → IsAnswer accepted verified key after latest name epoch text ⊎ IsDouble accepted verified key after latest name epoch text
      -- where the users' indices differ, each is accepted
      pub apart : UsersDiffer before commands → (latest : ℕ) (name : List ℕ) (epoch : ℕ) (text : List ℕ) → IsSaidAt before.last.epoch commands replies latest (Query (Lookup name epoch)) (reply.Found text)
          → IsAnswer accepted verified key after latest name epoch text
      -- each promise is kept
      pub kept : (command : Operation) (promised : SignedPromise) → IsSaid commands replies command (reply.Promised promised) → IsKept accepted verified key after command promised
      -- what is found for its name under the next root states its key, at its index
      pub due : (command : Operation) (promised : SignedPromise) (epoch : ℕ) (text : List ℕ) (root : SignedRoot) (statement : Option BoundKey)
          → IsSaid commands replies command (reply.Promised promised) → IsSaid commands replies (Query (Lookup promised.promise.name epoch)) (reply.Found text)
          → root.body.previous_epoch ≡ promised.promise.epoch → Accepts provider.hash accepted root.body promised.promise.name text statement
          → (statement ≡ Some promised.promise.key) × HasIndex provider.hash text promised.promise.index
      -- and no promise is shown broken, by whatever reply and root
      pub unbroken : (command : Operation) (promised : SignedPromise) (name : List ℕ) (epoch : ℕ) (text : List ℕ) (root : SignedRoot)
          → IsSaid commands replies command (reply.Promised promised) → IsSaid commands replies (Query (Lookup name epoch)) (reply.Found text)
          → ¬ IsBrokenPromise provider.hash accepted verified key promised root text
      -- and no final binding is shown changed, by whatever replies and roots
      pub unchanged : (name later_name : List ℕ) (epoch later_epoch : ℕ) (broken : BrokenFinal)
          → IsSaid commands replies (Query (Lookup name epoch)) (reply.Found broken.proof) → IsSaid commands replies (Query (Lookup later_name later_epoch)) (reply.Found broken.later_proof)
          → ¬ IsBrokenFinal provider.hash accepted verified key broken
