-- What the client of a script says of the reply to a look-up.
use Rattle.std.proofs.Common.{◌≡◌, ◌⊎◌, ℕ, zero, suc, ◌-◌, ◌<◌, Bool, true, false, not, cond, List, [], ◌∷◌, ◌++◌, length, length-append, map, replicate, Option, Some, None, Result, Ok, Err, AllPairs, Contains, refl, sym, ap, subst, ◌∙◌, append_assoc, inl, inr, arith}
use Rattle.std.specs.Prelude.{⊤, OnOk, codes, decimal, ◌&&◌, ◌==◌, find, if◌then◌else◌, is_none, is_some, slice_get}
use Rattle.std.specs.Fmt.{digits}
use Rattle.std.specs.Str.{bytes_eq}
use Rattle.std.proofs.lemmas.Bool.{and_parts, ne_eqb}
use Rattle.std.proofs.lemmas.List.{append-nil, get_or_push}
use Rattle.std.proofs.lemmas.List.Elements.{All-contains, All-from_recursion}
use Rattle.std.proofs.lemmas.Option.{slice_get-get_or}
use Rattle.std.proofs.lemmas.Slice.Eq.{bytes_eq-Decides}
use Rattle.encoding.specs.Limits.{IsName}
use Rattle.encoding.proofs.ByteLists.{IsBytes-zeros}
use Rattle.rootchain.specs.Chains.{KeyedRoots}
use Rattle.rootchain.specs.declared.body.Body.{Body}
use Rattle.rootchain.specs.declared.signed_root.SignedRoot.{SignedRoot}
use Rattle.proofs.specs.Accepts.{stated}
use Rattle.proofs.specs.Comparisons.{IsAcceptedReply}
use Rattle.proofs.specs.Refusals.{reply_refusal_number}
use Rattle.proofs.specs.Replies.{Reply as Spelled}
use Rattle.proofs.specs.Views.{key_stated}
use Rattle.proofs.specs.declared.reply_refusal.Refusal.{Refusal as ProofRefusal}
use Rattle.proofs.specs.declared.reply_refusal.Refusal.TheVariants as proof
use Rattle.proofs.specs.declared.statement.Statement.{Statement}
use Rattle.proofs.proofs.Passing.{accepts-passed}
use Rattle.commands.specs.Operations.{Lookup, Query}
use Rattle.wire.specs.Requests.{RequestContent}
use Rattle.book.specs.declared.reply.Reply.{Reply}
use Rattle.book.specs.declared.reply.Reply.TheVariants as reply
use Rattle.book.specs.Steps.{has_its_index}
use Rattle.book.specs.Books.{Binding, Book, Page, page_at, pages}
use Rattle.book.specs.ProviderLaws.{KeepsLaws}
use Rattle.book.specs.Honest.{key_at}
use Rattle.encoding.specs.Maps.{Map, at}
use Rattle.book.specs.Shows.{Provider, SignedPage, body_behind, signed, index_of, roots, sealed_behind, sealed_pages, IsReplyOf, IsRootOf}
use Rattle.book.specs.Sound.{IsSound}
use Rattle.book.proofs.Begun.{climbs}
use Rattle.book.proofs.Distinct.{entry-named}
use Rattle.book.proofs.Doubled.{doubled}
use Rattle.book.proofs.Members.{first-or-later, first-there, later-there, none-there}
use Rattle.book.proofs.OneRoot.{one-root}
use Rattle.book.proofs.Sealing.{IsSealed, all-sealed, sealed-page}
use Rattle.book.proofs.Turning.{asked-page}
use Rattle.client.specs.Clients.{Client}
use Rattle.client.specs.Looking.{IsAnswered, IsLookRoot, Looks}
use Rattle.client.specs.declared.client_refusal.Refusal.{Refusal}
use Rattle.client.specs.declared.client_refusal.Refusal.TheVariants as client
use Rattle.play.specs.Answering.{IsUnchecked}
use Rattle.play.specs.Calls.{CallsAreHonest, IsDoubleIn, IsFollowed, IsShown, LooksRight}
use Rattle.play.specs.Checked.{HasChecked}
use Rattle.play.specs.Lines.{found_text, is_double, refused_proof, statement_text}
use Rattle.play.specs.Parties.{chain_under, Parties}
use Rattle.play.proofs.Calling.{accepts-stated, in-roots, rooted-epoch}

-- ---- pages

abbrev Ascends : List Page → Type 0
Ascends = AllPairs (λ earlier later. earlier.epoch < later.epoch)

below-first : (first : Page) (more : List Page) → Ascends (first ∷ more) → (page : Page) → Contains more page → first.epoch < page.epoch
below-first first more ascend page (k, within, is) = subst (λ (p : Page). first.epoch < p.epoch) is (ascend 0 (suc k) page (omega arith) (omega (arith, within)))

without-first : (first : Page) (more : List Page) → Ascends (first ∷ more) → Ascends more
without-first first more ascend = λ i j d less within. ascend (suc i) (suc j) d (omega (arith, less)) (omega (arith, within))

pub one-page : (all : List Page) → Ascends all → (one other : Page) → Contains all one → Contains all other → one.epoch ≡ other.epoch → one ≡ other
one-page [] ascend one other is also same = absurd (none-there one is)
one-page (first ∷ more) ascend one other is also same = elim (first-or-later first more one is) [
  | inl here ↦ elim (first-or-later first more other also) [
    | inl too ↦ sym here ∙ too
    | inr later ↦ absurd (omega (arith, same, ap (λ (p : Page). p.epoch) here, below-first first more ascend other later))
  ]
  | inr later ↦ elim (first-or-later first more other also) [
    | inl too ↦ absurd (omega (arith, same, ap (λ (p : Page). p.epoch) too, below-first first more ascend one later))
    | inr farther ↦ one-page more (without-first first more ascend) one other later farther same
  ]
]

-- ---- a double index

module _ (index_of : List ℕ → List ℕ) (name : List ℕ) where
  abbrev is_other : List ℕ × Binding → Bool
  is_other entry = not (bytes_eq entry.0 name) && bytes_eq (index_of entry.0) (index_of name)

  found-there : (bindings : Map Binding) → is_some (find is_other bindings) ≡ true → (entry : List ℕ × Binding) × Contains bindings entry × (index_of entry.0 ≡ index_of name)
  found-there [] is = absurd cc
  found-there (entry ∷ more) is = by (bytes_eq (index_of entry.0) (index_of name)) refl (not (bytes_eq entry.0 name)) is (found-there more)
    where
      by : (meet : Bool) → bytes_eq (index_of entry.0) (index_of name) ≡ meet → (differs : Bool) → is_some (cond (differs && meet) (Some entry) (find is_other more)) ≡ true
          → (is_some (find is_other more) ≡ true → (other : List ℕ × Binding) × Contains more other × (index_of other.0 ≡ index_of name))
          → (other : List ℕ × Binding) × Contains (entry ∷ more) other × (index_of other.0 ≡ index_of name)
      by true e differs f next = (entry, first-there entry more, (bytes_eq-Decides (index_of entry.0) (index_of name)).0 e)
      by false e true f next = let n = next f in (n.0, later-there entry more n.0 n.1, n.2)
      by false e false f next = let n = next f in (n.0, later-there entry more n.0 n.1, n.2)

  there-found : (bindings : Map Binding) (entry : List ℕ × Binding) → Contains bindings entry → is_other entry ≡ true → is_some (find is_other bindings) ≡ true
  there-found [] entry there is = absurd (none-there entry there)
  there-found (first ∷ more) entry there is = by (is_other first) refl (first-or-later first more entry there) (λ later. there-found more entry later is)
    where
      by : (test : Bool) → is_other first ≡ test → (first ≡ entry) ⊎ Contains more entry → (Contains more entry → is_some (find is_other more) ≡ true) → is_some (cond test (Some first) (find is_other more)) ≡ true
      by true e at_place next = refl
      by false e (inl same) next = let clash : false ≡ true = sym e ∙ ap is_other same ∙ is in absurd cc
      by false e (inr later) next = next later

  none-named : (found : Option Binding) → is_none found ≡ true → found ≡ None
  none-named None is = refl
  none-named (Some binding) is = absurd cc

module _ (provider : Provider) (page : Page) (name : List ℕ) where
  pub double_is : is_double (index_of provider) page name ≡ true → IsDoubleIn provider page name
  double_is is =
      let (none, other) = and_parts (is_none (at page.bindings name)) (has_its_index (index_of provider) name page.bindings) is in
      (none-named (index_of provider) name (at page.bindings name) none, found-there (index_of provider) name page.bindings other)

  pub is_doubled : IsDoubleIn provider page name → is_double (index_of provider) page name ≡ true
  is_doubled (none, (entry, there, same)) =
      let meets : bytes_eq (index_of provider entry.0) (index_of provider name) ≡ true = (bytes_eq-Decides (index_of provider entry.0) (index_of provider name)).1 same in
      let differs : bytes_eq entry.0 name ≡ false = by (bytes_eq entry.0 name) refl in
      let other : has_its_index (index_of provider) name page.bindings ≡ true = there-found (index_of provider) name page.bindings entry there (rw (differs, meets) refl) in
      rw (none, other) refl
    where
      by : (same_name : Bool) → bytes_eq entry.0 name ≡ same_name → same_name ≡ false
      by false e = refl
      by true e =
          let has = entry-named page.bindings entry there in
          let clash : Some has.0 ≡ None = sym has.1 ∙ ap (at page.bindings) ((bytes_eq-Decides entry.0 name).0 e) ∙ none in
          absurd cc

-- ---- roots

module _ (provider : Provider) where
  -- the last root is that of the last page
  last_root : (epoch : ℕ) (before : List ℕ) (earlier : List Page) (last : Page)
      → (front : List SignedRoot) × (root : SignedRoot) × (map (λ (each : SignedPage). each.root) (sealed_behind provider epoch before (earlier ++ last ∷ [])) ≡ front ++ root ∷ [])
      × Contains (sealed_behind provider epoch before (earlier ++ last ∷ [])) (record { page = last; root = root })
  last_root epoch before [] last = ([], _, refl, first-there _ [])
  last_root epoch before (first ∷ earlier) last =
      let (front, root, is, there) = last_root first.epoch _ earlier last in
      let head : SignedRoot = signed provider (body_behind provider epoch before first) in
      (head ∷ front, root, ap (λ (all : List SignedRoot). head ∷ all) is, later-there _ _ _ there)

  head_of : (book : Book) → Ascends (pages book) → (root : SignedRoot) → IsRootOf provider book book.last root → slice_get (roots provider book) (length (roots provider book) - 1) ≡ Some root
  head_of book ascend root rooted =
      let (front, own, is, there) = last_root 0 (replicate 32 0) book.earlier book.last in
      let same : own ≡ root = one-root provider book ascend book.last own root there rooted in
      let size : length (front ++ own ∷ []) - 1 ≡ length front = omega (arith, length-append front (own ∷ [])) in
      ap (λ (all : List SignedRoot). slice_get all (length all - 1)) is
      ∙ ap (slice_get (front ++ own ∷ [])) size
      ∙ slice_get-get_or (front ++ own ∷ []) (length front) own (omega (arith, length-append front (own ∷ [])))
      ∙ ap (λ (r : SignedRoot). Some r) (get_or_push front own own (length front) refl ∙ same)

  some_root : (book : Book) → 0 < length (roots provider book)
  some_root book =
      let (front, own, is, there) = last_root 0 (replicate 32 0) book.earlier book.last in
      omega (arith, ap length is, length-append front (own ∷ []))

  module _ (book : Book) (ascend : Ascends (pages book)) where
    -- who has all roots has the one of the page that is asked for
    asked_root : (key : List ℕ) (epoch : ℕ) (page : Page) (root : SignedRoot) → page_at book epoch ≡ Some page → IsRootOf provider book page root → IsLookRoot (chain_under key (roots provider book)) epoch root
    asked_root key zero page root is rooted =
        let same : page ≡ book.last = let e : Some book.last ≡ Some page = is in cc in
        head_of book ascend root (subst (λ (p : Page). IsRootOf provider book p root) same rooted)
    asked_root key (suc n) page root is rooted =
        (in-roots provider book page root rooted, rooted-epoch provider book page root rooted ∙ of_page)
      where
        some : (suc n == 0) ≡ false
        some = ne_eqb (suc n) 0 (λ e. absurd (omega (arith, e)))

        of_page : page.epoch ≡ suc n
        of_page = asked-page book (suc n) page is ∙ ap (λ (t : Bool). if t then book.last.epoch else suc n) some

    same_page : (one other : Page) (root : SignedRoot) → IsRootOf provider book one root → IsRootOf provider book other root → one ≡ other
    same_page one other root is also =
        one-page (pages book) ascend one other (sealed-page provider 0 (replicate 32 0) (pages book) _ is) (sealed-page provider 0 (replicate 32 0) (pages book) _ also)
        (sym (rooted-epoch provider book one root is) ∙ rooted-epoch provider book other root also)

-- ---- looks

-- what the client says of a page: what it has, unless its index is double, which is refused
abbrev pub LooksSo : Provider → Page → List ℕ → Result Statement Refusal → Type 0
LooksSo provider page name (Ok statement) = (is_double (index_of provider) page name ≡ false) × (key_stated statement ≡ key_at page name)
LooksSo provider page name (Err (client.Proof why)) = (is_double (index_of provider) page name ≡ true) × (why ≡ proof.SameIndex)
LooksSo provider page name (Err client.Memory) = ⊤
LooksSo provider page name (Err client.UnknownRoot) = ⊥
LooksSo provider page name (Err (client.Root why)) = ⊥
LooksSo provider page name (Err (client.RootDiffers evidence)) = ⊥
LooksSo provider page name (Err client.NoPromise) = ⊥

module _ (provider : Provider) (accepted verified : List ℕ → List ℕ → List ℕ → Type 0) (key : List ℕ) (book : Book) (sound : IsSound (index_of provider) book) (laws : KeepsLaws accepted verified key provider) where
  pub sealed_well : (page : Page) (root : SignedRoot) → IsRootOf provider book page root → IsSealed provider accepted verified key laws (record { page = page; root = root })
  sealed_well page root is =
      let climb = climbs (index_of provider) book sound in
      All-contains (IsSealed provider accepted verified key laws) (sealed_pages provider book) _
      (All-from_recursion (IsSealed provider accepted verified key laws) (sealed_pages provider book)
      (all-sealed provider accepted verified key laws 0 (replicate 32 0) (pages book) (omega arith) (refl, IsBytes-zeros 32) (λ e. refl) climb.climb climb.pages)) is

  -- no reply of a double index is accepted, under whatever root
  pub never_accepted : (page : Page) (root : SignedRoot) (name text : List ℕ) → IsName name → IsRootOf provider book page root → IsReplyOf provider page root.body name (at page.bindings name) text
      → is_double (index_of provider) page name ≡ true → (body : Body) (reply : Spelled) → IsAcceptedReply provider.hash accepted body name text reply → ⊥
  never_accepted page root name text named rooted shown is body reply accepts =
      let i = sealed_well page root rooted in
      let (none, (entry, there, same)) = double_is provider page name is in
      let d = doubled provider accepted verified key laws name page root.body text entry i.page i.form i.vuf_key named shown there same none in
      d.refused.fails ((accepts-passed provider.hash accepted body name text d.reply d.spells (stated reply.end) (accepts-stated provider.hash accepted body name text reply accepts)).1 proof.SameIndex)

  pub looks_so : (page : Page) (root : SignedRoot) (name text : List ℕ) (epoch : ℕ) (holder later : Client) (result : Result Statement Refusal)
      → CallsAreHonest provider accepted verified key book book (Query (Lookup name epoch) ∷ []) (reply.Found text ∷ [])
      → page_at book epoch ≡ Some page → IsName name → IsRootOf provider book page root → IsReplyOf provider page root.body name (at page.bindings name) text
      → holder.chain ≡ chain_under key (roots provider book) → Looks provider.hash accepted holder name epoch text result later
      → LooksSo provider page name result
  unfolding IsAnswered
  looks_so page root name text epoch holder later result calls asked named rooted shown chain looks =
      let ascend = sound.ascend in
      let followed : IsFollowed provider key book holder.chain = subst (IsFollowed provider key book) (sym chain) (record { keyed = refl; some = some_root provider book; are = ([], [], sym (append-nil (roots provider book))) }) in
      let at_root : IsLookRoot holder.chain epoch root = subst (λ (c : KeyedRoots). IsLookRoot c epoch root) (sym chain) (asked_root provider book ascend key epoch page root asked rooted) in
      let said : IsShown book (Query (Lookup name epoch) ∷ []) (reply.Found text ∷ []) name root.body.epoch text
      = (book.last.epoch, epoch, rooted-epoch provider book page root rooted ∙ asked-page book epoch page asked, inl (refl, refl, refl)) in
      let (own, is, right) = calls.looked holder later name text epoch root result followed at_root said looks in
      by result looks (subst (λ (p : Page). LooksRight provider p name result) (same_page provider book ascend own page root is rooted) right)
    where
      by : (result : Result Statement Refusal) → Looks provider.hash accepted holder name epoch text result later → LooksRight provider page name result → LooksSo provider page name result
      by (Ok statement) (own, spelled, answered, same, grown) right = (never (is_double (index_of provider) page name) refl, right)
        where
          never : (double : Bool) → is_double (index_of provider) page name ≡ double → double ≡ false
          never false e = refl
          never true e = absurd (never_accepted page root name text named rooted shown e own.body spelled answered.1)
      by (Err client.Memory) looks right = tt
      by (Err client.UnknownRoot) looks right = right
      by (Err (client.Root why)) looks right = right
      by (Err (client.RootDiffers evidence)) looks right = right
      by (Err client.NoPromise) looks right = right
      by (Err (client.Proof proof.SameIndex)) looks right = (is_doubled provider page name right, refl)
      by (Err (client.Proof proof.Malformed)) looks right = absurd right
      by (Err (client.Proof proof.Trailing)) looks right = absurd right
      by (Err (client.Proof proof.OtherRoot)) looks right = absurd right
      by (Err (client.Proof proof.BadVuf)) looks right = absurd right
      by (Err (client.Proof proof.OtherPrefix)) looks right = absurd right
      by (Err (client.Proof proof.PathMismatch)) looks right = absurd right

-- a look leaves the chain
pub looks_stay : (hash : List ℕ → List ℕ) (accepted : List ℕ → List ℕ → List ℕ → Type 0) (holder later : Client) (name : List ℕ) (epoch : ℕ) (text : List ℕ) (result : Result Statement Refusal)
    → Looks hash accepted holder name epoch text result later → later.chain ≡ holder.chain
looks_stay hash accepted holder later name epoch text (Ok statement) (own, spelled, answered, same, grown) = ap (λ (c : Client). c.chain) grown
looks_stay hash accepted holder later name epoch text (Err client.UnknownRoot) looks = ap (λ (c : Client). c.chain) looks.1
looks_stay hash accepted holder later name epoch text (Err (client.Proof why)) (own, is, refused, stays) = ap (λ (c : Client). c.chain) stays
looks_stay hash accepted holder later name epoch text (Err client.Memory) (own, spelled, answered, stays) = ap (λ (c : Client). c.chain) stays
looks_stay hash accepted holder later name epoch text (Err (client.Root why)) looks = absurd looks
looks_stay hash accepted holder later name epoch text (Err (client.RootDiffers evidence)) looks = absurd looks
looks_stay hash accepted holder later name epoch text (Err client.NoPromise) looks = absurd looks

-- the line that is told of it
module _ (provider : Provider) (page : Page) (name before after : List ℕ) where
  pub told_stated : (at_epoch : ℕ) (statement : Statement) → at_epoch ≡ page.epoch → LooksSo provider page name (Ok statement) → after ≡ before ++ statement_text at_epoch (key_stated statement) ++ 10 ∷ []
      → after ≡ before ++ found_text (index_of provider) page name ++ 10 ∷ []
  told_stated at_epoch statement same (single, states) wrote =
      let line : found_text (index_of provider) page name ≡ statement_text at_epoch (key_stated statement)
      = ap (λ (double : Bool). if double then refused_proof else statement_text page.epoch (key_at page name)) single ∙ ap (statement_text page.epoch) (sym states) ∙ ap (λ (e : ℕ). statement_text e (key_stated statement)) (sym same)
      in
      wrote ∙ ap (λ (l : List ℕ). before ++ l ++ 10 ∷ []) (sym line)

  pub told_refused : (why : ProofRefusal) → LooksSo provider page name (Err (client.Proof why)) → after ≡ before ++ codes "client refuses proof " ++ decimal (reply_refusal_number why) ++ 10 ∷ []
      → after ≡ before ++ found_text (index_of provider) page name ++ 10 ∷ []
  unfolding digits
  told_refused why (double, is) wrote =
      let line : found_text (index_of provider) page name ≡ refused_proof = ap (λ (d : Bool). if d then refused_proof else statement_text page.epoch (key_at page name)) double in
      wrote ∙ ap (λ (w : ProofRefusal). before ++ codes "client refuses proof " ++ decimal (reply_refusal_number w) ++ 10 ∷ []) is
      ∙ ap (λ (l : List ℕ). l ++ 10 ∷ []) (append_assoc before (codes "client refuses proof ") (decimal 5))
      ∙ ap (λ (l : List ℕ). before ++ l ++ 10 ∷ []) (sym line)

-- what holds at an Ok, where more follows from it
pub on_ok : {X E : Type 0} (result : Result X E) (P Q : Type 0) → OnOk result P → (P → Q) → OnOk result Q
on_ok (Ok x) P Q holds more = more holds
on_ok (Err e) P Q holds more = tt

-- ---- what stays

-- the client's chain stays, and what is no client's
pub record Stays {R : Type 0} (before after : Parties R) : Type 0 where
  pub others : after ≡ record before { client = after.client }
  pub chain : after.client.chain ≡ before.client.chain

module _ {R : Type 0} (hash : List ℕ → List ℕ) (accepted : List ℕ → List ℕ → List ℕ → Type 0) where
  as-were : (before after : Parties R) → after ≡ before → Stays before after
  as-were before after is = subst (Stays before) (sym is) (record { others = refl; chain = refl })

  pub checked_stays : (before : Parties R) (requested : RequestContent) (said : Reply) (after : Parties R) → HasChecked hash accepted before requested said after → Stays before after
  checked_stays before requested (reply.Found text) after (name, epoch, of, looked) =
      record { others = looked.others; chain = looks_stay hash accepted before.client after.client name epoch text looked.answer looked.looks }
  checked_stays before requested (reply.Promised signed) after is = as-were before after is
  checked_stays before requested (reply.Told told) after is = as-were before after is
  checked_stays before requested (reply.Last root) after is = as-were before after is
  checked_stays before requested (reply.Refused why) after is = as-were before after is

  -- at a reply that no client checks, none looks
  pub unchecked_stays : (before : Parties R) (requested : RequestContent) (said : Reply) → IsUnchecked said → HasChecked hash accepted before requested said before
  unchecked_stays before requested (reply.Found text) unchecked = absurd unchecked
  unchecked_stays before requested (reply.Promised signed) unchecked = refl
  unchecked_stays before requested (reply.Told told) unchecked = refl
  unchecked_stays before requested (reply.Last root) unchecked = refl
  unchecked_stays before requested (reply.Refused why) unchecked = refl
