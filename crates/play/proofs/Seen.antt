-- What the reply to a look-up shows: the page that was asked for, or that its proof is refused.
use Rattle.std.proofs.Common.{◌≡◌, ℕ, ◌==◌, List, [], ◌∷◌, Option, None, Some, Bool, true, false, cond, not, ◌&&◌, if◌then◌else◌, Contains, refl, sym, ap, subst, inl, inr, ◌∙◌, replicate, arith}
use Rattle.std.specs.Prelude.{is_some, is_none}
use Rattle.std.specs.List.{find}
use Rattle.std.specs.Str.{bytes_eq}
use Rattle.std.proofs.lemmas.Bool.{and_from, and_parts, false_from_ne_true, not_from_false}
use Rattle.std.proofs.lemmas.List.Elements.{All-contains, All-from_recursion}
use Rattle.std.proofs.lemmas.Slice.Eq.{bytes_eq-Decides}
use Rattle.encoding.proofs.ByteLists.{IsBytes-zeros}
use Rattle.encoding.specs.Bytes.{IsBytes, Is32Bytes}
use Rattle.encoding.specs.Limits.{IsName}
use Rattle.rootchain.specs.declared.signed_root.SignedRoot.{SignedRoot}
use Rattle.proofs.specs.Accepts.{stated}
use Rattle.proofs.specs.Comparisons.{IsAcceptedReply, Refuses}
use Rattle.proofs.specs.Replies.{Reply as Spelled}
use Rattle.proofs.specs.declared.reply_refusal.Refusal.{Refusal}
use Rattle.proofs.specs.declared.reply_refusal.Refusal.TheVariants as proof
use Rattle.proofs.proofs.Passing.{accepts-passed}
use Rattle.commands.specs.Operations.{Query, Lookup}
use Rattle.book.specs.declared.record.Record.{Record}
use Rattle.book.specs.declared.reply.Reply.TheVariants as reply
use Rattle.book.specs.Steps.{has_its_index}
use Rattle.book.specs.Books.{Binding, Book, Page, pages}
use Rattle.book.specs.ProviderLaws.{KeepsLaws}
use Rattle.book.specs.Honest.{key_at, IsHonestRun}
use Rattle.encoding.specs.Maps.{at}
use Rattle.book.specs.Shows.{Provider, SignedPage, index_of, roots, sealed_behind, IsReplyOf, IsRootOf}
use Rattle.book.specs.Sound.{IsSound}
use Rattle.book.specs.Turns.{Turn}
use Rattle.book.proofs.Begun.{climbs}
use Rattle.book.proofs.Distinct.{entry-named}
use Rattle.book.proofs.Doubled.{doubled}
use Rattle.book.proofs.Members.{first-or-later, first-there, later-there, none-there}
use Rattle.book.proofs.Running.{ran, SeenFound}
use Rattle.book.proofs.Sealing.{all-sealed, sealed-page, IsSealed}
use Rattle.client.specs.declared.client_refusal.Refusal.TheVariants as client
use Rattle.play.specs.Calls.{IsDoubleIn, MayRefuse}
use Rattle.play.specs.Lines.{is_double}
use Rattle.play.proofs.Ahead.{one-page}
use Rattle.play.proofs.Calling.{accepts-stated, in-roots, one-of, rooted-epoch, shown, IsOf}

module _ {X : Type 0} (p : X → Bool) where
  found-there : (xs : List X) → is_some (find p xs) ≡ true → (x : X) × Contains xs x × (p x ≡ true)
  found-there [] e = absurd cc
  found-there (x ∷ xs) e = by (p x) refl e (found-there xs)
    where
      by : (t : Bool) → p x ≡ t → is_some (cond t (Some x) (find p xs)) ≡ true → (is_some (find p xs) ≡ true → (y : X) × Contains xs y × (p y ≡ true)) → (y : X) × Contains (x ∷ xs) y × (p y ≡ true)
      by true test e more = (x, first-there x xs, test)
      by false test e more = let m = more e in (m.0, later-there x xs m.0 m.1, m.2)

  pub find-some : (xs : List X) → is_some (find p xs) ≡ true → (x : X) × (find p xs ≡ Some x)
  find-some xs e = by (find p xs) refl e
    where
      by : (found : Option X) → find p xs ≡ found → is_some found ≡ true → (x : X) × (find p xs ≡ Some x)
      by None is e = absurd cc
      by (Some x) is e = (x, is)

  pub there-found : (xs : List X) (x : X) → Contains xs x → p x ≡ true → is_some (find p xs) ≡ true
  there-found [] x is test = absurd (none-there x is)
  there-found (y ∷ ys) x is test = by (p y) refl (λ later. there-found ys x later test)
    where
      never : p y ≡ false → y ≡ x → ⊥
      never failed same = let e : true ≡ false = sym test ∙ sym (ap p same) ∙ failed in absurd cc

      by : (t : Bool) → p y ≡ t → (Contains ys x → is_some (find p ys) ≡ true) → is_some (cond t (Some y) (find p ys)) ≡ true
      by true passed more = refl
      by false failed more = elim (first-or-later y ys x is) [ inl same ↦ absurd (never failed same) | inr later ↦ more later ]

module _ (provider : Provider) where
  abbrev shares : List ℕ → List ℕ × Binding → Bool
  shares name entry = not (bytes_eq entry.0 name) && bytes_eq (index_of provider entry.0) (index_of provider name)

  none-of : {X : Type 0} (found : Option X) → is_none found ≡ true → found ≡ None
  none-of None e = refl
  none-of (Some x) e = absurd cc

  double-in : (page : Page) (name : List ℕ) → is_double (index_of provider) page name ≡ true → IsDoubleIn provider page name
  double-in page name is =
      let parts = and_parts (is_none (at page.bindings name)) (has_its_index (index_of provider) name page.bindings) is in
      let entry = found-there (shares name) page.bindings parts.1 in
      let test = and_parts (not (bytes_eq (entry.0).0 name)) (bytes_eq (index_of provider (entry.0).0) (index_of provider name)) entry.2 in
      (none-of (at page.bindings name) parts.0, (entry.0, entry.1, (bytes_eq-Decides (index_of provider (entry.0).0) (index_of provider name)).0 test.1))

  in-double : (page : Page) (name : List ℕ) → IsDoubleIn provider page name → is_double (index_of provider) page name ≡ true
  in-double page name (none, (other, there, same)) =
      and_from (is_none (at page.bindings name)) (has_its_index (index_of provider) name page.bindings) (ap is_none none)
      (there-found (shares name) page.bindings other there
      (and_from (not (bytes_eq other.0 name)) (bytes_eq (index_of provider other.0) (index_of provider name))
      (not_from_false (bytes_eq other.0 name) (false_from_ne_true (bytes_eq other.0 name) (λ is. differs ((bytes_eq-Decides other.0 name).0 is))))
      ((bytes_eq-Decides (index_of provider other.0) (index_of provider name)).1 same)))
    where
      differs : other.0 ≡ name → ⊥
      differs is =
          let named = entry-named page.bindings other there in
          let e : None ≡ Some named.0 = sym none ∙ ap (at page.bindings) (sym is) ∙ named.1 in
          absurd cc

  module _ (accepted verified : List ℕ → List ℕ → List ℕ → Type 0) (key : List ℕ) where
    -- the text, read under the page's root, states what the page has, or its proof is refused
    pub record IsSeen (book : Book) (name : List ℕ) (page : Page) (root : SignedRoot) (text : List ℕ) : Type 0 where
      pub rooted : IsRootOf provider book page root
      pub states : (spelled : Spelled) → IsAcceptedReply provider.hash accepted root.body name text spelled → (stated spelled.end ≡ key_at page name) × (is_double (index_of provider) page name ≡ false)
      pub refuses : (why : Refusal) → Refuses provider.hash accepted root.body name text why → (why ≡ proof.SameIndex) × (is_double (index_of provider) page name ≡ true)

    only : (page : Page) (name : List ℕ) (why : Refusal) → MayRefuse provider page name (client.Proof why) → (why ≡ proof.SameIndex) × (is_double (index_of provider) page name ≡ true)
    only page name proof.Malformed may = absurd may
    only page name proof.Trailing may = absurd may
    only page name proof.OtherRoot may = absurd may
    only page name proof.BadVuf may = absurd may
    only page name proof.SameIndex may = (refl, in-double page name may)
    only page name proof.OtherPrefix may = absurd may
    only page name proof.PathMismatch may = absurd may

    module _ (laws : KeepsLaws accepted verified key provider) (book : Book) (sound : IsSound (index_of provider) book) where
      zeros : Is32Bytes (replicate 32 0)
      zeros = (refl, IsBytes-zeros 32)

      are-sealed : (each : SignedPage) → Contains (sealed_behind provider 0 (replicate 32 0) (pages book)) each → IsSealed provider accepted verified key laws each
      are-sealed each there =
          All-contains (IsSealed provider accepted verified key laws) (sealed_behind provider 0 (replicate 32 0) (pages book)) each
          (All-from_recursion (IsSealed provider accepted verified key laws) (sealed_behind provider 0 (replicate 32 0) (pages book)) (all-sealed provider accepted verified key laws 0 (replicate 32 0) (pages book) (omega arith) zeros (λ e. refl) (climbs (index_of provider) book sound).climb (climbs (index_of provider) book sound).pages)) there

      -- a double index is not accepted
      alone : (page : Page) (root : SignedRoot) (name text : List ℕ) → IsName name → IsRootOf provider book page root → IsReplyOf provider page root.body name (at page.bindings name) text
          → (spelled : Spelled) → IsAcceptedReply provider.hash accepted root.body name text spelled → is_double (index_of provider) page name ≡ false
      alone page root name text named rooted answer spelled accepts = false_from_ne_true (is_double (index_of provider) page name) never
        where
          never : is_double (index_of provider) page name ≡ true → ⊥
          never is =
              let double = double-in page name is in
              let each = are-sealed (record { page = page; root = root }) rooted in
              let d = doubled provider accepted verified key laws name page root.body text double.1.0 each.page each.form each.vuf_key named answer double.1.1 double.1.2 double.0 in
              d.refused.fails ((accepts-passed provider.hash accepted root.body name text d.reply d.spells (stated spelled.end) (accepts-stated provider.hash accepted root.body name text spelled accepts)).1 proof.SameIndex)

    module _ {K : Type 0} (kept failed : K → Record → K → Type 0) (laws : KeepsLaws accepted verified key provider) (book after : Book) (before later : K) (name : List ℕ) (epoch : ℕ) (text : List ℕ) where
      pub seen : IsSound (index_of provider) book → IsHonestRun provider accepted verified key book after (Query (Lookup name epoch) ∷ []) (reply.Found text ∷ [])
          → Turn provider kept failed book before (Query (Lookup name epoch)) (reply.Found text) after later → IsBytes name
          → after ≡ book
          → (root : SignedRoot) → Contains (roots provider book) root → root.body.epoch ≡ (if epoch == 0 then book.last.epoch else epoch)
          → (page : Page) × IsSeen book name page root text
      seen sound honest turn bytes same root there of =
          let s : (page : Page) × IsOf provider accepted verified key book after (Query (Lookup name epoch) ∷ []) (reply.Found text ∷ []) honest page root name text
          = shown provider accepted verified key book after (Query (Lookup name epoch) ∷ []) (reply.Found text ∷ []) honest name text root
          (subst (λ (b : Book). Contains (roots provider b) root) (sym same) there) (book.last.epoch, epoch, of, inl (refl, refl, refl)) in
          let rooted : IsRootOf provider book s.0 root = subst (λ (b : Book). IsRootOf provider b s.0 root) same s.1.rooted in (
            s.0,
            record {
              rooted = rooted;
              states = λ spelled accepts. (s.1.states spelled accepts, alone laws book sound s.0 root name text found.named rooted (answers s.0 rooted) spelled accepts);
              refuses = λ why refused. only s.0 name why (s.1.refuses why refused);
            },
          )
        where
          found : SeenFound provider book.last.epoch after name epoch text
          found =
              (ran provider kept failed (Query (Lookup name epoch) ∷ []) (reply.Found text ∷ []) book after before later (climbs (index_of provider) book sound) (bytes, tt)
              (after, later, turn, (refl, refl))).shown book.last.epoch (Query (Lookup name epoch)) (reply.Found text) (inl (refl, refl, refl)) name epoch refl

          answers : (page : Page) → IsRootOf provider book page root → IsReplyOf provider page root.body name (at page.bindings name) text
          answers page rooted =
              let there_found : IsRootOf provider book found.page found.root = subst (λ (b : Book). IsRootOf provider b found.page found.root) same found.is in
              let e : found.root.body.epoch ≡ root.body.epoch = rooted-epoch provider book found.page found.root there_found ∙ found.asked ∙ sym of in
              let root_is : found.root ≡ root = one-of provider accepted verified key book after (Query (Lookup name epoch) ∷ []) (reply.Found text ∷ []) honest found.root root
              (in-roots provider after found.page found.root found.is) (subst (λ (b : Book). Contains (roots provider b) root) (sym same) there) e in
              let f : found.page.epoch ≡ page.epoch = sym (rooted-epoch provider book found.page found.root there_found) ∙ e ∙ rooted-epoch provider book page root rooted in
              let page_is : found.page ≡ page = one-page 0 (pages book) (climbs (index_of provider) book sound).climb found.page page
              (sealed-page provider 0 (replicate 32 0) (pages book) (record { page = found.page; root = found.root }) there_found) (sealed-page provider 0 (replicate 32 0) (pages book) (record { page = page; root = root }) rooted) f in
              subst (λ (r : SignedRoot). IsReplyOf provider page r.body name (at page.bindings name) text) root_is
              (subst (λ (p : Page). IsReplyOf provider p found.root.body name (at p.bindings name) text) page_is found.answer)
