-- How the parties of a script stand before its first line.
use Rattle.std.proofs.Common.{◌≡◌, ℕ, List, [], ◌∷◌, true, false, Some, Result, Ok, Err, IsOk, refl, sym, ap, subst, ◌∙◌, inl, inr}
use Rattle.rand_core.specs.Stream.{Stream}
use Rattle.std.specs.Ordering.{nat_cmp}
use Rattle.encoding.proofs.ByteLists.{IsBytes-zeros}
use Rattle.std.specs.BTreeMap.{insert_entry}
use Rattle.rootchain.specs.Chains.{Verifies}
use Rattle.rootchain.specs.SignedRoots.{signed_root_bytes, IsSignedRoot, SpellsRoot}
use Rattle.rootchain.specs.declared.signed_root.SignedRoot.{SignedRoot}
use Rattle.wire.specs.Streams.{Remainder, Rest}
use Rattle.book.specs.declared.keeper.NoKeeper.{NoKeeper}
use Rattle.book.specs.Books.{Book}
use Rattle.book.specs.Fresh.{fresh}
use Rattle.book.specs.Keeps.{KeepsNothing, NeverFails}
use Rattle.book.specs.ProviderLaws.{KeepsLaws}
use Rattle.book.specs.Shows.{Provider, SignedPage, index_of, roots, IsRootOf}
use Rattle.book.specs.Sound.{IsSound}
use Rattle.book.proofs.Members.{first-or-later, none-there}
use Rattle.epochs.specs.DirectoryStates.{book, provider, DirectoryState}
use Rattle.hub.specs.Desks.{DeskAnswers, DeskState}
use Rattle.hub.specs.Events.{BySession, HubState, Open}
use Rattle.hub.specs.Happenings.{Happens}
use Rattle.hub.specs.declared.hub_refusal.HubRefusal.{HubRefusal}
use Rattle.auditor.specs.Chains.{Chains, NowHas, chain_of}
use Rattle.auditor.specs.Observing.{HoldsAfter, Observes}
use Rattle.auditor.specs.declared.auditor.Observed.{Observed}
use Rattle.client.specs.Clients.{Client}
use Rattle.client.specs.Starting.{Starts}
use Rattle.rootchain.specs.declared.root_refusal.Refusal.{Refusal}
use Rattle.play.specs.Parties.{chain_under, AreAt}
use Rattle.play.specs.Scripts.{token}
use Rattle.play.proofs.Added.{one-signed}
use Rattle.play.proofs.Looked.{sealed_well}

-- one page has one root
one-root : (by : Provider) (own : Book) (epoch : ℕ) (nonce : List ℕ) (salts : Stream) (root : SignedRoot) → own ≡ fresh epoch nonce salts → IsRootOf by own own.last root → roots by own ≡ root ∷ []
one-root by own epoch nonce salts root is rooted =
    let page : Book = fresh epoch nonce salts in
    let there : IsRootOf by page page.last root = subst (λ (b : Book). IsRootOf by b b.last root) is rooted in
    let same : roots by page ≡ root ∷ [] = elim (first-or-later _ [] _ there) [
      | inl here ↦ ap (λ (each : SignedPage). each.root ∷ []) here
      | inr later ↦ absurd (none-there _ later)
    ] in
    ap (roots by) is ∙ same

-- an auditor that observed none has the root that it observes
observed : (hash : List ℕ → List ℕ) (verified : List ℕ → List ℕ → List ℕ → Type 0) (after : Chains) (key bytes : List ℕ) (root : SignedRoot) (result : Result Observed Refusal)
    → SpellsRoot bytes root → Observes hash verified [] key bytes result after → IsOk result → chain_of after key ≡ Some (chain_under key (root ∷ []))
observed hash verified after key bytes root (Ok told) spells (inl (own, also, (verifies, is, holds))) ok =
    let same : own ≡ root = one-signed bytes own root also spells in
    let now : NowHas [] key (chain_under key (own ∷ [])) after = subst (λ (t : Observed). HoldsAfter [] key own t after) is holds in
    now.own ∙ ap (λ (r : SignedRoot). Some (chain_under key (r ∷ []))) same
observed hash verified after key bytes root (Ok told) spells (inr (none, bad, stays)) ok = absurd (none root spells)
observed hash verified after key bytes root (Err why) spells observes ok = let e : false ≡ true = ok in absurd cc

-- the last root of a directory verifies
pub head-well : {R : Type 0} (digest_of : List ℕ → List ℕ) (value_of signature_of : List ℕ → List ℕ → List ℕ) (stream : R → Stream) (accepted verified : List ℕ → List ℕ → List ℕ → Type 0)
    (directory : DirectoryState R) (key : List ℕ) (root : SignedRoot) (bytes : List ℕ)
    → IsRootOf (provider digest_of value_of signature_of directory) (book stream directory) directory.last root → IsSound (index_of (provider digest_of value_of signature_of directory)) (book stream directory)
    → KeepsLaws accepted verified directory.signing_key (provider digest_of value_of signature_of directory) → directory.signing_key ≡ key → bytes ≡ signed_root_bytes root
    → SpellsRoot bytes root × Verifies verified key root
head-well digest_of value_of signature_of stream accepted verified directory key root bytes rooted sound laws keyed written =
    let i = sealed_well (provider digest_of value_of signature_of directory) accepted verified directory.signing_key (book stream directory) sound laws directory.last root rooted in
    ((written, (i.form, i.small)), subst (λ (k : List ℕ). Verifies verified k root) keyed i.signature)

module _ {R : Type 0} (digest_of : List ℕ → List ℕ) (value_of signature_of : List ℕ → List ℕ → List ℕ) (stream : R → Stream) (accepted verified : List ℕ → List ℕ → List ℕ → Type 0)
    (directory : DirectoryState R) (keeper : NoKeeper) (key : List ℕ) where
  abbrev by : Provider
  by = provider digest_of value_of signature_of directory

  abbrev own : Book
  own = book stream directory

  abbrev Hub : Type 0
  Hub = HubState (DeskState R NoKeeper)

  -- a hub of the directory with this token, where these sessions are open
  abbrev hub_under : List ℕ → BySession Remainder → Hub
  hub_under given sessions = record { service = record { directory = directory; keeper = keeper; token = given }; sessions = sessions }

  abbrev hub_of : BySession Remainder → Hub
  hub_of = hub_under token

  -- session 0 alone is open
  opened : (before hub : Hub) (output grown : List ℕ) (result : Result (Unit {0}) HubRefusal) → before ≡ hub_of []
      → Happens (DeskAnswers digest_of value_of signature_of stream KeepsNothing NeverFails) before (Open 0) output result hub grown → IsOk result → hub ≡ hub_of ((0, Rest []) ∷ [])
  opened before hub output grown (Ok done) is (due, exchanges, (none, after), grows) ok = after ∙ ap (λ (h : Hub). let opened : Hub = record h { sessions = insert_entry nat_cmp h.sessions 0 (Rest []) } in opened) is
  opened before hub output grown (Err why) is happens ok = let e : false ≡ true = ok in absurd cc

  pub begun : (epoch : ℕ) (nonce : List ℕ) (salts : Stream) (root : SignedRoot) (bytes : List ℕ) (client : Client) (auditor : Chains) (answer : Result Observed Refusal)
      (given : List ℕ) (before hub : Hub) (output grown : List ℕ) (result : Result (Unit {0}) HubRefusal)
      → own ≡ fresh epoch nonce salts → directory.signing_key ≡ key
      → IsRootOf by own own.last root → IsSound (index_of by) own → KeepsLaws accepted verified directory.signing_key by → bytes ≡ signed_root_bytes root
      → Starts verified key bytes (Ok client) → Observes digest_of verified [] key bytes answer auditor → IsOk answer
      → given ≡ token → before ≡ hub_under given [] → Happens (DeskAnswers digest_of value_of signature_of stream KeepsNothing NeverFails) before (Open 0) output result hub grown → IsOk result
      → AreAt digest_of value_of signature_of stream accepted verified (record { hub = hub; key = key; client = client; auditor = auditor; monitors = [] }) (record { book = own; sessions = (0, Rest []) ∷ []; watchers = [] })
      × (hub.service.directory ≡ directory)
  begun epoch nonce salts root bytes client auditor answer given before hub output grown result is keyed rooted sound laws written starts observes known zeros unopened happens ok =
      let spells : SpellsRoot bytes root = (written, form) in
      let all : roots by own ≡ root ∷ [] = one-root by own epoch nonce salts root is rooted in
      let first : starts.0 ≡ root = one-signed bytes starts.0 root starts.1.0 spells in
      let chain : client.chain ≡ chain_under key (root ∷ []) = ap (λ (c : Client). c.chain) starts.2 ∙ ap (λ (r : SignedRoot). chain_under key (r ∷ [])) first in
      let hub_is : hub ≡ hub_of ((0, Rest []) ∷ []) = opened before hub output grown result (unopened ∙ ap (λ (t : List ℕ). hub_under t []) zeros) happens ok in (
        subst (λ (h : Hub). AreAt digest_of value_of signature_of stream accepted verified (record { hub = h; key = key; client = client; auditor = auditor; monitors = [] }) (record { book = own; sessions = (0, Rest []) ∷ []; watchers = [] })) (sym hub_is)
            (record {
              hub = record { book = refl; sessions = refl; ready = record { idle = refl; bytes = (IsBytes-zeros 0, tt); token = refl; key = keyed } };
              taken = record {
                client = chain ∙ ap (chain_under key) (sym all);
                auditor = observed digest_of verified auditor key bytes root answer spells observes known ∙ ap (λ (rs : List SignedRoot). Some (chain_under key rs)) (sym all);
                monitors = tt;
              };
            }),
        ap (λ (h : Hub). h.service.directory) hub_is,
      )
    where
      form : IsSignedRoot root
      form = let i = sealed_well by accepted verified directory.signing_key own sound laws own.last root rooted in (i.form, i.small)
