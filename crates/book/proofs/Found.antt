-- The reply to a look-up is accepted, with what the page has.
use Rattle.std.proofs.Common.{◌≡◌, ℕ, ◌<◌, ◌≤◌, ◌^◌, List, length, Option, Some, None, refl, sym, ap, subst, ◌∙◌}
use Rattle.std.specs.List.{AllByRecursion}
use Rattle.std.specs.Prelude.{option_map}
use Rattle.encoding.specs.declared.bound_key.BoundKey.{BoundKey}
use Rattle.encoding.specs.Bytes.{Is32Bytes}
use Rattle.encoding.specs.Limits.{IsKeyData, IsName}
use Rattle.prefixtree.specs.Node.{root_of}
use Rattle.prefixtree.specs.Paths.{agreeing, end_of, IsPath}
use Rattle.prefixtree.specs.Placement.{Items, IsPlacement, commitment_of}
use Rattle.prefixtree.specs.declared.path.End.{End as PathEnd}
use Rattle.prefixtree.specs.declared.path.End.TheVariants as path
use Rattle.rootchain.specs.Bodies.{IsBody}
use Rattle.rootchain.specs.declared.body.Body.{Body}
use Rattle.proofs.specs.Accepts.{stated, Accepts}
use Rattle.proofs.specs.Honest.{IsHonest}
use Rattle.proofs.specs.PathEnds.{end_of_path}
use Rattle.proofs.specs.Replies.{Reply, IsEnd, IsReply, SpellsReply, reply_bytes}
use Rattle.proofs.proofs.Honest.{honest-accepted}
use Rattle.book.specs.Books.{Binding, Page}
use Rattle.book.specs.Honest.{key_at}
use Rattle.encoding.specs.Maps.{Map, at}
use Rattle.book.specs.ProviderLaws.{KeepsLaws}
use Rattle.book.specs.Shows.{Provider, index_of, placement, reply_end, IsReplyOf}
use Rattle.book.proofs.Entries.{Ascends, found-entry}
use Rattle.book.proofs.PathEnds.{leaf_there, no_leaf_there, other_sizes}
use Rattle.book.proofs.Placed.{Alone, commitment, is_placement, have_sizes, placed_none, placed_some}
use Rattle.book.proofs.Sizes.{path-level, path-sizes}

abbrev pub IsBinding : Binding → Type 0
IsBinding binding = IsKeyData binding.key.value

abbrev pub AreSalted : Map Binding → Type 0
AreSalted = AllByRecursion (λ entry. Is32Bytes entry.1.salt)

abbrev pub AreBindings : Map Binding → Type 0
AreBindings = AllByRecursion (λ entry. IsName entry.0 × IsBinding entry.1)

-- what every page of a run keeps
pub record IsPage (page : Page) : Type 0 where
  pub epoch : page.epoch < 2 ^ 64
  pub nonce : Is32Bytes page.nonce
  pub ascends : Ascends page.bindings
  pub bindings : AreBindings page.bindings

abbrev pub key_of : Option Binding → Option BoundKey
key_of None = None
key_of (Some binding) = Some binding.key

module _ (provider : Provider) (name : List ℕ) where
  abbrev index : List ℕ
  index = index_of provider name

  -- the end that is shown fits the path's, is well formed, and states what was found
  pub record Fits (found : Option Binding) (end : PathEnd) : Type 0 where
    pub fits : end_of_path provider.hash name (reply_end index found end) ≡ end
    pub form : IsEnd (reply_end index found end)
    pub states : stated (reply_end index found end) ≡ key_of found

  module _ (size : (text : List ℕ) → Is32Bytes (provider.hash text)) (bindings : Map Binding) (n : ℕ) where
    abbrev items : Items
    items = placement provider bindings

    absent-fits : (end : PathEnd) → commitment_of items index ≡ None → end ≡ end_of index (agreeing index n items) → Fits None end
    absent-fits (path.Present commitment) none is = absurd (no_leaf_there index n items commitment none is)
    absent-fits path.Empty none is = record { fits = refl; form = tt; states = refl }
    absent-fits (path.Other other commitment) none is = record { fits = refl; form = other_sizes index n items other commitment (have_sizes provider size bindings) is; states = refl }

    present-fits : (binding : Binding) (end : PathEnd) → Is32Bytes binding.salt × IsKeyData binding.key.value → end ≡ path.Present (commitment provider name binding) → Fits (Some binding) end
    present-fits binding (path.Present commitment) is same = record { fits = sym same; form = is; states = refl }
    present-fits binding path.Empty is same = absurd cc
    present-fits binding (path.Other other commitment) is same = absurd cc

    pub fits-path : (found : Option Binding) (end : PathEnd) → at bindings name ≡ found → Ascends bindings → AreBindings bindings → AreSalted bindings → Alone provider name bindings
        → length (agreeing index n items) ≤ 1 → end ≡ end_of index (agreeing index n items) → Fits found end
    fits-path None end found up are salted alone few is = absent-fits end (placed_none provider name bindings alone found) is
    fits-path (Some binding) end found up are salted alone few is =
        let e = found-entry (λ entry. IsName entry.0 × IsBinding entry.1) bindings name binding found are in
        let salt = found-entry (λ entry. Is32Bytes entry.1.salt) bindings name binding found salted in
        present-fits binding end (subst (λ (b : Binding). Is32Bytes b.salt) salt.3 salt.1, subst IsBinding e.3 e.1.1) (is ∙ leaf_there index n items (commitment provider name binding) (placed_some provider name bindings binding up alone found) few)

stated-key : (page : Page) (name : List ℕ) (found : Option Binding) → at page.bindings name ≡ found → key_of found ≡ key_at page name
stated-key page name None found = ap (option_map (λ (binding : Binding). binding.key)) (sym found)
stated-key page name (Some binding) found = ap (option_map (λ (binding : Binding). binding.key)) (sym found)

module _ (provider : Provider) (accepted verified : List ℕ → List ℕ → List ℕ → Type 0) (key : List ℕ) (laws : KeepsLaws accepted verified key provider) (name : List ℕ) where
  -- the reply that a text spells, where it is accepted with what the page has
  pub record IsRight (page : Page) (body : Body) (text : List ℕ) : Type 0 where
    pub reply : Reply
    pub spells : SpellsReply text reply
    pub of_body : reply.body ≡ body
    pub value : reply.value ≡ provider.value name
    pub states : stated reply.end ≡ key_at page name
    pub accepts : Accepts provider.hash accepted body name text (key_at page name)

  pub found-right : (page : Page) (body : Body) (text : List ℕ) → IsPage page → IsBody body → body.root ≡ root_of provider.hash page.nonce (placement provider page.bindings) → body.nonce ≡ page.nonce
      → body.vuf_key ≡ provider.vuf_key → IsName name → AreSalted page.bindings → Alone provider name page.bindings → IsReplyOf provider page body name (at page.bindings name) text → IsRight page body text
  found-right page body text is form root nonce vuf_key named salted alone answer = record {
    reply = reply;
    spells = (answer.spelled, reply_form);
    of_body = refl;
    value = refl;
    states = states;
    accepts = subst (λ (bytes : List ℕ). Accepts provider.hash accepted body name bytes (key_at page name)) (sym answer.spelled)
        (subst (Accepts provider.hash accepted body name (reply_bytes reply)) states
        (honest-accepted provider.hash accepted name (placement provider page.bindings) reply (laws.digest_size (provider.value name)) honest));
  }
    where
      items : Items
      items = placement provider page.bindings

      reply : Reply
      reply = record { body = body; value = provider.value name; end = reply_end (index_of provider name) (at page.bindings name) answer.end; siblings = answer.siblings }

      fits : Fits provider name (at page.bindings name) answer.end
      fits = fits-path provider name laws.digest_size page.bindings (length answer.siblings) (at page.bindings name) answer.end refl is.ascends is.bindings salted alone answer.path.level.few answer.path.last

      states : stated reply.end ≡ key_at page name
      states = fits.states ∙ stated-key page name (at page.bindings name) refl

      placed : IsPlacement items
      placed = is_placement provider laws.digest_size page.bindings

      reply_form : IsReply reply
      reply_form = (
        form,
        laws.value_size name named,
        fits.form,
        (
          path-level provider.hash laws.digest_size page.nonce (index_of provider name) items (laws.digest_size (provider.value name)) placed answer.siblings answer.end answer.path,
          path-sizes provider.hash laws.digest_size page.nonce (index_of provider name) items (laws.digest_size (provider.value name)) placed answer.siblings answer.end answer.path,
        ),
      )

      honest : IsHonest provider.hash accepted name items reply
      honest = record {
        form = reply_form;
        placement = placed;
        root = root ∙ ap (λ (own : List ℕ). root_of provider.hash own items) (sym nonce);
        value = subst (λ (own : List ℕ). accepted own name (provider.value name)) (sym vuf_key) (laws.value_is_accepted name);
        path = subst (λ (end : PathEnd). IsPath provider.hash body.nonce items (index_of provider name) answer.siblings end) (sym fits.fits)
            (subst (λ (own : List ℕ). IsPath provider.hash own items (index_of provider name) answer.siblings answer.end) (sym nonce) answer.path);
      }
