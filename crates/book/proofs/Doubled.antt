-- The reply to a look-up that meets another name with its index is refused.
use Rattle.std.proofs.Common.{◌≡◌, ℕ, ◌<◌, List, [], ◌∷◌, length, map, Option, Some, None, Bool, true, false, Contains, refl, sym, ap, subst, inl, inr, ◌∙◌, arith}
use Rattle.std.specs.BTreeMap.{is_at}
use Rattle.encoding.specs.Bytes.{bytes_cmp, Is32Bytes}
use Rattle.encoding.specs.Limits.{IsName}
use Rattle.prefixtree.specs.Placement.{Items, commitment_of, put, put_all}
use Rattle.prefixtree.specs.declared.path.End.TheVariants as path
use Rattle.rootchain.specs.Bodies.{IsBody}
use Rattle.rootchain.specs.declared.body.Body.{Body}
use Rattle.proofs.specs.Refusals.{IsFirstToFail, Passes, reply_refusal_number}
use Rattle.proofs.specs.Replies.{End, Other, Reply, IsReply, SpellsReply, reply_bytes}
use Rattle.proofs.specs.declared.reply_refusal.Refusal.{Refusal}
use Rattle.proofs.specs.declared.reply_refusal.Refusal.TheVariants.{Malformed, Trailing, OtherRoot, BadVuf, SameIndex, OtherPrefix, PathMismatch}
use Rattle.book.specs.Books.{Binding, Page}
use Rattle.encoding.specs.Maps.{Map, at}
use Rattle.book.specs.ProviderLaws.{KeepsLaws}
use Rattle.book.specs.Shows.{Provider, index_of, placement, reply_end, IsReplyOf}
use Rattle.book.proofs.Entries.{at_put_other, at_put_same, found-entry, is_name, is_no_name}
use Rattle.book.proofs.Found.{IsPage}
use Rattle.book.proofs.Members.{first-or-later, none-there}
use Rattle.book.proofs.PathEnds.{leaf_there}
use Rattle.book.proofs.Placed.{have_sizes, is_placement, item}
use Rattle.book.proofs.Sizes.{path-level, path-sizes}

-- something is there, and stays there
abbrev IsThere : Items → List ℕ → Type 0
IsThere items index = (commitment : List ℕ) × (commitment_of items index ≡ Some commitment)

there-put : (items : Items) (index other commitment : List ℕ) → IsThere items index → IsThere (put items other commitment) index
there-put items index other commitment there = by (is_at (bytes_cmp other) index) refl
  where
    by : (t : Bool) → is_at (bytes_cmp other) index ≡ t → IsThere (put items other commitment) index
    by true is = let e = is_name other index is in (commitment, ap (commitment_of (put items other commitment)) e ∙ at_put_same other commitment items)
    by false is = (there.0, at_put_other other commitment items index (is_no_name other index is) ∙ there.1)

there-all : (items pairs : Items) (index : List ℕ) → IsThere items index → IsThere (put_all items pairs) index
there-all items [] index there = there
there-all items (pair ∷ pairs) index there = there-all (put items pair.0 pair.1) pairs index (there-put items index pair.0 pair.1 there)

module _ (provider : Provider) where
  there-placed : (items : Items) (bindings : Map Binding) (entry : List ℕ × Binding) → Contains bindings entry → IsThere (put_all items (map (item provider) bindings)) (index_of provider entry.0)
  there-placed items [] entry is = absurd (none-there entry is)
  there-placed items (e ∷ es) entry is = elim (first-or-later e es entry is) [
    | inl same ↦ there-all (put items (item provider e).0 (item provider e).1) (map (item provider) es) (index_of provider entry.0)
        ((item provider e).1, ap (λ (x : List ℕ × Binding). commitment_of (put items (item provider e).0 (item provider e).1) (index_of provider x.0)) (sym same) ∙ at_put_same (item provider e).0 (item provider e).1 items)
    | inr later ↦ there-placed (put items (item provider e).0 (item provider e).1) es entry later
  ]

  module _ (accepted verified : List ℕ → List ℕ → List ℕ → Type 0) (key : List ℕ) (laws : KeepsLaws accepted verified key provider) (name : List ℕ) where
    -- the reply that a text spells, of which the first refusal is that of an absence by the very index
    pub record IsDoubled (body : Body) (text : List ℕ) : Type 0 where
      pub reply : Reply
      pub spells : SpellsReply text reply
      pub refused : IsFirstToFail (Passes provider.hash accepted body name reply) SameIndex

    pub doubled : (page : Page) (body : Body) (text : List ℕ) (entry : List ℕ × Binding) → IsPage page → IsBody body → body.vuf_key ≡ provider.vuf_key → IsName name → IsReplyOf provider page body name (at page.bindings name) text
        → Contains page.bindings entry → index_of provider entry.0 ≡ index_of provider name → at page.bindings name ≡ None → IsDoubled body text
    doubled page body text entry is form vuf_key named answer there same none =
        let t = there-placed [] page.bindings entry there in
        let found : commitment_of (placement provider page.bindings) (index_of provider name) ≡ Some t.0 = ap (commitment_of (placement provider page.bindings)) (sym same) ∙ t.1 in
        let end : answer.end ≡ path.Present t.0 = answer.path.last ∙ leaf_there (index_of provider name) (length answer.siblings) (placement provider page.bindings) t.0 found answer.path.level.few in
        refused t.0 end
      where
        refused : (commitment : List ℕ) → answer.end ≡ path.Present commitment → IsDoubled body text
        refused commitment end = record { reply = reply; spells = (answer.spelled ∙ ap (λ (own : End). reply_bytes (record { body = body; value = provider.value name; end = own; siblings = answer.siblings })) shown, reply_form); refused = first }
          where
            shown : reply_end (index_of provider name) (at page.bindings name) answer.end ≡ Other (index_of provider name) commitment
            shown = ap (λ (found : Option Binding). reply_end (index_of provider name) found answer.end) none ∙ ap (reply_end (index_of provider name) None) end

            reply : Reply
            reply = record { body = body; value = provider.value name; end = Other (index_of provider name) commitment; siblings = answer.siblings }

            found : commitment_of (placement provider page.bindings) (index_of provider name) ≡ Some commitment
            found =
                let t = there-placed [] page.bindings entry there in
                let f : commitment_of (placement provider page.bindings) (index_of provider name) ≡ Some t.0 = ap (commitment_of (placement provider page.bindings)) (sym same) ∙ t.1 in
                let e : path.Present commitment ≡ path.Present t.0 = sym end ∙ answer.path.last ∙ leaf_there (index_of provider name) (length answer.siblings) (placement provider page.bindings) t.0 f answer.path.level.few in
                let c : t.0 ≡ commitment = cc in
                f ∙ ap (λ (x : List ℕ). Some x) c

            size : Is32Bytes commitment
            size = let e = found-entry (λ (each : List ℕ × List ℕ). Is32Bytes each.0 × Is32Bytes each.1) (placement provider page.bindings) (index_of provider name) commitment found (have_sizes provider laws.digest_size page.bindings) in subst Is32Bytes e.3 e.1.1

            reply_form : IsReply reply
            reply_form = (
              form,
              laws.value_size name named,
              (laws.digest_size (provider.value name), size),
              (
                path-level provider.hash laws.digest_size page.nonce (index_of provider name) (placement provider page.bindings) (laws.digest_size (provider.value name)) (is_placement provider laws.digest_size page.bindings) answer.siblings answer.end answer.path,
                path-sizes provider.hash laws.digest_size page.nonce (index_of provider name) (placement provider page.bindings) (laws.digest_size (provider.value name)) (is_placement provider laws.digest_size page.bindings) answer.siblings answer.end answer.path,
              ),
            )

            before : (other : Refusal) → reply_refusal_number other < reply_refusal_number SameIndex → Passes provider.hash accepted body name reply other
            before Malformed less = tt
            before Trailing less = tt
            before OtherRoot less = refl
            before BadVuf less = subst (λ (own : List ℕ). accepted own name (provider.value name)) (sym vuf_key) (laws.value_is_accepted name)
            before SameIndex less = absurd (omega arith)
            before OtherPrefix less = absurd (omega arith)
            before PathMismatch less = absurd (omega arith)

            first : IsFirstToFail (Passes provider.hash accepted body name reply) SameIndex
            first = record { fails = λ passes. passes refl; before = before }
