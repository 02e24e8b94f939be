-- What a search for the history of a name tells: what pages show of the name, and its address.
use Rattle.std.proofs.Common.{◌≡◌, ℕ, ◌-◌, List, [], ◌∷◌, length, Bool, true, Option, Some, None, refl, sym, ap, ◌∙◌, inl, inr}
use Rattle.std.specs.Prelude.{is_some, MatchOption}
use Rattle.std.specs.Option.{option_and_then, option_map, unwrap_or}
use Rattle.std.specs.Ordering.{match_ordering}
use Rattle.std.specs.declared.cmp.Ordering.{Ordering}
use Rattle.std.specs.declared.cmp.Ordering.TheVariants.{Less, Equal, Greater}
use Rattle.prefixtree.proofs.Order.{same-equal}
use Rattle.rand_core.specs.Stream.{Stream}
use Rattle.book.specs.Books.{Binding}
use Rattle.encoding.specs.Maps.{Map, at, put_at}
use Rattle.book.specs.Shows.{Provider}
use Rattle.book.specs.Sound.{HoldsName}
use Rattle.book.proofs.Entries.{found-entry}
use Rattle.epochs.specs.declared.address.Address.{Address}
use Rattle.epochs.specs.Addresses.{AreAddresses, NamesContent, address_of, with_name}
use Rattle.epochs.specs.Histories.{Version, chosen, binding_at, waiting}
use Rattle.epochs.specs.Parts.{Keeps, Parts, last_of, pending_of}
use Rattle.epochs.specs.Versions.{AreHistories}
use Rattle.epochs.proofs.Parts.{book_of}
use Rattle.epochs.proofs.Versions.{at-chosen}
use Rattle.encoding.specs.Bytes.{bytes_cmp}

-- ---- addresses

module _ (provider : Provider) where
  -- the address that is kept with a name is its own
  pub address-kept : (addresses : Map Address) (name : List ℕ) (address : Address) → AreAddresses provider addresses → at addresses name ≡ Some address → address ≡ address_of provider name
  address-kept addresses name address are found =
      let e = found-entry (λ entry. entry.1 ≡ address_of provider entry.0) addresses name address found are in
      sym e.3 ∙ e.1 ∙ ap (address_of provider) e.2

  addresses-put : (addresses : Map Address) (name : List ℕ) (address : Address) → AreAddresses provider addresses → address ≡ address_of provider name → AreAddresses provider (put_at addresses name address)
  addresses-put [] name address are is = (is, tt)
  addresses-put (e ∷ es) name address are is = by (bytes_cmp name e.0) refl (addresses-put es name address are.1 is)
    where
      by : (r : Ordering) → bytes_cmp name e.0 ≡ r → AreAddresses provider (put_at es name address)
          → AreAddresses provider (match_ordering r ((name, address) ∷ e ∷ es) ((e.0, address) ∷ es) (e ∷ put_at es name address))
      by Less same more = (is, are)
      by Equal same more = (is ∙ ap (address_of provider) (same-equal name e.0 same), are.1)
      by Greater same more = (are.0, more)

  -- a version more leaves each name its own
  pub addresses_with : (names : NamesContent) (name : List ℕ) (address : Address) (version : Version) → AreAddresses provider names.addresses → address ≡ address_of provider name
      → AreAddresses provider (with_name names name address version).addresses
  addresses_with names name address version are is = addresses-put names.addresses name (unwrap_or (at names.addresses name) address) are (by (at names.addresses name) refl)
    where
      by : (o : Option Address) → at names.addresses name ≡ o → unwrap_or o address ≡ address_of provider name
      by None found = is
      by (Some kept) found = address-kept names.addresses name kept are found

  -- the address that a look-up takes: the one that is kept, or else the computed one
  pub address_read : (addresses : Map Address) (name : List ℕ) (address : Address)
      → AreAddresses provider addresses → MatchOption (at addresses name) (address ≡ address_of provider name) (λ kept. address ≡ kept) → address ≡ address_of provider name
  address_read addresses name address are taken = by (at addresses name) refl taken
    where
      by : (o : Option Address) → at addresses name ≡ o → MatchOption o (address ≡ address_of provider name) (λ kept. address ≡ kept) → address ≡ address_of provider name
      by None found same = same
      by (Some kept) found same = same ∙ address-kept addresses name kept are found

-- ---- what pages show

pub same-some : {X Y : Type 0} (of : X → Y) (found : Option X) (o : Option Y) → option_map of found ≡ o → is_some found ≡ is_some o
same-some of None o is = ap is_some is
same-some of (Some x) o is = ap is_some is

-- what is chosen of a name
pub chosen_found : {X : Type 0} (f : List Version → Option X) (names : Map (List Version)) (name : List ℕ) → AreHistories names → (found : Option (List Version)) → found ≡ at names name
    → option_and_then f found ≡ at (chosen f names) name
chosen_found f names name are found is = ap (option_and_then f) is ∙ sym (at-chosen f names name are.names_ascend)

module _ (provider : Provider) (parts : Parts) (salt : List ℕ) (left : Stream) (keeps : Keeps provider parts (book_of parts salt left)) (name : List ℕ) where
  -- of a name that has a history
  module _ (len : ℕ) (long : len ≡ length parts.roots) (versions : List Version) (is : Some versions ≡ at parts.names name) where
    pub waits_there : waiting len versions ≡ at (pending_of parts) name
    waits_there = ap (λ (n : ℕ). waiting n versions) long ∙ chosen_found (waiting (length parts.roots)) parts.names name keeps.histories (Some versions) is

    shows-there : binding_at (len - 1) versions ≡ at (last_of parts).bindings name
    shows-there = ap (λ (n : ℕ). binding_at (n - 1) versions) long ∙ chosen_found (binding_at (length parts.roots - 1)) parts.names name keeps.histories (Some versions) is

    pub is_waiting : {X : Type 0} (of : X → Binding) (found : Option X) (some : Bool) → some ≡ is_some found → option_map of found ≡ waiting len versions → some ≡ is_some (at (pending_of parts) name)
    is_waiting of found some some-is has = some-is ∙ same-some of found _ (has ∙ waits_there)

    pub is_shown : {X : Type 0} (of : X → Binding) (found : Option X) (some : Bool) → some ≡ is_some found → option_map of found ≡ binding_at (len - 1) versions → some ≡ is_some (at (last_of parts).bindings name)
    is_shown of found some some-is has = some-is ∙ same-some of found _ (has ∙ shows-there)

  -- of one that has none
  module _ (none : None ≡ at parts.names name) where
    pub none_waits : None ≡ at (pending_of parts) name
    none_waits = chosen_found (waiting (length parts.roots)) parts.names name keeps.histories None none

    pub none_shown : None ≡ at (last_of parts).bindings name
    none_shown = chosen_found (binding_at (length parts.roots - 1)) parts.names name keeps.histories None none

    unheld : HoldsName (book_of parts salt left) name → ⊥
    unheld (inl some) = absurd (cc (ap is_some none_shown, some))
    unheld (inr some) = absurd (cc (ap is_some none_waits, some))

  -- a name that is held has a history
  pub held_there : HoldsName (book_of parts salt left) name → is_some (at parts.names name) ≡ true
  held_there held = by (at parts.names name) refl
    where
      by : (o : Option (List Version)) → at parts.names name ≡ o → is_some o ≡ true
      by None is = absurd (unheld (sym is) held)
      by (Some versions) is = refl
