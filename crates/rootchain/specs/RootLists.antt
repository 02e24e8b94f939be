-- A list of signed roots, as a directory shows it (after CONIKS, section 3; the bytes are this
-- directory's own).
use Rattle.std.specs.Prelude.{◌≡◌, ℕ, ◌≤◌, List, [], ◌++◌, length, Result, Ok, Err}
use Rattle.std.specs.List.{flat_map, AllByRecursion}
use Rattle.encoding.specs.Endian.{big_bytes}
use Rattle.encoding.specs.Fields.{Spells}
use Rattle.encoding.specs.declared.fault.Fault.{Fault}
use Rattle.encoding.specs.Reading.{Reading, is_within, read_list, read_number, read_then, read_where}
use Rattle.rootchain.specs.declared.signed_root.SignedRoot.{SignedRoot}
use Rattle.rootchain.specs.SignedRoots.{read_signed_root, signed_root_bytes, IsSignedRoot}
use Rattle.rootchain.specs.declared.root_list.TheConstants.{MAX_ROOTS}

-- their number in two bytes, then each of them
abbrev pub root_list_bytes : List SignedRoot → List ℕ
root_list_bytes roots = big_bytes 2 (length roots) ++ flat_map signed_root_bytes roots

-- signed roots, no more than a list may have
abbrev pub IsRootList : List SignedRoot → Type 0
IsRootList roots = (length roots ≤ MAX_ROOTS) × AllByRecursion IsSignedRoot roots

-- the bytes spell the list of these roots
abbrev pub SpellsRoots : List ℕ → List SignedRoot → Type 0
SpellsRoots = Spells root_list_bytes IsRootList

-- ---- reading

-- the number of roots
unfoldable pub read_root_count : List ℕ → Reading ℕ
read_root_count = read_where (is_within 0 MAX_ROOTS) (read_number 2)

-- so many roots
unfoldable pub read_roots : ℕ → List ℕ → Reading (List SignedRoot)
read_roots = read_list read_signed_root

unfoldable pub read_root_list : List ℕ → Reading (List SignedRoot)
read_root_list = read_then read_root_count read_roots

-- the roots that were read; none if reading was refused
abbrev pub roots_of : Reading (List SignedRoot) → List SignedRoot
roots_of (Ok read) = read.0
roots_of (Err fault) = []

-- the roots of a list of which so many are left, in these bytes
abbrev pub roots_in : ℕ → List ℕ → List SignedRoot
roots_in count bytes = roots_of (read_roots count bytes)

-- the bytes have so many roots, and no more
abbrev pub IsListed : ℕ → List ℕ → Type 0
IsListed count bytes = (count ≤ MAX_ROOTS) × (read_roots count bytes ≡ Ok (roots_in count bytes, []))

-- so many roots stand in the bytes, and nothing after them
abbrev pub HasRoots : ℕ → List ℕ → Type 0
HasRoots count bytes = (roots : List SignedRoot) × (read_roots count bytes ≡ Ok (roots, []))

-- so many roots are read, up to what is left; or reading them is refused
abbrev pub PassesRoots : {A : Type 0} → ℕ → List ℕ → Result A Fault → List ℕ → Type 0
PassesRoots count old (Ok _) new = (roots : List SignedRoot) × (read_roots count old ≡ Ok (roots, new))
PassesRoots count old (Err fault) new = read_roots count old ≡ Err fault
