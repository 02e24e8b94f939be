-- What the parts of a directory say of its book: which pages it has, and the roots and trees beside them.
use Rattle.std.proofs.Common.{◌≡◌, ℕ, zero, suc, ◌+◌, ◌-◌, ◌<◌, ◌≤◌, List, [], ◌∷◌, ◌++◌, length, map, slice_get, Some, refl, sym, ap, subst, ◌∙◌, arith}
use Rattle.std.specs.Option.{option_map}
use Rattle.std.proofs.lemmas.List.{length-map, length_push}
use Rattle.std.proofs.lemmas.List.Elements.{recursion_from_All}
use Rattle.std.proofs.lemmas.Option.{slice_get-map}
use Rattle.rand_core.specs.Stream.{Stream}
use Rattle.encoding.specs.Bytes.{Is32Bytes}
use Rattle.prefixtree.specs.Contents.{Contents}
use Rattle.prefixtree.specs.Placement.{IsPlacement}
use Rattle.rootchain.specs.declared.signed_root.SignedRoot.{SignedRoot}
use Rattle.book.specs.Books.{Binding, Book, Page, pages}
use Rattle.encoding.specs.Maps.{Map}
use Rattle.book.specs.Shows.{Provider, IsRootOf, roots}
use Rattle.book.specs.Sound.{IsPage}
use Rattle.book.proofs.Placed.{is_placement}
use Rattle.book.proofs.Turning.{the-last}
use Rattle.epochs.specs.Ends.{all_but_last}
use Rattle.epochs.specs.Histories.{Version, chosen, binding_at}
use Rattle.epochs.specs.Parts.{Keeps, Parts, earlier_of, last_of, last_root, no_root, page_of, pages_from, pending_of, tree_of}
use Rattle.epochs.proofs.Ends.{front_final, slice_get-final}
use Rattle.epochs.proofs.Finding.{root_beside}

-- the book of these parts, with this salt and this stream left
abbrev pub book_of : Parts → List ℕ → Stream → Book
book_of parts salt left = record { earlier = earlier_of parts; last = last_of parts; pending = pending_of parts; salt = salt; left = left }

-- ---- pages from a number on

module _ (names : Map (List Version)) where
  pub length_pages : (number : ℕ) (roots : List SignedRoot) → length (pages_from names number roots) ≡ length roots
  length_pages number [] = refl
  length_pages number (root ∷ roots) = ap suc (length_pages (suc number) roots)

  pages-push : (number : ℕ) (roots : List SignedRoot) (root : SignedRoot) → pages_from names number (roots ++ root ∷ []) ≡ pages_from names number roots ++ page_of names (number + length roots) root ∷ []
  pages-push number [] root = ap (λ (n : ℕ). page_of names n root ∷ []) place
    where
      place : number ≡ number + 0
      place = omega arith
  pages-push number (first ∷ roots) root =
      ap (λ (l : List Page). page_of names number first ∷ l)
      (pages-push (suc number) roots root ∙ ap (λ (n : ℕ). pages_from names (suc number) roots ++ page_of names n root ∷ []) place)
    where
      place : suc number + length roots ≡ number + length (first ∷ roots)
      place = omega arith

  pages-at : (number : ℕ) (roots : List SignedRoot) (k : ℕ) (root : SignedRoot) → slice_get roots k ≡ Some root → slice_get (pages_from names number roots) k ≡ Some (page_of names (number + k) root)
  pages-at number [] k root is = absurd cc
  pages-at number (first ∷ roots) zero root is =
      let same : first ≡ root = cc in
      ap (λ (r : SignedRoot). Some (page_of names number r)) same ∙ ap (λ (n : ℕ). Some (page_of names n root)) place
    where
      place : number ≡ number + 0
      place = omega arith
  pages-at number (first ∷ roots) (suc k) root is = pages-at (suc number) roots k root is ∙ ap (λ (n : ℕ). Some (page_of names n root)) place
    where
      place : suc number + k ≡ number + suc k
      place = omega arith

  -- the page at a place
  pub page_get : (roots : List SignedRoot) (k : ℕ) (root : SignedRoot) → slice_get roots k ≡ Some root → slice_get (pages_from names 0 roots) k ≡ Some (page_of names k root)
  page_get roots k root is = pages-at 0 roots k root is ∙ ap (λ (n : ℕ). Some (page_of names n root)) place
    where
      place : 0 + k ≡ k
      place = omega arith

-- names that show the same below a number have the same pages below it
pub pages_alike : (names others : Map (List Version)) (bound : ℕ) → ((p : ℕ) → p < bound → chosen (binding_at p) others ≡ chosen (binding_at p) names)
    → (number : ℕ) (roots : List SignedRoot) → number + length roots ≤ bound → pages_from others number roots ≡ pages_from names number roots
pages_alike names others bound same number [] within = refl
pages_alike names others bound same number (root ∷ roots) within =
    ap (λ (bindings : Map Binding). record { epoch = root.body.epoch; nonce = root.body.nonce; bindings = bindings } ∷ pages_from others (suc number) roots) (same number (omega (arith, within)))
    ∙ ap (λ (l : List Page). page_of names number root ∷ l) (pages_alike names others bound same (suc number) roots (omega (arith, within)))

-- ---- of parts

module _ (parts : Parts) (some : 0 < length parts.roots) where
  whole : all_but_last parts.roots ++ last_root parts ∷ [] ≡ parts.roots
  whole = front_final no_root parts.roots some

  pub length_front : length (all_but_last parts.roots) ≡ length parts.roots - 1
  length_front = omega (arith, ap length whole, length_push (all_but_last parts.roots) (last_root parts), some)

  -- the pages of the book are numbered from 0
  pub pages_kept : (salt : List ℕ) (left : Stream) → pages (book_of parts salt left) ≡ pages_from parts.names 0 parts.roots
  pages_kept salt left =
      ap (λ (n : ℕ). earlier_of parts ++ page_of parts.names n (last_root parts) ∷ []) place
      ∙ sym (pages-push parts.names 0 (all_but_last parts.roots) (last_root parts)) ∙ ap (pages_from parts.names 0) whole
    where
      place : length parts.roots - 1 ≡ 0 + length (all_but_last parts.roots)
      place = omega (arith, length_front)

  pub last_get : slice_get parts.roots (length parts.roots - 1) ≡ Some (last_root parts)
  last_get = slice_get-final no_root parts.roots some

  -- the page at the place of a root
  pub page_kept : (salt : List ℕ) (left : Stream) (k : ℕ) (root : SignedRoot) → slice_get parts.roots k ≡ Some root → slice_get (pages (book_of parts salt left)) k ≡ Some (page_of parts.names k root)
  page_kept salt left k root is = ap (λ (l : List Page). slice_get l k) (pages_kept salt left) ∙ page_get parts.names parts.roots k root is

-- ---- of parts that keep their book

module _ (provider : Provider) (parts : Parts) (salt : List ℕ) (left : Stream) (keeps : Keeps provider parts (book_of parts salt left)) where
  pub length_trees : length parts.trees ≡ length parts.roots
  length_trees =
      ap length (keeps.trees ∙ ap (map (tree_of provider)) (pages_kept parts keeps.begun salt left))
      ∙ length-map (pages_from parts.names 0 parts.roots) (tree_of provider) ∙ length_pages parts.names 0 parts.roots

  pub tree_kept : (k : ℕ) (root : SignedRoot) → slice_get parts.roots k ≡ Some root → slice_get parts.trees k ≡ Some (tree_of provider (page_of parts.names k root))
  tree_kept k root is =
      ap (λ (l : List Contents). slice_get l k) keeps.trees ∙ slice_get-map (tree_of provider) (pages (book_of parts salt left)) k
      ∙ ap (option_map (tree_of provider)) (page_kept parts keeps.begun salt left k root is)

  pub last_tree_kept : slice_get parts.trees (length parts.trees - 1) ≡ Some (tree_of provider (last_of parts))
  last_tree_kept = ap (λ (n : ℕ). slice_get parts.trees (n - 1)) length_trees ∙ tree_kept (length parts.roots - 1) (last_root parts) (last_get parts keeps.begun)

  -- each root is that of the page at its place
  pub root_kept : (k : ℕ) (root : SignedRoot) → slice_get parts.roots k ≡ Some root → IsRootOf provider (book_of parts salt left) (page_of parts.names k root) root
  root_kept k root is =
      root_beside provider (book_of parts salt left) k (page_of parts.names k root) root (page_kept parts keeps.begun salt left k root is)
      (ap (λ (l : List SignedRoot). slice_get l k) (sym keeps.roots) ∙ is)

  pub last_root_kept : IsRootOf provider (book_of parts salt left) (last_of parts) (last_root parts)
  last_root_kept = root_kept (length parts.roots - 1) (last_root parts) (last_get parts keeps.begun)

  pub last_is_page : IsPage (last_of parts)
  last_is_page = the-last IsPage (earlier_of parts) (last_of parts) (recursion_from_All IsPage (pages (book_of parts salt left)) keeps.sound.pages)

  -- the last epoch is at least 1
  pub last_from_one : 0 < (last_root parts).body.epoch
  last_from_one = last_is_page.epoch.0

  pub waiting_is_placement : ((text : List ℕ) → Is32Bytes (provider.hash text)) → IsPlacement parts.waiting
  waiting_is_placement size = subst IsPlacement (sym keeps.waiting) (is_placement provider size (pending_of parts))
