-- Two ways from one root come to one text at their ends, or to a collision.
use Rattle.std.proofs.Common.{◌≡◌, ◌≢◌, ℕ, ◌+◌, inl, inr, Bool, true, false, cond, List, [], ◌∷◌, ◌++◌, length, Option, Some, None, refl, sym, ap, ◌∙◌, arith}
use Rattle.std.specs.Prelude.{◌==◌}
use Rattle.std.proofs.lemmas.List.{length-append}
use Rattle.encoding.specs.Bits.{bit}
use Rattle.encoding.specs.Bytes.{Is32Bytes}
use Rattle.encoding.specs.Limits.{IsName}
use Rattle.encoding.specs.declared.bound_key.BoundKey.{BoundKey}
use Rattle.encoding.proofs.Beginnings.{same_beginning}
use Rattle.nodehash.specs.Collisions.{IsCollision}
use Rattle.nodehash.specs.NodeTexts.{leaf_bytes, level_bytes}
use Rattle.commit.specs.Commitments.{commitment_bytes}
use Rattle.commit.proofs.Openings.{equal_texts_open_alike}
use Rattle.prefixtree.specs.Paths.{parent_text}
use Rattle.proofs.specs.Accepts.{stated}
use Rattle.proofs.specs.Comparisons.{opened}
use Rattle.proofs.specs.PathEnds.{end_text}
use Rattle.proofs.specs.Refusals.{AbsenceIsByAnother}
use Rattle.proofs.specs.Replies.{End, Present, Empty, Other, IsEnd}
use Rattle.prefixtree.specs.Paths.{node_text}
use Rattle.proofs.specs.WayTexts.{way_texts, AreFirstToDiffer}
use Rattle.proofs.proofs.Differing.{AreHashes}

abbrev first_byte : List ℕ → ℕ
first_byte [] = 0
first_byte (byte ∷ bytes) = byte

abbrev some : List ℕ → Option (List ℕ)
some x = Some x

abbrev some_key : BoundKey → Option BoundKey
some_key key = Some key

pub nothing_is_some : (x : List ℕ) → None ≡ some x → ⊥
nothing_is_some x e = absurd cc

pub some_is : (x y : List ℕ) → some x ≡ some y → x ≡ y
some_is x y e = cc

-- an interior text has one child on the side of the index
child_is : (index : List ℕ) (k : ℕ) (below beside other_below other_beside : List ℕ) → length below ≡ 32 → length beside ≡ 32 → length other_below ≡ 32 → length other_beside ≡ 32
    → parent_text index k below beside ≡ parent_text index k other_below other_beside → below ≡ other_below
child_is index k below beside other_below other_beside p q r t e = by (bit index k == 0) e
  where
    by : (b : Bool) → cond b (below ++ beside) (beside ++ below) ≡ cond b (other_below ++ other_beside) (other_beside ++ other_below) → below ≡ other_below
    by true e = (same_beginning below other_below beside other_beside (p ∙ sym r) e).0
    by false e = (same_beginning beside other_beside below other_below (q ∙ sym t) e).1

nothing_differs : (texts : List (List ℕ)) (x y : List ℕ) → AreFirstToDiffer texts [] x y → ⊥
nothing_differs [] x y differ = differ
nothing_differs (text ∷ texts) x y differ = differ

module _ (hash : List ℕ → List ℕ) (size : (text : List ℕ) → Is32Bytes (hash text)) where
  at_once : (text other x y : List ℕ) → text ≢ other → x ≡ text → y ≡ other → hash text ≡ hash other → IsCollision hash x y
  at_once text other x y differ x_is y_is e =
      record { differ = λ same. differ (sym x_is ∙ same ∙ y_is); same = ap hash x_is ∙ e ∙ sym (ap hash y_is) }

  -- the first two texts that differ below one hash collide
  pub collide : (index : List ℕ) (k : ℕ) (siblings others : List (List ℕ)) (end other_end x y : List ℕ) → AreHashes siblings → AreHashes others
      → AreFirstToDiffer (way_texts hash index k siblings end) (way_texts hash index k others other_end) x y
      → hash (node_text hash index k siblings end) ≡ hash (node_text hash index k others other_end) → IsCollision hash x y
  collide index k [] [] end other_end x y p q (inl (differ, x_is, y_is)) e = at_once end other_end x y differ x_is y_is e
  collide index k [] [] end other_end x y p q (inr (same, more)) e = absurd more
  collide index k [] (u ∷ us) end other_end x y p q (inl (differ, x_is, y_is)) e = at_once end (node_text hash index k (u ∷ us) other_end) x y differ x_is y_is e
  collide index k [] (u ∷ us) end other_end x y p q (inr (same, more)) e = absurd more
  collide index k (s ∷ ss) [] end other_end x y p q (inl (differ, x_is, y_is)) e = at_once (node_text hash index k (s ∷ ss) end) other_end x y differ x_is y_is e
  collide index k (s ∷ ss) [] end other_end x y p q (inr (same, more)) e = absurd (nothing_differs (way_texts hash index (k + 1) ss end) x y more)
  collide index k (s ∷ ss) (u ∷ us) end other_end x y p q (inl (differ, x_is, y_is)) e =
      at_once (node_text hash index k (s ∷ ss) end) (node_text hash index k (u ∷ us) other_end) x y differ x_is y_is e
  collide index k (s ∷ ss) (u ∷ us) end other_end x y p q (inr (same, more)) e =
      let text = node_text hash index (k + 1) ss end in
      let other = node_text hash index (k + 1) us other_end in
      collide index (k + 1) ss us end other_end x y p.1 q.1 more (child_is index k (hash text) s (hash other) u (size text).0 p.0.0 (size other).0 q.0.0 same)

  not_none : (index : List ℕ) (k : ℕ) (siblings : List (List ℕ)) (end : List ℕ) → way_texts hash index k siblings end ≡ [] → ⊥
  not_none index k [] end e = cc
  not_none index k (s ∷ ss) end e = cc

  -- the same texts have the same text at the end
  pub same_ends : (index : List ℕ) (k : ℕ) (siblings others : List (List ℕ)) (end other_end : List ℕ) → way_texts hash index k siblings end ≡ way_texts hash index k others other_end → end ≡ other_end
  same_ends index k [] [] end other_end e = cc
  same_ends index k [] (u ∷ us) end other_end e = let none : way_texts hash index (k + 1) us other_end ≡ [] = cc in absurd (not_none index (k + 1) us other_end none)
  same_ends index k (s ∷ ss) [] end other_end e = let none : way_texts hash index (k + 1) ss end ≡ [] = cc in absurd (not_none index (k + 1) ss end none)
  same_ends index k (s ∷ ss) (u ∷ us) end other_end e =
      let more : way_texts hash index (k + 1) ss end ≡ way_texts hash index (k + 1) us other_end = cc in same_ends index (k + 1) ss us end other_end more

-- a leaf's text has one index and one commitment
leaf_parts : (nonce index other commitment other_commitment : List ℕ) (n m : ℕ) → length index ≡ length other
    → leaf_bytes nonce index n commitment ≡ leaf_bytes nonce other m other_commitment → (index ≡ other) × (commitment ≡ other_commitment)
leaf_parts nonce index other commitment other_commitment n m sizes e =
    let inside : nonce ++ index ++ level_bytes n ++ commitment ≡ nonce ++ other ++ level_bytes m ++ other_commitment = cc in
    let fronts : length (nonce ++ index) ≡ length (nonce ++ other) = length-append nonce index ∙ ap (λ (x : ℕ). length nonce + x) sizes ∙ sym (length-append nonce other) in
    let levels : length (nonce ++ index ++ level_bytes n) ≡ length (nonce ++ other ++ level_bytes m) =
    length-append (nonce ++ index) (level_bytes n) ∙ ap (λ (x : ℕ). x + 4) fronts ∙ sym (length-append (nonce ++ other) (level_bytes m)) in
    let outer = same_beginning (nonce ++ index ++ level_bytes n) (nonce ++ other ++ level_bytes m) commitment other_commitment levels inside in
    let inner = same_beginning (nonce ++ index) (nonce ++ other) (level_bytes n) (level_bytes m) fronts outer.0 in
    ((same_beginning nonce nonce index other refl inner.0).1, outer.1)

-- both ends open a commitment, and the two texts collide
pub record BothOpen (hash : List ℕ → List ℕ) (name : List ℕ) (end other : End) : Type 0 where
  pub x : List ℕ
  pub y : List ℕ
  pub x_is : opened name end ≡ Some x
  pub y_is : opened name other ≡ Some y
  pub collision : IsCollision hash x y

module _ (hash : List ℕ → List ℕ) (nonce name index : List ℕ) (named : IsName name) (size : length index ≡ 32) (n m : ℕ) where
  -- two ends of one text that state two things
  pub both_open : (end other : End) → IsEnd end → IsEnd other → AbsenceIsByAnother index end → AbsenceIsByAnother index other
      → (stated end ≡ stated other → ⊥) → end_text hash nonce name index n end ≡ end_text hash nonce name index m other → BothOpen hash name end other
  both_open (Present salt key) (Present other_salt other_key) p q another other_another differ e =
      record {
        x = commitment_bytes salt name key;
        y = commitment_bytes other_salt name other_key;
        x_is = refl;
        y_is = refl;
        collision = record {
          differ = λ same. differ (ap some_key (equal_texts_open_alike salt other_salt name name key other_key (p.0.0 ∙ sym q.0.0) (omega (arith, named.1)) (omega (arith, named.1)) same).2);
          same = (leaf_parts nonce index index (hash (commitment_bytes salt name key)) (hash (commitment_bytes other_salt name other_key)) n m refl e).1;
        };
      }
  both_open (Present salt key) Empty p q another other_another differ e = let kinds : 76 ≡ 69 = ap first_byte e in absurd (omega (arith, kinds))
  both_open (Present salt key) (Other other commitment) p q another other_another differ e =
      absurd (other_another (sym (leaf_parts nonce index other (hash (commitment_bytes salt name key)) commitment n m (size ∙ sym q.0.0) e).0))
  both_open Empty (Present salt key) p q another other_another differ e = let kinds : 69 ≡ 76 = ap first_byte e in absurd (omega (arith, kinds))
  both_open Empty Empty p q another other_another differ e = absurd (differ refl)
  both_open Empty (Other other commitment) p q another other_another differ e = absurd (differ refl)
  both_open (Other other commitment) (Present salt key) p q another other_another differ e =
      absurd (another (leaf_parts nonce other index commitment (hash (commitment_bytes salt name key)) n m (p.0.0 ∙ sym size) e).0)
  both_open (Other other commitment) Empty p q another other_another differ e = absurd (differ refl)
  both_open (Other other commitment) (Other another_index another_commitment) p q another other_another differ e = absurd (differ refl)
