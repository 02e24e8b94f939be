-- How many bytes the texts of the three kinds of nodes have.
use Rattle.std.proofs.Common.{◌≡◌, ℕ, List, [], ◌∷◌, ◌++◌, length, length-append, refl, ap, ◌∙◌, arith}
use Rattle.encoding.specs.Bits.{cut}
use Rattle.encoding.proofs.Agreement.{length-cut}
use Rattle.nodehash.specs.NodeTexts.{level_bytes, IsEmptyText, IsLeafText, IsInteriorText}

length-level : (level : ℕ) → length (level_bytes level) ≡ 4
length-level level = refl

pub empty_size : (text : List ℕ) → IsEmptyText text → length text ≡ 69
empty_size text (nonce, index, level, n, i, is) =
    ap length is ∙ length-append (0x45 ∷ [] ++ nonce ++ cut index level) (level_bytes level)
    ∙ omega (arith, length-append (0x45 ∷ [] ++ nonce) (cut index level), length-append (0x45 ∷ []) nonce, length-cut index level, length-level level, n.0, i.0)

pub leaf_size : (text : List ℕ) → IsLeafText text → length text ≡ 101
leaf_size text (nonce, index, commitment, level, n, i, c, is) =
    ap length is ∙ length-append (0x4C ∷ [] ++ nonce ++ index ++ level_bytes level) commitment
    ∙ omega (arith, length-append (0x4C ∷ [] ++ nonce ++ index) (level_bytes level), length-append (0x4C ∷ [] ++ nonce) index, length-append (0x4C ∷ []) nonce, length-level level, n.0, i.0, c.0)

pub interior_size : (text : List ℕ) → IsInteriorText text → length text ≡ 64
interior_size text (zero_side, one_side, z, o, is) =
    ap length is ∙ length-append zero_side one_side ∙ omega (arith, z.0, o.0)

-- no text has two of these sizes
pub empty_no_leaf : (text : List ℕ) → IsEmptyText text → ¬ IsLeafText text
empty_no_leaf text e l = omega (arith, empty_size text e, leaf_size text l)

pub leaf_no_interior : (text : List ℕ) → IsLeafText text → ¬ IsInteriorText text
leaf_no_interior text l i = omega (arith, leaf_size text l, interior_size text i)

pub interior_no_empty : (text : List ℕ) → IsInteriorText text → ¬ IsEmptyText text
interior_no_empty text i e = omega (arith, interior_size text i, empty_size text e)
