-- Digests that were taken with others.
use Rattle.std.proofs.Common.{◌≡◌, ◌<◌, ◌∙◌, ℕ, List, length, map, slice_index_or, ap, subst, sym}
use Rattle.std.proofs.lemmas.List.{get_or-map}

-- the digest that stands where the text does
pub digest_at : (digest_of : List ℕ → List ℕ) (texts digests : List (List ℕ)) (n : ℕ) (text here : List ℕ) → digests ≡ map digest_of texts → n < length texts
    → text ≡ slice_index_or texts n text → slice_index_or digests n here ≡ digest_of text
digest_at digest_of texts digests n text here all within is =
    subst (λ (known : List (List ℕ)). slice_index_or known n here ≡ digest_of text) (sym all) (get_or-map digest_of texts n text here within ∙ ap digest_of (sym is))
