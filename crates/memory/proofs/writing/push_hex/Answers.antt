use Rattle.std.proofs.Common.{◌≡◌, ℕ, zero, suc, ◌/◌, ◌%◌, List, [], ◌∷◌, ◌++◌, take, drop, refl, ap, append_assoc, ◌∙◌}
use Rattle.std.specs.Prelude.{slice_index}
use Rattle.std.proofs.Transfers.{starts_with_of_append, starts_with_trans}
use Rattle.hex.specs.Hex.{encode_lower, encode_with, lower_digits}
use Rattle.memory.proofs.writing.push_hex.Goals as goal

-- the digits of two parts
encode_with-parts : (digits : List ℕ) (n : ℕ) (bytes : List ℕ) → encode_with digits (take n bytes) ++ encode_with digits (drop n bytes) ≡ encode_with digits bytes
unfolding encode_with
encode_with-parts digits zero bytes = refl
encode_with-parts digits (suc n) [] = refl
encode_with-parts digits (suc n) (byte ∷ more) =
    ap (λ (l : List ℕ). slice_index digits (byte / 16) ∷ slice_index digits (byte % 16) ∷ l) (encode_with-parts digits n more)

pub loop-rest-preserved : goal.loop-rest-preserved
loop-rest-preserved c =
    let text = c.loop-rest.text.items in
    let rest = c.loop-rest.rest.now in
    let behind = encode_lower c.split_at.result.1.now in
    let front : c.hex_digits.result ≡ encode_lower (take 32 rest) = c.hex_digits.ensures ∙ ap encode_lower c.split_at.ensures.front in
    let back : behind ≡ encode_lower (drop 32 rest) = ap encode_lower c.split_at.ensures.back in
    let parts : encode_lower (take 32 rest) ++ encode_lower (drop 32 rest) ≡ encode_lower rest = encode_with-parts lower_digits 32 rest in (
      ap (λ (l : List ℕ). l ++ behind) c.in_ok-extend_from_slice.ensures.items ∙ append_assoc text c.hex_digits.result behind
          ∙ ap (λ (l : List ℕ). text ++ (l ++ behind)) front ∙ ap (λ (l : List ℕ). text ++ (encode_lower (take 32 rest) ++ l)) back
          ∙ ap (λ (l : List ℕ). text ++ l) parts ∙ c.loop-rest.invariant.0,
      starts_with_trans _ _ _ (starts_with_of_append _ _ _ c.in_ok-extend_from_slice.ensures.items) c.loop-rest.invariant.1,
    )
