-- The line that tells an alarm has the words of which a memory has it.
use Rattle.std.proofs.Common.{◌≡◌, ℕ, List, [], ◌∷◌, ◌++◌, Option, None, Some, append_assoc, codes, decimal, ap, refl, ◌∙◌}
use Rattle.std.proofs.lemmas.List.{append-nil}
use Rattle.encoding.specs.Policies.{policy_word}
use Rattle.encoding.specs.declared.bound_key.BoundKey.{BoundKey}
use Rattle.encoding.specs.declared.policy.Policy.{Policy}
use Rattle.hex.specs.Hex.{encode_lower}
use Rattle.memory.specs.Lines.{found_words, line_of, policy_words}
use Rattle.play.specs.Lines.{policy_text}
use Rattle.play.specs.Telling.{placed_text}
use Rattle.play.specs.Watchers.{alarm_key}

-- two words and a text, with a space between them
spaced : (one two rest : List ℕ) → one ++ 32 ∷ [] ++ two ++ 32 ∷ [] ++ rest ≡ one ++ (32 ∷ (two ++ (32 ∷ rest)))
spaced one two rest =
    append_assoc (one ++ 32 ∷ [] ++ two) (32 ∷ []) rest ∙ append_assoc (one ++ 32 ∷ []) two (32 ∷ rest) ∙ append_assoc one (32 ∷ []) (two ++ (32 ∷ rest))

behind_word : (one two rest rest' : List ℕ) → rest ≡ rest' → one ++ 32 ∷ [] ++ two ++ 32 ∷ [] ++ rest ≡ one ++ (32 ∷ (two ++ (32 ∷ rest')))
behind_word one two rest rest' same = spaced one two rest ∙ ap (λ (r : List ℕ). one ++ (32 ∷ (two ++ (32 ∷ r)))) same

pub alarm_line : (name : List ℕ) (epoch : ℕ) (found : Option BoundKey) → placed_text (codes "alarm ") name epoch ++ codes " " ++ alarm_key found ≡ line_of (codes "alarm" ∷ encode_lower name ∷ decimal epoch ∷ found_words found)
alarm_line name epoch None = ap (λ (t : List ℕ). codes "alarm " ++ t) (behind_word (encode_lower name) (decimal epoch) (codes "absent") (codes "absent") refl)
alarm_line name epoch (Some key) = by key.policy
  where
    by : (policy : Option Policy) → placed_text (codes "alarm ") name epoch ++ codes " " ++ (encode_lower key.value ++ policy_text policy) ≡ line_of (codes "alarm" ∷ encode_lower name ∷ decimal epoch ∷ encode_lower key.value ∷ policy_words policy)
    by None = ap (λ (t : List ℕ). codes "alarm " ++ t) (behind_word (encode_lower name) (decimal epoch) (encode_lower key.value ++ []) (encode_lower key.value) (append-nil (encode_lower key.value)))
    by (Some policy) = ap (λ (t : List ℕ). codes "alarm " ++ t) (behind_word (encode_lower name) (decimal epoch) (encode_lower key.value ++ (32 ∷ policy_word policy)) _ refl)
