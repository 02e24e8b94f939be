-- A line is split at its first space.
use Rattle.std.proofs.Common.{◌≡◌, ◌≢◌, ℕ, zero, suc, ◌<◌, List, [], ◌∷◌, ◌==◌, Option, None, Bool, true, false, ap, refl, ◌∙◌, get_or, length, take, drop, arith}
use Rattle.std.specs.List.{onto_first}
use Rattle.std.proofs.lemmas.Bool.{ne_eqb}
use Rattle.std.proofs.lemmas.List.Splits.{slice_split-cons_yes, slice_split-cons_no}
use Rattle.play.specs.Scripts.{with_no_word, words, ScriptLine, one_of}

abbrev is_space : ℕ → Bool
is_space byte = byte == 32

pub words_at : (text : List ℕ) (place : ℕ) → place < length text → ((j : ℕ) → j < place → get_or text j 0 ≢ 32) → get_or text place 0 ≡ 32
    → words text ≡ take place text ∷ words (drop 1 (drop place text))
words_at [] place within before at = absurd (omega (arith, within))
words_at (byte ∷ text) zero within before at = slice_split-cons_yes is_space byte text (rw at refl)
words_at (byte ∷ text) (suc place) within before at =
    slice_split-cons_no is_space byte text (ne_eqb byte 32 (before 0 (omega arith)))
    ∙ ap (onto_first byte) (words_at text place (omega (arith, within)) (λ j below. before (suc j) (omega (arith, below))) at)

pub words_none : (text : List ℕ) → ((j : ℕ) → j < length text → get_or text j 0 ≢ 32) → words text ≡ text ∷ []
words_none [] none = refl
words_none (byte ∷ text) none =
    slice_split-cons_no is_space byte text (ne_eqb byte 32 (none 0 (omega arith)))
    ∙ ap (onto_first byte) (words_none text (λ j below. none (suc j) (omega (arith, below))))

-- a text has a first word
pub is_some_word : (text : List ℕ) → (word : List ℕ) × (more : List (List ℕ)) × (words text ≡ word ∷ more)
is_some_word [] = ([], [], refl)
is_some_word (byte ∷ text) = by (is_some_word text) (byte == 32) refl
  where
    by : (word : List ℕ) × (more : List (List ℕ)) × (words text ≡ word ∷ more) → (space : Bool) → (byte == 32) ≡ space → (word : List ℕ) × (more : List (List ℕ)) × (words (byte ∷ text) ≡ word ∷ more)
    by rest true e = ([], words text, slice_split-cons_yes is_space byte text e)
    by rest false e = (byte ∷ rest.0, rest.1, slice_split-cons_no is_space byte text e ∙ ap (onto_first byte) rest.2)

pub none_alone : (word text : List ℕ) → one_of (word ∷ words text) ≡ None
none_alone word text = let rest = is_some_word text in ap (λ list. one_of (word ∷ list)) rest.2

pub with_none_some : (said : Option ScriptLine) (text : List ℕ) → with_no_word said (words text) ≡ None
with_none_some said text = let rest = is_some_word text in ap (with_no_word said) rest.2
