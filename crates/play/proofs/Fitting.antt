-- What a line asks has room in a frame.
use Rattle.std.proofs.Common.{◌≡◌, ℕ, List, [], ◌∷◌, Bool, true, false, cond, Option, Some, None, refl, subst}
use Rattle.std.specs.Prelude.{◌&&◌, nat_eq, nat_le, option_and_then}
use Rattle.std.specs.List.{AllByRecursion}
use Rattle.std.specs.Str.{bytes_eq}
use Rattle.std.proofs.lemmas.Bool.{leb-true}
use Rattle.encoding.specs.Policies.{policy_byte, policy_named}
use Rattle.encoding.specs.declared.policy.Policy.{Policy}
use Rattle.wire.specs.declared.frame.TheConstants.{MAX_FRAME_LEN}
use Rattle.wire.specs.Frames.{frame_size}
use Rattle.textio.specs.Digits.{hex32}
use Rattle.commands.specs.declared.edit.Verb.{Verb}
use Rattle.commands.specs.declared.edit.Verb.TheVariants.{Register, Change}
use Rattle.commands.specs.Operations.{Promise, Lookup, History, Head}
use Rattle.wire.specs.Requests.{RequestContent, Query, Put, Turn, request_frame}
use Rattle.book.specs.Steps.{has_length_within}
use Rattle.play.specs.Scripts.{ScriptLine, Pass, Ask, Watch, Piece, End, asking, count_word, epoch_word, hex_word, key_or_none, line_of, line_of_words, putting_with, said_among, session_word, token, verbs, watching, watching_with, with_no_word, with_one_word, with_two_words, with_three_words, words, LineFits}

some_same : {X : Type 0} (x y : X) → Some x ≡ Some y → x ≡ y
some_same x y e = cc

-- what is said, if something is, fits
abbrev SaysFitting : Option ScriptLine → Type 0
SaysFitting said = (line : ScriptLine) → said ≡ Some line → LineFits line

none_fits : SaysFitting None
none_fits line e = absurd cc

own_fits : (line : ScriptLine) → LineFits line → SaysFitting (Some line)
own_fits line fits other e = subst LineFits (some_same line other e) fits

asking_fits : (requested : RequestContent) → SaysFitting (asking requested)
asking_fits requested = by (nat_le (frame_size (request_frame requested)) MAX_FRAME_LEN) refl
  where
    by : (b : Bool) → nat_le (frame_size (request_frame requested)) MAX_FRAME_LEN ≡ b → SaysFitting (cond b (Some (Ask requested)) None)
    by true is = own_fits (Ask requested) (leb-true (frame_size (request_frame requested)) MAX_FRAME_LEN is)
    by false is = none_fits

watching_fits : (name key : List ℕ) → SaysFitting (watching name key)
watching_fits name key = by (has_length_within 1 255 name && has_length_within 0 2048 key)
  where
    by : (b : Bool) → SaysFitting (cond b (Some (Watch name (key_or_none key))) None)
    by true = own_fits (Watch name (key_or_none key)) tt
    by false = none_fits

watching_with_fits : (name key : List ℕ) (policy : Policy) → SaysFitting (watching_with name key policy)
watching_with_fits name key policy = by (has_length_within 1 255 name && has_length_within 1 2048 key)
  where
    by : (b : Bool) → SaysFitting (cond b (Some (Watch name (Some (record { value = key; policy = Some policy })))) None)
    by true = own_fits (Watch name (Some (record { value = key; policy = Some policy }))) tt
    by false = none_fits

then_fits : {A : Type 0} (said : A → Option ScriptLine) → ((a : A) → SaysFitting (said a)) → (found : Option A) → SaysFitting (option_and_then said found)
then_fits said fits None = none_fits
then_fits said fits (Some a) = fits a

abbrev AllFit : (List (List ℕ) → Option ScriptLine) → Type 0
AllFit says = (behind : List (List ℕ)) → SaysFitting (says behind)

none_all : (said : Option ScriptLine) → SaysFitting said → AllFit (with_no_word said)
none_all said fits [] = fits
none_all said fits (_ ∷ _) = none_fits

one_all : {A : Type 0} (word : List ℕ → Option A) (said : A → Option ScriptLine) → ((a : A) → SaysFitting (said a)) → AllFit (with_one_word word said)
one_all word said fits [] = none_fits
one_all word said fits (one ∷ []) = then_fits said fits (word one)
one_all word said fits (_ ∷ _ ∷ _) = none_fits

two_all : {A B : Type 0} (word : List ℕ → Option A) (other_word : List ℕ → Option B) (said : A → B → Option ScriptLine) → ((a : A) (b : B) → SaysFitting (said a b)) → AllFit (with_two_words word other_word said)
two_all word other_word said fits [] = none_fits
two_all word other_word said fits (_ ∷ []) = none_fits
two_all word other_word said fits (one ∷ other ∷ []) = then_fits (λ a. option_and_then (said a) (other_word other)) (λ a. then_fits (said a) (fits a) (other_word other)) (word one)
two_all word other_word said fits (_ ∷ _ ∷ _ ∷ _) = none_fits

three_all : {A B C : Type 0} (word : List ℕ → Option A) (other_word : List ℕ → Option B) (third_word : List ℕ → Option C) (said : A → B → C → Option ScriptLine)
    → ((a : A) (b : B) (c : C) → SaysFitting (said a b c)) → AllFit (with_three_words word other_word third_word said)
three_all word other_word third_word said fits [] = none_fits
three_all word other_word third_word said fits (one ∷ more) =
    then_fits (λ a. with_two_words other_word third_word (said a) more) (λ a. two_all other_word third_word (said a) (fits a) more) (word one)

abbrev AreFitting : List (List ℕ × (List (List ℕ) → Option ScriptLine)) → Type 0
AreFitting = AllByRecursion (λ command. AllFit command.1)

putting_all : (verb : Verb) → AllFit (with_three_words hex_word hex_word policy_named (putting_with verb))
putting_all verb = three_all hex_word hex_word policy_named (putting_with verb) (λ name key policy. asking_fits (Put verb name (key, Some (policy_byte policy))))

verbs_fit : AreFitting verbs
verbs_fit = (
  two_all hex_word hex_word (λ name key. asking (Put Register name (key, None))) (λ name key. asking_fits (Put Register name (key, None))),
  (
    two_all hex_word hex_word (λ name key. asking (Put Change name (key, None))) (λ name key. asking_fits (Put Change name (key, None))),
    (
      putting_all Register,
      (
        putting_all Change,
        (
          one_all hex_word (λ name. asking (Query (Promise name))) (λ name. asking_fits (Query (Promise name))),
          (
            one_all epoch_word (λ epoch. asking (Turn token epoch None)) (λ epoch. asking_fits (Turn token epoch None)),
            (
              two_all epoch_word hex32 (λ epoch nonce. asking (Turn token epoch (Some nonce))) (λ epoch nonce. asking_fits (Turn token epoch (Some nonce))),
              (
                none_all (asking (Query Head)) (asking_fits (Query Head)),
                (
                  two_all hex_word epoch_word (λ name epoch. asking (Query (Lookup name epoch))) (λ name epoch. asking_fits (Query (Lookup name epoch))),
                  (
                    two_all epoch_word count_word (λ from count. asking (Query (History from count))) (λ from count. asking_fits (Query (History from count))),
                    (
                      two_all hex_word hex_word watching watching_fits,
                      (
                        three_all hex_word hex_word policy_named watching_with watching_with_fits,
                        (
                          two_all session_word hex_word (λ session piece. Some (Piece session piece)) (λ session piece. own_fits (Piece session piece) tt),
                          (
                            one_all session_word (λ session. Some (End session)) (λ session. own_fits (End session) tt),
                            tt,
                          ),
                        ),
                      ),
                    ),
                  ),
                ),
              ),
            ),
          ),
        ),
      ),
    ),
  ),
)

among_fits : (all : List (List ℕ × (List (List ℕ) → Option ScriptLine))) (verb : List ℕ) → AreFitting all → AllFit (said_among all verb)
among_fits [] verb are behind = none_fits
among_fits (command ∷ more) verb are behind = by (bytes_eq verb command.0) (among_fits more verb are.1 behind)
  where
    by : (b : Bool) → SaysFitting (said_among more verb behind) → SaysFitting (cond b (command.1 behind) (said_among more verb behind))
    by true next = are.0 behind
    by false next = next

words_fit : AllFit line_of_words
words_fit [] = none_fits
words_fit (verb ∷ behind) = among_fits verbs verb verbs_fit behind

-- what a line says fits
pub line_fits : (bytes : List ℕ) (line : ScriptLine) → line_of bytes ≡ Some line → LineFits line
line_fits [] line e = own_fits Pass tt line e
line_fits (byte ∷ bytes) line e = by (nat_eq byte 35) line e
  where
    by : (b : Bool) → SaysFitting (cond b (Some Pass) (line_of_words (words (byte ∷ bytes))))
    by true = own_fits Pass tt
    by false = words_fit (words (byte ∷ bytes))
