-- What a line of a script says (the form is this directory's own), and what is seen of one that was read.
use Rattle.std.specs.Prelude.{ℕ, ◌≤◌, ◌^◌, ◌-◌, ◌==◌, ◌&&◌, nat_le, if◌then◌else◌, List, [], ◌∷◌, Option, Some, None, codes, decimal, option_and_then, option_map, replicate, ⊤}
use Rattle.std.specs.Int.NonZero.{non_zero_u32_get}
use Rattle.std.specs.List.{slice_split}
use Rattle.std.specs.Str.{byte, bytes_eq}
use Rattle.std.specs.Result.{result_ok}
use Rattle.std.specs.Str.Parse.{digits_value}
use Rattle.hex.specs.Hex.{decode_of}
use Rattle.textio.specs.Digits.{hex32}
use Rattle.commands.specs.declared.edit.Verb.{Verb}
use Rattle.commands.specs.declared.edit.Verb.TheVariants.{Register, Change}
use Rattle.commands.specs.Operations.{Promise, Lookup, History, Head}
use Rattle.encoding.specs.Policies.{policy_byte, policy_named}
use Rattle.encoding.specs.declared.bounded.TheConstants.{MIN_LEN}
use Rattle.encoding.specs.declared.bound_key.BoundKey.{BoundKey}
use Rattle.encoding.specs.declared.policy.Policy.{Policy}
use Rattle.encoding.specs.declared.key_data.TheConstants.{MAX_KEY_DATA_LEN}
use Rattle.encoding.specs.declared.name.TheConstants.{MAX_NAME_LEN}
use Rattle.wire.specs.declared.frame.TheConstants.{MAX_FRAME_LEN}
use Rattle.wire.specs.Frames.{frame_size}
use Rattle.wire.specs.Requests.{RequestContent, Query, Put, Turn, request_frame}
use Rattle.book.specs.Steps.{has_length_within}
use Rattle.play.specs.declared.ask.Ask.{Ask as AskMade}
use Rattle.play.specs.declared.ask.Ask.TheVariants as ask
use Rattle.play.specs.declared.engine.TheConstants.{OWN_SESSION}
use Rattle.play.specs.declared.line.Line.{Line as LineMade}
use Rattle.play.specs.declared.line.Line.TheVariants as line

pub data ScriptLine : Type 0 where
  -- nothing: the line is empty, or a note
  Pass : ScriptLine
  -- ask the directory, through session 0
  Ask : RequestContent → ScriptLine
  -- a monitor of this name, whose owner expects this key, with its policy if it has one, or no key
  Watch : List ℕ → Option BoundKey → ScriptLine
  -- a piece of this session's stream
  Piece : ℕ → List ℕ → ScriptLine
  -- this session ends
  End : ℕ → ScriptLine

-- the token of the operator
abbrev pub token : List ℕ
token = replicate 32 0

-- ---- words

-- the words of a line, which one space parts
abbrev pub words : List ℕ → List (List ℕ)
words = slice_split (λ it. it == byte " ")

-- bytes in hexadecimal digits of either case, or `-` for none
abbrev pub hex_word : List ℕ → Option (List ℕ)
hex_word [] = None
hex_word (digit ∷ digits) = if bytes_eq (digit ∷ digits) (codes "-") then Some [] else result_ok (decode_of (digit ∷ digits))

-- a number in decimal digits with no zero in front, at most this
abbrev pub number_word : ℕ → List ℕ → Option ℕ
number_word most word = let number = digits_value 10 word in if bytes_eq word (decimal number) && nat_le number most then Some number else None

abbrev pub epoch_word : List ℕ → Option ℕ
epoch_word = number_word (2 ^ 64 - 1)

abbrev pub count_word : List ℕ → Option ℕ
count_word = number_word (2 ^ 16 - 1)

-- the number of a session other than the script's own, 0
abbrev pub session_word : List ℕ → Option ℕ
session_word word = option_and_then (λ session. if session == OWN_SESSION then None else Some session) (number_word (2 ^ 32 - 1) word)

-- ---- what the words behind a command say

abbrev pub with_no_word : Option ScriptLine → List (List ℕ) → Option ScriptLine
with_no_word said [] = said
with_no_word said (_ ∷ _) = None

abbrev pub with_one_word : {A : Type 0} → (List ℕ → Option A) → (A → Option ScriptLine) → List (List ℕ) → Option ScriptLine
with_one_word word said [] = None
with_one_word word said (one ∷ []) = option_and_then said (word one)
with_one_word word said (_ ∷ _ ∷ _) = None

abbrev pub with_two_words : {A B : Type 0} → (List ℕ → Option A) → (List ℕ → Option B) → (A → B → Option ScriptLine) → List (List ℕ) → Option ScriptLine
with_two_words word other_word said [] = None
with_two_words word other_word said (_ ∷ []) = None
with_two_words word other_word said (one ∷ other ∷ []) = option_and_then (λ a. option_and_then (said a) (other_word other)) (word one)
with_two_words word other_word said (_ ∷ _ ∷ _ ∷ _) = None

abbrev pub with_three_words : {A B C : Type 0} → (List ℕ → Option A) → (List ℕ → Option B) → (List ℕ → Option C) → (A → B → C → Option ScriptLine) → List (List ℕ) → Option ScriptLine
with_three_words word other_word third_word said [] = None
with_three_words word other_word third_word said (one ∷ more) = option_and_then (λ a. with_two_words other_word third_word (said a) more) (word one)

-- a request that a frame can hold
abbrev pub asking : RequestContent → Option ScriptLine
asking requested = if nat_le (frame_size (request_frame requested)) MAX_FRAME_LEN then Some (Ask requested) else None

abbrev pub key_or_none : List ℕ → Option BoundKey
key_or_none [] = None
key_or_none (first ∷ more) = Some (record { value = first ∷ more; policy = None })

-- a name and a key of lengths that are allowed, or no key
abbrev pub watching : List ℕ → List ℕ → Option ScriptLine
watching name key = if has_length_within MIN_LEN MAX_NAME_LEN name && has_length_within 0 MAX_KEY_DATA_LEN key then Some (Watch name (key_or_none key)) else None

-- a name and a key of lengths that are allowed, and a policy
abbrev pub watching_with : List ℕ → List ℕ → Policy → Option ScriptLine
watching_with name key policy =
    if has_length_within MIN_LEN MAX_NAME_LEN name && has_length_within MIN_LEN MAX_KEY_DATA_LEN key then Some (Watch name (Some (record { value = key; policy = Some policy }))) else None

-- a registration or a change, with a policy
abbrev pub putting_with : Verb → List ℕ → List ℕ → Policy → Option ScriptLine
putting_with verb name key policy = asking (Put verb name (key, Some (policy_byte policy)))

-- ---- lines

-- the first word of each command that asks nothing, and what the words behind it say
abbrev pub other_verbs : List (List ℕ × (List (List ℕ) → Option ScriptLine))
other_verbs =
    (codes "watch", with_two_words hex_word hex_word watching)
    ∷ (codes "watch2", with_three_words hex_word hex_word policy_named watching_with)
    ∷ (codes "bytes", with_two_words session_word hex_word (λ session piece. Some (Piece session piece)))
    ∷ (codes "end", with_one_word session_word (λ session. Some (End session)))
    ∷ []

-- the same of each command
abbrev pub verbs : List (List ℕ × (List (List ℕ) → Option ScriptLine))
verbs =
    (codes "register", with_two_words hex_word hex_word (λ name key. asking (Put Register name (key, None))))
    ∷ (codes "change", with_two_words hex_word hex_word (λ name key. asking (Put Change name (key, None))))
    ∷ (codes "register2", with_three_words hex_word hex_word policy_named (putting_with Register))
    ∷ (codes "change2", with_three_words hex_word hex_word policy_named (putting_with Change))
    ∷ (codes "promise", with_one_word hex_word (λ name. asking (Query (Promise name))))
    ∷ (codes "close", with_one_word epoch_word (λ epoch. asking (Turn token epoch None)))
    ∷ (codes "rotate", with_two_words epoch_word hex32 (λ epoch nonce. asking (Turn token epoch (Some nonce))))
    ∷ (codes "head", with_no_word (asking (Query Head)))
    ∷ (codes "lookup", with_two_words hex_word epoch_word (λ name epoch. asking (Query (Lookup name epoch))))
    ∷ (codes "history", with_two_words epoch_word count_word (λ from count. asking (Query (History from count))))
    ∷ other_verbs

-- the command of these that the verb names, with the words behind it
abbrev pub said_among : List (List ℕ × (List (List ℕ) → Option ScriptLine)) → List ℕ → List (List ℕ) → Option ScriptLine
said_among [] verb behind = None
said_among (command ∷ more) verb behind = if bytes_eq verb command.0 then command.1 behind else said_among more verb behind

abbrev pub line_of_words : List (List ℕ) → Option ScriptLine
line_of_words [] = None
line_of_words (verb ∷ behind) = said_among verbs verb behind

-- what a line says, or none where it is no command; `#` begins a note
abbrev pub line_of : List ℕ → Option ScriptLine
line_of [] = Some Pass
line_of (first ∷ more) = if first == byte "#" then Some Pass else line_of_words (words (first ∷ more))

-- ---- lines that were read, regardless of where their bytes lie

abbrev pub ask_seen : AskMade → RequestContent
ask_seen (ask.Put verb name key policy) = Put verb name.items (key.items, policy)
ask_seen (ask.Promise name) = Query (Promise name.items)
ask_seen (ask.Lookup name epoch) = Query (Lookup name.items epoch)
ask_seen (ask.History from count) = Query (History from count)
ask_seen ask.Head = Query Head
ask_seen (ask.Turn epoch nonce) = Turn token epoch nonce

-- the request, where it has a token, with this token of the operator
abbrev pub with_token : List ℕ → RequestContent → RequestContent
with_token given (Turn other epoch nonce) = Turn given epoch nonce
with_token given requested = requested

abbrev pub line_seen : LineMade → ScriptLine
line_seen line.Pass = Pass
line_seen (line.Ask asked) = Ask (ask_seen asked)
line_seen (line.Watch name key) = Watch name key
line_seen (line.Piece session piece) = Piece (non_zero_u32_get session) piece.items
line_seen (line.End session) = End (non_zero_u32_get session)

-- a frame has room for the request
abbrev pub RequestFits : RequestContent → Type 0
RequestFits requested = frame_size (request_frame requested) ≤ MAX_FRAME_LEN

-- and for what a line asks
abbrev pub LineFits : ScriptLine → Type 0
LineFits Pass = ⊤
LineFits (Ask requested) = RequestFits requested
LineFits (Watch name start) = ⊤
LineFits (Piece session piece) = ⊤
LineFits (End session) = ⊤

-- the words that are left of a line, in the text behind the words before them, if there is one
abbrev pub words_behind : Option (List ℕ) → List (List ℕ)
words_behind None = []
words_behind (Some text) = words text

-- a word alone, and two words
abbrev pub one_of : List (List ℕ) → Option (List ℕ)
one_of [] = None
one_of (one ∷ []) = Some one
one_of (_ ∷ _ ∷ _) = None

abbrev pub two_of : List (List ℕ) → Option (List ℕ × List ℕ)
two_of [] = None
two_of (_ ∷ []) = None
two_of (one ∷ other ∷ []) = Some (one, other)
two_of (_ ∷ _ ∷ _ ∷ _) = None

abbrev pub three_of : List (List ℕ) → Option (List ℕ × List ℕ × List ℕ)
three_of [] = None
three_of (one ∷ more) = option_map (λ (both : List ℕ × List ℕ). (one, both.0, both.1)) (two_of more)

-- the line that asks it
abbrev pub asked_line : AskMade → ScriptLine
asked_line asked = Ask (ask_seen asked)
