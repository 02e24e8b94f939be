-- Keys that stand in a file. A line gives the option that it names a value. A file has the provider's public keys alone,
-- or keys of which some are secret. No clause knows which bytes the file of a path has: it speaks of the faults, and of the
-- text of some file.
use Rattle.std.specs.Prelude.{◌≡◌, ◌⊎◌, ◌==◌, ◌&&◌, ◌||◌, ℕ, Bool, true, List, [], ◌∷◌, All, Option, None, Some, Result, Err, IsUtf8, codes, is_some, if◌then◌else◌, unwrap_or}
use Rattle.std.specs.List.{after_first, before_first}
use Rattle.std.specs.Io.KnownBytes.{Appends, Keeps}
use Rattle.std.specs.Str.{bytes_eq}
use Rattle.std.specs.Str.Lines.{lines}
use Rattle.textio.specs.Digits.{hex32}
use Rattle.textio.specs.declared.program_fault.ProgramFault.{ProgramFault}
use Rattle.textio.specs.declared.program_fault.ProgramFault.TheVariants.{BadHex, CannotWrite}
use Rattle.textio.specs.Faults.{IsDeviceFault}
use Rattle.textio.specs.Output.{WritesBeginning, WritesSome}
use Rattle.files.specs.Telling.{file_line, TellsError}
use Rattle.clap.specs.Words.{Text}
use Rattle.server.specs.DirectoryOptions.{DirectoryOptions}
use Rattle.runs.specs.AskOptions.{AskOptions}
use Rattle.directoryd.specs.declared.keys.KeysKind.{KeysKind}
use Rattle.directoryd.specs.declared.keys.KeysKind.TheVariants.{Public, Secret}

-- what stands before the first space of a line, the name of an option
abbrev pub name_in : Text → Text
name_in line = before_first (λ byte. byte == 32) line

-- what stands behind it, the option's value; nothing where there is no space
abbrev pub value_in : Text → Text
value_in line = after_first (λ byte. byte == 32) line

-- whether a line is a name, a space and 64 hexadecimal digits
abbrev pub is_key_line : Text → Bool
is_key_line line = is_some (hex32 (value_in line))

-- whether it gives a value to the option of this name
abbrev pub gives : Text → Text → Bool
gives option line = is_key_line line && bytes_eq (name_in line) option

-- the value that lines give an option: of those that name it the first counts, and those that name another
-- are passed over
abbrev pub key_among : Text → List Text → Option Text
key_among option [] = None
key_among option (line ∷ more) = if gives option line then Some (value_in line) else key_among option more

-- the value that a text gives an option
abbrev pub key_in : Text → Text → Option Text
key_in text option = key_among option (lines text)

-- each line of a text is a name, a space and 64 hexadecimal digits
abbrev pub HasKeyLines : Text → Type 0
HasKeyLines text = All (λ line. is_key_line line ≡ true) (lines text)

-- the bytes of a file of keys: UTF-8, in such lines
abbrev pub IsKeysFile : List ℕ → Type 0
IsKeysFile bytes = IsUtf8 bytes × HasKeyLines bytes

-- a text gives the provider's public key
abbrev pub has_provider : Text → Bool
has_provider text = is_some (key_in text (codes "provider"))

-- a text gives a secret key
abbrev pub has_secrets : Text → Bool
has_secrets text = ((is_some (key_in text (codes "sign-key")) || is_some (key_in text (codes "vuf-key"))) || is_some (key_in text (codes "salt-key"))) || is_some (key_in text (codes "token"))

-- what is said of a text that is not of the kind that is wanted
abbrev pub complaint : KeysKind → Text → Option Text
complaint Public text = if has_secrets text then Some (codes "has secret keys") else (if has_provider text then None else Some (codes "has no public key"))
complaint Secret text = if has_secrets text then None else (if has_provider text then Some (codes "has public keys alone") else None)

-- the text of the file of keys of this kind, where there is one; else no text
abbrev pub IsKeysText : KeysKind → Option Text → Text → Type 0
IsKeysText kind None text = text ≡ []
IsKeysText kind (Some path) text = IsKeysFile text × (complaint kind text ≡ None)

-- the option that a file of this kind is given to, as a line about it begins
abbrev pub option_of : KeysKind → Text
option_of Public = codes "provider: "
option_of Secret = codes "keys: "

-- the line about the file of a path of which something is said
abbrev pub complaint_line : KeysKind → Text → Text → List ℕ
complaint_line kind path what = file_line (option_of kind) path what

-- the file of a path is no file of keys; or it cannot be read, and a line may say what the system said of it
abbrev pub IsNotRead : KeysKind → Text → ProgramFault → Option (List ℕ) → Option (List ℕ) → Type 0
IsNotRead kind path fault err err-new = ((fault ≡ BadHex) × Keeps err err-new) ⊎ (IsDeviceFault fault × TellsError (option_of kind) path err err-new)

-- A line is written to the errors, and this is the fault behind it; or less of the line if a write failed.
abbrev pub TellsLine : List ℕ → ProgramFault → Option (List ℕ) → Option (List ℕ) → Type 0
TellsLine line fault err err-new = ((fault ≡ BadHex) × Appends err err-new line) ⊎ ((fault ≡ CannotWrite) × WritesBeginning err err-new line)

-- The file of a path is not taken: it cannot be read, or is no file of keys; or it is not of this kind, as a line says.
abbrev pub RefusesFile : KeysKind → Text → ProgramFault → Option (List ℕ) → Option (List ℕ) → Type 0
RefusesFile kind path fault err err-new = IsNotRead kind path fault err err-new
    ⊎ ((text what : Text) × IsKeysFile text × (complaint kind text ≡ Some what) × TellsLine (complaint_line kind path what) fault err err-new)

-- so for a path that may be there
abbrev pub RefusesKeys : KeysKind → Option Text → ProgramFault → Option (List ℕ) → Option (List ℕ) → Type 0
RefusesKeys kind None fault err err-new = ⊥
RefusesKeys kind (Some path) fault err err-new = RefusesFile kind path fault err err-new

-- An option wins over the file, unless its text is empty: then it counts as not given, if the file has it.
abbrev pub text_or : Text → Option Text → Text
text_or [] kept = unwrap_or kept []
text_or (byte ∷ more) kept = byte ∷ more

abbrev pub option_or : Option Text → Option Text → Option Text
option_or (Some given) kept = Some (text_or given kept)
option_or None kept = kept

-- the options of a directory that are used, of those that were asked and the text of a file of keys
abbrev pub directory_with : Text → DirectoryOptions → DirectoryOptions
directory_with file asked = record {
  signing_key = text_or asked.signing_key (key_in file (codes "sign-key"));
  vuf_key = text_or asked.vuf_key (key_in file (codes "vuf-key"));
  salt_key = text_or asked.salt_key (key_in file (codes "salt-key"));
  token = text_or asked.token (key_in file (codes "token"));
  epoch = asked.epoch;
  nonce = option_or asked.nonce (key_in file (codes "nonce"));
  journal = asked.journal;
}

-- the same of what is asked of a directory
abbrev pub ask_with : Text → AskOptions → AskOptions
ask_with file asked = record {
  signing_key = text_or asked.signing_key (key_in file (codes "provider"));
  token = option_or asked.token (key_in file (codes "token"));
  state = asked.state;
  address = asked.address;
  words = asked.words;
  after = asked.after;
}

-- the public key in a provider's file, put to what is asked of a directory
abbrev pub provided : Text → AskOptions → AskOptions
provided file asked = record asked { signing_key = text_or asked.signing_key (key_in file (codes "provider")) }

-- without a file the options are those that were asked; with one, the text of some file of keys of this kind is put to them
abbrev pub Uses : {A : Type 0} → KeysKind → (Text → A → A) → Option Text → A → A → Type 0
Uses kind with_text None asked used = used ≡ asked
Uses kind with_text (Some path) asked used = (file : Text) × IsKeysFile file × (complaint kind file ≡ None) × (used ≡ with_text file asked)

-- a file of keys is not taken, and this is what the errors get
abbrev pub HasNoKeys : {A : Type 0} → KeysKind → Option Text → Option (List ℕ) → Option (List ℕ) → Result A ProgramFault → Type 0
HasNoKeys kind keys err err-new outcome = (fault : ProgramFault) × (outcome ≡ Err fault) × RefusesKeys kind keys fault err err-new

-- the line about the text of a key that cannot be used, where it is missing, and where it is not 64 hexadecimal digits
abbrev pub no_key_line : List ℕ → List ℕ → Text → Option (List ℕ)
no_key_line missing wrong [] = Some missing
no_key_line missing wrong (byte ∷ more) = if is_some (hex32 (byte ∷ more)) then None else Some wrong

-- the first line, or the other if there is none
abbrev pub or_else : Option (List ℕ) → Option (List ℕ) → Option (List ℕ)
or_else None other = other
or_else (Some line) other = Some line

-- the line about a text that may be left out
abbrev pub option_line : List ℕ → List ℕ → Option Text → Option (List ℕ)
option_line missing wrong None = None
option_line missing wrong (Some text) = no_key_line missing wrong text

-- the line about the first key of these options that cannot be used
abbrev pub unusable_line : DirectoryOptions → Option (List ℕ)
unusable_line asked =
    or_else (or_else (or_else (or_else (no_key_line (codes "sign-key is missing\n") (codes "sign-key is not 64 hexadecimal digits\n") asked.signing_key)
    (no_key_line (codes "vuf-key is missing\n") (codes "vuf-key is not 64 hexadecimal digits\n") asked.vuf_key))
    (no_key_line (codes "salt-key is missing\n") (codes "salt-key is not 64 hexadecimal digits\n") asked.salt_key))
    (no_key_line (codes "token is missing\n") (codes "token is not 64 hexadecimal digits\n") asked.token))
    (option_line (codes "nonce is missing\n") (codes "nonce is not 64 hexadecimal digits\n") asked.nonce)

-- the same of what is asked of a directory
abbrev pub unusable_ask : AskOptions → Option (List ℕ)
unusable_ask asked =
    or_else (no_key_line (codes "provider is missing\n") (codes "provider is not 64 hexadecimal digits\n") asked.signing_key)
    (option_line (codes "token is missing\n") (codes "token is not 64 hexadecimal digits\n") asked.token)

-- such a line is told, or less of it if a write failed, and the fault comes behind it
abbrev pub RefusesKey : List ℕ → ProgramFault → Option (List ℕ) → Option (List ℕ) → Type 0
RefusesKey line fault err err-new = (fault ≡ BadHex) × WritesSome err err-new line
